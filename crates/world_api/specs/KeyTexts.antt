-- Keys of first arguments over atoms, as keys in texts.
use Rattle.std.specs.Prelude.{ℕ}
use Rattle.pl_term.specs.Tree.{Chars}
use Rattle.pl_model.specs.declared.first_argument.FirstArgument.{FirstArgument}
use Rattle.pl_model.specs.declared.first_argument.FirstArgument.TheVariants as texts
use Rattle.term_store.specs.declared.argument_key.ArgumentKey.{ArgumentKey}
use Rattle.term_store.specs.declared.argument_key.ArgumentKey.TheVariants.{Any, Int, Atom, Compound}

abbrev pub key_in : (ℕ → Chars) → ArgumentKey → FirstArgument
key_in text Any = texts.Any
key_in text (Int i) = texts.Int i
key_in text (Atom a) = texts.Atom (text a)
key_in text (Compound f k) = texts.Compound (text f) k
