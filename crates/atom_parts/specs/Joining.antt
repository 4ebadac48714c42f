-- What atom_concat/3 gives for two atoms.
use Rattle.std.specs.Prelude.{◌++◌}
use Rattle.pl_term.specs.Tree.{Tree, atom}
use Rattle.pl_model.specs.AtomBuiltins.{if_short}
use Rattle.pl_model.specs.BuiltinRows as defined
use Rattle.pl_model.specs.BuiltinRows.{one_answer}
use Rattle.pl_model.specs.Checks.{text_of_atom}
use Rattle.pl_model.specs.TermBuiltins.{three}
use Rattle.atom_api.specs.Names.{Names}
use Rattle.term_store.specs.declared.words.Place.{Place}
use Rattle.term_store.specs.Contents.{Contents}
use Rattle.world_builtins.specs.Spelling.{reads}

abbrev pub joined_row : Tree → Tree → defined.Row
joined_row a b = if_short (text_of_atom a ++ text_of_atom b) (one_answer (three a b (atom (text_of_atom a ++ text_of_atom b))))

abbrev pub joined_at : Names → Contents → Place → Place → defined.Row
joined_at m s p q = joined_row (reads m s p) (reads m s q)
