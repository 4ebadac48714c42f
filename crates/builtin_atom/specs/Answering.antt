-- What predicates of two arguments give, as rows of places.
use Rattle.std.specs.Prelude.{ℕ, ◌+◌, ◌<◌, ◌^◌, List, Option}
use Rattle.std.specs.List.{Contains}
use Rattle.pl_term.specs.Tree.{Chars, Tree, Trees}
use Rattle.pl_model.specs.History.{Proc, proc}
use Rattle.pl_model.specs.BuiltinRows as defined
use Rattle.pl_model.specs.TermBuiltins.{two}
use Rattle.atom_api.specs.Names.{Names}
use Rattle.term_store.specs.declared.words.Place.{Place}
use Rattle.term_store.specs.Contents.{Contents}
use Rattle.world_api.specs.Gains.{Gains}
use Rattle.world_builtins.specs.Spelling.{reads}
use Rattle.builtin_rows.specs.declared.row.Row.{Row}
use Rattle.builtin_rows.specs.Given.{given, given_texts}
use Rattle.builtin_rows.specs.Rows.{IsRow}

-- Cells were taken.
abbrev pub charged : Contents → ℕ → Contents
charged s k = record s { used = s.used + k }

-- A row of places stands for a row of the definition, whatever the next number of a variable is.
abbrev pub IsRowOf : Contents → Proc → Trees → defined.Row → Names → Contents → Row → Type 0
IsRowOf s p ts row n t r = (next : ℕ) → next < 2 ^ 64 → IsRow s next ts (given p ts next s.used s.budget row) n t r

-- The terms at two places.
abbrev pub pair_at : Names → Contents → Place → Place → Trees
pair_at m s p q = two (reads m s p) (reads m s q)

-- What the predicate of two arguments with this name gives for the terms at two places, by its function of the definition.
abbrev pub Gives : Names → Contents → Chars → (Tree → Tree → defined.Row) → Place → Place → Names → Contents → Row → Type 0
Gives m s name by p q n t r = IsRowOf s (proc name 2) (pair_at m s p q) (by (reads m s p) (reads m s q)) n t r

-- The texts that were asked of the atoms since stand in the answer.
abbrev pub AsksFor : Contents → Proc → Trees → defined.Row → Option (List Chars) → Option (List Chars) → Type 0
AsksFor s p ts row old new = Gains (λ c. (next : ℕ) → next < 2 ^ 64 → Contains (given_texts (given p ts next s.used s.budget row)) c) old new

abbrev pub Asks : Names → Contents → Chars → (Tree → Tree → defined.Row) → Place → Place → Option (List Chars) → Option (List Chars) → Type 0
Asks m s name by p q old new = AsksFor s (proc name 2) (pair_at m s p q) (by (reads m s p) (reads m s q)) old new
