-- Atoms that are made for an answer.
use Rattle.std.specs.Prelude.{◌≡◌, List, [], Some, Result, Ok, Err}
use Rattle.pl_term.specs.Tree.{Chars}
use Rattle.atom_words.specs.declared.view.Refusal.{Refusal}
use Rattle.atom_api.specs.Names.{Names}
use Rattle.builtin_rows.specs.declared.row.Row.{Row}
use Rattle.builtin_rows.specs.declared.row.Row.TheVariants.{NeedsAtoms, Retry, Worn}
use Rattle.builtin_rows.specs.Rows.{row_refusals}
use Rattle.builtin_atom.specs.declared.making.Made.{Made}
use Rattle.builtin_atom.specs.declared.making.Made.TheVariants.{Is, Refused}

-- The predicate is to be called again.
abbrev pub IsAgain : Row → Type 0
IsAgain (NeedsAtoms p) = Unit {0}
IsAgain (Retry c) = Unit {0}
IsAgain (Worn w) = Unit {0}
IsAgain r = ⊥

-- The atom of a text is held, or the predicate is to be called again.
abbrev pub IsMade : Names → Chars → Made → Type 0
IsMade n t (Is a) = n a ≡ Some t
IsMade n t (Refused r) = IsAgain r

-- The refusals of atoms that it hands on.
abbrev pub refusals_in : Made → List Refusal
refusals_in (Is a) = []
refusals_in (Refused r) = row_refusals r

abbrev pub made_refusals : {E : Type 0} → Result Made E → List Refusal
made_refusals (Ok d) = refusals_in d
made_refusals (Err e) = []
