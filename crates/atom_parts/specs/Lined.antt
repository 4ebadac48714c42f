-- What atom_concat/3 and sub_atom/5 give for the terms at places, and from a line of their table on.
use Rattle.std.specs.Prelude.{◌≡◌, ◌≤◌, ℕ, List, [], take, length, Option, codes}
use Rattle.std.specs.List.{Contains}
use Rattle.pl_term.specs.Texts.{size}
use Rattle.pl_term.specs.Tree.{Chars, Trees, atom}
use Rattle.pl_model.specs.AtomBuiltins.{concatenates, five, sub_atoms}
use Rattle.pl_model.specs.BuiltinRows as defined
use Rattle.pl_model.specs.BuiltinRows.{Answer, table}
use Rattle.pl_model.specs.History.{Proc, proc}
use Rattle.pl_model.specs.TermBuiltins.{three}
use Rattle.atom_api.specs.Names.{Names}
use Rattle.term_store.specs.declared.words.Place.{Place}
use Rattle.term_store.specs.Contents.{Contents}
use Rattle.world_api.specs.Gains.{Gains}
use Rattle.world_builtins.specs.Spelling.{reads}
use Rattle.builtin_rows.specs.declared.row.Row.{Row}
use Rattle.builtin_rows.specs.Given.{given_texts, lined}
use Rattle.builtin_rows.specs.Rows.{IsRow}
use Rattle.atom_parts.specs.declared.splits.Splits.{Splits}
use Rattle.atom_parts.specs.declared.parts.Parts.{Parts}
use Rattle.atom_parts.specs.Columns.{wanted_tree}

abbrev pub atom_concat_proc : Proc
atom_concat_proc = proc (codes "atom_concat") 3

abbrev pub sub_atom_proc : Proc
sub_atom_proc = proc (codes "sub_atom") 5

-- The terms at places.
abbrev pub three_at : Names → Contents → Place → Place → Place → Trees
three_at m s p q r = three (reads m s p) (reads m s q) (reads m s r)

abbrev pub five_at : Names → Contents → Place → Place → Place → Place → Place → Trees
five_at m s p q r t u = five (reads m s p) (reads m s q) (reads m s r) (reads m s t) (reads m s u)

-- The rows of the definition for them.
abbrev pub concatenation_at : Names → Contents → Place → Place → Place → defined.Row
concatenation_at m s p q r = concatenates (reads m s p) (reads m s q) (reads m s r)

abbrev pub sub_atoms_at : Names → Contents → Place → Place → Place → Place → Place → defined.Row
sub_atoms_at m s p q r t u = sub_atoms (reads m s p) (reads m s q) (reads m s r) (reads m s t) (reads m s u)

-- The lines of a row that is a table.
abbrev pub lines_in : defined.Row → List Answer
lines_in (table xs) = xs
lines_in r = []

-- The row of places stands for what the lines of a table give from one on. Nothing has changed in the store.
abbrev pub IsFromLine : Contents → Trees → List Answer → ℕ → Names → Row → Type 0
IsFromLine s ts xs line n r = (next : ℕ) → IsRow s next ts (lined ts xs line) n s r

-- The texts that were asked of the atoms since stand in those answers.
abbrev pub AsksFromLine : Trees → List Answer → ℕ → Option (List Chars) → Option (List Chars) → Type 0
AsksFromLine ts xs line old new = Gains (Contains (given_texts (lined ts xs line))) old new

-- What the arguments of atom_concat/3 want: the third is the atom of the first characters of the text.
pub record AreSplits (m : Names) (s : Contents) (first second whole : Place) (text : Chars) (w : Splits) : Type 0 where
  pub within : w.length ≤ length text
  pub small : w.length ≤ 248
  pub short : size (take w.length text) ≤ 248
  pub whole_is : reads m s whole ≡ atom (take w.length text)
  pub first_is : reads m s first ≡ wanted_tree text w.first
  pub second_is : reads m s second ≡ wanted_tree text w.second

-- What those of sub_atom/5 want: the first is that atom.
pub record AreParts (m : Names) (s : Contents) (whole before count after part : Place) (text : Chars) (w : Parts) : Type 0 where
  pub within : w.length ≤ length text
  pub small : w.length ≤ 248
  pub short : size (take w.length text) ≤ 248
  pub whole_is : reads m s whole ≡ atom (take w.length text)
  pub before_is : reads m s before ≡ wanted_tree text w.before
  pub count_is : reads m s count ≡ wanted_tree text w.count
  pub after_is : reads m s after ≡ wanted_tree text w.after
  pub part_is : reads m s part ≡ wanted_tree text w.part
