-- Lists of characters, or of their codes, which are made.
use Rattle.std.specs.Prelude.{◌≡◌, ℕ, List, [], ◌∷◌, map, Result, Ok, Err}
use Rattle.std.specs.List.{All}
use Rattle.pl_term.specs.Tree.{Chars}
use Rattle.atom_words.specs.declared.view.Refusal.{Refusal}
use Rattle.atom_api.specs.Names.{Names}
use Rattle.term_store.specs.declared.words.Place.{Place}
use Rattle.term_store.specs.Contents.{Contents, Holds}
use Rattle.world_builtins.specs.Naming.{IsHeldAt}
use Rattle.world_builtins.specs.Spelling.{reads}
use Rattle.builtin_rows.specs.Rows.{row_refusals}
use Rattle.builtin_atom.specs.declared.forms.Form.{Form}
use Rattle.builtin_atom.specs.declared.forms.Form.TheVariants.{Characters, Codes}
use Rattle.builtin_atom.specs.declared.listed.Element.{Element}
use Rattle.builtin_atom.specs.declared.listed.Element.TheVariants as element
use Rattle.builtin_atom.specs.declared.listed.Listed.{Listed}
use Rattle.builtin_atom.specs.declared.listed.Listed.TheVariants as listed
use Rattle.builtin_atom.specs.Forms.{to_by}
use Rattle.builtin_atom.specs.Making.{IsAgain}

-- The term for a character stands at a place, in every store.
pub record IsElementAt (form : Form) (n : Names) (c : ℕ) (p : Place) (s : Contents) : Type 0 where
  pub inside : Holds s p
  pub held : IsHeldAt n s p
  pub reads_as : reads n s p ≡ to_by form c

abbrev pub IsElement : Form → Names → ℕ → Element → Type 0
IsElement form n c (element.At p) = (s : Contents) → IsElementAt form n c p s
IsElement form n c (element.Refused r) = IsAgain r

-- The terms for the characters of a text stand at places, in every store.
pub record AreListedAt (form : Form) (n : Names) (cs : Chars) (ps : List Place) (s : Contents) : Type 0 where
  pub inside : All (Holds s) ps
  pub held : All (IsHeldAt n s) ps
  pub read_as : map (reads n s) ps ≡ map (to_by form) cs

abbrev pub AreListed : Form → Names → Chars → Listed → Type 0
AreListed form n cs (listed.At ps) = (s : Contents) → AreListedAt form n cs ps.items s
AreListed form n cs (listed.Refused r) = IsAgain r

-- The refusals of atoms that they hand on.
abbrev pub refusals_at : Element → List Refusal
refusals_at (element.At p) = []
refusals_at (element.Refused r) = row_refusals r

abbrev pub element_refusals : {E : Type 0} → Result Element E → List Refusal
element_refusals (Ok e) = refusals_at e
element_refusals (Err e) = []

abbrev pub refusals_among : Listed → List Refusal
refusals_among (listed.At ps) = []
refusals_among (listed.Refused r) = row_refusals r

abbrev pub listed_refusals : {E : Type 0} → Result Listed E → List Refusal
listed_refusals (Ok l) = refusals_among l
listed_refusals (Err e) = []

-- The texts of the elements that are atoms.
abbrev pub element_texts : Form → Chars → List Chars
element_texts Characters cs = map (λ c. c ∷ []) cs
element_texts Codes cs = []
