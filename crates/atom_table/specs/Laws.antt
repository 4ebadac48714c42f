-- What holds of the atoms that seats use, over every list of steps.
use Rattle.std.specs.Prelude.{◌≡◌, ℕ, zero, suc, false, List}
use mathlib.Core.Option.{some}
use lib.ListN.{get_elem?}
use Rattle.atom_words.specs.Board.{Board}
use Rattle.atom_words.specs.Rule.{Moves, Reached}
use Rattle.atom_words.specs.Laws.{Uses}
use Rattle.atom_words.specs.declared.size.Size.{Size}
use Rattle.atom_words.specs.declared.view.Held.{Held}
use Rattle.atom_words.specs.declared.view.View.{View}

-- some seat uses the slot with its text: it holds it, or counts it, or it is one of its fixed atoms
abbrev pub IsUsed : List View → Held → Type 0
IsUsed vs a = (i : ℕ) × (v : View) × (get_elem? vs i ≡ some v) × (v.gone ≡ false) × Uses v a

-- WHAT TWO SEATS USE is one slot exactly where it is one text
abbrev pub One : Size → Type 0
One z = (n : ℕ) (b : Board) (vs : List View) → Reached n z b vs → (a c : Held) → IsUsed vs a → IsUsed vs c → (a.slot ≡ c.slot → a.text ≡ c.text) × (a.text ≡ c.text → a.slot ≡ c.slot)

-- n steps lead from the words b0 and the views vs0 to b and vs, and after each of them some seat uses the slot k
abbrev pub Through : ℕ → Size → ℕ → Board → List View → Board → List View → Type 0
Through zero z k b0 vs0 b vs = (b ≡ b0) × (vs ≡ vs0)
Through (suc n) z k b0 vs0 b vs = (b1 : Board) × (vs1 : List View) × Through n z k b0 vs0 b1 vs1 × Moves z b1 vs1 b vs × ((a : Held) × (a.slot ≡ k) × IsUsed vs a)

-- AS LONG AS A SLOT IS USED, by whichever seats, its text stays
abbrev pub Lasts : Size → Type 0
Lasts z = (m n : ℕ) (b0 : Board) (vs0 : List View) (b : Board) (vs : List View) (a c : Held) → Reached m z b0 vs0 → IsUsed vs0 a → Through n z a.slot b0 vs0 b vs → IsUsed vs c → c.slot ≡ a.slot → c.text ≡ a.text
