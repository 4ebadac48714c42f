-- What a change of rows leaves.
use Rattle.std.specs.Prelude.{◌≡◌, ℕ, ◌+◌, ◌^◌, ◌<◌, ◌≤◌, false, List, Some}
use mathlib.Core.Option.{some}
use lib.ListN.{get_elem?}
use Rattle.atom_words.specs.Layout.{state_of, first_of, closed_of, row_first}
use Rattle.atom_words.specs.Texts.{bucket}
use Rattle.atom_words.specs.Board.{Board, atom, head, text_of}
use Rattle.atom_words.specs.Chains.{In, Chain}
use Rattle.atom_words.specs.Kinds.{view_after, Does}
use Rattle.atom_words.specs.Rule.{Reached}
use Rattle.atom_words.specs.declared.size.Size.{Size}
use Rattle.atom_words.specs.declared.view.Sweeping.{Sweeping}
use Rattle.atom_words.specs.declared.view.View.{View}
use Rattle.atom_words.specs.declared.kind.Kind.{Kind}
use Rattle.bucket_rows.specs.RowChanges.{RowKind, Settled}

-- NO TEXT IS LOST: in every state that is reached, a valid slot whose text's bucket in the row in use is open stands in that bucket's chain
abbrev pub Stays : Size → Type 0
Stays z = (n : ℕ) (b : Board) (vs : List View) → Reached n z b vs → (k : ℕ) → state_of (atom b k) ≡ 3 → closed_of (head b (bucket b.row (text_of b.texts k))) ≡ 0
    → (ks : List ℕ) × Chain b.links (first_of (head b (bucket b.row (text_of b.texts k)))) ks × In k ks

-- THE ROW IN USE is what the collector knows, and where it knows that none of its heads is closed, just those are open
abbrev pub InUse : Size → Type 0
InUse z = (n : ℕ) (b : Board) (vs : List View) → Reached n z b vs → (id : ℕ) (v : View) (y : Sweeping) → get_elem? vs id ≡ some v → v.gone ≡ false → v.sweep ≡ Some y
    → (b.row ≡ v.growing.row) × (v.growing.shut ≡ 0 → (h : ℕ) → h < z.heads → (closed_of (head b h) ≡ 0 → (row_first b.row ≤ h) × (h < row_first b.row + 2 ^ b.row)) × ((row_first b.row ≤ h) × (h < row_first b.row + 2 ^ b.row) → closed_of (head b h) ≡ 0))

-- NO SLOT IS LET GO: a step of a change of rows leaves the states, marks and counts of all slots, their texts, the cycle, and what the seat holds and counts
abbrev pub Leaves : Size → Type 0
Leaves z = (b : Board) (v : View) (kind : Kind) (b' : Board) → RowKind kind → Does z b v kind b' → (b'.atoms ≡ b.atoms) × (b'.texts ≡ b.texts) × (b'.epoch ≡ b.epoch) × (b'.acks ≡ b.acks) × Settled v (view_after v kind)
