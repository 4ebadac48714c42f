-- What the calls say of a table and a seat.
use Rattle.std.specs.Prelude.{◌≡◌, ◌≢◌, ◌⊎◌, ℕ, ◌<◌, ◌≤◌, false, List, [], ◌∷◌, take, Option, Some, None, Result, Ok, Err}
use Rattle.atom_words.specs.Layout.{state_of, closed_of, version_of}
use Rattle.atom_words.specs.Texts.{padded}
use Rattle.atom_words.specs.Board.{atom_at, head_at}
use Rattle.atom_words.specs.Chains.{In}
use Rattle.atom_words.specs.Kinds.{Sitting, after}
use Rattle.atom_words.specs.declared.view.Held.{Held}
use Rattle.atom_words.specs.declared.view.Pass.{Pass}
use Rattle.atom_words.specs.declared.view.Refusal.{Refusal}
use Rattle.atom_words.specs.declared.view.Refusal.TheVariants.{Full}
use Rattle.atom_words.specs.declared.view.View.{View}
use Rattle.atom_words.specs.declared.kind.Kind.{Kind}
use Rattle.atom_words.specs.declared.kind.Kind.TheVariants.{Raise, Risen, Reserve, Load, Refused, Measure, PutWord, Fill}
use Rattle.atom_words.specs.declared.words.Words.{Words}
use Rattle.atom_words.specs.declared.words.AtomSeat.{AtomSeat}

-- the seat's view
abbrev pub seen : AtomSeat → View
seen s = s.seat.me.0

-- the seat is one of this table's, and no other seat has taken it in
abbrev pub Fits : Words → AtomSeat → Type 0
Fits w s = (s.seat.table_id ≡ w.table.shared.table_id) × ((seen s).size ≡ w.size) × ((seen s).gone ≡ false)

-- it is the same seat
abbrev pub Same : AtomSeat → AtomSeat → Type 0
Same s t = (t.seat.table_id ≡ s.seat.table_id) × (t.seat.id ≡ s.seat.id)

-- The steps of a reserve that takes the slot: a load finds it free, and then the exchange
abbrev pub Reserves : View → ℕ → View → Type 0
Reserves v k w = (x : ℕ) × (w ≡ after v (Load (atom_at v.size k) x ∷ Reserve k ∷ []))

-- The steps of a reserve that is refused with the word x: a load finds that the slot is not free; or it finds it free, and the exchange is lost
abbrev pub FindsTaken : View → ℕ → ℕ → View → Type 0
FindsTaken v k x w = ((state_of x ≢ 0) × (w ≡ after v (Refused k 0 x ∷ []))) ⊎ ((free : ℕ) × (x ≢ free) × (w ≡ after v (Load (atom_at v.size k) free ∷ Refused k free x ∷ [])))

-- the seat holds the slot with its text, or it is one of the fixed atoms
abbrev pub Has : View → Held → Type 0
Has v a = In a v.held ⊎ In a v.fixed

-- what a pass is answered with, as a refusal
abbrev pub answered : Option Pass → List Refusal
answered None = []
answered (Some p) = Full p ∷ []

-- the next word of the own slot's text is put: by a load that finds it there, or by a store after a load that found another
abbrev pub PutBy : ℕ → View → View → Type 0
PutBy x v w = (w ≡ after v (PutWord x ∷ [])) ⊎ ((i y : ℕ) × (y ≢ x) × (w ≡ after v (Load i y ∷ PutWord x ∷ [])))

-- THE STEPS THAT PUT WORDS, one after the other
abbrev pub Puts : List ℕ → View → View → Type 0
Puts [] v w = w ≡ v
Puts (x ∷ ws) v w = (u : View) × PutBy x v u × Puts ws u w

-- THE STEPS THAT PUT A TEXT with these 32 words: the first word that stands there is loaded, which tells how many words another text has left; so many words are put as either fills, or more; and the others are 0
abbrev pub PutsRow : List ℕ → View → View → Type 0
PutsRow row v w = (x n : ℕ) × (u : View) × Puts (take n row) (after v (Measure x ∷ [])) u × (w ≡ after u (Fill ∷ [])) × (padded (take n row) ≡ row)

-- a seat of this table
abbrev pub AtTable : Words → AtomSeat → Type 0
AtTable w s = s.seat.table_id ≡ w.table.shared.table_id

-- the view w is v, the steps made and the heads known to have risen aside
abbrev pub Unchanged : View → View → Type 0
Unchanged v w = (kinds : List Kind) × (n : ℕ) × (w ≡ record v { risen = n; made = kinds })

-- a seat that walks: it may hold slots, and is not the collector's
abbrev pub Walking : View → Type 0
Walking v = Sitting v × (v.sweep ≡ None)

-- The steps of a raise of a head's version: the head's word is loaded, and where its version is below the one that the table begins with, it is exchanged; or the head is closed, or that exchange is lost
abbrev pub Raises : ℕ → View → Result (Unit {0}) ℕ → View → Type 0
Raises h v (Ok _) w = (x : ℕ) × (((v.size.start ≤ version_of x) × (w ≡ after v (Risen h x ∷ []))) ⊎ ((version_of x < v.size.start) × (w ≡ after v (Load (head_at v.size h) x ∷ Raise h ∷ []))))
Raises h v (Err y) w = ((closed_of y ≢ 0) × (version_of y < v.size.start) × (w ≡ after v (Load (head_at v.size h) y ∷ []))) ⊎ ((x : ℕ) × (version_of x < v.size.start) × (y ≢ x) × (w ≡ after v (Load (head_at v.size h) x ∷ Load (head_at v.size h) y ∷ [])))
