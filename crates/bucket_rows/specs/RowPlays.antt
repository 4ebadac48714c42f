-- What each step of a change of rows tells its caller: of the step, the seat before, the number found (at a store, the number stored) and the seat after.
use Rattle.std.specs.Prelude.{◌≡◌, ◌≢◌, ◌^◌, ◌<◌, ◌≤◌, ℕ, Some, length}
use Rattle.atomic_table.specs.Table.{Me, Step}
use Rattle.atom_words.specs.Layout.{first_of, closed_of, version_of, worn, row_first}
use Rattle.atom_words.specs.Board.{link_at, head_at}
use Rattle.atom_words.specs.Kinds.{Picks, old_head, view_after}
use Rattle.atom_words.specs.declared.view.Held.{Held}
use Rattle.atom_words.specs.declared.view.Walk.{Walk}
use Rattle.atom_words.specs.declared.view.View.{View}
use Rattle.atom_words.specs.declared.kind.Kind.TheVariants.{Load, Start, Next, Aim, Sound, Close, Emptied, Pick, MoveHead, MoveLink, LeaveHead, LeaveLink, PublishRow, Publish}

abbrev Sat : Type 0
Sat = Me (Unit {0}) View

abbrev At : Type 0
At = Step (Unit {0})

-- THE WALK STANDS in the table or at the end, and where it is not at the end it has passed fewer slots than there are
abbrev pub Inside : View → Type 0
Inside v = (w : Walk) → v.walk ≡ Some w → (w.place ≤ v.size.slots) × (w.place ≢ 0 → length w.seen < v.size.slots)

-- CLOSING: the place of a row's first head tells which row is to be put in the place of the one in use, all whose heads are open. No chain of it is moved
abbrev pub row_aimed : At → Sat → ℕ → Sat → Type 0
row_aimed st m r m' = (m'.1 ≡ m.1) × (m.0.growing.moved ≡ 0) × (m.0.growing.moving ≡ 0) × ((row : ℕ) → 256 ≤ 2 ^ row → st.word ≡ head_at m.0.size (row_first row) → m'.0 ≡ view_after m.0 (Aim row))

-- the head that is to be closed next is open, and a walk begins there
abbrev pub next_traced : At → Sat → ℕ → Sat → Type 0
next_traced st m r m' = (m'.1 ≡ m.1) × (closed_of r ≡ 0) × ((h : ℕ) → st.word ≡ head_at m.0.size h → m'.0 ≡ view_after m.0 (Start h r))

-- it is closed, where it is still the word that the walk found; or it is open with a later version, and a walk begins there
abbrev pub head_closed : At → Sat → ℕ → Sat → Type 0
head_closed st m r m' = (m'.1 ≡ m.1) × ((h : ℕ) → st.word ≡ head_at m.0.size h → (r ≡ st.first → m'.0 ≡ view_after m.0 (Close h))
    × (r ≢ st.first → (version_of st.first < version_of r) × (closed_of r ≡ 0) × (m'.0 ≡ view_after m.0 (Start h r))))

-- the next head of the other row is not worn, or it is
abbrev pub head_sounded : At → Sat → ℕ → Sat → Type 0
head_sounded st m r m' = (m'.1 ≡ m.1) × (version_of r < worn → m'.0 ≡ view_after m.0 (Sound r)) × (worn ≤ version_of r → m'.0 ≡ view_after m.0 (Load st.word r))

-- MOVING: the chain that is to be moved next is empty; or a walk begins at its head
abbrev pub chain_looked : At → Sat → ℕ → Sat → Type 0
chain_looked st m r m' = (m'.1 ≡ m.1) × (first_of r ≡ 0 → m'.0 ≡ view_after m.0 Emptied) × (first_of r ≢ 0 → (m'.0 ≡ view_after m.0 (Start (old_head m.0.growing) r)) × Inside m'.0)

-- the walk goes on
abbrev pub paced : At → Sat → ℕ → Sat → Type 0
paced st m r m' = (m'.1 ≡ m.1) × (m'.0 ≡ view_after m.0 (Next r)) × Inside m'.0

-- the last slot of the chain is known, and the one before it
abbrev pub slot_picked : At → Sat → ℕ → Sat → Type 0
slot_picked st m r m' = (m'.1 ≡ m.1) × ((w : Walk) (a : Held) (before : ℕ) → m.0.walk ≡ Some w → Picks w a before → m'.0 ≡ view_after m.0 (Pick a before))

-- a walk begins at the head of its new chain, which is closed
abbrev pub chain_traced : At → Sat → ℕ → Sat → Type 0
chain_traced st m r m' = (m'.1 ≡ m.1) × (closed_of r ≡ 1) × ((h : ℕ) → st.word ≡ head_at m.0.size h → m'.0 ≡ view_after m.0 (Start h r)) × Inside m'.0

-- it is put there, as the first or behind the last slot; and taken off its old chain
abbrev pub put_at_head : At → Sat → ℕ → Sat → Type 0
put_at_head st m r m' = (m'.1 ≡ m.1) × ((h : ℕ) → st.word ≡ head_at m.0.size h → m'.0 ≡ view_after m.0 (MoveHead h))

abbrev pub put_at_link : At → Sat → ℕ → Sat → Type 0
put_at_link st m r m' = (m'.1 ≡ m.1) × ((q : ℕ) → st.word ≡ link_at m.0.size q → m'.0 ≡ view_after m.0 (MoveLink q))

abbrev pub left_head : At → Sat → ℕ → Sat → Type 0
left_head st m r m' = (m'.1 ≡ m.1) × ((h : ℕ) → st.word ≡ head_at m.0.size h → m'.0 ≡ view_after m.0 (LeaveHead h))

abbrev pub left_link : At → Sat → ℕ → Sat → Type 0
left_link st m r m' = (m'.1 ≡ m.1) × ((q : ℕ) → st.word ≡ link_at m.0.size q → m'.0 ≡ view_after m.0 (LeaveLink q))

-- OPENING: the row word names the row that was stored; a head is opened
abbrev pub row_published : At → Sat → ℕ → Sat → Type 0
row_published st m r m' = (m'.1 ≡ m.1) × (m'.0 ≡ view_after m.0 (PublishRow r))

abbrev pub head_opened : At → Sat → ℕ → Sat → Type 0
head_opened st m r m' = (m'.1 ≡ m.1) × ((h : ℕ) → st.word ≡ head_at m.0.size h → m'.0 ≡ view_after m.0 (Publish h))
