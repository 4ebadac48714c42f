-- What each step tells its caller: of the step, the seat before, the number found (at a store, the number stored) and the seat after.
use Rattle.std.specs.Prelude.{◌≡◌, ◌≢◌, ◌%◌, ◌<◌, ◌≤◌, ℕ, false, List, Some}
use Rattle.atomic_table.specs.Table.{Me, Step}
use Rattle.atom_words.specs.Layout.{mark_of, version_of, last, epoch_of}
use Rattle.atom_words.specs.Board.{atom_at, link_at, head_at}
use Rattle.atom_words.specs.Kinds.{RowOk, view_after}
use Rattle.atom_words.specs.Plays.{Is}
use Rattle.atom_words.specs.declared.view.Held.{Held}
use Rattle.atom_words.specs.declared.view.Sweeping.{Sweeping}
use Rattle.atom_words.specs.declared.view.View.{View}
use Rattle.atom_words.specs.declared.kind.Kind.TheVariants.{Load, Protect, Begin, Mark, Scan, Ack, Check, ToSweep, Start, Next, Look, Spell, Condemn, PassOver, Behind, UnlinkAt, UnlinkHead, Note, Bump, Past, Free, End}
use Rattle.bucket_rows.specs.Cycles.{Marks, Unmarked}
use Rattle.bucket_rows.specs.Treads.{Ahead}
use Rattle.bucket_rows.specs.Touches.{touch}

abbrev Sat : Type 0
Sat = Me (Unit {0}) View

abbrev At : Type 0
At = Step (Unit {0})

-- the epoch word is the one that the collector knows
abbrev pub word_known : At → Sat → ℕ → Sat → Type 0
word_known st m r m' = Is (Load st.word r) m m' × ((y : Sweeping) → m.0.sweep ≡ Some y → r ≡ y.word)

abbrev pub begun : At → Sat → ℕ → Sat → Type 0
begun st m r m' = Is Begin m m'

-- the cycle marks, and the engine has not acknowledged it: it goes on to hold those slots alone; or it does not mark, or the engine has. The engine has a word
abbrev pub mark_read : List Held → At → Sat → ℕ → Sat → Type 0
mark_read those st m r m' = (m'.1 ≡ m.1) × (m.0.cycle.engine ≤ m.0.size.engines) × (Marks m.0 r → m'.0 ≡ view_after m.0 (Mark r those)) × ((Marks m.0 r → ⊥) → Unmarked m.0 r × (m'.0 ≡ view_after m.0 (Load st.word r)))

-- a slot is marked: as one that is held, or a fixed one, or as any other
abbrev pub scanned : At → Sat → ℕ → Sat → Type 0
scanned st m r m' = (m'.1 ≡ m.1) × ((k : ℕ) → st.word ≡ atom_at m.0.size k → m'.0 ≡ view_after m.0 (touch m.0 k r))

abbrev pub acknowledged : At → Sat → ℕ → Sat → Type 0
acknowledged st m r m' = Is Ack m m'

-- the engine that is checked next has acknowledged the cycle's epoch, or its word is another
abbrev pub engine_checked : At → Sat → ℕ → Sat → Type 0
engine_checked st m r m' = (m'.1 ≡ m.1) × ((y : Sweeping) → m.0.sweep ≡ Some y → (r ≡ epoch_of y.word → m'.0 ≡ view_after m.0 (Check y.checked)) × (r ≢ epoch_of y.word → m'.0 ≡ view_after m.0 (Load st.word r)))

abbrev pub turned : At → Sat → ℕ → Sat → Type 0
turned st m r m' = Is ToSweep m m'

-- the mark of a slot, which a walk is to set, is set already, and the slot is valid; or it is not so
abbrev pub mark_seen : At → Sat → ℕ → Sat → Type 0
mark_seen st m r m' = (m'.1 ≡ m.1) × ((k : ℕ) → st.word ≡ atom_at m.0.size k → (r % 8 ≡ 7 → m'.0 ≡ view_after m.0 (Protect k r)) × (r % 8 ≢ 7 → m'.0 ≡ view_after m.0 (Load st.word r)))

-- the row word names a row of the table, and is what the collector knows
abbrev pub row_read : At → Sat → ℕ → Sat → Type 0
row_read st m r m' = Is (Load 1 r) m m' × RowOk m.0.size r × ((y : Sweeping) → m.0.sweep ≡ Some y → m.0.growing.row ≡ r)

-- FOR THE SWEEP: the slot that the sweep has come to
abbrev pub looked : At → Sat → ℕ → Sat → Type 0
looked st m r m' = Is (Look r) m m'

abbrev pub text_read : At → Sat → ℕ → Sat → Type 0
text_read st m r m' = Is (Spell r) m m'

-- it is condemned, where its word was 3
abbrev pub condemned : At → Sat → ℕ → Sat → Type 0
condemned st m r m' = (m'.1 ≡ m.1) × (r ≡ 3 → m'.0 ≡ view_after m.0 Condemn) × (r ≢ 3 → m'.0 ≡ view_after m.0 (Load st.word r))

abbrev pub passed : At → Sat → ℕ → Sat → Type 0
passed st m r m' = Is (PassOver r) m m'

-- it is passed by a load, where it has no mark
abbrev pub unmarked_passed : At → Sat → ℕ → Sat → Type 0
unmarked_passed st m r m' = (m'.1 ≡ m.1) × (mark_of r ≡ 0 → m'.0 ≡ view_after m.0 (PassOver r)) × (mark_of r ≢ 0 → m'.0 ≡ view_after m.0 (Load st.word r))

-- the collector's walk begins; it goes on
abbrev pub traced : At → Sat → ℕ → Sat → Type 0
traced st m r m' = (m'.1 ≡ m.1) × ((h : ℕ) → st.word ≡ head_at m.0.size h → m'.0 ≡ view_after m.0 (Start h r)) × Ahead m'.0

abbrev pub trod : At → Sat → ℕ → Sat → Type 0
trod st m r m' = (m'.1 ≡ m.1) × (m'.0 ≡ view_after m.0 (Next r)) × Ahead m'.0

-- the dying slot's link word, which fits the 21 bits of a head
abbrev pub behind_read : At → Sat → ℕ → Sat → Type 0
behind_read st m r m' = (m'.1 ≡ m.1) × (m'.0 ≡ view_after m.0 (Behind r)) × (r < 2097152)

abbrev pub unlinked_at : At → Sat → ℕ → Sat → Type 0
unlinked_at st m r m' = (m'.1 ≡ m.1) × ((q : ℕ) → st.word ≡ link_at m.0.size q → m'.0 ≡ view_after m.0 (UnlinkAt q))

-- it is taken out as the first, where the head is still the word that the walk found; or the head has a later version, which is not the last, and a walk begins there
abbrev pub unlinked_head : At → Sat → ℕ → Sat → Type 0
unlinked_head st m r m' = (m'.1 ≡ m.1) × (r ≡ st.first → m'.0 ≡ view_after m.0 UnlinkHead)
    × (r ≢ st.first → (version_of st.first < version_of r) × (version_of r < last) × ((h : ℕ) → st.word ≡ head_at m.0.size h → m'.0 ≡ view_after m.0 (Start h r)) × Ahead m'.0)

-- the head's word, whose version is not the last until it has moved
abbrev pub head_noted : At → Sat → ℕ → Sat → Type 0
head_noted st m r m' = (m'.1 ≡ m.1) × (m'.0 ≡ view_after m.0 (Note r)) × ((y : Sweeping) → m.0.sweep ≡ Some y → y.past ≡ false → version_of r < last)

-- the head's version is moved, where the head is still the word noted; or it has moved since
abbrev pub bumped : At → Sat → ℕ → Sat → Type 0
bumped st m r m' = (m'.1 ≡ m.1) × (r ≡ st.first → m'.0 ≡ view_after m.0 Bump) × (r ≢ st.first → m'.0 ≡ view_after m.0 (Past r))

abbrev pub freed : At → Sat → ℕ → Sat → Type 0
freed st m r m' = Is Free m m'

abbrev pub ended : At → Sat → ℕ → Sat → Type 0
ended st m r m' = Is End m m'
