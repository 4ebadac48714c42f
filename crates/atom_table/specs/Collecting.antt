-- What the calls of a cycle of collection say.
use Rattle.std.specs.Prelude.{◌≡◌, ◌≢◌, ℕ, ◌+◌, ◌-◌, ◌<◌, ◌≤◌, Bool, true, false, List, [], ◌∷◌, ◌++◌, length, Option, Some, None, Ok, nat_lt, if◌then◌else◌}
use Rattle.std.specs.Option.{is_some}
use Rattle.atom_words.specs.Layout.{phase_of, epoch_of}
use Rattle.atom_words.specs.Chains.{In}
use Rattle.atom_words.specs.Kinds.{after, view_after}
use Rattle.atom_words.specs.Seats.{Has}
use Rattle.atom_words.specs.declared.view.Held.{Held}
use Rattle.atom_words.specs.declared.view.Sweeping.{Sweeping}
use Rattle.atom_words.specs.declared.view.View.{View}
use Rattle.atom_words.specs.declared.kind.Kind.{Kind}
use Rattle.atom_words.specs.declared.kind.Kind.TheVariants.{Load, Mark, Ack, End}
use Rattle.bucket_rows.specs.Touches.{touch}
use Rattle.bucket_rows.specs.Cycles.{Marks, Unmarked, BeginsBy, last_epoch}
use Rattle.bucket_rows.specs.declared.slots.Verdict.{Verdict}
use Rattle.bucket_rows.specs.Sweeps.{all_left_valid, Run}
use Rattle.atom_api.specs.Names.{Names, cut}
use Rattle.atom_table.specs.Naming.{those}
use Rattle.atom_table.specs.declared.marking.Marked.{Marked}
use Rattle.atom_table.specs.declared.marking.Marked.TheVariants.{Acked, NoCycle}
use Rattle.atom_table.specs.declared.collecting.Turn.{Turn}
use Rattle.atom_table.specs.declared.collecting.Turn.TheVariants.{Began, Running, Worn}
use Rattle.atom_table.specs.declared.sweeping.Swept.{Swept}
use Rattle.atom_table.specs.declared.sweeping.Swept.TheVariants.{At, Done}

-- one step for each slot of the list that the table has: a slot that is held, or a fixed one, is scanned, and another is protected; the words that were found come with it
abbrev pub scans : View → List ℕ → List ℕ → List Kind
scans v [] xs = []
scans v (k ∷ ks) [] = []
scans v (k ∷ ks) (x ∷ xs) = if nat_lt k v.size.slots then touch v k x ∷ scans v ks xs else scans v ks xs

-- THE STEPS OF TAKING PART IN A CYCLE: the epoch word is read. Where the cycle marks, and the engine has not acknowledged it, only the atoms of the list are held on, of those held, each of the list is marked, and the epoch is acknowledged
abbrev pub marking : ℕ → List ℕ → View → View
marking x live v = view_after v (Mark x (those live v.held))

abbrev pub AcksBy : List ℕ → View → Marked → View → Type 0
AcksBy live v (Acked e) w = (x : ℕ) × (xs : List ℕ) × Marks v x × (e ≡ epoch_of x) × (length xs ≡ length live) × (w ≡ after (marking x live v) (scans (marking x live v) live xs ++ Ack ∷ []))
AcksBy live v (NoCycle x) w = Unmarked v x × (w ≡ after v (Load 0 x ∷ []))

-- what is held after that: just the atoms of the list and the fixed ones, where the epoch was acknowledged, or what was held before
abbrev pub HoldsAfter : List ℕ → Names → Marked → Names → Type 0
HoldsAfter live m (Acked e) n = n ≡ cut live m
HoldsAfter live m (NoCycle x) n = n ≡ m

-- what the collector keeps at run time of its view: the epoch word, how many engines it found to have acknowledged, and the slot that the sweep has come to. Between its calls no slot is dying
abbrev pub word_known : ℕ → Option Sweeping → ℕ
word_known d None = d
word_known d (Some y) = y.word

abbrev pub count_known : ℕ → Option Sweeping → ℕ
count_known d None = d
count_known d (Some y) = y.checked

abbrev pub cursor_known : ℕ → Option Sweeping → ℕ
cursor_known d None = d
cursor_known d (Some y) = y.cursor

abbrev pub dying_known : Option Sweeping → ℕ
dying_known None = 0
dying_known (Some y) = y.dying

abbrev pub out_known : Option Sweeping → Bool
out_known None = false
out_known (Some y) = y.unlinked

abbrev pub Collects : View → ℕ → ℕ → ℕ → Type 0
Collects v word checked cursor = (is_some v.sweep ≡ true) × (word_known word v.sweep ≡ word) × (count_known checked v.sweep ≡ checked) × (checked ≤ v.size.engines)
    × (cursor_known cursor v.sweep ≡ cursor) × (cursor ≤ v.size.slots) × (dying_known v.sweep ≡ 0) × (out_known v.sweep ≡ false)

-- THE STEPS OF A CALL TO BEGIN, by the answer: a cycle begins, where none is at work and the epoch is not the last
abbrev pub TurnsBy : View → Turn → View → Type 0
TurnsBy v (Began e) w = BeginsBy v (Ok e) w
TurnsBy v (Running x) w = (phase_of x ≢ 0) × (w ≡ after v (Load 0 x ∷ []))
TurnsBy v (Worn x) w = (phase_of x ≡ 0) × (last_epoch ≤ epoch_of x) × (w ≡ after v (Load 0 x ∷ []))

-- THE STEPS OF A SWEEP OF m SLOTS from the slot k on, by the answer: the next m are swept, and the sweep has come to the slot n; or the slots that are left, which are m at most, and the cycle is idle. So many of them are valid, as they were passed
abbrev pub SweepsBy : ℕ → ℕ → ℕ → View → Swept → View → Type 0
SweepsBy k m live v (At n) w = (n < v.size.slots) × (n ≡ k + m) × ((rs : List Verdict) × (length rs ≡ m) × Run k rs v w × (live ≡ all_left_valid rs))
SweepsBy k m live v Done w = (v.size.slots ≤ k + m) × ((rs : List Verdict) × (u : View) × (length rs ≡ v.size.slots - k) × Run k rs v u × (w ≡ after u (End ∷ [])) × (live ≡ all_left_valid rs))
