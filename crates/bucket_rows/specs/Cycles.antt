-- What the calls of a cycle say of the seat's view.
use Rattle.std.specs.Prelude.{◌≡◌, ◌≢◌, ◌⊎◌, ℕ, zero, suc, ◌+◌, ◌-◌, ◌<◌, ◌≤◌, List, [], ◌∷◌, ◌++◌, Some, Result, Ok, Err}
use Rattle.atom_words.specs.Layout.{phase_of, epoch_of}
use Rattle.atom_words.specs.Board.{ack_at}
use Rattle.atom_words.specs.Kinds.{after}
use Rattle.atom_words.specs.declared.view.Held.{Held}
use Rattle.atom_words.specs.declared.view.Sweeping.{Sweeping}
use Rattle.atom_words.specs.declared.view.View.{View}
use Rattle.atom_words.specs.declared.kind.Kind.{Kind}
use Rattle.atom_words.specs.declared.kind.Kind.TheVariants.{Load, Begin, Mark, Check, ToSweep}
use Rattle.bucket_rows.specs.declared.cycles.Checked.{Checked}
use Rattle.bucket_rows.specs.declared.cycles.Checked.TheVariants.{All, NotYet}

-- by the epoch word x the cycle marks, and the engine has not acknowledged it
abbrev pub Marks : View → ℕ → Type 0
Marks v x = (phase_of x ≡ 1) × (v.cycle.acked < epoch_of x)

-- it does not mark, or the engine has acknowledged it
abbrev pub Unmarked : View → ℕ → Type 0
Unmarked v x = (phase_of x ≢ 1) ⊎ (epoch_of x ≡ v.cycle.acked)

-- The steps of a mark: the epoch word is read. Where the cycle marks, only those slots are held on
abbrev pub MarksBy : List Held → View → Result ℕ ℕ → View → Type 0
MarksBy those v (Ok e) w = (x : ℕ) × Marks v x × (e ≡ epoch_of x) × (w ≡ after v (Mark x those ∷ []))
MarksBy those v (Err x) w = Unmarked v x × (w ≡ after v (Load 0 x ∷ []))

-- what the collector knows
abbrev pub Knows : View → Sweeping → Type 0
Knows v y = v.sweep ≡ Some y

-- the last epoch, after which no cycle begins
abbrev pub last_epoch : ℕ
last_epoch = 4611686018427387903

-- The steps of a begin: the epoch word is read. Where no cycle is at work and it is not the last epoch, one begins, at the next epoch
abbrev pub BeginsBy : View → Result ℕ ℕ → View → Type 0
BeginsBy v (Ok e) w = (y : Sweeping) × Knows v y × (phase_of y.word ≡ 0) × (epoch_of y.word < last_epoch) × (e ≡ epoch_of y.word + 1) × (w ≡ after v (Load 0 y.word ∷ Begin ∷ []))
BeginsBy v (Err x) w = ((y : Sweeping) → Knows v y → y.word ≡ x) × ((phase_of x ≢ 0) ⊎ (last_epoch ≤ epoch_of x)) × (w ≡ after v (Load 0 x ∷ []))

-- The step of a check of the engine whose word is at e, at that epoch: it has acknowledged the epoch, or its word is another
abbrev pub ChecksBy : ℕ → ℕ → View → Result (Unit {0}) ℕ → View → Type 0
ChecksBy epoch e v (Ok _) w = w ≡ after v (Check e ∷ [])
ChecksBy epoch e v (Err x) w = (x ≢ epoch) × (w ≡ after v (Load (ack_at v.size e) x ∷ []))

-- n engines, from that number on, are found to have acknowledged
abbrev pub checks : ℕ → ℕ → List Kind
checks e zero = []
checks e (suc n) = Check e ∷ checks (e + 1) n

-- THE STEPS OF A CHECK of the engines from that number on, at that epoch: all are found to have acknowledged it, and the cycle goes over to the sweep; or so are those before the first whose word is another
abbrev pub ChecksAll : ℕ → ℕ → View → Checked → View → Type 0
ChecksAll epoch from v All w = w ≡ after v (checks from (v.size.engines - from) ++ ToSweep ∷ [])
ChecksAll epoch from v (NotYet engine seen) w = (e : ℕ) × (from ≤ e) × (e < v.size.engines) × (engine ≡ e + 1) × (seen ≢ epoch) × (w ≡ after v (checks from (e - from) ++ Load (ack_at v.size e) seen ∷ []))
