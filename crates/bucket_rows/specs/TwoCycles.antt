-- What two whole cycles of collection leave.
use Rattle.std.specs.Prelude.{◌≡◌, ◌≢◌, ◌⊎◌, ℕ, zero, suc, ◌+◌, ◌<◌, ◌≤◌, false, List, [], ◌∷◌, ◌++◌, Some, None}
use mathlib.Core.Option.{some}
use lib.ListN.{get_elem?}
use Rattle.atom_words.specs.Layout.{state_of, count_of, phase_of, epoch_of}
use Rattle.atom_words.specs.Board.{Board, atom, atom_at}
use Rattle.atom_words.specs.Kinds.{Does}
use Rattle.atom_words.specs.Rule.{Moves, goes, makes, joins, splits, Reached}
use Rattle.atom_words.specs.declared.size.Size.{Size}
use Rattle.atom_words.specs.declared.view.Sweeping.{Sweeping}
use Rattle.atom_words.specs.declared.view.View.{View}
use Rattle.atom_words.specs.declared.kind.Kind.{Kind}
use Rattle.atom_words.specs.declared.kind.Kind.TheVariants.{Reserve, Load, Protect, Fetch, Register, Unregister, Scan, Look, PassOver, Free}

-- A step of a seat that makes no atom, holds none but what it held, and changes no count; each mark is set by a scan. The sweep passes no slot from 256 on that is valid, without mark and count
abbrev pub Calm : View → Kind → Type 0
Calm v (Reserve k) = ⊥
Calm v (Protect k x) = ⊥
Calm v (Fetch k) = ⊥
Calm v (Register a) = ⊥
Calm v (Unregister k) = ⊥
Calm v (PassOver x) = (y : Sweeping) → v.sweep ≡ Some y → 256 ≤ y.cursor → x ≢ 3
Calm v kind = Unit {0}

abbrev pub CalmMove : (z : Size) (b : Board) (vs : List View) (b' : Board) (vs' : List View) → Moves z b vs b' vs' → Type 0
CalmMove z b vs b' vs' (goes g) = Calm g.view g.kind
CalmMove z b vs b' vs' (makes e f) = Unit {0}
CalmMove z b vs b' vs' (joins j) = Unit {0}
CalmMove z b vs b' vs' (splits t) = Unit {0}

-- n calm steps lead from the words b0 and the views vs0 to b and vs
abbrev pub Leads : ℕ → Size → Board → List View → Board → List View → Type 0
Leads zero z b0 vs0 b vs = (b ≡ b0) × (vs ≡ vs0)
Leads (suc n) z b0 vs0 b vs = (b1 : Board) × (vs1 : List View) × Leads n z b0 vs0 b1 vs1 × (m : Moves z b1 vs1 b vs) × CalmMove z b1 vs1 b vs m

-- the step scans the slot k in the epoch e; one of the steps does
abbrev pub ScanMove : ℕ → ℕ → (z : Size) (b : Board) (vs : List View) (b' : Board) (vs' : List View) → Moves z b vs b' vs' → Type 0
ScanMove e k z b vs b' vs' (goes g) = (g.kind ≡ Scan k) × (g.view.cycle.scanned_at ≡ e)
ScanMove e k z b vs b' vs' (makes x y) = ⊥
ScanMove e k z b vs b' vs' (joins j) = ⊥
ScanMove e k z b vs b' vs' (splits t) = ⊥

abbrev pub Scanned : ℕ → ℕ → (n : ℕ) (z : Size) (b0 : Board) (vs0 : List View) (b : Board) (vs : List View) → Leads n z b0 vs0 b vs → Type 0
Scanned e k zero z b0 vs0 b vs l = ⊥
Scanned e k (suc n) z b0 vs0 b vs l = Scanned e k n z b0 vs0 l.0 l.1 l.2 ⊎ ScanMove e k z l.0 l.1 b vs l.3

-- no seat has a slot of its own
abbrev pub NoneReserved : List View → Type 0
NoneReserved vs = (id : ℕ) (v : View) → get_elem? vs id ≡ some v → v.gone ≡ false → v.own ≡ None

-- AFTER TWO WHOLE CYCLES of calm steps, from no cycle at work at an epoch to none two epochs later: a slot from 256 on is valid exactly where it is counted or was scanned in the second epoch; and each of the first 256 has the state that it had
abbrev pub Exact : Size → Type 0
Exact z = (m n : ℕ) (b0 : Board) (vs0 : List View) (b : Board) (vs : List View) (l : Leads n z b0 vs0 b vs) → Reached m z b0 vs0 → NoneReserved vs0
    → phase_of b0.epoch ≡ 0 → phase_of b.epoch ≡ 0 → epoch_of b.epoch ≡ epoch_of b0.epoch + 2
    → (k : ℕ) → (256 ≤ k → state_of (atom b k) ≡ 3 → (0 < count_of (atom b k)) ⊎ Scanned (epoch_of b0.epoch + 2) k n z b0 vs0 b vs l)
    × ((0 < count_of (atom b k)) ⊎ Scanned (epoch_of b0.epoch + 2) k n z b0 vs0 b vs l → state_of (atom b k) ≡ 3)
    × (k < 256 → state_of (atom b k) ≡ state_of (atom b0 k))

-- The step tells its seat that the slot k is not a valid one without mark and count, or has made it free; the last step of the seat does
abbrev pub Tells : Size → ℕ → Kind → Type 0
Tells z k (Look x) = x ≢ 3
Tells z k (Load i x) = (k < z.slots) × (i ≡ atom_at z k) × (x ≢ 3)
Tells z k Free = Unit {0}
Tells z k kind = ⊥

abbrev pub Told : Size → ℕ → View → Type 0
Told z k v = (before : List Kind) × (kind : Kind) × (v.made ≡ before ++ kind ∷ []) × Tells z k kind

-- A step as above, but of each pass over a slot from 256 on its seat was told just before, as it is by each sweep of a slot that does not answer Worn
abbrev pub ToldCalm : Size → View → Kind → Type 0
ToldCalm z v (PassOver x) = (y : Sweeping) → v.sweep ≡ Some y → 256 ≤ y.cursor → Told z y.cursor v
ToldCalm z v kind = Calm v kind

abbrev pub ToldMove : (z : Size) (b : Board) (vs : List View) (b' : Board) (vs' : List View) → Moves z b vs b' vs' → Type 0
ToldMove z b vs b' vs' (goes g) = ToldCalm z g.view g.kind
ToldMove z b vs b' vs' (makes e f) = Unit {0}
ToldMove z b vs b' vs' (joins j) = Unit {0}
ToldMove z b vs b' vs' (splits t) = Unit {0}

abbrev pub LeadsTold : ℕ → Size → Board → List View → Board → List View → Type 0
LeadsTold zero z b0 vs0 b vs = (b ≡ b0) × (vs ≡ vs0)
LeadsTold (suc n) z b0 vs0 b vs = (b1 : Board) × (vs1 : List View) × LeadsTold n z b0 vs0 b1 vs1 × (m : Moves z b1 vs1 b vs) × ToldMove z b1 vs1 b vs m

-- SUCH A PASS goes over no slot that is valid, without mark and count: so each list of such steps is calm
abbrev pub Passes : Size → Type 0
Passes z = (m n : ℕ) (b0 : Board) (vs0 : List View) (b : Board) (vs : List View) → LeadsTold n z b0 vs0 b vs → Reached m z b0 vs0 → NoneReserved vs0 → phase_of b0.epoch ≡ 0
    → (id x : ℕ) (v : View) (y : Sweeping) (b' : Board) → get_elem? vs id ≡ some v → v.gone ≡ false → Does z b v (PassOver x) b' → v.sweep ≡ Some y → 256 ≤ y.cursor → Told z y.cursor v → x ≢ 3
