-- The views of seats, at their making, splitting and joining.
use Rattle.std.specs.Prelude.{ℕ, ◌-◌, false, true, [], ◌∷◌, ◌++◌, replicate, Some, None}
use Rattle.atom_words.specs.declared.size.Size.{Size}
use Rattle.atom_words.specs.declared.view.Counted.{Counted}
use Rattle.atom_words.specs.declared.view.Cycling.{Cycling}
use Rattle.atom_words.specs.declared.view.Sweeping.{Sweeping}
use Rattle.atom_words.specs.declared.view.Growing.{Growing}
use Rattle.atom_words.specs.declared.view.View.{View}
use Rattle.atom_words.specs.declared.kind.Kind.TheVariants.{Make, Split, Join}

abbrev pub no_cycle : ℕ → Cycling
no_cycle engine = record { engine = engine; acked = 0; scanned_at = 0; scanned = [] }

-- the row of 256 buckets is in use, and all its heads are open
abbrev pub ungrown : Growing
ungrown = record { row = 8; shut = 0; aim = 8; sound = 0; moved = 0; picked = None; before = 0; moving = 0 }

-- a view that knows the size and nothing else
abbrev pub bare : Size → View
bare z = record { gone = false; size = z; own = None; held = []; fixed = []; counts = None; walk = None; pass = None; refusals = []; asked = []; undealt = 0; risen = 0; cycle = no_cycle 0; sweep = None; growing = ungrown; made = [] }

-- the first seat: the keeper's and the collector's, with all engines still to be dealt
abbrev pub uncounted : Counted
uncounted = record { count = 0; text = [] }

-- the collector before its first cycle
abbrev pub unswept : Sweeping
unswept = record { word = 0; checked = 0; cursor = 0; sure = false; text = []; dying = 0; behind = None; unlinked = false; head = 0; noted = None; past = false }

abbrev pub first_view : Size → View
first_view z = record (bare z) { counts = Some (replicate z.slots uncounted); sweep = Some unswept; undealt = z.engines }

-- a seat that a load of word 0 makes
abbrev pub newcomer : Size → View
newcomer z = record (bare z) { made = Make ∷ [] }

-- the view of a seat that was taken in by another
abbrev pub no_size : Size
no_size = record { slots = 0; engines = 0; heads = 0; start = 0; fixed = 0 }

abbrev pub spent : View
spent = record (bare no_size) { gone = true }

-- the seat takes in the keeper's, and gives it back
abbrev pub with_keeper : View → View → View
with_keeper v w = record v { counts = w.counts; made = v.made ++ Join ∷ [] }

abbrev pub without_keeper : View → View
without_keeper v = record v { counts = None; made = v.made ++ Split ∷ [] }

abbrev pub keeper_of : View → View
keeper_of v = record (bare v.size) { fixed = v.fixed; risen = v.risen; counts = v.counts; made = Split ∷ [] }

-- the collector's part of the first seat, whose walk ends
abbrev pub without_collector : View → View
without_collector v = record v { walk = None; sweep = None; made = v.made ++ Split ∷ [] }

abbrev pub collector_of : View → View
collector_of v = record (bare v.size) { fixed = v.fixed; risen = v.risen; sweep = v.sweep; growing = v.growing; made = Split ∷ [] }

-- one engine's part of the first seat
abbrev pub with_one_dealt : View → View
with_one_dealt v = record v { undealt = v.undealt - 1; made = v.made ++ Split ∷ [] }

abbrev pub engine_of : View → View
engine_of v = record (bare v.size) { fixed = v.fixed; risen = v.risen; cycle = no_cycle v.undealt; made = Split ∷ [] }
