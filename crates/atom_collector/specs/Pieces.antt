-- What a piece of the collector's work does.
use Rattle.std.specs.Prelude.{◌≡◌, ◌≢◌, ◌-◌, ℕ}
use Rattle.atom_words.specs.Layout.{epoch_of, phase_of}
use Rattle.atom_words.specs.Seats.{seen}
use Rattle.bucket_rows.specs.Cycles.{ChecksAll}
use Rattle.bucket_rows.specs.declared.cycles.Checked.TheVariants.{All, NotYet}
use Rattle.atom_table.specs.Collecting.{SweepsBy}
use Rattle.atom_table.specs.Resizing.{ResizesBy}
use Rattle.atom_table.specs.declared.resizing.Stage.TheVariants.{Still}
use Rattle.atom_table.specs.declared.seats.Collector.{Collector}
use Rattle.atom_table.specs.declared.sweeping.Swept.TheVariants.{At, Done}
use Rattle.atom_collector.specs.declared.collecting.Piece.{Piece}
use Rattle.atom_collector.specs.declared.collecting.Piece.TheVariants.{Rests, Awaits, Marked, SweptTo, SweptAll, Resized}

-- THE STEPS OF A PIECE, by what it came to: the check of the engines, the sweep of at most m slots, or a change of rows. Where nothing is left to do none is made
abbrev pub GoesOn : Collector → ℕ → Piece → Collector → Type 0
GoesOn c m Rests d = d ≡ c
GoesOn c m (Awaits n x) d = ChecksAll (epoch_of c.word) c.checked (seen c.seat) (NotYet n x) (seen d.seat)
GoesOn c m Marked d = ChecksAll (epoch_of c.word) c.checked (seen c.seat) All (seen d.seat)
GoesOn c m (SweptTo n) d = SweepsBy c.cursor m (d.live - c.live) (seen c.seat) (At n) (seen d.seat)
GoesOn c m SweptAll d = SweepsBy c.cursor m (d.live - c.live) (seen c.seat) Done (seen d.seat)
GoesOn c m (Resized r) d = (aim : ℕ) × ResizesBy c.rows.row aim (seen c.seat) r (seen d.seat)

-- NOTHING IS LEFT TO DO: no change of rows is at work, and no cycle marks or sweeps
pub record IsAtRest (c : Collector) : Type 0 where
  pub still : c.rows.stage ≡ Still
  pub unmarked : phase_of c.word ≢ 1
  pub swept : phase_of c.word ≢ 2
