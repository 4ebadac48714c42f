-- What the calls say that put another row of buckets in the place of the one in use.
use Rattle.std.specs.Prelude.{◌≡◌, ◌≢◌, ℕ, ◌+◌, ◌^◌, ◌<◌, ◌≤◌, ◌==◌, ◌&&◌, nat_lt, Bool, true, false, Option, Some, None}
use Rattle.std.specs.List.{list_any}
use Rattle.std.specs.Option.{is_some}
use Rattle.atom_words.specs.Layout.{version_of, worn, phase_of}
use Rattle.atom_words.specs.Board.{head_at}
use Rattle.atom_words.specs.Kinds.{RowOk}
use Rattle.atom_words.specs.declared.size.Size.{Size}
use Rattle.atom_words.specs.declared.view.Sweeping.{Sweeping}
use Rattle.atom_words.specs.declared.view.View.{View}
use Rattle.atom_words.specs.declared.kind.Kind.{Kind}
use Rattle.atom_words.specs.declared.kind.Kind.TheVariants.{Load, Start}
use Rattle.bucket_rows.specs.RowChanges.{RowSteps}
use Rattle.atom_table.specs.declared.resizing.Stage.{Stage}
use Rattle.atom_table.specs.declared.resizing.Stage.TheVariants.{Still, Sounding, Closing, Moving, Opening}
use Rattle.atom_table.specs.declared.resizing.Rows.{Rows}
use Rattle.atom_table.specs.declared.resizing.Resized.{Resized}
use Rattle.atom_table.specs.declared.resizing.Resized.TheVariants.{Changed, AtLimit, Going}

-- a load of a head that found the word x
abbrev pub is_found : Size → ℕ → Kind → Bool
is_found z x (Start h y) = y == x
is_found z x (Load i y) = (y == x) && (nat_lt (head_at z 0) (i + 1) && nat_lt i (head_at z z.heads))
is_found z x kind = false

-- the seat has made a load of a head that found the word x, which is worn
abbrev pub HasFound : ℕ → View → Type 0
HasFound x v = (worn ≤ version_of x) × (list_any (is_found v.size x) v.made ≡ true)

-- the phase of the epoch word that the collector knows
abbrev pub phase_known : Option Sweeping → ℕ
phase_known None = 1
phase_known (Some y) = phase_of y.word

-- what the collector knows of the rows, as `Rowing` has it
abbrev pub RowsKnown : ℕ → ℕ → ℕ → ℕ → ℕ → View → Type 0
RowsKnown row aim shut sound moved v = (phase_known v.sweep ≡ 0) × (v.growing.row ≡ row) × (v.growing.aim ≡ aim) × (v.growing.shut ≡ shut) × (v.growing.sound ≡ sound) × (v.growing.moved ≡ moved) × (v.growing.moving ≡ 0)

-- WHAT THE COLLECTOR KEEPS AT RUN TIME of the rows, by the stage that it has come to: all heads of the row in use are open; the first is closed, and so many of the other row are not worn; none of them is, and so many are closed; all are, and so many chains are moved; or so many are still closed, and are opened: the other row is in use, or a head was found worn and not all were closed
abbrev pub AtStage : View → Rows → Stage → Type 0
AtStage v r Still = v.growing.shut ≡ 0
AtStage v r Sounding = RowsKnown r.row r.aim r.shut r.sound 0 v × RowOk v.size r.aim × (r.aim ≢ r.row) × (is_some r.worn ≡ false) × (r.shut ≡ 1) × (r.sound ≤ 2 ^ r.aim) × (r.moved ≡ 0)
AtStage v r Closing = RowsKnown r.row r.aim r.shut (2 ^ r.aim) 0 v × RowOk v.size r.aim × (r.aim ≢ r.row) × (is_some r.worn ≡ false) × (0 < r.shut) × (r.shut ≤ 2 ^ r.row) × (r.moved ≡ 0)
AtStage v r Moving = RowsKnown r.row r.aim (2 ^ r.row) (2 ^ r.aim) r.moved v × RowOk v.size r.aim × (r.aim ≢ r.row) × (is_some r.worn ≡ false) × (r.moved ≤ 2 ^ r.row)
AtStage v r Opening = RowsKnown r.row r.aim r.shut v.growing.sound v.growing.moved v × (r.aim ≢ r.row → r.shut < 2 ^ r.row) × (r.shut ≤ 2 ^ r.row) × (r.worn ≡ None → r.aim ≡ r.row) × ((x : ℕ) → r.worn ≡ Some x → (r.aim ≢ r.row) × HasFound x v)

abbrev pub RowsTied : View → Rows → Type 0
RowsTied v r = (v.growing.row ≡ r.row) × RowOk v.size r.row × (r.stage ≡ Still → AtStage v r Still) × (r.stage ≡ Sounding → AtStage v r Sounding) × (r.stage ≡ Closing → AtStage v r Closing) × (r.stage ≡ Moving → AtStage v r Moving) × (r.stage ≡ Opening → AtStage v r Opening)

-- that row is in use, and all its heads are open
abbrev pub AllOpen : ℕ → View → Type 0
AllOpen row v = (v.growing.row ≡ row) × (v.growing.shut ≡ 0)

-- THE STEPS OF A CALL THAT REPLACES THE ROW by the row `aim`, by the answer: that row is in use, and all its heads are open; or the row stays, since the table has no such row, and no step was made, or since a head with the word x is worn; or the change is not at its end
abbrev pub ResizesBy : ℕ → ℕ → View → Resized → View → Type 0
ResizesBy row aim v Changed w = RowSteps v w × AllOpen aim w
ResizesBy row aim v (AtLimit n None) w = (n ≡ 2 ^ row) × (RowOk v.size aim → ⊥) × (w ≡ v)
ResizesBy row aim v (AtLimit n (Some x)) w = (n ≡ 2 ^ row) × RowSteps v w × AllOpen row w × HasFound x w
ResizesBy row aim v Going w = RowSteps v w
