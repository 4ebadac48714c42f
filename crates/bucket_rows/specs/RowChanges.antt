-- What the calls say that put another row of buckets in the place of the one in use.
use Rattle.std.specs.Prelude.{◌≡◌, ◌⊎◌, ℕ, ◌≤◌, List, [], ◌∷◌, ◌++◌, length, Some}
use Rattle.atom_words.specs.Layout.{first_of, version_of, worn}
use Rattle.atom_words.specs.Board.{head_at}
use Rattle.atom_words.specs.Kinds.{Idle, Picks, after}
use Rattle.atom_words.specs.declared.view.Walk.{Walk}
use Rattle.atom_words.specs.declared.view.View.{View}
use Rattle.atom_words.specs.declared.kind.Kind.{Kind}
use Rattle.atom_words.specs.declared.kind.Kind.TheVariants.{Load, Start, Read, Next, Aim, Sound, Close, Emptied, Pick, MoveHead, MoveLink, LeaveHead, LeaveLink, PublishRow, Publish}
use Rattle.bucket_rows.specs.Treads.{Before}

-- THE KINDS OF STEPS by which rows change
abbrev pub RowKind : Kind → Type 0
RowKind (Load i x) = Unit {0}
RowKind (Start h x) = Unit {0}
RowKind (Read x) = Unit {0}
RowKind (Next x) = Unit {0}
RowKind (Aim row) = Unit {0}
RowKind (Sound x) = Unit {0}
RowKind (Close h) = Unit {0}
RowKind Emptied = Unit {0}
RowKind (Pick a before) = Unit {0}
RowKind (MoveHead h) = Unit {0}
RowKind (MoveLink q) = Unit {0}
RowKind (LeaveHead h) = Unit {0}
RowKind (LeaveLink q) = Unit {0}
RowKind (PublishRow row) = Unit {0}
RowKind (Publish h) = Unit {0}
RowKind kind = ⊥

abbrev pub RowKinds : List Kind → Type 0
RowKinds [] = Unit {0}
RowKinds (k ∷ ks) = RowKind k × RowKinds ks

-- THE STEPS from one view to another are of these kinds
abbrev pub RowSteps : View → View → Type 0
RowSteps v w = (ks : List Kind) × (w ≡ after v ks) × RowKinds ks

-- such steps leave all of the view but the walk, the rows and the steps made
pub record Settled (v w : View) : Type 0 where
  pub gone : w.gone ≡ v.gone
  pub size : w.size ≡ v.size
  pub own : w.own ≡ v.own
  pub held : w.held ≡ v.held
  pub fixed : w.fixed ≡ v.fixed
  pub counts : w.counts ≡ v.counts
  pub pass : w.pass ≡ v.pass
  pub refusals : w.refusals ≡ v.refusals
  pub asked : w.asked ≡ v.asked
  pub undealt : w.undealt ≡ v.undealt
  pub risen : w.risen ≡ v.risen
  pub cycle : w.cycle ≡ v.cycle
  pub sweep : w.sweep ≡ v.sweep

-- WHAT THE COLLECTOR KNOWS OF THE ROWS, where no cycle is at work: the row in use, the other row, how many heads of the row in use are closed, how many of the other are not worn, and how many chains of the row in use are empty. No slot stands in two chains
pub record Rowing (row aim shut sound moved : ℕ) (v : View) : Type 0 where
  pub idle : Idle v
  pub row_is : v.growing.row ≡ row
  pub aim_is : v.growing.aim ≡ aim
  pub shut_is : v.growing.shut ≡ shut
  pub sound_is : v.growing.sound ≡ sound
  pub moved_is : v.growing.moved ≡ moved
  pub still : v.growing.moving ≡ 0

-- from the view v to w so many heads were closed, found not worn, or chains moved, the rest as it was
abbrev pub Closes : ℕ → ℕ → ℕ → View → View → Type 0
Closes row from end v w = (aim sound moved : ℕ) → Rowing row aim from sound moved v → Rowing row aim end sound moved w

abbrev pub Sounds : ℕ → ℕ → ℕ → View → View → Type 0
Sounds aim from end v w = (row shut moved : ℕ) → Rowing row aim shut from moved v → Rowing row aim shut end moved w

abbrev pub MovesOn : ℕ → ℕ → ℕ → ℕ → View → View → Type 0
MovesOn row aim from end v w = (shut sound : ℕ) → Rowing row aim shut sound from v → Rowing row aim shut sound end w

-- A WORN HEAD, with the word x, was found by the last of the steps, which is of the head h
abbrev pub FoundWorn : ℕ → ℕ → View → View → Type 0
FoundWorn h x v w = (worn ≤ version_of x) × ((ks : List Kind) × RowKinds ks × ((w ≡ after v (ks ++ Start h x ∷ [])) ⊎ (w ≡ after v (ks ++ Load (head_at v.size h) x ∷ []))))

-- THE COLLECTOR'S WALK over the chain of the closed head h, which it found with the word x: it has passed n slots, of which `before` - 1 is the last, and stands at p, where it has read the words ws
pub record Paces (h x n before p : ℕ) (ws : List ℕ) (v : View) : Type 0 where
  pub walk : Walk
  pub at : v.walk ≡ Some walk
  pub head : walk.head ≡ h
  pub word : walk.word ≡ x
  pub count : length walk.seen ≡ n
  pub place : walk.place ≡ p
  pub part : walk.part ≡ ws
  pub last_seen : Before before walk.seen
  pub first : n ≡ 0 → p ≡ first_of x

-- it has come to the end, and its last slot is k, whose text has the words `row`, and before which stands `before` - 1
abbrev pub AtEnd : ℕ → ℕ → ℕ → List ℕ → View → Type 0
AtEnd h k before row v = (w : Walk) × (v.walk ≡ Some w) × (w.head ≡ h) × (w.place ≡ 0) × Picks w (record { slot = k; text = row }) before

-- that slot is known
abbrev pub IsPicked : ℕ → ℕ → List ℕ → View → Type 0
IsPicked k before row v = (v.growing.picked ≡ Some (record { slot = k; text = row })) × (v.growing.before ≡ before)
