-- The rule of the table: its state was reached by steps of the kinds, from an opening state.
use Rattle.std.specs.Prelude.{◌≡◌, ℕ, zero, suc, ◌<◌, ◌≤◌, ◌⊎◌, false, List, [], ◌∷◌, ◌++◌, set, slice_index}
use mathlib.Core.Option.{some}
use lib.ListN.{get_elem?}
use Rattle.atomic_table.specs.Table.{State}
use Rattle.atom_words.specs.Board.{Board, Sized, laid, atom, head}
use Rattle.atom_words.specs.Layout.{head_word}
use Rattle.atom_words.specs.Views.{first_view, newcomer, spent, with_keeper, without_keeper, keeper_of, without_collector, collector_of, with_one_dealt, engine_of}
use Rattle.atom_words.specs.Kinds.{view_after, Does}
use Rattle.atom_words.specs.declared.size.Size.{Size}
use Rattle.atom_words.specs.declared.view.View.{View}
use Rattle.atom_words.specs.declared.kind.Kind.{Kind}

-- a step through one seat
pub record Goes (z : Size) (b : Board) (vs : List View) (b' : Board) (vs' : List View) : Type 0 where
  pub id : ℕ
  pub view : View
  pub kind : Kind
  pub at : get_elem? vs id ≡ some view
  pub here : view.gone ≡ false
  pub does : Does z b view kind b'
  pub views : vs' ≡ set vs id (view_after view kind)

-- the seat that holds everything for the keeper, the collector or an engine is cut in two
pub data Cut (v : View) : View → View → Type 0 where
  keeper : Cut v (without_keeper v) (keeper_of v)
  collector : Cut v (without_collector v) (collector_of v)
  engine : 0 < v.undealt → v.held ≡ [] → Cut v (with_one_dealt v) (engine_of v)

pub record Splits (z : Size) (b : Board) (vs : List View) (b' : Board) (vs' : List View) : Type 0 where
  pub id : ℕ
  pub view : View
  pub left : View
  pub right : View
  pub cut : Cut view left right
  pub at : get_elem? vs id ≡ some view
  pub here : view.gone ≡ false
  pub words : b' ≡ b
  pub views : vs' ≡ set vs id left ++ right ∷ []

pub record Joins (z : Size) (b : Board) (vs : List View) (b' : Board) (vs' : List View) : Type 0 where
  pub id : ℕ
  pub view : View
  pub other : ℕ
  pub keeper : View
  pub at : get_elem? vs id ≡ some view
  pub here : view.gone ≡ false
  pub apart : ¬ (other ≡ id)
  pub there : get_elem? vs other ≡ some keeper
  pub here_too : keeper.gone ≡ false
  pub words : b' ≡ b
  pub views : vs' ≡ set (set vs id (with_keeper view keeper)) other spent

-- ONE STEP: of a kind, a new seat, two seats made one, or a seat cut in two
pub data Moves (z : Size) (b : Board) (vs : List View) (b' : Board) (vs' : List View) : Type 0 where
  goes : Goes z b vs b' vs' → Moves z b vs b' vs'
  makes : b' ≡ b → vs' ≡ vs ++ newcomer z ∷ [] → Moves z b vs b' vs'
  joins : Joins z b vs b' vs' → Moves z b vs b' vs'
  splits : Splits z b vs b' vs' → Moves z b vs b' vs'

-- the words of a new table: no atom, all chains empty, the first 256 heads open. Their versions are 0 until the first seat raises them
pub record Opens (z : Size) (b : Board) (vs : List View) : Type 0 where
  pub sized : Sized z b
  pub wide : 256 ≤ z.heads
  pub idle : b.epoch ≡ 0
  pub row : b.row ≡ 8
  pub untold : (i : ℕ) → slice_index b.texts i ≡ 0
  pub unseen : (e : ℕ) → slice_index b.acks e ≡ 0
  pub closed_off : (k : ℕ) → k < z.slots → z.fixed ≤ k → k < 256 → atom b k ≡ 1
  pub free : (k : ℕ) → k < z.slots → (k < z.fixed) ⊎ (256 ≤ k) → atom b k ≡ 0
  pub buckets : (h : ℕ) → h < z.heads → h < 256 → head b h ≡ head_word 0 0 0
  pub other_rows : (h : ℕ) → h < z.heads → 256 ≤ h → head b h ≡ head_word 0 1 z.start
  pub views : vs ≡ first_view z ∷ []

-- REACHED BY n STEPS
abbrev pub Reached : ℕ → Size → Board → List View → Type 0
Reached zero z b vs = Opens z b vs
Reached (suc n) z b vs = (b0 : Board) × (vs0 : List View) × Reached n z b0 vs0 × Moves z b0 vs0 b vs

-- THE RULE OF THE TABLE
pub record Rule (z : Size) (s : State (Unit {0}) View) : Type 0 where
  pub board : Board
  pub words : s.words ≡ laid z board
  pub steps : ℕ
  pub reached : Reached steps z board s.views
