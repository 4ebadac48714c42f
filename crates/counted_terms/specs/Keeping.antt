-- What the keeper of an atom table counts, and what a seat that carries its counts holds and keeps.
use Rattle.std.specs.Prelude.{◌≡◌, ◌⊎◌, ℕ, ◌+◌, ◌<◌, ◌==◌, false, List, [], ◌∷◌, Option, Some, None, IsSome, if◌then◌else◌}
use Rattle.pl_term.specs.Tree.{Chars}
use Rattle.atomic_table.specs.Table.{Me, Step}
use Rattle.atomic_table.specs.Seated.{TableId}
use Rattle.atom_words.specs.Kinds.{counted}
use Rattle.atom_words.specs.Plays.{Alone, Is}
use Rattle.atom_words.specs.Seats.{seen}
use Rattle.atom_words.specs.Views.{spent}
use Rattle.atom_words.specs.declared.size.Size.{Size}
use Rattle.atom_words.specs.declared.view.Counted.{Counted}
use Rattle.atom_words.specs.declared.view.View.{View}
use Rattle.atom_words.specs.declared.kind.Kind.TheVariants.{Load}
use Rattle.atom_words.specs.declared.words.Words.{Words}
use Rattle.atom_words.specs.declared.words.AtomSeat.{AtomSeat}
use Rattle.atom_api.specs.Names.{Names}
use Rattle.atom_table.specs.Holding.{unspelled, Sits, Sound}
use Rattle.atom_table.specs.Naming.{named, names}
use Rattle.atom_table.specs.Tables.{SitsAt}
use Rattle.atom_table.specs.Opening.{fixed_slots}
use Rattle.atom_table.specs.declared.seats.Keeper.{Keeper}

-- how often the counts have the atom
abbrev pub times_in : Option (List Counted) → ℕ → ℕ
times_in None k = 0
times_in (Some cs) k = (counted cs k).count

-- HOW OFTEN THE KEEPER COUNTS THE ATOM, whose counts the seat carries
abbrev pub tally : View → ℕ → ℕ
tally v k = times_in v.counts k

-- the text of an atom that is counted
abbrev pub text_in : Option (List Counted) → Names
text_in None k = None
text_in (Some cs) k = if (counted cs k).count == 0 then None else Some (unspelled (counted cs k).text)

-- the first text, or the other
abbrev pub or_else : Option Chars → Option Chars → Option Chars
or_else None u = u
or_else (Some t) u = Some t

-- WHAT THE KEEPER KEEPS: the fixed atoms, and those that it counts, with their texts
abbrev pub kept : View → Names
kept v k = or_else (named v.fixed k) (text_in v.counts k)

-- what the seat holds or the keeper keeps
abbrev pub both : View → Names
both v k = or_else (names v k) (text_in v.counts k)

-- all that the one map has, the other has with its text
abbrev pub HoldsOn : Names → Names → Type 0
HoldsOn m n = (a : ℕ) (t : Chars) → m a ≡ Some t → n a ≡ Some t

-- What is counted and what is held or fixed agree: a slot has one text, and a text one slot
pub record Agrees (v : View) (cs : List Counted) : Type 0 where
  pub alone : (k : ℕ) → 0 < (counted cs k).count → Alone v k (counted cs k).text
  pub unlike : (j k : ℕ) → 0 < (counted cs j).count → 0 < (counted cs k).count → (counted cs j).text ≡ (counted cs k).text → j ≡ k

-- the load that shows it
abbrev pub agreed : Step (Unit {0}) → Me (Unit {0}) View → ℕ → Me (Unit {0}) View → Type 0
agreed st m r m' = Is (Load st.word r) m m' × ((cs : List Counted) → m.0.counts ≡ Some cs → Agrees m.0 cs)

-- the seat of a keeper of that table
pub record KeepsAt (t : TableId) (z : Size) (s : AtomSeat) : Type 0 where
  pub sits : SitsAt t z s
  pub fixed : (seen s).fixed ≡ fixed_slots
  pub counts : IsSome (seen s).counts

abbrev pub Keeps : Words → AtomSeat → Type 0
Keeps w s = KeepsAt w.table.shared.table_id w.size s

-- the keeper of that table is in its place
abbrev pub KeeperAt : TableId → Size → Option Keeper → Type 0
KeeperAt t z None = ⊥
KeeperAt t z (Some k) = KeepsAt t z k.seat

abbrev pub KeeperIn : Words → Option Keeper → Type 0
KeeperIn w place = KeeperAt w.table.shared.table_id w.size place

-- what it knows
abbrev pub keeper_view : Option Keeper → View
keeper_view None = spent
keeper_view (Some k) = seen k.seat

-- A SEAT OF THE TABLE THAT CARRIES THE KEEPER'S COUNTS, and agrees with them
pub record Joins (w : Words) (s : AtomSeat) : Type 0 where
  pub sits : Sits w s
  pub fixed : (seen s).fixed ≡ fixed_slots
  pub counts : IsSome (seen s).counts
  pub agrees : (cs : List Counted) → (seen s).counts ≡ Some cs → Agrees (seen s) cs

-- what is held, the counts and the steps made aside, the view w is v
pub record Stays (v w : View) : Type 0 where
  pub size : w.size ≡ v.size
  pub own : w.own ≡ v.own
  pub fixed : w.fixed ≡ v.fixed
  pub cycle : w.cycle ≡ v.cycle
  pub sweep : w.sweep ≡ v.sweep
  pub undealt : w.undealt ≡ v.undealt
  pub risen : w.risen ≡ v.risen
  pub refusals : w.refusals ≡ v.refusals
  pub asked : w.asked ≡ v.asked

-- 1 where the numbers are equal
abbrev pub one_at : ℕ → ℕ → ℕ
one_at a k = if k == a then 1 else 0

-- how often the list has the number
abbrev pub times : ℕ → List ℕ → ℕ
times k [] = 0
times k (a ∷ atoms) = one_at a k + times k atoms

-- THE ATOMS OF THE LIST ARE HELD BESIDES by the seat with the view v, and then w, with the texts that the keeper with the view k, and then l, keeps; the keeper's counts are as before
pub record FetchedBy (atoms : List ℕ) (k v l w : View) : Type 0 where
  pub named : (a : ℕ) → 0 < times a atoms → names w a ≡ kept k a
  pub others : (a : ℕ) → times a atoms ≡ 0 → names w a ≡ names v a
  pub holds : HoldsOn (names v) (names w)
  pub keeps : kept l ≡ kept k
  pub counts : (a : ℕ) → tally l a ≡ tally k a
  pub stays : Stays v w

-- THE ATOMS OF THE LIST ARE COUNTED, each as often as the list has it, and kept with the texts with which the seat holds them
pub record RegisteredBy (atoms : List ℕ) (k v l w : View) : Type 0 where
  pub named : (a : ℕ) → 0 < times a atoms → kept l a ≡ names v a
  pub others : (a : ℕ) → times a atoms ≡ 0 → kept l a ≡ kept k a
  pub holds : HoldsOn (kept k) (kept l)
  pub held : names w ≡ names v
  pub counts : (a : ℕ) → tally l a ≡ times a atoms + tally k a
  pub stays : Stays v w

-- THE ATOMS OF THE LIST ARE COUNTED LESS, each as often as the list has it; what is counted still, or fixed, is kept with its text
pub record UnregisteredBy (atoms : List ℕ) (k v l w : View) : Type 0 where
  pub keeps : (a : ℕ) → (0 < tally l a) ⊎ IsSome (named fixed_slots a) → kept l a ≡ kept k a
  pub held : names w ≡ names v
  pub counts : (a : ℕ) → times a atoms + tally l a ≡ tally k a
  pub stays : Stays v w

-- the same of a seat that carries the keeper's counts
abbrev pub Fetched : List ℕ → View → View → Type 0
Fetched atoms v w = FetchedBy atoms v v w w

abbrev pub Registered : List ℕ → View → View → Type 0
Registered atoms v w = RegisteredBy atoms v v w w

abbrev pub Unregistered : List ℕ → View → View → Type 0
Unregistered atoms v w = UnregisteredBy atoms v v w w

-- the seat with the view u holds what that with the view v holds, and carries the counts of the keeper with the view k
pub record Carries (k v u : View) : Type 0 where
  pub held : names u ≡ names v
  pub keeps : kept u ≡ kept k
  pub counts : tally u ≡ tally k
  pub stays : Stays v u
