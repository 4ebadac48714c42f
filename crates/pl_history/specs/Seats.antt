-- What contracts see of a front, from the view of its seat, and what each step at the table tells.
use Rattle.std.specs.Prelude.{◌≡◌, ◌≢◌, ℕ, ◌≤◌, List, [], ◌∷◌, Option, Some, None, length}
use mathlib.Core.List.{IsPrefix}
use Rattle.atomic_table.specs.Table.{Me}
use Rattle.std.specs.Coded.{Coded-set}
use Rattle.atomic_table.specs.Seated.{TableId, table_id_coded}
use Rattle.pl_model.specs.History.{Entry, History}
use Rattle.pl_history.specs.Fronts.{FrontState, AllTold, visited}
use Rattle.pl_history.specs.Steps.{Part, View, both, hub_alone, front_alone, two_fronts, newcomer, hub_appended, front_appended}
use Rattle.pl_history.specs.Laws.{AllSee, carried}

abbrev pub part_or_newcomer : Option Part → Part
part_or_newcomer None = newcomer
part_or_newcomer (Some p) = p

abbrev pub first_or_newcomer : List Part → Part
first_or_newcomer [] = newcomer
first_or_newcomer (p ∷ ps) = p

-- The hub's front, and the first of the others, in a view.
abbrev pub hub_of : View → Part
hub_of v = part_or_newcomer v.hub

abbrev pub front_of : View → Part
front_of v = first_or_newcomer v.fronts

-- The same of a badge, which has one view.
abbrev pub hub_in_badge : List View → Part
hub_in_badge [] = newcomer
hub_in_badge (v ∷ vs) = hub_of v

abbrev pub front_in_badge : List View → Part
front_in_badge [] = newcomer
front_in_badge (v ∷ vs) = front_of v

abbrev pub state_of : TableId → Part → FrontState
state_of t p = record { table = t; seen = p.seen; lives = p.lives }

abbrev pub part_of : FrontState → Part
part_of f = record { seen = f.seen; lives = f.lives }

-- A view of the hub's front and one other after a step.
abbrev pub after_append : Entry → View → View
after_append x v = both (hub_appended x (hub_of v)) (front_appended x (hub_of v) (front_of v))

abbrev pub after_visit : View → View
after_visit v =
    both (hub_of v) (record { seen = (hub_of v).seen; lives = visited (length (hub_of v).seen) (front_of v).lives })

abbrev pub after_nothing : View → View
after_nothing v = both (hub_of v) (front_of v)

abbrev pub after_look : View → View
after_look v = both (hub_of v) (record { seen = (hub_of v).seen; lives = (front_of v).lives })

-- A view of one front alone after a visit, where it has seen as many entries as there are.
abbrev pub after_revisit : View → View
after_revisit v =
    front_alone (record { seen = (front_of v).seen; lives = visited (length (front_of v).seen) (front_of v).lives })

-- The first and the second of the fronts in a view after the one has told the other what it has seen.
abbrev pub second_of_all : List Part → Part
second_of_all [] = newcomer
second_of_all (p ∷ ps) = first_or_newcomer ps

abbrev pub second_of : View → Part
second_of v = second_of_all v.fronts

abbrev pub told_by : Part → Part → Part
told_by p q = record { seen = p.seen; lives = q.lives }

abbrev pub after_inform : View → View
after_inform v = two_fronts (front_of v) (told_by (front_of v) (second_of v))

-- What the front had seen is a beginning of what the hub's front has seen, and each list of an engine's updates is
-- that history, filtered by the engine.
pub record Fits (hub front : Part) : Type 0 where
  pub seen : IsPrefix front.seen hub.seen
  pub hub_told : AllTold hub.seen hub.lives
  pub front_told : AllTold hub.seen front.lives

-- What a step tells: the number found is the length of the history, and the view is changed so.
pub record Tells (after : View → View) (old : Me (Unit {0}) View) (found : ℕ) (new : Me (Unit {0}) View) : Type 0 where
  pub found_is : found ≡ length (hub_of old.0).seen
  pub view : new ≡ (after old.0, old.1)
  pub fits : Fits (hub_of old.0) (front_of old.0)

-- The same, with the two fronts apart again.
pub record IsStep (after : View → View) (old : View) (found : ℕ) (hub front : List View) : Type 0 where
  pub found_is : found ≡ length (hub_of old).seen
  pub hub_is : hub ≡ hub_alone (hub_of (after old)) ∷ []
  pub front_is : front ≡ front_alone (front_of (after old)) ∷ []
  pub fits : Fits (hub_of old) (front_of old)

-- What a load tells a front alone. Where the number found, which is the length of the history, is the number of the entries
-- that the front has seen, the load is a visit. Else nothing has changed.
pub record Revisited (old : Me (Unit {0}) View) (found : ℕ) (new : Me (Unit {0}) View) : Type 0 where
  pub visits : found ≡ length (front_of old.0).seen → new ≡ (after_revisit old.0, old.1)
  pub stays : found ≢ length (front_of old.0).seen → new ≡ old

-- What a load tells two fronts: the second has seen what the first has, and both had seen beginnings of one history.
pub record Informed (old new : Me (Unit {0}) View) : Type 0 where
  pub view : new ≡ (after_inform old.0, old.1)
  pub history : History
  pub seen : AllSee history old.0.fronts

-- What a load tells that changes nothing: no engine is carried twice by what the seat has.
pub record Compared (old new : Me (Unit {0}) View) : Type 0 where
  pub same : new ≡ old
  pub once : (e : ℕ) → carried e old.0 ≤ 1

-- A name for no table, and that there is one way in which two names of tables are equal: what a type's fact on the
-- table of its front is made of.
abbrev pub no_table : TableId
no_table = record { words = 0; slots = 0; views_name = 0; atom = 0; block = 0; offset = 0; slot_names = [] }

pub table_is : (t u : TableId) → IsProp (t ≡ u)
table_is = Coded-set table_id_coded
