-- A search whose store has gained terms, variables and cells.
use Rattle.std.proofs.Common.{◌≡◌, ◌≤◌, ℕ, List, map, reverse, refl, ap}
use Rattle.pl_term.specs.Tree.{Tree}
use Rattle.pl_model.specs.Resolution.{Node, Pending, goal, collect}
use Rattle.term_store.specs.declared.words.Place.{Place}
use Rattle.term_store.specs.Contents.{Adds, Contents, Holds, IsAbove, term_at}
use Rattle.iso_search.specs.declared.frames.Task.{Task}
use Rattle.iso_search.specs.declared.frames.Task.TheVariants.{Goal, Commit, Refute, Leave, Collect}
use Rattle.iso_search.specs.declared.search.Search.{Search}
use Rattle.iso_search.specs.Choices.{IsTaskIn}
use Rattle.iso_search.specs.Frames.{tasks}
use Rattle.iso_search.specs.Outcomes.{KeepsTasks}
use Rattle.iso_search.specs.Reading.{View, node_at, pending, reads}
use Rattle.iso_search.specs.Searching.{IsWhole, choices_of}
use Rattle.iso_search.specs.Spelling.{spelled, text_of}
use Rattle.iso_search.proofs.Grown.{tasks_inside}
use Rattle.iso_search.proofs.Instances.{choices_kept}
use Rattle.iso_search.proofs.Listing.{map-agree}
use Rattle.iso_search.proofs.Wholes.{whole_added}

-- The search over another store, with another next number of a variable.
abbrev pub over : Search → Contents → ℕ → Search
over e s next = record e { store = s; next_variable = next }

module _ (e : Search) (s t : Contents) (adds : Adds s t) (w : IsWhole (record e { store = s })) where
  pub choices_still : (v : View) (next : ℕ) → choices_of v (over e t next) ≡ choices_of v (record e { store = s })
  choices_still v next = choices_kept v e.answer.items s t e.frames.items (reverse e.choices.items) adds w.rests

  pub whole_still : (next : ℕ) → e.next_variable ≤ next → t.budget ≡ s.budget → IsAbove next t → IsWhole (over e t next)
  whole_still next le budget above = let was : Search = record e { store = s } in whole_added was t next adds budget le above w

  module _ (others : (p : Place) → Holds s p → term_at t p ≡ term_at s p) where
    read_still : (v : View) (p : Place) → Holds s p → reads v t p ≡ reads v s p
    read_still v p held = ap (spelled (text_of v.names)) (others p held)

    pending_still : (v : View) (k : Task) → IsTaskIn s k → pending (reads v t) k ≡ pending (reads v s) k
    pending_still v (Goal p h) i = ap (λ x. goal x h) (read_still v p i)
    pending_still v (Commit h) i = refl
    pending_still v (Refute h) i = refl
    pending_still v (Leave h) i = refl
    pending_still v (Collect p h) i = ap (λ x. collect x h) (read_still v p i)

    pub goals_still : (v : View) (list : ℕ) → map (pending (reads v t)) (tasks e.frames.items list) ≡ map (pending (reads v s)) (tasks e.frames.items list)
    goals_still v list =
        map-agree (IsTaskIn s) (pending (reads v t)) (pending (reads v s)) (pending_still v) (tasks e.frames.items list)
        (tasks_inside (IsTaskIn s) e.frames.items list w.base.words)

    answer_still : (v : View) → map (reads v t) e.answer.items ≡ map (reads v s) e.answer.items
    answer_still v = map-agree (Holds s) (reads v t) (reads v s) (read_still v) e.answer.items w.base.answer

    -- The node of a list, but for the cells used.
    pub node_still : (v : View) (list used : ℕ)
        → node_at (reads v t) (tasks e.frames.items list) e.answer.items used ≡ node_at (reads v s) (tasks e.frames.items list) e.answer.items used
    node_still v list used = node_with (goals_still v list) (answer_still v)
      where
        node_with : {g h : List Pending} {a b : List Tree} → g ≡ h → a ≡ b
            → (let l : Node = record { goals = g; answer = a; used = used } in let r : Node = record { goals = h; answer = b; used = used } in l ≡ r)
        node_with p q = cc

    pub keeps_tasks : (next : ℕ) → KeepsTasks (record e { store = s }) (over e t next)
    keeps_tasks next v list inside = goals_still v list
