-- What a call of the program's clauses leads to, and a look at them.
use Rattle.std.specs.Prelude.{◌≡◌, ◌<◌, ℕ, suc, List, [], ◌∷◌, ◌++◌, length, Option, None, IsSome}
use Rattle.std.specs.List.{All}
use Rattle.pl_term.specs.Tree.{Tree}
use Rattle.pl_model.specs.History.{Clause, History, Kind}
use Rattle.pl_model.specs.Database.{Stored}
use Rattle.pl_model.specs.Predicates.{proc_of}
use Rattle.pl_model.specs.Requests.{listed, refused}
use Rattle.pl_model.specs.Service.{answers, entry_by, served_now}
use Rattle.pl_model.specs.Resolution.{State, Next, goes}
use Rattle.pl_model.specs.Control.{costing, first_clause, tried_by}
use Rattle.atom_api.specs.Names.{Names}
use Rattle.term_store.specs.declared.words.Place.{Place}
use Rattle.term_store.specs.NumberedNames.{names_of, term_by}
use Rattle.world_api.specs.declared.reply.Found.{Found}
use Rattle.world_api.specs.Texts.{text_of}
use Rattle.world_api.specs.Told.{Told, Follows}
use Rattle.world_api.specs.Answers.{seen_as}
use Rattle.world_api.specs.Replies.{found_names}
use Rattle.iso_search.specs.declared.choices.Purpose.{Purpose}
use Rattle.iso_search.specs.declared.choices.Purpose.TheVariants.{Resolving}
use Rattle.iso_search.specs.declared.outcome.Fault.TheVariants.{Inferences}
use Rattle.iso_search.specs.declared.outcome.Outcome.{Outcome}
use Rattle.iso_search.specs.declared.outcome.Outcome.TheVariants.{Raise}
use Rattle.iso_search.specs.declared.search.Search.{Search}
use Rattle.iso_search.specs.Choices.{listed_goal, purpose_of}
use Rattle.iso_search.specs.Outcomes.{IsAfter, Setting, limits_in, result_in, state_in}
use Rattle.iso_search.specs.Reading.{View, IsView, reads}
use Rattle.iso_search.specs.Searching.{node_of}
use Rattle.iso_engine.specs.declared.call.called.Called.{Called}
use Rattle.iso_engine.specs.declared.call.called.Called.TheVariants.{Spent, Ran, Refused}
use Rattle.iso_engine.specs.ClausesAsked.{listing}
use Rattle.iso_engine.specs.Views.{IsViewFrom}
use Rattle.iso_engine.specs.Lists.{IsListed, IsOpenBehind}

-- The state in which the inference of a goal was made.
abbrev pub counted : State → State
counted s = record s { inferences = suc s.inferences }

-- The visit was answered after all entries `before`, and made this update.
pub record IsAsked (t : Told) (before : History) (update : Option Kind) (u : Told) : Type 0 where
  pub follows : Follows t.engine t.history before
  pub told : u ≡ seen_as t (before ++ entry_by t.engine update) (t.gens ++ length before ∷ [])

-- The inference was made, the visit listed the clauses for the goal, or for the head of the rule of clause/2 or retract/1, and
-- these were tried.
pub record IsRun (q : Purpose) (m : Names) (t : Told) (e : Search) (goal : Place) (rest : ℕ) (n : Names) (u : Told) (d : Search) (o : Outcome) : Type 0 where
  pub before : History
  pub asked : IsAsked t before None u
  pub count : e.inferences < e.budgets.inferences
  pub found : Option (Found Tree)
  pub named : All (λ a. IsSome (n a)) (found_names names_of found)
  -- However the engine is read from then on, its request was answered so, and the list is open after the first clause.
  pub answered :
      (v : View)
      → IsViewFrom n u v
      → let h = listed_goal (purpose_of q) (reads v e.store goal) in
      (cs : List (Stored Clause))
      × (served_now t.engine t.goals before (listing q h) ≡ answers (listed cs) None)
      × IsListed v h (length before) found cs
      × IsOpenBehind u h (length before) found
  -- By any view that has such a list the search stands where the definition does.
  pub runs :
      (s : Setting) (cs : List (Stored Clause))
      → IsView s.view
      → IsListed s.view (listed_goal (purpose_of q) (reads s.view e.store goal)) (length before) found cs
      → result_in s d (node_of s.view e rest) (tried_by (purpose_of q) (reads s.view e.store goal)) o
      ≡ first_clause (limits_in s e) (purpose_of q) (counted (state_in s e)) (reads s.view e.store goal) (node_of s.view e rest) cs
  pub after : IsAfter e d o

-- The inference was made, and the visit refused the call with this error term.
pub record IsRefused (q : Purpose) (m : Names) (t : Told) (e : Search) (goal : Place) (n : Names) (u : Told) (d : Search) (error : Tree) : Type 0 where
  pub before : History
  pub asked : IsAsked t before None u
  pub count : e.inferences < e.budgets.inferences
  pub named : All (λ a. IsSome (n a)) (names_of error)
  pub answered :
      (v : View)
      → IsViewFrom n u v
      → served_now t.engine t.goals before (listing q (listed_goal (purpose_of q) (reads v e.store goal))) ≡ answers (refused (term_by (text_of v.names) error)) None
  pub search : d ≡ record e { inferences = suc e.inferences }

-- There could be no inference.
pub record IsSpent (e : Search) (goal : Place) (rest : ℕ) : Type 0 where
  pub spends :
      (s : Setting) (next : State → Next)
      → goes (result_in s e (node_of s.view e rest) (proc_of (reads s.view e.store goal)) (Raise Inferences))
      ≡ costing (limits_in s e) (state_in s e) (node_of s.view e rest) (reads s.view e.store goal) next

-- Nothing has changed.
abbrev pub IsUntouched : Names → Told → Search → Names → Told → Search → Type 0
IsUntouched m t e n u d = ((a : ℕ) → n a ≡ m a) × (u ≡ t) × (d ≡ e)

-- The same, but that more atoms may be held: the call is to be made again.
abbrev pub IsTakenBack : Told → Search → Told → Search → Type 0
IsTakenBack t e u d = (u ≡ t) × (d ≡ e)

abbrev pub IsCalled : Names → Told → Search → Place → ℕ → Names → Told → Search → Called → Type 0
IsCalled m t e goal rest n u d Spent = IsUntouched m t e n u d × IsSpent e goal rest
IsCalled m t e goal rest n u d (Ran o) = IsRun Resolving m t e goal rest n u d o
IsCalled m t e goal rest n u d (Refused error) = IsRefused Resolving m t e goal n u d error

-- An inference could be made.
abbrev pub AreLooked : Purpose → Names → Told → Search → Place → ℕ → Names → Told → Search → Called → Type 0
AreLooked q m t e goal rest n u d Spent = ⊥
AreLooked q m t e goal rest n u d (Ran o) = IsRun q m t e goal rest n u d o
AreLooked q m t e goal rest n u d (Refused error) = IsRefused q m t e goal n u d error
