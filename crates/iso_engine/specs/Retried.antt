-- What going back to the clauses that were not tried leads to.
use Rattle.std.specs.Prelude.{◌≡◌, ℕ, List, ◌∷◌, Option, IsSome}
use Rattle.std.specs.List.{All}
use Rattle.pl_term.specs.Tree.{Tree}
use Rattle.pl_model.specs.History.{Clause, History}
use Rattle.pl_model.specs.Database.{Stored}
use Rattle.pl_model.specs.Resolution.{clauses}
use Rattle.pl_model.specs.Control.{next_clause, tried_by}
use Rattle.atom_api.specs.Names.{Names}
use Rattle.term_store.specs.declared.words.Place.{Place}
use Rattle.term_store.specs.NumberedNames.{names_of}
use Rattle.world_api.specs.declared.reply.Found.{Found}
use Rattle.world_api.specs.Told.{Told, Follows}
use Rattle.world_api.specs.Answers.{seen_as}
use Rattle.world_api.specs.Replies.{found_names}
use Rattle.iso_search.specs.declared.choices.Purpose.{Purpose}
use Rattle.iso_search.specs.declared.outcome.Outcome.{Outcome}
use Rattle.iso_search.specs.declared.search.Search.{Search}
use Rattle.iso_search.specs.Choices.{listed_goal, purpose_of}
use Rattle.iso_search.specs.Outcomes.{IsAfter, Setting, limits_in, result_in, state_in}
use Rattle.iso_search.specs.Reading.{View, IsView, reads}
use Rattle.iso_search.specs.Searching.{choices_of, node_of}
use Rattle.iso_engine.specs.Views.{IsViewFrom}
use Rattle.iso_engine.specs.Lists.{IsListed, IsOpenBehind}

-- The engine has seen the entries `before`, and the next clause of the list was tried.
pub record IsNextRun (t : Told) (e : Search) (p : Purpose) (goal : Place) (g place next : ℕ) (n : Names) (u : Told) (d : Search) (o : Outcome) : Type 0 where
  pub before : History
  pub follows : Follows t.engine t.history before
  pub told : u ≡ seen_as t before t.gens
  pub found : Option (Found Tree)
  pub named : All (λ a. IsSome (n a)) (found_names names_of found)
  -- However the engine is read from then on, what was found is the first of what is left, and the list is open after it.
  pub answered :
      (v : View)
      → IsViewFrom n u v
      → let h = listed_goal (purpose_of p) (reads v e.store goal) in IsListed v h g found (v.left h g place) × IsOpenBehind u h g found
  -- By any view that has such a list the search stands where the definition does.
  pub runs :
      (s : Setting) (cs : List (Stored Clause))
      → IsView s.view
      → IsListed s.view (listed_goal (purpose_of p) (reads s.view e.store goal)) g found cs
      → result_in s d (node_of s.view e next) (tried_by (purpose_of p) (reads s.view e.store goal)) o
      ≡ next_clause (limits_in s e) (purpose_of p) (state_in s e) (reads s.view e.store goal) (node_of s.view e next) cs
  pub after : IsAfter e d o

-- The choice point is there again.
pub record IsPutBack (t : Told) (e : Search) (p : Purpose) (goal : Place) (g place next : ℕ) (u : Told) (d : Search) : Type 0 where
  pub told : u ≡ t
  pub choices :
      (v : View)
      → choices_of v d
      ≡ clauses (purpose_of p) (reads v e.store goal) (v.left (listed_goal (purpose_of p) (reads v e.store goal)) g place) (node_of v e next)
      ∷ choices_of v e
  pub search : d ≡ record e { choices = d.choices }
