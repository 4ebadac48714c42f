-- What follows the reply to a call.
use Rattle.std.specs.Prelude.{◌≡◌, ℕ, List, Option}
use Rattle.pl_term.specs.Tree.{Tree}
use Rattle.pl_model.specs.History.{Clause}
use Rattle.pl_model.specs.Database.{Stored}
use Rattle.pl_model.specs.Control.{first_clause, tried_by}
use Rattle.term_store.specs.declared.words.Place.{Place}
use Rattle.world_api.specs.declared.reply.Found.{Found}
use Rattle.world_api.specs.declared.reply.Reply.{Reply}
use Rattle.world_api.specs.declared.reply.Reply.TheVariants as replies
use Rattle.iso_search.specs.declared.choices.Purpose.{Purpose}
use Rattle.iso_search.specs.declared.outcome.Outcome.{Outcome}
use Rattle.iso_search.specs.declared.search.Search.{Search}
use Rattle.iso_search.specs.Choices.{listed_goal, purpose_of}
use Rattle.iso_search.specs.Outcomes.{IsAfter, Setting, limits_in, result_in, state_in}
use Rattle.iso_search.specs.Reading.{IsView, reads}
use Rattle.iso_search.specs.Searching.{node_of}
use Rattle.iso_engine.specs.declared.call.called.Called.{Called}
use Rattle.iso_engine.specs.declared.call.called.Called.TheVariants.{Ran, Refused}
use Rattle.iso_engine.specs.Lists.{IsListed}

-- A list of clauses, or an error.
abbrev pub IsListOrError : Reply Tree → Type 0
IsListOrError (replies.Clauses f) = Unit {0}
IsListOrError (replies.Refused e) = Unit {0}
IsListOrError _ = ⊥

-- The clauses of the list were tried.
abbrev pub IsTried : Purpose → Search → Place → ℕ → ℕ → Option (Found Tree) → Search → Outcome → Type 0
IsTried p e goal rest g f d o =
    (s : Setting) (cs : List (Stored Clause))
    → IsView s.view
    → IsListed s.view (listed_goal (purpose_of p) (reads s.view e.store goal)) g f cs
    → result_in s d (node_of s.view e rest) (tried_by (purpose_of p) (reads s.view e.store goal)) o
    ≡ first_clause (limits_in s e) (purpose_of p) (state_in s e) (reads s.view e.store goal) (node_of s.view e rest) cs

abbrev pub IsFollowed : Purpose → Search → Place → ℕ → ℕ → Reply Tree → Search → Called → Type 0
IsFollowed p e goal rest g (replies.Clauses f) d (Ran o) = IsTried p e goal rest g f d o × IsAfter e d o
IsFollowed p e goal rest g (replies.Refused x) d (Refused y) = (y ≡ x) × (d ≡ e)
IsFollowed _ _ _ _ _ _ _ _ = ⊥
