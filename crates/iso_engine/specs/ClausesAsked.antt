-- What calls and retries ask for, and what they intern.
use Rattle.std.specs.Prelude.{◌<◌, ℕ}
use Rattle.std.specs.List.{Contains}
use Rattle.pl_term.specs.Tree.{Chars, Tree}
use Rattle.pl_model.specs.History.{History}
use Rattle.pl_model.specs.Requests.{Request, call_clauses, inspected_clauses, retracted_clauses}
use Rattle.atom_api.specs.Names.{Names}
use Rattle.term_store.specs.declared.argument_key.ArgumentKey.{ArgumentKey}
use Rattle.term_store.specs.declared.words.Place.{Place}
use Rattle.world_api.specs.declared.visit.Procedure.{Procedure}
use Rattle.world_api.specs.declared.visit.Visit.{Visit}
use Rattle.world_api.specs.declared.visit.Visit.TheVariants.{Call, Inspect, Retract}
use Rattle.world_api.specs.Asked.{front_texts, IsInReply}
use Rattle.world_api.specs.Told.{Told, Follows}
use Rattle.iso_search.specs.declared.choices.Purpose.{Purpose}
use Rattle.iso_search.specs.declared.choices.Purpose.TheVariants.{Resolving, Inspecting, Retracting}
use Rattle.iso_search.specs.declared.search.Search.{Search}
use Rattle.iso_search.specs.Choices.{listed_goal, purpose_of}
use Rattle.iso_search.specs.Reading.{reads}
use Rattle.iso_engine.specs.Views.{view_of}

-- The request for the clauses for a goal, by what they are tried for, and the visit that asks it.
abbrev pub listing : Purpose → Tree → Request
listing Resolving g = call_clauses g
listing Inspecting g = inspected_clauses g
listing Retracting g = retracted_clauses g

abbrev pub visit_of : Purpose → Procedure → ArgumentKey → Visit Tree ArgumentKey
visit_of Resolving p k = Call p k
visit_of Inspecting p k = Inspect p k
visit_of Retracting p k = Retract p k

-- An inference can be made, and the text is one of what is handed of the reply to the request for the clauses after entries
-- of others.
pub record IsListAsked (q : Purpose) (m : Names) (t : Told) (e : Search) (goal : Place) (c : Chars) : Type 0 where
  pub count : e.inferences < e.budgets.inferences
  pub before : History
  pub follows : Follows t.engine t.history before
  pub handed : IsInReply t before (listing q (listed_goal (purpose_of q) (reads (view_of m t) e.store goal))) c

-- The text is one of the first of the clauses that are left.
abbrev pub IsRetryAsked : Names → Told → Search → Purpose → Place → ℕ → ℕ → Chars → Type 0
IsRetryAsked m t e p goal g place c =
    Contains (front_texts ((view_of m t).left (listed_goal (purpose_of p) (reads (view_of m t) e.store goal)) g place)) c
