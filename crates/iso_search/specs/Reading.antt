-- What stands at the places of a store, as terms over texts.
use Rattle.std.specs.Prelude.{ℕ, List, map}
use Rattle.pl_term.specs.Tree.{Tree}
use Rattle.pl_model.specs.History.{Clause}
use Rattle.pl_model.specs.Database.{Stored}
use Rattle.pl_model.specs.Resolution.{Pending, goal, commit, refute, leave, collect, Node}
use Rattle.atom_api.specs.Names.{Names, FixedStand}
use Rattle.term_store.specs.declared.words.Place.{Place}
use Rattle.term_store.specs.Contents.{Contents, term_at}
use Rattle.iso_search.specs.declared.frames.Task.{Task}
use Rattle.iso_search.specs.declared.frames.Task.TheVariants.{Goal, Commit, Refute, Leave, Collect}
use Rattle.iso_search.specs.Spelling.{spelled, text_of, TellsApart}

-- What an engine's numbers are read by: the texts of its atoms, the clauses for a goal that were there at a generation, and
-- those of them that stand after a place.
pub record View : Type 0 where
  pub names : Names
  pub all : Tree → ℕ → List (Stored Clause)
  pub left : Tree → ℕ → ℕ → List (Stored Clause)

-- The fixed atoms have their texts, and atoms have different ones.
pub record IsView (v : View) : Type 0 where
  pub fixed : FixedStand v.names
  pub apart : TellsApart (text_of v.names)

-- The term that stands at a place of the store.
abbrev pub reads : View → Contents → Place → Tree
reads v s p = spelled (text_of v.names) (term_at s p)

abbrev pub pending : (Place → Tree) → Task → Pending
pending r (Goal w h) = goal (r w) h
pending r (Commit h) = commit h
pending r (Refute h) = refute h
pending r (Leave h) = leave h
pending r (Collect w h) = collect (r w) h

-- The node at which these tasks are still to be done, with the variables of the goal and the cells used.
abbrev pub node_at : (Place → Tree) → List Task → List Place → ℕ → Node
node_at r ts ws used = record { goals = map (pending r) ts; answer = map r ws; used = used }
