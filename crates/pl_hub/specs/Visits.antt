-- What a visit of an engine does to the shared state.
use Rattle.std.specs.Prelude.{◌≡◌, ◌++◌, ℕ, Some, IsSome}
use Rattle.std.specs.List.{All}
use Rattle.pl_term.specs.Tree.{Tree}
use Rattle.atomic_table.specs.Seated.{TableId}
use Rattle.atom_words.specs.declared.view.View.{View}
use Rattle.atom_table.specs.Naming.{names, requests}
use Rattle.term_store.specs.ArgumentKeys.{clause_key}
use Rattle.term_store.specs.NumberedNames.{names_of, term_by}
use Rattle.term_store.specs.declared.argument_key.ArgumentKey.{ArgumentKey}
use Rattle.pl_history.specs.Fronts.{FrontState}
use Rattle.world_api.specs.declared.answer.Answer.{Answer}
use Rattle.world_api.specs.declared.answer.Answer.TheVariants.{Served, Waits, NeedsAtoms, Retry, Worn, Memory}
use Rattle.world_api.specs.declared.visit.Visit.{Visit}
use Rattle.world_api.specs.Answers.{Visited, answer_names, refusals_by}
use Rattle.world_api.specs.Asked.{IsInAnswer}
use Rattle.world_api.specs.Gains.{Gains}
use Rattle.world_api.specs.Texts.{Holds, text_of}
use Rattle.pl_hub.specs.Fronts.{Grows, IsOwn, told_of}

-- the history has no further entry than the engine was told of, or is as it was
abbrev pub IsTold : Answer Tree → FrontState → FrontState → FrontState → Type 0
IsTold (Served r g) front hub new = new.seen ≡ front.seen
IsTold (Waits on g) front hub new = new.seen ≡ front.seen
IsTold (NeedsAtoms p) front hub new = new ≡ hub
IsTold (Retry c) front hub new = new ≡ hub
IsTold (Worn x) front hub new = new ≡ hub
IsTold Memory front hub new = new ≡ hub

-- THE VISIT OF THE ENGINE IS ANSWERED as the definitions answer it after all entries that the hub's front had seen, `hub.seen`, with the entry that it makes. v and w are the views of the engine's seat before and after, f and g its fronts, hub and new the hub's front
pub record IsVisit (table : TableId) (goals e : ℕ) (v w : View) (visit : Visit Tree ArgumentKey) (a : Answer Tree) (f g hub new : FrontState) : Type 0 where
  pub visited : Visited term_by clause_key (text_of (names v)) (text_of (names w)) visit a (told_of goals f) hub.seen (told_of goals g)
  pub history : IsTold a g hub new
  pub carried : Grows e hub new
  pub own : IsOwn table e g
  pub named : All (λ x. IsSome (names w x)) (answer_names names_of a)
  pub holds : Holds (names v) (names w)
  pub refusals : w.refusals ≡ v.refusals ++ refusals_by a
  pub asked : Gains (IsInAnswer term_by clause_key (text_of (names v)) visit (told_of goals f)) (Some (requests v)) (Some (requests w))
