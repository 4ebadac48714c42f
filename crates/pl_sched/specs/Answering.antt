-- How a visit of an engine is answered, as its front tells it.
use Rattle.std.specs.Prelude.{◌≡◌, ◌++◌, ℕ, Some, IsSome, false}
use Rattle.std.specs.List.{All}
use Rattle.pl_term.specs.Tree.{Tree}
use Rattle.pl_model.specs.History.{History}
use Rattle.atom_words.specs.declared.view.View.{View}
use Rattle.atom_table.specs.Naming.{names, requests}
use Rattle.term_store.specs.ArgumentKeys.{clause_key}
use Rattle.term_store.specs.NumberedNames.{names_of, term_by}
use Rattle.term_store.specs.declared.argument_key.ArgumentKey.{ArgumentKey}
use Rattle.pl_history.specs.Fronts.{FrontState}
use Rattle.world_api.specs.declared.answer.Answer.{Answer}
use Rattle.world_api.specs.declared.visit.Visit.{Visit}
use Rattle.world_api.specs.Answers.{Visited, answer_names, refusals_by}
use Rattle.world_api.specs.Asked.{IsInAnswer}
use Rattle.world_api.specs.Gains.{Gains}
use Rattle.world_api.specs.Texts.{Holds, text_of}
use Rattle.world_api.specs.Told.{has_ended}
use Rattle.pl_hub.specs.Fronts.{told_of}

-- THE VISIT IS ANSWERED after all entries of some history, which begins with what the front had seen: v and w are the views of the engine's seat before and after, f and g its fronts
pub record IsAnswered (goals : ℕ) (v w : View) (visit : Visit Tree ArgumentKey) (a : Answer Tree) (f g : FrontState) : Type 0 where
  pub before : History
  pub visited : Visited term_by clause_key (text_of (names v)) (text_of (names w)) visit a (told_of goals f) before (told_of goals g)
  pub runs : has_ended (told_of goals g).engine (told_of goals g).history ≡ false
  pub named : All (λ x. IsSome (names w x)) (answer_names names_of a)
  pub holds : Holds (names v) (names w)
  pub refusals : w.refusals ≡ v.refusals ++ refusals_by a
  pub asked : Gains (IsInAnswer term_by clause_key (text_of (names v)) visit (told_of goals f)) (Some (requests v)) (Some (requests w))
