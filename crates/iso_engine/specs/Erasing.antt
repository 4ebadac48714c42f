-- What erasing a clause leads to.
use Rattle.std.specs.Prelude.{◌≡◌, ℕ, Option}
use Rattle.pl_term.specs.Tree.{Tree}
use Rattle.pl_model.specs.History.{History, Kind}
use Rattle.pl_model.specs.Requests.{erase_clause}
use Rattle.pl_model.specs.Requests as requests
use Rattle.pl_model.specs.Service.{answers, served_now}
use Rattle.atom_api.specs.FixedNames.{retract_name}
use Rattle.atom_api.specs.Names.{Names}
use Rattle.term_store.specs.NumberedNames.{term_by}
use Rattle.world_api.specs.declared.reply.Reply.{Reply}
use Rattle.world_api.specs.declared.reply.Reply.TheVariants.{Done, Gone, Refused}
use Rattle.world_api.specs.declared.visit.Procedure.{Procedure}
use Rattle.world_api.specs.Replies.{Says}
use Rattle.world_api.specs.Texts.{text_of}
use Rattle.world_api.specs.Told.{Told}
use Rattle.iso_engine.specs.declared.doing.Doing.{Doing}
use Rattle.iso_engine.specs.declared.doing.Doing.TheVariants.{Running, Failing, Throwing}
use Rattle.iso_engine.specs.Called.{IsAsked}
use Rattle.iso_engine.specs.Calling.{IsErrorBall}
use Rattle.iso_engine.specs.Parts.{IsOverAtoms}

-- The request was answered so after all entries.
pub record IsErased (n : Names) (t : Told) (place : ℕ) (r : Reply Tree) (u : Told) : Type 0 where
  pub before : History
  pub reply : requests.Reply
  pub update : Option Kind
  pub asked : IsAsked t before update u
  pub served : served_now t.engine t.goals before (erase_clause place) ≡ answers reply update
  pub says : Says term_by (text_of n) r reply

-- The clause was erased, or it was erased before, or an error.
abbrev pub IsErasedReply : Reply Tree → Type 0
IsErasedReply Done = Unit {0}
IsErasedReply Gone = Unit {0}
IsErasedReply (Refused e) = Unit {0}
IsErasedReply _ = ⊥

abbrev pub retract_procedure : Procedure
retract_procedure = record { name = retract_name; arity = 1 }

-- The error is raised in retract/1.
pub record IsRaised (e : Tree) (list : ℕ) (d : Doing) : Type 0 where
  pub ball : Tree
  pub throws : d ≡ Throwing ball list
  pub is : IsErrorBall e retract_procedure ball
  pub over : IsOverAtoms e

abbrev pub IsErasedTo : Reply Tree → ℕ → Doing → Type 0
IsErasedTo Done list d = d ≡ Running list
IsErasedTo Gone list d = d ≡ Failing
IsErasedTo (Refused e) list d = IsRaised e list d
IsErasedTo _ list d = ⊥
