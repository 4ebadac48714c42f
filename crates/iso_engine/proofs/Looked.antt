-- What a look tells.
use Rattle.std.proofs.Common.{◌≡◌, ℕ, refl, ap, subst, ◌∙◌}
use Rattle.std.specs.Arc.{arc_value}
use Rattle.std.specs.declared.alloc.Global.{Global}
use Rattle.std.specs.declared.sync.Arc.{Arc}
use Rattle.pl_term.specs.Tree.{Chars, Tree}
use Rattle.pl_model.specs.OperatorTable.{OperatorTable}
use Rattle.pl_model.specs.declared.grammar.Quotes.{Quotes}
use Rattle.pl_model.specs.History.{History}
use Rattle.pl_model.specs.Requests.{look, standing}
use Rattle.pl_model.specs.Service.{answers, waits, serve, served_now}
use Rattle.world_api.specs.declared.answer.Answer.TheVariants.{Served as ServedAnswer, Waits as WaitsAnswer}
use Rattle.world_api.specs.declared.answer.On.{On}
use Rattle.world_api.specs.declared.reply.Reply.{Reply}
use Rattle.world_api.specs.declared.reply.Reply.TheVariants.{Standing, Clauses, Procedures, Flags, Operators, Named, Message, NoMessage, Status, Done, Gone, Refused}
use Rattle.world_api.specs.declared.visit.Visit.TheVariants.{Look}
use Rattle.world_api.specs.Told.{Told}
use Rattle.world_api.specs.Answers.{Visited}
use Rattle.world_api.specs.Replies.{HasTable, Says}
use Rattle.iso_engine.specs.Looking.{Looks}

-- A look never waits.
look_serves : (e goals : ℕ) (h : History) → served_now e goals h look ≡ waits → ⊥
unfolding serve
look_serves e goals h is = absurd (cc)

module _ {T K : Type 0} (term : (ℕ → Chars) → T → Tree) (key : T → K) (old_text new_text : ℕ → Chars) where
  stands_only : (r : Reply T) → ((x : Arc OperatorTable Global) (y : Quotes) → r ≡ Standing x y → ⊥) → HasTable r → ⊥
  stands_only (Standing x y) other table = other x y refl
  stands_only (Clauses f) other table = table
  stands_only (Procedures ps) other table = table
  stands_only (Flags fs) other table = table
  stands_only (Operators os) other table = table
  stands_only (Named n) other table = table
  stands_only (Message t) other table = table
  stands_only NoMessage other table = table
  stands_only (Status t) other table = table
  stands_only Done other table = table
  stands_only Gone other table = table
  stands_only (Refused e) other table = table

  pub never_else : (r : Reply T) (g : ℕ) (t : Told) (before : History) (u : Told) → Visited term key old_text new_text Look (ServedAnswer r g) t before u
      → ((x : Arc OperatorTable Global) (y : Quotes) → r ≡ Standing x y → ⊥) → ⊥
  never_else r g t before u v other = stands_only r other v.1.suits

  pub never_waits : (on : On) (g : ℕ) (t : Told) (before : History) (u : Told) → Visited term key old_text new_text Look (WaitsAnswer on g) t before u → ⊥
  never_waits on g t before u v = look_serves t.engine t.goals before (v.1.waiting look refl)

  pub looked_standing : (r : Reply T) (g : ℕ) (t : Told) (before : History) (u : Told) (ops : Arc OperatorTable Global) (quotes : Quotes)
      → Visited term key old_text new_text Look (ServedAnswer r g) t before u
      → r ≡ Standing ops quotes
      → Looks t (arc_value ops) u
  looked_standing r g t before u ops quotes v is =
      let s = v.1.serves look refl
      in let said : s.0 ≡ standing (arc_value ops) quotes = subst (λ (x : Reply T). Says term new_text x s.0) is s.2
      in record {
        before = before;
        quotes = quotes;
        update = v.1.update;
        entries = v.0;
        served = s.1 ∙ ap (λ x. answers x v.1.update) said;
        told = v.1.told;
      }
