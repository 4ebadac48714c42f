-- What a look is answered.
use Rattle.std.proofs.Common.{◌≡◌, ℕ, length, Ok, refl, sym, ap, ◌∙◌, subst}
use Rattle.pl_term.specs.Tree.{Chars, Tree}
use Rattle.pl_model.specs.History.{History}
use Rattle.pl_model.specs.Requests.{look}
use Rattle.pl_model.specs.Requests as requests
use Rattle.pl_model.specs.Service.{answers, waits, serve, served_now}
use Rattle.world_api.specs.declared.reply.Reply.{Reply}
use Rattle.world_api.specs.declared.reply.Reply.TheVariants.{Standing as ReplyStanding, Clauses, Procedures, Flags, Operators, Named, Message, NoMessage, Status, Done, Gone, Refused}
use Rattle.world_api.specs.declared.visit.Visit.TheVariants.{Look}
use Rattle.world_api.specs.declared.answer.Answer.TheVariants.{Served}
use Rattle.world_api.specs.Told.{Told}
use Rattle.world_api.specs.Replies.{HasTable}
use Rattle.world_api.specs.Answers.{Visited}
use Rattle.pl_consult.specs.declared.looks.Standing.{Standing as StandingOf}
use Rattle.pl_consult.specs.Steps.{LooksSo, IsStanding, IsLook}

-- A look never waits, and tells the operators and the flag.
pub look_serves : (e goals : ℕ) (h : History) → served_now e goals h look ≡ waits → ⊥
unfolding serve
look_serves e goals h is = absurd (cc)

said : (r : Reply Tree) → HasTable r → IsStanding r
said (ReplyStanding o q) has = tt
said (Clauses f) has = absurd has
said (Procedures ps) has = absurd has
said (Flags fs) has = absurd has
said (Operators os) has = absurd has
said (Named n) has = absurd has
said (Message t) has = absurd has
said NoMessage has = absurd has
said (Status t) has = absurd has
said Done has = absurd has
said Gone has = absurd has
said (Refused e) has = absurd has

module _ {K : Type 0} (term : (ℕ → Chars) → Tree → Tree) (key : Tree → K) (text other : ℕ → Chars) where
  pub look_told : (r : Reply Tree) (g : ℕ) (t : Told) (before : History) (u : Told)
      → Visited term key text other Look (Served r g) t before u
      → IsStanding r
  look_told r g t before u v = said r v.1.suits

  pub look_looked : (r : Reply Tree) (g : ℕ) (t : Told) (before : History) (u : Told) (l : StandingOf)
      → Visited term key text other Look (Served r g) t before u
      → IsLook r l
      → LooksSo (Ok l) t u
  look_looked (ReplyStanding ops quotes) g t before u l v is =
      let s = v.1.serves look refl in
      subst (λ (k : StandingOf). LooksSo (Ok k) t u) (sym is)
      (record {
        before = before;
        update = v.1.update;
        follows = v.0;
        served = s.1 ∙ ap (λ (q : requests.Reply). answers q v.1.update) s.2;
        told = v.1.told;
      })
  look_looked (Clauses f) g t before u l v is = absurd is
  look_looked (Procedures ps) g t before u l v is = absurd is
  look_looked (Flags fs) g t before u l v is = absurd is
  look_looked (Operators os) g t before u l v is = absurd is
  look_looked (Named n) g t before u l v is = absurd is
  look_looked (Message m) g t before u l v is = absurd is
  look_looked NoMessage g t before u l v is = absurd is
  look_looked (Status m) g t before u l v is = absurd is
  look_looked Done g t before u l v is = absurd is
  look_looked Gone g t before u l v is = absurd is
  look_looked (Refused e) g t before u l v is = absurd is
