-- What comes of a visit that asks for the operators.
use Rattle.std.proofs.Common.{◌≡◌, ℕ, List, ◌++◌, Option, refl, sym, ap, ◌∙◌}
use Rattle.std.specs.Prelude.{encode_utf8_all}
use Rattle.pl_term.specs.Tree.{Chars, Tree}
use Rattle.pl_model.specs.OperatorTable.{OperatorTable}
use Rattle.pl_model.specs.History.{Kind, History}
use Rattle.pl_model.specs.Requests.{Request, read_operators, standing}
use Rattle.pl_model.specs.Requests as requests
use Rattle.pl_model.specs.Service.{answers, waits, serve, served_now}
use Rattle.pl_model.specs.declared.grammar.Quotes.{Quotes}
use Rattle.world_api.specs.declared.reply.Reply.{Reply}
use Rattle.world_api.specs.declared.reply.Reply.TheVariants.{Standing, Clauses, Procedures, Flags, Operators, Named, Message, NoMessage, Status, Done, Gone, Refused}
use Rattle.world_api.specs.declared.visit.Visit.TheVariants.{ReadOperators}
use Rattle.world_api.specs.declared.answer.Answer.TheVariants.{Served}
use Rattle.world_api.specs.Told.{Told}
use Rattle.world_api.specs.Replies.{HasTable, Says}
use Rattle.world_api.specs.Answers.{Visited}
use Rattle.world_api.specs.Asked.{IsInAnswer}
use Rattle.world_api.specs.Gains.{Gains}
use Rattle.world_api.proofs.AskedLaws.{operators_ask_nothing}
use Rattle.world_builtins.specs.Operators.{Stands}
use Rattle.world_builtins.specs.Writing.{IsWritten}

-- The operators are read without waiting.
pub operators_are_read : (e goals : ℕ) (h : History) → served_now e goals h read_operators ≡ waits → ⊥
unfolding serve
operators_are_read e goals h is = absurd (cc)

-- A reply with these operators says just that.
pub stands_said : {T : Type 0} (term : (ℕ → Chars) → T → Tree) (text : ℕ → Chars) (r : Reply T) (t : OperatorTable) (reply : requests.Reply)
    → Stands r t → Says term text r reply → (quotes : Quotes) × (reply ≡ standing t quotes)
stands_said term text (Standing o q) t reply s is = (q, is ∙ ap (λ x. standing x q) (sym s))
stands_said term text (Clauses f) t reply s is = absurd s
stands_said term text (Procedures ps) t reply s is = absurd s
stands_said term text (Flags fs) t reply s is = absurd s
stands_said term text (Operators os) t reply s is = absurd s
stands_said term text (Named n) t reply s is = absurd s
stands_said term text (Message m) t reply s is = absurd s
stands_said term text NoMessage t reply s is = absurd s
stands_said term text (Status m) t reply s is = absurd s
stands_said term text Done t reply s is = absurd s
stands_said term text Gone t reply s is = absurd s
stands_said term text (Refused e) t reply s is = absurd s

-- A served visit has operators.
pub served_stands : {T K : Type 0} (term : (ℕ → Chars) → T → Tree) (key : T → K) (old_text new_text : ℕ → Chars) (r : Reply T) (g : ℕ) (old : Told) (before : History) (new : Told)
    → Visited term key old_text new_text ReadOperators (Served r g) old before new
    → HasTable r
served_stands term key old_text new_text r g old before new v = v.1.suits

-- The text of a term that was written under them.
pub text_written : {T K : Type 0} (term : (ℕ → Chars) → T → Tree) (key : T → K) (old_text new_text : ℕ → Chars) (r : Reply T) (g : ℕ) (old : Told) (before : History) (new : Told)
    (text : Tree → OperatorTable → Chars) (ops : OperatorTable) (t u : Tree) (out_old out_new : List ℕ)
    → Visited term key old_text new_text ReadOperators (Served r g) old before new
    → Stands r ops
    → out_new ≡ out_old ++ encode_utf8_all (text t ops)
    → t ≡ u
    → IsWritten (text u) old new out_old out_new
text_written term key old_text new_text r g old before new text ops t u out_old out_new v stands out same =
    let s = v.1.serves read_operators refl
    in let q : (quotes : Quotes) × (s.0 ≡ standing ops quotes) = stands_said term new_text r ops s.0 stands s.2
    in record {
      before = before;
      follows = v.0;
      operators = ops;
      quotes = q.0;
      update = v.1.update;
      served = s.1 ∙ ap (λ x. answers x v.1.update) q.1;
      told = v.1.told;
      out = out ∙ ap (λ x. out_old ++ encode_utf8_all (text x ops)) same;
    }

-- A visit for the operators asks for no text.
pub read_asks_nothing : {T K : Type 0} (term : (ℕ → Chars) → T → Tree) (key : T → K) (text : ℕ → Chars) (t : Told) (a b c : Option (List Chars)) → b ≡ a
    → Gains (IsInAnswer term key text ReadOperators t) b c → c ≡ a
read_asks_nothing term key text t a b c same gains = operators_ask_nothing term key text t b c gains ∙ same
