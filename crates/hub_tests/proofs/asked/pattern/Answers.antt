use Rattle.std.proofs.Common.{List, [], ℕ, sym, subst}
use Rattle.std.specs.Prelude.{IsSome}
use Rattle.std.specs.List.{All}
use Rattle.std.proofs.lemmas.List.Elements.{All-cons, All-nil}
use Rattle.std.proofs.lemmas.Result.{IfOk-weaker}
use Rattle.hub_tests.proofs.HeldNames.{neck_some, some_fixed}
use Rattle.hub_tests.proofs.asked.pattern.Goals as goal

pub returns-in-None : goal.returns-in-None
returns-in-None c =
    IfOk-weaker c.variable.result _ _
    (λ t e m stand has. subst (λ (l : List ℕ). All (λ k. IsSome (m k)) l) (sym e) (All-cons (λ k. IsSome (m k)) 12 [] (some_fixed m stand 12 neck_some) (All-nil (λ k. IsSome (m k)))))
    c.variable.ensures
