use Rattle.std.proofs.Common.{◌≡◌, Option, ℕ, sym, ap₂, subst, ◌∙◌}
use Rattle.std.specs.Prelude.{IfOk}
use Rattle.pl_consult.specs.Hands.{place_in}
use Rattle.pl_consult.proofs.HandLaws.{stands_there}
use Rattle.pl_consult.proofs.file_script.FileScript.place_at_hand.Goals as goal

pub returns : goal.returns
returns c job cs x state ops quotes stands =
    subst (λ (p : Option ℕ). IfOk c.place_at.result (λ o. o ≡ p))
    (ap₂ (λ o q. place_in c.args.self.now.consult c.args.self.now.stage o q) (sym ops) (sym quotes) ∙ stands_there c.args.self.now job cs x state stands)
    c.place_at.ensures
