use Rattle.std.proofs.Common.{◌≡◌, ◌∷◌, suc, ap, ◌∙◌, drop, sym, arith, add-one}
use Rattle.std.proofs.Math.Seq.{drop-cons}
use Rattle.pl_term.specs.Tree.{Chars}
use Rattle.source_check.proofs.Refusing.{step, when_none}
use Rattle.source_check.proofs.operators.put_operators.Goals as goal

pub loop-name-preserved : goal.loop-name-preserved
loop-name-preserved c =
    let all = c.args.names.now in
    let i = c.loop-name.name-index in
    let at : drop i all ≡ c.name-item.result ∷ drop (suc i) all =
    drop-cons all i c.name-item.result (omega (arith, c.loop-name-test.true)) ∙ ap (λ (f : Chars). f ∷ drop (suc i) all) (sym c.name-item.is) in
    rw add-one (
      (step c.loop-name.table c.add.new.self c.args.priority c.args.kind c.name-item.result (drop (suc i) all) (drop i all) at c.loop-name.invariant.0 (when_none _ c.in-Ok.ensures.made)).0,
      (step c.loop-name.table c.add.new.self c.args.priority c.args.kind c.name-item.result (drop (suc i) all) (drop i all) at c.loop-name.invariant.0 (when_none _ c.in-Ok.ensures.made)).1
          ∙ c.loop-name.invariant.1,
    )
