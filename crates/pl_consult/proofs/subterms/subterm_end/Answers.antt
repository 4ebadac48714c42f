use Rattle.std.proofs.Common.{◌≡◌, ◌+◌, ◌-◌, suc, add-one, arith, sym}
use Rattle.std.proofs.Math.Seq.{drop-cons}
use Rattle.std.proofs.Common.{◌∷◌, drop, ap, ◌∙◌}
use Rattle.pl_consult.proofs.ReadTerms.{Reading, reading_start, reading_more, reading-end, reading-past, reading-within, StartsTerm-within}
use Rattle.pl_consult.proofs.subterms.subterm_end.Goals as goal
use Rattle.pl_consult.proofs.subterms.subterm_end.Goals.{After-arity}

pub loop-i-init : goal.loop-i-init
loop-i-init c = reading_start c.args.all.now c.args.at c.requires

reading_next : (c : After-arity) → Reading c.args.all.now c.args.at (c.loop-i.i + 1) (c.loop-i.pending - 1 + c.arity.result)
reading_next c =
    let k : c.loop-i.pending ≡ suc (c.loop-i.pending - 1) = omega arith in
    let here = drop-cons c.args.all.now c.loop-i.i c.index-all-i.result (omega arith) in
    let e : drop c.loop-i.i c.args.all.now ≡ c.index-all-i.result ∷ drop (suc c.loop-i.i) c.args.all.now =
    here ∙ ap (λ n. n ∷ drop (suc c.loop-i.i) c.args.all.now) (sym c.index-all-i.is) in
    rw (add-one, c.arity.ensures)
    (reading_more c.args.all.now c.args.at c.loop-i.i (c.loop-i.pending - 1) c.index-all-i.result e
    (rw k at c.loop-i.invariant))

pub returns-then-pending-eq0-clause-ends : goal.returns-then-pending-eq0-clause-ends
returns-then-pending-eq0-clause-ends c =
    reading-end c.args.all.now c.args.at c.loop-i.i (rw c.if-pending-eq0.true at c.loop-i.invariant)

pub overflow_add-pending : goal.overflow_add-pending
overflow_add-pending c =
    let h = reading-within _ _ _ _ (reading_next (goal.at.overflow_add-pending c).After-arity) in
    omega arith

pub loop-i-preserved : goal.loop-i-preserved
loop-i-preserved c = reading_next (goal.at.loop-i-preserved c).After-arity

pub returns-clause-ends : goal.returns-clause-ends
returns-clause-ends c =
    omega (arith, StartsTerm-within c.args.all.now c.args.at c.requires, reading-past c.args.all.now c.args.at c.loop-i.i c.loop-i.pending (omega arith) c.loop-i.invariant)
