use Rattle.std.proofs.Common.{◌≡◌, ◌∷◌, [], false, length, get_or, refl, ap, ◌∙◌, arith, length-append, OnErr, Result, Ok, Err}
use Rattle.term_store.proofs.Marked.{false_behind, marked_last, marked_same}
use Rattle.term_store.proofs.made_ground.mark_at.Goals as goal

on_err : {T E : Type 0} {P : Type 0} (r : Result T E) → P → OnErr r P
on_err (Ok x) p = tt
on_err (Err e) p = p

pub loop-grounds-init : goal.loop-grounds-init
loop-grounds-init c = record { low = c.requires; same = λ j. refl }

pub loop-grounds-preserved : goal.loop-grounds-preserved
loop-grounds-preserved c =
    let inv = c.loop-grounds.invariant in
    let pushed = c.in_ok-push.ensures.items in
    record {
      low = omega (arith, ap length pushed, length-append c.loop-grounds.grounds.items (false ∷ []), c.loop-grounds-test.true, c.len.ensures, c.loop-grounds.grounds.ok.0);
      same = λ j. ap (λ l. get_or l j false) pushed ∙ false_behind c.loop-grounds.grounds.items j ∙ inv.same j;
    }

pub returns-in_err-push-clause-kept : goal.returns-in_err-push-clause-kept
returns-in_err-push-clause-kept c =
    let inv = c.loop-grounds.invariant in
    let kept = c.in_err-push.ensures.items in
    on_err c.from_residual.result
    (marked_same c.args.k c.args.grounds.now.items c.push.new.self.items (omega (arith, inv.low, ap length kept))
    (λ j. ap (λ l. get_or l j false) kept ∙ inv.same j))

pub returns-in_err-push-2-clause-kept : goal.returns-in_err-push-2-clause-kept
returns-in_err-push-2-clause-kept c =
    let inv = c.loop-grounds.invariant in
    let kept = c.in_err-push-2.ensures.items in
    on_err c.from_residual-in_err-push-2.result
    (marked_same c.args.k c.args.grounds.now.items c.push-2.new.self.items (omega (arith, inv.low, ap length kept))
    (λ j. ap (λ l. get_or l j false) kept ∙ inv.same j))

pub returns-clause-ok : goal.returns-clause-ok
returns-clause-ok c =
    let inv = c.loop-grounds.invariant in
    let whole : length c.loop-grounds.grounds.items ≡ c.args.k = omega (arith, inv.low, c.loop-grounds-test.false, c.len.ensures, c.loop-grounds.grounds.ok.0) in
    marked_last c.args.k c.args.grounds.now.items c.loop-grounds.grounds.items c.push-2.new.self.items whole inv.same c.in_ok-push-2.ensures.items
