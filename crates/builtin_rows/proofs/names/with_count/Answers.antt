use Rattle.std.proofs.Common.{◌≡◌, ◌≤◌, ◌+◌, suc, length, drop, sym, refl, ap, ◌∙◌, arith}
use Rattle.builtin_rows.specs.Tables.{with_count}
use Rattle.builtin_rows.proofs.Finding.{count_here, count_past, count_none}
use Rattle.builtin_rows.proofs.names.with_count.Goals as goal

pub loop-row-init : goal.loop-row-init
loop-row-init c = refl

pub returns-then-row-arity : goal.returns-then-row-arity
returns-then-row-arity c =
    sym (c.loop-row.invariant ∙ count_here c.args.arity c.args.named.now c.loop-row.row-index _ c.loop-row-test.true c.if-row-arity.true)

pub loop-row-preserved : goal.loop-row-preserved
loop-row-preserved c =
    let next : suc c.loop-row.row-index ≡ c.loop-row.row-index + 1 = omega arith in
    c.loop-row.invariant
    ∙ count_past c.args.arity c.args.named.now c.loop-row.row-index _ c.loop-row-test.true c.if-row-arity.false
    ∙ ap (λ k. with_count c.args.arity (drop k c.args.named.now)) next

pub returns : goal.returns
returns c =
    let past : length c.args.named.now ≤ c.loop-row.row-index = omega arith in
    sym (c.loop-row.invariant ∙ count_none c.args.arity c.args.named.now c.loop-row.row-index past)
