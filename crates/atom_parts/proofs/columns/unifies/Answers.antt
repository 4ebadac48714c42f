use Rattle.std.proofs.Common.{◌≡◌, List, [], take, drop, sym, subst}
use Rattle.std.proofs.lemmas.List.{at_drop_all}
use Rattle.atom_parts.specs.declared.columns.Column.{Column}
use Rattle.atom_parts.proofs.ColumnLaws.{AllMeet, meet_step, unify_all, unify_not_at}
use Rattle.atom_parts.proofs.columns.unifies.Goals as goal

pub returns : goal.returns
returns c =
    let cs = c.args.columns.now in
    let text = c.args.text.now in
    let none : drop c.loop-i.i cs ≡ [] = at_drop_all (λ (l : List Column). l) cs c.loop-i.i c.loop-i-test.false in
    sym (unify_all text cs (c.loop-i.invariant (subst (AllMeet text (take c.loop-i.i cs)) (sym none) tt)))

pub returns-then-not-fits : goal.returns-then-not-fits
returns-then-not-fits c = sym (unify_not_at c.args.text.now c.args.columns.now c.loop-i.i _ c.loop-i-test.true c.if-not-fits.ensures)

pub loop-i-init : goal.loop-i-init
loop-i-init c h = h

pub loop-i-preserved : goal.loop-i-preserved
loop-i-preserved c h =
    c.loop-i.invariant (meet_step c.args.text.now c.args.columns.now c.loop-i.i _ c.loop-i-test.true c.if-not-fits.ensures h)
