use Rattle.std.proofs.Common.{◌<◌, refl, sym, ap, ◌∙◌, arith}
use Rattle.std.specs.Prelude.{is_some}
use Rattle.std.specs.Str.{chars}
use Rattle.op_table.proofs.Refusals.{refused_priority, refused_comma, refused_reserved, allowed_removal}
use Rattle.source_check.proofs.Refusing.{beside_refused}
use Rattle.source_check.proofs.operators.is_refused.Goals as goal

pub returns-then-priority-gt-HIGHEST_PRIORITY : goal.returns-then-priority-gt-HIGHEST_PRIORITY
returns-then-priority-gt-HIGHEST_PRIORITY c =
    sym (ap is_some (refused_priority c.args.table.now c.args.priority c.args.kind c.args.name.now c.if-priority-gt-HIGHEST_PRIORITY.true))

pub returns-then-is_spelled : goal.returns-then-is_spelled
unfolding chars
returns-then-is_spelled c =
    sym (ap is_some (refused_comma c.args.table.now c.args.priority c.args.kind c.args.name.now c.if-priority-gt-HIGHEST_PRIORITY.false (sym c.is_spelled.ensures ∙ c.if-is_spelled.true)))

pub returns-then-is_reserved : goal.returns-then-is_reserved
unfolding chars
returns-then-is_reserved c =
    sym (ap is_some (refused_reserved c.args.table.now c.args.priority c.args.kind c.args.name.now c.if-priority-gt-HIGHEST_PRIORITY.false (sym c.is_spelled.ensures ∙ c.if-is_spelled.false) (sym c.is_reserved.ensures ∙ c.if-is_reserved.true)))

pub returns-then-priority-eq0 : goal.returns-then-priority-eq0
unfolding chars
returns-then-priority-eq0 c =
    sym (ap is_some (allowed_removal c.args.table.now c.args.priority c.args.kind c.args.name.now c.if-priority-gt-HIGHEST_PRIORITY.false (sym c.is_spelled.ensures ∙ c.if-is_spelled.false) (sym c.is_reserved.ensures ∙ c.if-is_reserved.false) c.if-priority-eq0.true))

pub returns : goal.returns
unfolding chars
returns c =
    let positive : 0 < c.args.priority = omega (arith, c.if-priority-eq0.false) in
    c.stands_beside.ensures
    ∙ sym (beside_refused c.args.table.now c.args.priority c.args.kind c.args.name.now c.if-priority-gt-HIGHEST_PRIORITY.false (sym c.is_spelled.ensures ∙ c.if-is_spelled.false) (sym c.is_reserved.ensures ∙ c.if-is_reserved.false) positive _ refl)
