use Rattle.std.proofs.Common.{◌≡◌, ◌<◌, true, false, sym, ap, ◌∙◌, arith}
use Rattle.std.specs.Prelude.{bytes_eq, codes}
use Rattle.std.specs.Option.{option_map}
use Rattle.std.specs.Str.{chars}
use Rattle.pl_model.specs.OperatorTable.{is_reserved, stands_beside, place_of}
use Rattle.op_table.specs.Faults.{fault_of}
use Rattle.op_table.proofs.Refusals.{refused_comma, allowed_removal, refused_beside, allowed}
use Rattle.hub_database.proofs.operators.operator_fault.Goals as goal

pub returns-then-is_spelled : goal.returns-then-is_spelled
unfolding chars
returns-then-is_spelled c =
    sym (ap (option_map fault_of) (refused_comma c.args.table.now c.args.operator.now.priority c.args.operator.now.kind c.args.operator.now.name c.if-operator-gt-HIGHEST_PRIORITY.false (sym c.is_spelled.ensures ∙ c.if-is_spelled.true)))

pub returns-then-operator-eq0 : goal.returns-then-operator-eq0
unfolding chars
returns-then-operator-eq0 c =
    let no_comma : bytes_eq c.args.operator.now.name (codes ",") ≡ false = sym c.is_spelled.ensures ∙ c.if-is_spelled.false in
    let not_reserved : is_reserved c.args.operator.now.name ≡ false = sym c.is_reserved.ensures ∙ c.if-is_reserved.false in
    sym (ap (option_map fault_of) (allowed_removal c.args.table.now c.args.operator.now.priority c.args.operator.now.kind c.args.operator.now.name c.if-operator-gt-HIGHEST_PRIORITY.false no_comma not_reserved c.if-operator-eq0.true))

pub returns-then-stands_beside : goal.returns-then-stands_beside
unfolding chars
returns-then-stands_beside c =
    let no_comma : bytes_eq c.args.operator.now.name (codes ",") ≡ false = sym c.is_spelled.ensures ∙ c.if-is_spelled.false in
    let not_reserved : is_reserved c.args.operator.now.name ≡ false = sym c.is_reserved.ensures ∙ c.if-is_reserved.false in
    let positive : 0 < c.args.operator.now.priority = omega (arith, c.if-operator-eq0.false) in
    let beside : stands_beside c.args.table.now c.args.operator.now.name (place_of c.args.operator.now.kind) ≡ true =
    sym c.stands_beside.ensures ∙ c.if-stands_beside.true in
    sym (ap (option_map fault_of) (refused_beside c.args.table.now c.args.operator.now.priority c.args.operator.now.kind c.args.operator.now.name c.if-operator-gt-HIGHEST_PRIORITY.false no_comma not_reserved positive beside))

pub returns : goal.returns
unfolding chars
returns c =
    let no_comma : bytes_eq c.args.operator.now.name (codes ",") ≡ false = sym c.is_spelled.ensures ∙ c.if-is_spelled.false in
    let not_reserved : is_reserved c.args.operator.now.name ≡ false = sym c.is_reserved.ensures ∙ c.if-is_reserved.false in
    let positive : 0 < c.args.operator.now.priority = omega (arith, c.if-operator-eq0.false) in
    let apart : stands_beside c.args.table.now c.args.operator.now.name (place_of c.args.operator.now.kind) ≡ false =
    sym c.stands_beside.ensures ∙ c.if-stands_beside.false in
    sym (ap (option_map fault_of) (allowed c.args.table.now c.args.operator.now.priority c.args.operator.now.kind c.args.operator.now.name c.if-operator-gt-HIGHEST_PRIORITY.false no_comma not_reserved positive apart))
