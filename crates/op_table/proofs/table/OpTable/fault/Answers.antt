use Rattle.std.proofs.Common.{◌≡◌, ◌<◌, true, false, sym, ap, ◌∙◌, arith}
use Rattle.std.specs.Prelude.{bytes_eq, codes}
use Rattle.std.specs.Option.{option_map}
use Rattle.std.specs.Str.{chars}
use Rattle.pl_model.specs.OperatorTable.{is_reserved, stands_beside, place_of}
use Rattle.op_table.specs.Faults.{fault_of}
use Rattle.op_table.proofs.Refusals.{refused_comma, allowed_removal, refused_beside, allowed}
use Rattle.op_table.proofs.table.OpTable.fault.Goals as goal

pub returns-then-is_spelled : goal.returns-then-is_spelled
unfolding chars
returns-then-is_spelled c =
    sym (ap (option_map fault_of) (refused_comma c.args.self.now c.args.pri c.args.kind c.args.name.now c.if-pri-gt-HIGHEST_PRIORITY.false (sym c.is_spelled.ensures ∙ c.if-is_spelled.true)))

pub returns-then-pri-eq0 : goal.returns-then-pri-eq0
unfolding chars
returns-then-pri-eq0 c =
    let no_comma : bytes_eq c.args.name.now (codes ",") ≡ false = sym c.is_spelled.ensures ∙ c.if-is_spelled.false in
    let not_reserved : is_reserved c.args.name.now ≡ false = sym c.is_reserved.ensures ∙ c.if-is_reserved.false in
    sym (ap (option_map fault_of) (allowed_removal c.args.self.now c.args.pri c.args.kind c.args.name.now c.if-pri-gt-HIGHEST_PRIORITY.false no_comma not_reserved c.if-pri-eq0.true))

pub returns-then-stands_beside : goal.returns-then-stands_beside
unfolding chars
returns-then-stands_beside c =
    let no_comma : bytes_eq c.args.name.now (codes ",") ≡ false = sym c.is_spelled.ensures ∙ c.if-is_spelled.false in
    let not_reserved : is_reserved c.args.name.now ≡ false = sym c.is_reserved.ensures ∙ c.if-is_reserved.false in
    let positive : 0 < c.args.pri = omega (arith, c.if-pri-eq0.false) in
    let beside : stands_beside c.args.self.now c.args.name.now (place_of c.args.kind) ≡ true =
    ap (stands_beside c.args.self.now c.args.name.now) (sym c.place_of.ensures) ∙ sym c.stands_beside.ensures ∙ c.if-stands_beside.true in
    sym (ap (option_map fault_of) (refused_beside c.args.self.now c.args.pri c.args.kind c.args.name.now c.if-pri-gt-HIGHEST_PRIORITY.false no_comma not_reserved positive beside))

pub returns : goal.returns
unfolding chars
returns c =
    let no_comma : bytes_eq c.args.name.now (codes ",") ≡ false = sym c.is_spelled.ensures ∙ c.if-is_spelled.false in
    let not_reserved : is_reserved c.args.name.now ≡ false = sym c.is_reserved.ensures ∙ c.if-is_reserved.false in
    let positive : 0 < c.args.pri = omega (arith, c.if-pri-eq0.false) in
    let apart : stands_beside c.args.self.now c.args.name.now (place_of c.args.kind) ≡ false =
    ap (stands_beside c.args.self.now c.args.name.now) (sym c.place_of.ensures) ∙ sym c.stands_beside.ensures ∙ c.if-stands_beside.false in
    sym (ap (option_map fault_of) (allowed c.args.self.now c.args.pri c.args.kind c.args.name.now c.if-pri-gt-HIGHEST_PRIORITY.false no_comma not_reserved positive apart))
