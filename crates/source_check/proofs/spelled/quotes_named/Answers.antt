use Rattle.std.proofs.Common.{◌≡◌, true, false, sym, ◌∙◌}
use Rattle.std.specs.Prelude.{bytes_eq, codes}
use Rattle.std.specs.Str.{chars}
use Rattle.source_check.proofs.spelled.quotes_named.Goals as goal

pub returns-then-is_spelled : goal.returns-then-is_spelled
unfolding chars
returns-then-is_spelled c =
    let x0 : bytes_eq c.args.name.now (codes "codes") ≡ true = sym c.is_spelled.ensures ∙ c.if-is_spelled.true in
    rw x0

pub returns-then-is_spelled-2 : goal.returns-then-is_spelled-2
unfolding chars
returns-then-is_spelled-2 c =
    let x0 : bytes_eq c.args.name.now (codes "codes") ≡ false = sym c.is_spelled.ensures ∙ c.if-is_spelled.false in
    let x1 : bytes_eq c.args.name.now (codes "chars") ≡ true = sym c.is_spelled-else-is_spelled.ensures ∙ c.if-is_spelled-2.true in
    rw (x0, x1)

pub returns-then-is_spelled-3 : goal.returns-then-is_spelled-3
unfolding chars
returns-then-is_spelled-3 c =
    let x0 : bytes_eq c.args.name.now (codes "codes") ≡ false = sym c.is_spelled.ensures ∙ c.if-is_spelled.false in
    let x1 : bytes_eq c.args.name.now (codes "chars") ≡ false = sym c.is_spelled-else-is_spelled.ensures ∙ c.if-is_spelled-2.false in
    let x2 : bytes_eq c.args.name.now (codes "atom") ≡ true = sym c.is_spelled-else-is_spelled-2.ensures ∙ c.if-is_spelled-3.true in
    rw (x0, x1, x2)

pub returns-else-is_spelled-3 : goal.returns-else-is_spelled-3
unfolding chars
returns-else-is_spelled-3 c =
    let x0 : bytes_eq c.args.name.now (codes "codes") ≡ false = sym c.is_spelled.ensures ∙ c.if-is_spelled.false in
    let x1 : bytes_eq c.args.name.now (codes "chars") ≡ false = sym c.is_spelled-else-is_spelled.ensures ∙ c.if-is_spelled-2.false in
    let x2 : bytes_eq c.args.name.now (codes "atom") ≡ false = sym c.is_spelled-else-is_spelled-2.ensures ∙ c.if-is_spelled-3.false in
    rw (x0, x1, x2)
