use Rattle.std.proofs.Common.{◌≡◌, true, false, sym, ◌∙◌}
use Rattle.std.specs.Prelude.{bytes_eq, codes}
use Rattle.std.specs.Str.{chars}
use Rattle.source_check.proofs.spelled.kind_named.Goals as goal

pub returns-then-is_spelled : goal.returns-then-is_spelled
unfolding chars
returns-then-is_spelled c =
    let x0 : bytes_eq c.args.name.now (codes "xfx") ≡ true = sym c.is_spelled.ensures ∙ c.if-is_spelled.true in
    rw x0

pub returns-then-is_spelled-2 : goal.returns-then-is_spelled-2
unfolding chars
returns-then-is_spelled-2 c =
    let x0 : bytes_eq c.args.name.now (codes "xfx") ≡ false = sym c.is_spelled.ensures ∙ c.if-is_spelled.false in
    let x1 : bytes_eq c.args.name.now (codes "xfy") ≡ true = sym c.is_spelled-else-is_spelled.ensures ∙ c.if-is_spelled-2.true in
    rw (x0, x1)

pub returns-then-is_spelled-3 : goal.returns-then-is_spelled-3
unfolding chars
returns-then-is_spelled-3 c =
    let x0 : bytes_eq c.args.name.now (codes "xfx") ≡ false = sym c.is_spelled.ensures ∙ c.if-is_spelled.false in
    let x1 : bytes_eq c.args.name.now (codes "xfy") ≡ false = sym c.is_spelled-else-is_spelled.ensures ∙ c.if-is_spelled-2.false in
    let x2 : bytes_eq c.args.name.now (codes "yfx") ≡ true = sym c.is_spelled-else-is_spelled-2.ensures ∙ c.if-is_spelled-3.true in
    rw (x0, x1, x2)

pub returns-then-is_spelled-4 : goal.returns-then-is_spelled-4
unfolding chars
returns-then-is_spelled-4 c =
    let x0 : bytes_eq c.args.name.now (codes "xfx") ≡ false = sym c.is_spelled.ensures ∙ c.if-is_spelled.false in
    let x1 : bytes_eq c.args.name.now (codes "xfy") ≡ false = sym c.is_spelled-else-is_spelled.ensures ∙ c.if-is_spelled-2.false in
    let x2 : bytes_eq c.args.name.now (codes "yfx") ≡ false = sym c.is_spelled-else-is_spelled-2.ensures ∙ c.if-is_spelled-3.false in
    let x3 : bytes_eq c.args.name.now (codes "fy") ≡ true = sym c.is_spelled-else-is_spelled-3.ensures ∙ c.if-is_spelled-4.true in
    rw (x0, x1, x2, x3)

pub returns-then-is_spelled-5 : goal.returns-then-is_spelled-5
unfolding chars
returns-then-is_spelled-5 c =
    let x0 : bytes_eq c.args.name.now (codes "xfx") ≡ false = sym c.is_spelled.ensures ∙ c.if-is_spelled.false in
    let x1 : bytes_eq c.args.name.now (codes "xfy") ≡ false = sym c.is_spelled-else-is_spelled.ensures ∙ c.if-is_spelled-2.false in
    let x2 : bytes_eq c.args.name.now (codes "yfx") ≡ false = sym c.is_spelled-else-is_spelled-2.ensures ∙ c.if-is_spelled-3.false in
    let x3 : bytes_eq c.args.name.now (codes "fy") ≡ false = sym c.is_spelled-else-is_spelled-3.ensures ∙ c.if-is_spelled-4.false in
    let x4 : bytes_eq c.args.name.now (codes "fx") ≡ true = sym c.is_spelled-else-is_spelled-4.ensures ∙ c.if-is_spelled-5.true in
    rw (x0, x1, x2, x3, x4)

pub returns-then-is_spelled-6 : goal.returns-then-is_spelled-6
unfolding chars
returns-then-is_spelled-6 c =
    let x0 : bytes_eq c.args.name.now (codes "xfx") ≡ false = sym c.is_spelled.ensures ∙ c.if-is_spelled.false in
    let x1 : bytes_eq c.args.name.now (codes "xfy") ≡ false = sym c.is_spelled-else-is_spelled.ensures ∙ c.if-is_spelled-2.false in
    let x2 : bytes_eq c.args.name.now (codes "yfx") ≡ false = sym c.is_spelled-else-is_spelled-2.ensures ∙ c.if-is_spelled-3.false in
    let x3 : bytes_eq c.args.name.now (codes "fy") ≡ false = sym c.is_spelled-else-is_spelled-3.ensures ∙ c.if-is_spelled-4.false in
    let x4 : bytes_eq c.args.name.now (codes "fx") ≡ false = sym c.is_spelled-else-is_spelled-4.ensures ∙ c.if-is_spelled-5.false in
    let x5 : bytes_eq c.args.name.now (codes "xf") ≡ true = sym c.is_spelled-else-is_spelled-5.ensures ∙ c.if-is_spelled-6.true in
    rw (x0, x1, x2, x3, x4, x5)

pub returns-then-is_spelled-7 : goal.returns-then-is_spelled-7
unfolding chars
returns-then-is_spelled-7 c =
    let x0 : bytes_eq c.args.name.now (codes "xfx") ≡ false = sym c.is_spelled.ensures ∙ c.if-is_spelled.false in
    let x1 : bytes_eq c.args.name.now (codes "xfy") ≡ false = sym c.is_spelled-else-is_spelled.ensures ∙ c.if-is_spelled-2.false in
    let x2 : bytes_eq c.args.name.now (codes "yfx") ≡ false = sym c.is_spelled-else-is_spelled-2.ensures ∙ c.if-is_spelled-3.false in
    let x3 : bytes_eq c.args.name.now (codes "fy") ≡ false = sym c.is_spelled-else-is_spelled-3.ensures ∙ c.if-is_spelled-4.false in
    let x4 : bytes_eq c.args.name.now (codes "fx") ≡ false = sym c.is_spelled-else-is_spelled-4.ensures ∙ c.if-is_spelled-5.false in
    let x5 : bytes_eq c.args.name.now (codes "xf") ≡ false = sym c.is_spelled-else-is_spelled-5.ensures ∙ c.if-is_spelled-6.false in
    let x6 : bytes_eq c.args.name.now (codes "yf") ≡ true = sym c.is_spelled-else-is_spelled-6.ensures ∙ c.if-is_spelled-7.true in
    rw (x0, x1, x2, x3, x4, x5, x6)

pub returns-else-is_spelled-7 : goal.returns-else-is_spelled-7
unfolding chars
returns-else-is_spelled-7 c =
    let x0 : bytes_eq c.args.name.now (codes "xfx") ≡ false = sym c.is_spelled.ensures ∙ c.if-is_spelled.false in
    let x1 : bytes_eq c.args.name.now (codes "xfy") ≡ false = sym c.is_spelled-else-is_spelled.ensures ∙ c.if-is_spelled-2.false in
    let x2 : bytes_eq c.args.name.now (codes "yfx") ≡ false = sym c.is_spelled-else-is_spelled-2.ensures ∙ c.if-is_spelled-3.false in
    let x3 : bytes_eq c.args.name.now (codes "fy") ≡ false = sym c.is_spelled-else-is_spelled-3.ensures ∙ c.if-is_spelled-4.false in
    let x4 : bytes_eq c.args.name.now (codes "fx") ≡ false = sym c.is_spelled-else-is_spelled-4.ensures ∙ c.if-is_spelled-5.false in
    let x5 : bytes_eq c.args.name.now (codes "xf") ≡ false = sym c.is_spelled-else-is_spelled-5.ensures ∙ c.if-is_spelled-6.false in
    let x6 : bytes_eq c.args.name.now (codes "yf") ≡ false = sym c.is_spelled-else-is_spelled-6.ensures ∙ c.if-is_spelled-7.false in
    rw (x0, x1, x2, x3, x4, x5, x6)
