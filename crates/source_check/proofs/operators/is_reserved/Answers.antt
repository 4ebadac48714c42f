use Rattle.std.proofs.Common.{◌≡◌, Bool, true, false, refl, sym, ◌∙◌}
use Rattle.std.specs.Prelude.{bytes_eq, codes, ◌||◌}
use Rattle.std.specs.Str.{chars}
use Rattle.source_check.proofs.operators.is_reserved.Goals as goal

last : (b : Bool) → b ≡ (b || false)
last true = refl
last false = refl

pub returns-then-is_spelled : goal.returns-then-is_spelled
unfolding chars
returns-then-is_spelled c =
    let dot : bytes_eq c.args.name.now (codes ".") ≡ true = sym c.is_spelled.ensures ∙ c.if-is_spelled.true in
    rw dot

pub returns-then-is_spelled-2 : goal.returns-then-is_spelled-2
unfolding chars
returns-then-is_spelled-2 c =
    let dot : bytes_eq c.args.name.now (codes ".") ≡ false = sym c.is_spelled.ensures ∙ c.if-is_spelled.false in
    let bar : bytes_eq c.args.name.now (codes "|") ≡ true = sym c.is_spelled-2.ensures ∙ c.if-is_spelled-2.true in
    rw (dot, bar)

pub returns-then-is_spelled-3 : goal.returns-then-is_spelled-3
unfolding chars
returns-then-is_spelled-3 c =
    let dot : bytes_eq c.args.name.now (codes ".") ≡ false = sym c.is_spelled.ensures ∙ c.if-is_spelled.false in
    let bar : bytes_eq c.args.name.now (codes "|") ≡ false = sym c.is_spelled-2.ensures ∙ c.if-is_spelled-2.false in
    let list : bytes_eq c.args.name.now (codes "[]") ≡ true = sym c.is_spelled-3.ensures ∙ c.if-is_spelled-3.true in
    rw (dot, bar, list)

pub returns : goal.returns
unfolding chars
returns c =
    let dot : bytes_eq c.args.name.now (codes ".") ≡ false = sym c.is_spelled.ensures ∙ c.if-is_spelled.false in
    let bar : bytes_eq c.args.name.now (codes "|") ≡ false = sym c.is_spelled-2.ensures ∙ c.if-is_spelled-2.false in
    let list : bytes_eq c.args.name.now (codes "[]") ≡ false = sym c.is_spelled-3.ensures ∙ c.if-is_spelled-3.false in
    let braces : bytes_eq c.args.name.now (codes "{}") ≡ c.is_spelled-4.result = sym c.is_spelled-4.ensures in
    rw (dot, bar, list, braces) (last c.is_spelled-4.result)
