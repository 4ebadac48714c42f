use Rattle.std.proofs.Common.{ap, ◌∙◌, ◌-◌, take, drop, length, arith}
use Rattle.std.specs.Prelude.{reverse}
use Rattle.std.proofs.lemmas.List.{length-reverse}
use Rattle.builtin_arithmetic.proofs.ListedValues.{reverse-take}
use Rattle.builtin_arithmetic.proofs.value_list.Values.discard.Goals as goal

pub returns : goal.returns
returns c =
    let n = c.len.ensures ∙ c.self.inside.all.ok.0 in
    let size = length-reverse c.self.inside.all.items in
    let view = ap length c.self.view_is in
    ap reverse (c.truncate.ensures.items ∙ ap (λ k. take (k - c.args.count) c.self.inside.all.items) n)
    ∙ reverse-take c.self.inside.all.items c.args.count (omega (arith, c.requires))
    ∙ ap (drop c.args.count) c.self.view_is
