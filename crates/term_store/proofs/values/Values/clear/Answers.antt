use Rattle.std.proofs.Common.{◌<◌, length, set, None, ap, ◌∙◌}
use Rattle.term_store.proofs.Shorting.{inside_values, values_cleared}
use Rattle.term_store.proofs.values.Values.clear.Goals as goal

pub returns : goal.returns
returns c =
    let ss = c.self.inside.shorts.items in
    let bs = c.self.inside.wides.items in
    let inside : c.args.slot < length ss = inside_values bs ss c.args.self.now c.args.slot c.self.view_is c.requires in
    (values_cleared bs c.forget_at.new.wides.items ss c.args.slot c.self.invariant inside c.forget_at.ensures).1
    ∙ ap (λ vs. set vs c.args.slot None) c.self.view_is
