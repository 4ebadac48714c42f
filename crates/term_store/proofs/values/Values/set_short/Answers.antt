use Rattle.std.proofs.Common.{◌<◌, [], length, set, ap, ◌∙◌}
use Rattle.term_store.specs.Shorts.{value_word}
use Rattle.term_store.proofs.Shorting.{inside_values, plain_value, values_plain}
use Rattle.term_store.proofs.values.Values.set_short.Goals as goal

pub returns : goal.returns
returns c =
    let ss = c.self.inside.shorts.items in
    let bs = c.self.inside.wides.items in
    let s = c.args.short in
    let inside : c.args.slot < length ss = inside_values bs ss c.args.self.now c.args.slot c.self.view_is c.requires.slot in
    (values_plain bs ss c.args.slot s (value_word [] s) c.self.invariant inside c.requires.plain (plain_value bs [] s c.requires.plain)).1
    ∙ ap (λ vs. set vs c.args.slot (value_word [] s)) c.self.view_is
