use Rattle.std.proofs.Common.{map, take, ap, ◌∙◌}
use Rattle.term_store.specs.Shorts.{value_word}
use Rattle.term_store.proofs.Shorting.{values_taken}
use Rattle.term_store.proofs.values.Values.truncate.Goals as goal

pub returns : goal.returns
returns c =
    let bs = c.self.inside.wides.items in
    ap (map (value_word bs)) c.truncate.ensures.items ∙ (values_taken bs c.self.inside.shorts.items c.args.count c.self.invariant).1
    ∙ ap (take c.args.count) c.self.view_is
