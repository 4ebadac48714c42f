use Rattle.std.proofs.Common.{get_or, pos, sym, ap, ◌∙◌}
use Rattle.term_store.specs.declared.shorts.Short.TheVariants.{Number}
use Rattle.term_store.specs.Shorts.{value_word}
use Rattle.term_store.proofs.Shorting.{value_of_short}
use Rattle.term_store.proofs.values.Values.short.Goals as goal

pub returns : goal.returns
returns c =
    let ss = c.self.inside.shorts.items in
    let bs = c.self.inside.wides.items in
    record {
      beyond = bs;
      is =
          ap (value_word bs) (c.short_at.ensures ∙ ap (λ xs. get_or xs c.args.slot (Number (pos 0))) c.deref.ensures.value)
          ∙ sym (value_of_short bs ss c.args.self.now c.args.slot c.self.view_is c.requires);
    }
