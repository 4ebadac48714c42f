use Rattle.std.proofs.Common.{get_or, pos, sym, ap, ◌∙◌}
use Rattle.term_store.specs.declared.shorts.Short.TheVariants.{Number}
use Rattle.term_store.specs.Shorts.{WordList, long_word}
use Rattle.term_store.proofs.Shorting.{word_of_short}
use Rattle.term_store.proofs.shorts.Words.short.Goals as goal

pub returns : goal.returns
returns c =
    let ss = c.self.inside.shorts.items in
    let bs = c.self.inside.wides.items in
    record {
      beyond = bs;
      is =
          ap (long_word bs) (c.short_at.ensures ∙ ap (λ xs. get_or xs c.args.at (Number (pos 0))) c.deref.ensures.value)
          ∙ sym (word_of_short bs ss c.args.self.now.items c.args.at (ap (λ (v : WordList). v.items) c.self.view_is) c.requires);
    }
