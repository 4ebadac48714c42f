use Rattle.std.proofs.Common.{map, take, ap, ◌∙◌}
use Rattle.term_store.specs.Shorts.{WordList, long_word}
use Rattle.term_store.proofs.Shorting.{words_taken}
use Rattle.term_store.proofs.shorts.Words.truncate.Goals as goal

pub returns : goal.returns
returns c =
    let ss = c.self.inside.shorts.items in
    let bs = c.self.inside.wides.items in
    let cs = c.forget_from.new.wides.items in
    let n = c.args.count in
    record {
      items =
          ap (map (long_word cs)) c.truncate.ensures.items ∙ (words_taken n bs cs ss c.self.invariant c.forget_from.ensures).1
          ∙ ap (λ (v : WordList). take n v.items) c.self.view_is;
    }
