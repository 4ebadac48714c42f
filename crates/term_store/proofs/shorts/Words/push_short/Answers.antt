use Rattle.std.proofs.Common.{◌∷◌, [], ◌++◌, map, ap, ◌∙◌}
use Rattle.term_store.specs.Shorts.{WordList, long_word}
use Rattle.term_store.proofs.Shorting.{plain_pushed, plain_same}
use Rattle.term_store.proofs.shorts.Words.push_short.Goals as goal

pub returns-clause-items : goal.returns-clause-items
returns-clause-items c =
    let ss = c.self.inside.shorts.items in
    let bs = c.self.inside.wides.items in
    let s = c.args.short in
    ap (map (long_word bs)) c.push_reserved.ensures.items
    ∙ (plain_pushed bs ss s (long_word [] s) c.self.invariant c.requires.plain (plain_same bs [] s c.requires.plain)).1
    ∙ ap (λ (v : WordList). v.items ++ long_word [] s ∷ []) c.self.view_is
