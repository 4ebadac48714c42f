use Rattle.std.proofs.Common.{◌∷◌, [], ◌++◌, length, map, ap, subst, ◌∙◌, arith}
use Rattle.std.proofs.lemmas.Result.{err_from_is_err_and}
use Rattle.term_store.specs.Shorts.{IsOwn, WordList, long_word}
use Rattle.term_store.proofs.Shorting.{stays_below, words_below, words_pushed}
use Rattle.term_store.proofs.shorts.Words.push_reserved.Goals as goal

pub returns-in_err-short-clause-items : goal.returns-in_err-short-clause-items
returns-in_err-short-clause-items c =
    let ss = c.self.inside.shorts.items in
    let bs = c.self.inside.wides.items in
    let cs = c.shortened.new.wides.items in
    let p = err_from_is_err_and c.from_residual.result c.from_residual.ensures.1 in
    rw p.1
    (words_below (length ss) bs cs ss c.self.invariant (omega arith) (stays_below (length ss) bs cs c.in_err-short.ensures.stays)
    ∙ ap (λ (v : WordList). v.items) c.self.view_is)

pub returns-clause-items : goal.returns-clause-items
returns-clause-items c =
    let ss = c.self.inside.shorts.items in
    let bs = c.self.inside.wides.items in
    let cs = c.shortened.new.wides.items in
    let s = c.in_ok-short.short in
    let own : IsOwn cs (length ss) s = subst (λ n. IsOwn cs n s) (c.len-at.ensures ∙ c.self.inside.shorts.ok.0) c.in_ok-short.ensures.own in
    ap (map (long_word cs)) c.push_reserved.ensures.items
    ∙ (words_pushed bs cs ss s c.args.word c.self.invariant c.in_ok-short.ensures.stays own c.in_ok-short.ensures.means).1
    ∙ ap (λ (v : WordList). v.items ++ c.args.word ∷ []) c.self.view_is
