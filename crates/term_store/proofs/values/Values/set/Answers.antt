use Rattle.std.proofs.Common.{◌<◌, length, set, Some, ap, ◌∙◌}
use Rattle.std.proofs.lemmas.Result.{err_from_is_err_and}
use Rattle.term_store.proofs.Shorting.{inside_values, values_bound, values_kept}
use Rattle.term_store.proofs.values.Values.set.Goals as goal

pub returns-in_err-short : goal.returns-in_err-short
returns-in_err-short c =
    let ss = c.self.inside.shorts.items in
    let bs = c.self.inside.wides.items in
    let p = err_from_is_err_and c.from_residual.result c.from_residual.ensures.1 in
    rw p.1 ((values_kept bs c.shortened.new.wides.items ss c.self.invariant c.in_err-short.ensures.stays).1 ∙ c.self.view_is)

pub returns : goal.returns
returns c =
    let ss = c.self.inside.shorts.items in
    let bs = c.self.inside.wides.items in
    let inside : c.args.slot < length ss = inside_values bs ss c.args.self.now c.args.slot c.self.view_is c.requires in
    (values_bound bs c.shortened.new.wides.items ss c.args.slot c.in_ok-short.short c.args.word c.self.invariant inside
    c.in_ok-short.ensures.stays c.in_ok-short.ensures.own c.in_ok-short.ensures.value).1
    ∙ ap (λ vs. set vs c.args.slot (Some c.args.word)) c.self.view_is
