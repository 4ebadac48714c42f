use Rattle.std.proofs.Common.{◌≤◌, length, sym, ap, subst, ◌∙◌}
use Rattle.pl_term.specs.Variables.{variables}
use Rattle.term_store.specs.Contents.{Holds, term_at}
use Rattle.term_store.specs.Fit.{Fit}
use Rattle.iso_search.proofs.VariableCounts.{variables_within}
use Rattle.iso_search.proofs.balls.Ball.is_below.Goals as goal

pub returns : goal.returns
returns c above =
    let s = c.deref-own.result.now in
    let place = c.self.inside.place in
    let fit = subst Fit (ap (λ t. t.heap) c.mark-mark.ensures.here) c.mark-mark.ensures.mark.fit in
    let few = variables_within s place c.args.number fit (subst (λ u. Holds u place) (sym c.deref-own.ensures) c.self.invariant.0) (c.is_above.ensures.0 above) in
    subst (λ t. length (variables t) ≤ c.args.number) (ap (λ u. term_at u place) c.deref-own.ensures ∙ c.self.view_is) few
