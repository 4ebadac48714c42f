use Rattle.std.proofs.Common.{◌∙◌, ap, sym, subst}
use Rattle.std.specs.List.{All}
use Rattle.std.specs.Option.{IsSome}
use Rattle.std.proofs.lemmas.Result.{IfOk-weaker}
use Rattle.pl_model.specs.ErrorTerms as errors
use Rattle.counted_terms.specs.CountedTerms.{said}
use Rattle.counted_terms.specs.Rows.{row_names, row_refusals}
use Rattle.counted_terms.specs.declared.row.Row.{Row}
use Rattle.hub_threads.specs.Rows.{Refuses, updates_in}
use Rattle.hub_threads.proofs.RefusedRows.{refusal_named, refusal_reads, refusal_says, refusal_silent}
use Rattle.hub_threads.proofs.refusing.not_permitted.Goals as goal

pub returns-clause-says : goal.returns-clause-says
returns-clause-says c = λ m t k stand p q.
    let error = errors.permission_error t k (said m c.args.culprit.now) in
    subst (Refuses m error) (sym c.refused.ensures)
    (refusal_says m error c.permission_error.result (IfOk-weaker c.permission_error.result _ _ (λ e says. says m t k stand p q) c.permission_error.ensures.says))

pub returns-clause-named : goal.returns-clause-named
returns-clause-named c = λ m stand p q held.
    subst (λ (r : Row). All (λ a. IsSome (m a)) (row_names r)) (sym c.refused.ensures)
    (refusal_named (λ a. IsSome (m a)) c.permission_error.result
    (IfOk-weaker c.permission_error.result _ _ (λ e named. named m stand p q held) c.permission_error.ensures.named))

pub returns-clause-reads : goal.returns-clause-reads
returns-clause-reads c = ap updates_in c.refused.ensures ∙ refusal_reads c.permission_error.result

pub returns-clause-refusals : goal.returns-clause-refusals
returns-clause-refusals c = ap row_refusals c.refused.ensures ∙ refusal_silent c.permission_error.result
