use Rattle.std.proofs.Common.{◌∙◌, ap, codes, sym, subst}
use Rattle.std.specs.List.{All}
use Rattle.std.specs.Option.{IsSome}
use Rattle.std.proofs.lemmas.Result.{IfOk-weaker}
use Rattle.pl_model.specs.ErrorTerms as errors
use Rattle.counted_terms.specs.CountedTerms.{said}
use Rattle.counted_terms.specs.Rows.{row_names, row_refusals}
use Rattle.counted_terms.specs.declared.row.Row.{Row}
use Rattle.counted_terms.proofs.MadeTerms.{held_some}
use Rattle.hub_threads.specs.Rows.{Refuses, updates_in}
use Rattle.hub_threads.proofs.RefusedRows.{message_queue_is, refusal_named, refusal_reads, refusal_says, refusal_silent}
use Rattle.hub_threads.proofs.refusing.no_queue.Goals as goal

pub returns-clause-says : goal.returns-clause-says
returns-clause-says c = λ m stand.
    let error = errors.existence_error (codes "message_queue") (said m c.args.queue.now) in
    subst (Refuses m error) (sym c.refused.ensures)
    (refusal_says m error c.existence_error.result (IfOk-weaker c.existence_error.result _ _ (λ e says. says m (codes "message_queue") stand (stand 119 (codes "message_queue") message_queue_is)) c.existence_error.ensures.says))

pub returns-clause-named : goal.returns-clause-named
returns-clause-named c = λ m stand held.
    subst (λ (r : Row). All (λ a. IsSome (m a)) (row_names r)) (sym c.refused.ensures)
    (refusal_named (λ a. IsSome (m a)) c.existence_error.result
    (IfOk-weaker c.existence_error.result _ _ (λ e named. named m stand (held_some m 119 (codes "message_queue") (stand 119 (codes "message_queue") message_queue_is)) held) c.existence_error.ensures.named))

pub returns-clause-reads : goal.returns-clause-reads
returns-clause-reads c = ap updates_in c.refused.ensures ∙ refusal_reads c.existence_error.result

pub returns-clause-refusals : goal.returns-clause-refusals
returns-clause-refusals c = ap row_refusals c.refused.ensures ∙ refusal_silent c.existence_error.result
