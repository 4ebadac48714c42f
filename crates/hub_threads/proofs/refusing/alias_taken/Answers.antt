use Rattle.std.proofs.Common.{◌∙◌, ap, codes, sym, subst}
use Rattle.std.specs.List.{All}
use Rattle.std.specs.Option.{IsSome}
use Rattle.std.proofs.lemmas.Result.{IfOk-weaker}
use Rattle.pl_term.specs.Tree.{Tree, atom}
use Rattle.pl_model.specs.ErrorTerms as errors
use Rattle.counted_terms.specs.Rows.{row_names, row_refusals}
use Rattle.counted_terms.specs.declared.row.Row.{Row}
use Rattle.counted_terms.proofs.MadeTerms.{held_some}
use Rattle.hub_threads.specs.Rows.{Refuses, updates_in}
use Rattle.hub_threads.proofs.RefusedRows.{create_is, refusal_named, refusal_reads, refusal_says, refusal_silent}
use Rattle.hub_threads.proofs.refusing.alias_taken.Goals as goal

pub returns-in-Ok-clause-says : goal.returns-in-Ok-clause-says
returns-in-Ok-clause-says c = λ m k a stand p q.
    let error = errors.permission_error (codes "create") k (atom a) in
    subst (Refuses m error) (sym c.refused.ensures)
    (refusal_says m error c.permission_error.result (IfOk-weaker c.permission_error.result _ _
    (λ e says. says m (codes "create") k stand (stand 68 (codes "create") create_is) p ∙ ap (λ (z : Tree). errors.permission_error (codes "create") k z) (c.in-Ok.ensures.says m a stand q)) c.permission_error.ensures.says))

pub returns-in-Ok-clause-named : goal.returns-in-Ok-clause-named
returns-in-Ok-clause-named c = λ m stand p q.
    subst (λ (r : Row). All (λ a. IsSome (m a)) (row_names r)) (sym c.refused.ensures)
    (refusal_named (λ a. IsSome (m a)) c.permission_error.result
    (IfOk-weaker c.permission_error.result _ _ (λ e named. named m stand (held_some m 68 (codes "create") (stand 68 (codes "create") create_is)) p (c.in-Ok.ensures.named m stand q)) c.permission_error.ensures.named))

pub returns-in-Ok-clause-reads : goal.returns-in-Ok-clause-reads
returns-in-Ok-clause-reads c = ap updates_in c.refused.ensures ∙ refusal_reads c.permission_error.result

pub returns-in-Ok-clause-refusals : goal.returns-in-Ok-clause-refusals
returns-in-Ok-clause-refusals c = ap row_refusals c.refused.ensures ∙ refusal_silent c.permission_error.result
