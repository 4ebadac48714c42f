use Rattle.std.proofs.Common.{◌∙◌, ℕ, ap, codes}
use Rattle.std.specs.Prelude.{pos}
use Rattle.std.proofs.lemmas.Result.{IfOk-weaker}
use Rattle.pl_term.specs.Tree.{Tree, comp, int, none}
use Rattle.counted_terms.proofs.MadeTerms.{held_some}
use Rattle.hub_threads.proofs.RefusedRows.{halted_is}
use Rattle.hub_threads.proofs.statuses.halted.Goals as goal

pub returns-clause-says : goal.returns-clause-says
returns-clause-says c = IfOk-weaker c.wrapped.result _ _
    (λ e says. λ m stand. says m (codes "halted") stand (stand 102 (codes "halted") halted_is) ∙ ap (λ (z : Tree). comp (codes "halted") z none) (c.in_ok-status.ensures.says m) ∙ ap (λ (n : ℕ). comp (codes "halted") (int (pos n)) none) c.from.ensures) c.wrapped.ensures.says

pub returns-clause-named : goal.returns-clause-named
returns-clause-named c = IfOk-weaker c.wrapped.result _ _
    (λ e named. λ m stand. named m (held_some m 102 (codes "halted") (stand 102 (codes "halted") halted_is)) (c.in_ok-status.ensures.named m stand)) c.wrapped.ensures.named
