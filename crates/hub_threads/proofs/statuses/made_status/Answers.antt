use Rattle.std.proofs.Common.{◌∙◌, ap, sym, subst, codes}
use Rattle.std.specs.List.{All}
use Rattle.std.specs.Option.{IsSome}
use Rattle.std.proofs.lemmas.Result.{IfOk-weaker}
use Rattle.pl_term.specs.Tree.{Tree, comp, none}
use Rattle.pl_model.specs.declared.threads.Status.{Status}
use Rattle.pl_model.specs.Service.{status_term}
use Rattle.term_store.specs.NumberedNames.{names_of}
use Rattle.counted_terms.specs.CountedTerms.{said}
use Rattle.counted_terms.proofs.MadeTerms.{held_some}
use Rattle.hub_threads.specs.Rows.{status_names}
use Rattle.hub_threads.specs.Serving.{status_as}
use Rattle.hub_threads.proofs.RefusedRows.{exception_is, exited_is, falsity_is, truth_is}
use Rattle.hub_threads.proofs.statuses.made_status.Goals as goal

pub returns-in-Succeeded-clause-says : goal.returns-in-Succeeded-clause-says
returns-in-Succeeded-clause-says c = IfOk-weaker c.atom_term.result _ _
    (λ e says. λ m stand. says m (codes "true") stand (stand 176 (codes "true") truth_is) ∙ ap (λ (s : Status Tree). status_term (status_as (said m) s)) (sym c.in-Succeeded.is)) c.atom_term.ensures.says

pub returns-in-Succeeded-clause-named : goal.returns-in-Succeeded-clause-named
returns-in-Succeeded-clause-named c = IfOk-weaker c.atom_term.result _ _ (λ e named. λ m stand held. named m stand (held_some m 176 (codes "true") (stand 176 (codes "true") truth_is))) c.atom_term.ensures.named

pub returns-in-Failed-clause-says : goal.returns-in-Failed-clause-says
returns-in-Failed-clause-says c = IfOk-weaker c.atom_term-in-Failed.result _ _
    (λ e says. λ m stand. says m (codes "false") stand (stand 89 (codes "false") falsity_is) ∙ ap (λ (s : Status Tree). status_term (status_as (said m) s)) (sym c.in-Failed.is)) c.atom_term-in-Failed.ensures.says

pub returns-in-Failed-clause-named : goal.returns-in-Failed-clause-named
returns-in-Failed-clause-named c = IfOk-weaker c.atom_term-in-Failed.result _ _ (λ e named. λ m stand held. named m stand (held_some m 89 (codes "false") (stand 89 (codes "false") falsity_is))) c.atom_term-in-Failed.ensures.named

pub returns-in-Exception-clause-says : goal.returns-in-Exception-clause-says
returns-in-Exception-clause-says c = IfOk-weaker c.wrapped.result _ _
    (λ e says. λ m stand. says m (codes "exception") stand (stand 83 (codes "exception") exception_is)
    ∙ ap (λ (z : Tree). comp (codes "exception") (said m z) none) c.term.ensures
    ∙ ap (λ (s : Status Tree). status_term (status_as (said m) s)) (sym c.in-Exception.is)) c.wrapped.ensures.says

pub returns-in-Exception-clause-named : goal.returns-in-Exception-clause-named
returns-in-Exception-clause-named c = IfOk-weaker c.wrapped.result _ _
    (λ e named. λ m stand held. named m (held_some m 83 (codes "exception") (stand 83 (codes "exception") exception_is))
    (subst (λ (z : Tree). All (λ a. IsSome (m a)) (names_of z)) (sym c.term.ensures) (subst (λ (s : Status Tree). All (λ a. IsSome (m a)) (status_names s)) c.in-Exception.is held))) c.wrapped.ensures.named

pub returns-in-Exited-clause-says : goal.returns-in-Exited-clause-says
returns-in-Exited-clause-says c = IfOk-weaker c.wrapped-in-Exited.result _ _
    (λ e says. λ m stand. says m (codes "exited") stand (stand 87 (codes "exited") exited_is)
    ∙ ap (λ (z : Tree). comp (codes "exited") (said m z) none) c.term-in-Exited.ensures
    ∙ ap (λ (s : Status Tree). status_term (status_as (said m) s)) (sym c.in-Exited.is)) c.wrapped-in-Exited.ensures.says

pub returns-in-Exited-clause-named : goal.returns-in-Exited-clause-named
returns-in-Exited-clause-named c = IfOk-weaker c.wrapped-in-Exited.result _ _
    (λ e named. λ m stand held. named m (held_some m 87 (codes "exited") (stand 87 (codes "exited") exited_is))
    (subst (λ (z : Tree). All (λ a. IsSome (m a)) (names_of z)) (sym c.term-in-Exited.ensures) (subst (λ (s : Status Tree). All (λ a. IsSome (m a)) (status_names s)) c.in-Exited.is held))) c.wrapped-in-Exited.ensures.named
