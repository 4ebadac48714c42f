use Rattle.std.proofs.Common.{◌∙◌, ap, codes}
use Rattle.std.proofs.lemmas.Result.{IfOk-weaker}
use Rattle.pl_term.specs.Tree.{Tree, comp, none}
use Rattle.counted_terms.proofs.MadeTerms.{held_some}
use Rattle.hub_threads.proofs.RefusedRows.{atom_space_is, exception_is}
use Rattle.hub_threads.proofs.statuses.out_of_atoms.Goals as goal

pub returns-clause-says : goal.returns-clause-says
returns-clause-says c = IfOk-weaker c.wrapped.result _ _
    (λ e says. λ m stand. says m (codes "exception") stand (stand 83 (codes "exception") exception_is)
    ∙ ap (λ (z : Tree). comp (codes "exception") z none) (c.in_ok-error.ensures.says m (codes "atom_space") stand (stand 50 (codes "atom_space") atom_space_is))) c.wrapped.ensures.says

pub returns-clause-named : goal.returns-clause-named
returns-clause-named c = IfOk-weaker c.wrapped.result _ _
    (λ e named. λ m stand. named m (held_some m 83 (codes "exception") (stand 83 (codes "exception") exception_is))
    (c.in_ok-error.ensures.named m stand (held_some m 50 (codes "atom_space") (stand 50 (codes "atom_space") atom_space_is)))) c.wrapped.ensures.named
