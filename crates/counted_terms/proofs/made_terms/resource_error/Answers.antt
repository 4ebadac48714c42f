use Rattle.std.proofs.Common.{◌≡◌, ap, ◌∙◌, codes}
use Rattle.std.proofs.lemmas.Result.{IfOk-weaker}
use Rattle.pl_term.specs.Tree.{Tree, comp, none}
use Rattle.counted_terms.proofs.MadeTerms.{held_some, resource_is}
use Rattle.counted_terms.proofs.made_terms.resource_error.Goals as goal

pub returns-clause-says : goal.returns-clause-says
returns-clause-says c =
    IfOk-weaker c.wrapped.result _ _
    (λ e says m t stand p. says m (codes "resource_error") stand (stand 152 (codes "resource_error") resource_is) ∙ ap (λ (z : Tree). comp (codes "resource_error") z none) (c.in_ok-argument.ensures.says m t stand p))
    c.wrapped.ensures.says

pub returns-clause-named : goal.returns-clause-named
returns-clause-named c =
    IfOk-weaker c.wrapped.result _ _
    (λ e named m stand p. named m (held_some m 152 (codes "resource_error") (stand 152 (codes "resource_error") resource_is)) (c.in_ok-argument.ensures.named m stand p))
    c.wrapped.ensures.named
