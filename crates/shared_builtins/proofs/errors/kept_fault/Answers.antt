use Rattle.std.proofs.Common.{subst}
use Rattle.shared_builtins.specs.Kept.{IsKept}
use Rattle.shared_builtins.proofs.errors.kept_fault.Goals as goal

pub returns-clause-kept : goal.returns-clause-kept
returns-clause-kept c m n held =
    subst (λ t. IsKept m t c.in_ok-kept.kept) (c.in_ok-term.ensures.term m n.stands) (c.in_ok-kept.ensures m n (c.in_ok-term.ensures.held m n.stands held))
