use Rattle.std.proofs.Common.{List, [], ◌∷◌, ◌++◌, ap, ◌∙◌}
use Rattle.pl_history.specs.Fronts.{FrontState}
use Rattle.pl_sched.proofs.HomeLaws.{one_seen}
use Rattle.pl_sched.proofs.over.put.Goals as goal

pub returns : goal.returns
returns g c = λ h all next.
    one_seen h c.args.done.now.items c.args.next c.push_reserved.new.self.items (c.push_reserved.ensures.items ∙ ap (λ (l : List FrontState). l ++ c.args.next ∷ []) c.reserve.ensures.items) all next
