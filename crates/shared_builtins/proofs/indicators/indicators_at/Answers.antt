use Rattle.std.proofs.Common.{map, ap, subst, ◌∙◌}
use Rattle.pl_model.specs.Checks.{elements}
use Rattle.pl_model.specs.SharedBuiltins.{listed_or_conjuncts}
use Rattle.world_builtins.specs.Spelling.{reads}
use Rattle.builtin_rows.specs.Lists.{EndsAs}
use Rattle.shared_builtins.proofs.indicators.indicators_at.Goals as goal

pub returns-in_ok-joined-in-Open-clause-read : goal.returns-in_ok-joined-in-Open-clause-read
returns-in_ok-joined-in-Open-clause-read c m n held =
    let t = reads m c.args.store.now c.args.term in
    let xs = map (reads m c.args.store.now) c.list_elements.new.all.items in
    let ends = subst (λ e. EndsAs e t xs (elements t)) c.in-Open.is (c.in_ok-end.ensures.ended m n held) in
    let j = c.in_ok-joined-in-Open.ensures.read m n held in (ap (listed_or_conjuncts t) ends ∙ j.0, j.1)

pub returns-in_ok-joined-in-Broken-clause-read : goal.returns-in_ok-joined-in-Broken-clause-read
returns-in_ok-joined-in-Broken-clause-read c m n held =
    let t = reads m c.args.store.now c.args.term in
    let xs = map (reads m c.args.store.now) c.list_elements.new.all.items in
    let ends = subst (λ e. EndsAs e t xs (elements t)) c.in-Broken.is (c.in_ok-end.ensures.ended m n held) in
    let j = c.in_ok-joined-in-Broken.ensures.read m n held in (ap (listed_or_conjuncts t) ends ∙ j.0, j.1)
