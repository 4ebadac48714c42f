use Rattle.std.proofs.Common.{codes, map, subst}
use Rattle.pl_model.specs.Checks.{elements}
use Rattle.world_builtins.specs.Spelling.{reads}
use Rattle.builtin_rows.specs.Lists.{EndsAs}
use Rattle.shared_builtins.proofs.Checking.{is_fixed_name}
use Rattle.shared_builtins.proofs.FixedNames.{list_is, type_error_is}
use Rattle.shared_builtins.proofs.Naming.{broken_list}
use Rattle.shared_builtins.proofs.names.list_at.Goals as goal

pub returns-in-Closed-clause-listed : goal.returns-in-Closed-clause-listed
returns-in-Closed-clause-listed c m n held =
    let t = reads m c.args.store.now c.args.list in
    let xs = map (reads m c.args.store.now) c.list_elements.new.all.items in
    (subst (λ e. EndsAs e t xs (elements t)) c.in-Closed.is (c.in_ok-end.ensures.ended m n held), c.in_ok-end.ensures.held m held)

pub returns-in-Open-clause-listed : goal.returns-in-Open-clause-listed
returns-in-Open-clause-listed c m n held =
    let t = reads m c.args.store.now c.args.list in
    let xs = map (reads m c.args.store.now) c.list_elements.new.all.items in
    (subst (λ e. EndsAs e t xs (elements t)) c.in-Open.is (c.in_ok-end.ensures.ended m n held), (tt, tt))

pub returns-in-Broken-clause-listed : goal.returns-in-Broken-clause-listed
returns-in-Broken-clause-listed c m n held =
    let s = c.args.store.now in
    let t = reads m s c.args.list in
    let xs = map (reads m s) c.list_elements.new.all.items in (
      broken_list m s c.args.list (elements t) (subst (λ e. EndsAs e t xs (elements t)) c.in-Broken.is (c.in_ok-end.ensures.ended m n held)),
      ((is_fixed_name 177 (codes "type_error") type_error_is, (is_fixed_name 114 (codes "list") list_is, c.requires)), held),
    )
