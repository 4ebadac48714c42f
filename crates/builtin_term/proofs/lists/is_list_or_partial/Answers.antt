use Rattle.std.proofs.Common.{map, subst}
use Rattle.pl_model.specs.Checks.{elements}
use Rattle.builtin_rows.specs.Lists.{EndsAs}
use Rattle.builtin_rows.specs.declared.lists.ListEnd.TheVariants.{Closed, Open, Broken}
use Rattle.world_builtins.specs.Spelling.{reads}
use Rattle.builtin_term.proofs.ListTerms.{partial_so}
use Rattle.builtin_term.proofs.lists.is_list_or_partial.Goals as goal

pub returns-in-Closed : goal.returns-in-Closed
returns-in-Closed c m n held =
    let s = c.args.store.now in
    let t = reads m s c.args.place in
    let ts = map (reads m s) c.list_elements.new.all.items in
    partial_so Closed t ts (subst (λ e. EndsAs e t ts (elements t)) c.in-Closed.is (c.in_ok-end.ensures.ended m n held))

pub returns-in-Open : goal.returns-in-Open
returns-in-Open c m n held =
    let s = c.args.store.now in
    let t = reads m s c.args.place in
    let ts = map (reads m s) c.list_elements.new.all.items in
    partial_so Open t ts (subst (λ e. EndsAs e t ts (elements t)) c.in-Open.is (c.in_ok-end.ensures.ended m n held))

pub returns : goal.returns
returns c m n held =
    let s = c.args.store.now in
    let t = reads m s c.args.place in
    let ts = map (reads m s) c.list_elements.new.all.items in
    partial_so Broken t ts (subst (λ e. EndsAs e t ts (elements t)) c.in-Broken.is (c.in_ok-end.ensures.ended m n held))
