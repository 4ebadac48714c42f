use Rattle.std.proofs.Common.{◌≡◌, ◌+◌, Option, is_some, codes, refl, sym, ap, subst, ◌∙◌, arith}
use Rattle.pl_term.specs.Tree.{Chars}
use Rattle.atom_api.specs.FixedNames.{exit_name, thread_name}
use Rattle.world_builtins.proofs.Kept.{held_kept}
use Rattle.iso_search.specs.declared.search.Search.{Search}
use Rattle.iso_search.specs.Outcomes.{IsAfter}
use Rattle.iso_search.specs.Searching.{IsWhole}
use Rattle.shared_builtins.specs.declared.faults.Fault.TheVariants.{NotPermitted}
use Rattle.shared_builtins.specs.Faults.{fault_term}
use Rattle.shared_builtins.specs.Telling.{TellsAtoms}
use Rattle.iso_engine.specs.GoalSteps.{IsStepAloneAs}
use Rattle.iso_engine.specs.Leaving.{IsStayingAs}
use Rattle.iso_engine.specs.Standing.{staying}
use Rattle.iso_engine.proofs.ExitGoals.{action_is, exit_has, exit_is, exit_leaves, exit_refused, exit_spent, kind_is, name_held, not_left, staying_none, staying_some}
use Rattle.iso_engine.proofs.RaisedRows.{IsRaisedLed}
use Rattle.iso_engine.proofs.StateAsked.{after_counted, names_tell}
use Rattle.iso_engine.proofs.StateRows.{counted_again, counted_in, counted_whole}
use Rattle.iso_engine.proofs.state.leaving.exit_goal.Goals as goal

pub returns-then-search-most-clause-left : goal.returns-then-search-most-clause-left
returns-then-search-most-clause-left g c =
    exit_spent c.args.search.now c.args.goal c.args.term c.args.rest c.requires.exit (staying c.args.stays) (g.A.Atoms.held c.args.atoms.now) (omega (arith, c.if-search-most.true))

pub returns-in_ok-ball-in-None-clause-left : goal.returns-in_ok-ball-in-None-clause-left
returns-in_ok-ball-in-None-clause-left g c =
    let e = c.args.search.now in
    let n = g.A.Atoms.held c.staying_as.new.atoms in
    let keep = staying c.args.stays in
    let again : (let y : Search = record e { inferences = e.inferences + 1 } in y ≡ counted_in e) = counted_again e e.store (e.inferences + 1) refl (omega arith) in
    let none = staying_none n keep (subst (IsStayingAs n keep) c.in-None.is c.in_ok-name.ensures.named) in (
      again,
      λ s h view keeps. exit_leaves e c.args.goal c.args.term c.args.rest c.requires.exit (omega (arith, c.if-search-most.false)) _ c.in_ok-ball-in-None.ball again
          c.in_ok-ball-in-None.ensures s h view (keeps ∙ none),
    )

pub refuse_goal-requires-clause-whole : goal.refuse_goal-requires-clause-whole
refuse_goal-requires-clause-whole g c =
    let e = c.args.search.now in
    let again : (let y : Search = record e { inferences = e.inferences + 1 } in y ≡ counted_in e) = counted_again e e.store (e.inferences + 1) refl (omega arith) in
    subst IsWhole (sym again) (counted_whole e c.requires.whole)

pub refuse_goal-requires-clause-goal : goal.refuse_goal-requires-clause-goal
refuse_goal-requires-clause-goal g c = c.requires.exit.holds

pub refuse_goal-requires-clause-fixed : goal.refuse_goal-requires-clause-fixed
refuse_goal-requires-clause-fixed g c = (codes "thread_exit", exit_is)

pub refuse_goal-requires-clause-procedure : goal.refuse_goal-requires-clause-procedure
refuse_goal-requires-clause-procedure g c = exit_has c.args.search.now.store c.args.goal c.args.term c.requires.exit

pub refuse_goal-requires-clause-fault : goal.refuse_goal-requires-clause-fault
refuse_goal-requires-clause-fault g c = (ap is_some action_is, (ap is_some kind_is, (c.atom.ensures c.args.search.now.store).0))

pub refuse_goal-requires-clause-held : goal.refuse_goal-requires-clause-held
refuse_goal-requires-clause-held g c =
    let e = c.args.search.now in
    let b = c.staying_as.new.atoms in
    let m = g.A.Atoms.held c.args.atoms.now in
    let n = g.A.Atoms.held b in
    let tells : TellsAtoms n = names_tell n (g.met.A.Atoms.fixed_held b) (g.met.A.Atoms.unlike b) (g.met.A.Atoms.finite b) in
    let keep = staying c.args.stays in
    let a = c.in-Some.name in
    let some = staying_some n keep a (subst (IsStayingAs n keep) c.in-Some.is c.in_ok-name.ensures.named) in (
      n,
      tells,
      held_kept m n c.staying_as.ensures.holds e.store c.args.goal c.requires.held,
      name_held n e.store c.atom.result a some.0 (c.atom.ensures e.store).1 some.2,
    )

pub returns-in_ok-outcome-in-Some-clause-left : goal.returns-in_ok-outcome-in-Some-clause-left
returns-in_ok-outcome-in-Some-clause-left g c =
    let e = c.args.search.now in
    let b = c.staying_as.new.atoms in
    let m = g.A.Atoms.held c.args.atoms.now in
    let n = g.A.Atoms.held b in
    let tells : TellsAtoms n = names_tell n (g.met.A.Atoms.fixed_held b) (g.met.A.Atoms.unlike b) (g.met.A.Atoms.finite b) in
    let keep = staying c.args.stays in
    let a = c.in-Some.name in
    let p = c.atom.result in
    let at = (c.atom.ensures e.store).1 in
    let some = staying_some n keep a (subst (IsStayingAs n keep) c.in-Some.is c.in_ok-name.ensures.named) in
    let held = held_kept m n c.staying_as.ensures.holds e.store c.args.goal c.requires.held in
    let named = name_held n e.store p a some.0 at some.2 in
    let again : (let y : Search = record e { inferences = e.inferences + 1 } in y ≡ counted_in e) = counted_again e e.store (e.inferences + 1) refl (omega arith) in
    let o = c.in_ok-outcome-in-Some in
    let f = c.refuse_goal.new.search in
    let error = fault_term n e.store (NotPermitted exit_name thread_name p) in
    subst (λ (k : Option Chars). IsStepAloneAs k n e c.args.goal c.args.rest f o.outcome) (sym some.1)
    (exit_refused e c.args.goal c.args.term c.args.rest c.requires.exit (omega (arith, c.if-search-most.false)) some.0 n error f o.outcome
    (not_left n e.store p a some.0 at some.2)
    (λ s view known.
    subst (λ (y : Search). IsRaisedLed n y c.args.goal c.args.rest error f o.outcome s) again (o.ensures.led n s tells held named view known))
    (after_counted e f o.outcome (subst (λ (y : Search). IsAfter y f o.outcome) again o.ensures.after)))
