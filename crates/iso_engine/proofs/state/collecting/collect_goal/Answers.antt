use Rattle.std.proofs.Common.{◌≡◌, ◌+◌, None, Some, inl, refl, sym, ap, subst, arith}
use Rattle.pl_model.specs.Control.{taking}
use Rattle.iso_search.specs.declared.search.Search.{Search}
use Rattle.iso_search.specs.declared.outcome.Outcome.TheVariants.{Raise}
use Rattle.iso_search.specs.Budgeting.{after_taking}
use Rattle.iso_search.specs.Outcomes.{IsAfter, limits_in, state_in}
use Rattle.iso_search.specs.Searching.{IsWhole, node_of}
use Rattle.iso_search.proofs.After.{spent}
use Rattle.iso_engine.proofs.CollectGoals.{collect_gains, collect_raised, collect_ran, collect_spent}
use Rattle.iso_engine.proofs.StateAsked.{after_counted}
use Rattle.iso_engine.proofs.StateRows.{counted_again, counted_in, counted_whole}
use Rattle.iso_engine.proofs.state.collecting.collect_goal.Goals as goal

pub returns-then-search-most-clause-done : goal.returns-then-search-most-clause-done
returns-then-search-most-clause-done g c =
    inl (refl, collect_spent c.args.search.now c.args.goal c.args.collection c.args.rest c.requires.goal (g.W.A.Atoms.held c.args.atoms.now) (omega (arith, c.if-search-most.true)))

pub take-requires : goal.take-requires
take-requires g c =
    let e = c.args.search.now in
    let again : (let y : Search = record e { inferences = e.inferences + 1 } in y ≡ counted_in e) = counted_again e e.store (e.inferences + 1) refl (omega arith) in
    subst IsWhole (sym again) (counted_whole e c.requires.whole)

pub returns-in-None-clause-done : goal.returns-in-None-clause-done
returns-in-None-clause-done g c =
    let e = c.args.search.now in
    let d = c.take.new.self in
    let rest = c.args.rest in
    let again : (let y : Search = record e { inferences = e.inferences + 1 } in y ≡ counted_in e) = counted_again e e.store (e.inferences + 1) refl (omega arith) in
    collect_ran e c.args.goal c.args.collection rest c.requires.goal (omega (arith, c.if-search-most.false)) (g.W.A.Atoms.held c.ask_for_cycle.new.atoms)
    (g.W.World.told c.args.world.now) (g.W.World.told c.ask_for_cycle.new.world) d None c.in_ok-_reply.ensures.asked
    (λ s p next.
    subst (λ (y : Search). after_taking s d rest (node_of s.view y rest) p next None ≡ taking (limits_in s y) (state_in s y) (node_of s.view y rest) p 0 0 next) again
    (c.in-None.ensures.step s rest p next))
    refl (record { budgets = ap (λ (y : Search). y.budgets) c.in-None.ensures.kept; inside = tt })

pub returns-clause-done : goal.returns-clause-done
returns-clause-done g c =
    let e = c.args.search.now in
    let d = c.take.new.self in
    let rest = c.args.rest in
    let again : (let y : Search = record e { inferences = e.inferences + 1 } in y ≡ counted_in e) = counted_again e e.store (e.inferences + 1) refl (omega arith) in
    let f = c.in-Some.fault in
    let b : Search = record e { inferences = e.inferences + 1 } in
    collect_raised e c.args.goal c.args.collection rest c.requires.goal (omega (arith, c.if-search-most.false)) (g.W.A.Atoms.held c.ask_for_cycle.new.atoms)
    (g.W.World.told c.args.world.now) (g.W.World.told c.ask_for_cycle.new.world) d (Some f) c.in_ok-_reply.ensures.asked
    (λ s p next.
    subst (λ (y : Search). after_taking s d rest (node_of s.view y rest) p next (Some f)
    ≡ taking (limits_in s y) (state_in s y) (node_of s.view y rest) p 0 0 next) again
    (c.in-Some.ensures.step s rest p next))
    f refl (after_counted e d (Raise f) (subst (λ (y : Search). IsAfter y d (Raise f)) again (spent b d f c.in-Some.ensures.refused c.in-Some.ensures.budgets)))

pub returns-in-None-clause-asks : goal.returns-in-None-clause-asks
returns-in-None-clause-asks g c =
    let a = c.args.atoms.now in
    collect_gains (g.W.A.Atoms.held a) (g.W.World.told c.args.world.now) c.args.search.now c.args.goal c.args.collection c.requires.goal (omega (arith, c.if-search-most.false))
    (g.W.A.Atoms.asked a) (g.W.A.Atoms.asked c.ask_for_cycle.new.atoms) c.ask_for_cycle.ensures.gains

pub returns-clause-asks : goal.returns-clause-asks
returns-clause-asks g c =
    let a = c.args.atoms.now in
    collect_gains (g.W.A.Atoms.held a) (g.W.World.told c.args.world.now) c.args.search.now c.args.goal c.args.collection c.requires.goal (omega (arith, c.if-search-most.false))
    (g.W.A.Atoms.asked a) (g.W.A.Atoms.asked c.ask_for_cycle.new.atoms) c.ask_for_cycle.ensures.gains

pub returns-in_err-_reply-clause-asks : goal.returns-in_err-_reply-clause-asks
returns-in_err-_reply-clause-asks g c =
    let a = c.args.atoms.now in
    collect_gains (g.W.A.Atoms.held a) (g.W.World.told c.args.world.now) c.args.search.now c.args.goal c.args.collection c.requires.goal (omega (arith, c.if-search-most.false))
    (g.W.A.Atoms.asked a) (g.W.A.Atoms.asked c.ask_for_cycle.new.atoms) c.ask_for_cycle.ensures.gains
