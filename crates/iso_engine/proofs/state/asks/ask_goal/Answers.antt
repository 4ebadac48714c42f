use Rattle.std.proofs.Common.{◌≡◌, ◌+◌, ◌<◌, inl, refl, sym, ap, subst, arith}
use Rattle.pl_model.specs.BuiltinRows.{error, one_answer}
use Rattle.pl_model.specs.Terms.{arguments}
use Rattle.term_store.specs.Contents.{Contents}
use Rattle.world_builtins.specs.Naming.{IsHeldAt}
use Rattle.world_builtins.specs.Spelling.{reads}
use Rattle.iso_search.specs.declared.search.Search.{Search}
use Rattle.iso_search.specs.Outcomes.{IsAfter}
use Rattle.iso_search.specs.Searching.{IsWhole}
use Rattle.shared_builtins.specs.Faults.{IsFaultHeld, IsFaultIn, fault_term}
use Rattle.shared_builtins.specs.Goals.{IsStateGoal}
use Rattle.shared_builtins.specs.Shared.{IsShared}
use Rattle.shared_builtins.specs.Telling.{TellsAtoms}
use Rattle.iso_engine.specs.State.{IsRowLed, IsStateAt, IsVisitFor}
use Rattle.iso_engine.proofs.Equals.{keeps_counted}
use Rattle.iso_engine.proofs.StateAsked.{after_counted, names_tell}
use Rattle.iso_engine.proofs.StateRows.{counted_again, counted_in, counted_whole, row_alone, spent_alone}
use Rattle.iso_engine.proofs.state.asks.ask_goal.Goals as goal

pub returns-then-search-most-clause-asked : goal.returns-then-search-most-clause-asked
returns-then-search-most-clause-asked g c =
    let e = c.args.search.now in
    inl (
      refl,
      spent_alone e c.args.goal.now c.args.rest c.requires.goal (g.W.A.Atoms.held c.args.atoms.now) (omega (arith, c.if-search-most.true))
          (record { budgets = refl; inside = (tt, keeps_counted e e refl) }),
    )

pub refuse-requires-clause-whole : goal.refuse-requires-clause-whole
refuse-requires-clause-whole g c =
    let e = c.args.search.now in
    let x = c.args.goal.now in
    let a = c.args.atoms.now in
    let m = g.W.A.Atoms.held a in
    let t = g.W.World.told c.args.world.now in
    let tells : TellsAtoms m = names_tell m (g.met.W.A.Atoms.fixed_held a) (g.met.W.A.Atoms.unlike a) (g.met.W.A.Atoms.finite a) in
    let k = c.in_ok-shared in
    let s = c.shared_of.new.store in
    let again : (let y : Search = record e { store = s; inferences = e.inferences + 1 } in y ≡ counted_in e) = counted_again e s (e.inferences + 1) k.ensures.kept (omega arith) in
    subst IsWhole (sym again) (counted_whole e c.requires.whole)

pub refuse-requires-clause-goal : goal.refuse-requires-clause-goal
refuse-requires-clause-goal g c =
    let e = c.args.search.now in
    let x = c.args.goal.now in
    let a = c.args.atoms.now in
    let m = g.W.A.Atoms.held a in
    let t = g.W.World.told c.args.world.now in
    let tells : TellsAtoms m = names_tell m (g.met.W.A.Atoms.fixed_held a) (g.met.W.A.Atoms.unlike a) (g.met.W.A.Atoms.finite a) in
    let k = c.in_ok-shared in
    let s = c.shared_of.new.store in
    subst (λ (y : Contents). IsStateGoal y x) (sym k.ensures.kept) c.requires.goal.goal_is

pub refuse-requires-clause-fault : goal.refuse-requires-clause-fault
refuse-requires-clause-fault g c =
    let e = c.args.search.now in
    let x = c.args.goal.now in
    let a = c.args.atoms.now in
    let m = g.W.A.Atoms.held a in
    let t = g.W.World.told c.args.world.now in
    let tells : TellsAtoms m = names_tell m (g.met.W.A.Atoms.fixed_held a) (g.met.W.A.Atoms.unlike a) (g.met.W.A.Atoms.finite a) in
    let k = c.in_ok-shared in
    let s = c.shared_of.new.store in
    let is = subst (IsShared m e.store x) c.in-Refused.is (k.ensures.shares m tells c.requires.held) in
    subst (λ (y : Contents). IsFaultIn y c.in-Refused.fault) (sym k.ensures.kept) is.1.0

pub refuse-requires-clause-held : goal.refuse-requires-clause-held
refuse-requires-clause-held g c =
    let e = c.args.search.now in
    let x = c.args.goal.now in
    let a = c.args.atoms.now in
    let m = g.W.A.Atoms.held a in
    let t = g.W.World.told c.args.world.now in
    let tells : TellsAtoms m = names_tell m (g.met.W.A.Atoms.fixed_held a) (g.met.W.A.Atoms.unlike a) (g.met.W.A.Atoms.finite a) in
    let k = c.in_ok-shared in
    let s = c.shared_of.new.store in
    let is = subst (IsShared m e.store x) c.in-Refused.is (k.ensures.shares m tells c.requires.held) in
    (m, tells, subst (λ (y : Contents). IsHeldAt m y x.place) (sym k.ensures.kept) c.requires.held, subst (λ (y : Contents). IsFaultHeld m y c.in-Refused.fault) (sym k.ensures.kept) is.1.1)

pub returns-in_ok-outcome-in-Refused-clause-asked : goal.returns-in_ok-outcome-in-Refused-clause-asked
returns-in_ok-outcome-in-Refused-clause-asked g c =
    let e = c.args.search.now in
    let x = c.args.goal.now in
    let a = c.args.atoms.now in
    let m = g.W.A.Atoms.held a in
    let t = g.W.World.told c.args.world.now in
    let tells : TellsAtoms m = names_tell m (g.met.W.A.Atoms.fixed_held a) (g.met.W.A.Atoms.unlike a) (g.met.W.A.Atoms.finite a) in
    let k = c.in_ok-shared in
    let s = c.shared_of.new.store in
    let again : (let y : Search = record e { store = s; inferences = e.inferences + 1 } in y ≡ counted_in e) = counted_again e s (e.inferences + 1) k.ensures.kept (omega arith) in
    let is = subst (IsShared m e.store x) c.in-Refused.is (k.ensures.shares m tells c.requires.held) in
    let o = c.in_ok-outcome-in-Refused in
    let f = c.refuse.new.search in
    let led : IsRowLed m (counted_in e) x c.args.rest (error (fault_term m e.store c.in-Refused.fault)) f o.outcome =
    subst (λ (y : Search). IsHeldAt m y.store x.place → IsFaultHeld m y.store c.in-Refused.fault → IsRowLed m y x c.args.rest (error (fault_term m y.store c.in-Refused.fault)) f o.outcome) again
    (λ h i. o.ensures.led m tells h i) c.requires.held is.1.1 in
    let after : IsAfter (counted_in e) f o.outcome = subst (λ (y : Search). IsAfter y f o.outcome) again o.ensures.after in
    inl (refl, row_alone e x c.args.rest c.requires.goal (omega (arith, c.if-search-most.false)) m c.requires.held (error (fault_term m e.store c.in-Refused.fault)) is.0 f o.outcome led (after_counted e f o.outcome after))

pub succeed-requires-clause-whole : goal.succeed-requires-clause-whole
succeed-requires-clause-whole g c =
    let e = c.args.search.now in
    let x = c.args.goal.now in
    let a = c.args.atoms.now in
    let m = g.W.A.Atoms.held a in
    let t = g.W.World.told c.args.world.now in
    let tells : TellsAtoms m = names_tell m (g.met.W.A.Atoms.fixed_held a) (g.met.W.A.Atoms.unlike a) (g.met.W.A.Atoms.finite a) in
    let k = c.in_ok-shared in
    let s = c.shared_of.new.store in
    let again : (let y : Search = record e { store = s; inferences = e.inferences + 1 } in y ≡ counted_in e) = counted_again e s (e.inferences + 1) k.ensures.kept (omega arith) in
    subst IsWhole (sym again) (counted_whole e c.requires.whole)

pub succeed-requires-clause-goal : goal.succeed-requires-clause-goal
succeed-requires-clause-goal g c =
    let e = c.args.search.now in
    let x = c.args.goal.now in
    let a = c.args.atoms.now in
    let m = g.W.A.Atoms.held a in
    let t = g.W.World.told c.args.world.now in
    let tells : TellsAtoms m = names_tell m (g.met.W.A.Atoms.fixed_held a) (g.met.W.A.Atoms.unlike a) (g.met.W.A.Atoms.finite a) in
    let k = c.in_ok-shared in
    let s = c.shared_of.new.store in
    subst (λ (y : Contents). IsStateGoal y x) (sym k.ensures.kept) c.requires.goal.goal_is

pub succeed-requires-clause-held : goal.succeed-requires-clause-held
succeed-requires-clause-held g c =
    let e = c.args.search.now in
    let x = c.args.goal.now in
    let a = c.args.atoms.now in
    let m = g.W.A.Atoms.held a in
    let t = g.W.World.told c.args.world.now in
    let tells : TellsAtoms m = names_tell m (g.met.W.A.Atoms.fixed_held a) (g.met.W.A.Atoms.unlike a) (g.met.W.A.Atoms.finite a) in
    let k = c.in_ok-shared in
    let s = c.shared_of.new.store in
    (m, tells, subst (λ (y : Contents). IsHeldAt m y x.place) (sym k.ensures.kept) c.requires.held)

pub returns-in_ok-outcome-in-Holds-clause-asked : goal.returns-in_ok-outcome-in-Holds-clause-asked
returns-in_ok-outcome-in-Holds-clause-asked g c =
    let e = c.args.search.now in
    let x = c.args.goal.now in
    let a = c.args.atoms.now in
    let m = g.W.A.Atoms.held a in
    let t = g.W.World.told c.args.world.now in
    let tells : TellsAtoms m = names_tell m (g.met.W.A.Atoms.fixed_held a) (g.met.W.A.Atoms.unlike a) (g.met.W.A.Atoms.finite a) in
    let k = c.in_ok-shared in
    let s = c.shared_of.new.store in
    let again : (let y : Search = record e { store = s; inferences = e.inferences + 1 } in y ≡ counted_in e) = counted_again e s (e.inferences + 1) k.ensures.kept (omega arith) in
    let is = subst (IsShared m e.store x) c.in-Holds.is (k.ensures.shares m tells c.requires.held) in
    let o = c.in_ok-outcome-in-Holds in
    let f = c.succeed.new.search in
    let d = one_answer (arguments (reads m e.store x.place)) in
    let led : IsRowLed m (counted_in e) x c.args.rest d f o.outcome =
    subst (λ (y : Search). IsHeldAt m y.store x.place → IsRowLed m y x c.args.rest (one_answer (arguments (reads m y.store x.place))) f o.outcome) again
    (λ h. o.ensures.led m tells h) c.requires.held in
    let after : IsAfter (counted_in e) f o.outcome = subst (λ (y : Search). IsAfter y f o.outcome) again o.ensures.after in
    inl (refl, row_alone e x c.args.rest c.requires.goal (omega (arith, c.if-search-most.false)) m c.requires.held d is f o.outcome led (after_counted e f o.outcome after))

pub ask-requires-clause-whole : goal.ask-requires-clause-whole
ask-requires-clause-whole g c =
    let e = c.args.search.now in
    let x = c.args.goal.now in
    let a = c.args.atoms.now in
    let m = g.W.A.Atoms.held a in
    let t = g.W.World.told c.args.world.now in
    let tells : TellsAtoms m = names_tell m (g.met.W.A.Atoms.fixed_held a) (g.met.W.A.Atoms.unlike a) (g.met.W.A.Atoms.finite a) in
    let k = c.in_ok-shared in
    let s = c.shared_of.new.store in
    let same : (let y : Search = record e { store = s } in y ≡ e) = ap (λ (y : Contents). let z : Search = record e { store = y } in z) k.ensures.kept in
    subst IsWhole (sym same) c.requires.whole

pub ask-requires-clause-goal : goal.ask-requires-clause-goal
ask-requires-clause-goal g c =
    let e = c.args.search.now in
    let x = c.args.goal.now in
    let a = c.args.atoms.now in
    let m = g.W.A.Atoms.held a in
    let t = g.W.World.told c.args.world.now in
    let tells : TellsAtoms m = names_tell m (g.met.W.A.Atoms.fixed_held a) (g.met.W.A.Atoms.unlike a) (g.met.W.A.Atoms.finite a) in
    let k = c.in_ok-shared in
    let s = c.shared_of.new.store in
    let same : (let y : Search = record e { store = s } in y ≡ e) = ap (λ (y : Contents). let z : Search = record e { store = y } in z) k.ensures.kept in
    subst (λ (y : Search). IsStateAt y.store x) (sym same) c.requires.goal

pub ask-requires-clause-held : goal.ask-requires-clause-held
ask-requires-clause-held g c =
    let e = c.args.search.now in
    let x = c.args.goal.now in
    let a = c.args.atoms.now in
    let m = g.W.A.Atoms.held a in
    let t = g.W.World.told c.args.world.now in
    let tells : TellsAtoms m = names_tell m (g.met.W.A.Atoms.fixed_held a) (g.met.W.A.Atoms.unlike a) (g.met.W.A.Atoms.finite a) in
    let k = c.in_ok-shared in
    let s = c.shared_of.new.store in
    let same : (let y : Search = record e { store = s } in y ≡ e) = ap (λ (y : Contents). let z : Search = record e { store = y } in z) k.ensures.kept in
    subst (λ (y : Search). IsHeldAt m y.store x.place) (sym same) c.requires.held

pub ask-requires-clause-count : goal.ask-requires-clause-count
ask-requires-clause-count g c =
    let e = c.args.search.now in
    let x = c.args.goal.now in
    let a = c.args.atoms.now in
    let m = g.W.A.Atoms.held a in
    let t = g.W.World.told c.args.world.now in
    let tells : TellsAtoms m = names_tell m (g.met.W.A.Atoms.fixed_held a) (g.met.W.A.Atoms.unlike a) (g.met.W.A.Atoms.finite a) in
    let k = c.in_ok-shared in
    let s = c.shared_of.new.store in
    let same : (let y : Search = record e { store = s } in y ≡ e) = ap (λ (y : Contents). let z : Search = record e { store = y } in z) k.ensures.kept in
    subst (λ (y : Search). y.inferences < y.budgets.inferences) (sym same) (omega (arith, c.if-search-most.false))

pub ask-requires-clause-asks : goal.ask-requires-clause-asks
ask-requires-clause-asks g c =
    let e = c.args.search.now in
    let x = c.args.goal.now in
    let a = c.args.atoms.now in
    let m = g.W.A.Atoms.held a in
    let t = g.W.World.told c.args.world.now in
    let tells : TellsAtoms m = names_tell m (g.met.W.A.Atoms.fixed_held a) (g.met.W.A.Atoms.unlike a) (g.met.W.A.Atoms.finite a) in
    let k = c.in_ok-shared in
    let s = c.shared_of.new.store in
    let is = subst (IsShared m e.store x) c.in-Asks.is (k.ensures.shares m tells c.requires.held) in
    (is.0, is.1, subst (λ (y : Contents). IsVisitFor m (reads m y x.place) c.in-Asks.visit is.0 is.1) (sym k.ensures.kept) (record { shares = is.2; asks = is.3; held = is.4; by_names = is.5 }))
