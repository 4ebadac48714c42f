use Rattle.std.proofs.Common.{◌≡◌, ℕ, ◌+◌, None, IfOk, IfSome, Option, inl, refl, sym, ap, ap₂, subst, ◌∙◌, arith}
use Rattle.std.specs.Option.{option_map}
use Rattle.term_store.specs.Contents.{Contents, Holds as IsIn}
use Rattle.atom_api.specs.Fixed.{fixed}
use Rattle.world_api.specs.declared.visit.Procedure.{Procedure}
use Rattle.world_api.specs.Texts.{Holds}
use Rattle.world_builtins.specs.Naming.{IsHeldAt}
use Rattle.iso_search.specs.declared.search.Search.{Search}
use Rattle.iso_search.specs.Outcomes.{IsAfter}
use Rattle.iso_search.specs.Reading.{IsView, View}
use Rattle.iso_search.specs.Searching.{IsWhole}
use Rattle.shared_builtins.specs.declared.faults.Fault.{Fault}
use Rattle.shared_builtins.specs.Faults.{IsFaultHeld, IsFaultIn, fault_term}
use Rattle.shared_builtins.specs.Telling.{TellsAtoms}
use Rattle.iso_engine.specs.ClauseLooks.{IsLookDone, look_error, predicate_for}
use Rattle.iso_engine.specs.Views.{view_of}
use Rattle.iso_engine.proofs.ClauseLooks.{look_spent}
use Rattle.iso_engine.proofs.Equals.{keeps_counted}
use Rattle.iso_engine.specs.Following.{HasProcedure}
use Rattle.iso_engine.proofs.LookGoals.{look_held, look_named, look_procedure}
use Rattle.iso_engine.proofs.LookRows.{looked_alone}
use Rattle.iso_engine.proofs.RaisedRows.{IsRaisedLed}
use Rattle.iso_engine.proofs.Solutions.{view_is}
use Rattle.iso_engine.proofs.StateAsked.{after_counted, names_tell}
use Rattle.iso_engine.proofs.StateRows.{counted_again, counted_in, counted_whole}
use Rattle.iso_engine.proofs.state.looking.look_goal.Goals as goal

pub returns-then-search-most-clause-looked : goal.returns-then-search-most-clause-looked
returns-then-search-most-clause-looked g c =
    let e = c.args.search.now in
    let x = c.args.goal.now in (
      refl,
      (
        refl,
        record {
          leads = λ s h view known. look_spent e x c.args.rest c.requires.goal s h view (omega (arith, c.if-search-most.true));
          after = record { budgets = refl; inside = (tt, keeps_counted e e refl) };
        },
      ),
    )

pub refuse_goal-requires-clause-whole : goal.refuse_goal-requires-clause-whole
refuse_goal-requires-clause-whole g c =
    let e = c.args.search.now in
    let k = c.in_ok-refused in
    let s = c.look_fault.new.store in
    let again : (let y : Search = record e { store = s; inferences = e.inferences + 1 } in y ≡ counted_in e) = counted_again e s (e.inferences + 1) k.ensures.kept (omega arith) in
    subst IsWhole (sym again) (counted_whole e c.requires.whole)

pub refuse_goal-requires-clause-goal : goal.refuse_goal-requires-clause-goal
refuse_goal-requires-clause-goal g c = subst (λ (y : Contents). IsIn y c.args.goal.now.place) (sym c.in_ok-refused.ensures.kept) c.requires.goal.holds

pub refuse_goal-requires-clause-fixed : goal.refuse_goal-requires-clause-fixed
refuse_goal-requires-clause-fixed g c =
    let n = look_named c.args.goal.now.look in (n.0, ap (λ (q : Procedure). fixed q.name) c.procedure-name.ensures ∙ n.1)

pub refuse_goal-requires-clause-procedure : goal.refuse_goal-requires-clause-procedure
refuse_goal-requires-clause-procedure g c =
    let x = c.args.goal.now in
    let p : Procedure = record { name = c.procedure-name.result.name; arity = c.arity.result } in
    let same : p ≡ predicate_for x.look = ap₂ (λ (n k : ℕ). let q : Procedure = record { name = n; arity = k } in q) (ap (λ (q : Procedure). q.name) c.procedure-name.ensures) c.arity.ensures in
    subst (λ (y : Contents). HasProcedure y x.place p) (sym c.in_ok-refused.ensures.kept)
    (subst (HasProcedure c.args.search.now.store x.place) (sym same) (look_procedure c.args.search.now.store x c.requires.goal))

pub refuse_goal-requires-clause-fault : goal.refuse_goal-requires-clause-fault
refuse_goal-requires-clause-fault g c =
    let e = c.args.search.now in
    let x = c.args.goal.now in
    let a = c.args.atoms.now in
    let m = g.W.A.Atoms.held a in
    let t = g.W.World.told c.args.world.now in
    let tells : TellsAtoms m = names_tell m (g.met.W.A.Atoms.fixed_held a) (g.met.W.A.Atoms.unlike a) (g.met.W.A.Atoms.finite a) in
    let view = view_is m t (g.met.W.A.Atoms.fixed_held a) (g.met.W.A.Atoms.unlike a) (g.met.W.A.Atoms.finite a) in
    let k = c.in_ok-refused in
    let is = k.ensures.fault m (view_of m t) tells view (λ b y h. h) (look_held m e.store x c.requires.goal c.requires.held) in
    subst (λ (y : Contents). IsFaultIn y c.in-Some.fault) (sym k.ensures.kept)
    (subst (λ (o : Option Fault). IfSome o (IsFaultIn e.store)) c.in-Some.is is.1.0)

pub refuse_goal-requires-clause-held : goal.refuse_goal-requires-clause-held
refuse_goal-requires-clause-held g c =
    let e = c.args.search.now in
    let x = c.args.goal.now in
    let a = c.args.atoms.now in
    let m = g.W.A.Atoms.held a in
    let t = g.W.World.told c.args.world.now in
    let tells : TellsAtoms m = names_tell m (g.met.W.A.Atoms.fixed_held a) (g.met.W.A.Atoms.unlike a) (g.met.W.A.Atoms.finite a) in
    let view = view_is m t (g.met.W.A.Atoms.fixed_held a) (g.met.W.A.Atoms.unlike a) (g.met.W.A.Atoms.finite a) in
    let k = c.in_ok-refused in
    let is = k.ensures.fault m (view_of m t) tells view (λ b y h. h) (look_held m e.store x c.requires.goal c.requires.held) in (
      m,
      tells,
      subst (λ (y : Contents). IsHeldAt m y x.place) (sym k.ensures.kept) c.requires.held,
      subst (λ (y : Contents). IsFaultHeld m y c.in-Some.fault) (sym k.ensures.kept) (subst (λ (o : Option Fault). IfSome o (IsFaultHeld m e.store)) c.in-Some.is is.1.1),
    )

pub returns-in_ok-outcome-in-Some-clause-looked : goal.returns-in_ok-outcome-in-Some-clause-looked
returns-in_ok-outcome-in-Some-clause-looked g c =
    let e = c.args.search.now in
    let x = c.args.goal.now in
    let a = c.args.atoms.now in
    let m = g.W.A.Atoms.held a in
    let tells : TellsAtoms m = names_tell m (g.met.W.A.Atoms.fixed_held a) (g.met.W.A.Atoms.unlike a) (g.met.W.A.Atoms.finite a) in
    let k = c.in_ok-refused in
    let s = c.look_fault.new.store in
    let again : (let y : Search = record e { store = s; inferences = e.inferences + 1 } in y ≡ counted_in e) = counted_again e s (e.inferences + 1) k.ensures.kept (omega arith) in
    let o = c.in_ok-outcome-in-Some in
    let f = c.refuse_goal.new.search in
    let fault = c.in-Some.fault in
    let args = look_held m e.store x c.requires.goal c.requires.held in
    let is = λ (v : View) (view : IsView v) (known : Holds m v.names). k.ensures.fault m v tells view known args in
    inl (
      refl,
      looked_alone m e x c.args.rest c.requires.goal (omega (arith, c.if-search-most.false)) fault f o.outcome
          (λ v view known. (is v view known).0 ∙ ap (option_map (fault_term m e.store)) c.in-Some.is)
          (λ r view known.
          subst (λ (y : Search). IsHeldAt m y.store x.place → IsFaultHeld m y.store fault → IsRaisedLed m y x.place c.args.rest (fault_term m y.store fault) f o.outcome r) again
          (λ h i. o.ensures.led m r tells h i view known) c.requires.held
          (subst (λ (q : Option Fault). IfSome q (IsFaultHeld m e.store)) c.in-Some.is (is r.view view known).1.1))
          (after_counted e f o.outcome (subst (λ (y : Search). IsAfter y f o.outcome) again o.ensures.after)),
    )

pub look-requires-clause-allowed : goal.look-requires-clause-allowed
look-requires-clause-allowed g c v view known =
    let e = c.args.search.now in
    let x = c.args.goal.now in
    let a = c.args.atoms.now in
    let m = g.W.A.Atoms.held a in
    let k = c.in_ok-refused in
    let s = c.look_fault.new.store in
    let tells : TellsAtoms m = names_tell m (g.met.W.A.Atoms.fixed_held a) (g.met.W.A.Atoms.unlike a) (g.met.W.A.Atoms.finite a) in
    let is = k.ensures.fault m v tells view known (look_held m e.store x c.requires.goal c.requires.held) in
    subst (λ (y : Contents). look_error v y x.look ≡ None) (sym k.ensures.kept) (is.0 ∙ ap (option_map (fault_term m e.store)) c.in-None.is)

pub returns-in-None-clause-looked : goal.returns-in-None-clause-looked
returns-in-None-clause-looked g c =
    let e = c.args.search.now in
    let x = c.args.goal.now in
    let a = c.args.atoms.now in
    let m = g.W.A.Atoms.held a in
    let k = c.in_ok-refused in
    let s = c.look_fault.new.store in
    let same : (let y : Search = record e { store = s } in y ≡ e) = ap (λ (y : Contents). let z : Search = record e { store = y } in z) k.ensures.kept in
    let n = g.W.A.Atoms.held c.look.new.atoms in
    let t = g.W.World.told c.args.world.now in
    let u = g.W.World.told c.look.new.world in
    subst (λ (y : Search). IfOk c.look.result (IsLookDone t y x c.args.rest n u c.look.new.search)) same c.look.ensures.looked
