use Rattle.std.proofs.Common.{◌≡◌, ◌+◌, [], ◌++◌, ◌∙◌, List, Option, Some, refl, sym, ap, subst, arith}
use Rattle.std.specs.Prelude.{IfNone, encode_utf8_all}
use Rattle.std.proofs.lemmas.Result.{IfOk-at_ok}
use Rattle.pl_model.specs.Resolution.{Output}
use Rattle.iso_engine.specs.declared.slices.Slice.{Slice}
use Rattle.iso_engine.specs.Ready.{IsReady}
use Rattle.iso_engine.specs.Asked.{AsksFor, ComesToAsk}
use Rattle.iso_engine.specs.Quick.{IsQuick}
use Rattle.iso_engine.specs.Slices.{IsStepped, steps_of, written_text}
use Rattle.iso_engine.specs.Spending.{IsSpent}
use Rattle.iso_engine.specs.Unserved.{stopped_refusals}
use Rattle.world_api.specs.Gains.{Gains}
use Rattle.world_api.proofs.Gaining.{gains_nothing}
use Rattle.iso_engine.proofs.KnownAnswers.{quick_still, same_held}
use Rattle.iso_engine.proofs.Stepping.{silent_out}
use Rattle.iso_engine.proofs.Arms.{when_none}
use Rattle.iso_engine.proofs.Interning.{came, come_gains, nothing_asked, step_advances, way_gains}
use Rattle.iso_engine.proofs.Walks.{none_refused, slice_ends, some_refused, walk_begins, walk_on, walk_stays, went_on}
use Rattle.iso_engine.proofs.engine.Engine.steps.Goals as goal

pub loop-init : goal.loop-init
loop-init g c = (
  0,
  omega arith,
  walk_begins c.args.n (g.W.A.Atoms.held c.args.atoms.now) (g.W.World.told c.args.world.now) c.args.self.now c.args.out.now.items c.requires.runs c.requires.ready,
  refl,
  nothing_asked _ (g.W.A.Atoms.asked c.args.atoms.now) (g.W.A.Atoms.asked c.args.atoms.now) refl,
)

pub loop-preserved-in-Went : goal.loop-preserved-in-Went
loop-preserved-in-Went g c =
    let m = g.W.A.Atoms.held c.args.atoms.now in
    let n = g.W.A.Atoms.held c.loop.atoms in
    let r = g.W.A.Atoms.held c.step_known.new.atoms in
    let t = g.W.World.told c.args.world.now in
    let u = g.W.World.told c.loop.world in
    let w = g.W.World.told c.step_known.new.world in
    let f = c.step_known.new.self in
    let out = c.loop.out.items in
    let walk = c.loop.invariant.2 in
    let low = walk.low in
    let less = c.if-self-start.false in
    let quick = c.in_ok-quick.ensures in
    let went = subst (IsQuick n u c.loop.self r w f) c.in-Went.is quick.quick in (
      1 + c.loop.invariant.0,
      (let counted = c.loop.invariant.1 in let sum = c.in_ok-count_one.ensures in omega (arith, counted, sum)),
      walk_on c.args.n c.loop.invariant.0 m n r t u w c.args.self.now c.loop.self f c.args.out.now.items out out [] walk went (silent_out out [] refl) c.step_known.ensures.runs quick.ready
          (same_held n r c.step_known.ensures.held) quick.spent quick.given (omega (arith, low, less)),
      c.step_known.ensures.refusals ∙ c.loop.invariant.3,
      way_gains c.loop.invariant.0 1 m n r t u w c.args.self.now c.loop.self f walk.written [] (g.W.A.Atoms.asked c.args.atoms.now) (g.W.A.Atoms.asked c.loop.atoms)
          (g.W.A.Atoms.asked c.step_known.new.atoms) walk.advances went c.loop.invariant.4
          (gains_nothing (AsksFor n u c.loop.self) (g.W.A.Atoms.asked c.loop.atoms) (g.W.A.Atoms.asked c.step_known.new.atoms) c.step_known.ensures.asked),
    )

pub returns-in_err-quick-clause-came : goal.returns-in_err-quick-clause-came
returns-in_err-quick-clause-came g c =
    let m = g.W.A.Atoms.held c.args.atoms.now in
    let t = g.W.World.told c.args.world.now in
    let a = g.W.A.Atoms.asked c.args.atoms.now in
    subst (λ b. Gains (ComesToAsk m t c.args.self.now) a b) (sym c.step_known.ensures.asked)
    (came m (g.W.A.Atoms.held c.loop.atoms) t (g.W.World.told c.loop.world) c.args.self.now c.loop.self a (g.W.A.Atoms.asked c.loop.atoms) c.loop.invariant.4)

pub returns-in_err-count_one-clause-came : goal.returns-in_err-count_one-clause-came
returns-in_err-count_one-clause-came g c =
    let m = g.W.A.Atoms.held c.args.atoms.now in
    let t = g.W.World.told c.args.world.now in
    let a = g.W.A.Atoms.asked c.args.atoms.now in
    subst (λ b. Gains (ComesToAsk m t c.args.self.now) a b) (sym c.step_known.ensures.asked)
    (came m (g.W.A.Atoms.held c.loop.atoms) t (g.W.World.told c.loop.world) c.args.self.now c.loop.self a (g.W.A.Atoms.asked c.loop.atoms) c.loop.invariant.4)

pub loop-preserved : goal.loop-preserved
loop-preserved g c =
    let m = g.W.A.Atoms.held c.args.atoms.now in
    let before = g.W.A.Atoms.held c.loop.atoms in
    let n = g.W.A.Atoms.held c.step_known.new.atoms in
    let r = g.W.A.Atoms.held c.step-stepped.new.atoms in
    let t = g.W.World.told c.args.world.now in
    let old = g.W.World.told c.loop.world in
    let u = g.W.World.told c.step_known.new.world in
    let w = g.W.World.told c.step-stepped.new.world in
    let d = c.step_known.new.self in
    let still = quick_still before n old u c.loop.self d c.in_ok-quick.quick c.in_default.not-Went c.in_ok-quick.ensures.quick in
    let walk = walk_stays c.args.n c.loop.invariant.0 (g.W.A.Atoms.held c.args.atoms.now) before n (g.W.World.told c.args.world.now) old u c.args.self.now c.loop.self d c.args.out.now.items c.loop.out.items
    c.loop.invariant.2 still.0 c.step_known.ensures.runs c.in_ok-quick.ensures.ready (same_held before n c.step_known.ensures.held) still.1 c.in_ok-quick.ensures.given in
    let low = walk.low in
    let less = c.if-self-start.false in
    let count = still.1 in
    let s = c.in_ok-stopped in
    let told = s.ensures.stop in
    let went = went_on n r u w d c.step-stepped.new.self c.loop.out.items c.step-stepped.new.out.items s.stopped (IfOk-at_ok (λ o. (more : List Output) × IsStepped n u d o r w c.step-stepped.new.self more × (c.step-stepped.new.out.items ≡ c.loop.out.items ++ encode_utf8_all (written_text more))) told c.step-stepped.ensures.stepped) c.in_default-stopped.is in (
      1 + c.loop.invariant.0,
      (let counted = c.loop.invariant.1 in let one = ap steps_of c.in_default-stopped.is in let sum = s.ensures.count in omega (arith, counted, one, sum)),
      walk_on c.args.n c.loop.invariant.0 m n r t u w c.args.self.now d c.step-stepped.new.self c.args.out.now.items c.loop.out.items c.step-stepped.new.out.items went.0 walk went.1 went.2
          c.step-stepped.ensures.runs (IfOk-at_ok (λ o. IsReady r w c.step-stepped.new.self) told c.step-stepped.ensures.ready) c.step-stepped.ensures.holds (IfOk-at_ok (λ o. IsSpent d.search.inferences c.step-stepped.new.self.search.inferences) told c.step-stepped.ensures.spent) (when_none _ _ (IfOk-at_ok (λ o. IfNone o (c.step-stepped.new.self.solutions_found ≡ d.solutions_found)) told c.step-stepped.ensures.given) c.in_default-stopped.is) (omega (arith, low, less, count)),
      none_refused (g.W.A.Atoms.refusals c.args.atoms.now) (g.W.A.Atoms.refusals c.step_known.new.atoms) (g.W.A.Atoms.refusals c.step-stepped.new.atoms) s.stopped (c.step_known.ensures.refusals ∙ c.loop.invariant.3)
          (IfOk-at_ok (λ o. g.W.A.Atoms.refusals c.step-stepped.new.atoms ≡ g.W.A.Atoms.refusals c.step_known.new.atoms ++ stopped_refusals o) told c.step-stepped.ensures.refusals) c.in_default-stopped.is,
      way_gains c.loop.invariant.0 1 m n r t u w c.args.self.now d c.step-stepped.new.self walk.written went.0 (g.W.A.Atoms.asked c.args.atoms.now)
          (g.W.A.Atoms.asked c.step_known.new.atoms) (g.W.A.Atoms.asked c.step-stepped.new.atoms) walk.advances went.1 (way_gains c.loop.invariant.0 0 (g.W.A.Atoms.held c.args.atoms.now) before n (g.W.World.told c.args.world.now) old u c.args.self.now c.loop.self d c.loop.invariant.2.written []
          (g.W.A.Atoms.asked c.args.atoms.now) (g.W.A.Atoms.asked c.loop.atoms) (g.W.A.Atoms.asked c.step_known.new.atoms) c.loop.invariant.2.advances still.0 c.loop.invariant.4
          (gains_nothing (AsksFor before old c.loop.self) (g.W.A.Atoms.asked c.loop.atoms) (g.W.A.Atoms.asked c.step_known.new.atoms) c.step_known.ensures.asked)) c.step-stepped.ensures.asked,
    )

pub returns-in-Some-clause-sliced : goal.returns-in-Some-clause-sliced
returns-in-Some-clause-sliced g c =
    let m = g.W.A.Atoms.held c.args.atoms.now in
    let before = g.W.A.Atoms.held c.loop.atoms in
    let n = g.W.A.Atoms.held c.step_known.new.atoms in
    let r = g.W.A.Atoms.held c.step-stepped.new.atoms in
    let t = g.W.World.told c.args.world.now in
    let old = g.W.World.told c.loop.world in
    let u = g.W.World.told c.step_known.new.world in
    let w = g.W.World.told c.step-stepped.new.world in
    let d = c.step_known.new.self in
    let still = quick_still before n old u c.loop.self d c.in_ok-quick.quick c.in_default.not-Went c.in_ok-quick.ensures.quick in
    let walk = walk_stays c.args.n c.loop.invariant.0 (g.W.A.Atoms.held c.args.atoms.now) before n (g.W.World.told c.args.world.now) old u c.args.self.now c.loop.self d c.args.out.now.items c.loop.out.items
    c.loop.invariant.2 still.0 c.step_known.ensures.runs c.in_ok-quick.ensures.ready (same_held before n c.step_known.ensures.held) still.1 c.in_ok-quick.ensures.given in
    let low = walk.low in
    let less = c.if-self-start.false in
    let count = still.1 in
    let s = c.in_ok-stopped in
    let told = s.ensures.stop in
    let step = subst (λ (x : Option Slice). (more : List Output) × IsStepped n u d x r w c.step-stepped.new.self more
    × (c.step-stepped.new.out.items ≡ c.loop.out.items ++ encode_utf8_all (written_text more))) c.in-Some.is (IfOk-at_ok (λ o. (more : List Output) × IsStepped n u d o r w c.step-stepped.new.self more × (c.step-stepped.new.out.items ≡ c.loop.out.items ++ encode_utf8_all (written_text more))) told c.step-stepped.ensures.stepped) in (
      steps_of (Some c.in-Some.slice) + c.loop.invariant.0,
      (let counted = c.loop.invariant.1 in let some = ap steps_of c.in-Some.is in let sum = s.ensures.count in omega (arith, counted, some, sum)),
      slice_ends c.args.n c.loop.invariant.0 m n r t u w c.args.self.now d c.step-stepped.new.self c.args.out.now.items c.loop.out.items c.step-stepped.new.out.items walk (IfOk-at_ok (λ o. IsSpent d.search.inferences c.step-stepped.new.self.search.inferences) told c.step-stepped.ensures.spent)
          (omega (arith, low, less, count)) c.in-Some.slice step,
    )

pub returns-in-Some-clause-refusals : goal.returns-in-Some-clause-refusals
returns-in-Some-clause-refusals g c =
    let s = c.in_ok-stopped in
    let told = s.ensures.stop in
    some_refused (g.W.A.Atoms.refusals c.args.atoms.now) (g.W.A.Atoms.refusals c.step_known.new.atoms) (g.W.A.Atoms.refusals c.step-stepped.new.atoms) s.stopped c.in-Some.slice (c.step_known.ensures.refusals ∙ c.loop.invariant.3)
    (IfOk-at_ok (λ o. g.W.A.Atoms.refusals c.step-stepped.new.atoms ≡ g.W.A.Atoms.refusals c.step_known.new.atoms ++ stopped_refusals o) told c.step-stepped.ensures.refusals) c.in-Some.is

pub returns-in-Some-clause-asked : goal.returns-in-Some-clause-asked
returns-in-Some-clause-asked g c =
    let m = g.W.A.Atoms.held c.args.atoms.now in
    let before = g.W.A.Atoms.held c.loop.atoms in
    let n = g.W.A.Atoms.held c.step_known.new.atoms in
    let r = g.W.A.Atoms.held c.step-stepped.new.atoms in
    let t = g.W.World.told c.args.world.now in
    let old = g.W.World.told c.loop.world in
    let u = g.W.World.told c.step_known.new.world in
    let w = g.W.World.told c.step-stepped.new.world in
    let d = c.step_known.new.self in
    let still = quick_still before n old u c.loop.self d c.in_ok-quick.quick c.in_default.not-Went c.in_ok-quick.ensures.quick in
    let walk = walk_stays c.args.n c.loop.invariant.0 (g.W.A.Atoms.held c.args.atoms.now) before n (g.W.World.told c.args.world.now) old u c.args.self.now c.loop.self d c.args.out.now.items c.loop.out.items
    c.loop.invariant.2 still.0 c.step_known.ensures.runs c.in_ok-quick.ensures.ready (same_held before n c.step_known.ensures.held) still.1 c.in_ok-quick.ensures.given in
    let s = c.in_ok-stopped in
    let told = s.ensures.stop in
    let stepped = (IfOk-at_ok (λ o. (more : List Output) × IsStepped n u d o r w c.step-stepped.new.self more × (c.step-stepped.new.out.items ≡ c.loop.out.items ++ encode_utf8_all (written_text more))) told c.step-stepped.ensures.stepped) in
    let step = step_advances n r u w d c.step-stepped.new.self s.stopped stepped.0 stepped.1 in
    way_gains c.loop.invariant.0 step.0 m n r t u w c.args.self.now d c.step-stepped.new.self walk.written stepped.0 (g.W.A.Atoms.asked c.args.atoms.now)
    (g.W.A.Atoms.asked c.step_known.new.atoms) (g.W.A.Atoms.asked c.step-stepped.new.atoms) walk.advances step.1 (way_gains c.loop.invariant.0 0 (g.W.A.Atoms.held c.args.atoms.now) before n (g.W.World.told c.args.world.now) old u c.args.self.now c.loop.self d c.loop.invariant.2.written []
    (g.W.A.Atoms.asked c.args.atoms.now) (g.W.A.Atoms.asked c.loop.atoms) (g.W.A.Atoms.asked c.step_known.new.atoms) c.loop.invariant.2.advances still.0 c.loop.invariant.4
    (gains_nothing (AsksFor before old c.loop.self) (g.W.A.Atoms.asked c.loop.atoms) (g.W.A.Atoms.asked c.step_known.new.atoms) c.step_known.ensures.asked)) c.step-stepped.ensures.asked

pub returns-in-Some-clause-came : goal.returns-in-Some-clause-came
returns-in-Some-clause-came g c =
    let before = g.W.A.Atoms.held c.loop.atoms in
    let n = g.W.A.Atoms.held c.step_known.new.atoms in
    let old = g.W.World.told c.loop.world in
    let u = g.W.World.told c.step_known.new.world in
    let d = c.step_known.new.self in
    let still = quick_still before n old u c.loop.self d c.in_ok-quick.quick c.in_default.not-Went c.in_ok-quick.ensures.quick in
    let walk = walk_stays c.args.n c.loop.invariant.0 (g.W.A.Atoms.held c.args.atoms.now) before n (g.W.World.told c.args.world.now) old u c.args.self.now c.loop.self d c.args.out.now.items c.loop.out.items
    c.loop.invariant.2 still.0 c.step_known.ensures.runs c.in_ok-quick.ensures.ready (same_held before n c.step_known.ensures.held) still.1 c.in_ok-quick.ensures.given in
    come_gains c.loop.invariant.0 0 (g.W.A.Atoms.held c.args.atoms.now) n n (g.W.World.told c.args.world.now) u u c.args.self.now d d walk.written []
    (g.W.A.Atoms.asked c.args.atoms.now) (g.W.A.Atoms.asked c.step_known.new.atoms) (g.W.A.Atoms.asked c.step-stepped.new.atoms) walk.advances (way_gains c.loop.invariant.0 0 (g.W.A.Atoms.held c.args.atoms.now) before n (g.W.World.told c.args.world.now) old u c.args.self.now c.loop.self d c.loop.invariant.2.written []
    (g.W.A.Atoms.asked c.args.atoms.now) (g.W.A.Atoms.asked c.loop.atoms) (g.W.A.Atoms.asked c.step_known.new.atoms) c.loop.invariant.2.advances still.0 c.loop.invariant.4
    (gains_nothing (AsksFor before old c.loop.self) (g.W.A.Atoms.asked c.loop.atoms) (g.W.A.Atoms.asked c.step_known.new.atoms) c.step_known.ensures.asked)) c.step-stepped.ensures.asked

pub returns-in_err-stopped-clause-came : goal.returns-in_err-stopped-clause-came
returns-in_err-stopped-clause-came g c =
    let before = g.W.A.Atoms.held c.loop.atoms in
    let n = g.W.A.Atoms.held c.step_known.new.atoms in
    let old = g.W.World.told c.loop.world in
    let u = g.W.World.told c.step_known.new.world in
    let d = c.step_known.new.self in
    let still = quick_still before n old u c.loop.self d c.in_ok-quick.quick c.in_default.not-Went c.in_ok-quick.ensures.quick in
    let walk = walk_stays c.args.n c.loop.invariant.0 (g.W.A.Atoms.held c.args.atoms.now) before n (g.W.World.told c.args.world.now) old u c.args.self.now c.loop.self d c.args.out.now.items c.loop.out.items
    c.loop.invariant.2 still.0 c.step_known.ensures.runs c.in_ok-quick.ensures.ready (same_held before n c.step_known.ensures.held) still.1 c.in_ok-quick.ensures.given in
    come_gains c.loop.invariant.0 0 (g.W.A.Atoms.held c.args.atoms.now) n n (g.W.World.told c.args.world.now) u u c.args.self.now d d walk.written []
    (g.W.A.Atoms.asked c.args.atoms.now) (g.W.A.Atoms.asked c.step_known.new.atoms) (g.W.A.Atoms.asked c.step-stepped.new.atoms) walk.advances (way_gains c.loop.invariant.0 0 (g.W.A.Atoms.held c.args.atoms.now) before n (g.W.World.told c.args.world.now) old u c.args.self.now c.loop.self d c.loop.invariant.2.written []
    (g.W.A.Atoms.asked c.args.atoms.now) (g.W.A.Atoms.asked c.loop.atoms) (g.W.A.Atoms.asked c.step_known.new.atoms) c.loop.invariant.2.advances still.0 c.loop.invariant.4
    (gains_nothing (AsksFor before old c.loop.self) (g.W.A.Atoms.asked c.loop.atoms) (g.W.A.Atoms.asked c.step_known.new.atoms) c.step_known.ensures.asked)) c.step-stepped.ensures.asked

pub returns-clause-came : goal.returns-clause-came
returns-clause-came g c =
    came (g.W.A.Atoms.held c.args.atoms.now) (g.W.A.Atoms.held c.loop.atoms) (g.W.World.told c.args.world.now) (g.W.World.told c.loop.world) c.args.self.now
    c.loop.self (g.W.A.Atoms.asked c.args.atoms.now) (g.W.A.Atoms.asked c.loop.atoms) c.loop.invariant.4
