use Rattle.std.proofs.Common.{[], inl, refl, ap, subst, sym, append-nil}
use Rattle.world_api.specs.Gains.{Gains}
use Rattle.world_api.proofs.Gaining.{gains_weaker}
use Rattle.std.specs.Prelude.{IfOk}
use Rattle.iso_engine.specs.Asked.{AsksFor, IsAnswerText}
use Rattle.iso_engine.specs.Clearing.{clears_with}
use Rattle.iso_engine.specs.Ready.{IsReady}
use Rattle.iso_engine.specs.Slices.{IsStepped}
use Rattle.iso_engine.specs.Unserved.{as_stopped}
use Rattle.iso_engine.specs.declared.doing.Doing.TheVariants.{Clearing, Running}
use Rattle.iso_engine.specs.declared.doing.Left.{Left}
use Rattle.iso_engine.specs.declared.doing.Left.TheVariants as left
use Rattle.iso_engine.specs.declared.engine.Engine.{Engine}
use Rattle.iso_engine.proofs.ClearMoved.{nothing_moved}
use Rattle.iso_engine.proofs.Interning.{nothing_asked}
use Rattle.iso_engine.proofs.Solutions.{view_is}
use Rattle.iso_engine.proofs.engine.Engine.clear_next.Goals as goal

pub returns-in-None-clause-stepped : goal.returns-in-None-clause-stepped
returns-in-None-clause-stepped g c =
    let l = c.args.list in
    let k = c.args.generation in
    let at = c.in_ok-at.at in
    let e : Engine = clears_with c.args.self.now l k c.args.left in
    let f : Engine = record c.args.self.now { doing = Running at.1 } in
    let a = c.args.atoms.now in
    let m = g.W.A.Atoms.held a in
    let t = g.W.World.told c.args.world.now in
    let view = view_is m t (g.met.W.A.Atoms.fixed_held a) (g.met.W.A.Atoms.unlike a) (g.met.W.A.Atoms.finite a) in
    let moved = nothing_moved m m t t e f l at.0 at.1 k left.None c.in_ok-at.ensures.clears (ap (Clearing l k) c.in-None.is) (λ j y h. h) view c.requires.ready refl refl c.requires.ready.whole
    t.history (record { later = []; grown = sym (append-nil t.history); others = refl }) refl (λ v viewed alike. refl) refl refl in
    moved.0

pub returns-in-None-clause-ready : goal.returns-in-None-clause-ready
returns-in-None-clause-ready g c =
    let l = c.args.list in
    let k = c.args.generation in
    let at = c.in_ok-at.at in
    let e : Engine = clears_with c.args.self.now l k c.args.left in
    let f : Engine = record c.args.self.now { doing = Running at.1 } in
    let a = c.args.atoms.now in
    let m = g.W.A.Atoms.held a in
    let t = g.W.World.told c.args.world.now in
    let view = view_is m t (g.met.W.A.Atoms.fixed_held a) (g.met.W.A.Atoms.unlike a) (g.met.W.A.Atoms.finite a) in
    let moved = nothing_moved m m t t e f l at.0 at.1 k left.None c.in_ok-at.ensures.clears (ap (Clearing l k) c.in-None.is) (λ j y h. h) view c.requires.ready refl refl c.requires.ready.whole
    t.history (record { later = []; grown = sym (append-nil t.history); others = refl }) refl (λ v viewed alike. refl) refl refl in
    moved.1

pub returns-in-None-clause-spent : goal.returns-in-None-clause-spent
returns-in-None-clause-spent g c =
    let l = c.args.list in
    let k = c.args.generation in
    let at = c.in_ok-at.at in
    let e : Engine = clears_with c.args.self.now l k c.args.left in
    let f : Engine = record c.args.self.now { doing = Running at.1 } in
    let a = c.args.atoms.now in
    let m = g.W.A.Atoms.held a in
    let t = g.W.World.told c.args.world.now in
    let view = view_is m t (g.met.W.A.Atoms.fixed_held a) (g.met.W.A.Atoms.unlike a) (g.met.W.A.Atoms.finite a) in
    let moved = nothing_moved m m t t e f l at.0 at.1 k left.None c.in_ok-at.ensures.clears (ap (Clearing l k) c.in-None.is) (λ j y h. h) view c.requires.ready refl refl c.requires.ready.whole
    t.history (record { later = []; grown = sym (append-nil t.history); others = refl }) refl (λ v viewed alike. refl) refl refl in
    moved.2

pub clear_found-requires-clause-ready : goal.clear_found-requires-clause-ready
clear_found-requires-clause-ready g c =
    subst (λ (l : Left). IsReady (g.W.A.Atoms.held c.args.atoms.now) (g.W.World.told c.args.world.now) (clears_with c.args.self.now c.args.list c.args.generation l)) c.in-Found.is c.requires.ready

pub returns-in-Found-clause-stepped : goal.returns-in-Found-clause-stepped
returns-in-Found-clause-stepped g c =
    let r = c.clear_found.result in
    let n = g.W.A.Atoms.held c.clear_found.new.atoms in
    let u = g.W.World.told c.clear_found.new.world in
    subst (λ (l : Left). IfOk (as_stopped r) (λ o. IsStepped (g.W.A.Atoms.held c.args.atoms.now) (g.W.World.told c.args.world.now) (clears_with c.args.self.now c.args.list c.args.generation l) o n u c.clear_found.new.self []))
    (sym c.in-Found.is) c.clear_found.ensures.stepped

pub returns-in-Found-clause-asked : goal.returns-in-Found-clause-asked
returns-in-Found-clause-asked g c =
    let m = g.W.A.Atoms.held c.args.atoms.now in
    let t = g.W.World.told c.args.world.now in
    let old = g.W.A.Atoms.asked c.args.atoms.now in
    let new = g.W.A.Atoms.asked c.clear_found.new.atoms in
    subst (λ (l : Left). Gains (AsksFor m t (clears_with c.args.self.now c.args.list c.args.generation l)) old new) (sym c.in-Found.is)
    (let e : Engine = clears_with c.args.self.now c.args.list c.args.generation (left.Found c.in-Found.after c.in-Found.found) in
    gains_weaker (IsAnswerText m t e) (AsksFor m t e) old new (λ y s. inl s) c.clear_found.ensures.asked)

pub clear_after-requires-clause-ready : goal.clear_after-requires-clause-ready
clear_after-requires-clause-ready g c =
    subst (λ (l : Left). IsReady (g.W.A.Atoms.held c.args.atoms.now) (g.W.World.told c.args.world.now) (clears_with c.args.self.now c.args.list c.args.generation l)) c.in-After.is c.requires.ready

pub returns-in-After-clause-stepped : goal.returns-in-After-clause-stepped
returns-in-After-clause-stepped g c =
    let r = c.clear_after.result in
    let n = g.W.A.Atoms.held c.clear_after.new.atoms in
    let u = g.W.World.told c.clear_after.new.world in
    subst (λ (l : Left). IfOk (as_stopped r) (λ o. IsStepped (g.W.A.Atoms.held c.args.atoms.now) (g.W.World.told c.args.world.now) (clears_with c.args.self.now c.args.list c.args.generation l) o n u c.clear_after.new.self []))
    (sym c.in-After.is) c.clear_after.ensures.stepped

pub returns-in-After-clause-asked : goal.returns-in-After-clause-asked
returns-in-After-clause-asked g c =
    let m = g.W.A.Atoms.held c.args.atoms.now in
    let t = g.W.World.told c.args.world.now in
    let old = g.W.A.Atoms.asked c.args.atoms.now in
    let new = g.W.A.Atoms.asked c.clear_after.new.atoms in
    subst (λ (l : Left). Gains (AsksFor m t (clears_with c.args.self.now c.args.list c.args.generation l)) old new) (sym c.in-After.is)
    c.clear_after.ensures.asked

pub returns-in_err-at-clause-asked : goal.returns-in_err-at-clause-asked
returns-in_err-at-clause-asked g c = let asked = g.W.A.Atoms.asked c.args.atoms.now in nothing_asked _ asked asked refl

pub returns-in-None-clause-asked : goal.returns-in-None-clause-asked
returns-in-None-clause-asked g c = let asked = g.W.A.Atoms.asked c.args.atoms.now in nothing_asked _ asked asked refl
