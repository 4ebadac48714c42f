use Rattle.std.proofs.Common.{◌≡◌, [], refl}
use Rattle.pl_term.specs.Tree.{Tree}
use Rattle.world_api.specs.declared.reply.Reply.{Reply}
use Rattle.iso_engine.specs.Ready.{IsReady}
use Rattle.iso_engine.specs.Slices.{IsStepped}
use Rattle.iso_engine.specs.declared.engine.Engine.{Engine}
use Rattle.iso_engine.proofs.Erased.{erase_asks_for, erased_moved}
use Rattle.iso_engine.proofs.Refusals.{at_exit, on_refusal, refused_end, refused_list, refused_step, unless_memory}
use Rattle.iso_engine.proofs.Solutions.{view_is}
use Rattle.iso_engine.proofs.TakenBack.{called_back}
use Rattle.iso_engine.proofs.engine.Engine.erase.Goals as goal

pub returns-clause-ready : goal.returns-clause-ready
returns-clause-ready g c =
    let e = c.args.self.now in
    let a = c.visit_erase.new.atoms in
    let m = g.W.A.Atoms.held c.args.atoms.now in
    let n = g.W.A.Atoms.held a in
    let t = g.W.World.told c.args.world.now in
    let u = g.W.World.told c.visit_erase.new.world in
    let view = view_is n u (g.met.W.A.Atoms.fixed_held a) (g.met.W.A.Atoms.unlike a) (g.met.W.A.Atoms.finite a) in
    let k = c.in_ok-reply in
    let f : Engine = record e { doing = c.in_ok-self.field-0 } in
    let moved = erased_moved m n t u e f c.args.place c.args.list c.requires.erases c.visit_erase.ensures.holds view (g.met.W.A.Atoms.fixed_held a) c.requires.ready refl refl refl
    k.reply k.ensures.erased k.ensures.named c.in_ok-self.ensures in
    moved.1

pub returns-clause-stepped : goal.returns-clause-stepped
returns-clause-stepped g c =
    let e = c.args.self.now in
    let a = c.visit_erase.new.atoms in
    let m = g.W.A.Atoms.held c.args.atoms.now in
    let n = g.W.A.Atoms.held a in
    let t = g.W.World.told c.args.world.now in
    let u = g.W.World.told c.visit_erase.new.world in
    let view = view_is n u (g.met.W.A.Atoms.fixed_held a) (g.met.W.A.Atoms.unlike a) (g.met.W.A.Atoms.finite a) in
    let k = c.in_ok-reply in
    let f : Engine = record e { doing = c.in_ok-self.field-0 } in
    let moved = erased_moved m n t u e f c.args.place c.args.list c.requires.erases c.visit_erase.ensures.holds view (g.met.W.A.Atoms.fixed_held a) c.requires.ready refl refl refl
    k.reply k.ensures.erased k.ensures.named c.in_ok-self.ensures in
    moved.0

pub returns-clause-spent : goal.returns-clause-spent
returns-clause-spent g c =
    let e = c.args.self.now in
    let a = c.visit_erase.new.atoms in
    let m = g.W.A.Atoms.held c.args.atoms.now in
    let n = g.W.A.Atoms.held a in
    let t = g.W.World.told c.args.world.now in
    let u = g.W.World.told c.visit_erase.new.world in
    let view = view_is n u (g.met.W.A.Atoms.fixed_held a) (g.met.W.A.Atoms.unlike a) (g.met.W.A.Atoms.finite a) in
    let k = c.in_ok-reply in
    let f : Engine = record e { doing = c.in_ok-self.field-0 } in
    let moved = erased_moved m n t u e f c.args.place c.args.list c.requires.erases c.visit_erase.ensures.holds view (g.met.W.A.Atoms.fixed_held a) c.requires.ready refl refl refl
    k.reply k.ensures.erased k.ensures.named c.in_ok-self.ensures in
    moved.2

pub returns-in_err-reply-clause-ready : goal.returns-in_err-reply-clause-ready
returns-in_err-reply-clause-ready g c =
    let e = c.args.self.now in
    let a = c.visit_erase.new.atoms in
    let m = g.W.A.Atoms.held c.args.atoms.now in
    let n = g.W.A.Atoms.held a in
    let t = g.W.World.told c.args.world.now in
    let u = g.W.World.told c.visit_erase.new.world in
    let view = view_is n u (g.met.W.A.Atoms.fixed_held a) (g.met.W.A.Atoms.unlike a) (g.met.W.A.Atoms.finite a) in
    let w = c.in_err-reply.field-0.0 in
    let exit = at_exit c.from_residual.result w c.from_residual.ensures.1 in
    let back = on_refusal (Reply Tree) w c.in_err-reply.ensures.unchanged in
    refused_end (Reply Tree) c.from_residual.result w exit (u ≡ t) (λ o. IsReady n u e) back
    (λ s again told. (called_back m n t u e e c.visit_erase.ensures.holds view c.requires.ready told refl).1)

pub returns-in_err-reply-clause-stepped : goal.returns-in_err-reply-clause-stepped
returns-in_err-reply-clause-stepped g c =
    let e = c.args.self.now in
    let a = c.visit_erase.new.atoms in
    let m = g.W.A.Atoms.held c.args.atoms.now in
    let n = g.W.A.Atoms.held a in
    let t = g.W.World.told c.args.world.now in
    let u = g.W.World.told c.visit_erase.new.world in
    let view = view_is n u (g.met.W.A.Atoms.fixed_held a) (g.met.W.A.Atoms.unlike a) (g.met.W.A.Atoms.finite a) in
    let w = c.in_err-reply.field-0.0 in
    let exit = at_exit c.from_residual.result w c.from_residual.ensures.1 in
    let back = on_refusal (Reply Tree) w c.in_err-reply.ensures.unchanged in
    refused_end (Reply Tree) c.from_residual.result w exit (u ≡ t) (λ o. IsStepped m t e o n u e []) back
    (λ s again told. refused_step m t e n u e s again (called_back m n t u e e c.visit_erase.ensures.holds view c.requires.ready told refl).0)

pub returns-in_err-reply-clause-refusals : goal.returns-in_err-reply-clause-refusals
returns-in_err-reply-clause-refusals g c =
    let w = c.in_err-reply.field-0.0 in
    refused_list (Reply Tree) c.from_residual.result w (at_exit c.from_residual.result w c.from_residual.ensures.1) (g.W.A.Atoms.refusals c.args.atoms.now)
    (g.W.A.Atoms.refusals c.visit_erase.new.atoms) (unless_memory (Reply Tree) w c.in_err-reply.ensures.refusals)

pub returns-in_err-reply-clause-asked : goal.returns-in_err-reply-clause-asked
returns-in_err-reply-clause-asked g c =
    let a = c.args.atoms.now in
    erase_asks_for (g.W.A.Atoms.held a) (g.W.World.told c.args.world.now) c.args.self.now c.args.place c.args.list c.requires.erases (g.W.A.Atoms.asked a)
    (g.W.A.Atoms.asked c.visit_erase.new.atoms) c.visit_erase.ensures.asked

pub returns-in_err-self-clause-asked : goal.returns-in_err-self-clause-asked
returns-in_err-self-clause-asked g c =
    let a = c.args.atoms.now in
    erase_asks_for (g.W.A.Atoms.held a) (g.W.World.told c.args.world.now) c.args.self.now c.args.place c.args.list c.requires.erases (g.W.A.Atoms.asked a)
    (g.W.A.Atoms.asked c.visit_erase.new.atoms) c.visit_erase.ensures.asked

pub returns-clause-asked : goal.returns-clause-asked
returns-clause-asked g c =
    let a = c.args.atoms.now in
    erase_asks_for (g.W.A.Atoms.held a) (g.W.World.told c.args.world.now) c.args.self.now c.args.place c.args.list c.requires.erases (g.W.A.Atoms.asked a)
    (g.W.A.Atoms.asked c.visit_erase.new.atoms) c.visit_erase.ensures.asked
