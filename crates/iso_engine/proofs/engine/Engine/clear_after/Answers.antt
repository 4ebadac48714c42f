use Rattle.std.proofs.Common.{◌≡◌, ◌++◌, [], List, Option, None, Some, inl, refl, ap, subst, sym, ◌∙◌, append-nil}
use Rattle.std.proofs.lemmas.Result.{IfOk-weaker}
use Rattle.pl_term.specs.Tree.{Tree}
use Rattle.atom_words.specs.declared.view.Refusal.{Refusal}
use Rattle.world_api.specs.declared.reply.Found.{Found}
use Rattle.world_api.proofs.Gaining.{gains_then, gains_weaker}
use Rattle.iso_engine.specs.Asked.{AsksFor, IsAnswerText}
use Rattle.iso_engine.specs.Clearing.{IsNextFound, clears_with}
use Rattle.iso_engine.specs.Ready.{IsReady}
use Rattle.iso_engine.specs.Slices.{IsStepped}
use Rattle.iso_engine.specs.Standing.{left_of}
use Rattle.iso_engine.specs.Unserved.{as_stopped, stopped_refusals}
use Rattle.iso_engine.specs.declared.doing.Doing.TheVariants.{Running}
use Rattle.iso_engine.specs.declared.doing.Left.TheVariants.{After}
use Rattle.iso_engine.specs.declared.engine.Engine.{Engine}
use Rattle.iso_engine.proofs.ClearFound.{after_asks, found_advances, found_carried, found_ready, same_left, step_after}
use Rattle.iso_engine.proofs.ClearMoved.{nothing_moved}
use Rattle.iso_engine.proofs.ClearOpen.{clear_held, clear_open}
use Rattle.iso_engine.proofs.Refusals.{at_exit, refused_end, refused_list, refused_step, unless_memory}
use Rattle.iso_engine.proofs.Solutions.{view_is}
use Rattle.iso_engine.proofs.TakenBack.{called_back}
use Rattle.iso_engine.proofs.engine.Engine.clear_after.Goals as goal

pub next_found-requires-clause-held : goal.next_found-requires-clause-held
next_found-requires-clause-held g c =
    let l = c.args.list in
    let h = c.args.head in
    let r = c.args.rest in
    let k = c.args.generation in
    let p = c.args.place in
    let e = c.args.self.now in
    let one : Engine = clears_with e l k (After p) in
    let a = c.args.atoms.now in
    let m = g.W.A.Atoms.held a in
    let t = g.W.World.told c.args.world.now in
    let view = view_is m t (g.met.W.A.Atoms.fixed_held a) (g.met.W.A.Atoms.unlike a) (g.met.W.A.Atoms.finite a) in
    let held = clear_held m t e.search l h r k c.requires.clears (After p) c.requires.ready.stable (g.met.W.A.Atoms.fixed_held a) (g.met.W.A.Atoms.unlike a) (g.met.W.A.Atoms.finite a) in
    held

pub next_found-requires-clause-open : goal.next_found-requires-clause-open
next_found-requires-clause-open g c =
    let l = c.args.list in
    let h = c.args.head in
    let r = c.args.rest in
    let k = c.args.generation in
    let p = c.args.place in
    let e = c.args.self.now in
    let one : Engine = clears_with e l k (After p) in
    let a = c.args.atoms.now in
    let m = g.W.A.Atoms.held a in
    let t = g.W.World.told c.args.world.now in
    let view = view_is m t (g.met.W.A.Atoms.fixed_held a) (g.met.W.A.Atoms.unlike a) (g.met.W.A.Atoms.finite a) in
    let may = clear_open m t e.search l h r k c.requires.clears p c.requires.ready.stable view in
    may

pub returns-in-None-clause-stepped : goal.returns-in-None-clause-stepped
returns-in-None-clause-stepped g c =
    let l = c.args.list in
    let h = c.args.head in
    let r = c.args.rest in
    let k = c.args.generation in
    let p = c.args.place in
    let e = c.args.self.now in
    let one : Engine = clears_with e l k (After p) in
    let a = c.args.atoms.now in
    let m = g.W.A.Atoms.held a in
    let t = g.W.World.told c.args.world.now in
    let view = view_is m t (g.met.W.A.Atoms.fixed_held a) (g.met.W.A.Atoms.unlike a) (g.met.W.A.Atoms.finite a) in
    let held = clear_held m t e.search l h r k c.requires.clears (After p) c.requires.ready.stable (g.met.W.A.Atoms.fixed_held a) (g.met.W.A.Atoms.unlike a) (g.met.W.A.Atoms.finite a) in
    let may = clear_open m t e.search l h r k c.requires.clears p c.requires.ready.stable view in
    let b = c.next_found.new.atoms in
    let n = g.W.A.Atoms.held b in
    let u = g.W.World.told c.next_found.new.world in
    let later = view_is n u (g.met.W.A.Atoms.fixed_held b) (g.met.W.A.Atoms.unlike b) (g.met.W.A.Atoms.finite b) in
    let f : Engine = record e { doing = Running r } in
    let none : Option (Found Tree) = None in
    let next = subst (IsNextFound t e.search h k p n u) c.in-None.is c.in_ok-found.ensures.found in
    let moved = nothing_moved m n t u one f l h r k (After p) c.requires.clears refl c.next_found.ensures.holds later c.requires.ready refl refl c.requires.ready.whole
    next.before next.follows next.told
    (λ v viewed alike. sym (same_left m n t u e l h r k p c.requires.clears held may c.next_found.ensures.holds later c.requires.ready none next v viewed alike)) refl refl in
    moved.0

pub returns-in-None-clause-ready : goal.returns-in-None-clause-ready
returns-in-None-clause-ready g c =
    let l = c.args.list in
    let h = c.args.head in
    let r = c.args.rest in
    let k = c.args.generation in
    let p = c.args.place in
    let e = c.args.self.now in
    let one : Engine = clears_with e l k (After p) in
    let a = c.args.atoms.now in
    let m = g.W.A.Atoms.held a in
    let t = g.W.World.told c.args.world.now in
    let view = view_is m t (g.met.W.A.Atoms.fixed_held a) (g.met.W.A.Atoms.unlike a) (g.met.W.A.Atoms.finite a) in
    let held = clear_held m t e.search l h r k c.requires.clears (After p) c.requires.ready.stable (g.met.W.A.Atoms.fixed_held a) (g.met.W.A.Atoms.unlike a) (g.met.W.A.Atoms.finite a) in
    let may = clear_open m t e.search l h r k c.requires.clears p c.requires.ready.stable view in
    let b = c.next_found.new.atoms in
    let n = g.W.A.Atoms.held b in
    let u = g.W.World.told c.next_found.new.world in
    let later = view_is n u (g.met.W.A.Atoms.fixed_held b) (g.met.W.A.Atoms.unlike b) (g.met.W.A.Atoms.finite b) in
    let f : Engine = record e { doing = Running r } in
    let none : Option (Found Tree) = None in
    let next = subst (IsNextFound t e.search h k p n u) c.in-None.is c.in_ok-found.ensures.found in
    let moved = nothing_moved m n t u one f l h r k (After p) c.requires.clears refl c.next_found.ensures.holds later c.requires.ready refl refl c.requires.ready.whole
    next.before next.follows next.told
    (λ v viewed alike. sym (same_left m n t u e l h r k p c.requires.clears held may c.next_found.ensures.holds later c.requires.ready none next v viewed alike)) refl refl in
    moved.1

pub returns-in-None-clause-spent : goal.returns-in-None-clause-spent
returns-in-None-clause-spent g c =
    let l = c.args.list in
    let h = c.args.head in
    let r = c.args.rest in
    let k = c.args.generation in
    let p = c.args.place in
    let e = c.args.self.now in
    let one : Engine = clears_with e l k (After p) in
    let a = c.args.atoms.now in
    let m = g.W.A.Atoms.held a in
    let t = g.W.World.told c.args.world.now in
    let view = view_is m t (g.met.W.A.Atoms.fixed_held a) (g.met.W.A.Atoms.unlike a) (g.met.W.A.Atoms.finite a) in
    let held = clear_held m t e.search l h r k c.requires.clears (After p) c.requires.ready.stable (g.met.W.A.Atoms.fixed_held a) (g.met.W.A.Atoms.unlike a) (g.met.W.A.Atoms.finite a) in
    let may = clear_open m t e.search l h r k c.requires.clears p c.requires.ready.stable view in
    let b = c.next_found.new.atoms in
    let n = g.W.A.Atoms.held b in
    let u = g.W.World.told c.next_found.new.world in
    let later = view_is n u (g.met.W.A.Atoms.fixed_held b) (g.met.W.A.Atoms.unlike b) (g.met.W.A.Atoms.finite b) in
    let f : Engine = record e { doing = Running r } in
    let none : Option (Found Tree) = None in
    let next = subst (IsNextFound t e.search h k p n u) c.in-None.is c.in_ok-found.ensures.found in
    let moved = nothing_moved m n t u one f l h r k (After p) c.requires.clears refl c.next_found.ensures.holds later c.requires.ready refl refl c.requires.ready.whole
    next.before next.follows next.told
    (λ v viewed alike. sym (same_left m n t u e l h r k p c.requires.clears held may c.next_found.ensures.holds later c.requires.ready none next v viewed alike)) refl refl in
    moved.2

pub clear_found-requires-clause-ready : goal.clear_found-requires-clause-ready
clear_found-requires-clause-ready g c =
    let l = c.args.list in
    let h = c.args.head in
    let r = c.args.rest in
    let k = c.args.generation in
    let p = c.args.place in
    let e = c.args.self.now in
    let one : Engine = clears_with e l k (After p) in
    let a = c.args.atoms.now in
    let m = g.W.A.Atoms.held a in
    let t = g.W.World.told c.args.world.now in
    let view = view_is m t (g.met.W.A.Atoms.fixed_held a) (g.met.W.A.Atoms.unlike a) (g.met.W.A.Atoms.finite a) in
    let held = clear_held m t e.search l h r k c.requires.clears (After p) c.requires.ready.stable (g.met.W.A.Atoms.fixed_held a) (g.met.W.A.Atoms.unlike a) (g.met.W.A.Atoms.finite a) in
    let may = clear_open m t e.search l h r k c.requires.clears p c.requires.ready.stable view in
    let b = c.next_found.new.atoms in
    let n = g.W.A.Atoms.held b in
    let u = g.W.World.told c.next_found.new.world in
    let later = view_is n u (g.met.W.A.Atoms.fixed_held b) (g.met.W.A.Atoms.unlike b) (g.met.W.A.Atoms.finite b) in
    let x = c.in-Some.found in
    let next = subst (IsNextFound t e.search h k p n u) c.in-Some.is c.in_ok-found.ensures.found in
    found_ready m n t u e l h r k p c.requires.clears held may c.next_found.ensures.holds later c.requires.ready (Some x) next

pub returns-in-Some-clause-stepped : goal.returns-in-Some-clause-stepped
returns-in-Some-clause-stepped g c =
    let l = c.args.list in
    let h = c.args.head in
    let r = c.args.rest in
    let k = c.args.generation in
    let p = c.args.place in
    let e = c.args.self.now in
    let one : Engine = clears_with e l k (After p) in
    let a = c.args.atoms.now in
    let m = g.W.A.Atoms.held a in
    let t = g.W.World.told c.args.world.now in
    let view = view_is m t (g.met.W.A.Atoms.fixed_held a) (g.met.W.A.Atoms.unlike a) (g.met.W.A.Atoms.finite a) in
    let held = clear_held m t e.search l h r k c.requires.clears (After p) c.requires.ready.stable (g.met.W.A.Atoms.fixed_held a) (g.met.W.A.Atoms.unlike a) (g.met.W.A.Atoms.finite a) in
    let may = clear_open m t e.search l h r k c.requires.clears p c.requires.ready.stable view in
    let b = c.next_found.new.atoms in
    let n = g.W.A.Atoms.held b in
    let u = g.W.World.told c.next_found.new.world in
    let later = view_is n u (g.met.W.A.Atoms.fixed_held b) (g.met.W.A.Atoms.unlike b) (g.met.W.A.Atoms.finite b) in
    let x = c.in-Some.found in
    let next = subst (IsNextFound t e.search h k p n u) c.in-Some.is c.in_ok-found.ensures.found in
    let two : Engine = clears_with e l k (left_of (Some p) (Some x)) in
    let j = c.clear_found.new.atoms in
    let q = g.W.A.Atoms.held j in
    let w = g.W.World.told c.clear_found.new.world in
    let f = c.clear_found.new.self in
    IfOk-weaker (as_stopped c.clear_found.result) (λ o. IsStepped n u two o q w f []) (λ o. IsStepped m t one o q w f [])
    (λ o s. step_after m n q t u w one two f o (found_advances m n t u e l h r k p c.requires.clears held may c.next_found.ensures.holds later c.requires.ready (Some x) next) s) c.clear_found.ensures.stepped

pub returns-in-Some-clause-asked : goal.returns-in-Some-clause-asked
returns-in-Some-clause-asked g c =
    let l = c.args.list in
    let h = c.args.head in
    let r = c.args.rest in
    let k = c.args.generation in
    let p = c.args.place in
    let e = c.args.self.now in
    let one : Engine = clears_with e l k (After p) in
    let a = c.args.atoms.now in
    let m = g.W.A.Atoms.held a in
    let t = g.W.World.told c.args.world.now in
    let view = view_is m t (g.met.W.A.Atoms.fixed_held a) (g.met.W.A.Atoms.unlike a) (g.met.W.A.Atoms.finite a) in
    let held = clear_held m t e.search l h r k c.requires.clears (After p) c.requires.ready.stable (g.met.W.A.Atoms.fixed_held a) (g.met.W.A.Atoms.unlike a) (g.met.W.A.Atoms.finite a) in
    let may = clear_open m t e.search l h r k c.requires.clears p c.requires.ready.stable view in
    let b = c.next_found.new.atoms in
    let n = g.W.A.Atoms.held b in
    let u = g.W.World.told c.next_found.new.world in
    let later = view_is n u (g.met.W.A.Atoms.fixed_held b) (g.met.W.A.Atoms.unlike b) (g.met.W.A.Atoms.finite b) in
    let x = c.in-Some.found in
    let next = subst (IsNextFound t e.search h k p n u) c.in-Some.is c.in_ok-found.ensures.found in
    let two : Engine = clears_with e l k (left_of (Some p) (Some x)) in
    let old = g.W.A.Atoms.asked a in
    let mid = g.W.A.Atoms.asked b in
    let new = g.W.A.Atoms.asked c.clear_found.new.atoms in
    gains_then (AsksFor m t one) old mid new
    (after_asks m n t u e l h r k p c.requires.clears held may old mid c.next_found.ensures.asked)
    (gains_weaker (IsAnswerText n u two) (AsksFor m t one) mid new (λ y s. inl (found_carried m n t u e l h r k p c.requires.clears held may c.next_found.ensures.holds later c.requires.ready (Some x) next y s)) c.clear_found.ensures.asked)

pub returns-in-Some-clause-refusals : goal.returns-in-Some-clause-refusals
returns-in-Some-clause-refusals g c =
    let xs = g.W.A.Atoms.refusals c.args.atoms.now in
    let ys = g.W.A.Atoms.refusals c.next_found.new.atoms in
    let zs = g.W.A.Atoms.refusals c.clear_found.new.atoms in
    IfOk-weaker (as_stopped c.clear_found.result) (λ o. zs ≡ ys ++ stopped_refusals o) (λ o. zs ≡ xs ++ stopped_refusals o)
    (λ o s. s ∙ ap (λ (rs : List Refusal). rs ++ stopped_refusals o) (c.in_ok-found.ensures.refusals ∙ append-nil xs)) c.clear_found.ensures.refusals

pub returns-in-Some-clause-holds : goal.returns-in-Some-clause-holds
returns-in-Some-clause-holds g c y x s = c.clear_found.ensures.holds y x (c.next_found.ensures.holds y x s)

pub returns-in_err-found-clause-ready : goal.returns-in_err-found-clause-ready
returns-in_err-found-clause-ready g c =
    let e : Engine = clears_with c.args.self.now c.args.list c.args.generation (After c.args.place) in
    let b = c.next_found.new.atoms in
    let m = g.W.A.Atoms.held c.args.atoms.now in
    let n = g.W.A.Atoms.held b in
    let t = g.W.World.told c.args.world.now in
    let u = g.W.World.told c.next_found.new.world in
    let view = view_is n u (g.met.W.A.Atoms.fixed_held b) (g.met.W.A.Atoms.unlike b) (g.met.W.A.Atoms.finite b) in
    let w = c.in_err-found.field-0.0 in
    let exit = at_exit c.from_residual.result w c.from_residual.ensures.1 in
    refused_end (Option (Found Tree)) c.from_residual.result w exit (u ≡ t) (λ o. IsReady n u e) c.in_err-found.ensures.unchanged
    (λ s again told. (called_back m n t u e e c.next_found.ensures.holds view c.requires.ready told refl).1)

pub returns-in_err-found-clause-stepped : goal.returns-in_err-found-clause-stepped
returns-in_err-found-clause-stepped g c =
    let e : Engine = clears_with c.args.self.now c.args.list c.args.generation (After c.args.place) in
    let b = c.next_found.new.atoms in
    let m = g.W.A.Atoms.held c.args.atoms.now in
    let n = g.W.A.Atoms.held b in
    let t = g.W.World.told c.args.world.now in
    let u = g.W.World.told c.next_found.new.world in
    let view = view_is n u (g.met.W.A.Atoms.fixed_held b) (g.met.W.A.Atoms.unlike b) (g.met.W.A.Atoms.finite b) in
    let w = c.in_err-found.field-0.0 in
    let exit = at_exit c.from_residual.result w c.from_residual.ensures.1 in
    refused_end (Option (Found Tree)) c.from_residual.result w exit (u ≡ t) (λ o. IsStepped m t e o n u e []) c.in_err-found.ensures.unchanged
    (λ s again told. refused_step m t e n u e s again (called_back m n t u e e c.next_found.ensures.holds view c.requires.ready told refl).0)

pub returns-in_err-found-clause-refusals : goal.returns-in_err-found-clause-refusals
returns-in_err-found-clause-refusals g c =
    let w = c.in_err-found.field-0.0 in
    refused_list (Option (Found Tree)) c.from_residual.result w (at_exit c.from_residual.result w c.from_residual.ensures.1) (g.W.A.Atoms.refusals c.args.atoms.now)
    (g.W.A.Atoms.refusals c.next_found.new.atoms) (unless_memory (Option (Found Tree)) w c.in_err-found.ensures.refusals)

pub returns-in_err-found-clause-asked : goal.returns-in_err-found-clause-asked
returns-in_err-found-clause-asked g c =
    let l = c.args.list in
    let h = c.args.head in
    let r = c.args.rest in
    let k = c.args.generation in
    let p = c.args.place in
    let e = c.args.self.now in
    let one : Engine = clears_with e l k (After p) in
    let a = c.args.atoms.now in
    let m = g.W.A.Atoms.held a in
    let t = g.W.World.told c.args.world.now in
    let view = view_is m t (g.met.W.A.Atoms.fixed_held a) (g.met.W.A.Atoms.unlike a) (g.met.W.A.Atoms.finite a) in
    let held = clear_held m t e.search l h r k c.requires.clears (After p) c.requires.ready.stable (g.met.W.A.Atoms.fixed_held a) (g.met.W.A.Atoms.unlike a) (g.met.W.A.Atoms.finite a) in
    let may = clear_open m t e.search l h r k c.requires.clears p c.requires.ready.stable view in
    let b = c.next_found.new.atoms in
    let n = g.W.A.Atoms.held b in
    let u = g.W.World.told c.next_found.new.world in
    let later = view_is n u (g.met.W.A.Atoms.fixed_held b) (g.met.W.A.Atoms.unlike b) (g.met.W.A.Atoms.finite b) in
    after_asks m n t u e l h r k p c.requires.clears held may (g.W.A.Atoms.asked a) (g.W.A.Atoms.asked b) c.next_found.ensures.asked

pub returns-in-None-clause-asked : goal.returns-in-None-clause-asked
returns-in-None-clause-asked g c =
    let l = c.args.list in
    let h = c.args.head in
    let r = c.args.rest in
    let k = c.args.generation in
    let p = c.args.place in
    let e = c.args.self.now in
    let one : Engine = clears_with e l k (After p) in
    let a = c.args.atoms.now in
    let m = g.W.A.Atoms.held a in
    let t = g.W.World.told c.args.world.now in
    let view = view_is m t (g.met.W.A.Atoms.fixed_held a) (g.met.W.A.Atoms.unlike a) (g.met.W.A.Atoms.finite a) in
    let held = clear_held m t e.search l h r k c.requires.clears (After p) c.requires.ready.stable (g.met.W.A.Atoms.fixed_held a) (g.met.W.A.Atoms.unlike a) (g.met.W.A.Atoms.finite a) in
    let may = clear_open m t e.search l h r k c.requires.clears p c.requires.ready.stable view in
    let b = c.next_found.new.atoms in
    let n = g.W.A.Atoms.held b in
    let u = g.W.World.told c.next_found.new.world in
    let later = view_is n u (g.met.W.A.Atoms.fixed_held b) (g.met.W.A.Atoms.unlike b) (g.met.W.A.Atoms.finite b) in
    after_asks m n t u e l h r k p c.requires.clears held may (g.W.A.Atoms.asked a) (g.W.A.Atoms.asked b) c.next_found.ensures.asked

pub returns-in-None-clause-refusals : goal.returns-in-None-clause-refusals
returns-in-None-clause-refusals g c = c.in_ok-found.ensures.refusals
