use Rattle.std.proofs.Common.{◌≡◌, [], Err, refl, ap, subst}
use Rattle.world_api.specs.declared.visit.Procedure.{Procedure}
use Rattle.world_api.specs.declared.reply.Reply.{Reply}
use Rattle.pl_term.specs.Tree.{Tree}
use Rattle.iso_search.specs.declared.search.Search.{Search}
use Rattle.iso_search.specs.declared.outcome.Outcome.{Outcome}
use Rattle.iso_search.specs.declared.outcome.Outcome.TheVariants.{Raise}
use Rattle.iso_engine.specs.Clearing.{IsClearedTo, IsMet, clears_with}
use Rattle.iso_engine.specs.Ready.{IsReady}
use Rattle.iso_engine.specs.Slices.{IsStepped}
use Rattle.iso_engine.specs.declared.doing.Doing.TheVariants.{Clearing}
use Rattle.iso_engine.specs.declared.doing.Left.{Left}
use Rattle.iso_engine.specs.declared.doing.Left.TheVariants.{Found as FoundLeft}
use Rattle.iso_engine.specs.declared.engine.Engine.{Engine}
use Rattle.iso_engine.proofs.ClearMoved.{differs_moved, found_asks, meets_moved, raises_moved}
use Rattle.iso_engine.proofs.Interning.{nothing_asked}
use Rattle.iso_engine.proofs.Refusals.{on_refusal, refused_end, refused_list, refused_step, unless_memory}
use Rattle.iso_engine.proofs.RowTaken.{IsFollowedAs}
use Rattle.iso_engine.proofs.Solutions.{view_is}
use Rattle.iso_engine.proofs.TakenBack.{called_back}
use Rattle.iso_engine.proofs.engine.Engine.clear_found.Goals as goal

pub returns-in_ok-self-in-Raises-clause-stepped : goal.returns-in_ok-self-in-Raises-clause-stepped
returns-in_ok-self-in-Raises-clause-stepped g c =
    let x = c.args.found in
    let e : Engine = clears_with c.args.self.now c.args.list c.args.generation (FoundLeft c.args.after x) in
    let a = c.args.atoms.now in
    let m = g.W.A.Atoms.held a in
    let t = g.W.World.told c.args.world.now in
    let s = c.meet_clause.new.search in
    let k = c.in_ok-met.ensures in
    let view = view_is m t (g.met.W.A.Atoms.fixed_held a) (g.met.W.A.Atoms.unlike a) (g.met.W.A.Atoms.finite a) in
    let f : Engine = record e { search = s; doing = c.in_ok-self-in-Raises.field-0 } in
    let o : Outcome = Raise c.in-Raises.fault in
    let moved = raises_moved e c.args.list c.args.head c.args.rest c.args.generation c.args.after x c.requires.clears refl m m t t f (λ j y h. h) view c.requires.ready refl refl k.whole k.kept refl c.in-Raises.fault
    (subst (IsMet e.search c.args.head x.clause s) c.in-Raises.is k.met) (subst (λ (p : Procedure). IsFollowedAs f c.args.rest p o) c.retractall.ensures c.in_ok-self-in-Raises.ensures) in
    moved.0

pub returns-in_ok-self-in-Raises-clause-ready : goal.returns-in_ok-self-in-Raises-clause-ready
returns-in_ok-self-in-Raises-clause-ready g c =
    let x = c.args.found in
    let e : Engine = clears_with c.args.self.now c.args.list c.args.generation (FoundLeft c.args.after x) in
    let a = c.args.atoms.now in
    let m = g.W.A.Atoms.held a in
    let t = g.W.World.told c.args.world.now in
    let s = c.meet_clause.new.search in
    let k = c.in_ok-met.ensures in
    let view = view_is m t (g.met.W.A.Atoms.fixed_held a) (g.met.W.A.Atoms.unlike a) (g.met.W.A.Atoms.finite a) in
    let f : Engine = record e { search = s; doing = c.in_ok-self-in-Raises.field-0 } in
    let o : Outcome = Raise c.in-Raises.fault in
    let moved = raises_moved e c.args.list c.args.head c.args.rest c.args.generation c.args.after x c.requires.clears refl m m t t f (λ j y h. h) view c.requires.ready refl refl k.whole k.kept refl c.in-Raises.fault
    (subst (IsMet e.search c.args.head x.clause s) c.in-Raises.is k.met) (subst (λ (p : Procedure). IsFollowedAs f c.args.rest p o) c.retractall.ensures c.in_ok-self-in-Raises.ensures) in
    moved.1

pub returns-in_ok-self-in-Raises-clause-spent : goal.returns-in_ok-self-in-Raises-clause-spent
returns-in_ok-self-in-Raises-clause-spent g c =
    let x = c.args.found in
    let e : Engine = clears_with c.args.self.now c.args.list c.args.generation (FoundLeft c.args.after x) in
    let a = c.args.atoms.now in
    let m = g.W.A.Atoms.held a in
    let t = g.W.World.told c.args.world.now in
    let s = c.meet_clause.new.search in
    let k = c.in_ok-met.ensures in
    let view = view_is m t (g.met.W.A.Atoms.fixed_held a) (g.met.W.A.Atoms.unlike a) (g.met.W.A.Atoms.finite a) in
    let f : Engine = record e { search = s; doing = c.in_ok-self-in-Raises.field-0 } in
    let o : Outcome = Raise c.in-Raises.fault in
    let moved = raises_moved e c.args.list c.args.head c.args.rest c.args.generation c.args.after x c.requires.clears refl m m t t f (λ j y h. h) view c.requires.ready refl refl k.whole k.kept refl c.in-Raises.fault
    (subst (IsMet e.search c.args.head x.clause s) c.in-Raises.is k.met) (subst (λ (p : Procedure). IsFollowedAs f c.args.rest p o) c.retractall.ensures c.in_ok-self-in-Raises.ensures) in
    moved.2

pub returns-in-Differs-clause-stepped : goal.returns-in-Differs-clause-stepped
returns-in-Differs-clause-stepped g c =
    let x = c.args.found in
    let e : Engine = clears_with c.args.self.now c.args.list c.args.generation (FoundLeft c.args.after x) in
    let a = c.args.atoms.now in
    let m = g.W.A.Atoms.held a in
    let t = g.W.World.told c.args.world.now in
    let s = c.meet_clause.new.search in
    let k = c.in_ok-met.ensures in
    let view = view_is m t (g.met.W.A.Atoms.fixed_held a) (g.met.W.A.Atoms.unlike a) (g.met.W.A.Atoms.finite a) in
    let f : Engine = record e { search = s; doing = Clearing c.args.list c.args.generation c.left_behind-left.result } in
    let moved = differs_moved e c.args.list c.args.head c.args.rest c.args.generation c.args.after x c.requires.clears refl m m t t f (λ j y h. h) view c.requires.ready refl refl k.whole k.kept refl
    (subst (IsMet e.search c.args.head x.clause s) c.in-Differs.is k.met) (ap (Clearing c.args.list c.args.generation) c.left_behind-left.ensures) in
    moved.0

pub returns-in-Differs-clause-ready : goal.returns-in-Differs-clause-ready
returns-in-Differs-clause-ready g c =
    let x = c.args.found in
    let e : Engine = clears_with c.args.self.now c.args.list c.args.generation (FoundLeft c.args.after x) in
    let a = c.args.atoms.now in
    let m = g.W.A.Atoms.held a in
    let t = g.W.World.told c.args.world.now in
    let s = c.meet_clause.new.search in
    let k = c.in_ok-met.ensures in
    let view = view_is m t (g.met.W.A.Atoms.fixed_held a) (g.met.W.A.Atoms.unlike a) (g.met.W.A.Atoms.finite a) in
    let f : Engine = record e { search = s; doing = Clearing c.args.list c.args.generation c.left_behind-left.result } in
    let moved = differs_moved e c.args.list c.args.head c.args.rest c.args.generation c.args.after x c.requires.clears refl m m t t f (λ j y h. h) view c.requires.ready refl refl k.whole k.kept refl
    (subst (IsMet e.search c.args.head x.clause s) c.in-Differs.is k.met) (ap (Clearing c.args.list c.args.generation) c.left_behind-left.ensures) in
    moved.1

pub returns-in-Differs-clause-spent : goal.returns-in-Differs-clause-spent
returns-in-Differs-clause-spent g c =
    let x = c.args.found in
    let e : Engine = clears_with c.args.self.now c.args.list c.args.generation (FoundLeft c.args.after x) in
    let a = c.args.atoms.now in
    let m = g.W.A.Atoms.held a in
    let t = g.W.World.told c.args.world.now in
    let s = c.meet_clause.new.search in
    let k = c.in_ok-met.ensures in
    let view = view_is m t (g.met.W.A.Atoms.fixed_held a) (g.met.W.A.Atoms.unlike a) (g.met.W.A.Atoms.finite a) in
    let f : Engine = record e { search = s; doing = Clearing c.args.list c.args.generation c.left_behind-left.result } in
    let moved = differs_moved e c.args.list c.args.head c.args.rest c.args.generation c.args.after x c.requires.clears refl m m t t f (λ j y h. h) view c.requires.ready refl refl k.whole k.kept refl
    (subst (IsMet e.search c.args.head x.clause s) c.in-Differs.is k.met) (ap (Clearing c.args.list c.args.generation) c.left_behind-left.ensures) in
    moved.2

pub returns-in_ok-self-in-Ok-clause-stepped : goal.returns-in_ok-self-in-Ok-clause-stepped
returns-in_ok-self-in-Ok-clause-stepped g c =
    let x = c.args.found in
    let e : Engine = clears_with c.args.self.now c.args.list c.args.generation (FoundLeft c.args.after x) in
    let a = c.args.atoms.now in
    let m = g.W.A.Atoms.held a in
    let t = g.W.World.told c.args.world.now in
    let s = c.meet_clause.new.search in
    let k = c.in_ok-met.ensures in
    let view = view_is m t (g.met.W.A.Atoms.fixed_held a) (g.met.W.A.Atoms.unlike a) (g.met.W.A.Atoms.finite a) in
    let b = c.visit_erase.new.atoms in
    let n = g.W.A.Atoms.held b in
    let u = g.W.World.told c.visit_erase.new.world in
    let later = view_is n u (g.met.W.A.Atoms.fixed_held b) (g.met.W.A.Atoms.unlike b) (g.met.W.A.Atoms.finite b) in
    let f : Engine = record e { search = s; doing = c.in_ok-self-in-Ok.field-0 } in
    let moved = meets_moved e c.args.list c.args.head c.args.rest c.args.generation c.args.after x c.requires.clears refl m n t u f c.visit_erase.ensures.holds later c.requires.ready refl refl k.whole k.kept
    (subst (IsMet e.search c.args.head x.clause s) c.in-Meets.is k.met) (g.met.W.A.Atoms.fixed_held b) c.in-Ok.reply c.in-Ok.ensures.erased c.in-Ok.ensures.named
    (subst (λ (l : Left). IsClearedTo c.in-Ok.reply c.args.list c.args.generation l c.args.rest f.doing) c.left_behind-left.ensures c.in_ok-self-in-Ok.ensures) in
    moved.0

pub returns-in_ok-self-in-Ok-clause-ready : goal.returns-in_ok-self-in-Ok-clause-ready
returns-in_ok-self-in-Ok-clause-ready g c =
    let x = c.args.found in
    let e : Engine = clears_with c.args.self.now c.args.list c.args.generation (FoundLeft c.args.after x) in
    let a = c.args.atoms.now in
    let m = g.W.A.Atoms.held a in
    let t = g.W.World.told c.args.world.now in
    let s = c.meet_clause.new.search in
    let k = c.in_ok-met.ensures in
    let view = view_is m t (g.met.W.A.Atoms.fixed_held a) (g.met.W.A.Atoms.unlike a) (g.met.W.A.Atoms.finite a) in
    let b = c.visit_erase.new.atoms in
    let n = g.W.A.Atoms.held b in
    let u = g.W.World.told c.visit_erase.new.world in
    let later = view_is n u (g.met.W.A.Atoms.fixed_held b) (g.met.W.A.Atoms.unlike b) (g.met.W.A.Atoms.finite b) in
    let f : Engine = record e { search = s; doing = c.in_ok-self-in-Ok.field-0 } in
    let moved = meets_moved e c.args.list c.args.head c.args.rest c.args.generation c.args.after x c.requires.clears refl m n t u f c.visit_erase.ensures.holds later c.requires.ready refl refl k.whole k.kept
    (subst (IsMet e.search c.args.head x.clause s) c.in-Meets.is k.met) (g.met.W.A.Atoms.fixed_held b) c.in-Ok.reply c.in-Ok.ensures.erased c.in-Ok.ensures.named
    (subst (λ (l : Left). IsClearedTo c.in-Ok.reply c.args.list c.args.generation l c.args.rest f.doing) c.left_behind-left.ensures c.in_ok-self-in-Ok.ensures) in
    moved.1

pub returns-in_ok-self-in-Ok-clause-spent : goal.returns-in_ok-self-in-Ok-clause-spent
returns-in_ok-self-in-Ok-clause-spent g c =
    let x = c.args.found in
    let e : Engine = clears_with c.args.self.now c.args.list c.args.generation (FoundLeft c.args.after x) in
    let a = c.args.atoms.now in
    let m = g.W.A.Atoms.held a in
    let t = g.W.World.told c.args.world.now in
    let s = c.meet_clause.new.search in
    let k = c.in_ok-met.ensures in
    let view = view_is m t (g.met.W.A.Atoms.fixed_held a) (g.met.W.A.Atoms.unlike a) (g.met.W.A.Atoms.finite a) in
    let b = c.visit_erase.new.atoms in
    let n = g.W.A.Atoms.held b in
    let u = g.W.World.told c.visit_erase.new.world in
    let later = view_is n u (g.met.W.A.Atoms.fixed_held b) (g.met.W.A.Atoms.unlike b) (g.met.W.A.Atoms.finite b) in
    let f : Engine = record e { search = s; doing = c.in_ok-self-in-Ok.field-0 } in
    let moved = meets_moved e c.args.list c.args.head c.args.rest c.args.generation c.args.after x c.requires.clears refl m n t u f c.visit_erase.ensures.holds later c.requires.ready refl refl k.whole k.kept
    (subst (IsMet e.search c.args.head x.clause s) c.in-Meets.is k.met) (g.met.W.A.Atoms.fixed_held b) c.in-Ok.reply c.in-Ok.ensures.erased c.in-Ok.ensures.named
    (subst (λ (l : Left). IsClearedTo c.in-Ok.reply c.args.list c.args.generation l c.args.rest f.doing) c.left_behind-left.ensures c.in_ok-self-in-Ok.ensures) in
    moved.2

pub returns-in_err-self-in-Ok-clause-asked : goal.returns-in_err-self-in-Ok-clause-asked
returns-in_err-self-in-Ok-clause-asked g c =
    let x = c.args.found in
    let e : Engine = clears_with c.args.self.now c.args.list c.args.generation (FoundLeft c.args.after x) in
    let a = c.args.atoms.now in
    let m = g.W.A.Atoms.held a in
    let t = g.W.World.told c.args.world.now in
    let s = c.meet_clause.new.search in
    let k = c.in_ok-met.ensures in
    let view = view_is m t (g.met.W.A.Atoms.fixed_held a) (g.met.W.A.Atoms.unlike a) (g.met.W.A.Atoms.finite a) in
    found_asks e c.args.list c.args.head c.args.rest c.args.generation c.args.after x c.requires.clears refl m t s view (subst (IsMet e.search c.args.head x.clause s) c.in-Meets.is k.met) (g.W.A.Atoms.asked a) (g.W.A.Atoms.asked c.visit_erase.new.atoms)
    c.visit_erase.ensures.asked

pub returns-in_ok-self-in-Ok-clause-asked : goal.returns-in_ok-self-in-Ok-clause-asked
returns-in_ok-self-in-Ok-clause-asked g c =
    let x = c.args.found in
    let e : Engine = clears_with c.args.self.now c.args.list c.args.generation (FoundLeft c.args.after x) in
    let a = c.args.atoms.now in
    let m = g.W.A.Atoms.held a in
    let t = g.W.World.told c.args.world.now in
    let s = c.meet_clause.new.search in
    let k = c.in_ok-met.ensures in
    let view = view_is m t (g.met.W.A.Atoms.fixed_held a) (g.met.W.A.Atoms.unlike a) (g.met.W.A.Atoms.finite a) in
    found_asks e c.args.list c.args.head c.args.rest c.args.generation c.args.after x c.requires.clears refl m t s view (subst (IsMet e.search c.args.head x.clause s) c.in-Meets.is k.met) (g.W.A.Atoms.asked a) (g.W.A.Atoms.asked c.visit_erase.new.atoms)
    c.visit_erase.ensures.asked

pub returns-in-Err-clause-asked : goal.returns-in-Err-clause-asked
returns-in-Err-clause-asked g c =
    let x = c.args.found in
    let e : Engine = clears_with c.args.self.now c.args.list c.args.generation (FoundLeft c.args.after x) in
    let a = c.args.atoms.now in
    let m = g.W.A.Atoms.held a in
    let t = g.W.World.told c.args.world.now in
    let s = c.meet_clause.new.search in
    let k = c.in_ok-met.ensures in
    let view = view_is m t (g.met.W.A.Atoms.fixed_held a) (g.met.W.A.Atoms.unlike a) (g.met.W.A.Atoms.finite a) in
    found_asks e c.args.list c.args.head c.args.rest c.args.generation c.args.after x c.requires.clears refl m t s view (subst (IsMet e.search c.args.head x.clause s) c.in-Meets.is k.met) (g.W.A.Atoms.asked a) (g.W.A.Atoms.asked c.visit_erase.new.atoms)
    c.visit_erase.ensures.asked

pub returns-in_err-met-clause-asked : goal.returns-in_err-met-clause-asked
returns-in_err-met-clause-asked g c = let asked = g.W.A.Atoms.asked c.args.atoms.now in nothing_asked _ asked asked refl

pub returns-in_err-self-in-Raises-clause-asked : goal.returns-in_err-self-in-Raises-clause-asked
returns-in_err-self-in-Raises-clause-asked g c = let asked = g.W.A.Atoms.asked c.args.atoms.now in nothing_asked _ asked asked refl

pub returns-in_ok-self-in-Raises-clause-asked : goal.returns-in_ok-self-in-Raises-clause-asked
returns-in_ok-self-in-Raises-clause-asked g c = let asked = g.W.A.Atoms.asked c.args.atoms.now in nothing_asked _ asked asked refl

pub returns-in-Differs-clause-asked : goal.returns-in-Differs-clause-asked
returns-in-Differs-clause-asked g c = let asked = g.W.A.Atoms.asked c.args.atoms.now in nothing_asked _ asked asked refl

pub returns-in-Err-clause-ready : goal.returns-in-Err-clause-ready
returns-in-Err-clause-ready g c =
    let x = c.args.found in
    let e : Engine = clears_with c.args.self.now c.args.list c.args.generation (FoundLeft c.args.after x) in
    let a = c.args.atoms.now in
    let m = g.W.A.Atoms.held a in
    let t = g.W.World.told c.args.world.now in
    let s = c.meet_clause.new.search in
    let k = c.in_ok-met.ensures in
    let view = view_is m t (g.met.W.A.Atoms.fixed_held a) (g.met.W.A.Atoms.unlike a) (g.met.W.A.Atoms.finite a) in
    let b = c.visit_erase.new.atoms in
    let n = g.W.A.Atoms.held b in
    let u = g.W.World.told c.visit_erase.new.world in
    let later = view_is n u (g.met.W.A.Atoms.fixed_held b) (g.met.W.A.Atoms.unlike b) (g.met.W.A.Atoms.finite b) in
    let w = c.in-Err.unserved in
    let f : Engine = record e { search = (let y : Search = record s { next_variable = c.args.self.now.search.next_variable } in y) } in
    let same : f ≡ e = ap (λ (y : Search). let z : Engine = record e { search = (let j : Search = record y { next_variable = e.search.next_variable } in j) } in z) k.kept in
    refused_end (Reply Tree) (Err w) w refl (u ≡ t) (λ o. IsReady n u f) (on_refusal (Reply Tree) w c.in-Err.ensures.unchanged)
    (λ r again told. (called_back m n t u e f c.visit_erase.ensures.holds later c.requires.ready told same).1)

pub returns-in-Err-clause-stepped : goal.returns-in-Err-clause-stepped
returns-in-Err-clause-stepped g c =
    let x = c.args.found in
    let e : Engine = clears_with c.args.self.now c.args.list c.args.generation (FoundLeft c.args.after x) in
    let a = c.args.atoms.now in
    let m = g.W.A.Atoms.held a in
    let t = g.W.World.told c.args.world.now in
    let s = c.meet_clause.new.search in
    let k = c.in_ok-met.ensures in
    let view = view_is m t (g.met.W.A.Atoms.fixed_held a) (g.met.W.A.Atoms.unlike a) (g.met.W.A.Atoms.finite a) in
    let b = c.visit_erase.new.atoms in
    let n = g.W.A.Atoms.held b in
    let u = g.W.World.told c.visit_erase.new.world in
    let later = view_is n u (g.met.W.A.Atoms.fixed_held b) (g.met.W.A.Atoms.unlike b) (g.met.W.A.Atoms.finite b) in
    let w = c.in-Err.unserved in
    let f : Engine = record e { search = (let y : Search = record s { next_variable = c.args.self.now.search.next_variable } in y) } in
    let same : f ≡ e = ap (λ (y : Search). let z : Engine = record e { search = (let j : Search = record y { next_variable = e.search.next_variable } in j) } in z) k.kept in
    refused_end (Reply Tree) (Err w) w refl (u ≡ t) (λ o. IsStepped m t e o n u f []) (on_refusal (Reply Tree) w c.in-Err.ensures.unchanged)
    (λ r again told. refused_step m t e n u f r again (called_back m n t u e f c.visit_erase.ensures.holds later c.requires.ready told same).0)

pub returns-in-Err-clause-refusals : goal.returns-in-Err-clause-refusals
returns-in-Err-clause-refusals g c =
    let w = c.in-Err.unserved in
    refused_list (Reply Tree) (Err w) w refl (g.W.A.Atoms.refusals c.args.atoms.now) (g.W.A.Atoms.refusals c.visit_erase.new.atoms) (unless_memory (Reply Tree) w c.in-Err.ensures.refusals)
