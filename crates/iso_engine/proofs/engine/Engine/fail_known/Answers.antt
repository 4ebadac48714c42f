use Rattle.std.proofs.Common.{◌≡◌, inl, refl, ap, subst, sym, ◌∙◌}
use Rattle.std.proofs.lemmas.Result.{IfOk-weaker}
use Rattle.pl_model.specs.Resolution.{failing}
use Rattle.pl_model.specs.Control.{gone_back}
use Rattle.iso_search.specs.declared.choices.Purpose.{Purpose}
use Rattle.iso_search.specs.declared.choices.Purpose.TheVariants.{Resolving}
use Rattle.iso_search.specs.declared.failure.Back.TheVariants.{Retry}
use Rattle.iso_search.specs.Failures.{IsTaken, back_result}
use Rattle.iso_search.specs.Outcomes.{Setting, limits_in, state_in}
use Rattle.iso_search.specs.Searching.{choices_of}
use Rattle.iso_search.specs.declared.search.Search.{Search}
use Rattle.iso_engine.specs.declared.engine.Engine.{Engine}
use Rattle.iso_engine.specs.Quick.{IsQuick}
use Rattle.iso_engine.specs.Ready.{IsReady}
use Rattle.iso_engine.specs.Spending.{IsSpent}
use Rattle.iso_engine.proofs.Failed.{IsQuickAfter, quick_end}
use Rattle.iso_engine.proofs.KnownAnswers.{same_held, stands_still}
use Rattle.iso_engine.proofs.Opening.{newest_held, newest_open}
use Rattle.iso_engine.proofs.Solutions.{view_is}
use Rattle.iso_engine.proofs.engine.Engine.fail_known.Goals as goal

pub retry_known-requires-clause-held : goal.retry_known-requires-clause-held
retry_known-requires-clause-held g c =
    let e = c.args.self.now in
    let a = c.args.atoms.now in
    let m = g.W.A.Atoms.held a in
    let t = g.W.World.told c.args.world.now in
    let view = view_is m t (g.met.W.A.Atoms.fixed_held a) (g.met.W.A.Atoms.unlike a) (g.met.W.A.Atoms.finite a) in
    let x = c.resume_clauses.new.search in
    let r = c.in-Some.left in
    let taken = subst (λ (q : Purpose). IsTaken c.args.self.now.search x (Retry q r.goal r.generation r.place r.next)) c.in-Resolving.is c.in-Some.ensures.taken in
    newest_held m t e.search x e.doing Resolving r.goal r.generation r.place r.next c.requires.ready.stable taken view (g.met.W.A.Atoms.fixed_held a) (g.met.W.A.Atoms.unlike a) (g.met.W.A.Atoms.finite a)

pub retry_known-requires-clause-open : goal.retry_known-requires-clause-open
retry_known-requires-clause-open g c =
    let e = c.args.self.now in
    let a = c.args.atoms.now in
    let m = g.W.A.Atoms.held a in
    let t = g.W.World.told c.args.world.now in
    let view = view_is m t (g.met.W.A.Atoms.fixed_held a) (g.met.W.A.Atoms.unlike a) (g.met.W.A.Atoms.finite a) in
    let x = c.resume_clauses.new.search in
    let r = c.in-Some.left in
    let taken = subst (λ (q : Purpose). IsTaken c.args.self.now.search x (Retry q r.goal r.generation r.place r.next)) c.in-Resolving.is c.in-Some.ensures.taken in
    newest_open m t e.search x e.doing Resolving r.goal r.generation r.place r.next c.requires.ready.stable taken view

pub returns-in-Resolving-clause-given : goal.returns-in-Resolving-clause-given
returns-in-Resolving-clause-given g c =
    let e = c.args.self.now in
    let a = c.retry_known.new.atoms in
    let m = g.W.A.Atoms.held c.args.atoms.now in
    let n = g.W.A.Atoms.held a in
    let t = g.W.World.told c.args.world.now in
    let u = g.W.World.told c.retry_known.new.world in
    let view = view_is n u (g.met.W.A.Atoms.fixed_held a) (g.met.W.A.Atoms.unlike a) (g.met.W.A.Atoms.finite a) in
    let x = c.resume_clauses.new.search in
    let f = c.retry_known.new.self in
    let r = c.in-Some.left in
    let b = Retry Resolving r.goal r.generation r.place r.next in
    let end = c.retry_known.result in
    let taken = subst (λ (q : Purpose). IsTaken c.args.self.now.search x (Retry q r.goal r.generation r.place r.next)) c.in-Resolving.is c.in-Some.ensures.taken in
    let step = quick_end m n t u e x f b tt (same_held m n c.retry_known.ensures.held) view c.requires.ready c.in-Failing.is c.resume_clauses.ensures.kept end
    c.retry_known.ensures.whole c.retry_known.ensures.gone taken
    (subst (λ (p : Purpose). (q : Setting) → q.doing ≡ failing → back_result q x (Retry p r.goal r.generation r.place r.next) ≡ gone_back (limits_in q e.search) (state_in q e.search) (choices_of q.view e.search))
    c.in-Resolving.is c.in-Some.ensures.step) in
    IfOk-weaker end (IsQuickAfter m t e n u f) (λ o. f.solutions_found ≡ e.solutions_found) (λ o h. h.3) step

pub returns-in-Resolving-clause-spent : goal.returns-in-Resolving-clause-spent
returns-in-Resolving-clause-spent g c =
    let e = c.args.self.now in
    let a = c.retry_known.new.atoms in
    let m = g.W.A.Atoms.held c.args.atoms.now in
    let n = g.W.A.Atoms.held a in
    let t = g.W.World.told c.args.world.now in
    let u = g.W.World.told c.retry_known.new.world in
    let view = view_is n u (g.met.W.A.Atoms.fixed_held a) (g.met.W.A.Atoms.unlike a) (g.met.W.A.Atoms.finite a) in
    let x = c.resume_clauses.new.search in
    let f = c.retry_known.new.self in
    let r = c.in-Some.left in
    let b = Retry Resolving r.goal r.generation r.place r.next in
    let end = c.retry_known.result in
    let taken = subst (λ (q : Purpose). IsTaken c.args.self.now.search x (Retry q r.goal r.generation r.place r.next)) c.in-Resolving.is c.in-Some.ensures.taken in
    let step = quick_end m n t u e x f b tt (same_held m n c.retry_known.ensures.held) view c.requires.ready c.in-Failing.is c.resume_clauses.ensures.kept end
    c.retry_known.ensures.whole c.retry_known.ensures.gone taken
    (subst (λ (p : Purpose). (q : Setting) → q.doing ≡ failing → back_result q x (Retry p r.goal r.generation r.place r.next) ≡ gone_back (limits_in q e.search) (state_in q e.search) (choices_of q.view e.search))
    c.in-Resolving.is c.in-Some.ensures.step) in
    IfOk-weaker end (IsQuickAfter m t e n u f) (λ o. IsSpent e.search.inferences f.search.inferences) (λ o h. h.2) step

pub returns-in-Resolving-clause-ready : goal.returns-in-Resolving-clause-ready
returns-in-Resolving-clause-ready g c =
    let e = c.args.self.now in
    let a = c.retry_known.new.atoms in
    let m = g.W.A.Atoms.held c.args.atoms.now in
    let n = g.W.A.Atoms.held a in
    let t = g.W.World.told c.args.world.now in
    let u = g.W.World.told c.retry_known.new.world in
    let view = view_is n u (g.met.W.A.Atoms.fixed_held a) (g.met.W.A.Atoms.unlike a) (g.met.W.A.Atoms.finite a) in
    let x = c.resume_clauses.new.search in
    let f = c.retry_known.new.self in
    let r = c.in-Some.left in
    let b = Retry Resolving r.goal r.generation r.place r.next in
    let end = c.retry_known.result in
    let taken = subst (λ (q : Purpose). IsTaken c.args.self.now.search x (Retry q r.goal r.generation r.place r.next)) c.in-Resolving.is c.in-Some.ensures.taken in
    let step = quick_end m n t u e x f b tt (same_held m n c.retry_known.ensures.held) view c.requires.ready c.in-Failing.is c.resume_clauses.ensures.kept end
    c.retry_known.ensures.whole c.retry_known.ensures.gone taken
    (subst (λ (p : Purpose). (q : Setting) → q.doing ≡ failing → back_result q x (Retry p r.goal r.generation r.place r.next) ≡ gone_back (limits_in q e.search) (state_in q e.search) (choices_of q.view e.search))
    c.in-Resolving.is c.in-Some.ensures.step) in
    IfOk-weaker end (IsQuickAfter m t e n u f) (λ o. IsReady n u f) (λ o h. h.1) step

pub returns-in-Resolving-clause-quick : goal.returns-in-Resolving-clause-quick
returns-in-Resolving-clause-quick g c =
    let e = c.args.self.now in
    let a = c.retry_known.new.atoms in
    let m = g.W.A.Atoms.held c.args.atoms.now in
    let n = g.W.A.Atoms.held a in
    let t = g.W.World.told c.args.world.now in
    let u = g.W.World.told c.retry_known.new.world in
    let view = view_is n u (g.met.W.A.Atoms.fixed_held a) (g.met.W.A.Atoms.unlike a) (g.met.W.A.Atoms.finite a) in
    let x = c.resume_clauses.new.search in
    let f = c.retry_known.new.self in
    let r = c.in-Some.left in
    let b = Retry Resolving r.goal r.generation r.place r.next in
    let end = c.retry_known.result in
    let taken = subst (λ (q : Purpose). IsTaken c.args.self.now.search x (Retry q r.goal r.generation r.place r.next)) c.in-Resolving.is c.in-Some.ensures.taken in
    let step = quick_end m n t u e x f b tt (same_held m n c.retry_known.ensures.held) view c.requires.ready c.in-Failing.is c.resume_clauses.ensures.kept end
    c.retry_known.ensures.whole c.retry_known.ensures.gone taken
    (subst (λ (p : Purpose). (q : Setting) → q.doing ≡ failing → back_result q x (Retry p r.goal r.generation r.place r.next) ≡ gone_back (limits_in q e.search) (state_in q e.search) (choices_of q.view e.search))
    c.in-Resolving.is c.in-Some.ensures.step) in
    IfOk-weaker end (IsQuickAfter m t e n u f) (IsQuick m t e n u f) (λ o h. h.0) step

pub retry_seldom-requires-clause-held : goal.retry_seldom-requires-clause-held
retry_seldom-requires-clause-held g c =
    let e = c.args.self.now in
    let a = c.args.atoms.now in
    let m = g.W.A.Atoms.held a in
    let t = g.W.World.told c.args.world.now in
    let view = view_is m t (g.met.W.A.Atoms.fixed_held a) (g.met.W.A.Atoms.unlike a) (g.met.W.A.Atoms.finite a) in
    let x = c.resume_clauses.new.search in
    let r = c.in-Some.left in
    let taken = c.in-Some.ensures.taken in
    newest_held m t e.search x e.doing r.purpose r.goal r.generation r.place r.next c.requires.ready.stable taken view (g.met.W.A.Atoms.fixed_held a) (g.met.W.A.Atoms.unlike a) (g.met.W.A.Atoms.finite a)

pub retry_seldom-requires-clause-open : goal.retry_seldom-requires-clause-open
retry_seldom-requires-clause-open g c =
    let e = c.args.self.now in
    let a = c.args.atoms.now in
    let m = g.W.A.Atoms.held a in
    let t = g.W.World.told c.args.world.now in
    let view = view_is m t (g.met.W.A.Atoms.fixed_held a) (g.met.W.A.Atoms.unlike a) (g.met.W.A.Atoms.finite a) in
    let x = c.resume_clauses.new.search in
    let r = c.in-Some.left in
    let taken = c.in-Some.ensures.taken in
    newest_open m t e.search x e.doing r.purpose r.goal r.generation r.place r.next c.requires.ready.stable taken view

pub returns-in-Some-clause-given : goal.returns-in-Some-clause-given
returns-in-Some-clause-given g c =
    let e = c.args.self.now in
    let a = c.retry_seldom.new.atoms in
    let m = g.W.A.Atoms.held c.args.atoms.now in
    let n = g.W.A.Atoms.held a in
    let t = g.W.World.told c.args.world.now in
    let u = g.W.World.told c.retry_seldom.new.world in
    let view = view_is n u (g.met.W.A.Atoms.fixed_held a) (g.met.W.A.Atoms.unlike a) (g.met.W.A.Atoms.finite a) in
    let x = c.resume_clauses.new.search in
    let f = c.retry_seldom.new.self in
    let r = c.in-Some.left in
    let b = Retry r.purpose r.goal r.generation r.place r.next in
    let end = c.retry_seldom.result in
    let taken = c.in-Some.ensures.taken in
    let step = quick_end m n t u e x f b tt (same_held m n c.retry_seldom.ensures.held) view c.requires.ready c.in-Failing.is c.resume_clauses.ensures.kept end
    c.retry_seldom.ensures.whole c.retry_seldom.ensures.gone taken
    c.in-Some.ensures.step in
    IfOk-weaker end (IsQuickAfter m t e n u f) (λ o. f.solutions_found ≡ e.solutions_found) (λ o h. h.3) step

pub returns-in-Some-clause-spent : goal.returns-in-Some-clause-spent
returns-in-Some-clause-spent g c =
    let e = c.args.self.now in
    let a = c.retry_seldom.new.atoms in
    let m = g.W.A.Atoms.held c.args.atoms.now in
    let n = g.W.A.Atoms.held a in
    let t = g.W.World.told c.args.world.now in
    let u = g.W.World.told c.retry_seldom.new.world in
    let view = view_is n u (g.met.W.A.Atoms.fixed_held a) (g.met.W.A.Atoms.unlike a) (g.met.W.A.Atoms.finite a) in
    let x = c.resume_clauses.new.search in
    let f = c.retry_seldom.new.self in
    let r = c.in-Some.left in
    let b = Retry r.purpose r.goal r.generation r.place r.next in
    let end = c.retry_seldom.result in
    let taken = c.in-Some.ensures.taken in
    let step = quick_end m n t u e x f b tt (same_held m n c.retry_seldom.ensures.held) view c.requires.ready c.in-Failing.is c.resume_clauses.ensures.kept end
    c.retry_seldom.ensures.whole c.retry_seldom.ensures.gone taken
    c.in-Some.ensures.step in
    IfOk-weaker end (IsQuickAfter m t e n u f) (λ o. IsSpent e.search.inferences f.search.inferences) (λ o h. h.2) step

pub returns-in-Some-clause-ready : goal.returns-in-Some-clause-ready
returns-in-Some-clause-ready g c =
    let e = c.args.self.now in
    let a = c.retry_seldom.new.atoms in
    let m = g.W.A.Atoms.held c.args.atoms.now in
    let n = g.W.A.Atoms.held a in
    let t = g.W.World.told c.args.world.now in
    let u = g.W.World.told c.retry_seldom.new.world in
    let view = view_is n u (g.met.W.A.Atoms.fixed_held a) (g.met.W.A.Atoms.unlike a) (g.met.W.A.Atoms.finite a) in
    let x = c.resume_clauses.new.search in
    let f = c.retry_seldom.new.self in
    let r = c.in-Some.left in
    let b = Retry r.purpose r.goal r.generation r.place r.next in
    let end = c.retry_seldom.result in
    let taken = c.in-Some.ensures.taken in
    let step = quick_end m n t u e x f b tt (same_held m n c.retry_seldom.ensures.held) view c.requires.ready c.in-Failing.is c.resume_clauses.ensures.kept end
    c.retry_seldom.ensures.whole c.retry_seldom.ensures.gone taken
    c.in-Some.ensures.step in
    IfOk-weaker end (IsQuickAfter m t e n u f) (λ o. IsReady n u f) (λ o h. h.1) step

pub returns-in-Some-clause-quick : goal.returns-in-Some-clause-quick
returns-in-Some-clause-quick g c =
    let e = c.args.self.now in
    let a = c.retry_seldom.new.atoms in
    let m = g.W.A.Atoms.held c.args.atoms.now in
    let n = g.W.A.Atoms.held a in
    let t = g.W.World.told c.args.world.now in
    let u = g.W.World.told c.retry_seldom.new.world in
    let view = view_is n u (g.met.W.A.Atoms.fixed_held a) (g.met.W.A.Atoms.unlike a) (g.met.W.A.Atoms.finite a) in
    let x = c.resume_clauses.new.search in
    let f = c.retry_seldom.new.self in
    let r = c.in-Some.left in
    let b = Retry r.purpose r.goal r.generation r.place r.next in
    let end = c.retry_seldom.result in
    let taken = c.in-Some.ensures.taken in
    let step = quick_end m n t u e x f b tt (same_held m n c.retry_seldom.ensures.held) view c.requires.ready c.in-Failing.is c.resume_clauses.ensures.kept end
    c.retry_seldom.ensures.whole c.retry_seldom.ensures.gone taken
    c.in-Some.ensures.step in
    IfOk-weaker end (IsQuickAfter m t e n u f) (IsQuick m t e n u f) (λ o h. h.0) step

pub returns-clause-quick : goal.returns-clause-quick
returns-clause-quick g c =
    let e : Engine = c.args.self.now in
    let m = g.W.A.Atoms.held c.args.atoms.now in
    let t = g.W.World.told c.args.world.now in
    let d : Search = c.resume_clauses.new.search in
    let f : Engine = record e { search = d } in
    stands_still m m t t e f refl refl (ap (λ (x : Search). let z : Engine = record e { search = x } in z) c.in_default-resume_clauses.ensures.none)

pub returns-clause-ready : goal.returns-clause-ready
returns-clause-ready g c =
    let e : Engine = c.args.self.now in
    subst (λ (x : Search). let z : Engine = record e { search = x } in IsReady (g.W.A.Atoms.held c.args.atoms.now) (g.W.World.told c.args.world.now) z) (sym c.in_default-resume_clauses.ensures.none) c.requires.ready

pub returns-clause-spent : goal.returns-clause-spent
returns-clause-spent g c = inl (ap (λ (x : Search). x.inferences) c.in_default-resume_clauses.ensures.none)

pub returns-in_default-clause-quick : goal.returns-in_default-clause-quick
returns-in_default-clause-quick g c =
    let m = g.W.A.Atoms.held c.args.atoms.now in
    let t = g.W.World.told c.args.world.now in
    stands_still m m t t c.args.self.now c.args.self.now refl refl refl
