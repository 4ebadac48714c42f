use Rattle.std.proofs.Common.{◌≡◌, subst, sym, ◌∙◌, Option}
use Rattle.pl_term.specs.Tree.{Tree}
use Rattle.term_store.specs.Contents.{term_at}
use Rattle.term_store.specs.NumberedNames.{names_of, term_by}
use Rattle.world_api.specs.declared.reply.Found.{Found}
use Rattle.world_api.specs.declared.reply.Reply.{Reply}
use Rattle.world_api.specs.declared.reply.Reply.TheVariants.{Clauses}
use Rattle.world_api.specs.Replies.{IsFront, reply_names}
use Rattle.world_api.specs.Texts.{text_of}
use Rattle.world_api.specs.Told.{behind, clause_list}
use Rattle.std.specs.List.{All}
use Rattle.std.specs.Prelude.{IsSome}
use Rattle.iso_engine.specs.Views.{view_of}
use Rattle.iso_engine.proofs.Asking.{goal_over, visit_held}
use Rattle.iso_engine.proofs.FollowedReplies.{next_found, next_run_is, place_is}
use Rattle.iso_engine.proofs.ClauseGains.{retry_gains}
use Rattle.iso_engine.proofs.Purposes.{listed_held, listed_open, listed_reads}
use Rattle.iso_engine.proofs.Solutions.{view_is}
use Rattle.iso_engine.proofs.call.retries.retry_anew.Goals as goal

pub request_at-request-requires-clause-callable : goal.request_at-request-requires-clause-callable
request_at-request-requires-clause-callable g c i is = c.requires.callable i (sym c.listed_at-listed.ensures.stands ∙ is)

pub visit-requires-clause-held : goal.visit-requires-clause-held
visit-requires-clause-held g c =
    let m = g.W.A.Atoms.held c.args.atoms.now in
    let e = c.args.search.now in
    let over = goal_over e.store c.mark-mark.result c.args.goal c.mark-mark.ensures.mark c.mark-mark.ensures.here c.requires.goal in
    let at = c.listed_at-listed.result in
    let is = c.listed_at-listed.ensures.stands in
    visit_held m (term_at e.store at) c.request_at-request.result.procedure c.request_at-request.result.first
    (g.met.W.A.Atoms.fixed_held c.args.atoms.now) c.request_at-request.ensures.0 c.request_at-request.ensures.1
    (listed_held c.args.purpose e.store c.args.goal at over is m c.requires.held)

pub visit-requires-clause-next : goal.visit-requires-clause-next
visit-requires-clause-next g c =
    let a = c.args.atoms.now in
    let m = g.W.A.Atoms.held a in
    let e = c.args.search.now in
    let t = g.W.World.told c.args.world.now in
    let over = goal_over e.store c.mark-mark.result c.args.goal c.mark-mark.ensures.mark c.mark-mark.ensures.here c.requires.goal in
    let at = c.listed_at-listed.result in
    let is = c.listed_at-listed.ensures.stands in
    let view = view_is m t (g.met.W.A.Atoms.fixed_held a) (g.met.W.A.Atoms.unlike a) (g.met.W.A.Atoms.finite a) in
    place_is m m t t t.history e e at (g.met.W.A.Atoms.fixed_held a) (g.met.W.A.Atoms.fixed_held a)
    (λ a x is. is) (goal_over e.store c.mark-mark.result at c.mark-mark.ensures.mark c.mark-mark.ensures.here c.listed_at-listed.ensures.holds)
    (listed_held c.args.purpose e.store c.args.goal at over is m c.requires.held)
    c.request_at-request.result.procedure c.request_at-request.result.first c.args.generation c.args.place c.request_at-request.ensures.0 c.request_at-request.ensures.1
    (listed_open c.args.purpose e.store c.args.goal at over is (view_of m t) view t c.args.generation c.args.place c.requires.open)

pub unreachable-requires : goal.unreachable-requires
unreachable-requires g c =
    let m = g.W.A.Atoms.held c.args.atoms.now in
    let n = g.W.A.Atoms.held c.visit.new.atoms in
    let e = c.args.search.now in
    let t = g.W.World.told c.args.world.now in
    let over = goal_over e.store c.mark-mark.result c.args.goal c.mark-mark.ensures.mark c.mark-mark.ensures.here c.requires.goal in
    let at = c.listed_at-listed.result in
    let is = c.listed_at-listed.ensures.stands in
    let v = c.in-Served.ensures.visited in
    let found = next_found m n t (g.W.World.told c.visit.new.self) v.0 e e at (g.met.W.A.Atoms.fixed_held c.args.atoms.now)
    (g.met.W.A.Atoms.fixed_held c.visit.new.atoms) c.in-Served.ensures.holds
    (goal_over e.store c.mark-mark.result at c.mark-mark.ensures.mark c.mark-mark.ensures.here c.listed_at-listed.ensures.holds)
    (listed_held c.args.purpose e.store c.args.goal at over is m c.requires.held)
    c.request_at-request.result.procedure c.request_at-request.result.first c.args.generation c.args.place c.in-Served.generation c.in-Served.reply
    c.request_at-request.ensures.0 c.request_at-request.ensures.1 v.1.1 in
    c.in_default.not-Clauses found.0 found.1

one_list : (f h : Option (Found Tree)) (r : Reply Tree) → r ≡ Clauses f → r ≡ Clauses h → f ≡ h
one_list f h r a b = cc

pub returns-in_ok-outcome-in-Served-clause-retried : goal.returns-in_ok-outcome-in-Served-clause-retried
returns-in_ok-outcome-in-Served-clause-retried g c =
    let m = g.W.A.Atoms.held c.args.atoms.now in
    let n = g.W.A.Atoms.held c.visit.new.atoms in
    let e = c.args.search.now in
    let t = g.W.World.told c.args.world.now in
    let u = g.W.World.told c.visit.new.self in
    let fixed = g.met.W.A.Atoms.fixed_held c.args.atoms.now in
    let later = g.met.W.A.Atoms.fixed_held c.visit.new.atoms in
    let over = goal_over e.store c.mark-mark.result c.args.goal c.mark-mark.ensures.mark c.mark-mark.ensures.here c.requires.goal in
    let at = c.listed_at-listed.result in
    let is = c.listed_at-listed.ensures.stands in
    let there = goal_over e.store c.mark-mark.result at c.mark-mark.ensures.mark c.mark-mark.ensures.here c.listed_at-listed.ensures.holds in
    let held = listed_held c.args.purpose e.store c.args.goal at over is m c.requires.held in
    let v = c.in-Served.ensures.visited in
    let found = next_found m n t u v.0 e e at fixed later c.in-Served.ensures.holds there held
    c.request_at-request.result.procedure c.request_at-request.result.first c.args.generation c.args.place c.in-Served.generation c.in-Served.reply
    c.request_at-request.ensures.0 c.request_at-request.ensures.1 v.1.1 in
    let same : found.0 ≡ c.in-Clauses.found = one_list found.0 c.in-Clauses.found c.in-Served.reply found.1 c.in-Clauses.is in
    next_run_is m n t u v.0 e c.try_next_clause.new.search at fixed later c.in-Served.ensures.holds there held
    c.args.purpose c.args.goal (listed_reads c.args.purpose e.store c.args.goal at over is)
    c.args.generation c.args.place c.args.next c.in-Clauses.found c.in_ok-outcome-in-Served.outcome
    v.1.0 v.1.1.told c.requires.open.listed.own c.requires.open.listed.within
    (subst (λ (f : Option (Found Tree)). IsFront term_by (text_of n) f
    (behind c.args.place (clause_list t.goals v.0 c.args.generation (term_by (text_of m) (term_at e.store at))))) same found.2)
    (subst (λ (r : Reply Tree). All (λ a. IsSome (n a)) (reply_names names_of r)) c.in-Clauses.is c.in-Served.ensures.names)
    (λ s cs view lists. c.in_ok-outcome-in-Served.ensures.step s cs view lists) c.in_ok-outcome-in-Served.ensures.after

pub returns-in_err-outcome-in-Served-clause-asked : goal.returns-in_err-outcome-in-Served-clause-asked
returns-in_err-outcome-in-Served-clause-asked g c =
    let a = c.args.atoms.now in
    let m = g.W.A.Atoms.held a in
    let t = g.W.World.told c.args.world.now in
    let e = c.args.search.now in
    let over = goal_over e.store c.mark-mark.result c.args.goal c.mark-mark.ensures.mark c.mark-mark.ensures.here c.requires.goal in
    let at = c.listed_at-listed.result in
    let is = c.listed_at-listed.ensures.stands in
    let view = view_is m t (g.met.W.A.Atoms.fixed_held a) (g.met.W.A.Atoms.unlike a) (g.met.W.A.Atoms.finite a) in
    retry_gains m t e at c.request_at-request.result.procedure c.request_at-request.result.first (g.met.W.A.Atoms.fixed_held a)
    (goal_over e.store c.mark-mark.result at c.mark-mark.ensures.mark c.mark-mark.ensures.here c.listed_at-listed.ensures.holds)
    c.request_at-request.ensures.0 c.request_at-request.ensures.1 (g.W.A.Atoms.asked a) (g.W.A.Atoms.asked c.visit.new.atoms)
    c.args.purpose c.args.goal (listed_reads c.args.purpose e.store c.args.goal at over is (view_of m t) view)
    c.args.generation c.args.place c.requires.open.listed c.visit.ensures.asked

pub returns-in_err-put_back-in-NeedsAtoms-clause-asked : goal.returns-in_err-put_back-in-NeedsAtoms-clause-asked
returns-in_err-put_back-in-NeedsAtoms-clause-asked g c =
    let a = c.args.atoms.now in
    let m = g.W.A.Atoms.held a in
    let t = g.W.World.told c.args.world.now in
    let e = c.args.search.now in
    let over = goal_over e.store c.mark-mark.result c.args.goal c.mark-mark.ensures.mark c.mark-mark.ensures.here c.requires.goal in
    let at = c.listed_at-listed.result in
    let is = c.listed_at-listed.ensures.stands in
    let view = view_is m t (g.met.W.A.Atoms.fixed_held a) (g.met.W.A.Atoms.unlike a) (g.met.W.A.Atoms.finite a) in
    retry_gains m t e at c.request_at-request.result.procedure c.request_at-request.result.first (g.met.W.A.Atoms.fixed_held a)
    (goal_over e.store c.mark-mark.result at c.mark-mark.ensures.mark c.mark-mark.ensures.here c.listed_at-listed.ensures.holds)
    c.request_at-request.ensures.0 c.request_at-request.ensures.1 (g.W.A.Atoms.asked a) (g.W.A.Atoms.asked c.visit.new.atoms)
    c.args.purpose c.args.goal (listed_reads c.args.purpose e.store c.args.goal at over is (view_of m t) view)
    c.args.generation c.args.place c.requires.open.listed c.visit.ensures.asked

pub returns-in_err-put_back-in-Retry-clause-asked : goal.returns-in_err-put_back-in-Retry-clause-asked
returns-in_err-put_back-in-Retry-clause-asked g c =
    let a = c.args.atoms.now in
    let m = g.W.A.Atoms.held a in
    let t = g.W.World.told c.args.world.now in
    let e = c.args.search.now in
    let over = goal_over e.store c.mark-mark.result c.args.goal c.mark-mark.ensures.mark c.mark-mark.ensures.here c.requires.goal in
    let at = c.listed_at-listed.result in
    let is = c.listed_at-listed.ensures.stands in
    let view = view_is m t (g.met.W.A.Atoms.fixed_held a) (g.met.W.A.Atoms.unlike a) (g.met.W.A.Atoms.finite a) in
    retry_gains m t e at c.request_at-request.result.procedure c.request_at-request.result.first (g.met.W.A.Atoms.fixed_held a)
    (goal_over e.store c.mark-mark.result at c.mark-mark.ensures.mark c.mark-mark.ensures.here c.listed_at-listed.ensures.holds)
    c.request_at-request.ensures.0 c.request_at-request.ensures.1 (g.W.A.Atoms.asked a) (g.W.A.Atoms.asked c.visit.new.atoms)
    c.args.purpose c.args.goal (listed_reads c.args.purpose e.store c.args.goal at over is (view_of m t) view)
    c.args.generation c.args.place c.requires.open.listed c.visit.ensures.asked

pub returns-in_err-put_back-in-Worn-clause-asked : goal.returns-in_err-put_back-in-Worn-clause-asked
returns-in_err-put_back-in-Worn-clause-asked g c =
    let a = c.args.atoms.now in
    let m = g.W.A.Atoms.held a in
    let t = g.W.World.told c.args.world.now in
    let e = c.args.search.now in
    let over = goal_over e.store c.mark-mark.result c.args.goal c.mark-mark.ensures.mark c.mark-mark.ensures.here c.requires.goal in
    let at = c.listed_at-listed.result in
    let is = c.listed_at-listed.ensures.stands in
    let view = view_is m t (g.met.W.A.Atoms.fixed_held a) (g.met.W.A.Atoms.unlike a) (g.met.W.A.Atoms.finite a) in
    retry_gains m t e at c.request_at-request.result.procedure c.request_at-request.result.first (g.met.W.A.Atoms.fixed_held a)
    (goal_over e.store c.mark-mark.result at c.mark-mark.ensures.mark c.mark-mark.ensures.here c.listed_at-listed.ensures.holds)
    c.request_at-request.ensures.0 c.request_at-request.ensures.1 (g.W.A.Atoms.asked a) (g.W.A.Atoms.asked c.visit.new.atoms)
    c.args.purpose c.args.goal (listed_reads c.args.purpose e.store c.args.goal at over is (view_of m t) view)
    c.args.generation c.args.place c.requires.open.listed c.visit.ensures.asked

pub returns-in_ok-outcome-in-Served-clause-asked : goal.returns-in_ok-outcome-in-Served-clause-asked
returns-in_ok-outcome-in-Served-clause-asked g c =
    let a = c.args.atoms.now in
    let m = g.W.A.Atoms.held a in
    let t = g.W.World.told c.args.world.now in
    let e = c.args.search.now in
    let over = goal_over e.store c.mark-mark.result c.args.goal c.mark-mark.ensures.mark c.mark-mark.ensures.here c.requires.goal in
    let at = c.listed_at-listed.result in
    let is = c.listed_at-listed.ensures.stands in
    let view = view_is m t (g.met.W.A.Atoms.fixed_held a) (g.met.W.A.Atoms.unlike a) (g.met.W.A.Atoms.finite a) in
    retry_gains m t e at c.request_at-request.result.procedure c.request_at-request.result.first (g.met.W.A.Atoms.fixed_held a)
    (goal_over e.store c.mark-mark.result at c.mark-mark.ensures.mark c.mark-mark.ensures.here c.listed_at-listed.ensures.holds)
    c.request_at-request.ensures.0 c.request_at-request.ensures.1 (g.W.A.Atoms.asked a) (g.W.A.Atoms.asked c.visit.new.atoms)
    c.args.purpose c.args.goal (listed_reads c.args.purpose e.store c.args.goal at over is (view_of m t) view)
    c.args.generation c.args.place c.requires.open.listed c.visit.ensures.asked

pub returns-in_ok-put_back-in-NeedsAtoms-clause-asked : goal.returns-in_ok-put_back-in-NeedsAtoms-clause-asked
returns-in_ok-put_back-in-NeedsAtoms-clause-asked g c =
    let a = c.args.atoms.now in
    let m = g.W.A.Atoms.held a in
    let t = g.W.World.told c.args.world.now in
    let e = c.args.search.now in
    let over = goal_over e.store c.mark-mark.result c.args.goal c.mark-mark.ensures.mark c.mark-mark.ensures.here c.requires.goal in
    let at = c.listed_at-listed.result in
    let is = c.listed_at-listed.ensures.stands in
    let view = view_is m t (g.met.W.A.Atoms.fixed_held a) (g.met.W.A.Atoms.unlike a) (g.met.W.A.Atoms.finite a) in
    retry_gains m t e at c.request_at-request.result.procedure c.request_at-request.result.first (g.met.W.A.Atoms.fixed_held a)
    (goal_over e.store c.mark-mark.result at c.mark-mark.ensures.mark c.mark-mark.ensures.here c.listed_at-listed.ensures.holds)
    c.request_at-request.ensures.0 c.request_at-request.ensures.1 (g.W.A.Atoms.asked a) (g.W.A.Atoms.asked c.visit.new.atoms)
    c.args.purpose c.args.goal (listed_reads c.args.purpose e.store c.args.goal at over is (view_of m t) view)
    c.args.generation c.args.place c.requires.open.listed c.visit.ensures.asked

pub returns-in_ok-put_back-in-Retry-clause-asked : goal.returns-in_ok-put_back-in-Retry-clause-asked
returns-in_ok-put_back-in-Retry-clause-asked g c =
    let a = c.args.atoms.now in
    let m = g.W.A.Atoms.held a in
    let t = g.W.World.told c.args.world.now in
    let e = c.args.search.now in
    let over = goal_over e.store c.mark-mark.result c.args.goal c.mark-mark.ensures.mark c.mark-mark.ensures.here c.requires.goal in
    let at = c.listed_at-listed.result in
    let is = c.listed_at-listed.ensures.stands in
    let view = view_is m t (g.met.W.A.Atoms.fixed_held a) (g.met.W.A.Atoms.unlike a) (g.met.W.A.Atoms.finite a) in
    retry_gains m t e at c.request_at-request.result.procedure c.request_at-request.result.first (g.met.W.A.Atoms.fixed_held a)
    (goal_over e.store c.mark-mark.result at c.mark-mark.ensures.mark c.mark-mark.ensures.here c.listed_at-listed.ensures.holds)
    c.request_at-request.ensures.0 c.request_at-request.ensures.1 (g.W.A.Atoms.asked a) (g.W.A.Atoms.asked c.visit.new.atoms)
    c.args.purpose c.args.goal (listed_reads c.args.purpose e.store c.args.goal at over is (view_of m t) view)
    c.args.generation c.args.place c.requires.open.listed c.visit.ensures.asked

pub returns-in_ok-put_back-in-Worn-clause-asked : goal.returns-in_ok-put_back-in-Worn-clause-asked
returns-in_ok-put_back-in-Worn-clause-asked g c =
    let a = c.args.atoms.now in
    let m = g.W.A.Atoms.held a in
    let t = g.W.World.told c.args.world.now in
    let e = c.args.search.now in
    let over = goal_over e.store c.mark-mark.result c.args.goal c.mark-mark.ensures.mark c.mark-mark.ensures.here c.requires.goal in
    let at = c.listed_at-listed.result in
    let is = c.listed_at-listed.ensures.stands in
    let view = view_is m t (g.met.W.A.Atoms.fixed_held a) (g.met.W.A.Atoms.unlike a) (g.met.W.A.Atoms.finite a) in
    retry_gains m t e at c.request_at-request.result.procedure c.request_at-request.result.first (g.met.W.A.Atoms.fixed_held a)
    (goal_over e.store c.mark-mark.result at c.mark-mark.ensures.mark c.mark-mark.ensures.here c.listed_at-listed.ensures.holds)
    c.request_at-request.ensures.0 c.request_at-request.ensures.1 (g.W.A.Atoms.asked a) (g.W.A.Atoms.asked c.visit.new.atoms)
    c.args.purpose c.args.goal (listed_reads c.args.purpose e.store c.args.goal at over is (view_of m t) view)
    c.args.generation c.args.place c.requires.open.listed c.visit.ensures.asked

pub returns-in-Memory-clause-asked : goal.returns-in-Memory-clause-asked
returns-in-Memory-clause-asked g c =
    let a = c.args.atoms.now in
    let m = g.W.A.Atoms.held a in
    let t = g.W.World.told c.args.world.now in
    let e = c.args.search.now in
    let over = goal_over e.store c.mark-mark.result c.args.goal c.mark-mark.ensures.mark c.mark-mark.ensures.here c.requires.goal in
    let at = c.listed_at-listed.result in
    let is = c.listed_at-listed.ensures.stands in
    let view = view_is m t (g.met.W.A.Atoms.fixed_held a) (g.met.W.A.Atoms.unlike a) (g.met.W.A.Atoms.finite a) in
    retry_gains m t e at c.request_at-request.result.procedure c.request_at-request.result.first (g.met.W.A.Atoms.fixed_held a)
    (goal_over e.store c.mark-mark.result at c.mark-mark.ensures.mark c.mark-mark.ensures.here c.listed_at-listed.ensures.holds)
    c.request_at-request.ensures.0 c.request_at-request.ensures.1 (g.W.A.Atoms.asked a) (g.W.A.Atoms.asked c.visit.new.atoms)
    c.args.purpose c.args.goal (listed_reads c.args.purpose e.store c.args.goal at over is (view_of m t) view)
    c.args.generation c.args.place c.requires.open.listed c.visit.ensures.asked
