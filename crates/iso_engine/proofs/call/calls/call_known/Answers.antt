use Rattle.std.proofs.Common.{refl, subst, ◌+◌, arith}
use Rattle.std.specs.Prelude.{Option}
use Rattle.pl_term.specs.Tree.{Tree}
use Rattle.iso_search.specs.declared.choices.Purpose.TheVariants.{Resolving}
use Rattle.iso_search.specs.declared.search.Search.{Search}
use Rattle.term_store.specs.Contents.{term_at}
use Rattle.world_api.specs.declared.reply.Found.{Found}
use Rattle.world_api.specs.declared.reply.Reply.TheVariants.{Clauses}
use Rattle.world_api.specs.declared.visit.Visit.TheVariants.{Call}
use Rattle.iso_engine.specs.declared.call.called.Called.TheVariants.{Ran}
use Rattle.iso_engine.specs.Replies.{IsFollowed}
use Rattle.iso_engine.proofs.Asking.{goal_over, list_served}
use Rattle.iso_engine.proofs.FollowedReplies.{looked_is}
use Rattle.iso_engine.proofs.KnownAnswers.{same_held}
use Rattle.iso_engine.proofs.Purposes.{listed_reads}
use Rattle.iso_engine.proofs.call.calls.call_known.Goals as goal

pub returns-in_ok-outcome-in-Some-clause-called : goal.returns-in_ok-outcome-in-Some-clause-called
returns-in_ok-outcome-in-Some-clause-called g c =
    let a = c.args.atoms.now in
    let b = c.again.new.atoms in
    let m = g.W.A.Atoms.held a in
    let n = g.W.A.Atoms.held b in
    let t = g.W.World.told c.args.world.now in
    let u = g.W.World.told c.again.new.self in
    let e = c.args.search.now in
    let x : Search = record e { inferences = e.inferences + 1 } in
    let f : Option (Found Tree) = g.W.World.at_hand b in
    let p = c.args.request.procedure in
    let k = c.args.request.first in
    let over = goal_over e.store c.mark-mark.result c.args.goal c.mark-mark.ensures.mark c.mark-mark.ensures.here c.requires.goal in
    let v = c.in-Some.ensures.visited in
    looked_is m n t u v.0 e c.follow_found.new.search c.args.goal (g.met.W.A.Atoms.fixed_held a) (g.met.W.A.Atoms.fixed_held b)
    (same_held m n c.again.ensures.held) over c.requires.held
    Resolving c.args.goal (listed_reads Resolving e.store c.args.goal c.args.goal over refl)
    c.args.rest c.in-Some.generation (omega (arith, c.if-search-budget.false)) (Clauses f) (Ran c.in_ok-outcome-in-Some.outcome)
    (list_served Resolving m n t u v.0 (term_at e.store c.args.goal) p k (Call p k) (Clauses f) c.in-Some.generation
    refl (g.met.W.A.Atoms.fixed_held a) c.requires.request.0 c.requires.request.1 v.1.0 v.1.1)
    c.in-Some.ensures.names
    (subst (λ (h : Option (Found Tree)). IsFollowed Resolving x c.args.goal c.args.rest c.in-Some.generation (Clauses h) c.follow_found.new.search (Ran c.in_ok-outcome-in-Some.outcome))
    c.lent-found.ensures c.in_ok-outcome-in-Some.ensures.followed)
