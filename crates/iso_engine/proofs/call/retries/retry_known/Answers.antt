use Rattle.std.proofs.Common.{◌≡◌, subst, sym}
use Rattle.std.specs.Prelude.{Option}
use Rattle.pl_term.specs.Tree.{Tree}
use Rattle.term_store.specs.Contents.{term_at}
use Rattle.term_store.specs.NumberedNames.{term_by}
use Rattle.iso_search.specs.Choices.{listed_goal, purpose_of}
use Rattle.iso_search.specs.Reading.{reads}
use Rattle.world_api.specs.declared.reply.Found.{Found}
use Rattle.world_api.specs.declared.reply.Reply.{Reply}
use Rattle.world_api.specs.declared.reply.Reply.TheVariants.{Clauses}
use Rattle.world_api.specs.Replies.{IsFront}
use Rattle.world_api.specs.Texts.{text_of}
use Rattle.world_api.specs.Told.{behind, clause_list}
use Rattle.iso_engine.specs.Lists.{IsListed}
use Rattle.iso_engine.specs.Views.{view_of}
use Rattle.iso_engine.proofs.Asking.{goal_over}
use Rattle.iso_engine.proofs.FollowedReplies.{next_found, next_run_is}
use Rattle.iso_engine.proofs.KnownAnswers.{same_held}
use Rattle.iso_engine.proofs.Purposes.{listed_held, listed_reads}
use Rattle.iso_engine.proofs.Solutions.{view_is}
use Rattle.iso_engine.proofs.call.retries.retry_known.Goals as goal

one_list : (f h : Option (Found Tree)) → (let l : Reply Tree = Clauses f in let r : Reply Tree = Clauses h in l ≡ r) → h ≡ f
one_list f h is = cc

pub returns-in_ok-outcome-in-Some-clause-retried : goal.returns-in_ok-outcome-in-Some-clause-retried
returns-in_ok-outcome-in-Some-clause-retried g c =
    let a = c.args.atoms.now in
    let b = c.again.new.atoms in
    let m = g.W.A.Atoms.held a in
    let n = g.W.A.Atoms.held b in
    let e = c.args.search.now in
    let t = g.W.World.told c.args.world.now in
    let u = g.W.World.told c.again.new.self in
    let f : Option (Found Tree) = g.W.World.at_hand b in
    let fixed = g.met.W.A.Atoms.fixed_held a in
    let later = g.met.W.A.Atoms.fixed_held b in
    let grown = same_held m n c.again.ensures.held in
    let over = goal_over e.store c.mark-mark.result c.args.goal c.mark-mark.ensures.mark c.mark-mark.ensures.here c.requires.goal in
    let at = c.args.listed in
    let is = c.requires.stands in
    let there = goal_over e.store c.mark-mark.result at c.mark-mark.ensures.mark c.mark-mark.ensures.here c.requires.listed in
    let held = listed_held c.args.purpose e.store c.args.goal at over is m c.requires.held in
    let v = c.in-Some.ensures.visited in
    let found = next_found m n t u v.0 e e at fixed later grown there held
    c.args.request.procedure c.args.request.first c.args.generation c.args.place c.in-Some.field-0 (Clauses f)
    c.requires.request.0 c.requires.request.1 v.1.1 in
    let same : found.0 ≡ f = one_list f found.0 found.1 in
    next_run_is m n t u v.0 e c.try_next_clause.new.search at fixed later grown there held
    c.args.purpose c.args.goal (listed_reads c.args.purpose e.store c.args.goal at over is)
    c.args.generation c.args.place c.args.next f c.in_ok-outcome-in-Some.outcome
    v.1.0 v.1.1.told c.requires.open.listed.own c.requires.open.listed.within
    (subst (λ (h : Option (Found Tree)). IsFront term_by (text_of n) h
    (behind c.args.place (clause_list t.goals v.0 c.args.generation (term_by (text_of m) (term_at e.store at))))) same found.2)
    c.in-Some.ensures.names
    (λ s cs view lists.
    c.in_ok-outcome-in-Some.ensures.step s cs view
    (subst (λ (h : Option (Found Tree)). IsListed s.view (listed_goal (purpose_of c.args.purpose) (reads s.view e.store c.args.goal)) c.args.generation h cs) (sym c.lent-found.ensures) lists)) c.in_ok-outcome-in-Some.ensures.after
