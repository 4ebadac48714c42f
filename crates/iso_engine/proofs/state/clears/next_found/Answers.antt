use Rattle.std.proofs.Common.{◌≡◌, Option, refl, sym, ap, subst, ◌∙◌}
use Rattle.std.specs.List.{All}
use Rattle.std.specs.Prelude.{IsSome}
use Rattle.std.proofs.lemmas.Bool.{false≢true}
use Rattle.pl_term.specs.Tree.{Tree}
use Rattle.term_store.specs.Contents.{term_at}
use Rattle.term_store.specs.NumberedNames.{names_of, term_by}
use Rattle.world_api.specs.declared.reply.Found.{Found}
use Rattle.world_api.specs.declared.reply.Reply.{Reply}
use Rattle.world_api.specs.declared.reply.Reply.TheVariants.{Clauses}
use Rattle.world_api.specs.Replies.{IsFront, reply_names}
use Rattle.world_api.specs.Texts.{text_of}
use Rattle.world_api.specs.Told.{behind, clause_list}
use Rattle.iso_search.specs.declared.choices.Purpose.TheVariants.{Resolving}
use Rattle.iso_search.specs.Spelling.{spelled, text_of as texts}
use Rattle.iso_engine.specs.Following.{is_integer}
use Rattle.iso_engine.proofs.Asking.{goal_over, visit_held}
use Rattle.iso_engine.proofs.ClauseGains.{retry_gains}
use Rattle.iso_engine.proofs.ClearNext.{next_is}
use Rattle.iso_engine.proofs.FollowedReplies.{next_found, place_is}
use Rattle.iso_engine.proofs.state.clears.next_found.Goals as goal

pub predicate_at-procedure-requires-clause-callable : goal.predicate_at-procedure-requires-clause-callable
predicate_at-procedure-requires-clause-callable g c i is =
    let m = g.W.A.Atoms.held c.args.atoms.now in false≢true (sym c.requires.open.callable ∙ ap (λ x. is_integer (spelled (texts m) x)) is)

pub visit-requires-clause-held : goal.visit-requires-clause-held
visit-requires-clause-held g c =
    let a = c.args.atoms.now in
    visit_held (g.W.A.Atoms.held a) (term_at c.args.search.now.store c.args.head) c.predicate_at-procedure.result c.key_at-first.result
    (g.met.W.A.Atoms.fixed_held a) c.predicate_at-procedure.ensures c.key_at-first.ensures c.requires.held

pub visit-requires-clause-next : goal.visit-requires-clause-next
visit-requires-clause-next g c =
    let a = c.args.atoms.now in
    let m = g.W.A.Atoms.held a in
    let e = c.args.search.now in
    let t = g.W.World.told c.args.world.now in
    place_is m m t t t.history e e c.args.head (g.met.W.A.Atoms.fixed_held a) (g.met.W.A.Atoms.fixed_held a)
    (λ k x is. is) (goal_over e.store c.mark-mark.result c.args.head c.mark-mark.ensures.mark c.mark-mark.ensures.here c.requires.head) c.requires.held
    c.predicate_at-procedure.result c.key_at-first.result c.args.generation c.args.place c.predicate_at-procedure.ensures c.key_at-first.ensures c.requires.open.listed

pub unreachable-requires : goal.unreachable-requires
unreachable-requires g c =
    let a = c.args.atoms.now in
    let b = c.visit.new.atoms in
    let m = g.W.A.Atoms.held a in
    let n = g.W.A.Atoms.held b in
    let e = c.args.search.now in
    let t = g.W.World.told c.args.world.now in
    let v = c.in-Served.ensures.visited in
    let found = next_found m n t (g.W.World.told c.visit.new.self) v.0 e e c.args.head (g.met.W.A.Atoms.fixed_held a) (g.met.W.A.Atoms.fixed_held b) c.in-Served.ensures.holds
    (goal_over e.store c.mark-mark.result c.args.head c.mark-mark.ensures.mark c.mark-mark.ensures.here c.requires.head) c.requires.held
    c.predicate_at-procedure.result c.key_at-first.result c.args.generation c.args.place c.in-Served.generation c.in-Served.reply
    c.predicate_at-procedure.ensures c.key_at-first.ensures v.1.1 in
    c.in_default.not-Clauses found.0 found.1

one_list : (f h : Option (Found Tree)) (r : Reply Tree) → r ≡ Clauses f → r ≡ Clauses h → f ≡ h
one_list f h r a b = cc

pub returns-in-Clauses-clause-found : goal.returns-in-Clauses-clause-found
returns-in-Clauses-clause-found g c =
    let a = c.args.atoms.now in
    let b = c.visit.new.atoms in
    let m = g.W.A.Atoms.held a in
    let n = g.W.A.Atoms.held b in
    let e = c.args.search.now in
    let t = g.W.World.told c.args.world.now in
    let u = g.W.World.told c.visit.new.self in
    let over = goal_over e.store c.mark-mark.result c.args.head c.mark-mark.ensures.mark c.mark-mark.ensures.here c.requires.head in
    let v = c.in-Served.ensures.visited in
    let found = next_found m n t u v.0 e e c.args.head (g.met.W.A.Atoms.fixed_held a) (g.met.W.A.Atoms.fixed_held b) c.in-Served.ensures.holds over c.requires.held
    c.predicate_at-procedure.result c.key_at-first.result c.args.generation c.args.place c.in-Served.generation c.in-Served.reply
    c.predicate_at-procedure.ensures c.key_at-first.ensures v.1.1 in
    let same : found.0 ≡ c.in-Clauses.found = one_list found.0 c.in-Clauses.found c.in-Served.reply found.1 c.in-Clauses.is in
    next_is m n t u v.0 e c.args.head (g.met.W.A.Atoms.fixed_held a) (g.met.W.A.Atoms.fixed_held b) c.in-Served.ensures.holds over c.requires.held
    c.args.generation c.args.place c.in-Clauses.found v.1.0 v.1.1.told c.requires.open.listed.own c.requires.open.listed.within
    (subst (λ (f : Option (Found Tree)). IsFront term_by (text_of n) f
    (behind c.args.place (clause_list t.goals v.0 c.args.generation (term_by (text_of m) (term_at e.store c.args.head))))) same found.2)
    (subst (λ (r : Reply Tree). All (λ k. IsSome (n k)) (reply_names names_of r)) c.in-Clauses.is c.in-Served.ensures.names)

pub returns-in-Clauses-clause-asked : goal.returns-in-Clauses-clause-asked
returns-in-Clauses-clause-asked g c =
    let a = c.args.atoms.now in
    let m = g.W.A.Atoms.held a in
    let t = g.W.World.told c.args.world.now in
    let e = c.args.search.now in
    retry_gains m t e c.args.head c.predicate_at-procedure.result c.key_at-first.result (g.met.W.A.Atoms.fixed_held a)
    (goal_over e.store c.mark-mark.result c.args.head c.mark-mark.ensures.mark c.mark-mark.ensures.here c.requires.head)
    c.predicate_at-procedure.ensures c.key_at-first.ensures (g.W.A.Atoms.asked a) (g.W.A.Atoms.asked c.visit.new.atoms)
    Resolving c.args.head refl c.args.generation c.args.place c.requires.open.listed c.visit.ensures.asked

pub returns-in-NeedsAtoms-clause-asked : goal.returns-in-NeedsAtoms-clause-asked
returns-in-NeedsAtoms-clause-asked g c =
    let a = c.args.atoms.now in
    let m = g.W.A.Atoms.held a in
    let t = g.W.World.told c.args.world.now in
    let e = c.args.search.now in
    retry_gains m t e c.args.head c.predicate_at-procedure.result c.key_at-first.result (g.met.W.A.Atoms.fixed_held a)
    (goal_over e.store c.mark-mark.result c.args.head c.mark-mark.ensures.mark c.mark-mark.ensures.here c.requires.head)
    c.predicate_at-procedure.ensures c.key_at-first.ensures (g.W.A.Atoms.asked a) (g.W.A.Atoms.asked c.visit.new.atoms)
    Resolving c.args.head refl c.args.generation c.args.place c.requires.open.listed c.visit.ensures.asked

pub returns-in-Retry-clause-asked : goal.returns-in-Retry-clause-asked
returns-in-Retry-clause-asked g c =
    let a = c.args.atoms.now in
    let m = g.W.A.Atoms.held a in
    let t = g.W.World.told c.args.world.now in
    let e = c.args.search.now in
    retry_gains m t e c.args.head c.predicate_at-procedure.result c.key_at-first.result (g.met.W.A.Atoms.fixed_held a)
    (goal_over e.store c.mark-mark.result c.args.head c.mark-mark.ensures.mark c.mark-mark.ensures.here c.requires.head)
    c.predicate_at-procedure.ensures c.key_at-first.ensures (g.W.A.Atoms.asked a) (g.W.A.Atoms.asked c.visit.new.atoms)
    Resolving c.args.head refl c.args.generation c.args.place c.requires.open.listed c.visit.ensures.asked

pub returns-in-Worn-clause-asked : goal.returns-in-Worn-clause-asked
returns-in-Worn-clause-asked g c =
    let a = c.args.atoms.now in
    let m = g.W.A.Atoms.held a in
    let t = g.W.World.told c.args.world.now in
    let e = c.args.search.now in
    retry_gains m t e c.args.head c.predicate_at-procedure.result c.key_at-first.result (g.met.W.A.Atoms.fixed_held a)
    (goal_over e.store c.mark-mark.result c.args.head c.mark-mark.ensures.mark c.mark-mark.ensures.here c.requires.head)
    c.predicate_at-procedure.ensures c.key_at-first.ensures (g.W.A.Atoms.asked a) (g.W.A.Atoms.asked c.visit.new.atoms)
    Resolving c.args.head refl c.args.generation c.args.place c.requires.open.listed c.visit.ensures.asked

pub returns-in-Memory-clause-asked : goal.returns-in-Memory-clause-asked
returns-in-Memory-clause-asked g c =
    let a = c.args.atoms.now in
    let m = g.W.A.Atoms.held a in
    let t = g.W.World.told c.args.world.now in
    let e = c.args.search.now in
    retry_gains m t e c.args.head c.predicate_at-procedure.result c.key_at-first.result (g.met.W.A.Atoms.fixed_held a)
    (goal_over e.store c.mark-mark.result c.args.head c.mark-mark.ensures.mark c.mark-mark.ensures.here c.requires.head)
    c.predicate_at-procedure.ensures c.key_at-first.ensures (g.W.A.Atoms.asked a) (g.W.A.Atoms.asked c.visit.new.atoms)
    Resolving c.args.head refl c.args.generation c.args.place c.requires.open.listed c.visit.ensures.asked
