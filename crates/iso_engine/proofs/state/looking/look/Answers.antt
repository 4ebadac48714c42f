use Rattle.std.proofs.Common.{sym, ap, subst, ◌∙◌}
use Rattle.term_store.specs.Contents.{term_at}
use Rattle.world_api.specs.Gains.{Gains}
use Rattle.iso_search.specs.declared.search.Search.{Search}
use Rattle.iso_search.specs.declared.choices.Purpose.{Purpose}
use Rattle.iso_search.specs.Choices.{listed_goal, purpose_of}
use Rattle.iso_search.proofs.Grown.{whole_grown}
use Rattle.shared_builtins.specs.Telling.{TellsAtoms}
use Rattle.iso_engine.specs.Called.{AreLooked}
use Rattle.iso_engine.specs.ClauseLooks.{purpose_for}
use Rattle.iso_engine.specs.ClausesAsked.{IsListAsked}
use Rattle.iso_engine.specs.Following.{is_integer}
use Rattle.iso_engine.specs.Purposes.{listed_in}
use Rattle.iso_engine.specs.Views.{view_of}
use Rattle.iso_engine.proofs.LookGoals.{back_again, held_numbered, look_held, look_over, marked_again}
use Rattle.iso_engine.proofs.Refusals.{refusal_is}
use Rattle.iso_engine.specs.declared.call.called.Called.{Called}
use Rattle.world_api.specs.declared.unserved.Unserved.TheVariants.{NeedsAtoms, Retry, Worn}
use Rattle.iso_engine.proofs.LookPredicates.{look_callable, made_no_integer}
use Rattle.iso_engine.proofs.LooksAsked.{look_done, look_gains}
use Rattle.iso_engine.proofs.Solutions.{view_is}
use Rattle.iso_engine.proofs.StateAsked.{names_tell}
use Rattle.iso_engine.proofs.state.looking.look.Goals as goal

pub rule_of-requires-clause-inside : goal.rule_of-requires-clause-inside
rule_of-requires-clause-inside g c = c.requires.goal.inside

pub rule_of-requires-clause-over : goal.rule_of-requires-clause-over
rule_of-requires-clause-over g c =
    look_over c.args.search.now.store c.mark-mark.result c.mark-mark.ensures.mark c.mark-mark.ensures.here c.args.goal.now.look c.requires.goal.inside

pub look_through-requires-clause-whole : goal.look_through-requires-clause-whole
look_through-requires-clause-whole g c = whole_grown c.args.search.now c.rule_of.new.store c.in_ok-rule.ensures.grows c.requires.whole

pub look_through-requires-clause-callable : goal.look_through-requires-clause-callable
look_through-requires-clause-callable g c i is =
    let e = c.args.search.now in
    let x = c.args.goal.now in
    let a = c.args.atoms.now in
    let m = g.W.A.Atoms.held a in
    let t = g.W.World.told c.args.world.now in
    let v = view_of m t in
    let view = view_is m t (g.met.W.A.Atoms.fixed_held a) (g.met.W.A.Atoms.unlike a) (g.met.W.A.Atoms.finite a) in
    let r = c.in_ok-rule in
    let s = c.rule_of.new.store in
    let shape = r.ensures.shape in
    made_no_integer v view x.look s r.rule shape.0 shape.1 shape.2
    (ap (λ u. is_integer (listed_goal (purpose_of (purpose_for x.look)) u)) (r.ensures.read v view) ∙ look_callable v e.store x.look (c.requires.allowed v view (λ b y h. h))) i
    (ap (λ (p : Purpose). listed_in p (term_at s r.rule)) (sym c.purpose.ensures) ∙ is)

pub look_through-requires-clause-held : goal.look_through-requires-clause-held
look_through-requires-clause-held g c =
    let e = c.args.search.now in
    let x = c.args.goal.now in
    let a = c.args.atoms.now in
    let m = g.W.A.Atoms.held a in
    let tells : TellsAtoms m = names_tell m (g.met.W.A.Atoms.fixed_held a) (g.met.W.A.Atoms.unlike a) (g.met.W.A.Atoms.finite a) in
    let r = c.in_ok-rule in
    held_numbered c.rule_of.new.store m r.rule (r.ensures.held m tells (look_held m e.store x c.requires.goal c.requires.held))

pub returns-in-Ok-clause-looked : goal.returns-in-Ok-clause-looked
returns-in-Ok-clause-looked g c =
    let e = c.args.search.now in
    let x = c.args.goal.now in
    let a = c.args.atoms.now in
    let b = c.look_through.new.atoms in
    let m = g.W.A.Atoms.held a in
    let n = g.W.A.Atoms.held b in
    let t = g.W.World.told c.args.world.now in
    let u = g.W.World.told c.look_through.new.world in
    let tells : TellsAtoms m = names_tell m (g.met.W.A.Atoms.fixed_held a) (g.met.W.A.Atoms.unlike a) (g.met.W.A.Atoms.finite a) in
    let r = c.in_ok-rule in
    let s = c.rule_of.new.store in
    let held = held_numbered s m r.rule (r.ensures.held m tells (look_held m e.store x c.requires.goal c.requires.held)) in
    let view = view_is n u (g.met.W.A.Atoms.fixed_held b) (g.met.W.A.Atoms.unlike b) (g.met.W.A.Atoms.finite b) in
    let made : Search = record e { store = s } in
    look_done m n t u e x c.args.rest c.requires.goal c.requires.count c.look_through.ensures.holds view c.requires.whole s r.ensures.grows r.rule r.ensures.read held
    c.requires.allowed c.look_through.new.search c.in-Ok.called
    (subst (λ (p : Purpose). AreLooked p m t made r.rule c.args.rest n u c.look_through.new.search c.in-Ok.called) c.purpose.ensures c.in-Ok.ensures.called)

pub returns-in-Ok-clause-asks : goal.returns-in-Ok-clause-asks
returns-in-Ok-clause-asks g c =
    let e = c.args.search.now in
    let x = c.args.goal.now in
    let a = c.args.atoms.now in
    let b = c.look_through.new.atoms in
    let m = g.W.A.Atoms.held a in
    let n = g.W.A.Atoms.held b in
    let t = g.W.World.told c.args.world.now in
    let u = g.W.World.told c.look_through.new.world in
    let tells : TellsAtoms m = names_tell m (g.met.W.A.Atoms.fixed_held a) (g.met.W.A.Atoms.unlike a) (g.met.W.A.Atoms.finite a) in
    let r = c.in_ok-rule in
    let s = c.rule_of.new.store in
    let held = held_numbered s m r.rule (r.ensures.held m tells (look_held m e.store x c.requires.goal c.requires.held)) in
    let view = view_is m t (g.met.W.A.Atoms.fixed_held a) (g.met.W.A.Atoms.unlike a) (g.met.W.A.Atoms.finite a) in
    let made : Search = record e { store = s } in
    look_gains m t e x c.requires.goal c.requires.count view s r.rule r.ensures.read held c.requires.allowed (g.W.A.Atoms.asked a) (g.W.A.Atoms.asked b)
    (subst (λ (p : Purpose). Gains (IsListAsked p m t made r.rule) (g.W.A.Atoms.asked a) (g.W.A.Atoms.asked b)) c.purpose.ensures c.look_through.ensures.asked)

pub returns-in-Err-NeedsAtoms-clause-asks : goal.returns-in-Err-NeedsAtoms-clause-asks
returns-in-Err-NeedsAtoms-clause-asks g c =
    let e = c.args.search.now in
    let x = c.args.goal.now in
    let a = c.args.atoms.now in
    let b = c.look_through.new.atoms in
    let m = g.W.A.Atoms.held a in
    let n = g.W.A.Atoms.held b in
    let t = g.W.World.told c.args.world.now in
    let u = g.W.World.told c.look_through.new.world in
    let tells : TellsAtoms m = names_tell m (g.met.W.A.Atoms.fixed_held a) (g.met.W.A.Atoms.unlike a) (g.met.W.A.Atoms.finite a) in
    let r = c.in_ok-rule in
    let s = c.rule_of.new.store in
    let held = held_numbered s m r.rule (r.ensures.held m tells (look_held m e.store x c.requires.goal c.requires.held)) in
    let view = view_is m t (g.met.W.A.Atoms.fixed_held a) (g.met.W.A.Atoms.unlike a) (g.met.W.A.Atoms.finite a) in
    let made : Search = record e { store = s } in
    look_gains m t e x c.requires.goal c.requires.count view s r.rule r.ensures.read held c.requires.allowed (g.W.A.Atoms.asked a) (g.W.A.Atoms.asked b)
    (subst (λ (p : Purpose). Gains (IsListAsked p m t made r.rule) (g.W.A.Atoms.asked a) (g.W.A.Atoms.asked b)) c.purpose.ensures c.look_through.ensures.asked)

pub returns-in-Err-Retry-clause-asks : goal.returns-in-Err-Retry-clause-asks
returns-in-Err-Retry-clause-asks g c =
    let e = c.args.search.now in
    let x = c.args.goal.now in
    let a = c.args.atoms.now in
    let b = c.look_through.new.atoms in
    let m = g.W.A.Atoms.held a in
    let n = g.W.A.Atoms.held b in
    let t = g.W.World.told c.args.world.now in
    let u = g.W.World.told c.look_through.new.world in
    let tells : TellsAtoms m = names_tell m (g.met.W.A.Atoms.fixed_held a) (g.met.W.A.Atoms.unlike a) (g.met.W.A.Atoms.finite a) in
    let r = c.in_ok-rule in
    let s = c.rule_of.new.store in
    let held = held_numbered s m r.rule (r.ensures.held m tells (look_held m e.store x c.requires.goal c.requires.held)) in
    let view = view_is m t (g.met.W.A.Atoms.fixed_held a) (g.met.W.A.Atoms.unlike a) (g.met.W.A.Atoms.finite a) in
    let made : Search = record e { store = s } in
    look_gains m t e x c.requires.goal c.requires.count view s r.rule r.ensures.read held c.requires.allowed (g.W.A.Atoms.asked a) (g.W.A.Atoms.asked b)
    (subst (λ (p : Purpose). Gains (IsListAsked p m t made r.rule) (g.W.A.Atoms.asked a) (g.W.A.Atoms.asked b)) c.purpose.ensures c.look_through.ensures.asked)

pub returns-in-Err-Worn-clause-asks : goal.returns-in-Err-Worn-clause-asks
returns-in-Err-Worn-clause-asks g c =
    let e = c.args.search.now in
    let x = c.args.goal.now in
    let a = c.args.atoms.now in
    let b = c.look_through.new.atoms in
    let m = g.W.A.Atoms.held a in
    let n = g.W.A.Atoms.held b in
    let t = g.W.World.told c.args.world.now in
    let u = g.W.World.told c.look_through.new.world in
    let tells : TellsAtoms m = names_tell m (g.met.W.A.Atoms.fixed_held a) (g.met.W.A.Atoms.unlike a) (g.met.W.A.Atoms.finite a) in
    let r = c.in_ok-rule in
    let s = c.rule_of.new.store in
    let held = held_numbered s m r.rule (r.ensures.held m tells (look_held m e.store x c.requires.goal c.requires.held)) in
    let view = view_is m t (g.met.W.A.Atoms.fixed_held a) (g.met.W.A.Atoms.unlike a) (g.met.W.A.Atoms.finite a) in
    let made : Search = record e { store = s } in
    look_gains m t e x c.requires.goal c.requires.count view s r.rule r.ensures.read held c.requires.allowed (g.W.A.Atoms.asked a) (g.W.A.Atoms.asked b)
    (subst (λ (p : Purpose). Gains (IsListAsked p m t made r.rule) (g.W.A.Atoms.asked a) (g.W.A.Atoms.asked b)) c.purpose.ensures c.look_through.ensures.asked)

pub returns-in-Err-Memory-clause-asks : goal.returns-in-Err-Memory-clause-asks
returns-in-Err-Memory-clause-asks g c =
    let e = c.args.search.now in
    let x = c.args.goal.now in
    let a = c.args.atoms.now in
    let b = c.look_through.new.atoms in
    let m = g.W.A.Atoms.held a in
    let n = g.W.A.Atoms.held b in
    let t = g.W.World.told c.args.world.now in
    let u = g.W.World.told c.look_through.new.world in
    let tells : TellsAtoms m = names_tell m (g.met.W.A.Atoms.fixed_held a) (g.met.W.A.Atoms.unlike a) (g.met.W.A.Atoms.finite a) in
    let r = c.in_ok-rule in
    let s = c.rule_of.new.store in
    let held = held_numbered s m r.rule (r.ensures.held m tells (look_held m e.store x c.requires.goal c.requires.held)) in
    let view = view_is m t (g.met.W.A.Atoms.fixed_held a) (g.met.W.A.Atoms.unlike a) (g.met.W.A.Atoms.finite a) in
    let made : Search = record e { store = s } in
    look_gains m t e x c.requires.goal c.requires.count view s r.rule r.ensures.read held c.requires.allowed (g.W.A.Atoms.asked a) (g.W.A.Atoms.asked b)
    (subst (λ (p : Purpose). Gains (IsListAsked p m t made r.rule) (g.W.A.Atoms.asked a) (g.W.A.Atoms.asked b)) c.purpose.ensures c.look_through.ensures.asked)

pub undo_to-requires : goal.undo_to-requires
undo_to-requires g c =
    marked_again c.args.search.now c.look_through.new.search c.rule_of.new.store c.mark-mark.result c.in_ok-rule.ensures.grows c.mark-mark.ensures.mark (refusal_is Called c.in-Err-NeedsAtoms.field-0 (NeedsAtoms c.in-Err-NeedsAtoms.pass) _ c.in-Err-NeedsAtoms.field-0-is c.in-Err-NeedsAtoms.ensures.taken_back).1

pub returns-in-Err-NeedsAtoms-clause-taken_back : goal.returns-in-Err-NeedsAtoms-clause-taken_back
returns-in-Err-NeedsAtoms-clause-taken_back g c =
    let back = (refusal_is Called c.in-Err-NeedsAtoms.field-0 (NeedsAtoms c.in-Err-NeedsAtoms.pass) _ c.in-Err-NeedsAtoms.field-0-is c.in-Err-NeedsAtoms.ensures.taken_back) in (
      back.0,
      back_again c.args.search.now c.look_through.new.search c.rule_of.new.store c.undo_to.new.self c.mark-mark.result c.in_ok-rule.ensures.grows c.mark-mark.ensures.mark
          c.mark-mark.ensures.here back.1 c.undo_to.ensures.back,
    )

pub undo_to-requires-in-Err-Retry : goal.undo_to-requires-in-Err-Retry
undo_to-requires-in-Err-Retry g c =
    marked_again c.args.search.now c.look_through.new.search c.rule_of.new.store c.mark-mark.result c.in_ok-rule.ensures.grows c.mark-mark.ensures.mark (refusal_is Called c.in-Err-Retry.field-0 (Retry c.in-Err-Retry.cause) _ c.in-Err-Retry.field-0-is c.in-Err-Retry.ensures.taken_back).1

pub returns-in-Err-Retry-clause-taken_back : goal.returns-in-Err-Retry-clause-taken_back
returns-in-Err-Retry-clause-taken_back g c =
    let back = (refusal_is Called c.in-Err-Retry.field-0 (Retry c.in-Err-Retry.cause) _ c.in-Err-Retry.field-0-is c.in-Err-Retry.ensures.taken_back) in (
      back.0,
      back_again c.args.search.now c.look_through.new.search c.rule_of.new.store c.undo_to-in-Err-Retry.new.self c.mark-mark.result c.in_ok-rule.ensures.grows c.mark-mark.ensures.mark
          c.mark-mark.ensures.here back.1 c.undo_to-in-Err-Retry.ensures.back,
    )

pub undo_to-requires-in-Err-Worn : goal.undo_to-requires-in-Err-Worn
undo_to-requires-in-Err-Worn g c =
    marked_again c.args.search.now c.look_through.new.search c.rule_of.new.store c.mark-mark.result c.in_ok-rule.ensures.grows c.mark-mark.ensures.mark (refusal_is Called c.in-Err-Worn.field-0 (Worn c.in-Err-Worn.word) _ c.in-Err-Worn.field-0-is c.in-Err-Worn.ensures.taken_back).1

pub returns-in-Err-Worn-clause-taken_back : goal.returns-in-Err-Worn-clause-taken_back
returns-in-Err-Worn-clause-taken_back g c =
    let back = (refusal_is Called c.in-Err-Worn.field-0 (Worn c.in-Err-Worn.word) _ c.in-Err-Worn.field-0-is c.in-Err-Worn.ensures.taken_back) in (
      back.0,
      back_again c.args.search.now c.look_through.new.search c.rule_of.new.store c.undo_to-in-Err-Worn.new.self c.mark-mark.result c.in_ok-rule.ensures.grows c.mark-mark.ensures.mark
          c.mark-mark.ensures.here back.1 c.undo_to-in-Err-Worn.ensures.back,
    )
