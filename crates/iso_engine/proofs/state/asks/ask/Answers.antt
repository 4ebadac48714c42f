use Rattle.std.proofs.Common.{◌≡◌, ◌+◌, refl, sym, subst, arith}
use Rattle.world_api.specs.Texts.{text_of}
use Rattle.world_builtins.proofs.Kept.{held_kept, reads_kept}
use Rattle.iso_search.specs.declared.search.Search.{Search}
use Rattle.shared_builtins.specs.Telling.{TellsAtoms}
use Rattle.shared_builtins.specs.Shared.{renumbered}
use Rattle.iso_engine.specs.State.{IsReplyLed}
use Rattle.iso_engine.proofs.StateRows.{counted_again, counted_in}
use Rattle.iso_engine.proofs.StateAsked.{after_counted, asked_so, can_visit, defined, held_up, names_tell, reply_is, texts_asked}
use Rattle.iso_engine.proofs.state.asks.ask.Goals as goal

pub visit-requires-clause-held : goal.visit-requires-clause-held
visit-requires-clause-held g c = c.requires.asks.2.held

pub visit-requires-clause-next : goal.visit-requires-clause-next
visit-requires-clause-next g c =
    let m = g.W.A.Atoms.held c.args.atoms.now in
    can_visit (text_of m) (text_of m) (renumbered c.requires.asks.0) c.args.visit c.requires.asks.2.asks (g.W.World.told c.args.world.now)

pub follow_asked-requires-clause-replied : goal.follow_asked-requires-clause-replied
follow_asked-requires-clause-replied g c =
    let e = c.args.search.now in
    let x = c.args.goal.now in
    let a = c.args.atoms.now in
    let b = c.visit.new.atoms in
    let m = g.W.A.Atoms.held a in
    let n = g.W.A.Atoms.held b in
    let t = g.W.World.told c.args.world.now in
    let u = g.W.World.told c.visit.new.self in
    let asks = c.requires.asks in
    let tells : TellsAtoms n = names_tell n (g.met.W.A.Atoms.fixed_held b) (g.met.W.A.Atoms.unlike b) (g.met.W.A.Atoms.finite b) in
    let grown = c.in-Served.ensures.holds in
    let later = held_kept m n grown e.store x.place c.requires.held in
    let same = sym (reads_kept m n grown e.store x.place c.requires.held) in
    let v = c.in-Served.ensures.visited in (
      n,
      asks.0,
      asks.1,
      (defined m n grown tells t e x c.requires.goal c.args.rest c.requires.count c.requires.held later same c.args.visit asks.0 asks.1 asks.2 c.in-Served.reply
          c.in-Served.generation u v.0 v.1.0 c.in-Served.ensures.names v.1.1).0,
      reply_is m n grown tells t e x c.requires.goal c.args.rest c.requires.count c.requires.held later same c.args.visit asks.0 asks.1 asks.2 c.in-Served.reply
          c.in-Served.generation u v.0 v.1.0 c.in-Served.ensures.names v.1.1,
    )

pub returns-in_ok-asked-in-Served-clause-asked : goal.returns-in_ok-asked-in-Served-clause-asked
returns-in_ok-asked-in-Served-clause-asked g c =
    let e = c.args.search.now in
    let x = c.args.goal.now in
    let a = c.args.atoms.now in
    let b = c.visit.new.atoms in
    let m = g.W.A.Atoms.held a in
    let n = g.W.A.Atoms.held b in
    let t = g.W.World.told c.args.world.now in
    let u = g.W.World.told c.visit.new.self in
    let asks = c.requires.asks in
    let tells : TellsAtoms n = names_tell n (g.met.W.A.Atoms.fixed_held b) (g.met.W.A.Atoms.unlike b) (g.met.W.A.Atoms.finite b) in
    let grown = c.in-Served.ensures.holds in
    let later = held_kept m n grown e.store x.place c.requires.held in
    let same = sym (reads_kept m n grown e.store x.place c.requires.held) in
    let v = c.in-Served.ensures.visited in
    let k = c.in_ok-asked-in-Served in
    let d = (defined m n grown tells t e x c.requires.goal c.args.rest c.requires.count c.requires.held later same c.args.visit asks.0 asks.1 asks.2 c.in-Served.reply
    c.in-Served.generation u v.0 v.1.0 c.in-Served.ensures.names v.1.1).0 in
    let is = reply_is m n grown tells t e x c.requires.goal c.args.rest c.requires.count c.requires.held later same c.args.visit asks.0 asks.1 asks.2 c.in-Served.reply
    c.in-Served.generation u v.0 v.1.0 c.in-Served.ensures.names v.1.1 in
    let f = c.follow_asked.new.search in
    let again : (let y : Search = record e { inferences = e.inferences + 1 } in y ≡ counted_in e) = counted_again e e.store (e.inferences + 1) refl (omega arith) in
    asked_so m n grown tells t e x c.requires.goal c.args.rest c.requires.count c.requires.held later same c.args.visit asks.0 asks.1 asks.2 c.in-Served.reply
    c.in-Served.generation u v.0 v.1.0 c.in-Served.ensures.names v.1.1 f k.asked
    (subst (λ (y : Search). IsReplyLed n y x c.args.rest (asks.1 d e.next_variable) f k.asked) again (k.ensures.led n asks.0 asks.1 d is)) (λ o. after_counted e f o)

pub returns-in-Waits-clause-asked : goal.returns-in-Waits-clause-asked
returns-in-Waits-clause-asked g c =
    let e = c.args.search.now in
    let x = c.args.goal.now in
    let a = c.args.atoms.now in
    let b = c.visit.new.atoms in
    let m = g.W.A.Atoms.held a in
    let n = g.W.A.Atoms.held b in
    let t = g.W.World.told c.args.world.now in
    let u = g.W.World.told c.visit.new.self in
    let asks = c.requires.asks in
    let tells : TellsAtoms n = names_tell n (g.met.W.A.Atoms.fixed_held b) (g.met.W.A.Atoms.unlike b) (g.met.W.A.Atoms.finite b) in
    let grown = c.in-Waits.ensures.holds in
    let later = held_kept m n grown e.store x.place c.requires.held in
    let same = sym (reads_kept m n grown e.store x.place c.requires.held) in
    let v = c.in-Waits.ensures.visited in
    held_up m n grown tells t e x c.requires.goal c.args.rest c.requires.count c.requires.held later same c.args.visit asks.0 asks.1 asks.2 c.in-Waits.on
    c.in-Waits.generation u v.0 v.1.0 c.in-Waits.ensures.names v.1.1

pub returns-in_err-asked-in-Served-clause-asks : goal.returns-in_err-asked-in-Served-clause-asks
returns-in_err-asked-in-Served-clause-asks g c =
    let e = c.args.search.now in
    let x = c.args.goal.now in
    let a = c.args.atoms.now in
    let m = g.W.A.Atoms.held a in
    let t = g.W.World.told c.args.world.now in
    let asks = c.requires.asks in
    let tells : TellsAtoms m = names_tell m (g.met.W.A.Atoms.fixed_held a) (g.met.W.A.Atoms.unlike a) (g.met.W.A.Atoms.finite a) in
    texts_asked m m (λ k y h. h) tells t e x c.requires.goal c.args.rest c.requires.count c.requires.held c.requires.held refl c.args.visit asks.0 asks.1 asks.2
    (g.W.A.Atoms.asked a) (g.W.A.Atoms.asked c.visit.new.atoms) c.in-Served.ensures.asked

pub returns-in_ok-asked-in-Served-clause-asks : goal.returns-in_ok-asked-in-Served-clause-asks
returns-in_ok-asked-in-Served-clause-asks g c =
    let e = c.args.search.now in
    let x = c.args.goal.now in
    let a = c.args.atoms.now in
    let m = g.W.A.Atoms.held a in
    let t = g.W.World.told c.args.world.now in
    let asks = c.requires.asks in
    let tells : TellsAtoms m = names_tell m (g.met.W.A.Atoms.fixed_held a) (g.met.W.A.Atoms.unlike a) (g.met.W.A.Atoms.finite a) in
    texts_asked m m (λ k y h. h) tells t e x c.requires.goal c.args.rest c.requires.count c.requires.held c.requires.held refl c.args.visit asks.0 asks.1 asks.2
    (g.W.A.Atoms.asked a) (g.W.A.Atoms.asked c.visit.new.atoms) c.in-Served.ensures.asked

pub returns-in-Waits-clause-asks : goal.returns-in-Waits-clause-asks
returns-in-Waits-clause-asks g c =
    let e = c.args.search.now in
    let x = c.args.goal.now in
    let a = c.args.atoms.now in
    let m = g.W.A.Atoms.held a in
    let t = g.W.World.told c.args.world.now in
    let asks = c.requires.asks in
    let tells : TellsAtoms m = names_tell m (g.met.W.A.Atoms.fixed_held a) (g.met.W.A.Atoms.unlike a) (g.met.W.A.Atoms.finite a) in
    texts_asked m m (λ k y h. h) tells t e x c.requires.goal c.args.rest c.requires.count c.requires.held c.requires.held refl c.args.visit asks.0 asks.1 asks.2
    (g.W.A.Atoms.asked a) (g.W.A.Atoms.asked c.visit.new.atoms) c.in-Waits.ensures.asked

pub returns-in-NeedsAtoms-clause-asks : goal.returns-in-NeedsAtoms-clause-asks
returns-in-NeedsAtoms-clause-asks g c =
    let e = c.args.search.now in
    let x = c.args.goal.now in
    let a = c.args.atoms.now in
    let m = g.W.A.Atoms.held a in
    let t = g.W.World.told c.args.world.now in
    let asks = c.requires.asks in
    let tells : TellsAtoms m = names_tell m (g.met.W.A.Atoms.fixed_held a) (g.met.W.A.Atoms.unlike a) (g.met.W.A.Atoms.finite a) in
    texts_asked m m (λ k y h. h) tells t e x c.requires.goal c.args.rest c.requires.count c.requires.held c.requires.held refl c.args.visit asks.0 asks.1 asks.2
    (g.W.A.Atoms.asked a) (g.W.A.Atoms.asked c.visit.new.atoms) c.in-NeedsAtoms.ensures.asked

pub returns-in-Retry-clause-asks : goal.returns-in-Retry-clause-asks
returns-in-Retry-clause-asks g c =
    let e = c.args.search.now in
    let x = c.args.goal.now in
    let a = c.args.atoms.now in
    let m = g.W.A.Atoms.held a in
    let t = g.W.World.told c.args.world.now in
    let asks = c.requires.asks in
    let tells : TellsAtoms m = names_tell m (g.met.W.A.Atoms.fixed_held a) (g.met.W.A.Atoms.unlike a) (g.met.W.A.Atoms.finite a) in
    texts_asked m m (λ k y h. h) tells t e x c.requires.goal c.args.rest c.requires.count c.requires.held c.requires.held refl c.args.visit asks.0 asks.1 asks.2
    (g.W.A.Atoms.asked a) (g.W.A.Atoms.asked c.visit.new.atoms) c.in-Retry.ensures.asked

pub returns-in-Worn-clause-asks : goal.returns-in-Worn-clause-asks
returns-in-Worn-clause-asks g c =
    let e = c.args.search.now in
    let x = c.args.goal.now in
    let a = c.args.atoms.now in
    let m = g.W.A.Atoms.held a in
    let t = g.W.World.told c.args.world.now in
    let asks = c.requires.asks in
    let tells : TellsAtoms m = names_tell m (g.met.W.A.Atoms.fixed_held a) (g.met.W.A.Atoms.unlike a) (g.met.W.A.Atoms.finite a) in
    texts_asked m m (λ k y h. h) tells t e x c.requires.goal c.args.rest c.requires.count c.requires.held c.requires.held refl c.args.visit asks.0 asks.1 asks.2
    (g.W.A.Atoms.asked a) (g.W.A.Atoms.asked c.visit.new.atoms) c.in-Worn.ensures.asked

pub returns-in-Memory-clause-asks : goal.returns-in-Memory-clause-asks
returns-in-Memory-clause-asks g c =
    let e = c.args.search.now in
    let x = c.args.goal.now in
    let a = c.args.atoms.now in
    let m = g.W.A.Atoms.held a in
    let t = g.W.World.told c.args.world.now in
    let asks = c.requires.asks in
    let tells : TellsAtoms m = names_tell m (g.met.W.A.Atoms.fixed_held a) (g.met.W.A.Atoms.unlike a) (g.met.W.A.Atoms.finite a) in
    texts_asked m m (λ k y h. h) tells t e x c.requires.goal c.args.rest c.requires.count c.requires.held c.requires.held refl c.args.visit asks.0 asks.1 asks.2
    (g.W.A.Atoms.asked a) (g.W.A.Atoms.asked c.visit.new.atoms) c.in-Memory.ensures.asked
