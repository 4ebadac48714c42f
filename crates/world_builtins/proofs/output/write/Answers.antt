use Rattle.std.proofs.Common.{refl, subst, sym, ◌∙◌}
use Rattle.pl_model.specs.Requests.{read_operators}
use Rattle.world_api.specs.Texts.{text_of}
use Rattle.world_builtins.specs.Operators.{Stands}
use Rattle.world_builtins.specs.Spelling.{reads}
use Rattle.world_builtins.specs.Styles.{text_by}
use Rattle.world_builtins.proofs.Kept.{held_kept, reads_kept}
use Rattle.world_builtins.proofs.Replies.{operators_are_read, read_asks_nothing, served_stands, text_written}
use Rattle.world_builtins.proofs.output.write.Goals as goal

pub operators_of-operators-requires : goal.operators_of-operators-requires
operators_of-operators-requires g c =
    let v = c.in-Served.ensures.visited
    in served_stands
    g.W.Term.Kept.term
    g.W.Term.Kept.key_of
    (text_of (g.W.A.Atoms.held c.args.atoms.now))
    (text_of (g.W.A.Atoms.held c.visit.new.atoms))
    c.in-Served.reply
    c.in-Served.generation
    (g.W.World.told c.args.world.now)
    v.0
    (g.W.World.told c.visit.new.self)
    v.1

pub returns-in_ok-put_term-in-Served-clause-writes : goal.returns-in_ok-put_term-in-Served-clause-writes
returns-in_ok-put_term-in-Served-clause-writes g c =
    let v = c.in-Served.ensures.visited
    in text_written
    g.W.Term.Kept.term
    g.W.Term.Kept.key_of
    (text_of (g.W.A.Atoms.held c.args.atoms.now))
    (text_of (g.W.A.Atoms.held c.visit.new.atoms))
    c.in-Served.reply
    c.in-Served.generation
    (g.W.World.told c.args.world.now)
    v.0
    (g.W.World.told c.visit.new.self)
    (text_by c.args.style)
    c.deref.result.now
    (reads (g.W.A.Atoms.held c.visit.new.atoms) c.args.store.now c.args.term)
    (reads (g.W.A.Atoms.held c.args.atoms.now) c.args.store.now c.args.term)
    c.args.out.now.items
    c.put_term.new.out.items
    v.1
    (subst (Stands c.in-Served.reply) (sym c.deref.ensures) c.operators_of-operators.ensures)
    c.in_ok-put_term-in-Served.ensures.writes
    (reads_kept (g.W.A.Atoms.held c.args.atoms.now) (g.W.A.Atoms.held c.visit.new.atoms) c.visit.ensures.holds c.args.store.now c.args.term c.requires.held)

pub put_term-requires-clause-held : goal.put_term-requires-clause-held
put_term-requires-clause-held g c =
    held_kept (g.W.A.Atoms.held c.args.atoms.now) (g.W.A.Atoms.held c.visit.new.atoms) c.visit.ensures.holds c.args.store.now c.args.term c.requires.held

pub unreachable-requires : goal.unreachable-requires
unreachable-requires g c =
    let v = c.in-Waits.ensures.visited
    in operators_are_read (g.W.World.told c.args.world.now).engine (g.W.World.told c.args.world.now).goals v.0 (v.1.1.waiting read_operators refl)

pub returns-in_err-put_term-in-Served-clause-asked : goal.returns-in_err-put_term-in-Served-clause-asked
returns-in_err-put_term-in-Served-clause-asked g c =
    let b = c.args.atoms.now
    in c.put_term.ensures.asked ∙ read_asks_nothing g.W.Term.Kept.term g.W.Term.Kept.key_of (text_of (g.W.A.Atoms.held b)) (g.W.World.told c.args.world.now)
    (g.W.A.Atoms.asked c.args.atoms.now) (g.W.A.Atoms.asked b) (g.W.A.Atoms.asked c.visit.new.atoms) refl c.in-Served.ensures.asked

pub returns-in_ok-put_term-in-Served-clause-asked : goal.returns-in_ok-put_term-in-Served-clause-asked
returns-in_ok-put_term-in-Served-clause-asked g c =
    let b = c.args.atoms.now
    in c.put_term.ensures.asked ∙ read_asks_nothing g.W.Term.Kept.term g.W.Term.Kept.key_of (text_of (g.W.A.Atoms.held b)) (g.W.World.told c.args.world.now)
    (g.W.A.Atoms.asked c.args.atoms.now) (g.W.A.Atoms.asked b) (g.W.A.Atoms.asked c.visit.new.atoms) refl c.in-Served.ensures.asked

pub returns-in-NeedsAtoms-clause-asked : goal.returns-in-NeedsAtoms-clause-asked
returns-in-NeedsAtoms-clause-asked g c =
    let b = c.args.atoms.now
    in read_asks_nothing g.W.Term.Kept.term g.W.Term.Kept.key_of (text_of (g.W.A.Atoms.held b)) (g.W.World.told c.args.world.now)
    (g.W.A.Atoms.asked c.args.atoms.now) (g.W.A.Atoms.asked b) (g.W.A.Atoms.asked c.visit.new.atoms) refl c.in-NeedsAtoms.ensures.asked

pub returns-in-Retry-clause-asked : goal.returns-in-Retry-clause-asked
returns-in-Retry-clause-asked g c =
    let b = c.args.atoms.now
    in read_asks_nothing g.W.Term.Kept.term g.W.Term.Kept.key_of (text_of (g.W.A.Atoms.held b)) (g.W.World.told c.args.world.now)
    (g.W.A.Atoms.asked c.args.atoms.now) (g.W.A.Atoms.asked b) (g.W.A.Atoms.asked c.visit.new.atoms) refl c.in-Retry.ensures.asked

pub returns-in-Worn-clause-asked : goal.returns-in-Worn-clause-asked
returns-in-Worn-clause-asked g c =
    let b = c.args.atoms.now
    in read_asks_nothing g.W.Term.Kept.term g.W.Term.Kept.key_of (text_of (g.W.A.Atoms.held b)) (g.W.World.told c.args.world.now)
    (g.W.A.Atoms.asked c.args.atoms.now) (g.W.A.Atoms.asked b) (g.W.A.Atoms.asked c.visit.new.atoms) refl c.in-Worn.ensures.asked

pub returns-in-Memory-clause-asked : goal.returns-in-Memory-clause-asked
returns-in-Memory-clause-asked g c =
    let b = c.args.atoms.now
    in read_asks_nothing g.W.Term.Kept.term g.W.Term.Kept.key_of (text_of (g.W.A.Atoms.held b)) (g.W.World.told c.args.world.now)
    (g.W.A.Atoms.asked c.args.atoms.now) (g.W.A.Atoms.asked b) (g.W.A.Atoms.asked c.visit.new.atoms) refl c.in-Memory.ensures.asked
