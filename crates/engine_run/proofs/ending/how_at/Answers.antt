use Rattle.std.proofs.Common.{ap, sym, ◌∙◌}
use Rattle.world_builtins.specs.Spelling.{spelled, text_of}
use Rattle.iso_engine.specs.declared.doing.End.TheVariants.{Exited, Threw}
use Rattle.engine_run.proofs.Endings.{ball_held, exits_so, halts_so, left_held, throws_so}
use Rattle.engine_run.proofs.ending.how_at.Goals as goal

pub named_at-requires-clause-held : goal.named_at-requires-clause-held
named_at-requires-clause-held g c =
    let a = c.args.atoms.now
    in ball_held (g.A.Atoms.held a) (g.met.A.Atoms.fixed_held a) (g.met.A.Atoms.unlike a) (g.met.A.Atoms.finite a) c.requires.ready.0 c.args.engine.now c.in-Ended.end
    c.lend.result.0.now c.lend.result.1 c.in-Ended.is (c.in-Threw.is ∙ ap Threw (sym c.lend.ensures.term)) c.requires.ready.1

pub returns-in_ok-term-in-Threw-clause-how : goal.returns-in_ok-term-in-Threw-clause-how
returns-in_ok-term-in-Threw-clause-how g c =
    let m = g.A.Atoms.held c.args.atoms.now
    in throws_so m c.args.engine.now c.in-Ended.end c.in-Threw.ball c.in_ok-term-in-Threw.term c.in-Ended.is c.in-Threw.is
    (c.in_ok-term-in-Threw.ensures.term ∙ ap (spelled (text_of m)) c.lend.ensures.term)

pub returns-in-Halted-clause-how : goal.returns-in-Halted-clause-how
returns-in-Halted-clause-how g c =
    halts_so (g.A.Atoms.held c.args.atoms.now) c.args.engine.now c.in-Ended.end c.in-Halted.status c.in-Ended.is c.in-Halted.is

pub named_at-requires-in-Exited-clause-held : goal.named_at-requires-in-Exited-clause-held
named_at-requires-in-Exited-clause-held g c =
    let a = c.args.atoms.now
    in left_held (g.A.Atoms.held a) (g.met.A.Atoms.fixed_held a) (g.met.A.Atoms.unlike a) (g.met.A.Atoms.finite a) c.requires.ready.0 c.args.engine.now c.in-Ended.end
    c.lend-in-Exited.result.0.now c.lend-in-Exited.result.1 c.in-Ended.is (c.in-Exited.is ∙ ap Exited (sym c.lend-in-Exited.ensures.term)) c.requires.ready.1

pub returns-in_ok-term-in-Exited-clause-how : goal.returns-in_ok-term-in-Exited-clause-how
returns-in_ok-term-in-Exited-clause-how g c =
    let m = g.A.Atoms.held c.args.atoms.now
    in exits_so m c.args.engine.now c.in-Ended.end c.in-Exited.status c.in_ok-term-in-Exited.term c.in-Ended.is c.in-Exited.is
    (c.in_ok-term-in-Exited.ensures.term ∙ ap (spelled (text_of m)) c.lend-in-Exited.ensures.term)
