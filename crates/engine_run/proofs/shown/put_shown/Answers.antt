use Rattle.std.proofs.Common.{map}
use Rattle.world_builtins.specs.Spelling.{reads}
use Rattle.engine_run.proofs.shown.put_shown.Goals as goal

pub returns-clause-puts : goal.returns-clause-puts
returns-clause-puts g c t spelled =
    let ts = map (reads (g.A.Atoms.held c.args.atoms.now) c.args.store.now) c.args.places.now in
    let ops = c.args.operators.now in
    c.in_ok-end_solution.ensures t ops ts c.args.names.now (c.in_ok-some.ensures.bound t (c.in_ok-begin_solution.ensures t ops ts spelled))
