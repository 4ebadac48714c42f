use Rattle.std.proofs.Common.{map, subst}
use Rattle.pl_report.specs.Bindings.{GoesOn}
use Rattle.world_builtins.specs.Spelling.{reads}
use Rattle.engine_run.proofs.shown.put_next.Goals as goal

pub returns-then-not-shown-clause-bound : goal.returns-then-not-shown-clause-bound
returns-then-not-shown-clause-bound g c t ns h =
    let ts = map (reads (g.A.Atoms.held c.args.atoms.now) c.args.store.now) c.args.places.now in
    let ops = c.args.operators.now in
    let n = c.args.named.now in
    subst (λ b. GoesOn b t ops ts ns c.args.some n c.put_name.new.out.items) c.if-not-shown.true (c.in_ok-shown.ensures t ops ts ns n.1 h)

pub returns-clause-bound : goal.returns-clause-bound
returns-clause-bound g c t ns h =
    let ts = map (reads (g.A.Atoms.held c.args.atoms.now) c.args.store.now) c.args.places.now in
    let ops = c.args.operators.now in
    let n = c.args.named.now in
    subst (λ b. GoesOn b t ops ts ns c.args.some n c.put_name.new.out.items) c.if-not-shown.false (c.in_ok-shown.ensures t ops ts ns n.1 h) c.put_value.new.out.items
    c.in_ok-put_value.ensures.puts
