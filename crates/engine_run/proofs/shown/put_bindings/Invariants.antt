use Rattle.std.proofs.Common.{◌≡◌, [], false, map, take}
use Rattle.pl_term.specs.Tree.{Chars}
use Rattle.pl_report.specs.Bindings.{HasBindings}
use Rattle.world_builtins.specs.Spelling.{reads}
use Rattle.engine_run.proofs.shown.put_bindings.Given as goal

abbrev pub invariant-loop-named : goal.invariant-loop-named
invariant-loop-named g l =
    let ts = map (reads (g.A.Atoms.held l.fn.atoms) l.store) l.places in
    record {
      bound : (t : Chars) → HasBindings t l.operators ts [] false l.fn.out.items → HasBindings t l.operators ts (take l.named-index l.names) l.some l.out.items;
      same : g.A.Atoms.held l.atoms ≡ g.A.Atoms.held l.fn.atoms;
      refusals : g.A.Atoms.refusals l.atoms ≡ g.A.Atoms.refusals l.fn.atoms;
    }
