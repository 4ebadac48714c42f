use Rattle.std.proofs.Common.{◌≡◌, ◌++◌, ◌+◌, ◌-◌, ◌<◌}
use Rattle.load_source.specs.LoadSource.{facts}
use Rattle.load_source.proofs.source.put_facts.Given as goal

abbrev pub invariant-loop-i : goal.invariant-loop-i
invariant-loop-i l =
    record {
      bound : l.random < 2147483648;
      rest : l.text.items ++ facts (l.size - l.i) (l.i + 1) l.random ≡ l.initial.text.items ++ facts l.size 1 l.seed;
    }
