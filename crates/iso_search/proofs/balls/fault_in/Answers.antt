use Rattle.std.proofs.Common.{sym, ap, ◌∙◌}
use Rattle.iso_search.specs.Errors.{fault_tree}
use Rattle.iso_search.proofs.balls.fault_in.Goals as goal

pub returns-in-Instantiation : goal.returns-in-Instantiation
returns-in-Instantiation c =
    record {
      holds = (c.atom.ensures c.args.own.now).0;
      means = (c.atom.ensures c.args.own.now).1 ∙ sym (ap (fault_tree c.args.store.now) c.in-Instantiation.is);
    }
