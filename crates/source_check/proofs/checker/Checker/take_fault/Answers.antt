use Rattle.std.proofs.Common.{refl}
use Rattle.source_check.proofs.Lines.{fault_stands}
use Rattle.source_check.proofs.checker.Checker.take_fault.Goals as goal

pub returns-clause-stands : goal.returns-clause-stands
returns-clause-stands c d s =
    fault_stands c.args.name.now c.args.self.now _ d c.args.kind c.args.at s refl refl refl (c.in_ok-put_syntax_fault.ensures _ s.lines) refl refl refl
