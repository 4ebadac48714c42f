use Rattle.std.proofs.Common.{[], refl}
use Rattle.source_check.proofs.Lines.{large_stands, small_stands}
use Rattle.source_check.proofs.checker.Checker.new.Goals.{then-bytes-gt-MOST_BYTES+in_ok-put_too_large, else-bytes-gt-MOST_BYTES}
use Rattle.source_check.proofs.checker.Checker.new.Goals as goal

pub returns-clause-stands : goal.returns-clause-stands
returns-clause-stands c =
    elim c.if-bytes-gt-MOST_BYTES.branch [
      | then-bytes-gt-MOST_BYTES+in_ok-put_too_large w ↦
          rw w.checker-is
          (large_stands c.args.name.now _ c.args.bytes.now w.if-bytes-gt-MOST_BYTES.true refl c.in_ok-iso.ensures refl (w.in_ok-put_too_large.ensures [] c.new.ensures.items) refl refl refl)
      | else-bytes-gt-MOST_BYTES w ↦
          rw w.checker-is
          (small_stands c.args.name.now _ c.args.bytes.now w.if-bytes-gt-MOST_BYTES.false refl c.in_ok-iso.ensures refl c.new.ensures.items refl refl refl)
    ]
