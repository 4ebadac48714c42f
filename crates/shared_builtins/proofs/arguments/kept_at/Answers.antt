use Rattle.shared_builtins.proofs.OverAtoms.{marked_over}
use Rattle.shared_builtins.proofs.Reading.{kept_read}
use Rattle.shared_builtins.proofs.arguments.kept_at.Goals as goal

pub returns : goal.returns
returns c m n held =
    let s = c.args.store.now in
    let p = c.args.place in
    kept_read m n.stands s p c.in_ok-kept.kept (marked_over s c.mark-whole.result p c.mark-whole.ensures.mark c.mark-whole.ensures.here c.requires) c.in_ok-kept.ensures held
