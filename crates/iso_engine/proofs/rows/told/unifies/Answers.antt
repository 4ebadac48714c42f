use Rattle.std.proofs.Common.{◌∙◌}
use Rattle.iso_engine.proofs.ToldLaws.{tells, undone}
use Rattle.iso_engine.proofs.rows.told.unifies.Goals as goal

pub undo_to-requires : goal.undo_to-requires
undo_to-requires c =
    (undone c.in_ok-same.same c.args.store.now c.args.goal c.args.line c.unify_line.new.store c.requires c.in_ok-same.ensures c.mark-mark.result
    c.mark-mark.ensures.mark c.mark-mark.ensures.here).0

pub returns-clause-same : goal.returns-clause-same
returns-clause-same c =
    c.undo_to.ensures.back
    ∙ (undone c.in_ok-same.same c.args.store.now c.args.goal c.args.line c.unify_line.new.store c.requires c.in_ok-same.ensures c.mark-mark.result
    c.mark-mark.ensures.mark c.mark-mark.ensures.here).1

pub returns-clause-tells : goal.returns-clause-tells
returns-clause-tells c v view =
    tells c.in_ok-same.same c.args.store.now c.args.goal c.args.line c.unify_line.new.store c.requires c.in_ok-same.ensures v view
