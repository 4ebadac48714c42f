use Rattle.term_store.proofs.Storing.{adds_if, adds_none, charged_above, charged_mark, kept_if, loaded_if, refused_full, refused_if}
use Rattle.term_store.proofs.store.Store.load.Goals as goal

pub build_or_undo-requires-clause-above : goal.build_or_undo-requires-clause-above
build_or_undo-requires-clause-above c =
    charged_above c.args.self.now c.charge.new.self c.args.from c.cells.result c.in-Ok.ensures.ok c.requires.above

pub build_or_undo-requires-clause-mark : goal.build_or_undo-requires-clause-mark
build_or_undo-requires-clause-mark c =
    charged_mark c.args.self.now c.charge.new.self c.cells.result c.mark-mark.result c.in-Ok.ensures.ok c.mark-mark.ensures.mark

pub returns-in-Ok-clause-loaded : goal.returns-in-Ok-clause-loaded
returns-in-Ok-clause-loaded c =
    loaded_if c.args.self.now c.charge.new.self c.build_or_undo.new.self c.args.from c.cells.result c.args.term.now c.in-Ok.ensures.ok c.cells.ensures
    c.in-Ok.ensures.fits c.build_or_undo.result c.build_or_undo.ensures.built

pub returns-in-Ok-clause-adds : goal.returns-in-Ok-clause-adds
returns-in-Ok-clause-adds c =
    adds_if c.args.self.now c.charge.new.self c.build_or_undo.new.self c.args.from c.cells.result c.args.term.now c.in-Ok.ensures.ok c.cells.ensures
    c.in-Ok.ensures.fits c.build_or_undo.result c.mark-mark.result c.build_or_undo.ensures.adds c.build_or_undo.ensures.undone c.mark-mark.ensures.here

pub returns-in-Ok-clause-kept : goal.returns-in-Ok-clause-kept
returns-in-Ok-clause-kept c =
    kept_if c.args.self.now c.charge.new.self c.build_or_undo.new.self c.args.from c.cells.result c.args.term.now c.in-Ok.ensures.ok c.cells.ensures
    c.in-Ok.ensures.fits c.build_or_undo.result c.mark-mark.result c.build_or_undo.ensures.undone c.mark-mark.ensures.here

pub returns-in-Ok-clause-refused : goal.returns-in-Ok-clause-refused
returns-in-Ok-clause-refused c =
    refused_if c.args.self.now c.cells.result _ c.build_or_undo.result c.cells.ensures c.in-Ok.ensures.fits c.build_or_undo.ensures.memory

pub returns-in-Err-clause-adds : goal.returns-in-Err-clause-adds
returns-in-Err-clause-adds c = adds_none c.args.self.now c.charge.new.self c.in-Err.ensures.kept

pub returns-in-Err-clause-refused : goal.returns-in-Err-clause-refused
returns-in-Err-clause-refused c =
    refused_full c.args.self.now c.cells.result _ c.in-Err.fault c.cells.ensures c.in-Err.ensures.full c.in-Err.ensures.over
