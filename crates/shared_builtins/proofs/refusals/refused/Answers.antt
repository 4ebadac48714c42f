use Rattle.pl_model.specs.Terms.{arguments}
use Rattle.world_builtins.specs.Spelling.{reads}
use Rattle.std.proofs.Common.{sym, ◌∙◌}
use Rattle.shared_builtins.proofs.ReplyRows.{creation_with, plain_error, plain_without}
use Rattle.shared_builtins.proofs.refusals.refused.Goals as goal

pub creation_refused-requires-clause-creates : goal.creation_refused-requires-clause-creates
creation_refused-requires-clause-creates c = creation_with c.args.goal.now.pred (sym c.has_options.ensures ∙ c.if-has_options.true)

pub returns-else-has_options : goal.returns-else-has_options
returns-else-has_options c m e next n held names is h =
    let x = c.args.goal.now in
    c.refused_by.ensures m e next n held names is
    (plain_error x.pred (arguments (reads m c.args.store.now x.place)) e (plain_without x.pred (sym c.has_options.ensures ∙ c.if-has_options.false)) h)
