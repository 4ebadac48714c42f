use Rattle.std.proofs.Common.{◌∙◌}
use Rattle.std.proofs.lemmas.List.{take_more_set}
use Rattle.iso_search.proofs.frames.put_frame.Goals as goal

pub returns : goal.returns
returns c = c.truncate.ensures.items ∙ take_more_set c.args.frames.now.items c.args.keep c.args.frame c.requires
