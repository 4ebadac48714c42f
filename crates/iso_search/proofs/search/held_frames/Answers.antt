use Rattle.std.proofs.Common.{◌-◌, length, arith}
use Rattle.iso_search.proofs.Forgetting.{newest_held, none_held}
use Rattle.iso_search.proofs.search.held_frames.Goals as goal

pub returns-then-n-eq0 : goal.returns-then-n-eq0
returns-then-n-eq0 c = none_held c.args.choices.now (omega arith)

pub returns-else-n-eq0 : goal.returns-else-n-eq0
returns-else-n-eq0 c = newest_held c.args.choices.now (length c.args.choices.now - 1) _ (omega (arith, c.if-n-eq0.false))
