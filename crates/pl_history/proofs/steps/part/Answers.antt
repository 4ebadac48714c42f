use Rattle.std.proofs.Common.{rules}
use Rattle.pl_history.proofs.Moves.{splits_at}
use Rattle.pl_history.proofs.steps.part.Goals as goal

pub split_seat-other-requires : goal.split_seat-other-requires
split_seat-other-requires c = (search rules, search rules, splits_at c.args.words.now.shared.key 0 c.args.seat.id c.args.seat.me.0)
