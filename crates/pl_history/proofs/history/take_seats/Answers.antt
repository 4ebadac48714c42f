use Rattle.std.proofs.Common.{rules}
use Rattle.pl_history.proofs.Moves.{enters}
use Rattle.pl_history.proofs.history.take_seats.Goals as goal

pub load_new_seat-seat-requires : goal.load_new_seat-seat-requires
load_new_seat-seat-requires c = (search rules, enters c.args.words.now.shared.key c.args.words.now.shared.table_id.slots)
