use Rattle.std.proofs.Common.{arith}
use Rattle.pl_history.proofs.Moves.{enters}
use Rattle.pl_history.proofs.history.History.front.Goals as goal

pub load_new_seat-seat-requires : goal.load_new_seat-seat-requires
load_new_seat-seat-requires c = (let words = c.self.invariant in omega (arith, words), enters c.self.inside.words.shared.key c.self.inside.words.shared.table_id.slots)
