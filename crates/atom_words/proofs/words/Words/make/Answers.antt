use Rattle.std.proofs.Common.{arith}
use Rattle.atom_words.proofs.Openings.{make_at}
use Rattle.atom_words.proofs.words.Words.make.Goals as goal

pub load_new_seat-seat-requires : goal.load_new_seat-seat-requires
load_new_seat-seat-requires c = (omega (arith, c.args.self.now.counted), make_at c.args.self.now.table.shared.key c.args.self.now.table.shared.table_id.slots)
