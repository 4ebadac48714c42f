use Rattle.term_writer.proofs.KeptNames.{opening_keeps, change_keeps}
use Rattle.term_writer.proofs.reading_back.tables_keep_names.Goals as goal

pub returns : goal.returns
returns c = record { opening = opening_keeps; changed = change_keeps }
