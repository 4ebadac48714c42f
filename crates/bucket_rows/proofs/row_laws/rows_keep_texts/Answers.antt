use Rattle.bucket_rows.proofs.RowLaws.{stays, in_use, leaves}
use Rattle.bucket_rows.proofs.row_laws.rows_keep_texts.Goals as goal

pub returns : goal.returns
returns c = record { stays = stays c.args.size; in_use = in_use c.args.size; leaves = leaves c.args.size }
