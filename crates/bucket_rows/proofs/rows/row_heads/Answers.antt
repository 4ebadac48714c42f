use Rattle.bucket_rows.proofs.RowBuckets.{few_heads}
use Rattle.bucket_rows.proofs.rows.row_heads.Goals as goal

pub overflow_shl-result : goal.overflow_shl-result
overflow_shl-result c = few_heads c.args.row c.requires
