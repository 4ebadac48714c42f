-- The operators of a reply.
use Rattle.std.specs.Prelude.{◌≡◌}
use Rattle.std.specs.Arc.{arc_value}
use Rattle.pl_model.specs.OperatorTable.{OperatorTable}
use Rattle.world_api.specs.declared.reply.Reply.{Reply}
use Rattle.world_api.specs.declared.reply.Reply.TheVariants.{Standing}

-- The reply has these operators.
abbrev pub Stands : {T : Type 0} → Reply T → OperatorTable → Type 0
Stands (Standing ops quotes) t = t ≡ arc_value ops
Stands _ t = ⊥
