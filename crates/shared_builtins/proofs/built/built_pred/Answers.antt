use Rattle.std.proofs.Common.{arith}
use Rattle.shared_builtins.proofs.BuiltNone.{no_more}
use Rattle.shared_builtins.proofs.built.built_pred.Goals as goal

pub returns-in_default-clause-none : goal.returns-in_default-clause-none
returns-in_default-clause-none c some = no_more c.args.name c.args.arity (omega (arith, some, c.in_default))
