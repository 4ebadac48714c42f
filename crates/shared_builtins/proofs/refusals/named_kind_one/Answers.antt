use Rattle.std.proofs.Common.{Some, sym, subst}
use Rattle.shared_builtins.specs.Following.{IsKindNamed, kind_one}
use Rattle.shared_builtins.proofs.FixedNames.{message_queue_is}
use Rattle.shared_builtins.proofs.refusals.named_kind_one.Goals as goal

pub returns-in-DestroyQueue : goal.returns-in-DestroyQueue
returns-in-DestroyQueue c = subst (λ p. IsKindNamed (kind_one p) (Some 119)) (sym c.in-DestroyQueue.is) message_queue_is
