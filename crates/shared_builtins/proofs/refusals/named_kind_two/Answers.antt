use Rattle.std.proofs.Common.{Some, sym, subst}
use Rattle.shared_builtins.specs.Following.{IsKindNamed, kind_two}
use Rattle.shared_builtins.proofs.FixedNames.{message_queue_is, thread_is}
use Rattle.shared_builtins.proofs.refusals.named_kind_two.Goals as goal

pub returns-in-JoinThread : goal.returns-in-JoinThread
returns-in-JoinThread c = subst (λ p. IsKindNamed (kind_two p) (Some 163)) (sym c.in-JoinThread.is) thread_is

pub returns-in-Send : goal.returns-in-Send
returns-in-Send c = subst (λ p. IsKindNamed (kind_two p) (Some 119)) (sym c.in-Send.is) message_queue_is

pub returns-in-Get : goal.returns-in-Get
returns-in-Get c = subst (λ p. IsKindNamed (kind_two p) (Some 119)) (sym c.in-Get.is) message_queue_is

pub returns-in-Peek : goal.returns-in-Peek
returns-in-Peek c = subst (λ p. IsKindNamed (kind_two p) (Some 119)) (sym c.in-Peek.is) message_queue_is
