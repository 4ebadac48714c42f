use Rattle.std.proofs.Common.{codes, refl, sym, ◌∙◌}
use Rattle.shared_builtins.proofs.FixedNames.{message_queue_create_is, message_queue_destroy_is, thread_get_message_is, thread_peek_message_is, thread_self_is}
use Rattle.shared_builtins.proofs.PairTerms.{named_fixed}
use Rattle.shared_builtins.proofs.built.thread_pred.Goals as goal

pub returns-then-eq-clause-some : goal.returns-then-eq-clause-some
returns-then-eq-clause-some c =
    ((codes "thread_self", named_fixed c.args.name 171 (codes "thread_self") thread_self_is (sym c.eq.ensures ∙ c.if-eq.true), refl), refl)

pub returns-then-eq-2-clause-some : goal.returns-then-eq-2-clause-some
returns-then-eq-2-clause-some c =
    ((codes "thread_get_message", named_fixed c.args.name 166 (codes "thread_get_message") thread_get_message_is (sym c.eq-else-eq.ensures ∙ c.if-eq-2.true), refl), refl)

pub returns-then-eq-3-clause-some : goal.returns-then-eq-3-clause-some
returns-then-eq-3-clause-some c =
    ((codes "thread_peek_message", named_fixed c.args.name 170 (codes "thread_peek_message") thread_peek_message_is (sym c.eq-else-eq-2.ensures ∙ c.if-eq-3.true), refl), refl)

pub returns-then-eq-4-clause-some : goal.returns-then-eq-4-clause-some
returns-then-eq-4-clause-some c =
    ((codes "message_queue_create", named_fixed c.args.name 120 (codes "message_queue_create") message_queue_create_is (sym c.eq-else-eq-3.ensures ∙ c.if-eq-4.true), refl), refl)

pub returns-then-eq-5-clause-some : goal.returns-then-eq-5-clause-some
returns-then-eq-5-clause-some c =
    ((codes "message_queue_destroy", named_fixed c.args.name 121 (codes "message_queue_destroy") message_queue_destroy_is (sym c.eq-else-eq-4.ensures ∙ c.if-eq-5.true), refl), refl)
