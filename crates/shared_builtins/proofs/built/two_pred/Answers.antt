use Rattle.std.proofs.Common.{codes, refl, sym, ◌∙◌}
use Rattle.shared_builtins.proofs.BuiltNone.{no_two}
use Rattle.shared_builtins.proofs.FixedNames.{current_prolog_flag_is, set_prolog_flag_is, thread_create_is, thread_get_message_is, thread_join_is, thread_peek_message_is, thread_send_message_is}
use Rattle.shared_builtins.proofs.PairTerms.{named_fixed}
use Rattle.shared_builtins.proofs.built.two_pred.Goals as goal

pub returns-then-eq-clause-some : goal.returns-then-eq-clause-some
returns-then-eq-clause-some c =
    ((codes "set_prolog_flag", named_fixed c.args.name 155 (codes "set_prolog_flag") set_prolog_flag_is (sym c.eq.ensures ∙ c.if-eq.true), refl), refl)

pub returns-then-eq-2-clause-some : goal.returns-then-eq-2-clause-some
returns-then-eq-2-clause-some c =
    ((codes "current_prolog_flag", named_fixed c.args.name 71 (codes "current_prolog_flag") current_prolog_flag_is (sym c.eq-else-eq.ensures ∙ c.if-eq-2.true), refl), refl)

pub returns-then-eq-3-clause-some : goal.returns-then-eq-3-clause-some
returns-then-eq-3-clause-some c =
    ((codes "thread_create", named_fixed c.args.name 164 (codes "thread_create") thread_create_is (sym c.eq-else-eq-2.ensures ∙ c.if-eq-3.true), refl), refl)

pub returns-then-eq-4-clause-some : goal.returns-then-eq-4-clause-some
returns-then-eq-4-clause-some c =
    ((codes "thread_join", named_fixed c.args.name 167 (codes "thread_join") thread_join_is (sym c.eq-else-eq-3.ensures ∙ c.if-eq-4.true), refl), refl)

pub returns-then-eq-5-clause-some : goal.returns-then-eq-5-clause-some
returns-then-eq-5-clause-some c =
    ((codes "thread_send_message", named_fixed c.args.name 172 (codes "thread_send_message") thread_send_message_is (sym c.eq-else-eq-4.ensures ∙ c.if-eq-5.true), refl), refl)

pub returns-then-eq-6-clause-some : goal.returns-then-eq-6-clause-some
returns-then-eq-6-clause-some c =
    ((codes "thread_get_message", named_fixed c.args.name 166 (codes "thread_get_message") thread_get_message_is (sym c.eq-else-eq-5.ensures ∙ c.if-eq-6.true), refl), refl)

pub returns-then-eq-7-clause-some : goal.returns-then-eq-7-clause-some
returns-then-eq-7-clause-some c =
    ((codes "thread_peek_message", named_fixed c.args.name 170 (codes "thread_peek_message") thread_peek_message_is (sym c.eq-else-eq-6.ensures ∙ c.if-eq-7.true), refl), refl)

pub returns-else-eq-7-clause-none : goal.returns-else-eq-7-clause-none
returns-else-eq-7-clause-none c =
    no_two c.args.name (sym c.eq.ensures ∙ c.if-eq.false, (sym c.eq-else-eq.ensures ∙ c.if-eq-2.false, (sym c.eq-else-eq-2.ensures ∙ c.if-eq-3.false, (sym c.eq-else-eq-3.ensures ∙ c.if-eq-4.false, (sym c.eq-else-eq-4.ensures ∙ c.if-eq-5.false, (sym c.eq-else-eq-5.ensures ∙ c.if-eq-6.false, (sym c.eq-else-eq-6.ensures ∙ c.if-eq-7.false, tt)))))))
