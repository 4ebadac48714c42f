use Rattle.std.proofs.Common.{codes, refl, sym, ◌∙◌}
use Rattle.shared_builtins.proofs.BuiltNone.{no_three}
use Rattle.shared_builtins.proofs.FixedNames.{current_op_is, op_is, thread_create_is}
use Rattle.shared_builtins.proofs.PairTerms.{named_fixed}
use Rattle.shared_builtins.proofs.built.three_pred.Goals as goal

pub returns-then-eq-clause-some : goal.returns-then-eq-clause-some
returns-then-eq-clause-some c =
    ((codes "op", named_fixed c.args.name 136 (codes "op") op_is (sym c.eq.ensures ∙ c.if-eq.true), refl), refl)

pub returns-then-eq-2-clause-some : goal.returns-then-eq-2-clause-some
returns-then-eq-2-clause-some c =
    ((codes "current_op", named_fixed c.args.name 69 (codes "current_op") current_op_is (sym c.eq-else-eq.ensures ∙ c.if-eq-2.true), refl), refl)

pub returns-then-eq-3-clause-some : goal.returns-then-eq-3-clause-some
returns-then-eq-3-clause-some c =
    ((codes "thread_create", named_fixed c.args.name 164 (codes "thread_create") thread_create_is (sym c.eq-else-eq-2.ensures ∙ c.if-eq-3.true), refl), refl)

pub returns-else-eq-3-clause-none : goal.returns-else-eq-3-clause-none
returns-else-eq-3-clause-none c =
    no_three c.args.name (sym c.eq.ensures ∙ c.if-eq.false, (sym c.eq-else-eq.ensures ∙ c.if-eq-2.false, (sym c.eq-else-eq-2.ensures ∙ c.if-eq-3.false, tt)))
