use Rattle.std.proofs.Common.{codes, inl, inr, refl, sym, ◌∙◌}
use Rattle.shared_builtins.proofs.BuiltNone.{no_one}
use Rattle.shared_builtins.proofs.FixedNames.{abolish_is, assert_is, asserta_is, assertz_is, current_predicate_is, discontiguous_is, dynamic_is, multifile_is}
use Rattle.shared_builtins.proofs.PairTerms.{named_fixed}
use Rattle.shared_builtins.proofs.built.one_pred.Goals as goal

pub returns-then-eq-clause-some : goal.returns-then-eq-clause-some
returns-then-eq-clause-some c =
    ((codes "asserta", named_fixed c.args.name 43 (codes "asserta") asserta_is (sym c.eq.ensures ∙ c.if-eq.true), refl), refl)

pub returns-then-eq-2-clause-some : goal.returns-then-eq-2-clause-some
returns-then-eq-2-clause-some c =
    ((codes "assertz", named_fixed c.args.name 44 (codes "assertz") assertz_is (sym c.eq-else-eq.ensures ∙ c.if-eq-2.true), inl refl), refl)

pub returns-then-eq-3-clause-some : goal.returns-then-eq-3-clause-some
returns-then-eq-3-clause-some c =
    ((codes "assert", named_fixed c.args.name 42 (codes "assert") assert_is (sym c.eq-else-eq-2.ensures ∙ c.if-eq-3.true), inr refl), refl)

pub returns-then-eq-4-clause-some : goal.returns-then-eq-4-clause-some
returns-then-eq-4-clause-some c =
    ((codes "abolish", named_fixed c.args.name 37 (codes "abolish") abolish_is (sym c.eq-else-eq-3.ensures ∙ c.if-eq-4.true), refl), refl)

pub returns-then-eq-5-clause-some : goal.returns-then-eq-5-clause-some
returns-then-eq-5-clause-some c =
    ((codes "dynamic", named_fixed c.args.name 79 (codes "dynamic") dynamic_is (sym c.eq-else-eq-4.ensures ∙ c.if-eq-5.true), refl), refl)

pub returns-then-eq-6-clause-some : goal.returns-then-eq-6-clause-some
returns-then-eq-6-clause-some c =
    ((codes "discontiguous", named_fixed c.args.name 75 (codes "discontiguous") discontiguous_is (sym c.eq-else-eq-5.ensures ∙ c.if-eq-6.true), inl refl), refl)

pub returns-then-eq-7-clause-some : goal.returns-then-eq-7-clause-some
returns-then-eq-7-clause-some c =
    ((codes "multifile", named_fixed c.args.name 127 (codes "multifile") multifile_is (sym c.eq-else-eq-6.ensures ∙ c.if-eq-7.true), inr refl), refl)

pub returns-then-eq-8-clause-some : goal.returns-then-eq-8-clause-some
returns-then-eq-8-clause-some c =
    ((codes "current_predicate", named_fixed c.args.name 70 (codes "current_predicate") current_predicate_is (sym c.eq-else-eq-7.ensures ∙ c.if-eq-8.true), refl), refl)

pub returns-else-eq-8-clause-none : goal.returns-else-eq-8-clause-none
returns-else-eq-8-clause-none c =
    no_one c.args.name (sym c.eq.ensures ∙ c.if-eq.false, (sym c.eq-else-eq.ensures ∙ c.if-eq-2.false, (sym c.eq-else-eq-2.ensures ∙ c.if-eq-3.false, (sym c.eq-else-eq-3.ensures ∙ c.if-eq-4.false, (sym c.eq-else-eq-4.ensures ∙ c.if-eq-5.false, (sym c.eq-else-eq-5.ensures ∙ c.if-eq-6.false, (sym c.eq-else-eq-6.ensures ∙ c.if-eq-7.false, (sym c.eq-else-eq-7.ensures ∙ c.if-eq-8.false, tt)))))))) c.thread_pred.result c.thread_pred.ensures.none
