use Rattle.std.proofs.Common.{codes, sym, ◌∙◌}
use Rattle.shared_builtins.proofs.Checking.{is_fixed_name}
use Rattle.shared_builtins.proofs.FixedNames.{predicate_indicator_is, slash_is, type_error_is}
use Rattle.shared_builtins.proofs.Sharing.{all_listed, not_listed, pair_listed}
use Rattle.shared_builtins.proofs.one.lists_procedures.Goals as goal

pub returns-then-passes : goal.returns-then-passes
returns-then-passes c m n held = all_listed m c.args.store.now c.args.term (sym c.passes.ensures ∙ c.if-passes.true)

pub returns-in-Some : goal.returns-in-Some
returns-in-Some c m n held =
    let r = c.in-Some.ensures.read m (codes "/") n held slash_is in pair_listed m c.args.store.now c.args.term _ _ r.0

pub returns-in-None : goal.returns-in-None
returns-in-None c m n held = (
  not_listed m c.args.store.now c.args.term (sym c.passes.ensures ∙ c.if-passes.false) (c.in-None.ensures.read m (codes "/") n held slash_is),
  ((is_fixed_name 177 (codes "type_error") type_error_is, (is_fixed_name 143 (codes "predicate_indicator") predicate_indicator_is, c.requires)), held),
)
