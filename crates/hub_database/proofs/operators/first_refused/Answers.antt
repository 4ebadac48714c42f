use Rattle.std.proofs.Common.{length, refl, sym, ap, ap₂, ◌∙◌, arith}
use Rattle.std.specs.Prelude.{◌||◌, is_some}
use Rattle.std.specs.Option.{option_and_then}
use Rattle.std.proofs.lemmas.List.{take_all}
use Rattle.std.proofs.lemmas.List.Folds.{list_any_more}
use Rattle.std.proofs.lemmas.Option.{slice_get_read}
use Rattle.std.specs.List.{list_any}
use Rattle.hub_database.specs.Operators.{fault_in}
use Rattle.hub_database.proofs.operators.first_refused.Goals as goal

pub returns-in-Some-clause-first : goal.returns-in-Some-clause-first
returns-in-Some-clause-first c = (
  c.loop-i.invariant,
  ap (option_and_then (fault_in c.args.table.now)) (slice_get_read c.args.rows.now (length c.args.rows.now) c.loop-i.i c.index-rows-i.result refl (omega (arith, c.loop-i-test.true)) c.index-rows-i.is)
      ∙ (sym c.operator_fault.ensures ∙ c.in-Some.is),
)

pub loop-i-preserved : goal.loop-i-preserved
loop-i-preserved c =
    list_any_more (λ o. is_some (fault_in c.args.table.now o)) c.args.rows.now c.loop-i.i c.index-rows-i.result (omega (arith, c.loop-i-test.true))
    ∙ ap₂ (λ a b. a || b) c.loop-i.invariant (ap (λ o. is_some (fault_in c.args.table.now o)) (sym c.index-rows-i.is) ∙ ap (λ o. is_some o) (sym c.operator_fault.ensures ∙ c.in-None.is))

pub returns-clause-first : goal.returns-clause-first
returns-clause-first c =
    ap (list_any (λ o. is_some (fault_in c.args.table.now o))) (sym (take_all c.loop-i.i c.args.rows.now (omega (arith, c.loop-i-test.false)))) ∙ c.loop-i.invariant
