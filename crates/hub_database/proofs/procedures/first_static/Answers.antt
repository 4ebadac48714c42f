use Rattle.std.proofs.Common.{length, refl, false, sym, ap, ap₂, ◌∙◌, arith}
use Rattle.std.specs.Prelude.{◌||◌}
use Rattle.std.specs.Option.{option_map_or}
use Rattle.std.proofs.lemmas.List.{take_all}
use Rattle.std.proofs.lemmas.List.Folds.{list_any_more}
use Rattle.std.proofs.lemmas.Option.{slice_get_read}
use Rattle.std.specs.List.{list_any}
use Rattle.pl_model.specs.Database.{is_static}
use Rattle.pl_model.specs.laws.Shown.{proc_of}
use Rattle.hub_database.proofs.procedures.first_static.Goals as goal

pub returns-then-is_static-clause-first : goal.returns-then-is_static-clause-first
returns-then-is_static-clause-first c = λ f d s. (
  c.loop-i.invariant f d s,
  ap (λ o. option_map_or (λ p. is_static (d c.args.g) (proc_of p)) o false) (slice_get_read c.args.ps.now (length c.args.ps.now) c.loop-i.i c.index-ps-i.result refl (omega (arith, c.loop-i-test.true)) c.index-ps-i.is)
      ∙ (sym (c.is_static.ensures f d s) ∙ c.if-is_static.true),
)

pub loop-i-preserved : goal.loop-i-preserved
loop-i-preserved c = λ f d s.
    list_any_more (λ p. is_static (d c.args.g) (proc_of p)) c.args.ps.now c.loop-i.i c.index-ps-i.result (omega (arith, c.loop-i-test.true))
    ∙ ap₂ (λ a b. a || b) (c.loop-i.invariant f d s) (ap (λ p. is_static (d c.args.g) (proc_of p)) (sym c.index-ps-i.is) ∙ (sym (c.is_static.ensures f d s) ∙ c.if-is_static.false))

pub returns-clause-first : goal.returns-clause-first
returns-clause-first c = λ f d s.
    ap (list_any (λ p. is_static (d c.args.g) (proc_of p))) (sym (take_all c.loop-i.i c.args.ps.now (omega (arith, c.loop-i-test.false)))) ∙ c.loop-i.invariant f d s
