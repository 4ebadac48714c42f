use Rattle.std.proofs.Common.{map, refl, ap, ◌∙◌, arith}
use Rattle.pl_model.specs.laws.Shown.{proc_of}
use Rattle.clause_db.specs.declared.access.Access.TheVariants.{Dynamic}
use Rattle.clause_db.specs.Parts.{piece, opened}
use Rattle.clause_db.specs.Sound.{names}
use Rattle.clause_db.proofs.Changing.{names_changed}
use Rattle.clause_db.proofs.MadeDynamic.{opens_step}
use Rattle.clause_db.proofs.dynamic.open_all.Goals as goal

pub loop-i-preserved : goal.loop-i-preserved
loop-i-preserved g c = (
  opens_step c.args.place c.args.ps.now c.loop-i.i c.index-ps-i.result (map piece c.loop-i.parts.items) _ _ (omega (arith, c.loop-i-test.true)) c.index-ps-i.is c.open_in.ensures c.loop-i.invariant.0,
  ap names c.open_in.ensures
      ∙ names_changed (opened c.args.place Dynamic) (λ x. refl) (proc_of c.index-ps-i.result) (map piece c.loop-i.parts.items)
      ∙ c.loop-i.invariant.1,
)
