use Rattle.std.proofs.Common.{arith, sym, subst}
use Rattle.std.specs.Prelude.{◌≢◌}
use Rattle.term_store.specs.NumberedNames.{neck}
use Rattle.kept_answers.specs.declared.answers.Kept.{Kept}
use Rattle.kept_answers.specs.Answered.{IsAnswer}
use Rattle.kept_answers.proofs.Keeping.{kept_sound}
use Rattle.kept_answers.proofs.answers.Answers.keep.Goals as goal

pub returns-in-Ok : goal.returns-in-Ok
returns-in-Ok c =
    let plain : c.args.asked.now.procedure.name ≢ neck = grind (arith, c.eq.ensures, c.if-eq.false) in
    record {
      sound = λ goals h w given long all.
          c.put.ensures.sound goals h w all
          (subst (λ (k : Kept). IsAnswer goals h w k) (sym c.in-Ok.ensures) (kept_sound goals h w c.args.asked.now c.args.found.now c.args.generation plain given long));
    }
