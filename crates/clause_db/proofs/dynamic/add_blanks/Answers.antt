use Rattle.std.proofs.Common.{map, take, length, ap, sym, subst, ◌∙◌, arith}
use Rattle.std.proofs.lemmas.List.{length-map}
use Rattle.clause_db.specs.Parts.{piece}
use Rattle.clause_db.specs.Sound.{Apart, names}
use Rattle.clause_db.proofs.MadeDynamic.{apart_blank, blanks_step, take_blank}
use Rattle.clause_db.proofs.dynamic.add_blanks.Goals as goal

pub loop-i-preserved : goal.loop-i-preserved
loop-i-preserved g c = (
  blanks_step c.args.ps.now c.loop-i.i c.index-ps-i.result (map piece c.loop-i.parts.items) _ _ (omega (arith, c.loop-i-test.true)) c.index-ps-i.is c.in_default.ensures.ok c.loop-i.invariant.0,
  ap (take (length c.as_slice-stood.result.now)) c.in_default.ensures.ok
      ∙ take_blank (length c.as_slice-stood.result.now) c.index-ps-i.result (map piece c.loop-i.parts.items) (map piece c.args.parts.now.items) (ap length c.as_slice-stood.ensures.value ∙ sym (length-map c.args.parts.now.items piece)) c.loop-i.invariant.1,
  subst (λ l. Apart (names l)) (sym c.in_default.ensures.ok) (apart_blank c.index-ps-i.result (map piece c.loop-i.parts.items) c.loop-i.invariant.2),
  c.add_blank.ensures.indexed,
)

pub returns-in-Err-clause-err : goal.returns-in-Err-clause-err
returns-in-Err-clause-err g c =
    c.take_back.ensures.left ∙ ap (λ l. take (length c.as_slice-stood.result.now) (map piece l)) c.in-Err.ensures.err ∙ c.loop-i.invariant.1
