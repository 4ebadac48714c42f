use Rattle.std.proofs.Common.{◌∙◌, ap, length, Some, arith, rules}
use Rattle.std.proofs.lemmas.List.{take_rest}
use Rattle.pl_io.proofs.Fronts.{next_front}
use Rattle.pl_io.proofs.whole.write_all.Goals as goal

pub loop-at-preserved : goal.loop-at-preserved
loop-at-preserved g c = record {
  in_text = omega (arith, c.in_ok-at.ensures.within, ap length (take_rest c.args.text.now c.loop-at.at));
  faults = search rules;
  told = λ before h.
      c.in_ok-at.ensures.adds _ (c.loop-at.invariant.told before h)
      ∙ ap Some (next_front before c.args.text.now c.loop-at.at c.in_ok-at.field-0);
}
