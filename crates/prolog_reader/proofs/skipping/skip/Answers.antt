use Rattle.std.proofs.Common.{◌∙◌, sym, arith}
use Rattle.pl_model.proofs.SkippingPlaces.{skip-past}
use Rattle.prolog_reader.proofs.skipping.skip.Goals as goal

pub returns : goal.returns
returns c = sym (c.loop-place.invariant ∙ skip-past c.args.text.now c.loop-place.place (omega (arith, c.loop-place-test.false)))
