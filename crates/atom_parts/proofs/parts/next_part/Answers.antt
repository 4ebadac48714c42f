use Rattle.std.proofs.Common.{◌≡◌, ◌<◌, suc, ap, subst, ◌∙◌, arith}
use Rattle.atom_parts.specs.declared.parts.Looked.{Looked}
use Rattle.atom_parts.specs.Looking.{IsLooked}
use Rattle.atom_parts.specs.Parts.{line_at, lines_before}
use Rattle.atom_parts.proofs.PartLaws.{no_part, spot_below}
use Rattle.atom_parts.proofs.parts.next_part.Goals as goal

pub returns-in-Here : goal.returns-in-Here
returns-in-Here c =
    let found = subst (λ (l : Looked). IsLooked c.args.text.now c.args.parts c.loop-spot.spot l) c.in-Here.is c.look.ensures in
    record { next = c.loop-spot.invariant.passed ∙ found.next; part = found.part }

pub loop-spot-smaller : goal.loop-spot-smaller
loop-spot-smaller c =
    let below = spot_below c.args.parts.length c.loop-spot.spot c.loop-spot.invariant.is c.loop-spot-test.true in
    let next = subst (λ (l : Looked). IsLooked c.args.text.now c.args.parts c.loop-spot.spot l) c.in-From.is c.look.ensures in
    omega (arith, below, next.1.0)

pub loop-spot-preserved : goal.loop-spot-preserved
loop-spot-preserved c =
    let next = subst (λ (l : Looked). IsLooked c.args.text.now c.args.parts c.loop-spot.spot l) c.in-From.is c.look.ensures in
    record { is = next.0; passed = c.loop-spot.invariant.passed ∙ next.1.1 }

pub returns : goal.returns
returns c =
    let w = c.args.parts in
    let p = c.loop-spot.spot in
    let is = c.loop-spot.invariant.is in
    let after : w.length < p.before = c.loop-spot-test.false in
    let end : p.before ≡ suc w.length = omega (arith, is.past, after) in
    record {
      next =
          c.loop-spot.invariant.passed
          ∙ no_part c.args.text.now w c.requires.within (line_at p) (omega (arith, is.first, ap (lines_before w.length 0) end));
      part = tt;
    }
