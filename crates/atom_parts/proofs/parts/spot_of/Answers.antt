use Rattle.std.proofs.Common.{◌≡◌, ◌≤◌, ◌+◌, ◌-◌, suc, sym, ap, ◌∙◌, arith}
use Rattle.atom_parts.specs.Parts.{lines_before}
use Rattle.atom_parts.proofs.PartLaws.{lines_more}
use Rattle.atom_parts.proofs.parts.spot_of.Goals as goal

pub loop-before-preserved : goal.loop-before-preserved
loop-before-preserved c =
    let len = c.args.length in
    let b = c.loop-before.before in
    let i = c.loop-before.invariant in
    let up : suc b ≡ b + 1 = omega arith in
    let more : lines_before len 0 (b + 1) ≡ lines_before len 0 b + suc (len - (0 + b)) = ap (lines_before len 0) (sym up) ∙ lines_more len 0 b in
    record {
      first = omega (arith, more, i.first);
      below = omega (arith, i.below, c.if-line-first.false, c.loop-before-test.true);
      within = omega (arith, c.loop-before-test.true);
    }

pub returns : goal.returns
returns c =
    let len = c.args.length in
    let i = c.loop-before.invariant in
    let end : c.loop-before.before ≡ suc len = omega (arith, i.within, c.loop-before-test.false) in
    let all : lines_before len 0 (suc len) ≤ c.args.line = omega (arith, i.first, i.below, ap (lines_before len 0) end) in all
