use Rattle.std.proofs.Common.{◌≡◌, ◌+◌, ◌-◌, suc, sym, ap, ◌∙◌, arith}
use Rattle.atom_parts.specs.Parts.{lines_before}
use Rattle.atom_parts.proofs.PartLaws.{lines_few, lines_more}
use Rattle.atom_parts.proofs.parts.block_after.Goals as goal

pub overflow_add-result-2 : goal.overflow_add-result-2
overflow_add-result-2 c =
    let p = c.args.spot in
    omega (arith, lines_few c.args.length 0 p.before c.requires.small, c.requires.spot.first, c.requires.small, c.requires.within)

pub returns : goal.returns
returns c =
    let len = c.args.length in
    let p = c.args.spot in
    let up : suc p.before ≡ p.before + 1 = omega arith in
    let more : lines_before len 0 (p.before + 1) ≡ lines_before len 0 p.before + suc (len - (0 + p.before)) =
    ap (lines_before len 0) (sym up) ∙ lines_more len 0 p.before in (
      record { first = omega (arith, more, c.requires.spot.first); within = λ le. omega (arith, le); past = omega (arith, c.requires.within) },
      omega arith,
    )
