use Rattle.std.proofs.Common.{refl, subst, arith}
use Rattle.atom_parts.specs.Skipping.{Narrows}
use Rattle.atom_parts.specs.declared.skipping.Sought.{Sought}
use Rattle.atom_parts.proofs.SkipLaws.{rest_passed, some_passed}
use Rattle.atom_parts.proofs.skipping.candidate.Goals as goal

pub returns-in-Nothing : goal.returns-in-Nothing
returns-in-Nothing c =
    let text = c.args.text.now in
    let w = c.args.parts in
    let narrow = subst (λ (r : Sought). Narrows text w c.args.from.before r) c.in-Nothing.is c.length_sought.ensures in
    rest_passed text w c.requires.within c.args.from c.requires.from c.requires.inside (λ q same up le. narrow q same le)

pub returns-then-n-from : goal.returns-then-n-from
returns-then-n-from c =
    let text = c.args.text.now in
    let w = c.args.parts in
    let narrow = subst (λ (r : Sought). Narrows text w c.args.from.before r) c.in-Only.is c.length_sought.ensures in
    rest_passed text w c.requires.within c.args.from c.requires.from c.requires.inside
    (λ q same up le. narrow q same le (λ e. omega (arith, e, up, c.if-n-from.true)))

pub returns-then-parts-from : goal.returns-then-parts-from
returns-then-parts-from c =
    let text = c.args.text.now in
    let w = c.args.parts in
    let narrow = subst (λ (r : Sought). Narrows text w c.args.from.before r) c.in-Only.is c.length_sought.ensures in
    rest_passed text w c.requires.within c.args.from c.requires.from c.requires.inside
    (λ q same up le. narrow q same le (λ e. omega (arith, e, same, le, c.if-parts-from.true)))

pub returns-else-parts-from : goal.returns-else-parts-from
returns-else-parts-from c =
    let text = c.args.text.now in
    let w = c.args.parts in
    let p = c.args.from in
    let n = c.in-Only.n in
    let narrow = subst (λ (r : Sought). Narrows text w p.before r) c.in-Only.is c.length_sought.ensures in (
      record { first = c.requires.from.first; within = λ le. omega (arith, le, c.if-parts-from.false); past = c.requires.from.past },
      (
        refl,
        (
          omega (arith, c.if-n-from.false),
          some_passed text w c.requires.within p n c.requires.from c.requires.inside c.if-n-from.false (omega (arith, c.if-parts-from.false, c.requires.inside)) narrow,
        ),
      ),
    )
