use Rattle.std.proofs.Common.{◌≡◌, ◌+◌, zero, codes, length, map, refl, ap, subst, ◌∙◌, arith}
use Rattle.pl_term.specs.Tree.{compound}
use Rattle.term_store.specs.Heap.{atom_name}
use Rattle.term_store.specs.Contents.{term_at}
use Rattle.builtin_rows.specs.Rows.{Makes}
use Rattle.builtin_rows.proofs.Balls.{makes_one}
use Rattle.builtin_term.proofs.PartAnswers.{none_of, some_of}
use Rattle.builtin_term.proofs.ListAnswers.{makes_after}
use Rattle.builtin_term.proofs.Composed.{a, composed_given, composed_refused}
use Rattle.builtin_term.proofs.FixedNames.{univ_is}
use Rattle.builtin_term.proofs.composition.make_composed.Goals as goal

pub returns-in-Some-clause-row : goal.returns-in-Some-clause-row
returns-in-Some-clause-row c m stands list named held =
    let s = c.args.store.now in
    let t = c.take_room.new.store in
    let made = length c.args.arguments.now + 1 in
    let cost : made ≡ 1 + length c.args.arguments.now = omega arith in
    composed_refused m s t c.args.next c.args.name made c.args.list c.args.arguments.now cost c.in-Some.row
    (λ ts. some_of _ c.in_ok-refused.refused c.in-Some.row c.in-Some.is c.in_ok-refused.ensures.refused m (codes "=..") ts
    (a m s t c.args.next c.args.name made c.args.list c.args.arguments.now cost) stands univ_is refl (omega arith))

pub returns-in_ok-term-in-None-clause-row : goal.returns-in_ok-term-in-None-clause-row
returns-in_ok-term-in-None-clause-row c m stands list named held =
    let s = c.args.store.now in
    let t = c.take_room.new.store in
    let w = c.make_compound.new.self in
    let args = c.args.arguments.now in
    let f = atom_name c.args.name in
    let term = c.in_ok-term-in-None.term in
    let so = c.in_ok-term-in-None.ensures in
    let made = length args + 1 in
    let cost : made ≡ 1 + length args = omega arith in
    let same = none_of _ c.in_ok-refused.refused c.in-None.is c.in_ok-refused.ensures.taken in
    composed_given m s w c.args.next c.args.name made c.args.list args cost term
    (makes_after s w c.args.next made
    (subst (λ v. Makes v zero zero zero w) same (makes_one t w (compound f (map (term_at t) args)) term so.made so.numbers so.adds)))
    so.made.holds (so.made.means ∙ ap (λ v. compound f (map (term_at v) args)) same) c.requires.list list named held
    (none_of _ c.in_ok-refused.refused c.in-None.is c.in_ok-refused.ensures.numbers)
    (none_of _ c.in_ok-refused.refused c.in-None.is c.in_ok-refused.ensures.cells)
