use Rattle.std.proofs.Common.{◌≡◌, ◌==◌, [], true, false, length, sym, ◌∙◌, arith}
use Rattle.pl_term.specs.Tree.{atom}
use Rattle.term_store.specs.Contents.{arguments_at}
use Rattle.builtin_rows.proofs.Listing.{argument_held, arguments_long, atom_part, compound_parts, cell_read, count_read, name_read, not_false, not_true}
use Rattle.builtin_rows.proofs.lists.list_part.Goals as goal

pub returns-then-ne-clause-part : goal.returns-then-ne-clause-part
returns-then-ne-clause-part c m whole n held =
    let s = c.args.store.now in
    let p = c.args.place in
    let a = c.in-Compound in
    name_read m n s p whole a.f (arguments_at s a.these) (compound_parts m s p a.f a.these a.ensures.0 a.ensures.1.0 a.ensures.1.1 held).0 a.ensures.0
    (omega (arith, arguments_long s a.these a.ensures.1.0, a.ensures.1.1)) (not_true (a.f == 8) c.if-ne.ensures)

pub returns-then-len-ne2-clause-part : goal.returns-then-len-ne2-clause-part
returns-then-len-ne2-clause-part c m whole n held =
    let s = c.args.store.now in
    let p = c.args.place in
    let a = c.in-Compound in
    let long = arguments_long s a.these a.ensures.1.0 in
    count_read m n s p whole a.f (arguments_at s a.these) (compound_parts m s p a.f a.these a.ensures.0 a.ensures.1.0 a.ensures.1.1 held).0 a.ensures.0
    (omega (arith, long, a.ensures.1.1)) (λ k. c.if-len-ne2.true (c.len.ensures ∙ sym long ∙ k))

pub returns-then-eq-clause-part : goal.returns-then-eq-clause-part
returns-then-eq-clause-part c m whole n held =
    atom_part m n c.args.store.now c.args.place whole c.in-Atom.a true c.in-Atom.ensures held (sym c.if-eq.ensures)

pub returns-else-eq-clause-part : goal.returns-else-eq-clause-part
returns-else-eq-clause-part c m whole n held =
    atom_part m n c.args.store.now c.args.place whole c.in-Atom.a false c.in-Atom.ensures held (sym c.if-eq.ensures)

pub returns-else-len-ne2-clause-part : goal.returns-else-len-ne2-clause-part
returns-else-len-ne2-clause-part c m whole n held =
    let s = c.args.store.now in
    let p = c.args.place in
    let a = c.in-Compound in
    let long = arguments_long s a.these a.ensures.1.0 in
    cell_read m n s p c.argument.result c.argument-in-Compound.result whole a.f (arguments_at s a.these) (atom [])
    (compound_parts m s p a.f a.these a.ensures.0 a.ensures.1.0 a.ensures.1.1 held).0 a.ensures.0 (long ∙ sym c.len.ensures ∙ c.if-len-ne2.false)
    (not_false (a.f == 8) c.if-ne.ensures) c.argument.ensures.stands c.argument-in-Compound.ensures.stands

pub returns-else-len-ne2-clause-held : goal.returns-else-len-ne2-clause-held
returns-else-len-ne2-clause-held c m held =
    let s = c.args.store.now in
    let p = c.args.place in
    let a = c.in-Compound in
    let ts = arguments_at s a.these in
    let long = arguments_long s a.these a.ensures.1.0 in
    let two : length ts ≡ 2 = long ∙ sym c.len.ensures ∙ c.if-len-ne2.false in
    let all = (compound_parts m s p a.f a.these a.ensures.0 a.ensures.1.0 a.ensures.1.1 held).1 in (
      argument_held m s ts 0 (atom []) c.argument.result all (omega (arith, two)) c.argument.ensures.stands,
      argument_held m s ts 1 (atom []) c.argument-in-Compound.result all (omega (arith, two)) c.argument-in-Compound.ensures.stands,
    )
