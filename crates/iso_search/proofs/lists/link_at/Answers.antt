use Rattle.std.proofs.Common.{◌≡◌, ◌<◌, [], length, sym, ◌∙◌, arith}
use Rattle.pl_term.specs.Tree.{atom}
use Rattle.term_store.specs.Heap.{atom_name}
use Rattle.term_store.specs.Contents.{arguments_at, term_at}
use Rattle.iso_search.proofs.Constructing.{how_many}
use Rattle.iso_search.proofs.ListTerms.{atom_partial, cell_partial, count_partial, name_partial}
use Rattle.iso_search.proofs.lists.link_at.Goals.{else-eq-via-then-eq+else-len-eq2, else-eq-via-else-eq}
use Rattle.iso_search.proofs.lists.link_at.Goals as goal

pub returns-in-Atom-clause-tells : goal.returns-in-Atom-clause-tells
returns-in-Atom-clause-tells c v view =
    atom_partial v view (term_at c.args.store.now c.args.place) c.in-Atom.name c.eq.result c.in-Atom.ensures c.eq.ensures

pub returns-then-len-eq2-clause-tells : goal.returns-then-len-eq2-clause-tells
returns-then-len-eq2-clause-tells c v view =
    let s = c.args.store.now in
    let a = c.in-Compound.arguments in
    let seen = c.in-Compound.ensures in
    let long : length (arguments_at s a) ≡ 2 = how_many s a seen.1.0 ∙ sym c.len.ensures ∙ c.if-len-eq2.true in
    cell_partial v view s (term_at s c.args.place) c.in-Compound.name (arguments_at s a) (atom []) c.argument.result seen.0 long (sym c.if-eq.ensures) c.argument.ensures.stands

pub returns-else-eq-clause-tells : goal.returns-else-eq-clause-tells
returns-else-eq-clause-tells c v view =
    let s = c.args.store.now in
    let f = c.in-Compound.name in
    let a = c.in-Compound.arguments in
    let seen = c.in-Compound.ensures in
    let long = how_many s a seen.1.0 in
    let some : 0 < length (arguments_at s a) = omega (arith, long, seen.1.1) in
    elim c.else-eq.branch [
      | else-eq-via-then-eq+else-len-eq2 w ↦
          count_partial v (term_at s c.args.place) (atom_name f) (arguments_at s a) seen.0 some (λ e. w.if-len-eq2.false (w.len.ensures ∙ sym long ∙ e))
      | else-eq-via-else-eq w ↦ name_partial v view (term_at s c.args.place) f (arguments_at s a) seen.0 some (sym w.if-eq.ensures)
    ]
