use Rattle.std.proofs.Common.{◌≡◌, sym, ap, ◌∙◌}
use Rattle.pl_model.specs.Control.{construct}
use Rattle.term_store.specs.Heap.{atom_name}
use Rattle.term_store.specs.Contents.{arguments_at}
use Rattle.pl_term.specs.Tree.{compound}
use Rattle.iso_search.specs.Constructs.{atom_construct, construction}
use Rattle.iso_search.specs.Reading.{IsView, View, reads}
use Rattle.iso_search.specs.Spelling.{spelled, text_of}
use Rattle.iso_search.proofs.Constructing.{if_passing, of_an_atom}
use Rattle.iso_search.proofs.construct.passing_at.Goals as goal

pub returns-in-Atom-clause-stands : goal.returns-in-Atom-clause-stands
returns-in-Atom-clause-stands c =
    let s = c.args.store.now in
    if_passing (λ k. k ≡ atom_construct c.in-Atom.name) (λ k. (v : View) → IsView v → construction v s k ≡ construct (reads v s c.args.goal)) c.passing_atom.result
    (λ k is v view. of_an_atom v view s c.args.goal c.in-Atom.name k c.in-Atom.ensures is) c.passing_atom.ensures.named

pub returns-in-Compound-clause-stands : goal.returns-in-Compound-clause-stands
returns-in-Compound-clause-stands c =
    let s = c.args.store.now in
    if_passing
    (λ k. (v : View) → IsView v → construction v s k ≡ construct (spelled (text_of v.names) (compound (atom_name c.in-Compound.name) (arguments_at s c.in-Compound.arguments))))
    (λ k. (v : View) → IsView v → construction v s k ≡ construct (reads v s c.args.goal)) c.passing_compound.result
    (λ k h v view. h v view ∙ sym (ap (λ u. construct (spelled (text_of v.names) u)) c.in-Compound.ensures.0)) c.passing_compound.ensures.stands
