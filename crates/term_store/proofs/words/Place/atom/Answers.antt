use Rattle.std.proofs.Common.{ap, ◌∙◌}
use Rattle.pl_term.specs.Tree.{atom}
use Rattle.term_store.specs.Heap.{atom_name, bindings}
use Rattle.term_store.proofs.Equations.{bound-atom}
use Rattle.term_store.proofs.words.Place.atom.Goals as goal

pub returns : goal.returns
returns c = λ s. (tt, bound-atom (bindings s.heap) (atom_name c.slot.result) ∙ ap (λ n. atom (atom_name n)) c.slot.ensures)
