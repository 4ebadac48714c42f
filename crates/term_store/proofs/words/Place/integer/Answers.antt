use Rattle.std.proofs.Common.{◌≡◌, ap, ◌∙◌, rules}
use Rattle.std.proofs.lemmas.Int.{to_z-of_z}
use mir.Val.{of_z, to_z}
use mir.Syntax.{w64}
use Rattle.pl_term.specs.Tree.{int}
use Rattle.term_store.specs.Heap.{bindings}
use Rattle.term_store.proofs.Equations.{bound-int}
use Rattle.term_store.proofs.words.Place.integer.Goals as goal

pub returns : goal.returns
returns c =
    let same : to_z w64 (of_z w64 c.args.i) ≡ c.args.i = search (rules, to_z-of_z) in
    λ s. (tt, bound-int (bindings s.heap) (to_z w64 (of_z w64 c.args.i)) ∙ ap int same)
