use Rattle.std.proofs.Common.{drop, subst}
use Rattle.std.specs.List.{All}
use Rattle.term_store.specs.Cells.{heap_of}
use Rattle.term_store.specs.GroundMarks.{IsMarked}
use Rattle.term_store.proofs.make.finish_compound.Goals as goal

pub finish_marked-requires-clause-ground : goal.finish_marked-requires-clause-ground
finish_marked-requires-clause-ground c e =
    let h = heap_of c.args.cells.now in
    subst (λ gs. All (IsMarked gs) (drop c.args.start h.args)) c.deref.ensures.value (c.are_ground-marked.ensures e)
