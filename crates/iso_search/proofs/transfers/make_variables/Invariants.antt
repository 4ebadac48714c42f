use Rattle.term_store.specs.Contents.{Contents}
use Rattle.iso_search.specs.Parts.{AreCopies, Grows}
use Rattle.iso_search.proofs.transfers.make_variables.Given as goal

abbrev pub invariant-loop-number : goal.invariant-loop-number
invariant-loop-number l = record { grows : Grows l.fn.other l.other; copies : (s : Contents) → AreCopies s l.other l.copies }
