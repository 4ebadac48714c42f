use Rattle.iso_search.specs.Parts.{AreCopies, Grows}
use Rattle.iso_search.proofs.transfers.copy_compounds.Given as goal

abbrev pub invariant-loop-compound : goal.invariant-loop-compound
invariant-loop-compound l = record { grows : Grows l.fn.other l.other; copies : AreCopies l.store l.other l.copies }
