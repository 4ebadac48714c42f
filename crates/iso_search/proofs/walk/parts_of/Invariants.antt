use Rattle.std.specs.List.{All}
use Rattle.iso_search.specs.Parts.{IsCompoundIn, IsStepIn}
use Rattle.iso_search.proofs.walk.parts_of.Given as goal

abbrev pub invariant-loop : goal.invariant-loop
invariant-loop l = record { steps : All (IsStepIn l.store) l.steps.items; compounds : All (IsCompoundIn l.store) l.parts.compounds.items }
