use Rattle.std.proofs.Common.{take, flat_map}
use Rattle.term_store.specs.Live.{Gathers}
use Rattle.iso_search.specs.Live.{alternative_atoms}
use Rattle.iso_search.proofs.live.list_choices.Given as goal

abbrev pub invariant-loop-choice : goal.invariant-loop-choice
invariant-loop-choice l = Gathers (flat_map (λ k. alternative_atoms k.alternative) (take l.choice-index l.choices)) l.fn.live l.live
