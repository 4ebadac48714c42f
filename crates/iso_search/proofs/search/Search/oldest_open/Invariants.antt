use Rattle.std.proofs.Common.{take, flat_map}
use Rattle.iso_search.specs.Live.{IsLeast, generations_of}
use Rattle.iso_search.proofs.search.Search.oldest_open.Given as goal

abbrev pub invariant-loop-choice : goal.invariant-loop-choice
invariant-loop-choice l = IsLeast l.oldest (flat_map (λ k. generations_of k.alternative) (take l.choice-index l.self.choices.items))
