use Rattle.std.proofs.Common.{subst}
use Rattle.term_store.specs.Live.{Gathers}
use Rattle.iso_search.specs.Live.{alternative_atoms}
use Rattle.term_store.proofs.Gathering.{gathers_last, gathers_next, gathers_none}
use Rattle.iso_search.proofs.live.list_choices.Goals as goal

pub loop-choice-init : goal.loop-choice-init
loop-choice-init c = gathers_none c.args.live.now

pub loop-choice-preserved : goal.loop-choice-preserved
loop-choice-preserved c =
    gathers_next (λ k. alternative_atoms k.alternative) c.args.choices.now c.loop-choice.choice-index c.choice-item.result c.args.live.now c.loop-choice.live c.list_alternative.new.live c.loop-choice-test.true c.loop-choice.invariant
    (subst (λ x. Gathers (alternative_atoms x.alternative) c.loop-choice.live c.list_alternative.new.live) c.choice-item.is c.in_ok-list_alternative.ensures)

pub returns : goal.returns
returns c = gathers_last (λ k. alternative_atoms k.alternative) c.args.choices.now c.loop-choice.choice-index c.args.live.now c.loop-choice.live c.loop-choice-test.false c.loop-choice.invariant
