use Rattle.std.proofs.Common.{List, take, sym, ◌∙◌, subst}
use Rattle.pl_term.specs.Tree.{Tree}
use Rattle.counted_terms.specs.CountedTerms.{naming}
use Rattle.counted_terms.specs.Keeping.{keeper_view, tally}
use Rattle.hub_threads.proofs.Forgotten.{Less, less_then, next_term, room_left}
use Rattle.hub_threads.proofs.forgetting.forget_all.Goals as goal

pub forget_by-requires-clause-counted : goal.forget_by-requires-clause-counted
forget_by-requires-clause-counted g c = λ a.
    room_left (naming a) c.args.terms.now c.loop-term.term-index c.term-item.result c.term-item.result c.loop-term-test.true c.term-item.is (tally (keeper_view c.loop-term.keeper) a) (tally (keeper_view c.args.keeper.now) a) (c.requires.counted a) (c.loop-term.invariant.less.counts a)

pub loop-term-preserved : goal.loop-term-preserved
loop-term-preserved g c = record {
  keeper = c.forget_by.ensures.keeper;
  less = subst (λ (l : List Tree). Less l (keeper_view c.args.keeper.now) (keeper_view c.forget_by.new.keeper)) (sym (next_term c.args.terms.now c.loop-term.term-index c.term-item.result c.term-item.result c.loop-term-test.true c.term-item.is))
      (less_then (take c.loop-term.term-index c.args.terms.now) c.term-item.result (keeper_view c.args.keeper.now) (keeper_view c.loop-term.keeper) (keeper_view c.forget_by.new.keeper) c.loop-term.invariant.less c.forget_by.ensures.others c.forget_by.ensures.counts);
  held = c.forget_by.ensures.held ∙ c.loop-term.invariant.held;
  refusals = c.forget_by.ensures.refusals ∙ c.loop-term.invariant.refusals;
  requests = c.forget_by.ensures.requests ∙ c.loop-term.invariant.requests;
}
