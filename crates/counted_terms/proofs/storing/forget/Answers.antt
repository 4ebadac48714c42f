use Rattle.std.proofs.Common.{◌+◌, ℕ, sym, ap, ◌∙◌}
use Rattle.counted_terms.specs.Keeping.{keeper_view, tally}
use Rattle.counted_terms.proofs.Exactly.{exact_less}
use Rattle.counted_terms.proofs.Saying.{forgotten_others}
use Rattle.counted_terms.proofs.storing.forget.Goals as goal

pub returns-clause-others : goal.returns-clause-others
returns-clause-others c = forgotten_others c.args.table.now.words c.args.seat.now c.unregister_kept.new.seat c.args.keeper.now c.unregister_kept.new.keeper c.atoms.result.now c.requires.seat c.unregister_kept.ensures.seat c.requires.keeper c.unregister_kept.ensures.keeper
    c.unregister_kept.ensures.unregistered

pub returns-clause-exact : goal.returns-clause-exact
returns-clause-exact c = λ ts. exact_less c.args.term.now ts (keeper_view c.args.keeper.now) (keeper_view c.unregister_kept.new.keeper)
    (λ k. ap (λ (n : ℕ). n + tally (keeper_view c.unregister_kept.new.keeper) k) (sym (c.atoms.ensures k)) ∙ c.unregister_kept.ensures.unregistered.counts k)
    (forgotten_others c.args.table.now.words c.args.seat.now c.unregister_kept.new.seat c.args.keeper.now c.unregister_kept.new.keeper c.atoms.result.now c.requires.seat c.unregister_kept.ensures.seat c.requires.keeper c.unregister_kept.ensures.keeper
    c.unregister_kept.ensures.unregistered)
