use Rattle.std.proofs.Common.{◌+◌, ◌<◌, ℕ, ap, ◌∙◌, subst}
use Rattle.std.specs.Prelude.{IsSome}
use Rattle.atom_words.specs.Seats.{seen}
use Rattle.atom_table.specs.Naming.{names}
use Rattle.term_store.specs.NumberedNames.{names_of}
use Rattle.counted_terms.proofs.Saying.{at_any, naming_any, stored_says, stored_others}
use Rattle.counted_terms.specs.Keeping.{keeper_view, tally}
use Rattle.counted_terms.proofs.Exactly.{exact_more}
use Rattle.counted_terms.proofs.storing.store.Goals as goal

pub register_kept-requires-clause-held : goal.register_kept-requires-clause-held
register_kept-requires-clause-held c = λ k h. at_any (λ a. IsSome (names (seen c.args.seat.now) a)) (names_of c.args.term.now) k c.requires.held (naming_any k c.args.term.now (subst (λ (n : ℕ). 0 < n) (c.atoms.ensures k) h))

pub returns-clause-says : goal.returns-clause-says
returns-clause-says c = stored_says c.args.table.now.words c.args.seat.now c.register_kept.new.seat c.args.keeper.now c.register_kept.new.keeper c.atoms.result.now c.requires.seat c.register_kept.ensures.seat c.requires.keeper c.register_kept.ensures.keeper c.args.term.now c.atoms.ensures
    c.register_kept.ensures.registered

pub returns-clause-others : goal.returns-clause-others
returns-clause-others c = stored_others c.args.table.now.words c.args.seat.now c.register_kept.new.seat c.args.keeper.now c.register_kept.new.keeper c.atoms.result.now c.requires.seat c.register_kept.ensures.seat c.requires.keeper c.register_kept.ensures.keeper
    c.register_kept.ensures.registered

pub returns-clause-exact : goal.returns-clause-exact
returns-clause-exact c = λ ts. exact_more c.args.term.now ts (keeper_view c.args.keeper.now) (keeper_view c.register_kept.new.keeper)
    (λ k. c.register_kept.ensures.registered.counts k ∙ ap (λ (n : ℕ). n + tally (keeper_view c.args.keeper.now) k) (c.atoms.ensures k))
    (stored_others c.args.table.now.words c.args.seat.now c.register_kept.new.seat c.args.keeper.now c.register_kept.new.keeper c.atoms.result.now c.requires.seat c.register_kept.ensures.seat c.requires.keeper c.register_kept.ensures.keeper
    c.register_kept.ensures.registered)
