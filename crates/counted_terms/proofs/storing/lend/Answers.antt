use Rattle.std.proofs.Common.{sym, ap, ◌∙◌, subst}
use Rattle.pl_term.specs.Tree.{Tree}
use Rattle.std.specs.List.{All}
use Rattle.std.specs.Prelude.{IsSome}
use Rattle.atom_words.specs.Seats.{seen}
use Rattle.atom_table.specs.Naming.{names}
use Rattle.term_store.specs.NumberedNames.{names_of}
use Rattle.counted_terms.specs.CountedTerms.{said}
use Rattle.counted_terms.proofs.Saying.{lent_says, lent_named}
use Rattle.counted_terms.proofs.storing.lend.Goals as goal

pub returns-clause-named : goal.returns-clause-named
returns-clause-named c = let r = c.fetch_kept.new.seat in subst (λ (t : Tree). All (λ a. IsSome (names (seen r) a)) (names_of t)) (sym (c.in_ok-shared.ensures ∙ c.term.ensures))
    (lent_named c.args.table.now.words c.args.seat.now r c.args.keeper.now c.fetch_kept.new.keeper c.atoms.result.now c.requires.seat c.fetch_kept.ensures.seat c.requires.keeper c.fetch_kept.ensures.keeper c.args.term.now c.atoms.ensures c.requires.counted c.fetch_kept.ensures.fetched)

pub returns-clause-says : goal.returns-clause-says
returns-clause-says c = let r = c.fetch_kept.new.seat in ap (said (names (seen r))) (c.in_ok-shared.ensures ∙ c.term.ensures)
    ∙ lent_says c.args.table.now.words c.args.seat.now r c.args.keeper.now c.fetch_kept.new.keeper c.atoms.result.now c.requires.seat c.fetch_kept.ensures.seat c.requires.keeper c.fetch_kept.ensures.keeper c.args.term.now c.atoms.ensures c.fetch_kept.ensures.fetched
