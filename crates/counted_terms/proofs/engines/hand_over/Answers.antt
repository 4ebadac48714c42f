use Rattle.std.proofs.Common.{◌≡◌, ◌<◌, ℕ, ap, sym, subst, ◌∙◌, arith}
use Rattle.std.specs.List.{All}
use Rattle.std.specs.Prelude.{IsSome}
use Rattle.pl_term.specs.Tree.{Tree}
use Rattle.atom_api.specs.Names.{Names}
use Rattle.atom_words.specs.Seats.{seen}
use Rattle.atom_table.specs.Naming.{names}
use Rattle.term_store.specs.NumberedNames.{names_of}
use Rattle.counted_terms.specs.CountedTerms.{IsCounted, said}
use Rattle.counted_terms.specs.Keeping.{HoldsOn, keeper_view, kept}
use Rattle.counted_terms.proofs.Sharing.{counted_within}
use Rattle.counted_terms.proofs.engines.hand_over.Goals as goal

pub forget_by-requires-clause-counted : goal.forget_by-requires-clause-counted
forget_by-requires-clause-counted g c = λ k.
    let w = counted_within c.args.term (keeper_view c.args.keeper.now) c.requires.counted k in
    let same = c.hold_by.ensures.counts k in
    omega arith

pub returns-clause-named : goal.returns-clause-named
returns-clause-named g c =
    subst (λ (m : Names). All (λ a. IsSome (m a)) (names_of c.into_term.result)) (sym c.forget_by.ensures.held)
    (subst (λ (t : Tree). All (λ a. IsSome (names (seen c.hold_by.new.atoms.seat) a)) (names_of t)) (sym c.into_term.ensures) c.hold_by.ensures.named)

pub returns-clause-says : goal.returns-clause-says
returns-clause-says g c =
    ap (λ (m : Names). said m c.into_term.result) c.forget_by.ensures.held
    ∙ (ap (said (names (seen c.hold_by.new.atoms.seat))) c.into_term.ensures ∙ c.hold_by.ensures.says)

pub returns-clause-holds : goal.returns-clause-holds
returns-clause-holds g c = subst (HoldsOn (names (seen c.args.atoms.now.seat))) (sym c.forget_by.ensures.held) c.hold_by.ensures.holds

pub returns-clause-others : goal.returns-clause-others
returns-clause-others g c = λ t counted. c.forget_by.ensures.others t counted ∙ ap (λ (m : Names). said m t) c.hold_by.ensures.keeps

pub returns-clause-counts : goal.returns-clause-counts
returns-clause-counts g c = λ k. c.forget_by.ensures.counts k ∙ c.hold_by.ensures.counts k
