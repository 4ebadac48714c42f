use Rattle.std.proofs.Common.{ap, ap₂, subst, sym, ◌∙◌}
use Rattle.std.specs.Prelude.{IsSome}
use Rattle.std.specs.List.{All}
use Rattle.pl_term.specs.Tree.{Tree}
use Rattle.atom_api.specs.Names.{Names}
use Rattle.atom_words.specs.Seats.{seen}
use Rattle.atom_table.specs.Naming.{names}
use Rattle.term_store.specs.NumberedNames.{names_of}
use Rattle.pl_term.specs.Variables.{rename}
use Rattle.pl_model.specs.declared.threads.Status.TheVariants.{Exited}
use Rattle.counted_terms.specs.CountedTerms.{said}
use Rattle.hub_threads.proofs.Renaming.{numbered_said}
use Rattle.hub_tests.proofs.players.Player.exit.Goals as goal

pub end-requires-clause-held : goal.end-requires-clause-held
end-requires-clause-held g c =
    let m : Names = names (seen c.self.inside.atoms.seat) in
    subst (λ (t : Tree). All (λ a. IsSome (names (seen c.with_texts.new.atoms.seat) a)) (names_of t)) (sym c.in_ok-new.ensures)
    (subst (λ (n : Names). All (λ a. IsSome (n a)) (names_of c.in_ok-term.term)) (sym c.in_ok-with_texts.ensures.same)
    (c.in_ok-term.ensures m c.self.inside.atoms.lawful.stand c.self.invariant.holds))

pub end-requires-clause-status : goal.end-requires-clause-status
end-requires-clause-status g c =
    let m : Names = names (seen c.self.inside.atoms.seat) in
    ap (λ (t : Tree). Exited t)
    (ap (rename 0) c.in_ok-with_texts.ensures.term
    ∙ numbered_said m c.in_ok-term.term c.nodes-numbered.ensures.numbered
    ∙ ap₂ said (sym c.in_ok-with_texts.ensures.same) (sym c.in_ok-new.ensures))
