use Rattle.std.proofs.Common.{true, false, subst}
use Rattle.term_store.specs.Contents.{Unified}
use Rattle.builtin_term.specs.Renaming.{IsRenaming}
use Rattle.builtin_term.proofs.Reading.{not_subsumed, subsumption}
use Rattle.builtin_term.proofs.subsumption.is_subsumed.Goals as goal

pub returns-then-not-branch-clause-subsumed : goal.returns-then-not-branch-clause-subsumed
returns-then-not-branch-clause-subsumed c =
    let s = c.args.store.now in
    not_subsumed s c.unify.new.self c.args.general c.args.specific
    (subst (λ k. Unified false k c.args.general c.args.specific c.unify.new.self) c.in_ok-met.ensures.same
    (subst (λ b. Unified b c.variables_in.new.store c.args.general c.args.specific c.unify.new.self) c.if-not-branch.true c.in_ok-unify.ensures.unified))

pub returns-clause-subsumed : goal.returns-clause-subsumed
returns-clause-subsumed c =
    let s = c.args.store.now in
    subsumption c.in_ok-renamed.renamed s c.unify.new.self c.args.general c.args.specific c.in_ok-met.met.items
    (subst (λ k. Unified true k c.args.general c.args.specific c.unify.new.self) c.in_ok-met.ensures.same
    (subst (λ b. Unified b c.variables_in.new.store c.args.general c.args.specific c.unify.new.self) c.if-not-branch.false c.in_ok-unify.ensures.unified))
    c.in_ok-met.ensures.places c.in_ok-met.ensures.all
    (subst (λ l. IsRenaming c.in_ok-renamed.renamed c.unify.new.self l) c.deref.ensures.value c.in_ok-renamed.ensures)
