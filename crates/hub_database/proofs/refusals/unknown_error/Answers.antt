use Rattle.std.proofs.Common.{◌≡◌, subst}
use Rattle.std.specs.List.{All}
use Rattle.atom_api.specs.Names.{FixedStand, Names}
use Rattle.term_store.specs.NumberedNames.{names_of}
use Rattle.world_api.specs.declared.visit.Procedure.{Procedure}
use Rattle.counted_terms.specs.CountedTerms.{said}
use Rattle.std.specs.Prelude.{IsSome, codes}
use Rattle.pl_model.specs.Errors.{indicator}
use Rattle.world_api.specs.Texts.{text_of}
use Rattle.world_api.specs.Visits.{proc_named}
use Rattle.hub_database.proofs.Errors.{procedure_fixed, existence_told}
use Rattle.hub_database.proofs.refusals.unknown_error.Goals as goal

pub returns : goal.returns
returns c = existence_told c.args.p.now.name c.in_ok-culprit.culprit (λ m. indicator (proc_named (text_of m) c.args.p.now))
    (subst (λ (q : Procedure). (m : Names) → FixedStand m → IsSome (m q.name) → said m c.in_ok-culprit.culprit ≡ indicator (proc_named (text_of m) q)) c.copied.ensures c.in_ok-culprit.ensures.says)
    (subst (λ (q : Procedure). (m : Names) → FixedStand m → IsSome (m q.name) → All (λ k. IsSome (m k)) (names_of c.in_ok-culprit.culprit)) c.copied.ensures c.in_ok-culprit.ensures.named)
    c.existence_error.result 146 (codes "procedure") procedure_fixed c.existence_error.ensures.says c.existence_error.ensures.named
