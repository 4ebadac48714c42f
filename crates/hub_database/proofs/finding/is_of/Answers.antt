use Rattle.std.proofs.Common.{sym, ap, ◌∙◌}
use Rattle.pl_term.specs.Tree.{Tree}
use Rattle.pl_model.specs.History.{head_part}
use Rattle.pl_model.specs.Predicates.{proc_of}
use Rattle.world_api.specs.Texts.{text_of}
use Rattle.world_api.specs.Visits.{proc_named}
use Rattle.world_api.specs.declared.visit.Procedure.{Procedure}
use Rattle.counted_terms.specs.CountedTerms.{said}
use Rattle.hub_database.proofs.finding.is_of.Goals as goal

pub returns-in-Some : goal.returns-in-Some
returns-in-Some c = λ same m lawful.
    ap (λ (t : Tree). proc_of (head_part (said m t))) (sym c.term.ensures) ∙ sym (c.in-Some.ensures.says m lawful)
    ∙ ap (λ (p : Procedure). proc_named (text_of m) p) (c.same_predicate.ensures same)
