use Rattle.std.proofs.Common.{codes, sym, ap, ◌∙◌}
use Rattle.pl_model.specs.History.{Proc}
use Rattle.iso_search.specs.declared.outcome.Outcome.TheVariants.{Raise}
use Rattle.iso_search.specs.Outcomes.{doing_by}
use Rattle.iso_search.specs.Searching.{node_of}
use Rattle.iso_search.proofs.Naming.{text_is}
use Rattle.iso_engine.specs.Starting.{outcome_of, proc_begun}
use Rattle.iso_engine.proofs.Beginning.{consult_text}
use Rattle.iso_engine.proofs.starting.started.Goals as goal

pub returns-in_ok-doing-in-Refused-clause-doing : goal.returns-in_ok-doing-in-Refused-clause-doing
returns-in_ok-doing-in-Refused-clause-doing c t view =
    let s = c.args.search.now in
    c.in_ok-doing-in-Refused.ensures t view
    ∙ ap (λ f. let p : Proc = record { name = f; arity = 1 } in doing_by t s (node_of t.view s 0) p (Raise c.in-Refused.fault)) (text_is t.view view 66 (codes "consult") consult_text)
    ∙ sym (ap (λ b. doing_by t s (node_of t.view s 0) (proc_begun t.view b c.args.procedure) (outcome_of b)) c.in-Refused.is)
