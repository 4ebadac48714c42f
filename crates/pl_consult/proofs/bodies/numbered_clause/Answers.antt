use Rattle.std.proofs.Common.{◌∙◌, ap}
use Rattle.pl_term.specs.Tree.{comp, more, none}
use Rattle.pl_consult.proofs.WordTexts.{chars-neck}
use Rattle.pl_consult.proofs.Renumbered.{rule_kept, renumbered}
use Rattle.pl_consult.proofs.bodies.numbered_clause.Goals as goal

pub returns-clause-kept : goal.returns-clause-kept
returns-clause-kept c =
    rule_kept c.in_ok-rule.rule c.in_ok-copy.copy c.args.head c.args.goal
    (c.in_ok-rule.ensures ∙ ap (λ f. comp f c.args.head (more c.args.goal none)) (c.in_ok-neck.ensures ∙ chars-neck))
    c.in_ok-copy.ensures.renamed

pub returns-clause-numbered : goal.returns-clause-numbered
returns-clause-numbered c = renumbered c.in_ok-rule.rule c.in_ok-copy.copy c.in_ok-copy.ensures.renamed
