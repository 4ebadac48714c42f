use Rattle.std.proofs.Common.{sym, ap, ◌∙◌}
use Rattle.pl_term.specs.Variables.{is_in}
use Rattle.term_store.specs.Contents.{term_at}
use Rattle.builtin_term.specs.TermWalks.{numbers}
use Rattle.builtin_term.proofs.MetVariables.{none_met}
use Rattle.builtin_term.proofs.met_variables.variables_in.Goals as goal

pub returns-then-branch-clause-all : goal.returns-then-branch-clause-all
returns-then-branch-clause-all c x =
    ap (λ es. is_in x (numbers es)) c.new.ensures.items
    ∙ none_met (term_at c.args.store.now c.args.term) (sym c.if-branch.true ∙ c.in_ok-is_ground.ensures.ground) x
