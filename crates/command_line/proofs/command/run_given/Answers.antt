use Rattle.std.proofs.Common.{arith, ◌<◌, ◌≤◌, subst, refl, sym, ◌∙◌, ap, codes, List, ℕ, Option, Some, None, length}
use Rattle.pl_term.specs.Tree.{Chars}
use Rattle.clap.specs.Words.{found_of, rows_of}
use Rattle.clap.proofs.WalkLemmas.{first_value-rows}
use Rattle.command_line.specs.CommandLine.{Command}
use Rattle.command_line.specs.Commands.{told_limits}
use Rattle.command_line.proofs.CommandLemmas.{few_goals, given_by, too_many}
use Rattle.command_line.proofs.command.run_given.Goals as goal

pub returns-in_default-clause-command : goal.returns-in_default-clause-command
returns-in_default-clause-command c =
    given_by
    (rows_of (found_of c.args.given.now))
    None
    _
    _
    _
    _
    (c.in_default.ensures ∙ first_value-rows (found_of c.args.given.now) (codes "FILE"))
    refl
    refl
    refl
    refl

pub returns-then-as_slice-gt-MOST_GOALS-clause-command :
    goal.returns-then-as_slice-gt-MOST_GOALS-clause-command
returns-then-as_slice-gt-MOST_GOALS-clause-command c =
    let goals = c.in_ok-goals.goals.items in
    given_by
    (rows_of (found_of c.args.given.now))
    (Some c.in-Some.file.now)
    goals
    (Some (told_limits c.in-Some-limits_given.limits))
    (Some c.in-Some-number_between.workers)
    (Some c.in-Some-number_between-2.slots)
    (c.in-Some.ensures ∙ first_value-rows (found_of c.args.given.now) (codes "FILE"))
    c.in_ok-goals.ensures
    c.in-Some-limits_given.ensures
    c.in-Some-number_between.ensures.number
    c.in-Some-number_between-2.ensures.number
    ∙ too_many _ (subst (λ (ws : List Chars). 64 < length ws) c.as_slice.ensures.value c.if-as_slice-gt-MOST_GOALS.true)

pub returns-clause-command : goal.returns-clause-command
returns-clause-command c =
    let goals = c.in_ok-goals.goals.items in
    given_by
    (rows_of (found_of c.args.given.now))
    (Some c.in-Some.file.now)
    goals
    (Some (told_limits c.in-Some-limits_given.limits))
    (Some c.in-Some-number_between.workers)
    (Some c.in-Some-number_between-2.slots)
    (c.in-Some.ensures ∙ first_value-rows (found_of c.args.given.now) (codes "FILE"))
    c.in_ok-goals.ensures
    c.in-Some-limits_given.ensures
    c.in-Some-number_between.ensures.number
    c.in-Some-number_between-2.ensures.number
    ∙ few_goals _ (subst (λ (ws : List Chars). length ws ≤ 64) c.as_slice.ensures.value (omega (arith, c.if-as_slice-gt-MOST_GOALS.false)))
    ∙ ap whole (sym c.in_ok-file.ensures)
  where
    whole : List ℕ → Option Command
    whole f =
        Some (record {
          file = f;
          words = c.in_ok-goals.goals.items;
          limits = told_limits c.in-Some-limits_given.limits;
          workers = c.in-Some-number_between.workers;
          slots = c.in-Some-number_between-2.slots;
        })
