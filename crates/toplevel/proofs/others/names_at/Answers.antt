use Rattle.std.proofs.Common.{◌-◌, arith, Some, sym, ◌∙◌, ap}
use Rattle.word_board.specs.declared.word.GoalWord.{GoalWord}
use Rattle.pl_consult.specs.GoalWords.{word_of}
use Rattle.run_report.specs.Parts.{names_in}
use Rattle.toplevel.proofs.NamesLaws.{got_at, names_got}
use Rattle.toplevel.proofs.others.names_at.Goals as goal

pub returns-in-Goal : goal.returns-in-Goal
returns-in-Goal c =
    let n = c.args.number in
    c.as_slice.ensures.value
    ∙ sym
    (names_got c.args.words.now n (n - 1) (Some c.in-Some.word.now) (omega arith) (got_at c.args.words.now (n - 1) c.in-Some.word.now c.in-Some.ensures.lookup.3.0 c.in-Some.ensures.lookup.1)
    ∙ ap (λ (w : GoalWord). names_in (Some (word_of w))) c.in-Goal.is)

pub returns-in-Faulty : goal.returns-in-Faulty
returns-in-Faulty c =
    let n = c.args.number in
    sym
    (names_got c.args.words.now n (n - 1) (Some c.in-Some.word.now) (omega arith) (got_at c.args.words.now (n - 1) c.in-Some.word.now c.in-Some.ensures.lookup.3.0 c.in-Some.ensures.lookup.1)
    ∙ ap (λ (w : GoalWord). names_in (Some (word_of w))) c.in-Faulty.is)
