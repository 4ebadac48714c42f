use Rattle.std.proofs.Common.{◌≡◌, ap, sym, ◌∙◌, subst}
use Rattle.pl_model.specs.Grammar.{clause}
use Rattle.prolog_reader.specs.Names.{pairs}
use Rattle.std.specs.Prelude.{IfOk}
use Rattle.run_model.specs.Execution.{Word}
use Rattle.pl_consult.specs.GoalWords.{word_of}
use Rattle.pl_consult.proofs.WordLaws.{word_as}
use Rattle.pl_consult.proofs.goal_words.read_word.Goals as goal

pub returns-in-Clause : goal.returns-in-Clause
returns-in-Clause c =
    subst
    (λ (v : Word). IfOk c.whole_goal.result (λ w. word_of w ≡ v))
    (word_as c.in_ok-text.text.items c.args.word.now c.args.operators.now c.args.quotes c.len.result _ c.in_ok-text.ensures
    (c.len.ensures ∙ c.in_ok-text.text.ok.0)
    ((rw c.as_slice.ensures.value at c.in-Clause.ensures)
    ∙ ap (λ ns. clause c.in-Clause.term (pairs ns) c.in-Clause.start c.in-Clause.next) (sym c.deref.ensures.value)))
    (c.whole_goal.ensures c.in-Clause.start)
