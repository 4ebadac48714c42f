use Rattle.std.proofs.Common.{[], List, map, refl, sym, ◌∙◌, ap}
use Rattle.std.specs.Prelude.{◌==◌, length}
use Rattle.std.proofs.lemmas.Bool.{true≢false}
use Rattle.pl_model.specs.OperatorTable.{OperatorTable}
use Rattle.run_model.specs.Execution.{word_read}
use Rattle.word_board.specs.declared.word.GoalWord.{GoalWord}
use Rattle.pl_consult.specs.GoalWords.{words_of}
use Rattle.toplevel.proofs.StandingLaws.{empty_length, no_job, none_read}
use Rattle.toplevel.proofs.main_engine.words_unread.Goals as goal

pub returns-then-not-is_empty : goal.returns-then-not-is_empty
returns-then-not-is_empty c unread =
    let none = none_read c.read.result.now (sym (c.read.ensures no_job []) ∙ ap (λ (ws : List GoalWord). words_of ws) unread) in
    true≢false (sym (c.is_empty.ensures ∙ ap (λ (ws : List GoalWord). length ws == 0) none) ∙ c.if-not-is_empty.true)

pub returns : goal.returns
returns c = (
  none_read _ (c.read.ensures no_job [] ∙ ap (λ (ws : List GoalWord). words_of ws) (empty_length _ c.is_empty.ensures c.if-not-is_empty.false)),
  sym c.as_slice.ensures.value ∙ empty_length _ c.is_empty-2.ensures c.if-not-is_empty-2.false,
  c.in_ok-words.ensures ∙ ap (λ (o : OperatorTable). map (word_read o c.args.quotes) c.args.script.now.words.items) c.deref.ensures,
)
