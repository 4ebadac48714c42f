use Rattle.std.proofs.Common.{◌≡◌, ℕ, List, ◌∷◌, ◌++◌, suc, add-one, arith, drop, sym, ap, ◌∙◌}
use Rattle.std.proofs.Math.Seq.{drop-cons}
use Rattle.std.proofs.lemmas.List.{drop_all}
use Rattle.pl_term.specs.Tree.{Tree}
use Rattle.run_model.specs.Execution.{numbered_goals}
use Rattle.pl_consult.specs.GoalWords.{words_of}
use Rattle.pl_consult.proofs.StartLaws.{goals_all, goals_more, goals_start}
use Rattle.pl_consult.proofs.goal_words.further_goals.Goals as goal

pub loop-i-init : goal.loop-i-init
loop-i-init c =
    ap (λ (gs : List (ℕ × Tree)). gs ++ numbered_goals 2 (words_of (drop 1 c.args.words.now))) c.new-goals.ensures.items ∙ goals_start c.args.words.now

pub loop-i-preserved : goal.loop-i-preserved
loop-i-preserved c =
    let here = drop-cons c.args.words.now c.loop-i.i c.index-words-i.result (omega arith) in
    let at : drop c.loop-i.i c.args.words.now ≡ c.index-words-i.result ∷ drop (suc c.loop-i.i) c.args.words.now =
    here ∙ ap (λ w. w ∷ drop (suc c.loop-i.i) c.args.words.now) (sym c.index-words-i.is) in
    rw add-one
    (goals_more c.args.words.now c.loop-i.i c.index-words-i.result c.loop-i.goals.items c.put_goal.new.goals.items at
    (rw add-one at c.in_ok-put_goal.ensures) c.loop-i.invariant)

pub returns : goal.returns
returns c =
    goals_all c.args.words.now c.loop-i.i c.loop-i.goals.items (drop_all c.loop-i.i c.args.words.now (omega arith)) c.loop-i.invariant
