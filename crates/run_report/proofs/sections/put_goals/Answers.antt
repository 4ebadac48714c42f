use Rattle.std.proofs.Common.{◌≡◌, ◌∷◌, ◌++◌, suc, add-one, arith, drop, sym, ap, ◌∙◌}
use Rattle.std.proofs.Math.Seq.{drop-cons}
use Rattle.std.proofs.lemmas.List.{drop_all}
use Rattle.run_model.specs.Report.{goal_sections}
use Rattle.pl_consult.specs.GoalWords.{refusals_of, words_of}
use Rattle.run_report.proofs.SectionLaws.{goals_more, goals_start, no_goals, no_words, word_at}
use Rattle.run_report.proofs.sections.put_goals.Goals as goal

pub loop-i-init : goal.loop-i-init
loop-i-init c p told finals t kept are =
    goals_start p told finals (refusals_of c.args.refused.now) c.args.goals.now (words_of c.args.words.now) c.args.sections.now.items t are

pub loop-i-preserved : goal.loop-i-preserved
loop-i-preserved c p told finals t kept are =
    let i = c.loop-i.i in
    let gs = c.args.goals.now in
    let ws = c.args.words.now in
    let g = c.index-goals-i.result in
    let w = c.index-words-i.result in
    let there : drop i gs ≡ g ∷ drop (suc i) gs = drop-cons gs i g (omega arith) ∙ ap (λ x. x ∷ drop (suc i) gs) (sym c.index-goals-i.is) in
    let here : drop i ws ≡ w ∷ drop (suc i) ws = drop-cons ws i w (omega arith) ∙ ap (λ x. x ∷ drop (suc i) ws) (sym c.index-words-i.is) in
    rw add-one
    (goals_more p told finals (refusals_of c.args.refused.now) i (drop i gs) (drop (suc i) gs) (drop i ws) (drop (suc i) ws) g w c.loop-i.sections.items
    c.put_section.new.sections.items c.in_ok-section.section (t ++ goal_sections p told finals (refusals_of c.args.refused.now) 1 gs (words_of ws)) there here
    (rw add-one at (c.in_ok-section.ensures p told finals (words_of ws) i kept (add-one i) (word_at ws i w (drop (suc i) ws) here))) c.in_ok-put_section.ensures
    (c.loop-i.invariant p told finals t kept are))

pub returns-then-i-goals : goal.returns-then-i-goals
returns-then-i-goals c p told finals t kept are =
    no_goals p told finals (refusals_of c.args.refused.now) c.loop-i.i (drop c.loop-i.i c.args.goals.now) (words_of (drop c.loop-i.i c.args.words.now))
    c.loop-i.sections.items (t ++ goal_sections p told finals (refusals_of c.args.refused.now) 1 c.args.goals.now (words_of c.args.words.now))
    (drop_all c.loop-i.i c.args.goals.now (omega arith)) (c.loop-i.invariant p told finals t kept are)

pub returns : goal.returns
returns c p told finals t kept are =
    no_words p told finals (refusals_of c.args.refused.now) c.loop-i.i (drop c.loop-i.i c.args.goals.now) (words_of (drop c.loop-i.i c.args.words.now))
    c.loop-i.sections.items (t ++ goal_sections p told finals (refusals_of c.args.refused.now) 1 c.args.goals.now (words_of c.args.words.now))
    (ap words_of (drop_all c.loop-i.i c.args.words.now (omega arith))) (c.loop-i.invariant p told finals t kept are)
