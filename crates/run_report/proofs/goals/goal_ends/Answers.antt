use Rattle.std.proofs.Common.{◌≡◌, ◌∷◌, suc, add-one, arith, drop, sym, ap, ◌∙◌}
use Rattle.std.proofs.Math.Seq.{drop-cons}
use Rattle.std.proofs.lemmas.List.{drop_all}
use Rattle.pl_consult.specs.GoalWords.{refusals_of}
use Rattle.run_report.proofs.HowLaws.{ends_all, ends_more}
use Rattle.run_report.proofs.goals.goal_ends.Goals as goal

pub loop-i-preserved : goal.loop-i-preserved
loop-i-preserved c =
    let here = drop-cons c.args.words.now c.loop-i.i c.index-words-i.result (omega arith) in
    let at : drop c.loop-i.i c.args.words.now ≡ c.index-words-i.result ∷ drop (suc c.loop-i.i) c.args.words.now =
    here ∙ ap (λ w. w ∷ drop (suc c.loop-i.i) c.args.words.now) (sym c.index-words-i.is) in
    rw add-one
    (ends_more c.args.engines.now (refusals_of c.args.refused.now) c.args.words.now c.loop-i.i c.index-words-i.result c.loop-i.ends.items c.put_end.new.ends.items
    c.in_ok-how.how at (rw add-one at c.in_ok-how.ensures) (rw add-one at c.in_ok-put_end.ensures) c.loop-i.invariant)

pub returns : goal.returns
returns c =
    ends_all c.args.engines.now (refusals_of c.args.refused.now) c.args.words.now c.loop-i.i c.loop-i.ends.items (drop_all c.loop-i.i c.args.words.now (omega arith)) c.loop-i.invariant
