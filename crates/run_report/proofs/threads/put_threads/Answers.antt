use Rattle.std.proofs.Common.{◌≡◌, ◌∷◌, ◌++◌, suc, add-one, arith, drop, sym, ap, subst, ◌∙◌}
use Rattle.std.proofs.Math.Seq.{drop-cons}
use Rattle.std.proofs.lemmas.List.{drop_all}
use Rattle.run_model.specs.Lawful.{beginnings}
use Rattle.run_model.specs.Report.{thread_sections}
use Rattle.run_report.specs.Sections.{IsSection}
use Rattle.run_report.proofs.ThreadLaws.{left_all, left_more, left_none, of_kept}
use Rattle.run_report.proofs.threads.put_threads.Goals as goal

pub loop-part-init : goal.loop-part-init
loop-part-init c p told finals t each are = left_all p told finals c.args.threads.now c.args.sections.now.items t each are

pub loop-part-preserved : goal.loop-part-preserved
loop-part-preserved c p told finals t each are =
    let i = c.loop-part.part-index in
    let k = c.part-item.result in
    let at : drop i c.args.threads.now ≡ k ∷ drop (suc i) c.args.threads.now =
    drop-cons c.args.threads.now i k (omega arith) ∙ ap (λ w. w ∷ drop (suc i) c.args.threads.now) (sym c.part-item.is) in
    rw add-one
    (left_more p told finals (drop i c.args.threads.now) k (drop (suc i) c.args.threads.now) c.loop-part.sections.items c.push.new.self.items
    c.in_ok-section.section (t ++ thread_sections p told finals (beginnings told.history)) at (c.loop-part.invariant p told finals t each are)
    (λ b kept.
    subst (IsSection c.in_ok-section.section) (of_kept p told finals b k kept)
    (c.in_ok-section.ensures b kept.execution (kept.number, kept.alias) kept.kept.waited kept.output))
    c.in_ok-push.ensures.items)

pub returns : goal.returns
returns c p told finals t each are =
    left_none p told finals (drop c.loop-part.part-index c.args.threads.now) c.loop-part.sections.items (t ++ thread_sections p told finals (beginnings told.history))
    (drop_all c.loop-part.part-index c.args.threads.now (omega arith)) (c.loop-part.invariant p told finals t each are)
