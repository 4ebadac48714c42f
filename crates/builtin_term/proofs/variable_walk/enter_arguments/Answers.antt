use Rattle.std.proofs.Common.{true, inl, inr, refl, subst, ◌∙◌}
use Rattle.builtin_term.specs.Courses.{Enters}
use Rattle.builtin_term.proofs.PartAnswers.{on_both}
use Rattle.builtin_term.proofs.variable_walk.enter_arguments.Goals as goal

pub returns-then-not-branch-clause-passes : goal.returns-then-not-branch-clause-passes
returns-then-not-branch-clause-passes c =
    let old = c.args.walk.now in
    let e = subst (λ b. Enters b (record { left = c.args.arguments; right = c.args.arguments }) c.len-height.result old.course.opened.items old.course.left
    c.enter.new.self.opened.items) c.if-not-branch.true c.in_ok-enter.ensures.enters in
    inl (record { places = refl; opened = e.0; same = c.in_ok-enter.ensures.left; among = e.1 })

pub returns-clause-passes : goal.returns-clause-passes
returns-clause-passes c =
    let old = c.args.walk.now in
    on_both _ _ _ c.push_arguments.result c.push_arguments.ensures.gains c.push_arguments.ensures.gains
    (λ gains _.
    inr (record {
      gains = gains;
      enters =
          subst (λ n. Enters true (record { left = c.args.arguments; right = c.args.arguments }) n old.course.opened.items old.course.left
          c.enter.new.self.opened.items) (c.len-height.ensures ∙ old.places.ok.0)
          (subst (λ b. Enters b (record { left = c.args.arguments; right = c.args.arguments }) c.len-height.result old.course.opened.items old.course.left
          c.enter.new.self.opened.items) c.if-not-branch.false c.in_ok-enter.ensures.enters);
      same = c.in_ok-enter.ensures.left;
    }))
