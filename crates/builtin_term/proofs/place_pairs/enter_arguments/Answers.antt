use Rattle.std.proofs.Common.{refl, subst}
use Rattle.term_store.specs.Contents.{arguments_at}
use Rattle.world_builtins.specs.Spelling.{text_of}
use Rattle.builtin_term.specs.Courses.{Enters}
use Rattle.builtin_term.specs.Heads.{list_order}
use Rattle.builtin_term.proofs.Comparing.{known_same, list_same, opens_nothing, opens_pairs}
use Rattle.builtin_term.proofs.PartAnswers.{on_both}
use Rattle.builtin_term.proofs.place_pairs.enter_arguments.Goals as goal

pub returns-then-is_same-clause-opens : goal.returns-then-is_same-clause-opens
returns-then-is_same-clause-opens c m known =
    let s = c.args.store.now in
    opens_nothing m s (list_order (text_of m) (arguments_at s c.args.left) (arguments_at s c.args.right)) c.args.pending.now c.args.pending.now refl refl refl
    (list_same (text_of m) s c.args.left c.args.right (c.is_same.ensures.0 c.if-is_same.true))

pub returns-then-not-branch-clause-opens : goal.returns-then-not-branch-clause-opens
returns-then-not-branch-clause-opens c m known =
    let s = c.args.store.now in
    let old = c.args.pending.now in
    let e = subst (λ b. Enters b (record { left = c.args.left; right = c.args.right }) c.len-height.result old.course.opened.items old.course.left
    c.enter.new.self.opened.items) c.if-not-branch.true c.in_ok-enter.ensures.enters in
    opens_nothing m s (list_order (text_of m) (arguments_at s c.args.left) (arguments_at s c.args.right)) old (record old { course = c.enter.new.self }) refl e.0
    c.in_ok-enter.ensures.left (known_same m s c.args.left c.args.right old.course.left known e.1)

pub returns-clause-opens : goal.returns-clause-opens
returns-clause-opens c =
    let s = c.args.store.now in
    let old = c.args.pending.now in
    on_both _ _ _ c.push_pairs.result c.push_pairs.ensures.gains c.push_pairs.ensures.gains
    (λ gains _ m known.
    opens_pairs m s c.args.left c.args.right c.len-height.result old (record { pairs = c.push_pairs.new.pending; course = c.enter.new.self })
    c.len-height.ensures.value
    (subst (λ b. Enters b (record { left = c.args.left; right = c.args.right }) c.len-height.result old.course.opened.items old.course.left
    c.enter.new.self.opened.items) c.if-not-branch.false c.in_ok-enter.ensures.enters)
    c.in_ok-enter.ensures.left gains)
