use Rattle.std.proofs.Common.{◌≡◌, ℕ, ◌<◌, ◌≤◌, ◌-◌, suc, List, ◌∷◌, length, get_or, refl, sym, ap, subst, ◌∙◌, arith}
use Rattle.iso_search.specs.declared.frames.Task.{Task}
use Rattle.iso_search.specs.declared.frames.Frame.{Frame}
use Rattle.iso_search.specs.Frames.{AreLinked, no_frame, tasks}
use Rattle.iso_search.proofs.Stacked.{tasks-zero, tasks-past, tasks-at}
use Rattle.iso_search.proofs.frames.first_task.Goals as goal

-- The list begins with the frame before its number.
first_at : (fs : List Frame) (i : ℕ) (x : Task) → AreLinked fs → (i ≡ 0 → ⊥) → i ≤ length fs → (get_or fs (i - 1) no_frame).task ≡ x
    → let next = (get_or fs (i - 1) no_frame).continuation in
    (tasks fs i ≡ x ∷ tasks fs next) × ((next ≤ length fs) × (next < i))
first_at fs i x linked some within is =
    let place : suc (i - 1) ≡ i = omega (arith, some) in
    let lt : i - 1 < length fs = omega (arith, some, within) in
    let below = linked (i - 1) lt in
    let next = (get_or fs (i - 1) no_frame).continuation in
    let first = ap (tasks fs) (sym place) ∙ tasks-at fs (i - 1) linked lt in
    (subst (λ (y : Task). tasks fs i ≡ y ∷ tasks fs next) is first, (omega (arith, below, lt), omega (arith, below, lt)))

pub returns-then-list-eq0 : goal.returns-then-list-eq0
returns-then-list-eq0 c = ap (tasks c.args.frames.now) c.if-list-eq0.true ∙ tasks-zero c.args.frames.now

pub returns-then-list-frames : goal.returns-then-list-frames
returns-then-list-frames c = tasks-past c.args.frames.now c.args.list c.if-list-frames.true

pub returns-in-Goal : goal.returns-in-Goal
returns-in-Goal c = first_at c.args.frames.now c.args.list _ c.requires c.if-list-eq0.false c.if-list-frames.false c.in-Goal.is

pub returns-in_default : goal.returns-in_default
returns-in_default c = first_at c.args.frames.now c.args.list _ c.requires c.if-list-eq0.false c.if-list-frames.false refl
