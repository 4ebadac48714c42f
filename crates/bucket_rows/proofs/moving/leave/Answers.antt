use Rattle.std.proofs.Common.{◌≡◌, ◌+◌, ◌-◌, ap, ◌∙◌, arith}
use Rattle.atom_words.specs.Seats.{seen}
use Rattle.atom_words.specs.declared.view.View.{View}
use Rattle.atom_words.specs.declared.kind.Kind.TheVariants.{LeaveHead, LeaveLink}
use Rattle.bucket_rows.proofs.RowLaws.{rows_one}
use Rattle.bucket_rows.proofs.moving.leave.Goals as goal

pub leave_head-requires-clause-moves : goal.leave_head-requires-clause-moves
leave_head-requires-clause-moves c = let m = c.requires.moves in (m.0, m.1, m.2 ∙ c.if-before-eq0.true, m.3)

pub overflow_cast-before : goal.overflow_cast-before
overflow_cast-before c = omega (arith, c.requires.low, c.args.words.now.allowed)

pub leave_link-requires-clause-slot : goal.leave_link-requires-clause-slot
leave_link-requires-clause-slot c = let ne = c.if-before-eq0.false in omega (arith, c.requires.low, ne)

pub leave_link-requires-clause-moves : goal.leave_link-requires-clause-moves
leave_link-requires-clause-moves c = let m = c.requires.moves in let ne = c.if-before-eq0.false in (m.0, m.1, m.2 ∙ (let one : c.args.before ≡ c.args.before - 1 + 1 = omega (arith, ne) in one))

pub returns-then-before-eq0-clause-steps : goal.returns-then-before-eq0-clause-steps
returns-then-before-eq0-clause-steps c = rows_one (seen c.args.seat.now) (seen c.leave_head.new.seat) (LeaveHead c.args.head) tt c.leave_head.ensures.steps

pub returns-then-before-eq0-clause-rows : goal.returns-then-before-eq0-clause-rows
returns-then-before-eq0-clause-rows c = ap (λ (y : View). y.growing) c.leave_head.ensures.steps

pub returns-else-before-eq0-clause-steps : goal.returns-else-before-eq0-clause-steps
returns-else-before-eq0-clause-steps c = rows_one (seen c.args.seat.now) (seen c.leave_link.new.seat) (LeaveLink (c.args.before - 1)) tt c.leave_link.ensures.steps

pub returns-else-before-eq0-clause-rows : goal.returns-else-before-eq0-clause-rows
returns-else-before-eq0-clause-rows c = ap (λ (y : View). y.growing) c.leave_link.ensures.steps
