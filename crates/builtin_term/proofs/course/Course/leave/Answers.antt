use Rattle.std.proofs.Common.{subst}
use Rattle.builtin_term.specs.Courses.{LeavesOne}
use Rattle.builtin_term.proofs.Coursing.{leaves_more, leaves_none, leaves_same}
use Rattle.builtin_term.proofs.course.Course.leave.Goals as goal

pub loop-init : goal.loop-init
loop-init c = record { leaves = leaves_none c.args.height c.args.self.now.opened.items c.args.self.now.left }

pub loop-preserved : goal.loop-preserved
loop-preserved c =
    record {
      leaves =
          leaves_more c.args.height c.args.self.now.opened.items c.args.self.now.left c.loop.self.opened.items c.loop.self.left
          c.leave_one.new.self.opened.items c.leave_one.new.self.left c.loop.invariant.leaves
          (subst (λ b. LeavesOne b c.args.height c.loop.self.opened.items c.loop.self.left c.leave_one.new.self.opened.items c.leave_one.new.self.left)
          c.if-not-branch.false c.in_ok-leave_one.ensures);
    }

pub returns-then-not-branch : goal.returns-then-not-branch
returns-then-not-branch c =
    leaves_same c.args.height c.args.self.now.opened.items c.args.self.now.left c.loop.self.opened.items c.loop.self.left
    c.leave_one.new.self.opened.items c.leave_one.new.self.left c.loop.invariant.leaves
    (subst (λ b. LeavesOne b c.args.height c.loop.self.opened.items c.loop.self.left c.leave_one.new.self.opened.items c.leave_one.new.self.left)
    c.if-not-branch.true c.in_ok-leave_one.ensures)
