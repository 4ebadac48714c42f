use Rattle.builtin_term.specs.Courses.{Leaves}
use Rattle.builtin_term.proofs.course.Course.leave.Given as goal

abbrev pub invariant-loop : goal.invariant-loop
invariant-loop l =
    record {
      leaves : Leaves l.height l.fn.self.opened.items l.fn.self.left l.self.opened.items l.self.left;
    }
