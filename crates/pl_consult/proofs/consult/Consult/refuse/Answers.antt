use Rattle.pl_model.specs.Control.{consult_proc}
use Rattle.pl_model.specs.Balls.{error_ball}
use Rattle.run_model.specs.Execution.{ball_of_item, clause_added}
use Rattle.pl_model.specs.Requests.{refused}
use Rattle.std.proofs.Common.{refl}
use Rattle.pl_consult.proofs.ConsultLemmas.{on_ok, stands_line}
use Rattle.pl_consult.proofs.consult.Consult.refuse.Goals as goal

pub returns : goal.returns
returns c job x next s =
    on_ok
    c.put_refused_item.result
    (stands_line c.args.self.now job x (clause_added x c.args.ops.now c.args.place next (refused c.args.error)) _ _ (ball_of_item c.args.ops.now c.args.place (error_ball c.args.error consult_proc)) s refl refl)
    (rw c.in_ok-ball.ensures at c.put_refused_item.ensures _ s.lines)
