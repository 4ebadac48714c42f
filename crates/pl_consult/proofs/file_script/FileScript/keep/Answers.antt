use Rattle.std.proofs.Common.{ap}
use Rattle.pl_model.specs.OperatorTable.{OperatorTable}
use Rattle.run_model.specs.Execution.{Refusal}
use Rattle.pl_consult.proofs.file_script.FileScript.keep.Goals as goal

pub returns-clause-refused : goal.returns-clause-refused
returns-clause-refused c =
    record {
      goal = record { number = c.args.number; ball = c.args.ball; operators = c.in_ok-clone.field-0 };
      is = ap (λ (o : OperatorTable). let r : Refusal = record { number = c.args.number; ball = c.args.ball; operators = o } in r) c.in_ok-clone.ensures.cases;
      put = c.in_ok-push.ensures.items;
    }
