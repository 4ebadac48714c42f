use Rattle.iso_engine.proofs.Followed.{enough, not_enough}
use Rattle.iso_engine.proofs.answering.after_solution.Goals as goal

pub returns-then-solution_limit-solutions_found : goal.returns-then-solution_limit-solutions_found
returns-then-solution_limit-solutions_found c t e wants gave = enough t e c.args.solution_limit c.args.solutions_found wants gave c.if-solution_limit-solutions_found.true

pub returns-else-solution_limit-solutions_found : goal.returns-else-solution_limit-solutions_found
returns-else-solution_limit-solutions_found c t e wants gave = not_enough t e c.args.solution_limit c.args.solutions_found wants gave c.if-solution_limit-solutions_found.false
