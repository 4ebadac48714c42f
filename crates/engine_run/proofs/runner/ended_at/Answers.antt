use Rattle.engine_run.proofs.runner.ended_at.Goals as goal

pub returns-in_ok-how-in-Ended-clause-how : goal.returns-in_ok-how-in-Ended-clause-how
returns-in_ok-how-in-Ended-clause-how g c = (c.in_ok-how-in-Ended.ensures.how, c.in_ok-how-in-Ended.ensures.told)
