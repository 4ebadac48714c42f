use Rattle.gen_core.specs.ClauseIndex.{MarksAt, ErasesAt}
use Rattle.gen_core.proofs.Erasures.{erases_marked}
use Rattle.gen_core.proofs.Listed.{if_ok}
use Rattle.gen_core.proofs.clause_index.ClauseIndex.erase.Goals as goal

pub returns-in-Some-clause-ok : goal.returns-in-Some-clause-ok
returns-in-Some-clause-ok g c =
    if_ok c.erase_at.result
    (MarksAt c.args.self.now.clauses c.erase_at.new.self.clauses c.in-Some.number c.args.place)
    (ErasesAt c.args.self.now.clauses c.erase_at.new.self.clauses c.args.clause c.args.place)
    (erases_marked c.args.self.now.clauses c.erase_at.new.self.clauses c.args.clause c.args.place c.in-Some.number c.in-Some.ensures.number)
    c.erase_at.ensures.ok
