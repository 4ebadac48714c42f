use Rattle.std.proofs.Common.{sym, ◌∙◌}
use Rattle.clause_db.proofs.Indexing.{left_others, left_next, left_none}
use Rattle.clause_db.proofs.index.Places.remove.Goals as goal

pub returns-then-self-place-clause-left : goal.returns-then-self-place-clause-left
returns-then-self-place-clause-left c = λ _ q. left_others q c.args.place c.args.self.now.one c.args.self.now.others.items c.take_out.new.places.items c.if-self-place.true c.take_out.ensures

pub returns-in-Some-clause-left : goal.returns-in-Some-clause-left
returns-in-Some-clause-left c = λ _ q.
    left_next q c.args.place c.args.self.now.one c.in-Some.next c.args.self.now.others.items c.take_out.new.places.items c.pop.new.self.items c.if-self-place.false c.take_out.ensures c.in-Some.ensures.items

pub returns-in-None-clause-none : goal.returns-in-None-clause-none
returns-in-None-clause-none c = λ _ q.
    left_none q c.args.place c.args.self.now.one c.args.self.now.others.items c.take_out.new.places.items c.if-self-place.false c.take_out.ensures (sym c.take_out.new.places.ok.0 ∙ c.in-None.ensures.cases.0)
