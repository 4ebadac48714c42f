use Rattle.std.proofs.Common.{sym, ◌∙◌, refl, arith}
use Rattle.std.proofs.lemmas.Bool.{false≢true}
use Rattle.gen_core.proofs.Erasures.{not_droppable, droppable_below}
use Rattle.gen_core.proofs.clause_index.ClauseIndex.drop_erased.Goals as goal

pub returns-then-place-floor-clause-dropped : goal.returns-then-place-floor-clause-dropped
returns-then-place-floor-clause-dropped g c = record {
  number = c.take_out.ensures.out.number;
  entry = c.take_out.ensures.out.entry;
  was = c.take_out.ensures.out.was;
  droppable = droppable_below c.take_out.ensures.out.entry.dated c.in-Some.place c.args.floor c.take_out.ensures.out.at c.if-place-floor.true;
  dated_is = c.take_out.ensures.out.dated_is;
  entries = c.take_out.ensures.out.entries;
}

pub returns-else-place-floor-clause-dropped : goal.returns-else-place-floor-clause-dropped
returns-else-place-floor-clause-dropped g c = record {
  none = λ q. not_droppable c.args.self.now.clauses c.args.floor q (λ k h. (let l = c.in-Some.ensures.1 k q h in omega (arith, l, c.if-place-floor.false)));
  same = refl;
}

pub returns-in-None-clause-dropped : goal.returns-in-None-clause-dropped
returns-in-None-clause-dropped g c = record {
  none = λ q. not_droppable c.args.self.now.clauses c.args.floor q (λ k h. absurd (false≢true (sym (c.in-None.ensures k q) ∙ h)));
  same = refl;
}
