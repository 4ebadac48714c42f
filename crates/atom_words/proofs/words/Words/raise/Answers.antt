use Rattle.std.proofs.Common.{ap, ◌∙◌}
use Rattle.atom_words.specs.Seats.{Unchanged}
use Rattle.atom_words.specs.declared.view.View.{View}
use Rattle.atom_words.proofs.Tied.{own_tied, walk_tied, pass_tied, raises_unchanged}
use Rattle.atom_words.proofs.words.Words.raise.Goals as goal

pub invariant_of-seat : goal.invariant_of-seat
invariant_of-seat c = let s = c.args.seat.now in let v : View = s.seat.me.0 in let w : View = c.raise_head.new.seat.me.0 in let u : Unchanged v w = raises_unchanged c.args.head v c.raise_head.result w c.raise_head.ensures.steps in let y : View = record v { risen = u.1; made = u.0 } in record {
  slotless = c.raise_head.ensures.same.2 ∙ s.slotless;
  numbered = ap (λ (y : View). y.cycle.engine) u.2 ∙ s.numbered;
  acknowledged = ap (λ (y : View). y.cycle.acked) u.2 ∙ s.acknowledged;
  owns = own_tied y w s.own u.2 s.owns;
  walks = walk_tied y w s.head s.word u.2 s.walks;
  passes = pass_tied y w s.began s.first s.counted u.2 s.passes;
}

pub returns-clause-unchanged : goal.returns-clause-unchanged
returns-clause-unchanged c = raises_unchanged c.args.head c.args.seat.now.seat.me.0 c.raise_head.result c.raise_head.new.seat.me.0 c.raise_head.ensures.steps
