use Rattle.std.proofs.Common.{sym, ap, ◌∙◌, subst}
use Rattle.atom_words.specs.Seats.{seen}
use Rattle.atom_words.specs.declared.view.View.{View}
use Rattle.atom_table.specs.Holding.{Sound}
use Rattle.atom_table.proofs.Counting.{sound_joined}
use Rattle.atom_table.proofs.table.AtomTable.with_both.Goals as goal

pub returns-clause-sits : goal.returns-clause-sits
returns-clause-sits c = let v : View = seen c.args.seat.now in let k : View = seen c.args.keeper.seat in let e = c.with_keeper.ensures.both in (
  (c.with_keeper.ensures.same.0 ∙ c.requires.seat.0.0, ap (λ (y : View). y.size) e ∙ c.requires.seat.0.1, ap (λ (y : View). y.gone) e ∙ c.requires.seat.0.2),
  ap (λ (y : View). y.own) e ∙ c.requires.seat.1,
  subst Sound (sym e) (sound_joined v k (c.requires.seat.0.1 ∙ sym c.requires.keeper.0.1) c.requires.seat.2 c.requires.keeper.2),
)
