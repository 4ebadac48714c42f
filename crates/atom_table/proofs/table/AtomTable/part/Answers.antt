use Rattle.std.proofs.Common.{sym, ap, ◌∙◌, subst}
use Rattle.atom_words.specs.Seats.{seen}
use Rattle.atom_words.specs.declared.view.View.{View}
use Rattle.atom_table.specs.Holding.{Sound}
use Rattle.atom_table.proofs.Counting.{sound_parted}
use Rattle.atom_table.proofs.table.AtomTable.part.Goals as goal

pub returns-clause-sits : goal.returns-clause-sits
returns-clause-sits c = let v : View = seen c.args.seat.now in let l = c.part_keeper.ensures.left in let r = c.part_keeper.ensures.right in let s = sound_parted v c.requires.2 in (
  (
    (c.part_keeper.ensures.same.0 ∙ c.requires.0.0, ap (λ (y : View). y.size) l ∙ c.requires.0.1, ap (λ (y : View). y.gone) l ∙ c.requires.0.2),
    ap (λ (y : View). y.own) l ∙ c.requires.1,
    subst Sound (sym l) s.0,
  ),
  (
    (r.0, ap (λ (y : View). y.size) r.1 ∙ c.requires.0.1, ap (λ (y : View). y.gone) r.1),
    ap (λ (y : View). y.own) r.1,
    subst Sound (sym r.1) s.1,
  ),
)
