use Rattle.std.proofs.Common.{◌≡◌, ◌<◌, ℕ, List, refl, sym, ap, ◌∙◌, subst}
use Rattle.atom_words.specs.Texts.{row_of}
use Rattle.atom_words.specs.Seats.{PutsRow}
use Rattle.atom_words.specs.Ties.{own_slot}
use Rattle.atom_words.specs.declared.size.Size.{Size}
use Rattle.atom_words.specs.declared.view.View.{View}
use Rattle.atom_words.proofs.Putting.{row_keeps, row_own}
use Rattle.atom_words.proofs.Tied.{same_walks, same_passes}
use Rattle.atom_words.proofs.words.Words.put_text.Goals as goal

pub put_row-requires-clause-own : goal.put_row-requires-clause-own
put_row-requires-clause-own c = let s = c.args.seat.now in let o = c.requires.own in (o.0, o.1, o.2, o.3, ap (own_slot s.own) (sym o.1) ∙ s.owns.0)

pub invariant_of-seat : goal.invariant_of-seat
invariant_of-seat c = let s = c.args.seat.now in let v : View = s.seat.me.0 in let w : View = c.put_row.new.seat.me.0 in let row : List ℕ = row_of c.args.text.now in let is : PutsRow row v w = c.put_row.ensures.steps in let o = c.requires.own.0 in
    let size : w.size ≡ v.size = row_keeps (λ (y : View). y.size) (λ _ _. refl) (λ _ _. refl) (λ _ _ _. refl) (λ _. refl) row v w is in
    let walk : w.walk ≡ v.walk = row_keeps (λ (y : View). y.walk) (λ _ _. refl) (λ _ _. refl) (λ _ _ _. refl) (λ _. refl) row v w is in
    let pass : w.pass ≡ v.pass = row_keeps (λ (y : View). y.pass) (λ _ _. refl) (λ _ _. refl) (λ _ _ _. refl) (λ _. refl) row v w is in
    let slot : o.slot ≡ s.own = ap (own_slot s.own) (sym c.requires.own.1) ∙ s.owns.0 in let now = row_own o row v w c.requires.own.3 c.requires.own.1 is in record {
      slotless = c.put_row.ensures.same.2 ∙ s.slotless;
      numbered = (row_keeps (λ (y : View). y.cycle.engine) (λ _ _. refl) (λ _ _. refl) (λ _ _ _. refl) (λ _. refl) row v w is ∙ s.numbered);
      acknowledged = (row_keeps (λ (y : View). y.cycle.acked) (λ _ _. refl) (λ _ _. refl) (λ _ _ _. refl) (λ _. refl) row v w is ∙ s.acknowledged);
      owns = (ap (own_slot s.own) now.1 ∙ slot, subst (λ (y : Size). s.own < y.slots) (sym size) s.owns.1);
      walks = same_walks v w s.head s.word walk size s.walks;
      passes = same_passes v w s.began s.first s.counted pass s.passes;
    }
