use Rattle.std.proofs.Common.{◌≡◌, List, ℕ, refl, sym, ap, ◌∙◌, subst}
use Rattle.atom_words.specs.Kinds.{after}
use Rattle.atom_words.specs.Ties.{WalkTied}
use Rattle.atom_words.specs.declared.view.View.{View}
use Rattle.atom_words.proofs.Tied.{same_owns, same_passes}
use Rattle.bucket_rows.specs.Treads.{spells}
use Rattle.bucket_rows.proofs.Treading.{spells_keep, spells_tied}
use Rattle.bucket_rows.proofs.spells.spell_row.Goals as goal

pub invariant_of-seat : goal.invariant_of-seat
invariant_of-seat c = let s = c.args.seat.now in let v : View = s.seat.me.0 in let w : View = c.read_row.new.seat.me.0 in let ws : List ℕ = c.read_row.ensures.steps.0 in let is : w ≡ after v (spells ws) = c.read_row.ensures.steps.1 in record {
  slotless = c.read_row.ensures.same.2 ∙ s.slotless;
  numbered = ap (λ (y : View). y.cycle.engine) is ∙ (spells_keep (λ (y : View). y.cycle.engine) (λ _ _. refl) v ws ∙ s.numbered);
  acknowledged = ap (λ (y : View). y.cycle.acked) is ∙ (spells_keep (λ (y : View). y.cycle.acked) (λ _ _. refl) v ws ∙ s.acknowledged);
  owns = same_owns v w s.own (ap (λ (y : View). y.own) is ∙ spells_keep (λ (y : View). y.own) (λ _ _. refl) v ws) (ap (λ (y : View). y.size) is ∙ spells_keep (λ (y : View). y.size) (λ _ _. refl) v ws) s.owns;
  walks = subst (λ (y : View). WalkTied y s.head s.word) (sym is) (spells_tied v s.head s.word ws s.walks);
  passes = same_passes v w s.began s.first s.counted (ap (λ (y : View). y.pass) is ∙ spells_keep (λ (y : View). y.pass) (λ _ _. refl) v ws) s.passes;
}
