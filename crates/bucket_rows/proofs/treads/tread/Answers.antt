use Rattle.std.proofs.Common.{◌≡◌, List, ℕ, refl, sym, ap, ◌∙◌, subst}
use Rattle.atom_words.specs.Kinds.{after}
use Rattle.atom_words.specs.Ties.{WalkTied}
use Rattle.atom_words.specs.declared.view.View.{View}
use Rattle.atom_words.proofs.Tied.{same_owns, same_passes}
use Rattle.bucket_rows.specs.Treads.{nexts}
use Rattle.bucket_rows.proofs.Treading.{nexts_keep, nexts_tied}
use Rattle.bucket_rows.proofs.treads.tread.Goals as goal

pub invariant_of-seat : goal.invariant_of-seat
invariant_of-seat c = let s = c.args.seat.now in let v : View = s.seat.me.0 in let w : View = c.tread_chain.new.seat.me.0 in let xs : List ℕ = c.tread_chain.ensures.steps.0 in let is : w ≡ after v (nexts xs) = c.tread_chain.ensures.steps.1 in record {
  slotless = c.tread_chain.ensures.same.2 ∙ s.slotless;
  numbered = ap (λ (y : View). y.cycle.engine) is ∙ (nexts_keep (λ (y : View). y.cycle.engine) (λ _ _. refl) v xs ∙ s.numbered);
  acknowledged = ap (λ (y : View). y.cycle.acked) is ∙ (nexts_keep (λ (y : View). y.cycle.acked) (λ _ _. refl) v xs ∙ s.acknowledged);
  owns = same_owns v w s.own (ap (λ (y : View). y.own) is ∙ nexts_keep (λ (y : View). y.own) (λ _ _. refl) v xs) (ap (λ (y : View). y.size) is ∙ nexts_keep (λ (y : View). y.size) (λ _ _. refl) v xs) s.owns;
  walks = subst (λ (y : View). WalkTied y s.head s.word) (sym is) (nexts_tied v s.head s.word xs s.walks);
  passes = same_passes v w s.began s.first s.counted (ap (λ (y : View). y.pass) is ∙ nexts_keep (λ (y : View). y.pass) (λ _ _. refl) v xs) s.passes;
}
