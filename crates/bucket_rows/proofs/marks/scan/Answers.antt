use Rattle.std.proofs.Common.{◌≡◌, ◌<◌, ℕ, Bool, inl, inr, refl, sym, ap, ◌∙◌, subst}
use Rattle.std.specs.Prelude.{◌||◌, if◌then◌else◌}
use Rattle.std.proofs.lemmas.Bool.{cases_Bool}
use Rattle.atom_words.specs.Board.{atom_at}
use Rattle.atom_words.specs.Kinds.{guarding, view_after}
use Rattle.atom_words.specs.declared.size.Size.{Size}
use Rattle.atom_words.specs.declared.view.View.{View}
use Rattle.atom_words.specs.declared.kind.Kind.TheVariants.{Scan, Protect}
use Rattle.atom_words.proofs.Tied.{own_tied, walk_tied, pass_tied, walk_head_on, walk_word_on}
use Rattle.bucket_rows.specs.Touches.{has_slot, touch}
use Rattle.bucket_rows.proofs.CycleSteps.{scanning}
use Rattle.bucket_rows.proofs.marks.scan.Goals as goal

pub fetch_or-requires : goal.fetch_or-requires
fetch_or-requires c = let words = c.args.words.now in let s = c.args.seat.now.seat in let same : words.size ≡ s.me.0.size = sym c.requires.fits.1 in (
  c.requires.fits.0,
  c.atom_place-place.ensures.inside,
  scanning words.table.shared.key words.table.shared.table_id.slots s.id s.me (words.keyed ∙ same) c.requires.fits.2 c.atom_place-place.result c.args.a
      (c.atom_place-place.ensures.place ∙ (λ i. atom_at (same i) (c.slot.ensures i))) (subst (λ (z : Size). c.args.a < z.slots) same c.requires.slot) c.requires.scanning,
)

pub invariant_of-seat : goal.invariant_of-seat
invariant_of-seat c = let words = c.args.words.now in let s = c.args.seat.now in let same : words.size ≡ s.seat.me.0.size = sym c.requires.fits.1 in let v : View = s.seat.me.0 in let w : View = c.fetch_or.new.seat.me.0 in let x : ℕ = c.fetch_or.result in
    let is : w ≡ view_after v (touch v c.args.a x) = c.fetch_or.ensures.2.1 c.args.a (c.atom_place-place.ensures.place ∙ (λ i. atom_at (same i) (c.slot.ensures i))) in elim (cases_Bool (has_slot c.args.a v.held || has_slot c.args.a v.fixed)) [
      | inl t ↦ let a : View = view_after v (Scan c.args.a) in let so : w ≡ a = is ∙ ap (λ (o : Bool). view_after v (if o then Scan c.args.a else Protect c.args.a x)) t in record {
        slotless = c.fetch_or.ensures.2.0 ∙ s.slotless;
        numbered = ap (λ (y : View). y.cycle.engine) so ∙ s.numbered;
        acknowledged = ap (λ (y : View). y.cycle.acked) so ∙ s.acknowledged;
        owns = own_tied a w s.own so s.owns;
        walks = walk_tied a w s.head s.word so s.walks;
        passes = pass_tied a w s.began s.first s.counted so s.passes;
      }
      | inr f ↦ let a : View = view_after v (Protect c.args.a x) in let g = guarding c.args.a x in let so : w ≡ a = is ∙ ap (λ (o : Bool). view_after v (if o then Scan c.args.a else Protect c.args.a x)) f in record {
        slotless = c.fetch_or.ensures.2.0 ∙ s.slotless;
        numbered = ap (λ (y : View). y.cycle.engine) so ∙ s.numbered;
        acknowledged = ap (λ (y : View). y.cycle.acked) so ∙ s.acknowledged;
        owns = own_tied a w s.own so s.owns;
        walks = walk_tied a w s.head s.word so (walk_head_on g v.walk s.head (λ _. refl) s.walks.0, walk_word_on g v.walk s.word (λ _. refl) s.walks.1, s.walks.2);
        passes = pass_tied a w s.began s.first s.counted so s.passes;
      }
    ]
