use Rattle.std.proofs.Common.{◌≡◌, ◌+◌, ◌-◌, ◌^◌, ◌<◌, ℕ, refl, sym, ap, ◌∙◌, subst, inl, inr, ⊎_elim, arith}
use Rattle.atom_words.specs.Layout.{row_first}
use Rattle.atom_words.specs.Board.{head_at}
use Rattle.atom_words.specs.Kinds.{view_after}
use Rattle.atom_words.specs.declared.size.Size.{Size}
use Rattle.atom_words.specs.declared.view.View.{View}
use Rattle.atom_words.specs.declared.kind.Kind.TheVariants.{Publish}
use Rattle.atom_words.proofs.Tied.{own_tied, walk_tied, pass_tied}
use Rattle.bucket_rows.proofs.RowGoes.{opening_head}
use Rattle.bucket_rows.proofs.opening.open_head.Goals as goal

pub row_start-requires : goal.row_start-requires
row_start-requires c = let ok = c.args.words.now.allowed in let row = c.requires.row in (row.0.0, omega (arith, row.0.1, ok))

pub head_place-place-requires : goal.head_place-place-requires
head_place-place-requires c = let row = c.requires.row in let at = c.row_start.ensures in omega (arith, row.0.0, row.0.1, row.1, row.2, at)

pub fetch_add-requires : goal.fetch_add-requires
fetch_add-requires c = let words = c.args.words.now in let s = c.args.seat.now.seat in let same : words.size ≡ s.me.0.size = sym c.requires.fits.1 in let q = c.requires.rows in let r = q.3 in let row = c.requires.row in let inside : row_first c.args.row + c.args.shut - 1 < words.size.heads = omega (arith, row.0.0, row.0.1, row.1, row.2) in let top : row_first c.args.row + c.args.shut - 1 + 1 ≡ row_first c.args.row + c.args.shut = omega (arith, row.1) in (
  c.requires.fits.0,
  c.head_place-place.ensures.inside,
  opening_head words.table.shared.key words.table.shared.table_id.slots s.id s.me (words.keyed ∙ same) c.requires.fits.2 c.head_place-place.result (row_first c.args.row + c.args.shut - 1) r.idle (subst (λ (n : ℕ). 0 < n) (sym r.shut_is) row.1) (⊎_elim (λ (e : q.0 ≡ c.args.row). inl (r.aim_is ∙ (e ∙ sym r.row_is))) (λ (less : c.args.shut < 2 ^ c.args.row). inr (subst (λ (p : ℕ × ℕ). p.1 < 2 ^ p.0) (λ i. (sym r.row_is i, sym r.shut_is i)) less)) q.4) (top ∙ (λ i. row_first (sym r.row_is i) + sym r.shut_is i)) (subst (λ (z : Size). row_first c.args.row + c.args.shut - 1 < z.heads) same inside) (c.head_place-place.ensures.place ∙ (λ i. head_at (same i) (c.row_start.ensures i + c.args.shut - 1))),
)

pub invariant_of-seat : goal.invariant_of-seat
invariant_of-seat c = let words = c.args.words.now in let s = c.args.seat.now in let same : words.size ≡ s.seat.me.0.size = sym c.requires.fits.1 in let v : View = s.seat.me.0 in let w : View = c.fetch_add.new.seat.me.0 in let a : View = view_after v (Publish (row_first c.args.row + c.args.shut - 1)) in
    let is : w ≡ a = c.fetch_add.ensures.2.1 (row_first c.args.row + c.args.shut - 1) (c.head_place-place.ensures.place ∙ (λ i. head_at (same i) (c.row_start.ensures i + c.args.shut - 1))) in record {
      slotless = c.fetch_add.ensures.2.0 ∙ s.slotless;
      numbered = ap (λ (y : View). y.cycle.engine) is ∙ s.numbered;
      acknowledged = ap (λ (y : View). y.cycle.acked) is ∙ s.acknowledged;
      owns = own_tied a w s.own is s.owns;
      walks = walk_tied a w s.head s.word is (refl, refl, s.walks.2);
      passes = pass_tied a w s.began s.first s.counted is s.passes;
    }

pub returns-clause-steps : goal.returns-clause-steps
returns-clause-steps c = let same = sym c.requires.fits.1 in c.fetch_add.ensures.2.1 (row_first c.args.row + c.args.shut - 1) (c.head_place-place.ensures.place ∙ (λ i. head_at (same i) (c.row_start.ensures i + c.args.shut - 1)))
