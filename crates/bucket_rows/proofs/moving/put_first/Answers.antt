use Rattle.std.proofs.Common.{◌≡◌, ◌+◌, ◌<◌, ℕ, refl, sym, ap, ◌∙◌, subst, arith}
use Rattle.atom_words.specs.Board.{head_at}
use Rattle.atom_words.specs.Layout.{first_of, closed_of}
use Rattle.atom_words.specs.Kinds.{view_after}
use Rattle.atom_words.specs.declared.size.Size.{Size}
use Rattle.atom_words.specs.declared.view.View.{View}
use Rattle.atom_words.specs.declared.kind.Kind.TheVariants.{MoveHead}
use Rattle.atom_words.proofs.Tied.{own_tied, walk_tied, pass_tied}
use Rattle.bucket_rows.proofs.RowGoes.{putting_at_head}
use Rattle.bucket_rows.proofs.moving.put_first.Goals as goal

pub overflow_add-word-2 : goal.overflow_add-word-2
overflow_add-word-2 c = let ok = c.args.words.now.allowed in let low = c.requires.slot in let t = c.requires.walk in omega (arith, ok, low, t.4, t.5)

pub overflow_add-word : goal.overflow_add-word
overflow_add-word c = let ok = c.args.words.now.allowed in let low = c.requires.slot in let t = c.requires.walk in omega (arith, ok, low, t.4, t.5)

pub store-requires : goal.store-requires
store-requires c = let words = c.args.words.now in let s = c.args.seat.now.seat in let same : words.size ≡ s.me.0.size = sym c.requires.fits.1 in let t = c.requires.walk in let p = c.requires.picked in (
  c.requires.fits.0,
  c.head_place-place.ensures.inside,
  putting_at_head words.table.shared.key words.table.shared.table_id.slots s.id s.me (words.keyed ∙ same) c.requires.fits.2 c.head_place-place.result (c.args.word + c.args.slot + 1) p.0 t.0 c.requires.moves.0 c.requires.moves.1 p.1 t.1 (t.2 ∙ sym p.3) (ap first_of t.3 ∙ t.4) (ap closed_of t.3 ∙ t.5) (subst (λ (h : ℕ). h < s.me.0.size.heads) (sym t.2) (subst (λ (z : Size). c.args.head < z.heads) same c.requires.head)) (c.head_place-place.ensures.place ∙ (λ i. head_at (same i) (sym t.2 i))) (ap (λ (n : ℕ). n + c.args.slot + 1) (sym t.3) ∙ ap (λ (n : ℕ). t.0.word + n + 1) (sym p.2)),
)

pub invariant_of-seat : goal.invariant_of-seat
invariant_of-seat c = let words = c.args.words.now in let s = c.args.seat.now in let same : words.size ≡ s.seat.me.0.size = sym c.requires.fits.1 in let v : View = s.seat.me.0 in let w : View = c.store.new.seat.me.0 in let a : View = view_after v (MoveHead c.args.head) in
    let is : w ≡ a = c.store.ensures.2.1 c.args.head (c.head_place-place.ensures.place ∙ ap (λ (z : Size). head_at z c.args.head) same) in record {
      slotless = c.store.ensures.2.0 ∙ s.slotless;
      numbered = ap (λ (y : View). y.cycle.engine) is ∙ s.numbered;
      acknowledged = ap (λ (y : View). y.cycle.acked) is ∙ s.acknowledged;
      owns = own_tied a w s.own is s.owns;
      walks = walk_tied a w s.head s.word is (refl, refl, s.walks.2);
      passes = pass_tied a w s.began s.first s.counted is s.passes;
    }

pub returns-clause-steps : goal.returns-clause-steps
returns-clause-steps c = let same = sym c.requires.fits.1 in c.store.ensures.2.1 c.args.head (c.head_place-place.ensures.place ∙ ap (λ (z : Size). head_at z c.args.head) same)
