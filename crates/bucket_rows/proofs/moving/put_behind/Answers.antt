use Rattle.std.proofs.Common.{◌≡◌, ◌+◌, ◌<◌, ℕ, [], ◌∷◌, refl, sym, ap, ◌∙◌, subst, ⊎_elim, List, ◌++◌, arith}
use Rattle.atom_words.specs.Board.{link_at}
use Rattle.atom_words.specs.Kinds.{view_after}
use Rattle.atom_words.specs.declared.view.Held.{Held}
use Rattle.atom_words.specs.declared.size.Size.{Size}
use Rattle.atom_words.specs.declared.view.View.{View}
use Rattle.atom_words.specs.declared.kind.Kind.TheVariants.{MoveLink}
use Rattle.atom_words.proofs.Tied.{own_tied, walk_tied, pass_tied}
use Rattle.bucket_rows.specs.Treads.{Before}
use Rattle.bucket_rows.proofs.RowGoes.{putting_at_link}
use Rattle.bucket_rows.proofs.moving.put_behind.Goals as goal

-- the last slot that the walk passed
last_seen : (last : ℕ) (seen : List Held) → Before (last + 1) seen → (front : List Held) × (c : Held) × (seen ≡ front ++ c ∷ []) × (c.slot ≡ last)
last_seen last seen b = ⊎_elim
    (λ (t : (last + 1 ≡ 0) × (seen ≡ [])). absurd (omega (arith, t.0)))
    (λ (t : (front : List Held) × (c : Held) × (seen ≡ front ++ c ∷ []) × (last + 1 ≡ c.slot + 1)). (t.0, t.1, t.2, omega (arith, t.3)))
    b

pub store-requires : goal.store-requires
store-requires c = let words = c.args.words.now in let s = c.args.seat.now.seat in let same : words.size ≡ s.me.0.size = sym c.requires.fits.1 in let p = c.requires.picked in let l = last_seen c.args.last p.1.seen p.7 in (
  c.requires.fits.0,
  c.link_place-place.ensures.inside,
  putting_at_link words.table.shared.key words.table.shared.table_id.slots s.id s.me (words.keyed ∙ same) c.requires.fits.2 c.link_place-place.result (c.args.slot + 1) p.0 l.1 p.1 l.0 c.requires.moves.0 c.requires.moves.1 p.2 p.4 (sym p.5) p.6 l.2 (subst (λ (k : ℕ). k < s.me.0.size.slots) (sym l.3) (subst (λ (z : Size). c.args.last < z.slots) same c.requires.slot.1)) (c.link_place-place.ensures.place ∙ (λ i. link_at (same i) (sym l.3 i))) (ap (λ (n : ℕ). n + 1) (sym p.3)),
)

pub invariant_of-seat : goal.invariant_of-seat
invariant_of-seat c = let words = c.args.words.now in let s = c.args.seat.now in let same : words.size ≡ s.seat.me.0.size = sym c.requires.fits.1 in let v : View = s.seat.me.0 in let w : View = c.store.new.seat.me.0 in let a : View = view_after v (MoveLink c.args.last) in
    let is : w ≡ a = c.store.ensures.2.1 c.args.last (c.link_place-place.ensures.place ∙ ap (λ (z : Size). link_at z c.args.last) same) in record {
      slotless = c.store.ensures.2.0 ∙ s.slotless;
      numbered = ap (λ (y : View). y.cycle.engine) is ∙ s.numbered;
      acknowledged = ap (λ (y : View). y.cycle.acked) is ∙ s.acknowledged;
      owns = own_tied a w s.own is s.owns;
      walks = walk_tied a w s.head s.word is (refl, refl, s.walks.2);
      passes = pass_tied a w s.began s.first s.counted is s.passes;
    }

pub returns-clause-steps : goal.returns-clause-steps
returns-clause-steps c = let same = sym c.requires.fits.1 in c.store.ensures.2.1 c.args.last (c.link_place-place.ensures.place ∙ ap (λ (z : Size). link_at z c.args.last) same)
