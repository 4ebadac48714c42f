use Rattle.std.proofs.Common.{◌≡◌, ◌<◌, refl, sym, ap, ◌∙◌, subst}
use Rattle.atom_words.specs.Board.{head_at}
use Rattle.atom_words.specs.Kinds.{view_after}
use Rattle.atom_words.specs.declared.size.Size.{Size}
use Rattle.atom_words.specs.declared.view.View.{View}
use Rattle.atom_words.specs.declared.kind.Kind.TheVariants.{LeaveHead}
use Rattle.atom_words.proofs.Tied.{own_tied, walk_tied, pass_tied}
use Rattle.bucket_rows.proofs.RowGoes.{leaving_head}
use Rattle.bucket_rows.proofs.moving.leave_head.Goals as goal

pub fetch_and-requires : goal.fetch_and-requires
fetch_and-requires c = let words = c.args.words.now in let s = c.args.seat.now.seat in let same : words.size ≡ s.me.0.size = sym c.requires.fits.1 in let m = c.requires.moves in (
  c.requires.fits.0,
  c.head_place-place.ensures.inside,
  leaving_head words.table.shared.key words.table.shared.table_id.slots s.id s.me (words.keyed ∙ same) c.requires.fits.2 c.head_place-place.result c.args.head m.0 m.1 m.2 m.3 (subst (λ (z : Size). c.args.head < z.heads) same c.requires.head) (c.head_place-place.ensures.place ∙ ap (λ (z : Size). head_at z c.args.head) same),
)

pub invariant_of-seat : goal.invariant_of-seat
invariant_of-seat c = let words = c.args.words.now in let s = c.args.seat.now in let same : words.size ≡ s.seat.me.0.size = sym c.requires.fits.1 in let v : View = s.seat.me.0 in let w : View = c.fetch_and.new.seat.me.0 in let a : View = view_after v (LeaveHead c.args.head) in
    let is : w ≡ a = c.fetch_and.ensures.2.1 c.args.head (c.head_place-place.ensures.place ∙ ap (λ (z : Size). head_at z c.args.head) same) in record {
      slotless = c.fetch_and.ensures.2.0 ∙ s.slotless;
      numbered = ap (λ (y : View). y.cycle.engine) is ∙ s.numbered;
      acknowledged = ap (λ (y : View). y.cycle.acked) is ∙ s.acknowledged;
      owns = own_tied a w s.own is s.owns;
      walks = walk_tied a w s.head s.word is (refl, refl, s.walks.2);
      passes = pass_tied a w s.began s.first s.counted is s.passes;
    }

pub returns-clause-steps : goal.returns-clause-steps
returns-clause-steps c = let same = sym c.requires.fits.1 in c.fetch_and.ensures.2.1 c.args.head (c.head_place-place.ensures.place ∙ ap (λ (z : Size). head_at z c.args.head) same)
