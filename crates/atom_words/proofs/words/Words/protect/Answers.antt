use Rattle.std.proofs.Common.{◌≡◌, ◌<◌, refl, sym, ap, ◌∙◌, subst}
use Rattle.atom_words.specs.Board.{atom_at}
use Rattle.atom_words.specs.Kinds.{guarding, view_after}
use Rattle.atom_words.specs.declared.size.Size.{Size}
use Rattle.atom_words.specs.declared.view.View.{View}
use Rattle.atom_words.specs.declared.kind.Kind.TheVariants.{Protect}
use Rattle.atom_words.proofs.Steps.{protecting}
use Rattle.atom_words.proofs.Tied.{own_tied, walk_tied, pass_tied, walk_head_on, walk_word_on}
use Rattle.atom_words.proofs.words.Words.protect.Goals as goal

pub fetch_or-found-requires : goal.fetch_or-found-requires
fetch_or-found-requires c = let same : c.args.self.now.size ≡ c.args.seat.now.seat.me.0.size = sym c.requires.fits.1 in (
  c.requires.fits.0,
  c.atom_place-place.ensures.inside,
  protecting c.args.self.now.table.shared.key c.args.self.now.table.shared.table_id.slots c.args.seat.now.seat.id c.args.seat.now.seat.me (c.args.self.now.keyed ∙ same) c.requires.fits.2 c.atom_place-place.result c.args.slot
      (c.atom_place-place.ensures.place ∙ ap (λ (y : Size). atom_at y c.args.slot) same) (subst (λ (y : Size). c.args.slot < y.slots) same c.requires.slot),
)

pub invariant_of-seat : goal.invariant_of-seat
invariant_of-seat c = let same : c.args.self.now.size ≡ c.args.seat.now.seat.me.0.size = sym c.requires.fits.1 in let v : View = c.args.seat.now.seat.me.0 in let w : View = c.fetch_or-found.new.seat.me.0 in
    let is : w ≡ view_after v (Protect c.args.slot c.fetch_or-found.result) = c.fetch_or-found.ensures.2.1 c.args.slot (c.atom_place-place.ensures.place ∙ ap (λ (y : Size). atom_at y c.args.slot) same) in
    let f = guarding c.args.slot c.fetch_or-found.result in let s = c.args.seat.now in record {
      slotless = c.fetch_or-found.ensures.2.0 ∙ s.slotless;
      numbered = ap (λ (y : View). y.cycle.engine) is ∙ s.numbered;
      acknowledged = ap (λ (y : View). y.cycle.acked) is ∙ s.acknowledged;
      owns = own_tied (view_after v (Protect c.args.slot c.fetch_or-found.result)) w s.own is s.owns;
      walks = walk_tied (view_after v (Protect c.args.slot c.fetch_or-found.result)) w s.head s.word is (walk_head_on f v.walk s.head (λ x. refl) s.walks.0, walk_word_on f v.walk s.word (λ x. refl) s.walks.1, s.walks.2);
      passes = pass_tied (view_after v (Protect c.args.slot c.fetch_or-found.result)) w s.began s.first s.counted is s.passes;
    }
