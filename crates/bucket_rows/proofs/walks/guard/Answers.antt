use Rattle.std.proofs.Common.{◌≡◌, ◌<◌, ℕ, sym, ap, ◌∙◌, subst, Some, None}
use Rattle.atom_words.specs.Board.{atom_at}
use Rattle.atom_words.specs.Kinds.{view_after}
use Rattle.atom_words.specs.declared.size.Size.{Size}
use Rattle.atom_words.specs.declared.view.View.{View}
use Rattle.atom_words.specs.declared.kind.Kind.TheVariants.{Load, Protect}
use Rattle.atom_words.proofs.Steps.{protecting}
use Rattle.bucket_rows.proofs.Seeing.{seeing_mark}
use Rattle.bucket_rows.proofs.walks.guard.Goals as goal

pub load-found-requires : goal.load-found-requires
load-found-requires c = let same : c.args.words.now.size ≡ c.args.seat.now.me.0.size = sym c.requires.fits.1 in (
  c.requires.fits.0,
  c.atom_place-place.ensures.inside,
  seeing_mark c.args.words.now.table.shared.key c.args.words.now.table.shared.table_id.slots c.args.seat.now.id c.args.seat.now.me (c.args.words.now.keyed ∙ same) c.requires.fits.2 c.atom_place-place.result c.args.slot
      (c.atom_place-place.ensures.place ∙ ap (λ (y : Size). atom_at y c.args.slot) same) (subst (λ (y : Size). c.args.slot < y.slots) same c.requires.slot),
)

pub returns-then-found-eq7-clause-steps : goal.returns-then-found-eq7-clause-steps
returns-then-found-eq7-clause-steps c = let same : c.args.words.now.size ≡ c.args.seat.now.me.0.size = sym c.requires.fits.1 in
    (None, (c.load-found.ensures.2.1 c.args.slot (c.atom_place-place.ensures.place ∙ ap (λ (y : Size). atom_at y c.args.slot) same)).0 c.if-found-eq7.true)

pub fetch_or-requires : goal.fetch_or-requires
fetch_or-requires c = let same : c.args.words.now.size ≡ c.args.seat.now.me.0.size = sym c.requires.fits.1 in let v : View = c.args.seat.now.me.0 in let u : View = c.load-found.new.seat.me.0 in let x : ℕ = c.load-found.result in
    let is : u ≡ view_after v (Load c.atom_place-place.result x) = (c.load-found.ensures.2.1 c.args.slot (c.atom_place-place.ensures.place ∙ ap (λ (y : Size). atom_at y c.args.slot) same)).1 c.if-found-eq7.false in
    let size : c.args.words.now.size ≡ u.size = same ∙ sym (ap (λ (y : View). y.size) is) in (
      c.load-found.ensures.0 ∙ c.requires.fits.0,
      c.atom_place-place.ensures.inside,
      protecting c.args.words.now.table.shared.key c.args.words.now.table.shared.table_id.slots c.load-found.new.seat.id c.load-found.new.seat.me (c.args.words.now.keyed ∙ size) (ap (λ (y : View). y.gone) is ∙ c.requires.fits.2) c.atom_place-place.result c.args.slot
          (c.atom_place-place.ensures.place ∙ ap (λ (y : Size). atom_at y c.args.slot) size) (subst (λ (y : Size). c.args.slot < y.slots) size c.requires.slot),
    )

pub returns-clause-steps : goal.returns-clause-steps
returns-clause-steps c = let same : c.args.words.now.size ≡ c.args.seat.now.me.0.size = sym c.requires.fits.1 in let v : View = c.args.seat.now.me.0 in let u : View = c.load-found.new.seat.me.0 in let x : ℕ = c.load-found.result in
    let is : u ≡ view_after v (Load c.atom_place-place.result x) = (c.load-found.ensures.2.1 c.args.slot (c.atom_place-place.ensures.place ∙ ap (λ (y : Size). atom_at y c.args.slot) same)).1 c.if-found-eq7.false in
    let size : c.args.words.now.size ≡ u.size = same ∙ sym (ap (λ (y : View). y.size) is) in
    (Some (c.atom_place-place.result, x), c.fetch_or.ensures.2.1 c.args.slot (c.atom_place-place.ensures.place ∙ ap (λ (y : Size). atom_at y c.args.slot) size) ∙ ap (λ (y : View). view_after y (Protect c.args.slot c.fetch_or.result)) is)
