use Rattle.std.proofs.Common.{◌≡◌, ◌<◌, ℕ, sym, ◌∙◌, subst}
use Rattle.atom_words.specs.Board.{head_at}
use Rattle.atom_words.specs.Plays.{Stale}
use Rattle.atom_words.specs.declared.size.Size.{Size}
use Rattle.atom_words.specs.declared.view.Walk.{Walk}
use Rattle.atom_words.proofs.WalkSteps.{finding_moved}
use Rattle.bucket_rows.proofs.walks.moved.Goals as goal

pub load-new-requires : goal.load-new-requires
load-new-requires c = let same : c.args.words.now.size ≡ c.args.seat.now.me.0.size = sym c.requires.fits.1 in let w : Walk = c.requires.stale.0 in let head : c.args.head ≡ w.head = sym c.requires.stale.3 in (
  c.requires.fits.0,
  c.head_place-top.ensures.inside,
  finding_moved c.args.words.now.table.shared.key c.args.words.now.table.shared.table_id.slots c.args.seat.now.id c.args.seat.now.me (c.args.words.now.keyed ∙ same) c.requires.fits.2 c.head_place-top.result w c.requires.stale.1
      (subst (λ (y : Size). Stale y w) same c.requires.stale.2) (subst (λ (h : ℕ). h < c.args.seat.now.me.0.size.heads) head (subst (λ (y : Size). c.args.head < y.heads) same c.requires.head))
      (c.head_place-top.ensures.place ∙ (λ i. head_at (same i) (head i))),
)
