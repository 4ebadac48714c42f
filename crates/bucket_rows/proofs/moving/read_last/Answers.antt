use Rattle.std.proofs.Common.{◌≡◌, ℕ, sym, ap, ◌∙◌}
use Rattle.atom_words.specs.Board.{link_at}
use Rattle.atom_words.specs.Kinds.{view_after, after}
use Rattle.atom_words.specs.declared.size.Size.{Size}
use Rattle.atom_words.specs.declared.view.View.{View}
use Rattle.atom_words.specs.declared.kind.Kind.TheVariants.{Load}
use Rattle.atom_words.proofs.WalkSteps.{loading}
use Rattle.bucket_rows.specs.Walks.{reads}
use Rattle.bucket_rows.proofs.moving.read_last.Goals as goal

-- the link word is read
looked : goal.load-requires
looked c = let words = c.args.words.now in let s = c.args.seat.now in let same : words.size ≡ s.me.0.size = sym c.requires.fits.1 in
    (c.requires.fits.0, c.link_place-link.ensures.inside, loading words.table.shared.key words.table.shared.table_id.slots s.id s.me (words.keyed ∙ same) c.requires.fits.2 c.link_place-link.result)

pub load-requires : goal.load-requires
load-requires = looked

pub read_text-requires-clause-fits : goal.read_text-requires-clause-fits
read_text-requires-clause-fits c = let is = c.load.ensures.2.1 in (c.load.ensures.0 ∙ c.requires.fits.0, ap (λ (y : View). y.size) is ∙ c.requires.fits.1, ap (λ (y : View). y.gone) is ∙ c.requires.fits.2)

pub read_text-requires-clause-walk : goal.read_text-requires-clause-walk
read_text-requires-clause-walk c = let q = c.requires.walk in (q.0, ap (λ (y : View). y.walk) c.load.ensures.2.1 ∙ q.1, q.2, q.3)

pub returns-then-load-eq0-clause-steps : goal.returns-then-load-eq0-clause-steps
returns-then-load-eq0-clause-steps c = let v : View = c.args.seat.now.me.0 in let x : ℕ = c.load.result in let at = c.link_place-link.ensures.place ∙ ap (λ (z : Size). link_at z c.args.slot) (sym c.requires.fits.1) in let e = c.read_text.ensures in
    (x, (e.whole, e.steps ∙ (ap (λ (y : View). after y (reads c.read_text.result)) c.load.ensures.2.1 ∙ (λ i. after (view_after v (Load (at i) x)) (reads c.read_text.result)))))

pub returns-else-load-eq0-clause-steps : goal.returns-else-load-eq0-clause-steps
returns-else-load-eq0-clause-steps c = let v : View = c.args.seat.now.me.0 in let x : ℕ = c.load.result in let at = c.link_place-link.ensures.place ∙ ap (λ (z : Size). link_at z c.args.slot) (sym c.requires.fits.1) in
    (x, c.load.ensures.2.1 ∙ (λ i. view_after v (Load (at i) x)))
