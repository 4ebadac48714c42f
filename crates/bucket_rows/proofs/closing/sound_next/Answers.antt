use Rattle.std.proofs.Common.{◌≡◌, ◌+◌, ◌<◌, ℕ, sym, ◌∙◌, subst, arith}
use Rattle.atom_words.specs.Layout.{row_first}
use Rattle.atom_words.specs.Board.{head_at}
use Rattle.atom_words.specs.Kinds.{view_after}
use Rattle.atom_words.specs.declared.size.Size.{Size}
use Rattle.atom_words.specs.declared.kind.Kind.TheVariants.{Load}
use Rattle.bucket_rows.proofs.RowGoes.{sounding}
use Rattle.bucket_rows.proofs.closing.sound_next.Goals as goal

pub row_start-requires : goal.row_start-requires
row_start-requires c = let ok = c.args.words.now.allowed in let row = c.requires.aim in (row.0.0, omega (arith, row.0.1, ok))

pub head_place-place-requires : goal.head_place-place-requires
head_place-place-requires c = let row = c.requires.aim in let at = c.row_start.ensures in omega (arith, row.0.0, row.0.1, row.1, at)

pub load-word-requires : goal.load-word-requires
load-word-requires c = let words = c.args.words.now in let s = c.args.seat.now.seat in let same : words.size ≡ s.me.0.size = sym c.requires.fits.1 in let q = c.requires.rows in let r = q.3 in let row = c.requires.aim in let inside : row_first c.args.aim + c.args.sound < words.size.heads = omega (arith, row.0.0, row.0.1, row.1) in (
  c.requires.fits.0,
  c.head_place-place.ensures.inside,
  sounding words.table.shared.key words.table.shared.table_id.slots s.id s.me (words.keyed ∙ same) c.requires.fits.2 c.head_place-place.result c.args.aim c.args.sound r.idle (subst (λ (n : ℕ). 0 < n) (sym r.shut_is) q.4) (λ e. q.5 (sym r.aim_is ∙ (e ∙ r.row_is))) r.aim_is r.sound_is c.requires.aim.1 (subst (λ (z : Size). row_first c.args.aim + c.args.sound < z.heads) same inside) (c.head_place-place.ensures.place ∙ (λ i. head_at (same i) (c.row_start.ensures i + c.args.sound))),
)

pub returns-then-word-ge-WORN-clause-steps : goal.returns-then-word-ge-WORN-clause-steps
returns-then-word-ge-WORN-clause-steps c = let same = sym c.requires.fits.1 in (c.if-word-ge-WORN.true, c.load-word.ensures.2.2 c.if-word-ge-WORN.true ∙ (λ i. view_after c.args.seat.now.seat.me.0 (Load ((c.head_place-place.ensures.place ∙ (λ i. head_at (same i) (c.row_start.ensures i + c.args.sound))) i) c.load-word.result)))

pub returns-else-word-ge-WORN-clause-steps : goal.returns-else-word-ge-WORN-clause-steps
returns-else-word-ge-WORN-clause-steps c = (c.load-word.result, c.load-word.ensures.2.1 (let low = c.if-word-ge-WORN.false in omega (arith, low)))
