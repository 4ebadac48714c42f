use Rattle.std.proofs.Common.{◌≡◌, ◌<◌, ◌+◌, ◌*◌, ◌/◌, ◌%◌, eqb, ℕ, refl, sym, ap, ◌∙◌, subst, arith}
use mathlib.Core.Option.{none}
use prog.Atomic.{either}
use Rattle.atomic_table.specs.Table.{step, Allows}
use Rattle.atom_words.specs.Layout.{closed_of, version_of, head_word}
use Rattle.atom_words.specs.Board.{head_at}
use Rattle.atom_words.specs.Ties.{walk_head, walk_word}
use Rattle.atom_words.specs.Rule.{Rule}
use Rattle.atom_words.specs.Kinds.{view_after}
use Rattle.atom_words.specs.declared.size.Size.{Size}
use Rattle.atom_words.specs.declared.view.View.{View}
use Rattle.atom_words.specs.declared.kind.Kind.TheVariants.{Start}
use Rattle.atom_words.proofs.Tied.{own_tied, walk_tied, pass_tied}
use Rattle.bucket_rows.specs.Plays.{unlinked_head}
use Rattle.bucket_rows.proofs.SweepSteps.{unlinking_head}
use Rattle.bucket_rows.proofs.unlinks.unlink_head.Goals as goal

pub compare_exchange-found-requires : goal.compare_exchange-found-requires
compare_exchange-found-requires c = let words = c.args.words.now in let s = c.args.seat.now in let same : words.size ≡ s.seat.me.0.size = sym c.requires.fits.1 in let q = c.requires.dying in
    let word : q.1.word ≡ s.word = ap (walk_word s.word) (sym q.4) ∙ s.walks.1 in let head : s.head ≡ q.1.head = sym (ap (walk_head s.head) (sym q.4) ∙ s.walks.0) in
    let key = words.table.shared.key in let slots : ℕ = words.table.shared.table_id.slots in let i : ℕ = c.head_place-place.result in let new : ℕ = c.args.link + 2097152 * (s.word / 2097152 % 2) + 4194304 * (s.word / 4194304 + 1) in
    let P : ℕ → Type 0 = λ n. Allows (Rule key) slots s.seat.id s.seat.me i (λ m. either (eqb m n) new m) (unlinked_head (step slots i n new none) s.seat.me) in (
      c.requires.fits.0,
      c.head_place-place.ensures.inside,
      subst P word (unlinking_head key slots s.seat.id s.seat.me (words.keyed ∙ same) c.requires.fits.2 i new c.args.link q.0 q.1 q.2 q.4 q.5 q.3 q.6
          (subst (λ (h : ℕ). h < s.seat.me.0.size.heads) head s.walks.2) (c.head_place-place.ensures.place ∙ (λ j. head_at (same j) (head j)))
          (let plain : head_word c.args.link (closed_of s.word) (version_of s.word + 1) ≡ new = omega arith in sym (ap (λ (n : ℕ). head_word c.args.link (closed_of n) (version_of n + 1)) word ∙ plain))),
    )

pub invariant_of-seat-else-found-old : goal.invariant_of-seat-else-found-old
invariant_of-seat-else-found-old c = let words = c.args.words.now in let s = c.args.seat.now in let same : words.size ≡ s.seat.me.0.size = sym c.requires.fits.1 in let v : View = s.seat.me.0 in let w : View = c.compare_exchange-found.new.seat.me.0 in let x : ℕ = c.compare_exchange-found.result in let a : View = view_after v (Start s.head x) in
    let is : w ≡ a = (c.compare_exchange-found.ensures.2.2 c.if-found-old.false).2 s.head (c.head_place-place.ensures.place ∙ ap (λ (z : Size). head_at z s.head) same) in record {
      slotless = c.compare_exchange-found.ensures.2.0 ∙ s.slotless;
      numbered = ap (λ (y : View). y.cycle.engine) is ∙ s.numbered;
      acknowledged = ap (λ (y : View). y.cycle.acked) is ∙ s.acknowledged;
      owns = own_tied a w s.own is s.owns;
      walks = walk_tied a w s.head x is (refl, refl, s.walks.2);
      passes = pass_tied a w s.began s.first s.counted is s.passes;
    }
