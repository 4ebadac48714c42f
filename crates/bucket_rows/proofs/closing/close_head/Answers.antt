use Rattle.std.proofs.Common.{◌≡◌, ◌+◌, ◌<◌, ℕ, refl, sym, ap, ◌∙◌, subst, eqb}
use mathlib.Core.Option.{none}
use prog.Atomic.{either}
use Rattle.atomic_table.specs.Table.{step, Allows}
use Rattle.atom_words.specs.Layout.{first_of, closed_of, version_of, head_word, row_first}
use Rattle.atom_words.specs.Board.{head_at}
use Rattle.atom_words.specs.Ties.{walk_head, walk_word}
use Rattle.atom_words.specs.Rule.{Rule}
use Rattle.atom_words.specs.Kinds.{view_after}
use Rattle.atom_words.specs.declared.size.Size.{Size}
use Rattle.atom_words.specs.declared.view.View.{View}
use Rattle.atom_words.specs.declared.kind.Kind.TheVariants.{Close, Start}
use Rattle.atom_words.proofs.Tied.{own_tied, walk_tied, pass_tied}
use Rattle.bucket_rows.specs.RowPlays.{head_closed}
use Rattle.bucket_rows.proofs.RowGoes.{closing}
use Rattle.bucket_rows.proofs.RowWords.{shut_word}
use Rattle.bucket_rows.proofs.closing.close_head.Goals as goal

pub head_place-place-requires : goal.head_place-place-requires
head_place-place-requires c = subst (λ (z : Size). c.args.seat.now.head < z.heads) c.requires.fits.1 c.args.seat.now.walks.2

pub compare_exchange-found-requires : goal.compare_exchange-found-requires
compare_exchange-found-requires c = let words = c.args.words.now in let s = c.args.seat.now in let same : words.size ≡ s.seat.me.0.size = sym c.requires.fits.1 in let q = c.requires.walk in let r = c.requires.rows.3 in
    let word : q.0.word ≡ s.word = ap (walk_word s.word) (sym q.1) ∙ s.walks.1 in let head : s.head ≡ q.0.head = sym (ap (walk_head s.head) (sym q.1) ∙ s.walks.0) in
    let key = words.table.shared.key in let slots : ℕ = words.table.shared.table_id.slots in let i : ℕ = c.head_place-place.result in let new : ℕ = s.word + 2097152 + 4194304 in
    let P : ℕ → Type 0 = λ n. Allows (Rule key) slots s.seat.id s.seat.me i (λ m. either (eqb m n) new m) (head_closed (step slots i n new none) s.seat.me) in (
      c.requires.fits.0,
      c.head_place-place.ensures.inside,
      subst P word (closing key slots s.seat.id s.seat.me (words.keyed ∙ same) c.requires.fits.2 i new c.args.row c.args.shut q.0 r.idle r.row_is r.shut_is c.requires.row.1 q.1 q.2 q.3 q.4
          (subst (λ (h : ℕ). h < s.seat.me.0.size.heads) head s.walks.2) (c.head_place-place.ensures.place ∙ (λ j. head_at (same j) (head j)))
          (sym (ap (λ (n : ℕ). head_word (first_of n) 1 (version_of n + 1)) word ∙ shut_word s.word (ap closed_of (sym word) ∙ q.3)))),
    )

pub invariant_of-seat : goal.invariant_of-seat
invariant_of-seat c = let words = c.args.words.now in let s = c.args.seat.now in let same : words.size ≡ s.seat.me.0.size = sym c.requires.fits.1 in let v : View = s.seat.me.0 in let w : View = c.compare_exchange-found.new.seat.me.0 in let a : View = view_after v (Close s.head) in
    let is : w ≡ a = (c.compare_exchange-found.ensures.2.1 s.head (c.head_place-place.ensures.place ∙ ap (λ (z : Size). head_at z s.head) same)).0 c.if-found-old.true in record {
      slotless = c.compare_exchange-found.ensures.2.0 ∙ s.slotless;
      numbered = ap (λ (y : View). y.cycle.engine) is ∙ s.numbered;
      acknowledged = ap (λ (y : View). y.cycle.acked) is ∙ s.acknowledged;
      owns = own_tied a w s.own is s.owns;
      walks = walk_tied a w s.head s.word is (refl, refl, s.walks.2);
      passes = pass_tied a w s.began s.first s.counted is s.passes;
    }

pub invariant_of-seat-else-found-old : goal.invariant_of-seat-else-found-old
invariant_of-seat-else-found-old c = let words = c.args.words.now in let s = c.args.seat.now in let same : words.size ≡ s.seat.me.0.size = sym c.requires.fits.1 in let v : View = s.seat.me.0 in let w : View = c.compare_exchange-found.new.seat.me.0 in let x : ℕ = c.compare_exchange-found.result in let a : View = view_after v (Start s.head x) in
    let is : w ≡ a = ((c.compare_exchange-found.ensures.2.1 s.head (c.head_place-place.ensures.place ∙ ap (λ (z : Size). head_at z s.head) same)).1 c.if-found-old.false).2 in record {
      slotless = c.compare_exchange-found.ensures.2.0 ∙ s.slotless;
      numbered = ap (λ (y : View). y.cycle.engine) is ∙ s.numbered;
      acknowledged = ap (λ (y : View). y.cycle.acked) is ∙ s.acknowledged;
      owns = own_tied a w s.own is s.owns;
      walks = walk_tied a w s.head x is (refl, refl, s.walks.2);
      passes = pass_tied a w s.began s.first s.counted is s.passes;
    }

pub returns-then-found-old-clause-steps : goal.returns-then-found-old-clause-steps
returns-then-found-old-clause-steps c = let s = c.args.seat.now in let same = sym c.requires.fits.1 in let q = c.requires.walk in let head : s.head ≡ row_first c.args.row + c.args.shut = sym (ap (walk_head s.head) (sym q.1) ∙ s.walks.0) ∙ q.2 in
    (c.compare_exchange-found.ensures.2.1 (row_first c.args.row + c.args.shut) (c.head_place-place.ensures.place ∙ (λ i. head_at (same i) (head i)))).0 c.if-found-old.true

pub returns-else-found-old-clause-steps : goal.returns-else-found-old-clause-steps
returns-else-found-old-clause-steps c = let s = c.args.seat.now in let same = sym c.requires.fits.1 in let q = c.requires.walk in let head : s.head ≡ row_first c.args.row + c.args.shut = sym (ap (walk_head s.head) (sym q.1) ∙ s.walks.0) ∙ q.2 in
    (c.compare_exchange-found.ensures.2.1 (row_first c.args.row + c.args.shut) (c.head_place-place.ensures.place ∙ (λ i. head_at (same i) (head i)))).1 c.if-found-old.false
