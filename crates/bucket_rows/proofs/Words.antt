-- The epoch word and the acknowledgement words: reads, writes, and what a kind of step on them gives to a step of the table.
use Rattle.std.proofs.Common.{◌≡◌, ℕ, ◌+◌, ◌-◌, ◌*◌, replicate, ◌<◌, List, [], ◌∷◌, ◌++◌, get_or, set, refl, ap, ◌∙◌, arith, get_or-append-add, false}
use mathlib.Core.Option.{some}
use lib.ListN.{get_elem?, get_or-append}
use lib.Seq.{set-append_left}
use Rattle.std.proofs.lemmas.List.{set-append_right}
use Rattle.atomic_table.specs.Table.{Allows}
use Rattle.atom_words.specs.Board.{Board, Sized, laid, spread, near_word, far_word, gap, ack_at, with_epoch, with_ack}
use Rattle.atom_words.specs.Rule.{Rule}
use Rattle.atom_words.specs.Kept.{Kept}
use Rattle.atom_words.specs.declared.size.Size.{Size}
use Rattle.atom_words.specs.declared.view.View.{View}
use Rattle.atom_words.proofs.Adapters.{Sat, Picks, goes_at, load_at}

module _ (z : Size) (b : Board) (s : Sized z b) where
  abbrev after_acks : List ℕ
  after_acks = b.heads ++ (replicate (gap z) 0 ++ (spread (near_word b) 0 (8 * z.slots) ++ spread (far_word b) 0 (26 * z.slots)))

  pub ack_read : (e : ℕ) → e < z.engines → get_or (laid z b) (ack_at z e) 0 ≡ get_or b.acks e 0
  ack_read e h = get_or-append (b.epoch ∷ b.row ∷ b.acks) after_acks 0 (2 + e) (omega (arith, s.acks)) ∙ get_or-append-add (b.epoch ∷ b.row ∷ []) b.acks e 0

  pub ack_write : (e x : ℕ) → e < z.engines → set (laid z b) (ack_at z e) x ≡ laid z (with_ack b e x)
  ack_write e x h = let back : 2 + e - 2 ≡ e = omega arith in set-append_left (b.epoch ∷ b.row ∷ b.acks) after_acks (2 + e) x (omega (arith, s.acks))
      ∙ ap (λ (l : List ℕ). l ++ after_acks) (set-append_right (b.epoch ∷ b.row ∷ []) b.acks 2 (2 + e) x refl (omega arith) ∙ ap (λ (j : ℕ). b.epoch ∷ b.row ∷ set b.acks j x) back)

pub epoch_goes : (key z : Size) (slots id : ℕ) (me : Sat) (f : ℕ → ℕ) (then : ℕ → Sat → Type 0) → key ≡ z → me.0.gone ≡ false
    → ((b : Board) (vs : List View) → Kept z b vs → get_elem? vs id ≡ some me.0 → b.epoch < 18446744073709551616 → Picks z id me 0 then (λ y. y.epoch) b (with_epoch b (f b.epoch)))
    → Allows (Rule key) slots id me 0 f then
epoch_goes key z slots id me f then is here picks = goes_at key z slots id me 0 f then (λ y. y.epoch) (λ y x. with_epoch y x) (λ b sz. refl) (λ b x sz. refl) is here picks

pub ack_goes : (key z : Size) (slots id : ℕ) (me : Sat) (e : ℕ) (f : ℕ → ℕ) (then : ℕ → Sat → Type 0) → key ≡ z → me.0.gone ≡ false → e < z.engines
    → ((b : Board) (vs : List View) → Kept z b vs → get_elem? vs id ≡ some me.0 → get_or b.acks e 0 < 18446744073709551616 → Picks z id me (ack_at z e) then (λ y. get_or y.acks e 0) b (with_ack b e (f (get_or b.acks e 0))))
    → Allows (Rule key) slots id me (ack_at z e) f then
ack_goes key z slots id me e f then is here inside picks = goes_at key z slots id me (ack_at z e) f then (λ y. get_or y.acks e 0) (λ y x. with_ack y e x) (λ b sz. ack_read z b sz e inside) (λ b x sz. ack_write z b sz e x inside) is here picks

pub ack_load : (key z : Size) (slots id : ℕ) (me : Sat) (e : ℕ) (then : ℕ → Sat → Type 0) → key ≡ z → me.0.gone ≡ false → e < z.engines
    → ((b : Board) (vs : List View) → Kept z b vs → get_elem? vs id ≡ some me.0 → get_or b.acks e 0 < 18446744073709551616 → Picks z id me (ack_at z e) then (λ y. get_or y.acks e 0) b b)
    → Allows (Rule key) slots id me (ack_at z e) (λ n. n) then
ack_load key z slots id me e then is here inside picks = load_at key z slots id me (ack_at z e) then (λ y. get_or y.acks e 0) (λ b sz. ack_read z b sz e inside) is here picks
