use Rattle.std.proofs.Common.{◌≡◌, ◌<◌, ◌+◌, ◌*◌, ◌/◌, ℕ, sym, ap, ◌∙◌, subst, arith}
use Rattle.atom_words.specs.Layout.{phase_of, epoch_of, epoch_word}
use Rattle.atom_words.specs.Kinds.{view_after}
use Rattle.atom_words.specs.declared.view.Sweeping.{Sweeping}
use Rattle.atom_words.specs.declared.view.View.{View}
use Rattle.atom_words.specs.declared.kind.Kind.TheVariants.{Load, Begin}
use Rattle.bucket_rows.proofs.CycleSteps.{knowing_word, beginning}
use Rattle.bucket_rows.proofs.cycles.begin.Goals as goal

pub load-word-requires : goal.load-word-requires
load-word-requires c = let words = c.args.words.now in let s = c.args.seat.now.seat in let same = sym c.requires.fits.1 in (
  c.requires.fits.0,
  omega (arith, words.counted),
  knowing_word words.table.shared.key words.table.shared.table_id.slots s.id s.me (words.keyed ∙ same) c.requires.fits.2,
)

pub store-requires : goal.store-requires
store-requires c = let words = c.args.words.now in let v : View = c.args.seat.now.seat.me.0 in let s = c.load-word.new.seat in let u : View = s.me.0 in let y : Sweeping = c.requires.collector.0 in
    let is = c.load-word.ensures.2.0.1 in let word : c.load-word.result ≡ y.word = c.load-word.ensures.2.1 y c.requires.collector.1 in
    let size : words.size ≡ u.size = sym c.requires.fits.1 ∙ sym (ap (λ (q : View). q.size) is) in
    let idle : phase_of c.load-word.result ≡ 0 = (let f = c.if-word-ne0.false in omega arith) in let room : epoch_of c.load-word.result < 4611686018427387903 = (let f = c.if-word-ge-LAST_EPOCH.false in omega arith) in
    let plain : epoch_word 1 (epoch_of c.load-word.result + 1) ≡ 1 + 4 * (c.load-word.result / 4 + 1) = omega arith in (
      c.load-word.ensures.0 ∙ c.requires.fits.0,
      omega (arith, words.counted),
      beginning words.table.shared.key words.table.shared.table_id.slots s.id s.me (words.keyed ∙ size) (ap (λ (q : View). q.gone) is ∙ c.requires.fits.2) (1 + 4 * (c.load-word.result / 4 + 1)) y
          (ap (λ (q : View). q.sweep) is ∙ c.requires.collector.1) (ap phase_of (sym word) ∙ idle) (subst (λ (n : ℕ). epoch_of n < 4611686018427387903) word room) (ap (λ (q : View). q.growing.shut) is ∙ c.requires.collector.2) (sym plain ∙ ap (λ (n : ℕ). epoch_word 1 (epoch_of n + 1)) word),
    )

pub returns-clause-steps : goal.returns-clause-steps
returns-clause-steps c = let v : View = c.args.seat.now.seat.me.0 in let y : Sweeping = c.requires.collector.0 in let word : c.load-word.result ≡ y.word = c.load-word.ensures.2.1 y c.requires.collector.1 in
    let idle : phase_of c.load-word.result ≡ 0 = (let f = c.if-word-ne0.false in omega arith) in let room : epoch_of c.load-word.result < 4611686018427387903 = (let f = c.if-word-ge-LAST_EPOCH.false in omega arith) in (
      y,
      c.requires.collector.1,
      ap phase_of (sym word) ∙ idle,
      subst (λ (n : ℕ). epoch_of n < 4611686018427387903) word room,
      ap (λ (n : ℕ). epoch_of n + 1) word,
      c.store.ensures.2.1 ∙ ap (λ (q : View). view_after q Begin) (c.load-word.ensures.2.0.1 ∙ ap (λ (n : ℕ). view_after v (Load 0 n)) word),
    )
