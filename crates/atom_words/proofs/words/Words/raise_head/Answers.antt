use Rattle.std.proofs.Common.{◌≡◌, ◌<◌, ◌+◌, ◌*◌, ◌%◌, eqb, ℕ, sym, ap, ◌∙◌, subst, inl, inr, arith}
use mathlib.Core.Option.{none}
use prog.Atomic.{either}
use Rattle.atomic_table.specs.Table.{step, Allows}
use Rattle.atom_words.specs.Layout.{version_of}
use Rattle.atom_words.specs.Board.{head_at}
use Rattle.atom_words.specs.Kinds.{raised, view_after}
use Rattle.atom_words.specs.Rule.{Rule}
use Rattle.atom_words.specs.Plays.{head_raised}
use Rattle.atom_words.specs.declared.size.Size.{Size}
use Rattle.atom_words.specs.declared.view.View.{View}
use Rattle.atom_words.specs.declared.kind.Kind.TheVariants.{Load}
use Rattle.atom_words.proofs.Steps.{raising, seeing_risen}
use Rattle.atom_words.proofs.words.Words.raise_head.Goals as goal

pub load-word-requires : goal.load-word-requires
load-word-requires c = let same : c.args.self.now.size ≡ c.args.seat.now.me.0.size = sym c.requires.fits.1 in (
  c.requires.fits.0,
  c.head_place-place.ensures.inside,
  seeing_risen c.args.self.now.table.shared.key c.args.self.now.table.shared.table_id.slots c.args.seat.now.id c.args.seat.now.me (c.args.self.now.keyed ∙ same) c.requires.fits.2 c.head_place-place.result c.args.head
      (c.head_place-place.ensures.place ∙ ap (λ (y : Size). head_at y c.args.head) same) (subst (λ (y : Size). c.args.head < y.heads) same c.requires.head),
)

pub compare_exchange-found-requires : goal.compare_exchange-found-requires
compare_exchange-found-requires c = let v : View = c.args.seat.now.me.0 in let u : View = c.load-word.new.seat.me.0 in let word : ℕ = c.load-word.result in let i : ℕ = c.head_place-place.result in
    let same : c.args.self.now.size ≡ v.size = sym c.requires.fits.1 in let h : ℕ = c.args.head in let start : ℕ = c.args.self.now.size.start in
    let below : version_of word < v.size.start = subst (λ (y : Size). version_of word < y.start) same (let no = c.if-word-self.false in omega arith) in
    let is : u ≡ view_after v (Load (head_at v.size h) word) = (c.load-word.ensures.2.1 h (c.head_place-place.ensures.place ∙ ap (λ (y : Size). head_at y h) same)).1 below in
    let size : c.args.self.now.size ≡ u.size = sym c.requires.fits.1 ∙ sym (ap (λ (y : View). y.size) is) in
    let new : raised u.size.start word ≡ word % 4194304 + 4194304 * start =
    (let plain : raised start word ≡ word % 4194304 + 4194304 * start = omega arith in ap (λ (y : Size). raised y.start word) (sym size) ∙ plain) in
    let low : version_of word < start = (let no = c.if-word-self.false in omega arith) in
    let key = c.args.self.now.table.shared.key in let slots : ℕ = c.args.self.now.table.shared.table_id.slots in let id : ℕ = c.load-word.new.seat.id in let me = c.load-word.new.seat.me in
    let P : ℕ → Type 0 = λ p. Allows (Rule key) slots id me i (λ n. either (eqb n word) p n) (head_raised (step slots i word p none) me) in (
      c.load-word.ensures.0 ∙ c.requires.fits.0,
      c.head_place-place.ensures.inside,
      subst P new (raising key slots id me (c.args.self.now.keyed ∙ size) (ap (λ (y : View). y.gone) is ∙ c.requires.fits.2) i c.args.head word (c.head_place-place.ensures.place ∙ ap (λ (y : Size). head_at y c.args.head) size)
          (subst (λ (y : Size). c.args.head < y.heads) size c.requires.head) (subst (λ (n : ℕ). 0 < n) (sym (ap (λ (y : View). y.undealt) is)) c.requires.first) (let unshut = c.if-word-eq1.false in omega (arith, unshut)) (subst (λ (y : Size). version_of word < y.start) size low)),
    )

pub returns-else-found-word-clause-steps : goal.returns-else-found-word-clause-steps
returns-else-found-word-clause-steps c = let v : View = c.args.seat.now.me.0 in let u : View = c.load-word.new.seat.me.0 in let word : ℕ = c.load-word.result in let found : ℕ = c.compare_exchange-found.result in let h : ℕ = c.args.head in
    let same : c.args.self.now.size ≡ v.size = sym c.requires.fits.1 in
    let place : c.head_place-place.result ≡ head_at v.size h = c.head_place-place.ensures.place ∙ ap (λ (y : Size). head_at y h) same in
    let low : version_of word < v.size.start = subst (λ (y : Size). version_of word < y.start) same (let no = c.if-word-self.false in omega arith) in
    let is : u ≡ view_after v (Load (head_at v.size h) word) = (c.load-word.ensures.2.1 h place).1 low in
    let at : c.head_place-place.result ≡ head_at u.size h = place ∙ sym (ap (λ (y : View). head_at y.size h) is) in inr (
      word,
      low,
      c.if-found-word.false,
      (c.compare_exchange-found.ensures.2.1 h at).1 c.if-found-word.false ∙ ap (λ (y : View). view_after y (Load (head_at y.size h) found)) is,
    )

pub returns-then-word-eq1-clause-steps : goal.returns-then-word-eq1-clause-steps
returns-then-word-eq1-clause-steps c = let v : View = c.args.seat.now.me.0 in let word : ℕ = c.load-word.result in let h : ℕ = c.args.head in let same : c.args.self.now.size ≡ v.size = sym c.requires.fits.1 in
    let place : c.head_place-place.result ≡ head_at v.size h = c.head_place-place.ensures.place ∙ ap (λ (y : Size). head_at y h) same in
    let low : version_of word < v.size.start = subst (λ (y : Size). version_of word < y.start) same (let no = c.if-word-self.false in omega arith) in
    inl (let shut = c.if-word-eq1.true in omega (arith, shut), low, (c.load-word.ensures.2.1 h place).1 low)
