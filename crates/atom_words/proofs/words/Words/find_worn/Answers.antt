use Rattle.std.proofs.Common.{◌≡◌, ◌⊎◌, ◌<◌, ◌≤◌, ℕ, sym, ap, ◌∙◌, subst, inl, inr, ⊎_elim, arith}
use mathlib.Core.Logic.{dite}
use native.Mathlib.Decide.{dec_le}
use Rattle.atom_words.specs.Layout.{version_of, worn}
use Rattle.atom_words.specs.Board.{head_at}
use Rattle.atom_words.specs.Kinds.{view_after}
use Rattle.atom_words.specs.declared.size.Size.{Size}
use Rattle.atom_words.specs.declared.view.View.{View}
use Rattle.atom_words.specs.declared.view.WornWord.{WornWord}
use Rattle.atom_words.specs.declared.view.Refusal.TheVariants.{Worn}
use Rattle.atom_words.specs.declared.kind.Kind.TheVariants.{Load, Refuse}
use Rattle.atom_words.proofs.WalkSteps.{finding_worn}
use Rattle.atom_words.proofs.Tied.{own_tied, walk_tied, pass_tied}
use Rattle.atom_words.proofs.words.Words.find_worn.Goals as goal

pub load-word-requires : goal.load-word-requires
load-word-requires c = let same : c.args.self.now.size ≡ c.args.seat.now.seat.me.0.size = sym c.requires.fits.1 in (
  c.requires.fits.0,
  c.head_place-place.ensures.inside,
  finding_worn c.args.self.now.table.shared.key c.args.self.now.table.shared.table_id.slots c.args.seat.now.seat.id c.args.seat.now.seat.me (c.args.self.now.keyed ∙ same) c.requires.fits.2 c.head_place-place.result c.args.head
      (c.head_place-place.ensures.place ∙ ap (λ (y : Size). head_at y c.args.head) same) (subst (λ (y : Size). c.args.head < y.heads) same c.requires.head),
)

pub invariant_of-seat : goal.invariant_of-seat
invariant_of-seat c = let same : c.args.self.now.size ≡ c.args.seat.now.seat.me.0.size = sym c.requires.fits.1 in let v : View = c.args.seat.now.seat.me.0 in let w : View = c.load-word.new.seat.me.0 in let x : ℕ = c.load-word.result in let s = c.args.seat.now in
    let told = c.load-word.ensures.2.1 c.args.head (c.head_place-place.ensures.place ∙ ap (λ (y : Size). head_at y c.args.head) same) in
    let found : WornWord = record { head = c.args.head; word = x; start = v.size.start } in
    let a : View = view_after v (Refuse (Worn found)) in let b : View = view_after v (Load (head_at v.size c.args.head) x) in
    let is : (w ≡ a) ⊎ (w ≡ b) = dite (dec_le worn (version_of x)) (λ le. inl (told.0 le)) (λ gt. inr (told.1 (omega arith))) in record {
      slotless = c.load-word.ensures.2.0 ∙ s.slotless;
      numbered = ⊎_elim (λ (e : w ≡ a). ap (λ (y : View). y.cycle.engine) e ∙ s.numbered) (λ (e : w ≡ b). ap (λ (y : View). y.cycle.engine) e ∙ s.numbered) is;
      acknowledged = ⊎_elim (λ (e : w ≡ a). ap (λ (y : View). y.cycle.acked) e ∙ s.acknowledged) (λ (e : w ≡ b). ap (λ (y : View). y.cycle.acked) e ∙ s.acknowledged) is;
      owns = ⊎_elim (λ (e : w ≡ a). own_tied a w s.own e s.owns) (λ (e : w ≡ b). own_tied b w s.own e s.owns) is;
      walks = ⊎_elim (λ (e : w ≡ a). walk_tied a w s.head s.word e s.walks) (λ (e : w ≡ b). walk_tied b w s.head s.word e s.walks) is;
      passes = ⊎_elim (λ (e : w ≡ a). pass_tied a w s.began s.first s.counted e s.passes) (λ (e : w ≡ b). pass_tied b w s.began s.first s.counted e s.passes) is;
    }

pub returns-else-word-ge-WORN-clause-later : goal.returns-else-word-ge-WORN-clause-later
returns-else-word-ge-WORN-clause-later c = λ w walk at worn_. let same : c.args.self.now.size ≡ c.args.seat.now.seat.me.0.size = sym c.requires.fits.1 in
    let told = c.load-word.ensures.2.1 c.args.head (c.head_place-place.ensures.place ∙ ap (λ (y : Size). head_at y c.args.head) same) in
    let past : version_of w.word ≤ version_of c.load-word.result = told.2 w walk at in let below = c.if-word-ge-WORN.false in absurd (omega arith)
