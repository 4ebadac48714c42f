use Rattle.std.proofs.Common.{◌≡◌, ◌<◌, ◌+◌, ◌*◌, ◌/◌, ◌%◌, eqb, ℕ, sym, ap, ◌∙◌, subst, arith, Some, option_map}
use mathlib.Core.Option.{none}
use prog.Atomic.{either}
use Rattle.atomic_table.specs.Table.{step, Allows}
use Rattle.atom_words.specs.Layout.{head_word, version_of}
use Rattle.atom_words.specs.Board.{link_at, head_at}
use Rattle.atom_words.specs.Kinds.{linking, view_after}
use Rattle.atom_words.specs.Ties.{own_slot, walk_head, walk_word}
use Rattle.atom_words.specs.Rule.{Rule}
use Rattle.atom_words.specs.Plays.{slot_linked}
use Rattle.atom_words.specs.declared.size.Size.{Size}
use Rattle.atom_words.specs.declared.view.Own.{Own}
use Rattle.atom_words.specs.declared.view.Walk.{Walk}
use Rattle.atom_words.specs.declared.view.View.{View}
use Rattle.atom_words.specs.declared.kind.Kind.TheVariants.{PutLink}
use Rattle.atom_words.proofs.WalkSteps.{putting_link, linking as linking_step}
use Rattle.bucket_rows.proofs.links.link.Goals as goal

pub store-requires : goal.store-requires
store-requires c = let same : c.args.words.now.size ≡ c.args.seat.now.seat.me.0.size = sym c.requires.fits.1 in let o = c.requires.ready.0 in let s = c.args.seat.now in
    let slot : o.slot ≡ s.own = ap (own_slot s.own) (sym c.requires.ready.1) ∙ s.owns.0 in (
      c.requires.fits.0,
      c.link_place-link.ensures.inside,
      putting_link c.args.words.now.table.shared.key c.args.words.now.table.shared.table_id.slots s.seat.id s.seat.me (c.args.words.now.keyed ∙ same) c.requires.fits.2 c.link_place-link.result (s.word % 2097152) o
          c.requires.ready.1 c.requires.ready.2 (subst (λ (i : ℕ). i < s.seat.me.0.size.slots) (sym slot) s.owns.1) (c.link_place-link.ensures.place ∙ (λ i. link_at (same i) (sym slot i))),
    )

pub compare_exchange-found-requires : goal.compare_exchange-found-requires
compare_exchange-found-requires c = let s = c.args.seat.now in let v : View = s.seat.me.0 in let u : View = c.store.new.seat.me.0 in let first : ℕ = s.word % 2097152 in let o : Own = c.requires.ready.0 in let m = c.requires.ready.4.2 in let w : Walk = m.walk in
    let is : u ≡ view_after v (PutLink first) = c.store.ensures.2.1 in let size : c.args.words.now.size ≡ u.size = sym c.requires.fits.1 ∙ sym (ap (λ (y : View). y.size) is) in
    let slot : o.slot ≡ s.own = ap (own_slot s.own) (sym c.requires.ready.1) ∙ s.owns.0 in let word : w.word ≡ s.word = ap (walk_word s.word) (sym m.at) ∙ s.walks.1 in let head : s.head ≡ w.head = sym (ap (walk_head s.head) (sym m.at) ∙ s.walks.0) in
    let new : head_word (o.slot + 1) 0 (version_of w.word + 1) ≡ s.own + 1 + 4194304 * (s.word / 4194304 + 1) =
    (let plain : head_word (o.slot + 1) 0 (version_of w.word + 1) ≡ o.slot + 1 + 4194304 * (w.word / 4194304 + 1) = omega arith in plain ∙ (λ i. slot i + 1 + 4194304 * (word i / 4194304 + 1))) in
    let key = c.args.words.now.table.shared.key in let slots : ℕ = c.args.words.now.table.shared.table_id.slots in let id : ℕ = c.store.new.seat.id in let me = c.store.new.seat.me in let i : ℕ = c.head_place-top.result in
    let P : ℕ × ℕ → Type 0 = λ p. Allows (Rule key) slots id me i (λ n. either (eqb n p.0) p.1 n) (slot_linked (step slots i p.0 p.1 none) me) in (
      c.store.ensures.0 ∙ c.requires.fits.0,
      c.head_place-top.ensures.inside,
      subst P (λ j. (word j, new j)) (linking_step key slots id me (c.args.words.now.keyed ∙ size) (ap (λ (y : View). y.gone) is ∙ c.requires.fits.2) i c.requires.ready.4.0 (linking first o) w c.requires.ready.4.1
          (ap (λ (y : View). y.own) is ∙ ap (option_map (linking first)) c.requires.ready.1) (ap (λ (y : View). y.walk) is ∙ m.at) c.requires.ready.2 c.requires.ready.3 c.requires.ready.5 (ap (λ (n : ℕ). Some (n % 2097152)) (sym word))
          (sym m.head, m.ended, m.others) m.unclosed (subst (λ (n : ℕ). version_of n < 4398046511102) (sym word) (let low = c.if-seat-ge-WORN.false in omega arith))
          (subst (λ (h : ℕ). h < u.size.heads) head (subst (λ (y : Size). s.head < y.heads) (sym (ap (λ (y : View). y.size) is)) s.walks.2)) (c.head_place-top.ensures.place ∙ (λ j. head_at (size j) (head j)))),
    )
