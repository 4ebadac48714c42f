use Rattle.std.proofs.Common.{◌≡◌, ℕ, ◌<◌, ◌≤◌, ◌/◌, ◌%◌, List, [], ◌∷◌, ◌++◌, sym, ap, ◌∙◌, subst, arith, Some, IfOk}
use Rattle.atom_words.specs.Layout.{version_of}
use Rattle.atom_words.specs.Texts.{bucket}
use Rattle.atom_words.specs.Ties.{walk_head, walk_word}
use Rattle.atom_words.specs.Plays.{Alone}
use Rattle.atom_words.specs.Kinds.{fresh}
use Rattle.atom_words.specs.Seats.{seen}
use Rattle.atom_words.specs.declared.size.Size.{Size}
use Rattle.atom_words.specs.declared.view.View.{View}
use Rattle.bucket_rows.specs.Walks.{spelled}
use Rattle.bucket_rows.proofs.Reading.{missing_as}
use Rattle.atom_table.specs.Interning.{MakesBy}
use Rattle.atom_table.specs.Holding.{Told}
use Rattle.atom_table.proofs.Settling.{sitting_by}
use Rattle.atom_table.proofs.Telling.{took, full_told, slot_told, slot_asked, slot_steps}
use Rattle.atom_table.proofs.table.AtomTable.make.Goals as goal

pub unwrap-requires : goal.unwrap-requires
unwrap-requires c = let s = c.args.seat.now in let m = c.requires.missing.2 in let word : m.walk.word ≡ s.word = ap (walk_word s.word) (sym m.at) ∙ s.walks.1 in let head : m.walk.head ≡ s.head = ap (walk_head s.head) (sym m.at) ∙ s.walks.0 in
    c.find_worn.ensures.later m.walk m.at head (subst (λ (n : ℕ). 4398046511102 ≤ version_of n) (sym word) (let ge = c.if-seat-ge-WORN.true in omega arith))

pub add_text-requires-clause-fits : goal.add_text-requires-clause-fits
add_text-requires-clause-fits c = let s = took c.next_slot-from.result (seen c.args.seat.now) (seen c.take_slot.new.seat) tt c.in-Ok.ensures.steps in
    (c.take_slot.ensures.same.0 ∙ c.requires.fits.0, s.beside.size ∙ c.requires.fits.1, s.beside.gone ∙ c.requires.fits.2)

pub add_text-requires-clause-missing : goal.add_text-requires-clause-missing
add_text-requires-clause-missing c = let row : List ℕ = spelled c.args.text.now in let s = took c.next_slot-from.result (seen c.args.seat.now) (seen c.take_slot.new.seat) tt c.in-Ok.ensures.steps in
    (c.requires.missing.0, c.requires.missing.1, missing_as row (bucket c.requires.missing.0 row) (seen c.args.seat.now) (seen c.take_slot.new.seat) s.walk c.requires.missing.2)

pub add_text-requires-clause-sitting : goal.add_text-requires-clause-sitting
add_text-requires-clause-sitting c = let v : View = seen c.args.seat.now in let u : View = seen c.take_slot.new.seat in let s = took c.next_slot-from.result v u tt c.in-Ok.ensures.steps in
    sitting_by v u s.beside.cycle s.beside.undealt c.requires.walking.0

pub returns-in-Ok-clause-told : goal.returns-in-Ok-clause-told
returns-in-Ok-clause-told c = let t = c.args.text.now in let h : ℕ = bucket c.requires.missing.0 (spelled t) in let v : View = seen c.args.seat.now in let u : View = seen c.take_slot.new.seat in let w : View = seen c.add_text.new.seat in let m = c.requires.missing.2 in
    let slots : c.args.self.now.words.size.slots ≡ v.size.slots = sym (ap (λ (y : Size). y.slots) c.requires.fits.1) in
    let P : ℕ → Type 0 = λ k. IfOk c.add_text.result (λ a. (i : ℕ) → u.own ≡ Some (fresh i) → (a ≡ i) × (a < k) × Alone u a (spelled t) × (w.held ≡ u.held ++ record { slot = a; text = spelled t } ∷ [])) in (
      c.requires.missing.0,
      c.requires.missing.1,
      subst (λ r. Told t h v r w) (sym c.made.ensures)
          (slot_told t h c.requires.short v c.next_slot-from.result u w tt c.in-Ok.ensures.steps m.walk m.at m.head c.requires.none c.add_text.result c.add_text.ensures.steps (subst P slots c.add_text.ensures.held)),
    )

pub returns-in-Ok-clause-request : goal.returns-in-Ok-clause-request
returns-in-Ok-clause-request c = let t = c.args.text.now in let h : ℕ = bucket c.requires.missing.0 (spelled t) in let m = c.requires.missing.2 in
    slot_asked t h c.requires.short (seen c.args.seat.now) c.next_slot-from.result (seen c.take_slot.new.seat) (seen c.add_text.new.seat) tt c.in-Ok.ensures.steps m.walk m.at m.head c.requires.none c.add_text.result c.add_text.ensures.steps

pub returns-in-Ok-clause-steps : goal.returns-in-Ok-clause-steps
returns-in-Ok-clause-steps c = let t = c.args.text.now in let h : ℕ = bucket c.requires.missing.0 (spelled t) in let m = c.requires.missing.2 in
    subst (λ r. MakesBy (spelled t) (seen c.args.seat.now) r (seen c.add_text.new.seat)) (sym c.made.ensures)
    (slot_steps t h c.requires.short (seen c.args.seat.now) c.next_slot-from.result (seen c.take_slot.new.seat) (seen c.add_text.new.seat) tt c.in-Ok.ensures.steps m.walk m.at m.head c.requires.none c.add_text.result c.add_text.ensures.steps)

pub returns-in-Err-clause-told : goal.returns-in-Err-clause-told
returns-in-Err-clause-told c = let t = c.args.text.now in let v : View = seen c.args.seat.now in let slots : c.args.self.now.words.size.slots ≡ v.size.slots = sym (ap (λ (y : Size). y.slots) c.requires.fits.1) in let ok = c.args.self.now.words.allowed in (
  c.requires.missing.0,
  c.requires.missing.1,
  (full_told t (bucket c.requires.missing.0 (spelled t)) c.requires.short v c.next_slot-from.result (seen c.take_slot.new.seat) c.in-Err.pass
      (subst (λ (n : ℕ). c.next_slot-from.result < n) slots c.next_slot-from.ensures) c.in-Err.ensures.steps).0,
)

pub returns-in-Err-clause-request : goal.returns-in-Err-clause-request
returns-in-Err-clause-request c = let t = c.args.text.now in let v : View = seen c.args.seat.now in let slots : c.args.self.now.words.size.slots ≡ v.size.slots = sym (ap (λ (y : Size). y.slots) c.requires.fits.1) in let ok = c.args.self.now.words.allowed in
    (full_told t (bucket c.requires.missing.0 (spelled t)) c.requires.short v c.next_slot-from.result (seen c.take_slot.new.seat) c.in-Err.pass
    (subst (λ (n : ℕ). c.next_slot-from.result < n) slots c.next_slot-from.ensures) c.in-Err.ensures.steps).1
