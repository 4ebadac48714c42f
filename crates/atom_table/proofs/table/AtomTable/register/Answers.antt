use Rattle.std.proofs.Common.{◌<◌, ℕ, sym, ap, ◌∙◌, subst}
use Rattle.atom_words.specs.Kinds.{counted}
use Rattle.atom_words.specs.Seats.{seen}
use Rattle.atom_words.specs.declared.size.Size.{Size}
use Rattle.atom_words.specs.declared.view.View.{View}
use Rattle.atom_table.proofs.Counting.{sound_registered}
use Rattle.atom_table.proofs.table.AtomTable.register.Goals as goal

pub register-requires-clause-slot : goal.register-requires-clause-slot
register-requires-clause-slot c = let h = c.requires.held in subst (λ (k : ℕ). k < c.args.self.now.words.size.slots) (h.2 ∙ sym c.slot.ensures) (subst (λ (z : Size). h.0.slot < z.slots) c.requires.sits.0.1 (c.requires.sits.2.inside h.0 h.1))

pub register-requires-clause-held : goal.register-requires-clause-held
register-requires-clause-held c = let h = c.requires.held in (h.0, h.1, h.2 ∙ sym c.slot.ensures)

pub register-requires-clause-room : goal.register-requires-clause-room
register-requires-clause-room c = let r = c.requires.room in (r.0, r.1, subst (λ (k : ℕ). (counted r.0 k).count < 2305843009213693951) (sym c.slot.ensures) r.2)

pub returns-clause-steps : goal.returns-clause-steps
returns-clause-steps c = λ h ours is. c.register.ensures.steps h ours (is ∙ sym c.slot.ensures)

pub returns-clause-sits : goal.returns-clause-sits
returns-clause-sits c = let v : View = seen c.args.seat.now in let w : View = seen c.register.new.seat in let h = c.requires.held in let e = c.register.ensures.steps h.0 h.1 (h.2 ∙ sym c.slot.ensures) in (
  (c.register.ensures.same.0 ∙ c.requires.sits.0.0, ap (λ (y : View). y.size) e ∙ c.requires.sits.0.1, ap (λ (y : View). y.gone) e ∙ c.requires.sits.0.2),
  ap (λ (y : View). y.own) e ∙ c.requires.sits.1,
  sound_registered v w c.requires.room.0 h.0 h.1 c.requires.room.1 e c.requires.sits.2,
)
