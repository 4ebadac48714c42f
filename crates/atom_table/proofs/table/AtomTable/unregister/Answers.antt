use Rattle.std.proofs.Common.{◌<◌, ℕ, [], ◌∷◌, sym, ap, ◌∙◌, subst}
use Rattle.atom_words.specs.Kinds.{counted, after}
use Rattle.atom_words.specs.Seats.{seen}
use Rattle.atom_words.specs.declared.size.Size.{Size}
use Rattle.atom_words.specs.declared.view.View.{View}
use Rattle.atom_words.specs.declared.kind.Kind.TheVariants.{Unregister}
use Rattle.atom_table.proofs.Counting.{counted_inside, sound_unregistered}
use Rattle.atom_table.proofs.table.AtomTable.unregister.Goals as goal

pub unregister-requires-clause-slot : goal.unregister-requires-clause-slot
unregister-requires-clause-slot c = let q = c.requires.counted in subst (λ (k : ℕ). k < c.args.self.now.words.size.slots) (sym c.slot.ensures) (subst (λ (z : Size). c.args.a < z.slots) c.requires.sits.0.1 (counted_inside (seen c.args.seat.now) q.0 c.args.a q.1 q.2 c.requires.sits.2))

pub unregister-requires-clause-counted : goal.unregister-requires-clause-counted
unregister-requires-clause-counted c = let q = c.requires.counted in (q.0, q.1, subst (λ (k : ℕ). 0 < (counted q.0 k).count) (sym c.slot.ensures) q.2)

pub returns-clause-steps : goal.returns-clause-steps
returns-clause-steps c = c.unregister.ensures.steps ∙ ap (λ (k : ℕ). after (seen c.args.seat.now) (Unregister k ∷ [])) c.slot.ensures

pub returns-clause-sits : goal.returns-clause-sits
returns-clause-sits c = let v : View = seen c.args.seat.now in let w : View = seen c.unregister.new.seat in let q = c.requires.counted in let e = c.unregister.ensures.steps ∙ ap (λ (k : ℕ). after v (Unregister k ∷ [])) c.slot.ensures in (
  (c.unregister.ensures.same.0 ∙ c.requires.sits.0.0, ap (λ (y : View). y.size) e ∙ c.requires.sits.0.1, ap (λ (y : View). y.gone) e ∙ c.requires.sits.0.2),
  ap (λ (y : View). y.own) e ∙ c.requires.sits.1,
  sound_unregistered v w q.0 c.args.a q.2 q.1 e c.requires.sits.2,
)
