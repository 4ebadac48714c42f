use Rattle.std.proofs.Common.{◌≤◌, ℕ, sym, ap, ◌∙◌, subst}
use Rattle.atom_words.specs.Seats.{seen}
use Rattle.atom_words.specs.declared.view.View.{View}
use Rattle.counted_terms.specs.Keeping.{UnregisteredBy, keeper_view, tally, times}
use Rattle.counted_terms.proofs.Loops.{unregistered_parted}
use Rattle.counted_terms.proofs.keeping.unregister_kept.Goals as goal

pub unregister_all-requires-clause-counted : goal.unregister_all-requires-clause-counted
unregister_all-requires-clause-counted c = λ k. subst (λ (f : ℕ → ℕ). times k c.args.atoms.now ≤ f k) (sym (c.join.ensures.carries.counts ∙ ap (λ o. tally (keeper_view o)) c.in-Some.ensures.value)) (c.requires.counted k)

pub returns-clause-unregistered : goal.returns-clause-unregistered
returns-clause-unregistered c = let v : View = seen c.args.seat.now in let l : View = seen c.part.result.seat in let w : View = seen c.part.new.seat in
    subst (λ (k : View). UnregisteredBy c.args.atoms.now k v l w) (ap keeper_view c.in-Some.ensures.value)
    (unregistered_parted c.args.atoms.now (seen c.in-Some.taken.seat) v (seen c.join.new.seat) (seen c.unregister_all.new.seat) l w c.join.ensures.carries c.part.ensures.carried c.unregister_all.ensures.unregistered)
