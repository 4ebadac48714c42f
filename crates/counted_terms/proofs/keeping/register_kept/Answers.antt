use Rattle.std.proofs.Common.{ℕ, ◌+◌, ◌<◌, sym, ap, ◌∙◌, subst}
use Rattle.std.specs.Prelude.{IsSome}
use Rattle.atom_words.specs.Seats.{seen}
use Rattle.atom_words.specs.declared.view.View.{View}
use Rattle.atom_api.specs.Names.{Names}
use Rattle.counted_terms.specs.Keeping.{RegisteredBy, keeper_view, tally, times}
use Rattle.counted_terms.proofs.Loops.{registered_parted}
use Rattle.counted_terms.proofs.keeping.register_kept.Goals as goal

pub register_all-requires-clause-held : goal.register_all-requires-clause-held
register_all-requires-clause-held c = λ k h. subst (λ (m : Names). IsSome (m k)) (sym c.join.ensures.carries.held) (c.requires.held k h)

pub register_all-requires-clause-room : goal.register_all-requires-clause-room
register_all-requires-clause-room c = λ k. subst (λ (f : ℕ → ℕ). times k c.args.atoms.now + f k < 2305843009213693952) (sym (c.join.ensures.carries.counts ∙ ap (λ o. tally (keeper_view o)) c.in-Some.ensures.value)) (c.requires.room k)

pub returns-clause-registered : goal.returns-clause-registered
returns-clause-registered c = let v : View = seen c.args.seat.now in let l : View = seen c.part.result.seat in let w : View = seen c.part.new.seat in
    subst (λ (k : View). RegisteredBy c.args.atoms.now k v l w) (ap keeper_view c.in-Some.ensures.value)
    (registered_parted c.args.atoms.now (seen c.in-Some.taken.seat) v (seen c.join.new.seat) (seen c.register_all.new.seat) l w c.join.ensures.carries c.part.ensures.carried c.register_all.ensures.registered)
