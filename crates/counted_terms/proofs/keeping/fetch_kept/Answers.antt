use Rattle.std.proofs.Common.{ℕ, ◌<◌, sym, ap, ◌∙◌, subst}
use Rattle.atom_words.specs.Seats.{seen}
use Rattle.atom_words.specs.declared.view.View.{View}
use Rattle.counted_terms.specs.Keeping.{FetchedBy, keeper_view, tally}
use Rattle.counted_terms.proofs.Loops.{fetched_parted}
use Rattle.counted_terms.proofs.keeping.fetch_kept.Goals as goal

pub fetch_all-requires-clause-counted : goal.fetch_all-requires-clause-counted
fetch_all-requires-clause-counted c = λ k h. subst (λ (f : ℕ → ℕ). 0 < f k) (sym (c.join.ensures.carries.counts ∙ ap (λ o. tally (keeper_view o)) c.in-Some.ensures.value)) (c.requires.counted k h)

pub returns-clause-fetched : goal.returns-clause-fetched
returns-clause-fetched c = let v : View = seen c.args.seat.now in let l : View = seen c.part.result.seat in let w : View = seen c.part.new.seat in
    subst (λ (k : View). FetchedBy c.args.atoms.now k v l w) (ap keeper_view c.in-Some.ensures.value)
    (fetched_parted c.args.atoms.now (seen c.in-Some.taken.seat) v (seen c.join.new.seat) (seen c.fetch_all.new.seat) l w c.join.ensures.carries c.part.ensures.carried c.fetch_all.ensures.fetched)
