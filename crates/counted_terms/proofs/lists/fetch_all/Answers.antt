use Rattle.std.proofs.Common.{◌<◌, ℕ, List, [], ◌∷◌, get_or, take, sym, ◌∙◌, subst, arith}
use Rattle.atom_words.specs.Seats.{seen}
use Rattle.counted_terms.proofs.Times.{times_at, one_here}
use Rattle.counted_terms.specs.Keeping.{Fetched}
use Rattle.counted_terms.proofs.Loops.{fetched_then, next_of}
use Rattle.counted_terms.proofs.lists.fetch_all.Goals as goal

pub fetch-requires-clause-counted : goal.fetch-requires-clause-counted
fetch-requires-clause-counted c = let xs : List ℕ = c.args.atoms.now in let i : ℕ = c.loop-a.a-index in let a : ℕ = c.a-item.result in let room = times_at a xs i a c.loop-a-test.true in let one = one_here (get_or xs i a) a c.a-item.is in
    subst (λ (n : ℕ). 0 < n) (sym (c.loop-a.invariant.fetched.counts a)) (c.requires.counted a (omega (arith, room, one)))

pub loop-a-preserved : goal.loop-a-preserved
loop-a-preserved c = let xs : List ℕ = c.args.atoms.now in let i : ℕ = c.loop-a.a-index in let a : ℕ = c.a-item.result in let inv = c.loop-a.invariant in let v = seen c.args.seat.now in let w = seen c.fetch.new.seat in record {
  same = (c.fetch.ensures.same.0 ∙ inv.same.0, c.fetch.ensures.same.1 ∙ inv.same.1);
  joins = c.fetch.ensures.joins;
  fetched = subst (λ (l : List ℕ). Fetched l v w) (sym (next_of xs i a a c.loop-a-test.true c.a-item.is)) (fetched_then (take i xs) (a ∷ []) v (seen c.loop-a.seat) w inv.fetched c.fetch.ensures.fetched);
}
