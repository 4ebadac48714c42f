use Rattle.std.proofs.Common.{ℕ, List, [], ◌∷◌, get_or, take, sym, ◌∙◌, subst, arith}
use Rattle.atom_words.specs.Seats.{seen}
use Rattle.counted_terms.proofs.Times.{times_at, one_here}
use Rattle.counted_terms.specs.Keeping.{Unregistered}
use Rattle.counted_terms.proofs.Loops.{unregistered_then, next_of}
use Rattle.counted_terms.proofs.lists.unregister_all.Goals as goal

pub unregister-requires-clause-counted : goal.unregister-requires-clause-counted
unregister-requires-clause-counted c = let xs : List ℕ = c.args.atoms.now in let i : ℕ = c.loop-a.a-index in let a : ℕ = c.a-item.result in let some_ = times_at a xs i a c.loop-a-test.true in let one = one_here (get_or xs i a) a c.a-item.is in
    let now = c.loop-a.invariant.unregistered.counts a in let room = c.requires.counted a in omega (arith, some_, one, now, room)

pub loop-a-preserved : goal.loop-a-preserved
loop-a-preserved c = let xs : List ℕ = c.args.atoms.now in let i : ℕ = c.loop-a.a-index in let a : ℕ = c.a-item.result in let inv = c.loop-a.invariant in let v = seen c.args.seat.now in let w = seen c.unregister.new.seat in record {
  same = (c.unregister.ensures.same.0 ∙ inv.same.0, c.unregister.ensures.same.1 ∙ inv.same.1);
  joins = c.unregister.ensures.joins;
  unregistered = subst (λ (l : List ℕ). Unregistered l v w) (sym (next_of xs i a a c.loop-a-test.true c.a-item.is)) (unregistered_then (take i xs) (a ∷ []) v (seen c.loop-a.seat) w inv.unregistered c.unregister.ensures.unregistered);
}
