use Rattle.std.proofs.Common.{ℕ, List, [], ◌∷◌, get_or, take, sym, ◌∙◌, subst, arith}
use Rattle.atom_words.specs.Seats.{seen}
use Rattle.counted_terms.proofs.Times.{times_at, one_here}
use Rattle.std.specs.Option.{IsSome}
use Rattle.atom_api.specs.Names.{Names}
use Rattle.counted_terms.specs.Keeping.{Registered}
use Rattle.counted_terms.proofs.Loops.{registered_then, next_of}
use Rattle.counted_terms.proofs.lists.register_all.Goals as goal

pub register-requires-clause-held : goal.register-requires-clause-held
register-requires-clause-held c = let xs : List ℕ = c.args.atoms.now in let i : ℕ = c.loop-a.a-index in let a : ℕ = c.a-item.result in let room = times_at a xs i a c.loop-a-test.true in let one = one_here (get_or xs i a) a c.a-item.is in
    subst (λ (m : Names). IsSome (m a)) (sym c.loop-a.invariant.registered.held) (c.requires.held a (omega (arith, room, one)))

pub register-requires-clause-room : goal.register-requires-clause-room
register-requires-clause-room c = let xs : List ℕ = c.args.atoms.now in let i : ℕ = c.loop-a.a-index in let a : ℕ = c.a-item.result in let some_ = times_at a xs i a c.loop-a-test.true in let one = one_here (get_or xs i a) a c.a-item.is in
    let now = c.loop-a.invariant.registered.counts a in let room = c.requires.room a in omega (arith, some_, one, now, room)

pub loop-a-preserved : goal.loop-a-preserved
loop-a-preserved c = let xs : List ℕ = c.args.atoms.now in let i : ℕ = c.loop-a.a-index in let a : ℕ = c.a-item.result in let inv = c.loop-a.invariant in let v = seen c.args.seat.now in let w = seen c.register.new.seat in record {
  same = (c.register.ensures.same.0 ∙ inv.same.0, c.register.ensures.same.1 ∙ inv.same.1);
  joins = c.register.ensures.joins;
  registered = subst (λ (l : List ℕ). Registered l v w) (sym (next_of xs i a a c.loop-a-test.true c.a-item.is)) (registered_then (take i xs) (a ∷ []) v (seen c.loop-a.seat) w inv.registered c.register.ensures.registered);
}
