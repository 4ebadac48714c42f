use Rattle.std.proofs.Common.{◌≡◌, ◌<◌, inl, arith, ℕ, ◌+◌, List, [], ◌∷◌, ◌++◌, subst, Option, Some, None, option_to_list, IfSome}
use Rattle.atom_words.specs.Seats.{seen, Walking}
use Rattle.atom_words.specs.declared.words.Words.{Words}
use Rattle.atom_words.specs.declared.words.AtomSeat.{AtomSeat}
use Rattle.atom_table.specs.Holding.{Sits, IsEngine}
use Rattle.atom_table.specs.Opening.{fixed_slots, FreshFrom}
use Rattle.atom_table.proofs.tests.take_last.Goals as goal

front : (w : Words) (n : ℕ) (xs ys : List AtomSeat) → FreshFrom w n (xs ++ ys) → FreshFrom w n xs
front w n [] ys f = tt
front w n (x ∷ xs) ys f = (f.0, front w (n + 1) xs ys f.1)

last : (w : Words) (n : ℕ) (xs : List AtomSeat) (s : AtomSeat) → 0 < n → FreshFrom w n (xs ++ s ∷ []) → Sits w s × ((seen s).fixed ≡ fixed_slots) × Walking (seen s) × IsEngine (seen s)
last w n [] s some_ f = let number = f.0.numbered in (f.0.sits, f.0.fixed, (inl (λ none. omega arith), f.0.sweep), (λ none. omega arith, f.0.sweep))
last w n (x ∷ xs) s some_ f = last w (n + 1) xs s (omega arith) f.1

last_of : (w : Words) (xs : List AtomSeat) (o : Option AtomSeat) → FreshFrom w 1 (xs ++ option_to_list o) → IfSome o (λ s. Sits w s) × IfSome o (λ s. (seen s).fixed ≡ fixed_slots) × IfSome o (λ s. Walking (seen s)) × IfSome o (λ s. IsEngine (seen s))
last_of w xs None f = (tt, tt, tt, tt)
last_of w xs (Some s) f = last w 1 xs s (omega arith) f

pub returns-clause-rest : goal.returns-clause-rest
returns-clause-rest c = front c.args.table.now.words 1 c.pop.new.self.items (option_to_list c.pop.result) (subst (FreshFrom c.args.table.now.words 1) c.pop.ensures.items c.requires)

pub returns-clause-sits : goal.returns-clause-sits
returns-clause-sits c = (last_of c.args.table.now.words c.pop.new.self.items c.pop.result (subst (FreshFrom c.args.table.now.words 1) c.pop.ensures.items c.requires)).0

pub returns-clause-fixed : goal.returns-clause-fixed
returns-clause-fixed c = (last_of c.args.table.now.words c.pop.new.self.items c.pop.result (subst (FreshFrom c.args.table.now.words 1) c.pop.ensures.items c.requires)).1

pub returns-clause-walking : goal.returns-clause-walking
returns-clause-walking c = (last_of c.args.table.now.words c.pop.new.self.items c.pop.result (subst (FreshFrom c.args.table.now.words 1) c.pop.ensures.items c.requires)).2

pub returns-clause-engine : goal.returns-clause-engine
returns-clause-engine c = (last_of c.args.table.now.words c.pop.new.self.items c.pop.result (subst (FreshFrom c.args.table.now.words 1) c.pop.ensures.items c.requires)).3

-- the last has not been refused anything
unrefused : (w : Words) (n : ℕ) (xs : List AtomSeat) (o : Option AtomSeat) → FreshFrom w n (xs ++ option_to_list o) → IfSome o (λ s. (seen s).refusals ≡ [])
unrefused w n xs None f = tt
unrefused w n [] (Some s) f = f.0.refusals
unrefused w n (x ∷ xs) (Some s) f = unrefused w (n + 1) xs (Some s) f.1

pub returns-clause-refusals : goal.returns-clause-refusals
returns-clause-refusals c = unrefused c.args.table.now.words 1 c.pop.new.self.items c.pop.result (subst (FreshFrom c.args.table.now.words 1) c.pop.ensures.items c.requires)
