use Rattle.std.proofs.Common.{◌<◌, arith, ℕ, ◌+◌, List, [], ◌∷◌, ◌++◌, subst, Option, Some, None, option_to_list, IfSome}
use Rattle.atom_words.specs.declared.words.Words.{Words}
use Rattle.atom_words.specs.declared.words.AtomSeat.{AtomSeat}
use Rattle.atom_table.specs.Opening.{FreshFrom}
use Rattle.hub_tests.specs.NewSeats.{IsNewSeat}
use Rattle.hub_tests.proofs.take_last.Goals as goal

front : (w : Words) (n : ℕ) (xs ys : List AtomSeat) → FreshFrom w n (xs ++ ys) → FreshFrom w n xs
front w n [] ys f = tt
front w n (x ∷ xs) ys f = (f.0, front w (n + 1) xs ys f.1)

last : (w : Words) (n : ℕ) (xs : List AtomSeat) (s : AtomSeat) → 0 < n → FreshFrom w n (xs ++ s ∷ []) → IsNewSeat w s
last w n [] s some_ f = let number = f.0.numbered in record { sits = f.0.sits; fixed = f.0.fixed; engine = (λ none. omega arith, f.0.sweep); refusals = f.0.refusals }
last w n (x ∷ xs) s some_ f = last w (n + 1) xs s (omega arith) f.1

last_of : (w : Words) (xs : List AtomSeat) (o : Option AtomSeat) → FreshFrom w 1 (xs ++ option_to_list o) → IfSome o (λ s. IsNewSeat w s)
last_of w xs None f = tt
last_of w xs (Some s) f = last w 1 xs s (omega arith) f

pub returns-clause-rest : goal.returns-clause-rest
returns-clause-rest c = front c.args.table.now.words 1 c.pop.new.self.items (option_to_list c.pop.result) (subst (FreshFrom c.args.table.now.words 1) c.pop.ensures.items c.requires)

pub returns-clause-seat : goal.returns-clause-seat
returns-clause-seat c = last_of c.args.table.now.words c.pop.new.self.items c.pop.result (subst (FreshFrom c.args.table.now.words 1) c.pop.ensures.items c.requires)
