-- Procedures that are made dynamic.
use Rattle.std.specs.Prelude.{ℕ, ◌+◌, List, [], ◌∷◌, ◌++◌, find}
use Rattle.std.specs.Option.{option_map_or}
use Rattle.pl_model.specs.laws.Shown.{proc_of}
use Rattle.pl_model.specs.declared.shows.Proc.{Proc}
use Rattle.clause_db.specs.declared.access.Access.TheVariants.{Dynamic}
use Rattle.clause_db.specs.Parts.{Piece, Held, blank, is_part_of, opened, changed_in}

-- Each of these predicates stands among them, without clauses where it was not there.
abbrev pub with_blank : {C : Type 0} → Proc → List (Piece C) → List (Piece C)
with_blank p xs = option_map_or (λ x. xs) (find (is_part_of (proc_of p)) xs) (xs ++ blank p ∷ [])

abbrev pub with_blanks : {C : Type 0} → List Proc → List (Piece C) → List (Piece C)
with_blanks [] xs = xs
with_blanks (p ∷ ps) xs = with_blanks ps (with_blank p xs)

-- The procedures are made dynamic by the update at the place, where they are not there.
abbrev pub opened_all : {C : Type 0} → ℕ → List Proc → List (Piece C) → List (Piece C)
opened_all k [] xs = xs
opened_all k (p ∷ ps) xs = opened_all k ps (changed_in (opened k Dynamic) (proc_of p) xs)

abbrev pub dynamic_held : {C : Type 0} → ℕ → List Proc → Held C → Held C
dynamic_held k ps h = record h { parts = opened_all k ps (with_blanks ps h.parts); next = k + 1 }
