-- The fixed atoms: the names of built-in predicates, evaluables, operators and their specifiers, flags and their values,
-- and what error terms are made of (ISO 6.3.4, 7.8, 7.11, 7.12, 8 and 9).
use Rattle.std.specs.Prelude.{ℕ, ◌+◌, List, [], ◌∷◌, Option, slice_get, map}
use Rattle.std.specs.Borrow.{Bor}
use Rattle.std.specs.Str.{chars}
use Rattle.pl_term.specs.Tree.{Chars}
use Rattle.atom_api.specs.declared.fixed.TheConstants.{COUNT, FIXED}

-- How many there are.
abbrev pub fixed_count : ℕ
fixed_count = COUNT

-- The texts of the fixed atoms, as their table has them. An atom's number is the place of its text. Each character is an
-- ASCII one, so that its byte is its code.
unfoldable pub fixed_texts : List Chars
fixed_texts = map (λ (r : ℕ × (record { now : List ℕ })). r.1.now) FIXED

-- The text of a fixed atom.
abbrev pub fixed : ℕ → Option Chars
fixed a = slice_get fixed_texts a

-- Texts with their numbers from `a` on.
abbrev pub numbered : ℕ → List Chars → List (ℕ × Chars)
numbered a [] = []
numbered a (t ∷ ts) = (a, t) ∷ numbered (a + 1) ts

-- A row of a table of atoms and their texts in UTF-8.
abbrev pub row : ℕ × Bor (List ℕ) → ℕ × Chars
row r = (r.0, chars r.1.now)
