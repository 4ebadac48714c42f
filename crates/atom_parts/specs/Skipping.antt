-- Lines of sub_atom/5 that cannot have what is wanted.
use Rattle.std.specs.Prelude.{◌≡◌, ◌≢◌, ◌+◌, ◌-◌, ◌≤◌, false, ℕ, suc, take, drop, length, Option, Some, None}
use Rattle.pl_term.specs.Tree.{Chars}
use Rattle.pl_model.specs.BuiltinRows.{unifying}
use Rattle.atom_parts.specs.declared.columns.Wanted.{Wanted}
use Rattle.atom_parts.specs.declared.columns.Wanted.TheVariants.{Is}
use Rattle.atom_parts.specs.declared.columns.Value.TheVariants.{Part}
use Rattle.atom_parts.specs.declared.parts.Parts.{Parts}
use Rattle.atom_parts.specs.declared.parts.Spot.{Spot}
use Rattle.atom_parts.specs.declared.skipping.Sought.{Sought}
use Rattle.atom_parts.specs.declared.skipping.Sought.TheVariants.{Any, Only, Nothing}
use Rattle.atom_parts.specs.Columns.{does_unify}
use Rattle.atom_parts.specs.Parts.{IsSpot, line_at, part_columns, part_wanted, parts_of}

-- A part of the text is wanted, which has so many characters.
abbrev pub IsLong : Chars → Wanted → ℕ → Type 0
IsLong text w n = (at k : ℕ) × ((w ≡ Is (Part at k)) × (length (take k (drop at text)) ≡ n))

-- A part with so many characters before it and so many after it, of an atom with so many, has as many as that.
abbrev pub IsBetween : ℕ → ℕ → ℕ → Sought → Type 0
IsBetween len before after Any = ⊥
IsBetween len before after (Only n) = (c : ℕ) → before + c ≤ len → c ≢ n → after ≢ len - before - c
IsBetween len before after Nothing = (c : ℕ) → before + c ≤ len → after ≢ len - before - c

-- Of the parts with so many characters before them no other one has what is wanted.
abbrev pub Narrows : Chars → Parts → ℕ → Sought → Type 0
Narrows text w before Any = Unit {0}
Narrows text w before (Only n) = (p : Spot) → p.before ≡ before → p.before + p.count ≤ w.length → p.count ≢ n → does_unify text (part_columns w p) ≡ false
Narrows text w before Nothing = (p : Spot) → p.before ≡ before → p.before + p.count ≤ w.length → does_unify text (part_columns w p) ≡ false

-- The lines from one up to another do not unify with what is wanted.
abbrev pub ArePassed : Chars → Parts → ℕ → ℕ → Type 0
ArePassed text w from to =
    let ts = part_wanted text w in
    let xs = parts_of (take w.length text) in
    unifying ts (drop from xs) ≡ unifying ts (drop to xs)

-- The first part from one on that may have what is wanted has as many characters before it; or all of those are passed.
abbrev pub IsCandidate : Chars → Parts → Spot → Option Spot → Type 0
IsCandidate text w from None = ArePassed text w (line_at from) (from.first + suc (w.length - from.before))
IsCandidate text w from (Some p) =
    IsSpot w.length p × ((p.before ≡ from.before) × ((line_at from ≤ line_at p) × ArePassed text w (line_at from) (line_at p)))
