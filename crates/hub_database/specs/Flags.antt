-- Flags and their values, by the numbers of their atoms, and as they are listed.
use Rattle.std.specs.Prelude.{◌≡◌, ◌==◌, ℕ, List, [], ◌∷◌, Option, Some, None, IsSome, if◌then◌else◌}
use Rattle.std.specs.List.{All}
use Rattle.pl_term.specs.Tree.{Chars, Tree}
use Rattle.atom_api.specs.Names.{FixedStand, Names}
use Rattle.term_store.specs.NumberedNames.{names_of}
use Rattle.clause_db.specs.declared.flags.Flag.{Flag}
use Rattle.clause_db.specs.declared.flags.Flag.TheVariants.{DoubleQuotes, Unknown}
use Rattle.clause_db.specs.declared.flags.FlagValue.{FlagValue as Setting}
use Rattle.clause_db.specs.declared.flags.FlagValue.TheVariants.{Codes, Chars as Characters, Atom, Error, Fail}
use Rattle.world_api.specs.declared.reply.FlagValue.{FlagValue}
use Rattle.counted_terms.specs.CountedTerms.{said}

-- the flag that can be changed with its value, by the fixed atoms `double_quotes` with `codes`, `chars`, `atom`, and `unknown` with `error`, `fail`
abbrev pub numbered_setting : ℕ → ℕ → Option (Flag × Setting)
numbered_setting f v =
    if f == 78 then (if v == 63 then Some (DoubleQuotes, Codes) else (if v == 60 then Some (DoubleQuotes, Characters) else (if v == 45 then Some (DoubleQuotes, Atom) else None)))
    else (if f == 181 then (if v == 80 then Some (Unknown, Error) else (if v == 88 then Some (Unknown, Fail) else None)) else None)

-- this is the flag with its value, by all maps that have the fixed atoms
pub record IsFlag (f : Chars × Tree) (x : FlagValue Tree) : Type 0 where
  pub flag : (m : Names) → FixedStand m → m x.flag ≡ Some f.0
  pub value : (m : Names) → FixedStand m → said m x.value ≡ f.1
  pub named : (m : Names) → FixedStand m → All (λ a. IsSome (m a)) (names_of x.value)

-- each of them
abbrev pub IsFlags : List (Chars × Tree) → List (FlagValue Tree) → Type 0
IsFlags [] [] = Unit {0}
IsFlags (f ∷ fs) (x ∷ xs) = IsFlag f x × IsFlags fs xs
IsFlags [] (x ∷ xs) = ⊥
IsFlags (f ∷ fs) [] = ⊥
