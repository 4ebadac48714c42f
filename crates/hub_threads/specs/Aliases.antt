-- The aliases of the options of thread_create/3.
use Rattle.std.specs.Prelude.{◌≡◌, ℕ, List, [], ◌∷◌, ◌++◌, map, find, Option, Some, None, IsSome}
use Rattle.pl_term.specs.Tree.{Chars, Tree}
use Rattle.pl_model.specs.Threads.{Threads, is_alias}
use Rattle.atom_api.specs.Names.{Names}
use Rattle.world_api.specs.Texts.{text_of}
use Rattle.hub_threads.specs.declared.beginning.Checked.{Checked}
use Rattle.hub_threads.specs.declared.beginning.Checked.TheVariants.{Free, Taken, Memory}

-- the first alias that names something
abbrev pub first_taken : Threads Tree → List Chars → Option Chars
first_taken s as₁ = find (is_alias s) as₁

-- the last alias, or else what came before
abbrev pub last_of : Option Chars → List Chars → Option Chars
last_of l [] = l
last_of l (a ∷ as₁) = last_of (Some a) as₁

abbrev pub ChecksAliases : Threads Tree → Names → List ℕ → Checked → Type 0
ChecksAliases s m as₁ Free = first_taken s (map (text_of m) as₁) ≡ None
ChecksAliases s m as₁ (Taken a) = (first_taken s (map (text_of m) as₁) ≡ Some (text_of m a)) × IsSome (m a)
ChecksAliases s m as₁ Memory = Unit {0}

-- the atom is the last of the list
abbrev pub IsLast : List ℕ → Option ℕ → Type 0
IsLast as₁ None = as₁ ≡ []
IsLast as₁ (Some a) = (before : List ℕ) × (as₁ ≡ before ++ a ∷ [])
