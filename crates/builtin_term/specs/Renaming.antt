-- Variables that become different variables.
use Rattle.std.specs.Prelude.{◌≡◌, ◌≢◌, ◌⊎◌, ℕ, Bool, true, false, List, Option, Some}
use Rattle.std.specs.List.{All}
use Rattle.pl_term.specs.Tree.{Tree, var}
use Rattle.pl_term.specs.Variables.{is_in}
use Rattle.term_store.specs.Contents.{Contents, term_at}
use Rattle.builtin_term.specs.declared.met_variables.Met.{Met}
use Rattle.builtin_term.specs.TermWalks.{numbers}

-- Each of the variables becomes a variable, of which it alone is the owner.
pub record IsRenamed (f : ℕ → Tree) (xs : List ℕ) : Type 0 where
  pub owner : ℕ → Option ℕ
  pub owns : (x : ℕ) → is_in x xs ≡ true → (y : ℕ) × ((f x ≡ var y) × (owner y ≡ Some x))

-- One of them becomes no variable, or the same as another.
pub record IsSpoiled (f : ℕ → Tree) (xs : List ℕ) : Type 0 where
  pub variable : ℕ
  pub among : is_in variable xs ≡ true
  pub shared : (y : ℕ) → f variable ≡ var y → (z : ℕ) × ((is_in z xs ≡ true) × ((z ≢ variable) × (f z ≡ var y)))

abbrev pub Renames : Bool → (ℕ → Tree) → List ℕ → Type 0
Renames true f xs = IsRenamed f xs
Renames false f xs = IsSpoiled f xs

-- The same of what stands at the places of variables that were met.
abbrev pub IsRenaming : Bool → Contents → List Met → Type 0
IsRenaming b s es = (f : ℕ → Tree) → All (λ e. term_at s e.place ≡ f e.number) es → Renames b f (numbers es)

-- The number has this owner, and no other owner has changed; or it had another one.
pub record IsClaimed (number owner : ℕ) (old new : ℕ → Option ℕ) : Type 0 where
  pub has : new number ≡ Some owner
  pub stays : (k z : ℕ) → old k ≡ Some z → new k ≡ Some z
  pub before : (k z : ℕ) → new k ≡ Some z → (old k ≡ Some z) ⊎ ((k ≡ number) × (z ≡ owner))

abbrev pub Claims : Bool → ℕ → ℕ → (ℕ → Option ℕ) → (ℕ → Option ℕ) → Type 0
Claims true number owner old new = IsClaimed number owner old new
Claims false number owner old new = (z : ℕ) × ((old number ≡ Some z) × (z ≢ owner))

-- The variable owns the one that it became, or it became one that another owns, or none.
abbrev pub Owns : Bool → Tree → ℕ → (ℕ → Option ℕ) → (ℕ → Option ℕ) → Type 0
Owns true t owner old new = (y : ℕ) × ((t ≡ var y) × IsClaimed y owner old new)
Owns false t owner old new = (y : ℕ) → t ≡ var y → (z : ℕ) × ((old y ≡ Some z) × (z ≢ owner))
