-- Lists of clauses of which the first is known, and what is known of a list that is open.
use Rattle.std.specs.Prelude.{◌≡◌, ◌≤◌, ℕ, List, [], ◌∷◌, length, Option, Some, None, true}
use Rattle.std.specs.List.{Contains}
use Rattle.pl_term.specs.Tree.{Tree}
use Rattle.pl_model.specs.History.{Clause}
use Rattle.pl_model.specs.Database.{Stored}
use Rattle.term_store.specs.NumberedNames.{term_by}
use Rattle.world_api.specs.declared.reply.Found.{Found}
use Rattle.world_api.specs.Texts.{text_of}
use Rattle.world_api.specs.Told.{Told, clause_list, has_place}
use Rattle.world_api.specs.Replies.{IsFront}
use Rattle.iso_search.specs.Reading.{View}

-- The clauses after the first one.
abbrev pub rest_of : List (Stored Clause) → List (Stored Clause)
rest_of [] = []
rest_of (c ∷ cs) = cs

-- Where others follow the first one, they are what is left after its place.
abbrev pub IsLeft : View → Tree → ℕ → Option (Found Tree) → List (Stored Clause) → Type 0
IsLeft v goal g None cs = Unit {0}
IsLeft v goal g (Some f) cs = f.more ≡ true → v.left goal g f.place ≡ rest_of cs

-- The clauses of a list for the goal at the generation, of which the first was found.
pub record IsListed (v : View) (goal : Tree) (g : ℕ) (f : Option (Found Tree)) (cs : List (Stored Clause)) : Type 0 where
  pub front : IsFront term_by (text_of v.names) f cs
  pub left : IsLeft v goal g f cs

-- The clause with the place is one of the list for the goal at the generation, which is one of the engine's visits.
pub record IsOpen (t : Told) (goal : Tree) (g place : ℕ) : Type 0 where
  pub own : Contains t.gens g
  pub within : g ≤ length t.history
  pub among : has_place place (clause_list t.goals t.history g goal) ≡ true

-- The list is open after the clause that was found.
abbrev pub IsOpenBehind : Told → Tree → ℕ → Option (Found Tree) → Type 0
IsOpenBehind t goal g None = Unit {0}
IsOpenBehind t goal g (Some f) = IsOpen t goal g f.place
