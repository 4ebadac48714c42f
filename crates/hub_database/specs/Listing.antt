-- What the lists of all procedures and of all operators say, and which texts become atoms for them.
use Rattle.std.specs.Prelude.{◌≡◌, ◌⊎◌, ℕ, List, [], ◌∷◌, ◌++◌, map}
use Rattle.std.specs.List.{All, Contains}
use Rattle.std.specs.declared.result.Result.{Result}
use Rattle.std.specs.declared.result.Result.TheVariants.{Ok, Err}
use Rattle.pl_term.specs.Tree.{Chars}
use Rattle.pl_model.specs.History.{Proc}
use Rattle.pl_model.specs.OperatorTable.{Entry, Key}
use Rattle.atom_words.specs.declared.view.Refusal.{Refusal}
use Rattle.world_api.specs.Replies.{operator_in}
use Rattle.world_api.specs.Visits.{proc_named}
use Rattle.world_api.specs.declared.reply.Reply.TheVariants.{Operators, Procedures}
use Rattle.counted_terms.specs.Rows.{row_refusals}
use Rattle.counted_terms.specs.declared.row.Row.{Row}
use Rattle.counted_terms.specs.declared.row.Row.TheVariants.{Reads, Makes, Waits, NeedsAtoms, Retry, Worn, Memory}

-- texts were asked since, each of them the name of one of the procedures
pub record AsksSome (ps : List Proc) (old new : List Chars) : Type 0 where
  pub more : List Chars
  pub asked : new ≡ old ++ more
  pub each : All (λ t. Contains (map (λ (p : Proc). p.name) ps) t) more

-- texts were asked since, each of them one of these
pub record AsksAmong (ts old new : List Chars) : Type 0 where
  pub more : List Chars
  pub asked : new ≡ old ++ more
  pub each : All (λ t. Contains ts t) more

-- at most this text
abbrev pub AsksOne : Chars → List Chars → List Chars → Type 0
AsksOne t old new = (new ≡ old) ⊎ (new ≡ old ++ t ∷ [])

-- the row lists these procedures, or no text could become an atom
abbrev pub Lists : (ℕ → Chars) → List Proc → Row → Type 0
Lists text ps (Reads (Procedures v)) = map (proc_named text) v.items ≡ ps
Lists text ps (Reads r) = ⊥
Lists text ps (Makes r) = ⊥
Lists text ps (Waits on) = ⊥
Lists text ps (NeedsAtoms p) = Unit {0}
Lists text ps (Retry c) = Unit {0}
Lists text ps (Worn w) = Unit {0}
Lists text ps Memory = Unit {0}

-- the names of the operators
abbrev pub operator_names : List (Key × Entry) → List Chars
operator_names os = map (λ (o : Key × Entry). o.0.0) os

-- the row lists these operators, or no text could become an atom
abbrev pub ListsOperators : (ℕ → Chars) → List (Key × Entry) → Row → Type 0
ListsOperators text os (Reads (Operators v)) = map (operator_in text) v.items ≡ os
ListsOperators text os (Reads r) = ⊥
ListsOperators text os (Makes r) = ⊥
ListsOperators text os (Waits on) = ⊥
ListsOperators text os (NeedsAtoms p) = Unit {0}
ListsOperators text os (Retry c) = Unit {0}
ListsOperators text os (Worn w) = Unit {0}
ListsOperators text os Memory = Unit {0}

-- the text did not become an atom
abbrev pub IsWithout : Row → Type 0
IsWithout (NeedsAtoms p) = Unit {0}
IsWithout (Retry c) = Unit {0}
IsWithout (Worn w) = Unit {0}
IsWithout Memory = Unit {0}
IsWithout _ = ⊥

-- what is refused by it
abbrev pub refusals_in : Result ℕ Row → List Refusal
refusals_in (Ok a) = []
refusals_in (Err r) = row_refusals r
