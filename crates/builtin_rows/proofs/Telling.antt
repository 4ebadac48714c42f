-- What the table says of the predicate with a name and so many arguments.
use Rattle.std.proofs.Common.{◌≡◌, ℕ, Bool, true, false, List, [], get_or, Option, Some, None, refl, sym, ap, subst, ◌∙◌}
use Rattle.std.specs.Prelude.{option_map}
use Rattle.pl_term.specs.Tree.{Chars}
use Rattle.pl_model.specs.History.{proc}
use Rattle.pl_model.specs.SystemPredicates.{system_predicates, system_kind, is_of_arguments, is_of_state, is_search}
use Rattle.pl_model.specs.declared.system.PredicateKind.{PredicateKind}
use Rattle.pl_model.specs.declared.system.PredicateKind.TheVariants.{Control, Search, Arguments, State, Item}
use Rattle.pl_model.proofs.SystemLaws.{rows_told, shared_told}
use Rattle.pl_model.proofs.SearchNames.{steps_told}
use Rattle.atom_api.specs.Fixed.{fixed_texts}
use Rattle.builtin_rows.specs.declared.predicates.Meaning.{Meaning}
use Rattle.builtin_rows.specs.declared.predicates.Meaning.TheVariants as meaning
use Rattle.builtin_rows.specs.Predicates.{kind_of, has_row, asks_something, is_step}
use Rattle.builtin_rows.specs.Tables.{table, with_count, predicate_at}
use Rattle.builtin_rows.specs.Laws.{AreTexts, IsNamed, TellsRows, TellsShared, TellsConstructs}
use Rattle.builtin_rows.proofs.Numbered.{agree, kind_at, system_numbers, system_kind_at}
use Rattle.builtin_rows.proofs.Finding.{table_numbers, table_kind, table_named}

rows_same : (a n : ℕ) → is_of_arguments (kind_at a n system_numbers) ≡ is_of_arguments (kind_at a n table_numbers)
unfolding system_predicates table fixed_texts
rows_same = agree is_of_arguments is_of_arguments system_numbers table_numbers refl refl

shared_same : (a n : ℕ) → is_of_state (kind_at a n system_numbers) ≡ is_of_state (kind_at a n table_numbers)
unfolding system_predicates table fixed_texts
shared_same = agree is_of_state is_of_state system_numbers table_numbers refl refl

steps_same : (a n : ℕ) → is_search (kind_at a n system_numbers) ≡ is_search (kind_at a n table_numbers)
unfolding system_predicates table fixed_texts
steps_same = agree is_search is_search system_numbers table_numbers refl refl

-- What the table says of kinds it says of meanings.
abbrev Tells : (Option PredicateKind → Bool) → (Option Meaning → Bool) → Type 0
Tells h g = (o : Option Meaning) → h (option_map kind_of o) ≡ g o

rows_of_kinds : Tells is_of_arguments has_row
rows_of_kinds None = refl
rows_of_kinds (Some (meaning.Row p)) = refl
rows_of_kinds (Some meaning.Asks) = refl
rows_of_kinds (Some meaning.Steps) = refl

shared_of_kinds : Tells is_of_state asks_something
shared_of_kinds None = refl
shared_of_kinds (Some (meaning.Row p)) = refl
shared_of_kinds (Some meaning.Asks) = refl
shared_of_kinds (Some meaning.Steps) = refl

steps_of_kinds : Tells is_search is_step
steps_of_kinds None = refl
steps_of_kinds (Some (meaning.Row p)) = refl
steps_of_kinds (Some meaning.Asks) = refl
steps_of_kinds (Some meaning.Steps) = refl

module _ (a n : ℕ) (text : ℕ → Chars) (is : AreTexts text) where
  kinds : (h : Option PredicateKind → Bool) (g : Option Meaning → Bool) → ((b m : ℕ) → h (kind_at b m system_numbers) ≡ h (kind_at b m table_numbers)) → Tells h g
      → h (system_kind (proc (text a) n)) ≡ g (predicate_at a n)
  kinds h g same tells = ap h (system_kind_at text is a n) ∙ same a n ∙ ap h (table_kind a n) ∙ tells (predicate_at a n)

pub named : (a n : ℕ) (o : Option Meaning) → o ≡ predicate_at a n → IsNamed a n o
named a n o e = subst (IsNamed a n) (sym e) (table_named a n)

pub rows : (a n : ℕ) (o : Option Meaning) → o ≡ predicate_at a n → TellsRows a n o
rows a n o e text is ts many next =
    rows_told (text a) ts next
    ∙ ap (λ k. is_of_arguments (system_kind (proc (text a) k))) many
    ∙ kinds a n text is is_of_arguments has_row rows_same rows_of_kinds
    ∙ ap has_row (sym e)

pub shares : (a n : ℕ) (o : Option Meaning) → o ≡ predicate_at a n → TellsShared a n o
shares a n o e text is ts many =
    shared_told (text a) ts
    ∙ ap (λ k. is_of_state (system_kind (proc (text a) k))) many
    ∙ kinds a n text is is_of_state asks_something shared_same shared_of_kinds
    ∙ ap asks_something (sym e)

pub constructs : (a n : ℕ) (o : Option Meaning) → o ≡ predicate_at a n → TellsConstructs a n o
constructs a n o e text is ts many =
    steps_told (text a) ts
    ∙ ap (λ k. is_search (system_kind (proc (text a) k))) many
    ∙ kinds a n text is is_search is_step steps_same steps_of_kinds
    ∙ ap is_step (sym e)

-- A row of the table, or none.
pub at_row : (a n : ℕ) (o : Option Meaning) (row : List (ℕ × Meaning)) → o ≡ with_count n row → row ≡ get_or table a [] → o ≡ predicate_at a n
at_row a n o row e at = e ∙ ap (with_count n) at
