-- The predicates of the system: their table stands in `src/system.rt`.
use Rattle.std.specs.Prelude.{ℕ, List, map, Bool, true, false, Option, Some, None, find, is_some, option_map}
use Rattle.pl_term.specs.Tree.{Chars}
pub use Rattle.pl_model.specs.declared.system.PredicateKind.{PredicateKind}
pub use Rattle.pl_model.specs.declared.system.PredicateKind.TheVariants.{Control, Search, Arguments, State, Item}
use Rattle.pl_model.specs.declared.system.TheConstants.{SYSTEM}
use Rattle.pl_model.specs.History.{Proc, proc}
use Rattle.pl_model.specs.Predicates.{same_proc}

pub record SystemPredicate : Type 0 where
  pub indicator : Proc
  pub kind : PredicateKind

abbrev pub entry : Chars → ℕ → PredicateKind → SystemPredicate
entry f n k = record { indicator = proc f n; kind = k }

-- A row of the table. Each character of a name is an ASCII one, so that its byte is its code.
abbrev pub Row : Type 0
Row = (record { now : List ℕ }) × ℕ × PredicateKind

abbrev pub entry_of_row : Row → SystemPredicate
entry_of_row r = entry r.0.now r.1 r.2

unfoldable pub system_predicates : List SystemPredicate
system_predicates = map entry_of_row SYSTEM

-- The kind of the predicate with this indicator in a list.
abbrev pub kind_in : List SystemPredicate → Proc → Option PredicateKind
kind_in es p = option_map (λ e. e.kind) (find (λ e. same_proc p e.indicator) es)

abbrev pub system_kind : Proc → Option PredicateKind
system_kind p = kind_in system_predicates p

abbrev pub is_system : Proc → Bool
is_system p = is_some (system_kind p)

-- Whether the predicate is of the system and of the kind.
abbrev pub is_control : Option PredicateKind → Bool
is_control o = elim o [ None ↦ false | Some k ↦ elim k [ Control ↦ true | _ ↦ false ] ]

abbrev pub is_search : Option PredicateKind → Bool
is_search o = elim o [ None ↦ false | Some k ↦ elim k [ Search ↦ true | _ ↦ false ] ]

abbrev pub is_of_arguments : Option PredicateKind → Bool
is_of_arguments o = elim o [ None ↦ false | Some k ↦ elim k [ Arguments ↦ true | _ ↦ false ] ]

abbrev pub is_of_state : Option PredicateKind → Bool
is_of_state o = elim o [ None ↦ false | Some k ↦ elim k [ State ↦ true | _ ↦ false ] ]
