-- Goals by their names, and which of them are steps of the search that are no control constructs.
use Rattle.std.specs.Prelude.{Bool, true, false}
use Rattle.pl_term.specs.Tree.{Chars, Tree, Trees, atom, comp, none, more}
use Rattle.pl_model.specs.Control.{Construct, succeeds, cuts, conjunction, disjunction, if_then, if_then_else, fails, repeats, calls, not_provable, once, catches, throws, finds_all, halts, exits, inspects, retracts, clears, writes, prints, puts, other}

-- The goal with this name and these arguments.
abbrev pub goal_of : Chars → Trees → Tree
goal_of f none = atom f
goal_of f (more t ts) = comp f t ts

-- Whether the construct is a built-in predicate that is a step of the search. Control constructs and halt/0,1 are none.
abbrev pub is_search_step : Construct → Bool
is_search_step succeeds = false
is_search_step cuts = false
is_search_step (conjunction t u) = false
is_search_step (disjunction t u) = false
is_search_step (if_then t u) = false
is_search_step (if_then_else c t u) = false
is_search_step fails = false
is_search_step repeats = false
is_search_step (calls t ts) = false
is_search_step (not_provable t) = false
is_search_step (once t) = false
is_search_step (catches t c r) = false
is_search_step (throws t) = false
is_search_step (finds_all x t l) = true
is_search_step (halts t) = false
is_search_step (exits t) = true
is_search_step (inspects h b) = true
is_search_step (retracts t) = true
is_search_step (clears t) = true
is_search_step (writes t) = true
is_search_step (prints t) = true
is_search_step (puts t) = true
is_search_step other = false
