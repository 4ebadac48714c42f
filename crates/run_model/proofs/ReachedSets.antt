-- There is one way at most in which an engine has reached a state.
use Rattle.std.proofs.Common.{◌≡◌, ℕ, List, [], ◌∷◌, length, refl, ap}
use denote.Struct.Props.{props}
use mathlib.Core.Sum.{⊎_set}
use Rattle.std.specs.Coded.{Coded-set, code_by, coded_list}
use Rattle.pl_term.specs.Tree.{Tree, Trees, none, more, trees}
use Rattle.pl_term.specs.Nodes.{coded_tree}
use Rattle.pl_model.specs.OperatorTable.{OperatorTable, table_code}
use Rattle.pl_model.specs.History.{Kind, History}
use Rattle.pl_model.specs.Resolution.{Ending, Choice, Doing, State, Node, Pending, Output}
use Rattle.run_model.specs.Execution.{Job, Execution, Activity}
use Rattle.run_model.specs.Lawful.{Made, Standing, Rises, Stands, AllStand}
use Rattle.run_model.specs.Progress.{Seen, Reached, standing_at}

Tree_set : IsSet Tree
Tree_set = Coded-set coded_tree

members : Trees → List Tree
members none = []
members (more t ts) = t ∷ members ts

members_back : (ts : Trees) → trees (members ts) ≡ ts
unfolding members
members_back none = refl
members_back (more t ts) = ap (more t) (members_back ts)

Trees_set : IsSet Trees
Trees_set = Coded-set (code_by (List Tree) (coded_list coded_tree) members trees members_back)

Pending_set : IsSet Pending
Pending_set = hlevel (props, ⊎_set, Tree_set, Trees_set)

Node_set : IsSet Node
Node_set = hlevel (props, ⊎_set, Tree_set, Trees_set, Pending_set)

Choice_set : IsSet Choice
Choice_set = hlevel (props, ⊎_set, Tree_set, Trees_set, Node_set)

Table_set : IsSet OperatorTable
Table_set = Coded-set table_code

Output_set : IsSet Output
Output_set = hlevel (props, ⊎_set, Table_set, Tree_set)

Ending_set : IsSet Ending
Ending_set = hlevel (props, ⊎_set, Tree_set)

Doing_set : IsSet Doing
Doing_set = hlevel (props, ⊎_set, Tree_set, Node_set, Pending_set, Ending_set)

State_set : IsSet State
State_set = hlevel (props, ⊎_set, Doing_set, Choice_set, Output_set)

Activity_set : IsSet Activity
Activity_set = hlevel (props, ⊎_set, Table_set, Tree_set, State_set, Ending_set)

Execution_set : IsSet Execution
Execution_set = hlevel (props, ⊎_set, Table_set, Tree_set, Activity_set, Output_set)

Kind_set : IsSet Kind
Kind_set = hlevel (props, ⊎_set, Tree_set)

rises_prop : (low : ℕ) (gens : List ℕ) (high : ℕ) → IsProp (Rises low gens high)
rises_prop low [] high = hlevel props
rises_prop low (g ∷ gens) high = hlevel (props, rises_prop g gens high)

stands_prop : (e : ℕ) (h : History) (gens : List ℕ) (m : Made) → IsProp (Stands e h gens m)
stands_prop e h gens m = hlevel (props, ⊎_set, Kind_set)

stand_prop : (e : ℕ) (h : History) (gens : List ℕ) (ms : List Made) → IsProp (AllStand e h gens ms)
stand_prop e h gens [] = hlevel props
stand_prop e h gens (m ∷ ms) = hlevel (props, stands_prop e h gens m, stand_prop e h gens ms)

Standing_set : IsSet Standing
Standing_set = hlevel (props, ⊎_set, Execution_set, Kind_set)

pub reached_prop : (e goals : ℕ) (job : Job) (low : ℕ) (seen : Seen) (n : ℕ) → IsProp (Reached e goals job low seen n)
reached_prop e goals job low seen n =
    hlevel (props, ⊎_set, Standing_set, Execution_set, Kind_set, rises_prop low seen.gens (length seen.history), stand_prop e seen.history seen.gens (standing_at e goals job seen n).made)
