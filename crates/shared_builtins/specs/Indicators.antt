-- Predicate indicators.
use Rattle.std.specs.Prelude.{◌≡◌, List, [], ◌∷◌, ◌++◌, map, Result, Ok, Err, IsSome}
use Rattle.std.specs.List.{All}
use Rattle.pl_term.specs.Tree.{Tree}
use Rattle.pl_model.specs.Checks.{atom_error, bound_error, first_error, integer_error, negative_error, proc_indicated, proc_or_error, with_proc}
use Rattle.pl_model.specs.History.{Proc}
use Rattle.pl_model.specs.SharedBuiltins.{conjuncts, indicated}
use Rattle.atom_api.specs.Names.{Names}
use Rattle.term_store.specs.declared.words.Place.{Place}
use Rattle.term_store.specs.Contents.{Contents}
use Rattle.world_api.specs.declared.visit.Procedure.{Procedure}
use Rattle.world_api.specs.Texts.{text_of}
use Rattle.world_api.specs.Visits.{proc_named}
use Rattle.world_builtins.specs.Spelling.{reads}
use Rattle.shared_builtins.specs.declared.faults.Fault.{Fault}
use Rattle.shared_builtins.specs.declared.indicators.Indicated.{Indicated}
use Rattle.shared_builtins.specs.declared.indicators.Indicated.TheVariants.{Predicates, Refused}
use Rattle.shared_builtins.specs.Faults.{IsFaultHeld, IsFaultIn, fault_term}

-- What is indicated is this predicate, or it is refused for this error.
abbrev pub IsProc : Names → Contents → Result Proc Tree → Result Procedure Fault → Type 0
IsProc m s r (Ok q) = (r ≡ Ok (proc_named (text_of m) q)) × IsSome (m q.name)
IsProc m s r (Err f) = (r ≡ Err (fault_term m s f)) × (IsFaultIn s f × IsFaultHeld m s f)

abbrev pub IsIndicated : Names → Contents → Place → Result Procedure Fault → Type 0
IsIndicated m s p r = IsProc m s (proc_indicated (reads m s p)) r

-- By a name and the number of arguments.
abbrev pub proc_of_parts : Tree → Tree → Result Proc Tree
proc_of_parts f n = proc_or_error (first_error (bound_error f ∷ bound_error n ∷ atom_error f ∷ integer_error n ∷ negative_error n ∷ [])) f n

abbrev pub AreProcs : Names → Contents → Result (List Proc) Tree → Indicated → Type 0
AreProcs m s r (Predicates qs) = (r ≡ Ok (map (proc_named (text_of m)) qs.items)) × All (λ (q : Procedure). IsSome (m q.name)) qs.items
AreProcs m s r (Refused f) = (r ≡ Err (fault_term m s f)) × (IsFaultIn s f × IsFaultHeld m s f)

abbrev pub AreIndicated : Names → Contents → Place → Indicated → Type 0
AreIndicated m s p i = AreProcs m s (indicated (reads m s p)) i

-- The predicates with some in front of them, or the error.
abbrev pub with_procs : List Proc → Result (List Proc) Tree → Result (List Proc) Tree
with_procs [] r = r
with_procs (p ∷ ps) r = with_proc (Ok p) (with_procs ps r)

-- The terms that conjunctions on a stack join, of which the last one is on top.
abbrev pub stacked : List Tree → List Tree
stacked [] = []
stacked (t ∷ ts) = stacked ts ++ conjuncts t

-- Those that were found, and those that are still to be.
abbrev pub joined : (Place → Tree) → List Place → List Place → List Tree
joined r all left = map r all ++ stacked (map r left)
