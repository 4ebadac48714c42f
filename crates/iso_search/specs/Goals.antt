-- Control constructs that make an inference.
use Rattle.std.specs.Prelude.{[], ◌∷◌, length}
use Rattle.pl_term.specs.Tree.{Tree}
use Rattle.pl_model.specs.Predicates.{proc_of}
use Rattle.pl_model.specs.Resolution.{Limits, Node, State, goal, branch}
use Rattle.pl_model.specs.Control.{Construct as Construction, fails, repeats, calls, not_provable, once, catches, throws, finds_all, halts, before, failed, over, with_call, with_catch, with_findall, with_negation, with_once, with_status, with_throw}
use Rattle.iso_search.specs.declared.construct.Construct.{Construct}
use Rattle.iso_search.specs.declared.construct.Construct.TheVariants as constructs
use Rattle.iso_search.specs.declared.goals.Counted.{Counted}
use Rattle.iso_search.specs.declared.goals.Counted.TheVariants.{Fails, Repeats, Calls, NotProvable, Once, Catches, Throws, FindsAll, Halts, HaltsWithZero}

abbrev pub flat : Counted → Construct
flat Fails = constructs.Fails
flat Repeats = constructs.Repeats
flat (Calls t a) = constructs.Calls t a
flat (NotProvable t) = constructs.NotProvable t
flat (Once t) = constructs.Once t
flat (Catches t c r) = constructs.Catches t c r
flat (Throws t) = constructs.Throws t
flat (FindsAll x t l) = constructs.FindsAll x t l
flat (Halts t) = constructs.Halts t
flat HaltsWithZero = constructs.HaltsWithZero

-- What follows the inference of such a construct. Other constructs are not run so.
abbrev pub run_counted : Limits → State → Node → Tree → Construction → State
run_counted l s n g fails = failed s
run_counted l s n g repeats = over l s n (proc_of g) (branch (before (goal g (length s.choices) ∷ []) n)) (λ k. [])
run_counted l s n g (calls t ts) = with_call l s n g t ts
run_counted l s n g (not_provable t) = with_negation l s n g t
run_counted l s n g (once t) = with_once l s n g t
run_counted l s n g (catches t c r) = with_catch l s n g t c r
run_counted l s n g (throws t) = with_throw s n g t
run_counted l s n g (finds_all x t list) = with_findall l s n g x t list
run_counted l s n g (halts t) = with_status s n g t
run_counted l s n g _ = s

-- It is no control construct that makes an inference.
abbrev pub IsUncounted : Construct → Type 0
IsUncounted constructs.Fails = ⊥
IsUncounted constructs.Repeats = ⊥
IsUncounted (constructs.Calls t a) = ⊥
IsUncounted (constructs.NotProvable t) = ⊥
IsUncounted (constructs.Once t) = ⊥
IsUncounted (constructs.Catches t c r) = ⊥
IsUncounted (constructs.Throws t) = ⊥
IsUncounted (constructs.FindsAll x t l) = ⊥
IsUncounted (constructs.Halts t) = ⊥
IsUncounted constructs.HaltsWithZero = ⊥
IsUncounted _ = Unit {0}

-- Nor one that makes none.
abbrev pub IsLeft : Construct → Type 0
IsLeft constructs.Succeeds = ⊥
IsLeft constructs.Cuts = ⊥
IsLeft (constructs.Conjunction t u) = ⊥
IsLeft (constructs.Disjunction t u) = ⊥
IsLeft (constructs.IfThen c t) = ⊥
IsLeft (constructs.IfThenElse c t u) = ⊥
IsLeft k = IsUncounted k
