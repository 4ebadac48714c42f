-- Goals that write, as the definition has them.
use Rattle.std.specs.Prelude.{◌≡◌, ℕ, ◌==◌, [], ◌∷◌, Bool, true, false, Option, Some, None, IsSome, if◌then◌else◌, codes}
use Rattle.std.specs.List.{All}
use Rattle.pl_term.specs.Tree.{Tree}
use Rattle.pl_model.specs.TermWriting.{write_canonical}
use Rattle.pl_model.specs.Predicates.{proc_of}
use Rattle.pl_model.specs.Control.{Construct, succeeds, cuts, conjunction, disjunction, if_then, if_then_else, fails, repeats, calls, not_provable, once, catches, throws, finds_all, halts, exits, inspects, retracts, clears, writes, prints, puts, other, construct}
use Rattle.pl_model.specs.History.{proc}
use Rattle.atom_api.specs.FixedNames.{nl_name, print_name, put_char_name, write_canonical_name, write_name, writeq_name}
use Rattle.atom_api.specs.Names.{Names}
use Rattle.term_store.specs.declared.words.Place.{Place}
use Rattle.term_store.specs.Contents.{Contents, Holds, term_at}
use Rattle.term_store.specs.NumberedNames.{atoms_in}
use Rattle.world_builtins.specs.declared.styles.Style.TheVariants.{Bare, Quoted}
use Rattle.world_builtins.specs.Naming.{IsHeldAt}
use Rattle.world_builtins.specs.Styles.{text_by}
use Rattle.iso_search.specs.Reading.{IsView, View, reads}
use Rattle.iso_engine.specs.declared.write.goals.OutputGoal.{OutputGoal}
use Rattle.iso_engine.specs.declared.write.goals.OutputGoal.TheVariants.{Term, Canonical, NewLine, Character}

abbrev pub construction : View → Contents → OutputGoal → Construct
construction v s (Term style w) = writes (λ ops. text_by style (reads v s w) ops)
construction v s (Canonical w) = prints (write_canonical (reads v s w))
construction v s NewLine = prints (10 ∷ [])
construction v s (Character w) = puts (reads v s w)

-- An error of put_char/1 is one of that predicate.
abbrev pub IsNamed : OutputGoal → Tree → Type 0
IsNamed (Character w) g = proc_of g ≡ proc (codes "put_char") 1
IsNamed _ g = Unit {0}

-- The goal at a place is this one, however it is read.
abbrev pub IsGoalOf : Contents → OutputGoal → Place → Type 0
IsGoalOf s o goal = (v : View) → IsView v → (construction v s o ≡ construct (reads v s goal)) × IsNamed o (reads v s goal)

-- Whether it is a goal that writes.
abbrev pub is_output : Construct → Bool
is_output succeeds = false
is_output cuts = false
is_output (conjunction t u) = false
is_output (disjunction t u) = false
is_output (if_then t u) = false
is_output (if_then_else c t u) = false
is_output fails = false
is_output repeats = false
is_output (calls t ts) = false
is_output (not_provable t) = false
is_output (once t) = false
is_output (catches t c r) = false
is_output (throws t) = false
is_output (finds_all x t l) = false
is_output (halts t) = false
is_output (exits t) = false
is_output (inspects h b) = false
is_output (retracts t) = false
is_output (clears t) = false
is_output (writes t) = true
is_output (prints t) = true
is_output (puts t) = true
is_output other = false

-- The goal at a place is none, however it is read.
abbrev pub IsNoOutput : Contents → Place → Type 0
IsNoOutput s goal = (v : View) → IsView v → is_output (construct (reads v s goal)) ≡ false

-- What it writes is in the store.
abbrev pub IsOutputIn : Contents → OutputGoal → Type 0
IsOutputIn s (Term style w) = Holds s w
IsOutputIn s (Canonical w) = Holds s w
IsOutputIn s NewLine = Unit {0}
IsOutputIn s (Character w) = Holds s w

-- Each atom of the goal at a place is held.
abbrev pub IsGoalHeld : Names → Contents → Place → Type 0
IsGoalHeld m s goal = All (λ a. IsSome (m a)) (atoms_in (term_at s goal))

-- Each atom of what it writes is held.
abbrev pub IsHeldIn : Names → Contents → OutputGoal → Type 0
IsHeldIn m s (Term style w) = IsHeldAt m s w
IsHeldIn m s (Canonical w) = IsHeldAt m s w
IsHeldIn m s NewLine = Unit {0}
IsHeldIn m s (Character w) = IsHeldAt m s w

-- By the numbers of the fixed atoms.
abbrev pub atom_output : ℕ → Option OutputGoal
atom_output a = if a == nl_name then Some NewLine else None

abbrev pub one_output : ℕ → Place → Option OutputGoal
one_output a t =
    if a == write_name then Some (Term Bare t) else
    if a == writeq_name then Some (Term Quoted t) else
    if a == print_name then Some (Term Quoted t) else
    if a == put_char_name then Some (Character t) else
    if a == write_canonical_name then Some (Canonical t) else None
