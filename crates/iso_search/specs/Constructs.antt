-- What goals are by their names and the number of their arguments.
use Rattle.std.specs.Prelude.{◌≡◌, ◌<◌, ℕ, pos, ◌==◌, List, [], ◌∷◌, drop, if◌then◌else◌}
use Rattle.pl_term.specs.Tree.{Tree, int, trees}
use Rattle.pl_model.specs.TermWriting.{write, writeq, write_canonical}
use Rattle.pl_model.specs.Control.{Construct as Construction, succeeds, cuts, conjunction, disjunction, if_then, if_then_else, fails, repeats, calls, not_provable, once, catches, throws, finds_all, halts, exits, inspects, retracts, clears, writes, prints, puts, other, construct_by_count}
use Rattle.atom_api.specs.FixedNames.{catch_name, cut_name, fail_name, false_name, findall_name, halt_name, nl_name, not_provable_name, once_name, print_name, put_char_name, repeat_name, retract_name, retractall_name, thread_exit_name, throw_name, true_name, write_canonical_name, write_name, writeq_name}
use Rattle.term_store.specs.declared.words.Place.{Place}
use Rattle.term_store.specs.Heap.{atom_name}
use Rattle.term_store.specs.Contents.{Contents, Holds, IsArguments, arguments_at}
use Rattle.iso_search.specs.declared.construct.Construct.{Construct}
use Rattle.iso_search.specs.declared.construct.Construct.TheVariants.{Succeeds, Cuts, Conjunction, Disjunction, IfThen, IfThenElse, Fails, Repeats, Calls, NotProvable, Once, Catches, Throws, FindsAll, Halts, HaltsWithZero, Exits, Inspects, Retracts, Clears, Writes, WritesQuoted, WritesCanonical, WritesNewline, Puts, Other}
use Rattle.iso_search.specs.Spelling.{spelled, spelled_all, text_of}
use Rattle.iso_search.specs.Reading.{View, reads}

abbrev pub construction : View → Contents → Construct → Construction
construction v s Succeeds = succeeds
construction v s Cuts = cuts
construction v s (Conjunction t u) = conjunction (reads v s t) (reads v s u)
construction v s (Disjunction t u) = disjunction (reads v s t) (reads v s u)
construction v s (IfThen t u) = if_then (reads v s t) (reads v s u)
construction v s (IfThenElse c t u) = if_then_else (reads v s c) (reads v s t) (reads v s u)
construction v s Fails = fails
construction v s Repeats = repeats
construction v s (Calls t a) = calls (reads v s t) (spelled_all (text_of v.names) (trees (drop 1 (arguments_at s a))))
construction v s (NotProvable t) = not_provable (reads v s t)
construction v s (Once t) = once (reads v s t)
construction v s (Catches t c r) = catches (reads v s t) (reads v s c) (reads v s r)
construction v s (Throws t) = throws (reads v s t)
construction v s (FindsAll x t l) = finds_all (reads v s x) (reads v s t) (reads v s l)
construction v s (Halts t) = halts (reads v s t)
construction v s HaltsWithZero = halts (int (pos 0))
construction v s (Exits t) = exits (reads v s t)
construction v s (Inspects h b) = inspects (reads v s h) (reads v s b)
construction v s (Retracts t) = retracts (reads v s t)
construction v s (Clears t) = clears (reads v s t)
construction v s (Writes t) = writes (λ ops. write ops 1200 (reads v s t))
construction v s (WritesQuoted t) = writes (λ ops. writeq ops 1200 (reads v s t))
construction v s (WritesCanonical t) = prints (write_canonical (reads v s t))
construction v s WritesNewline = prints (10 ∷ [])
construction v s (Puts t) = puts (reads v s t)
construction v s Other = other

-- Its places are of the store.
abbrev pub IsConstructIn : Contents → Construct → Type 0
IsConstructIn s (Conjunction t u) = Holds s t × Holds s u
IsConstructIn s (Disjunction t u) = Holds s t × Holds s u
IsConstructIn s (IfThen t u) = Holds s t × Holds s u
IsConstructIn s (IfThenElse c t u) = Holds s c × (Holds s t × Holds s u)
IsConstructIn s (Calls t a) = Holds s t × (IsArguments s a × (0 < a.count))
IsConstructIn s (NotProvable t) = Holds s t
IsConstructIn s (Once t) = Holds s t
IsConstructIn s (Catches t c r) = Holds s t × (Holds s c × Holds s r)
IsConstructIn s (Throws t) = Holds s t
IsConstructIn s (FindsAll x t l) = Holds s x × (Holds s t × Holds s l)
IsConstructIn s (Halts t) = Holds s t
IsConstructIn s (Exits t) = Holds s t
IsConstructIn s (Inspects h b) = Holds s h × Holds s b
IsConstructIn s (Retracts t) = Holds s t
IsConstructIn s (Clears t) = Holds s t
IsConstructIn s (Writes t) = Holds s t
IsConstructIn s (WritesQuoted t) = Holds s t
IsConstructIn s (WritesCanonical t) = Holds s t
IsConstructIn s (Puts t) = Holds s t
IsConstructIn s _ = Unit {0}

-- It is the construct by the name and the number of these arguments.
abbrev pub IsByCount : View → Contents → ℕ → List Tree → Construct → Type 0
IsByCount v s name [] c = ⊥
IsByCount v s name (t ∷ ts) c =
    let g = text_of v.names in construction v s c ≡ construct_by_count (g (atom_name name)) (spelled g t) (spelled_all g (trees ts))

-- By the numbers of the fixed atoms.
abbrev pub atom_construct : ℕ → Construct
atom_construct a =
    if a == true_name then Succeeds else
    if a == cut_name then Cuts else
    if a == fail_name then Fails else
    if a == false_name then Fails else
    if a == repeat_name then Repeats else
    if a == halt_name then HaltsWithZero else
    if a == nl_name then WritesNewline else Other

abbrev pub output_construct : ℕ → Place → Construct
output_construct a t =
    if a == write_name then Writes t else
    if a == writeq_name then WritesQuoted t else
    if a == print_name then WritesQuoted t else
    if a == put_char_name then Puts t else
    if a == write_canonical_name then WritesCanonical t else Other

abbrev pub one_construct : ℕ → Place → Construct
one_construct a t =
    if a == not_provable_name then NotProvable t else
    if a == once_name then Once t else
    if a == throw_name then Throws t else
    if a == halt_name then Halts t else
    if a == thread_exit_name then Exits t else
    if a == retract_name then Retracts t else
    if a == retractall_name then Clears t else output_construct a t

abbrev pub three_construct : ℕ → Place → Place → Place → Construct
three_construct a t u v =
    if a == catch_name then Catches t u v else
    if a == findall_name then FindsAll t u v else Other
