-- What the nodes of a directive say is what its term says.
use Rattle.std.proofs.Common.{◌≡◌, ℕ, suc, List, [], ◌∷◌, ◌++◌, map, Bool, true, false, Option, Some, None, refl, sym, ap, ◌∙◌, subst, arith, append-nil}
use Rattle.std.proofs.lemmas.Bool.{false≢true, ne_eqb}
use Rattle.std.proofs.lemmas.Slice.Eq.{bytes_eq-Decides}
use Rattle.std.specs.Prelude.{pos, negsuc, Result, Ok, Err, bytes_eq, codes, is_some, nat_lt, not, unwrap_or, ◌&&◌, ◌||◌, ◌==◌, if◌then◌else◌}
use Rattle.std.specs.Option.{option_map}
use Rattle.pl_term.specs.declared.node.Node.{Node}
use Rattle.pl_term.specs.declared.node.Node.TheVariants.{Var, Int, Atom, Comp}
use Rattle.pl_term.specs.Tree.{Chars, Tree, Trees, var, int, atom, comp, none, more, count}
use Rattle.pl_term.specs.Nodes.{nodes, nodes_all}
use Rattle.pl_model.specs.declared.grammar.Quotes.{Quotes}
use Rattle.pl_model.specs.declared.grammar.Quotes.TheVariants.{Codes, Chars as Characters, Atom as AtomText}
use Rattle.pl_model.specs.declared.operators.Kind.{Kind}
use Rattle.pl_model.specs.Flags.{is_flag_value, quotes_of}
use Rattle.pl_model.specs.OperatorTable.{highest_priority}
use Rattle.pl_model.specs.Terms.{is_variable}
use Rattle.pl_model.specs.ErrorTerms.{domain_error}
use Rattle.pl_model.specs.Balls.{instantiation_error}
use Rattle.pl_model.specs.Checks.{atom_error, atoms_error, bound_error, error_if, first_error, integer_error, text_of_atom}
use Rattle.pl_model.specs.BuiltinRows.{Row}
use Rattle.pl_model.specs.Requests.{Reply, put_flag, put_operators}
use Rattle.pl_model.specs.SharedBuiltins.{Shared, asks_for, fixed_error, flag_error, on_ok, priority_error, puts_flag, puts_names, puts_operators, specifier_error, specifier_named, succeeds_with, unless, value_error}
use Rattle.pl_model.specs.SharedBuiltins as builtins
use Rattle.run_model.specs.Execution.{directive_of}
use Rattle.source_check.specs.Listings.{Checking, directed, obeyed}
use Rattle.source_check.specs.GoalNodes.{Effect, leaves, after, effect_in, flag_by, flag_in, goal_nodes, is_arrow, names_in, operators_by, operators_in, priority_in, quotes_in, specifier_in}
use Rattle.source_check.proofs.NameTexts.{names_tree, texts_told, told}

-- Which terms are directives

goal_by : (b d : Bool) (t : Tree) (ns : List Node) → ns ≡ nodes t
    → (if b || d then Some ns else None) ≡ option_map nodes (if b then Some t else (if d then Some t else None))
goal_by true d t ns e = ap Some e
goal_by false true t ns e = ap Some e
goal_by false false t ns e = refl

two_more : (n : ℕ) → (suc (suc n) == 1) ≡ false
two_more n = ne_eqb (suc (suc n)) 1 (λ e. omega (arith, e))

goal_tree : (t : Tree) → goal_nodes (nodes t) ≡ option_map nodes (directive_of t)
goal_tree (var x) = refl
goal_tree (int i) = refl
goal_tree (atom a) = refl
goal_tree (comp f t none) = goal_by (bytes_eq f (codes ":-")) (bytes_eq f (codes "?-")) t (nodes t ++ []) (append-nil (nodes t))
goal_tree (comp f t (more u us)) = ap (λ b. if b && is_arrow f then Some (nodes t ++ nodes_all (more u us)) else None) (two_more (count us))

pub no_goal : (t : Tree) (ns : List Node) → ns ≡ nodes t → None ≡ goal_nodes ns → directive_of t ≡ None
no_goal t ns are e = by (directive_of t) (sym (goal_tree t) ∙ ap goal_nodes (sym are) ∙ sym e)
  where
    by : (o : Option Tree) → option_map nodes o ≡ None → o ≡ None
    by None h = refl
    by (Some g) h = absurd (let no : ⊥ = cc in no)

pub a_goal : (t : Tree) (ns ms : List Node) → ns ≡ nodes t → Some ms ≡ goal_nodes ns → (g : Tree) × (directive_of t ≡ Some g) × (ms ≡ nodes g)
a_goal t ns ms are e = by (directive_of t) refl (sym (goal_tree t) ∙ ap goal_nodes (sym are) ∙ sym e)
  where
    by : (o : Option Tree) → directive_of t ≡ o → option_map nodes o ≡ Some ms → (g : Tree) × (directive_of t ≡ Some g) × (ms ≡ nodes g)
    by None is h = absurd (let no : ⊥ = cc in no)
    by (Some g) is h = let same : ms ≡ nodes g = cc in (g, is, same)

-- Arguments that are refused

later : (e : Option Tree) (es : List (Option Tree)) → is_some (first_error es) ≡ true → is_some (first_error (e ∷ es)) ≡ true
later None es h = h
later (Some x) es h = refl

refused_by : (o : Option Tree) (s : Shared) (c : Checking) → is_some o ≡ true → obeyed (unless o s) c ≡ c
refused_by None s c e = absurd (false≢true e)
refused_by (Some x) s c e = refl

abbrev first_node : Tree → Node
first_node (var x) = Var x
first_node (int i) = Int i
first_node (atom a) = Atom a
first_node (comp f t ts) = Comp f (suc (count ts))

-- set_prolog_flag/2

flag_not : (n : Node) (ns : List Node) → ((m : Node) → quotes_in n m ≡ None) → flag_in (n ∷ ns) ≡ leaves
flag_not n [] h = refl
flag_not n (m ∷ ms) h = ap flag_by (h m)

abbrev flag_errors : Tree → Tree → List (Option Tree)
flag_errors f v = bound_error f ∷ bound_error v ∷ atom_error f ∷ flag_error f ∷ fixed_error f ∷ value_error f v ∷ []

flag_refused : (f v : Tree) (c : Checking) → is_some (first_error (flag_errors f v)) ≡ true → c ≡ obeyed (puts_flag f v) c
flag_refused f v c e =
    sym (refused_by (first_error (flag_errors f v)) (asks_for (put_flag (text_of_atom f) (text_of_atom v)) (succeeds_with (more f (more v none)))) c e)

-- A flag that is another one changes nothing.
other_flag : (o : Option Tree) (f v : Chars) (next : Reply → ℕ → Row) (c : Checking) → bytes_eq f (codes "double_quotes") ≡ false
    → c ≡ obeyed (unless o (asks_for (put_flag f v) next)) c
other_flag None f v next c e = ap (λ (b : Bool). record c { quotes = if b then unwrap_or (quotes_of v) c.quotes else c.quotes }) (sym e)
other_flag (Some x) f v next c e = refl

-- The value of the flag.
abbrev quotes_by : Bool → Bool → Bool → Option Quotes
quotes_by x y z = if x then Some Codes else if y then Some Characters else if z then Some AtomText else None

abbrev set_if : Bool → Option Quotes → Checking → Checking
set_if b o c = if b then record c { quotes = unwrap_or o c.quotes } else c

value_served : (b : Bool) (v : Chars) (e : Tree) (next : Reply → ℕ → Row) (c : Checking)
    → set_if b (quotes_of v) c ≡ obeyed (unless (first_error (error_if (not (true && b)) e ∷ [])) (asks_for (put_flag (codes "double_quotes") v) next)) c
value_served true v e next c = refl
value_served false v e next c = refl

value_set : (x y z : Bool) (c : Checking) → after (flag_by (quotes_by x y z)) c ≡ set_if (x || (y || (z || false))) (quotes_by x y z) c
value_set true y z c = refl
value_set false true z c = refl
value_set false false true c = refl
value_set false false false c = refl

value_at : (v : Chars) (c : Checking) → after (flag_by (quotes_in (Atom (codes "double_quotes")) (Atom v))) c ≡ obeyed (puts_flag (atom (codes "double_quotes")) (atom v)) c
value_at v c =
    value_set (bytes_eq v (codes "codes")) (bytes_eq v (codes "chars")) (bytes_eq v (codes "atom")) c
    ∙ value_served (is_flag_value (codes "double_quotes") v) v (domain_error (codes "flag_value") (comp (codes "+") (atom (codes "double_quotes")) (more (atom v) none)))
    (succeeds_with (more (atom (codes "double_quotes")) (more (atom v) none))) c

flag_at : (f v : Chars) (c : Checking) (b : Bool) → bytes_eq f (codes "double_quotes") ≡ b → after (flag_by (quotes_in (Atom f) (Atom v))) c ≡ obeyed (puts_flag (atom f) (atom v)) c
flag_at f v c true e =
    let same : f ≡ codes "double_quotes" = (bytes_eq-Decides f (codes "double_quotes")).0 e in
    subst
    (λ (g : Chars). after (flag_by (quotes_in (Atom g) (Atom v))) c ≡ obeyed (puts_flag (atom g) (atom v)) c)
    (sym same)
    (value_at v c)
flag_at f v c false e =
    ap (λ (b : Bool). after (flag_by (if b then quotes_of v else None)) c) e
    ∙ other_flag (first_error (flag_errors (atom f) (atom v))) f v (succeeds_with (more (atom f) (more (atom v) none))) c e

flag_tree : (t u : Tree) (c : Checking) → after (flag_in (nodes t ++ (nodes u ++ []))) c ≡ obeyed (puts_flag t u) c
flag_tree (var x) u c = ap (λ e. after e c) (flag_not (Var x) (nodes u ++ []) (λ m. refl))
flag_tree (int i) u c =
    ap (λ e. after e c) (flag_not (Int i) (nodes u ++ []) (λ m. refl))
    ∙ flag_refused (int i) u c (later (bound_error u) (atom_error (int i) ∷ flag_error (int i) ∷ fixed_error (int i) ∷ value_error (int i) u ∷ []) refl)
flag_tree (comp f t ts) u c =
    ap (λ e. after e c) (flag_not (Comp f (suc (count ts))) ((nodes t ++ nodes_all ts) ++ (nodes u ++ [])) (λ m. refl))
    ∙ flag_refused (comp f t ts) u c (later (bound_error u) (atom_error (comp f t ts) ∷ flag_error (comp f t ts) ∷ fixed_error (comp f t ts) ∷ value_error (comp f t ts) u ∷ []) refl)
flag_tree (atom f) (var x) c = refl
flag_tree (atom f) (int i) c =
    flag_refused (atom f) (int i) c (later (flag_error (atom f)) (fixed_error (atom f) ∷ value_error (atom f) (int i) ∷ []) (later (fixed_error (atom f)) (value_error (atom f) (int i) ∷ []) refl))
flag_tree (atom f) (comp g t ts) c =
    flag_refused (atom f) (comp g t ts) c (later (flag_error (atom f)) (fixed_error (atom f) ∷ value_error (atom f) (comp g t ts) ∷ []) (later (fixed_error (atom f)) (value_error (atom f) (comp g t ts) ∷ []) refl))
flag_tree (atom f) (atom v) c = flag_at f v c (bytes_eq f (codes "double_quotes")) refl

-- op/3

by_no_kind : (o : Option ℕ) (fs : Option (List Chars)) → operators_by o None fs ≡ leaves
by_no_kind None fs = refl
by_no_kind (Some p) fs = refl

op_not : (n : Node) (ns : List Node) → priority_in n ≡ None → operators_in (n ∷ ns) ≡ leaves
op_not n [] e = refl
op_not n (m ∷ ms) e = ap (λ o. operators_by o (specifier_in m) (names_in ms)) e

abbrev effect_told : Tree → Tree → Tree → Effect
effect_told t u v = operators_by (priority_in (first_node t)) (specifier_in (first_node u)) (names_in (nodes v))

kind_tree : (n : Node) (u v : Tree) → operators_in (n ∷ (nodes u ++ (nodes v ++ []))) ≡ operators_by (priority_in n) (specifier_in (first_node u)) (names_in (nodes v))
kind_tree n (var x) v = by_no_kind (priority_in n) (names_in (nodes v ++ [])) ∙ sym (by_no_kind (priority_in n) (names_in (nodes v)))
kind_tree n (int i) v = by_no_kind (priority_in n) (names_in (nodes v ++ [])) ∙ sym (by_no_kind (priority_in n) (names_in (nodes v)))
kind_tree n (atom a) v = ap (λ ns. operators_by (priority_in n) (specifier_named a) (names_in ns)) (append-nil (nodes v))
kind_tree n (comp f t ts) v =
    by_no_kind (priority_in n) (names_in ((nodes t ++ nodes_all ts) ++ (nodes v ++ []))) ∙ sym (by_no_kind (priority_in n) (names_in (nodes v)))

operators_tree : (t u v : Tree) → operators_in (nodes t ++ (nodes u ++ (nodes v ++ []))) ≡ effect_told t u v
operators_tree (var x) u v = kind_tree (Var x) u v
operators_tree (int i) u v = kind_tree (Int i) u v
operators_tree (atom a) u v = kind_tree (Atom a) u v
operators_tree (comp f t ts) u v = op_not (Comp f (suc (count ts))) ((nodes t ++ nodes_all ts) ++ (nodes u ++ (nodes v ++ []))) refl

abbrev op_errors : Tree → Tree → Tree → List (Option Tree)
op_errors p k f = bound_error p ∷ bound_error k ∷ bound_error f ∷ integer_error p ∷ priority_error p ∷ atom_error k ∷ specifier_error k ∷ []

abbrev op_names : Tree → Tree → Tree → Shared
op_names p k f = on_ok (builtins.names_in f) (puts_names (more p (more k (more f none))) p (specifier_named (text_of_atom k)))

op_refused : (p k f : Tree) (c : Checking) → is_some (first_error (op_errors p k f)) ≡ true → c ≡ obeyed (puts_operators p k f) c
op_refused p k f c e = sym (refused_by (first_error (op_errors p k f)) (op_names p k f) c e)

-- No priority.
high_by : (b : Bool) (n : ℕ) (e : Tree) (es : List (Option Tree)) → (if b then None else Some n) ≡ None → is_some (first_error ((if false || not b then None else Some e) ∷ es)) ≡ true
high_by true n e es h = refl
high_by false n e es h = absurd (let no : ⊥ = cc in no)

no_priority : (t u v : Tree) → priority_in (first_node t) ≡ None → is_some (first_error (op_errors t u v)) ≡ true
no_priority (var x) u v h = refl
no_priority (atom a) u v h =
    let es = integer_error (atom a) ∷ priority_error (atom a) ∷ atom_error u ∷ specifier_error u ∷ [] in
    later (bound_error u) (bound_error v ∷ es) (later (bound_error v) es refl)
no_priority (comp f t ts) u v h =
    let es = integer_error (comp f t ts) ∷ priority_error (comp f t ts) ∷ atom_error u ∷ specifier_error u ∷ [] in
    later (bound_error u) (bound_error v ∷ es) (later (bound_error v) es refl)
no_priority (int (negsuc n)) u v h =
    let es = integer_error (int (negsuc n)) ∷ priority_error (int (negsuc n)) ∷ atom_error u ∷ specifier_error u ∷ [] in
    later (bound_error u) (bound_error v ∷ es) (later (bound_error v) es refl)
no_priority (int (pos n)) u v h =
    let es = integer_error (int (pos n)) ∷ priority_error (int (pos n)) ∷ atom_error u ∷ specifier_error u ∷ [] in
    later (bound_error u) (bound_error v ∷ es) (later (bound_error v) es
    (high_by (nat_lt highest_priority n) n (domain_error (codes "operator_priority") (int (pos n))) (atom_error u ∷ specifier_error u ∷ []) h))

-- No specifier.
no_kind : (t u v : Tree) → specifier_in (first_node u) ≡ None → is_some (first_error (op_errors t u v)) ≡ true
no_kind t (var x) v h = later (bound_error t) (bound_error (var x) ∷ bound_error v ∷ integer_error t ∷ priority_error t ∷ atom_error (var x) ∷ specifier_error (var x) ∷ []) refl
no_kind t (int i) v h =
    let es = atom_error (int i) ∷ specifier_error (int i) ∷ [] in
    later (bound_error t) (bound_error (int i) ∷ bound_error v ∷ integer_error t ∷ priority_error t ∷ es) (later (bound_error v) (integer_error t ∷ priority_error t ∷ es) (later (integer_error t) (priority_error t ∷ es) (later (priority_error t) es refl)))
no_kind t (comp f w ws) v h =
    let es = atom_error (comp f w ws) ∷ specifier_error (comp f w ws) ∷ [] in
    later (bound_error t) (bound_error (comp f w ws) ∷ bound_error v ∷ integer_error t ∷ priority_error t ∷ es) (later (bound_error v) (integer_error t ∷ priority_error t ∷ es) (later (integer_error t) (priority_error t ∷ es) (later (priority_error t) es refl)))
no_kind t (atom a) v h =
    let es = atom_error (atom a) ∷ specifier_error (atom a) ∷ [] in
    later (bound_error t) (bound_error (atom a) ∷ bound_error v ∷ integer_error t ∷ priority_error t ∷ es) (later (bound_error v) (integer_error t ∷ priority_error t ∷ es) (later (integer_error t) (priority_error t ∷ es) (later (priority_error t) es
    (ap (λ (o : Option Kind). is_some (first_error ((if false || (true && is_some o) then None else Some (domain_error (codes "operator_specifier") (atom a))) ∷ []))) h))))

-- A right priority and a right specifier.
right_by : (b : Bool) (n p : ℕ) → (if b then None else Some n) ≡ Some p → b ≡ false
right_by true n p h = absurd (let no : ⊥ = cc in no)
right_by false n p h = refl

none_wrong : (t u v : Tree) (p : ℕ) (k : Kind) → priority_in (first_node t) ≡ Some p → specifier_in (first_node u) ≡ Some k → is_variable v ≡ false → first_error (op_errors t u v) ≡ None
none_wrong (int (pos n)) (atom a) v p k hp hk hv =
    ap (λ (b : Bool). first_error (error_if b instantiation_error ∷ integer_error (int (pos n)) ∷ priority_error (int (pos n)) ∷ atom_error (atom a) ∷ specifier_error (atom a) ∷ [])) hv
    ∙ ap (λ (b : Bool). first_error ((if false || not b then None else Some (domain_error (codes "operator_priority") (int (pos n)))) ∷ atom_error (atom a) ∷ specifier_error (atom a) ∷ [])) (right_by (nat_lt highest_priority n) n p hp)
    ∙ ap (λ (o : Option Kind). first_error ((if false || (true && is_some o) then None else Some (domain_error (codes "operator_specifier") (atom a))) ∷ [])) hk
none_wrong (var x) u v p k hp hk hv = absurd (let no : ⊥ = cc in no)
none_wrong (atom b) u v p k hp hk hv = absurd (let no : ⊥ = cc in no)
none_wrong (comp f w ws) u v p k hp hk hv = absurd (let no : ⊥ = cc in no)
none_wrong (int (negsuc n)) u v p k hp hk hv = absurd (let no : ⊥ = cc in no)
none_wrong (int (pos n)) (var x) v p k hp hk hv = absurd (let no : ⊥ = cc in no)
none_wrong (int (pos n)) (int i) v p k hp hk hv = absurd (let no : ⊥ = cc in no)
none_wrong (int (pos n)) (comp f w ws) v p k hp hk hv = absurd (let no : ⊥ = cc in no)

served_by : (o : Option Tree) (p : ℕ) (k : Kind) (fs : List Tree) (next : Reply → ℕ → Row) (c : Checking)
    → after (operators_by (Some p) (Some k) (texts_told o fs)) c ≡ obeyed (unless o (asks_for (put_operators p k (map text_of_atom fs)) next)) c
served_by None p k fs next c = refl
served_by (Some e) p k fs next c = refl

served : (r : Result (List Tree) Tree) (args : Trees) (p : ℕ) (k : Kind) (c : Checking)
    → after (operators_by (Some p) (Some k) (told r)) c ≡ obeyed (on_ok r (puts_names args (int (pos p)) (Some k))) c
served (Ok fs) args p k c = served_by (atoms_error fs) p k fs (succeeds_with args) c
served (Err e) args p k c = refl

-- The term that is a right priority, and the one that is a right specifier.
a_priority : (t : Tree) (p : ℕ) → priority_in (first_node t) ≡ Some p → t ≡ int (pos p)
a_priority (int (pos n)) p h = by (nat_lt highest_priority n) h
  where
    by : (b : Bool) → (if b then None else Some n) ≡ Some p → int (pos n) ≡ int (pos p)
    by true e = absurd (let no : ⊥ = cc in no)
    by false e = let same : n ≡ p = cc in ap (λ m. int (pos m)) same
a_priority (int (negsuc n)) p h = absurd (let no : ⊥ = cc in no)
a_priority (var x) p h = absurd (let no : ⊥ = cc in no)
a_priority (atom a) p h = absurd (let no : ⊥ = cc in no)
a_priority (comp f w ws) p h = absurd (let no : ⊥ = cc in no)

a_kind : (u : Tree) (k : Kind) → specifier_in (first_node u) ≡ Some k → specifier_named (text_of_atom u) ≡ Some k
a_kind (atom a) k h = h
a_kind (var x) k h = absurd (let no : ⊥ = cc in no)
a_kind (int i) k h = absurd (let no : ⊥ = cc in no)
a_kind (comp f w ws) k h = absurd (let no : ⊥ = cc in no)

right_names : (t u v : Tree) (p : ℕ) (k : Kind) (c : Checking) → priority_in (first_node t) ≡ Some p → specifier_in (first_node u) ≡ Some k
    → after (operators_by (Some p) (Some k) (told (builtins.names_in v))) c ≡ obeyed (op_names t u v) c
right_names t u v p k c hp hk =
    served (builtins.names_in v) (more t (more u (more v none))) p k c
    ∙ ap (λ (o : Option Kind). obeyed (on_ok (builtins.names_in v) (puts_names (more t (more u (more v none))) (int (pos p)) o)) c) (sym (a_kind u k hk))
    ∙ ap (λ (s : Tree). obeyed (on_ok (builtins.names_in v) (puts_names (more t (more u (more v none))) s (specifier_named (text_of_atom u)))) c) (sym (a_priority t p hp))

open_names : (t u v : Tree) (x : ℕ) → v ≡ var x → is_some (first_error (op_errors t u v)) ≡ true
open_names t u v x e =
    subst (λ (w : Tree). is_some (first_error (op_errors t u w)) ≡ true) (sym e)
    (later (bound_error t) (bound_error u ∷ bound_error (var x) ∷ integer_error t ∷ priority_error t ∷ atom_error u ∷ specifier_error u ∷ []) (later (bound_error u) (bound_error (var x) ∷ integer_error t ∷ priority_error t ∷ atom_error u ∷ specifier_error u ∷ []) refl))

right_tree : (t u v : Tree) (p : ℕ) (k : Kind) (c : Checking) → priority_in (first_node t) ≡ Some p → specifier_in (first_node u) ≡ Some k
    → after (operators_by (Some p) (Some k) (told (builtins.names_in v))) c ≡ obeyed (puts_operators t u v) c
right_tree t u (var x) p k c hp hk = op_refused t u (var x) c (open_names t u (var x) x refl)
right_tree t u (int i) p k c hp hk = right_names t u (int i) p k c hp hk ∙ ap (λ o. obeyed (unless o (op_names t u (int i))) c) (sym (none_wrong t u (int i) p k hp hk refl))
right_tree t u (atom a) p k c hp hk = right_names t u (atom a) p k c hp hk ∙ ap (λ o. obeyed (unless o (op_names t u (atom a))) c) (sym (none_wrong t u (atom a) p k hp hk refl))
right_tree t u (comp f w ws) p k c hp hk =
    right_names t u (comp f w ws) p k c hp hk ∙ ap (λ o. obeyed (unless o (op_names t u (comp f w ws))) c) (sym (none_wrong t u (comp f w ws) p k hp hk refl))

told_by : (o : Option ℕ) (q : Option Kind) (t u v : Tree) (c : Checking) → priority_in (first_node t) ≡ o → specifier_in (first_node u) ≡ q
    → after (operators_by o q (told (builtins.names_in v))) c ≡ obeyed (puts_operators t u v) c
told_by None q t u v c hp hk = op_refused t u v c (no_priority t u v hp)
told_by (Some p) None t u v c hp hk = op_refused t u v c (no_kind t u v hk)
told_by (Some p) (Some k) t u v c hp hk = right_tree t u v p k c hp hk

op_tree : (t u v : Tree) (c : Checking) → after (operators_in (nodes t ++ (nodes u ++ (nodes v ++ [])))) c ≡ obeyed (puts_operators t u v) c
op_tree t u v c =
    ap (λ e. after e c) (operators_tree t u v)
    ∙ ap (λ fs. after (operators_by (priority_in (first_node t)) (specifier_in (first_node u)) fs) c) (names_tree v)
    ∙ told_by (priority_in (first_node t)) (specifier_in (first_node u)) t u v c refl refl

-- Goals

chosen : (b : Bool) (e : Effect) (s : Shared) (c : Checking) → after e c ≡ obeyed s c → after (if b then e else leaves) c ≡ (if b then obeyed s c else c)
chosen true e s c h = h
chosen false e s c h = refl

four_more : (n : ℕ) → (suc (suc (suc (suc n))) == 3) ≡ false
four_more n = ne_eqb (suc (suc (suc (suc n)))) 3 (λ e. omega (arith, e))

four_more_two : (n : ℕ) → (suc (suc (suc (suc n))) == 2) ≡ false
four_more_two n = ne_eqb (suc (suc (suc (suc n)))) 2 (λ e. omega (arith, e))

-- WHAT THE GOAL CHANGES
pub effect_tree : (g : Tree) (c : Checking) → after (effect_in (nodes g)) c ≡ directed g c
effect_tree (var x) c = refl
effect_tree (int i) c = refl
effect_tree (atom a) c = refl
effect_tree (comp f t none) c = refl
effect_tree (comp f t (more u none)) c =
    chosen (bytes_eq f (codes "set_prolog_flag")) (flag_in (nodes t ++ (nodes u ++ []))) (puts_flag t u) c (flag_tree t u c)
effect_tree (comp f t (more u (more v none))) c =
    chosen (bytes_eq f (codes "op")) (operators_in (nodes t ++ (nodes u ++ (nodes v ++ [])))) (puts_operators t u v) c (op_tree t u v c)
effect_tree (comp f t (more u (more v (more w ws)))) c =
    let ns = nodes t ++ (nodes u ++ (nodes v ++ (nodes w ++ nodes_all ws))) in
    ap
    (λ (b : Bool). after (if b then (if bytes_eq f (codes "op") then operators_in ns else leaves) else if suc (suc (suc (suc (count ws)))) == 2 then (if bytes_eq f (codes "set_prolog_flag") then flag_in ns else leaves) else leaves) c)
    (four_more (count ws))
    ∙ ap (λ (b : Bool). after (if b then (if bytes_eq f (codes "set_prolog_flag") then flag_in ns else leaves) else leaves) c) (four_more_two (count ws))
