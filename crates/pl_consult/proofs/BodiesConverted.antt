-- Converting a body node by node.
use Rattle.std.proofs.Common.{◌≡◌, ◌≤◌, ◌<◌, ℕ, suc, ◌+◌, ◌-◌, List, [], ◌∷◌, ◌++◌, Bool, true, false, length, Option, Some, None, refl, sym, ap, subst, ◌∙◌, arith, append_assoc, append-nil, length-append, length-drop, drop, get_or, add-one}
use Rattle.std.proofs.Math.Seq.{drop-cons}
use Rattle.std.proofs.lemmas.List.{drop_all}
use Rattle.std.proofs.lemmas.Bool.{ne_eqb}
use Rattle.std.specs.Prelude.{option_map, codes, ◌&&◌, ◌==◌, if◌then◌else◌}
use Rattle.pl_term.specs.declared.node.Node.{Node}
use Rattle.pl_term.specs.declared.node.Node.TheVariants.{Var, Int, Atom, Comp}
use Rattle.pl_term.specs.Tree.{Chars, Tree, Trees, var, int, atom, comp, none, more, count}
use Rattle.pl_term.specs.Nodes.{nodes, nodes_all}
use Rattle.pl_model.specs.BodyChecks.{is_transparent, both_goals, converted}
use Rattle.pl_consult.specs.Subterms.{arity_of}
use Rattle.pl_consult.specs.BodyNodes.{is_integer, goal_nodes, is_control, goals_behind, terms_behind}
use Rattle.pl_consult.proofs.TermNodes.{first_node, opened, nodes-opened, count-opened, count-le, length-nodes_pos}

abbrev pub joined : Option (List Node) → Option (List Node) → Option (List Node)
joined (Some xs) (Some ys) = Some (xs ++ ys)
joined _ _ = None

-- The nodes of the goals that these bodies stand for.
abbrev pub converted_nodes : Trees → Option (List Node)
converted_nodes none = Some []
converted_nodes (more t ts) = joined (option_map nodes (converted t)) (converted_nodes ts)

-- So many terms are still to be copied, and then so many goals to be converted. What was put so far, with what becomes
-- of them, is what becomes of the body.
pub record Converting (body : Tree) (out rest : List Node) (goals terms : ℕ) : Type 0 where
  pub copying : Trees
  pub coming : Trees
  pub parts : rest ≡ nodes_all copying ++ nodes_all coming
  pub copied : count copying ≡ terms
  pub counted : count coming ≡ goals
  pub answer :
      option_map nodes (converted body)
      ≡ option_map (λ ns. out ++ (nodes_all copying ++ ns)) (converted_nodes coming)

one_more : (o : Option (List Node)) → o ≡ option_map (λ ns. [] ++ ([] ++ ns)) (joined o (Some []))
one_more None = refl
one_more (Some xs) = ap Some (sym (append-nil xs))

pub converting_start : (body : Tree) (ns : List Node) → ns ≡ nodes body → Converting body [] ns 1 0
converting_start body ns e =
    record {
      copying = none;
      coming = more body none;
      parts = e ∙ sym (append-nil (nodes body));
      copied = refl;
      counted = refl;
      answer = one_more (option_map nodes (converted body));
    }

-- A node of a term that is copied.

copy_more : (out more_nodes : List Node) (n : Node) (opens : List Node) (o : Option (List Node))
    → more_nodes ≡ n ∷ opens
    → option_map (λ ns. out ++ (more_nodes ++ ns)) o ≡ option_map (λ ns. (out ++ n ∷ []) ++ (opens ++ ns)) o
copy_more out ms n opens None e = refl
copy_more out ms n opens (Some ns) e =
    ap (λ xs. Some (out ++ (xs ++ ns))) e ∙ ap Some (sym (append_assoc out (n ∷ []) (opens ++ ns)))

pub converting_copy : (body : Tree) (out : List Node) (n : Node) (ns : List Node) (goals k : ℕ)
    → Converting body out (n ∷ ns) goals (suc k)
    → Converting body (out ++ n ∷ []) ns goals (k + arity_of n)
converting_copy body out n ns goals k c = go c.copying c.parts c.copied c.answer
  where
    go : (ts : Trees)
        → n ∷ ns ≡ nodes_all ts ++ nodes_all c.coming
        → count ts ≡ suc k
        → option_map nodes (converted body)
        ≡ option_map (λ ms. out ++ (nodes_all ts ++ ms)) (converted_nodes c.coming)
        → Converting body (out ++ n ∷ []) ns goals (k + arity_of n)
    go none e h a = absurd (omega arith)
    go (more t us) e h a =
        let whole : n ∷ ns ≡ first_node t ∷ (nodes_all (opened t us) ++ nodes_all c.coming) =
        e ∙ ap (λ xs. xs ++ nodes_all c.coming) (nodes-opened t us)
        in let first : n ≡ first_node t = cc
        in record {
          copying = opened t us;
          coming = c.coming;
          parts = cc;
          copied = rw first (omega (arith, count-opened t us));
          counted = c.counted;
          answer =
              a
              ∙ copy_more
              out
              (nodes_all (more t us))
              n
              (nodes_all (opened t us))
              (converted_nodes c.coming)
              (nodes-opened t us ∙ ap (λ m. m ∷ nodes_all (opened t us)) (sym first));
        }

-- A node in the place of a goal.

put_plain : (out ys zs : List Node) (o : Option (List Node))
    → option_map (λ ns. out ++ ([] ++ ns)) (joined (Some (ys ++ zs)) o)
    ≡ option_map (λ ns. (out ++ ys) ++ (zs ++ ns)) o
put_plain out ys zs None = refl
put_plain out ys zs (Some ns) =
    ap (λ xs. Some (out ++ xs)) (append_assoc ys zs ns) ∙ ap Some (sym (append_assoc out ys (zs ++ ns)))

put_both : (f : Chars) (out : List Node) (o p : Option Tree) (q : Option (List Node))
    → option_map (λ ns. out ++ ([] ++ ns)) (joined (option_map nodes (both_goals f o p)) q)
    ≡ option_map
    (λ ns. (out ++ Comp f 2 ∷ []) ++ ([] ++ ns))
    (joined (option_map nodes o) (joined (option_map nodes p) q))
put_both f out None p q = refl
put_both f out (Some t) None q = refl
put_both f out (Some t) (Some u) None = refl
put_both f out (Some t) (Some u) (Some ns) =
    ap
    (λ xs. Some (out ++ Comp f 2 ∷ xs))
    (append_assoc (nodes t) (nodes u ++ []) ns ∙ ap (λ xs. nodes t ++ (xs ++ ns)) (append-nil (nodes u)))
    ∙ ap Some (sym (append_assoc out (Comp f 2 ∷ []) (nodes t ++ (nodes u ++ ns))))

-- Where the next goal is the body `t`, with these after it.
abbrev Coming : Tree → List Node → Tree → Trees → Type 0
Coming body out t ts =
    option_map nodes (converted body) ≡ option_map (λ ns. out ++ ([] ++ ns)) (converted_nodes (more t ts))

-- A body that is one goal, whose nodes are these and those of its arguments.
plain : (body : Tree) (out ys : List Node) (t : Tree) (cs ts : Trees) (rest : List Node)
    → option_map nodes (converted t) ≡ Some (ys ++ nodes_all cs)
    → rest ≡ nodes_all cs ++ nodes_all ts
    → Coming body out t ts
    → Converting body (out ++ ys) rest (count ts + 0) (count cs)
plain body out ys t cs ts rest g r a =
    record {
      copying = cs;
      coming = ts;
      parts = r;
      copied = refl;
      counted = omega arith;
      answer =
          a
          ∙ ap (λ o. option_map (λ ns. out ++ ([] ++ ns)) (joined o (converted_nodes ts))) g
          ∙ put_plain out ys (nodes_all cs) (converted_nodes ts);
    }

-- A conjunction.
conjunction : (body : Tree) (out : List Node) (f : Chars) (t u : Tree) (ts : Trees) (rest : List Node)
    → rest ≡ (nodes t ++ (nodes u ++ [])) ++ nodes_all ts
    → option_map nodes (converted body)
    ≡ option_map
    (λ ns. out ++ ([] ++ ns))
    (joined (option_map nodes (both_goals f (converted t) (converted u))) (converted_nodes ts))
    → Converting body (out ++ Comp f 2 ∷ []) rest (count ts + 2) 0
conjunction body out f t u ts rest r a =
    record {
      copying = none;
      coming = more t (more u ts);
      parts =
          r
          ∙ append_assoc (nodes t) (nodes u ++ []) (nodes_all ts)
          ∙ ap (λ xs. nodes t ++ (xs ++ nodes_all ts)) (append-nil (nodes u));
      copied = refl;
      counted = omega arith;
      answer = a ∙ put_both f out (converted t) (converted u) (converted_nodes ts);
    }

-- What follows a node, by whether it begins a control construct.
abbrev After : Tree → List Node → List Node → Trees → ℕ → Bool → Type 0
After body put rest ts k b = Converting body put rest (count ts + (if b then 2 else 0)) (if b then 0 else k)

and_false : (b : Bool) → (b && false) ≡ false
and_false true = refl
and_false false = refl

pub and_true : (b : Bool) → (b && true) ≡ b
and_true true = refl
and_true false = refl

-- A compound term that is one goal.
compound_goal : (body : Tree) (out : List Node) (f : Chars) (t : Tree) (us ts : Trees) (rest : List Node)
    → option_map nodes (converted (comp f t us)) ≡ Some (nodes (comp f t us))
    → (is_transparent f && (suc (count us) == 2)) ≡ false
    → nodes (comp f t us) ++ nodes_all ts ≡ Comp f (suc (count us)) ∷ rest
    → Coming body out (comp f t us) ts
    → After body (out ++ Comp f (suc (count us)) ∷ []) rest ts (suc (count us)) (is_transparent f && (suc (count us) == 2))
compound_goal body out f t us ts rest g single e a =
    let r : rest ≡ nodes_all (more t us) ++ nodes_all ts = cc
    in subst
    (After body (out ++ Comp f (suc (count us)) ∷ []) rest ts (suc (count us)))
    (sym single)
    (plain body out (Comp f (suc (count us)) ∷ []) (comp f t us) (more t us) ts rest g r a)

two_arguments : (body : Tree) (out : List Node) (f : Chars) (t u : Tree) (ts : Trees) (rest : List Node) (b : Bool)
    → is_transparent f ≡ b
    → nodes (comp f t (more u none)) ++ nodes_all ts ≡ Comp f 2 ∷ rest
    → Coming body out (comp f t (more u none)) ts
    → After body (out ++ Comp f 2 ∷ []) rest ts 2 b
two_arguments body out f t u ts rest true is e a =
    let r : rest ≡ (nodes t ++ (nodes u ++ [])) ++ nodes_all ts = cc
    in conjunction
    body
    out
    f
    t
    u
    ts
    rest
    r
    (a
    ∙ ap
    (λ b.
    option_map
    (λ ns. out ++ ([] ++ ns))
    (joined
    (option_map nodes (if b then both_goals f (converted t) (converted u) else Some (comp f t (more u none))))
    (converted_nodes ts)))
    is)
two_arguments body out f t u ts rest false is e a =
    let r : rest ≡ nodes_all (more t (more u none)) ++ nodes_all ts = cc
    in plain
    body
    out
    (Comp f 2 ∷ [])
    (comp f t (more u none))
    (more t (more u none))
    ts
    rest
    (ap
    (λ b. option_map nodes (if b then both_goals f (converted t) (converted u) else Some (comp f t (more u none))))
    is)
    r
    a

pub three_more : (n : ℕ) → (suc (suc (suc n)) == 2) ≡ false
three_more n = ne_eqb (suc (suc (suc n))) 2 (λ e. omega arith)

-- What the first node of the body `t` leaves.
goal_node : (body : Tree) (out : List Node) (t : Tree) (ts : Trees) (rest : List Node)
    → nodes t ++ nodes_all ts ≡ first_node t ∷ rest
    → is_integer (first_node t) ≡ false
    → Coming body out t ts
    → After body (out ++ goal_nodes (first_node t)) rest ts (arity_of (first_node t)) (is_control (first_node t))
goal_node body out (var x) ts rest e i a =
    let r : rest ≡ nodes_all ts = cc
    in plain body out (goal_nodes (Var x)) (var x) none ts rest refl r a
goal_node body out (int j) ts rest e i a = absurd (cc)
goal_node body out (atom b) ts rest e i a =
    let r : rest ≡ nodes_all ts = cc in plain body out (Atom b ∷ []) (atom b) none ts rest refl r a
goal_node body out (comp f t none) ts rest e i a =
    compound_goal body out f t none ts rest refl (and_false (is_transparent f)) e a
goal_node body out (comp f t (more u none)) ts rest e i a =
    subst
    (After body (out ++ Comp f 2 ∷ []) rest ts 2)
    (sym (and_true (is_transparent f)))
    (two_arguments body out f t u ts rest (is_transparent f) refl e a)
goal_node body out (comp f t (more u (more v vs))) ts rest e i a =
    compound_goal
    body
    out
    f
    t
    (more u (more v vs))
    ts
    rest
    refl
    (ap (λ b. is_transparent f && b) (three_more (count vs)) ∙ and_false (is_transparent f))
    e
    a

pub converting_goal : (body : Tree) (out : List Node) (n : Node) (ns put : List Node) (goals : ℕ)
    → is_integer n ≡ false
    → put ≡ out ++ goal_nodes n
    → Converting body out (n ∷ ns) goals 0
    → Converting body put ns (goals - 1 + goals_behind n) (terms_behind n) × (0 < goals)
converting_goal body out n ns put goals i p c = go c.copying c.coming c.parts c.copied c.counted c.answer
  where
    go : (cs ts : Trees)
        → n ∷ ns ≡ nodes_all cs ++ nodes_all ts
        → count cs ≡ 0
        → count ts ≡ goals
        → option_map nodes (converted body) ≡ option_map (λ ms. out ++ (nodes_all cs ++ ms)) (converted_nodes ts)
        → Converting body put ns (goals - 1 + goals_behind n) (terms_behind n) × (0 < goals)
    go (more u us) ts e h k a = absurd (omega arith)
    go none none e h k a = absurd (cc)
    go none (more t ts) e h k a =
        let first : n ≡ first_node t =
        let whole : n ∷ ns ≡ first_node t ∷ nodes_all (opened t ts) = e ∙ nodes-opened t ts in cc
        in let left : goals - 1 ≡ count ts = omega arith
        in let here : nodes t ++ nodes_all ts ≡ first_node t ∷ ns = sym e ∙ ap (λ m. m ∷ ns) first
        in (
          rw
              (left, p, first)
              (goal_node body out t ts ns here (ap is_integer (sym first) ∙ i) a),
          omega arith,
        )

none_back : (o : Option Tree) → option_map nodes o ≡ None → None ≡ o
none_back None e = refl
none_back (Some t) e = absurd (cc)

integer_first : (t : Tree) → is_integer (first_node t) ≡ true → converted t ≡ None
integer_first (var x) e = absurd (cc)
integer_first (int i) e = refl
integer_first (atom a) e = absurd (cc)
integer_first (comp f t ts) e = absurd (cc)

-- An integer in the place of a goal.
pub converting-integer : (body : Tree) (out : List Node) (n : Node) (ns : List Node) (goals : ℕ)
    → is_integer n ≡ true
    → Converting body out (n ∷ ns) goals 0
    → None ≡ converted body
converting-integer body out n ns goals i c = go c.copying c.coming c.parts c.copied c.answer
  where
    go : (cs ts : Trees)
        → n ∷ ns ≡ nodes_all cs ++ nodes_all ts
        → count cs ≡ 0
        → option_map nodes (converted body) ≡ option_map (λ ms. out ++ (nodes_all cs ++ ms)) (converted_nodes ts)
        → None ≡ converted body
    go (more u us) ts e h a = absurd (omega arith)
    go none none e h a = absurd (cc)
    go none (more t ts) e h a =
        let first : n ≡ first_node t =
        let whole : n ∷ ns ≡ first_node t ∷ nodes_all (opened t ts) = e ∙ nodes-opened t ts in cc
        in none_back
        (converted body)
        (a
        ∙ ap
        (λ o. option_map (λ ms. out ++ ([] ++ ms)) (joined (option_map nodes o) (converted_nodes ts)))
        (integer_first t (ap is_integer (sym first) ∙ i)))

some_back : (o : Option Tree) (out : List Node)
    → option_map nodes o ≡ Some (out ++ [])
    → (t : Tree) × (o ≡ Some t) × (out ≡ nodes t)
some_back None out e = absurd (cc)
some_back (Some t) out e =
    let is : nodes t ≡ out ++ [] = cc in (t, refl, sym (append-nil out) ∙ sym is)

-- After the last node all is converted.
pub converting_end : (body : Tree) (out : List Node) (goals terms : ℕ)
    → Converting body out [] goals terms
    → (t : Tree) × (converted body ≡ Some t) × (out ≡ nodes t)
converting_end body out goals terms c = go c.copying c.coming c.parts c.answer
  where
    go : (cs ts : Trees)
        → [] ≡ nodes_all cs ++ nodes_all ts
        → option_map nodes (converted body) ≡ option_map (λ ms. out ++ (nodes_all cs ++ ms)) (converted_nodes ts)
        → (t : Tree) × (converted body ≡ Some t) × (out ≡ nodes t)
    go none none e a = some_back (converted body) out a
    go none (more t ts) e a =
        absurd
        (omega (arith, ap (length {A = Node}) e, length-append (nodes t) (nodes_all ts), length-nodes_pos t))
    go (more u us) ts e a =
        absurd
        (omega (
          arith,
          ap (length {A = Node}) e,
          length-append (nodes_all (more u us)) (nodes_all ts),
          length-append (nodes u) (nodes_all us),
          length-nodes_pos u,
        ))

-- So many terms lie within the nodes.
pub converting-few : (body : Tree) (out rest : List Node) (goals terms : ℕ)
    → Converting body out rest goals terms
    → goals + terms ≤ length rest
converting-few body out rest goals terms c =
    omega (
      arith,
      count-le c.copying,
      count-le c.coming,
      c.copied,
      c.counted,
      ap (length {A = Node}) c.parts,
      length-append (nodes_all c.copying) (nodes_all c.coming),
    )

-- One step of the walk over the nodes.

next_node : (body : Tree) (out ns : List Node) (i : ℕ) (n : Node) (goals terms : ℕ)
    → i < length ns
    → n ≡ get_or ns i n
    → Converting body out (drop i ns) goals terms
    → Converting body out (n ∷ drop (suc i) ns) goals terms
next_node body out ns i n goals terms within at c =
    subst
    (λ (ms : List Node). Converting body out ms goals terms)
    (drop-cons ns i n within ∙ ap (λ m. m ∷ drop (suc i) ns) (sym at))
    c

pub copy_step : (body : Tree) (out ns to : List Node) (i : ℕ) (n : Node) (goals terms : ℕ)
    → i < length ns
    → n ≡ get_or ns i n
    → 0 < terms
    → to ≡ out ++ n ∷ []
    → Converting body out (drop i ns) goals terms
    → Converting body to (drop (i + 1) ns) goals (terms - 1 + arity_of n)
copy_step body out ns to i n goals terms within at pending put c =
    let k : terms ≡ suc (terms - 1) = omega arith
    in let before : Converting body out (n ∷ drop (suc i) ns) goals (suc (terms - 1)) =
    subst
    (λ (m : ℕ). Converting body out (n ∷ drop (suc i) ns) goals m)
    k
    (next_node body out ns i n goals terms within at c)
    in rw (add-one, put) (converting_copy body out n (drop (suc i) ns) goals (terms - 1) before)

goal_before : (body : Tree) (out ns : List Node) (i : ℕ) (n : Node) (goals terms : ℕ)
    → i < length ns
    → n ≡ get_or ns i n
    → terms ≤ 0
    → Converting body out (drop i ns) goals terms
    → Converting body out (n ∷ drop (suc i) ns) goals 0
goal_before body out ns i n goals terms within at over c =
    let k : terms ≡ 0 = omega arith
    in subst
    (λ (m : ℕ). Converting body out (n ∷ drop (suc i) ns) goals m)
    k
    (next_node body out ns i n goals terms within at c)

pub goal_step : (body : Tree) (out ns to : List Node) (i : ℕ) (n : Node) (goals terms : ℕ)
    → i < length ns
    → n ≡ get_or ns i n
    → terms ≤ 0
    → false ≡ is_integer n
    → to ≡ out ++ goal_nodes n
    → Converting body out (drop i ns) goals terms
    → Converting body to (drop (i + 1) ns) (goals - 1 + goals_behind n) (terms_behind n) × (0 < goals)
goal_step body out ns to i n goals terms within at over no_integer put c =
    let after : Converting body to (drop (suc i) ns) (goals - 1 + goals_behind n) (terms_behind n) × (0 < goals) =
    converting_goal
    body
    out
    n
    (drop (suc i) ns)
    to
    goals
    (sym no_integer)
    put
    (goal_before body out ns i n goals terms within at over c)
    in rw add-one after

pub integer_step : (body : Tree) (out ns : List Node) (i : ℕ) (n : Node) (goals terms : ℕ)
    → i < length ns
    → n ≡ get_or ns i n
    → terms ≤ 0
    → true ≡ is_integer n
    → Converting body out (drop i ns) goals terms
    → None ≡ converted body
integer_step body out ns i n goals terms within at over is c =
    converting-integer
    body
    out
    n
    (drop (suc i) ns)
    goals
    (sym is)
    (goal_before body out ns i n goals terms within at over c)

pub walk_end : (body : Tree) (out ns : List Node) (i goals terms : ℕ)
    → length ns ≤ i
    → Converting body out (drop i ns) goals terms
    → (t : Tree) × (converted body ≡ Some t) × (out ≡ nodes t)
walk_end body out ns i goals terms past c =
    converting_end
    body
    out
    goals
    terms
    (subst (λ (ms : List Node). Converting body out ms goals terms) (drop_all i ns past) c)

pub walk-few : (body : Tree) (out ns : List Node) (i goals terms : ℕ)
    → Converting body out (drop i ns) goals terms
    → goals + terms ≤ length ns
walk-few body out ns i goals terms c =
    omega (arith, converting-few body out (drop i ns) goals terms c, length-drop i ns)

pub goal_nodes-other : (n : Node) → ((x : ℕ) → n ≡ Var x → ⊥) → goal_nodes n ≡ n ∷ []
goal_nodes-other (Var x) h = absurd (h x refl)
goal_nodes-other (Int i) h = refl
goal_nodes-other (Atom a) h = refl
goal_nodes-other (Comp f k) h = refl

pub goal_nodes-variable : (all : List Node) (m n : Node) (x : ℕ)
    → m ≡ n
    → n ≡ Var x
    → all ++ (Comp (codes "call") 1 ∷ (m ∷ [])) ≡ all ++ goal_nodes n
goal_nodes-variable all m n x e is =
    ap (λ k. all ++ (Comp (codes "call") 1 ∷ (k ∷ []))) (e ∙ is) ∙ ap (λ k. all ++ goal_nodes k) (sym is)
