-- Bindings made of equations one after the other.
use Rattle.std.proofs.Common.{◌≡◌, ℕ, Bool, true, false, cond, not, ◌&&◌, ◌==◌, [], ◌∷◌, ◌++◌, Option, Some, None, refl, sym, ap, ap₂, ◌∙◌, append_assoc, append-nil}
use Rattle.std.proofs.lemmas.Bool.{false≢true}
use Rattle.std.proofs.lemmas.Bool.Decides.{Decides-eqb}
use Rattle.pl_term.specs.Tree.{Chars, Tree, Trees, var, int, atom, comp}
use Rattle.pl_term.specs.Variables.{has, replace, replace_all}
use Rattle.pl_model.specs.Unify.{Bindings, bound, bound_all}
use Rattle.pl_model.proofs.UnifyReplace.{cond_cases, eqb_same, replace-absent}
use Rattle.pl_model.proofs.UnifyDifference.{and-true}
use Rattle.term_store.specs.Heap.{solved, named, fair}

pub bound-append : (bs cs : Bindings) (t : Tree) → bound (bs ++ cs) t ≡ bound cs (bound bs t)
bound-append [] cs t = refl
bound-append (b ∷ bs) cs t = bound-append bs cs (replace b.0 b.1 t)

pub solved-snoc : (bs es : Bindings) (e : ℕ × Tree) → solved bs (es ++ e ∷ []) ≡ solved bs es ++ (e.0, bound (bs ++ solved bs es) e.1) ∷ []
solved-snoc bs [] e = ap (λ l. (e.0, bound l e.1) ∷ []) (sym (append-nil bs))
solved-snoc bs (d ∷ ds) e =
    let here : Bindings = bs ++ (d.0, bound bs d.1) ∷ [] in
    ap (λ l. (d.0, bound bs d.1) ∷ l) (solved-snoc here ds e)
    ∙ ap (λ l. (d.0, bound bs d.1) ∷ (solved here ds ++ (e.0, bound l e.1) ∷ [])) (append_assoc bs ((d.0, bound bs d.1) ∷ []) (solved here ds))

not-false : (b : Bool) → b ≡ false → not b ≡ true
not-false true e = absurd (false≢true (sym e))
not-false false e = refl

not-true : (b : Bool) → not b ≡ true → b ≡ false
not-true true e = absurd (false≢true e)
not-true false e = refl

pub fair-snoc : (bs es : Bindings) (e : ℕ × Tree) → fair bs es ≡ true → named e.0 (bs ++ solved bs es) ≡ false
    → has e.0 (bound (bs ++ solved bs es) e.1) ≡ false → fair bs (es ++ e ∷ []) ≡ true
fair-snoc bs [] e f n a =
    ap₂ (λ x y. x && (y && true))
    (not-false (named e.0 bs) (ap (named e.0) (sym (append-nil bs)) ∙ n))
    (not-false (has e.0 (bound bs e.1)) (ap (λ l. has e.0 (bound l e.1)) (sym (append-nil bs)) ∙ a))
fair-snoc bs (d ∷ ds) e f n a =
    let here : Bindings = bs ++ (d.0, bound bs d.1) ∷ [] in
    let p = and-true (not (named d.0 bs)) (not (has d.0 (bound bs d.1)) && fair here ds) f in
    let q = and-true (not (has d.0 (bound bs d.1))) (fair here ds) p.1 in
    let joined = append_assoc bs ((d.0, bound bs d.1) ∷ []) (solved here ds) in
    ap₂ (λ x y. x && y) p.0
    (ap₂ (λ x y. x && y) q.0
    (fair-snoc here ds e q.1 (ap (named e.0) joined ∙ n) (ap (λ l. has e.0 (bound l e.1)) joined ∙ a)))

-- The term that the first equation for a variable gives it.
abbrev pub lookup : ℕ → Bindings → Option Tree
lookup x [] = None
lookup x (e ∷ es) = cond (x == e.0) (Some e.1) (lookup x es)

pub unnamed : (x : ℕ) (bs : Bindings) → named x bs ≡ false → bound bs (var x) ≡ var x
unnamed x [] n = refl
unnamed x (b ∷ bs) n = go (unnamed x bs) (x == b.0) refl n
  where
    go : (named x bs ≡ false → bound bs (var x) ≡ var x)
        → (q : Bool) → (x == b.0) ≡ q → cond q true (named x bs) ≡ false → bound bs (replace b.0 b.1 (var x)) ≡ var x
    go ih true e h = absurd (false≢true (sym h))
    go ih false e h =
        cond_cases (λ u. bound bs u ≡ var x) (b.0 == x)
        (λ k. absurd (false≢true (sym e ∙ (Decides-eqb x b.0).1 (sym ((Decides-eqb b.0 x).0 k)))))
        (λ _. ih h)

replaced_itself : (x : ℕ) (u : Tree) → replace x u (var x) ≡ u
replaced_itself x u = ap (λ b. cond b u (var x)) (eqb_same x)

-- A variable stands for what its equation gives it.
pub follows : (bs es : Bindings) (x : ℕ) (t : Tree) → fair bs es ≡ true → lookup x es ≡ Some t
    → bound (bs ++ solved bs es) (var x) ≡ bound (bs ++ solved bs es) t
follows bs [] x t f l = cc
follows bs (d ∷ ds) x t f l = go (follows (bs ++ (d.0, bound bs d.1) ∷ []) ds x t) (x == d.0) refl l
  where
    here : Bindings
    here = bs ++ (d.0, bound bs d.1) ∷ []

    p : (not (named d.0 bs) ≡ true) × ((not (has d.0 (bound bs d.1)) && fair (bs ++ (d.0, bound bs d.1) ∷ []) ds) ≡ true)
    p = and-true (not (named d.0 bs)) (not (has d.0 (bound bs d.1)) && fair (bs ++ (d.0, bound bs d.1) ∷ []) ds) f

    q : (not (has d.0 (bound bs d.1)) ≡ true) × (fair (bs ++ (d.0, bound bs d.1) ∷ []) ds ≡ true)
    q = and-true (not (has d.0 (bound bs d.1))) (fair (bs ++ (d.0, bound bs d.1) ∷ []) ds) p.1

    rest : Bindings
    rest = solved (bs ++ (d.0, bound bs d.1) ∷ []) ds

    parts : (s : Tree) → bound (bs ++ (d.0, bound bs d.1) ∷ solved (bs ++ (d.0, bound bs d.1) ∷ []) ds) s
        ≡ bound (solved (bs ++ (d.0, bound bs d.1) ∷ []) ds) (replace d.0 (bound bs d.1) (bound bs s))
    parts s = bound-append bs ((d.0, bound bs d.1) ∷ solved (bs ++ (d.0, bound bs d.1) ∷ []) ds) s

    go : (fair (bs ++ (d.0, bound bs d.1) ∷ []) ds ≡ true → lookup x ds ≡ Some t
        → bound ((bs ++ (d.0, bound bs d.1) ∷ []) ++ solved (bs ++ (d.0, bound bs d.1) ∷ []) ds) (var x)
        ≡ bound ((bs ++ (d.0, bound bs d.1) ∷ []) ++ solved (bs ++ (d.0, bound bs d.1) ∷ []) ds) t)
        → (b : Bool) → (x == d.0) ≡ b → cond b (Some d.1) (lookup x ds) ≡ Some t
        → bound (bs ++ (d.0, bound bs d.1) ∷ solved (bs ++ (d.0, bound bs d.1) ∷ []) ds) (var x)
        ≡ bound (bs ++ (d.0, bound bs d.1) ∷ solved (bs ++ (d.0, bound bs d.1) ∷ []) ds) t
    go ih true e k =
        let same : d.1 ≡ t = cc in
        parts (var x)
        ∙ ap (bound rest)
        (ap (λ y. replace d.0 (bound bs d.1) (bound bs (var y))) ((Decides-eqb x d.0).0 e)
        ∙ ap (replace d.0 (bound bs d.1)) (unnamed d.0 bs (not-true (named d.0 bs) p.0))
        ∙ replaced_itself d.0 (bound bs d.1)
        ∙ sym (replace-absent (bound bs d.1) d.0 (bound bs d.1) (not-true (has d.0 (bound bs d.1)) q.0)))
        ∙ sym (parts d.1) ∙ ap (bound (bs ++ (d.0, bound bs d.1) ∷ rest)) same
    go ih false e k =
        let joined = append_assoc bs ((d.0, bound bs d.1) ∷ []) rest in
        ap (λ l. bound l (var x)) (sym joined) ∙ ih q.1 k ∙ ap (λ l. bound l t) joined

pub named-solved : (x : ℕ) (bs es : Bindings) → named x (solved bs es) ≡ named x es
named-solved x bs [] = refl
named-solved x bs (e ∷ es) = ap (cond (x == e.0) true) (named-solved x (bs ++ (e.0, bound bs e.1) ∷ []) es)

-- Bindings put into terms other than variables.
pub bound-int : (bs : Bindings) → (n : _) → bound bs (int n) ≡ int n
bound-int [] n = refl
bound-int (b ∷ bs) n = bound-int bs n

pub bound-atom : (bs : Bindings) (a : Chars) → bound bs (atom a) ≡ atom a
bound-atom [] a = refl
bound-atom (b ∷ bs) a = bound-atom bs a

pub bound-comp : (bs : Bindings) (f : Chars) (t : Tree) (ts : Trees) → bound bs (comp f t ts) ≡ comp f (bound bs t) (bound_all bs ts)
bound-comp [] f t ts = refl
bound-comp (b ∷ bs) f t ts = bound-comp bs f (replace b.0 b.1 t) (replace_all b.0 b.1 ts)
