-- The names that are in a clause, in the goal of a directive and in what is left of them when an item is taken up.
use Rattle.std.proofs.Common.{◌≡◌, ◌⊎◌, inl, inr, ℕ, zero, ◌+◌, List, [], ◌∷◌, ◌++◌, Bool, true, false, Option, Some, None, IfSome, refl, sym, ap, ap₂, ◌∙◌, subst, append_assoc, append-nil}
use Rattle.std.specs.Prelude.{Result, Ok, IfOk, bytes_eq, codes, if◌then◌else◌}
use Rattle.std.specs.List.{All, Contains}
use Rattle.std.proofs.lemmas.List.Elements.{All-nil, All-cons, All-head, All-tail, All-same, All-append, All-contains, All-contains_itself, All-weaker}
use Rattle.pl_term.specs.Tree.{Chars, Tree, Trees, var, int, atom, comp, none, more}
use Rattle.pl_term.specs.Variables.{place, variables, rename, rename_by, rename_all_by}
use Rattle.pl_model.specs.History.{Clause as ClauseOf, head_part, body_part}
use Rattle.pl_model.specs.BodyChecks.{is_transparent, both_goals, converted, or_not_callable, rule, numbered_clause, with_body, clause_of, clause_of_term}
use Rattle.run_model.specs.Execution.{directive_of, initialization_of}
use Rattle.pl_consult.specs.Checks.{kept_clause}
use Rattle.world_api.specs.Asked.{texts_in, texts_in_all, clause_texts}
use Rattle.world_api.proofs.AskedLaws.{clause_named}
use Rattle.pl_consult.specs.ItemTexts.{clause_words, later_texts}

-- The names of a term stay where its variables are numbered anew.
mutual
  pub renamed_texts : (f : ℕ → ℕ) (t : Tree) → texts_in (rename_by f t) ≡ texts_in t
  renamed_texts f (var x) = refl
  renamed_texts f (int i) = refl
  renamed_texts f (atom a) = refl
  renamed_texts f (comp g t ts) = ap (λ us. g ∷ us) (ap₂ (λ us vs. us ++ vs) (renamed_texts f t) (renamed_all_texts f ts))

  renamed_all_texts : (f : ℕ → ℕ) (ts : Trees) → texts_in_all (rename_all_by f ts) ≡ texts_in_all ts
  renamed_all_texts f none = refl
  renamed_all_texts f (more t ts) = ap₂ (λ us vs. us ++ vs) (renamed_texts f t) (renamed_all_texts f ts)

module _ (P : Chars → Type 0) where
  all_left : (xs ys : List Chars) → All P (xs ++ ys) → All P xs
  all_left [] ys a = All-nil P
  all_left (x ∷ xs) ys a = All-cons P x xs (All-head P x (xs ++ ys) a) (all_left xs ys (All-tail P x (xs ++ ys) a))

  all_right : (xs ys : List Chars) → All P (xs ++ ys) → All P ys
  all_right [] ys a = a
  all_right (x ∷ xs) ys a = all_right xs ys (All-tail P x (xs ++ ys) a)

  -- The parts of a compound term with one argument, and with two.
  one_argument : (f : Chars) (t : Tree) → All P (texts_in (comp f t none)) → All P (texts_in t)
  one_argument f t a = all_left (texts_in t) [] (All-tail P f (texts_in t ++ []) a)

  two_first : (f : Chars) (t u : Tree) → All P (texts_in (comp f t (more u none))) → All P (texts_in t)
  two_first f t u a = all_left (texts_in t) (texts_in u ++ []) (All-tail P f (texts_in t ++ (texts_in u ++ [])) a)

  two_second : (f : Chars) (t u : Tree) → All P (texts_in (comp f t (more u none))) → All P (texts_in u)
  two_second f t u a =
      all_left (texts_in u) [] (all_right (texts_in t) (texts_in u ++ []) (All-tail P f (texts_in t ++ (texts_in u ++ [])) a))

  two_texts : (f : Chars) (t u : Tree) → P f → All P (texts_in t) → All P (texts_in u) → All P (texts_in (comp f t (more u none)))
  two_texts f t u p a b =
      All-cons P f (texts_in t ++ (texts_in u ++ [])) p
      (All-append P (texts_in t) (texts_in u ++ []) a (All-append P (texts_in u) [] b (All-nil P)))

  -- The goal that a body is converted to has the name call beside those of the body.
  both_texts : (f : Chars) (o q : Option Tree)
      → P f
      → IfSome o (λ g. All P (texts_in g))
      → IfSome q (λ g. All P (texts_in g))
      → IfSome (both_goals f o q) (λ g. All P (texts_in g))
  both_texts f None q p a b = tt
  both_texts f (Some t) None p a b = tt
  both_texts f (Some t) (Some u) p a b = two_texts f t u p a b

  converted_texts : P (codes "call") → (b : Tree) → All P (texts_in b) → IfSome (converted b) (λ g. All P (texts_in g))
  converted_texts p (var x) a = All-cons P (codes "call") [] p (All-nil P)
  converted_texts p (int i) a = tt
  converted_texts p (atom f) a = a
  converted_texts p (comp f t none) a = a
  converted_texts p (comp f t (more u none)) a =
      go (is_transparent f)
      (both_texts f (converted t) (converted u) (All-head P f (texts_in t ++ (texts_in u ++ [])) a)
      (converted_texts p t (two_first f t u a)) (converted_texts p u (two_second f t u a)))
    where
      go : (b : Bool)
          → IfSome (both_goals f (converted t) (converted u)) (λ g. All P (texts_in g))
          → IfSome (if b then both_goals f (converted t) (converted u) else Some (comp f t (more u none))) (λ g. All P (texts_in g))
      go true q = q
      go false q = a
  converted_texts p (comp f t (more u (more v ts))) a = a

  -- A clause has the neck beside those of its head and its body.
  numbered_texts : P (codes ":-") → (h b : Tree) → All P (texts_in h) → All P (texts_in b) → All P (clause_texts (numbered_clause h b))
  numbered_texts p h b a d =
      let f : ℕ → ℕ = λ x. zero + place x (variables (rule h b)) in
      All-cons P (codes ":-") (texts_in (rename_by f h) ++ texts_in (rename_by f b)) p
      (All-append P (texts_in (rename_by f h)) (texts_in (rename_by f b))
      (All-same P (texts_in (rename_by f h)) (texts_in h) (renamed_texts f h) a)
      (All-same P (texts_in (rename_by f b)) (texts_in b) (renamed_texts f b) d))

  with_texts : P (codes ":-") → (h b : Tree) (o : Option Tree)
      → All P (texts_in h)
      → IfSome o (λ g. All P (texts_in g))
      → IfOk (with_body h (or_not_callable b o)) (λ k. All P (clause_texts k))
  with_texts p h b None a d = tt
  with_texts p h b (Some g) a d = numbered_texts p h g a d

  clause_of_texts : P (codes ":-") → P (codes "call") → (h b : Tree)
      → All P (texts_in h)
      → All P (texts_in b)
      → IfOk (clause_of h b) (λ k. All P (clause_texts k))
  clause_of_texts p q (var x) b a d = tt
  clause_of_texts p q (int i) b a d = tt
  clause_of_texts p q (atom f) b a d = with_texts p (atom f) b (converted b) a (converted_texts q b d)
  clause_of_texts p q (comp f t ts) b a d = with_texts p (comp f t ts) b (converted b) a (converted_texts q b d)

  head_texts : (t : Tree) → All P (texts_in t) → All P (texts_in (head_part t))
  head_texts (var x) a = a
  head_texts (int i) a = a
  head_texts (atom f) a = a
  head_texts (comp f t none) a = a
  head_texts (comp f t (more u none)) a = go (bytes_eq f (codes ":-"))
    where
      go : (b : Bool) → All P (texts_in (if b then t else comp f t (more u none)))
      go true = two_first f t u a
      go false = a
  head_texts (comp f t (more u (more v ts))) a = a

  fact_texts : P (codes "true") → All P (texts_in (atom (codes "true")))
  fact_texts p = All-cons P (codes "true") [] p (All-nil P)

  body_texts : P (codes "true") → (t : Tree) → All P (texts_in t) → All P (texts_in (body_part t))
  body_texts p (var x) a = fact_texts p
  body_texts p (int i) a = fact_texts p
  body_texts p (atom f) a = fact_texts p
  body_texts p (comp f t none) a = fact_texts p
  body_texts p (comp f t (more u none)) a = go (bytes_eq f (codes ":-"))
    where
      go : (b : Bool) → All P (texts_in (if b then u else atom (codes "true")))
      go true = two_second f t u a
      go false = fact_texts p
  body_texts p (comp f t (more u (more v ts))) a = fact_texts p

  term_texts : All P clause_words → (t : Tree) → All P (texts_in t) → IfOk (clause_of_term t) (λ k. All P (clause_texts k))
  term_texts w t a =
      let neck : P (codes ":-") = All-head P (codes ":-") (codes "true" ∷ codes "call" ∷ []) w in
      let rest : All P (codes "true" ∷ codes "call" ∷ []) = All-tail P (codes ":-") (codes "true" ∷ codes "call" ∷ []) w in
      let fact : P (codes "true") = All-head P (codes "true") (codes "call" ∷ []) rest in
      let called : P (codes "call") = All-head P (codes "call") [] (All-tail P (codes "true") (codes "call" ∷ []) rest) in
      clause_of_texts neck called (head_part t) (body_part t) (head_texts t a) (body_texts fact t a)

  -- The goals of directives.
  directive_texts : (t : Tree) → All P (texts_in t) → IfSome (directive_of t) (λ g. All P (texts_in g))
  directive_texts (var x) a = tt
  directive_texts (int i) a = tt
  directive_texts (atom f) a = tt
  directive_texts (comp f t none) a = go (bytes_eq f (codes ":-")) (bytes_eq f (codes "?-"))
    where
      go : (b d : Bool) → IfSome (if b then Some t else (if d then Some t else None)) (λ g. All P (texts_in g))
      go true d = one_argument f t a
      go false true = one_argument f t a
      go false false = tt
  directive_texts (comp f t (more u ts)) a = tt

  later_goal_texts : (t : Tree) → All P (texts_in t) → IfSome (initialization_of t) (λ g. All P (texts_in g))
  later_goal_texts (var x) a = tt
  later_goal_texts (int i) a = tt
  later_goal_texts (atom f) a = tt
  later_goal_texts (comp f t none) a = go (bytes_eq f (codes "initialization"))
    where
      go : (b : Bool) → IfSome (if b then Some t else None) (λ g. All P (texts_in g))
      go true = one_argument f t a
      go false = tt
  later_goal_texts (comp f t (more u ts)) a = tt

-- A name of the clause is one of the clause-term, or a word that the clause has beside them.
pub clause_name : (t k : Tree) (x : Chars)
    → clause_of_term t ≡ Ok (kept_clause k)
    → Contains (texts_in k) x
    → Contains (texts_in t) x ⊎ Contains clause_words x
clause_name t k x is p =
    let Q : Chars → Type 0 = λ y. Contains (texts_in t) y ⊎ Contains clause_words y in
    let own : All Q (texts_in t) = All-weaker (Contains (texts_in t)) Q (λ y q. inl q) (texts_in t) (All-contains_itself (texts_in t)) in
    let words : All Q clause_words = All-weaker (Contains clause_words) Q (λ y q. inr q) clause_words (All-contains_itself clause_words) in
    let all : All Q (clause_texts (kept_clause k)) = subst (λ (r : Result ClauseOf Tree). IfOk r (λ c. All Q (clause_texts c))) is (term_texts Q words t own) in
    All-contains Q (clause_texts (kept_clause k)) x all (clause_named k x p)

pub directive_name : (t g : Tree) (x : Chars) → directive_of t ≡ Some g → Contains (texts_in g) x → Contains (texts_in t) x
directive_name t g x is p =
    let all : All (Contains (texts_in t)) (texts_in g) = subst (λ (o : Option Tree). IfSome o (λ u. All (Contains (texts_in t)) (texts_in u))) is (directive_texts (Contains (texts_in t)) t (All-contains_itself (texts_in t))) in
    All-contains (Contains (texts_in t)) (texts_in g) x all p

pub later_name : (t g : Tree) (x : Chars) → initialization_of t ≡ Some g → Contains (texts_in g) x → Contains (texts_in t) x
later_name t g x is p =
    let all : All (Contains (texts_in t)) (texts_in g) = subst (λ (o : Option Tree). IfSome o (λ u. All (Contains (texts_in t)) (texts_in u))) is (later_goal_texts (Contains (texts_in t)) t (All-contains_itself (texts_in t))) in
    All-contains (Contains (texts_in t)) (texts_in g) x all p

-- The names of goals of initialization/1 with one more.
pub later_more : (gs : List (ℕ × Tree)) (n : ℕ) (g : Tree) → later_texts (gs ++ (n, g) ∷ []) ≡ later_texts gs ++ texts_in g
later_more [] n g = append-nil (texts_in g)
later_more (h ∷ hs) n g = ap (λ us. texts_in h.1 ++ us) (later_more hs n g) ∙ sym (append_assoc (texts_in h.1) (later_texts hs) (texts_in g))

pub numbered_name : (t : Tree) (x : Chars) → Contains (texts_in (rename zero t)) x → Contains (texts_in t) x
numbered_name t x p = subst (λ us. Contains us x) (renamed_texts (λ y. zero + place y (variables t)) t) p
