-- The laws of renaming the variables of a term.
use Rattle.std.proofs.Common.{◌≡◌, ◌<◌, ◌≤◌, ◌+◌, ◌==◌, ◌||◌, ◌++◌, ℕ, Bool, true, false, List, [], ◌∷◌, length, map, take, get_or, refl, sym, ◌∙◌, ap}
use Rattle.std.proofs.lemmas.Bool.{eq-eqb, eqb-true, or_left, or_right}
use Rattle.std.proofs.lemmas.List.{map-append, take_more, take_all}
use Rattle.pl_term.specs.declared.node.Node.{Node}
use Rattle.pl_term.specs.declared.node.Node.TheVariants.{Var, Int, Atom, Comp}
use Rattle.pl_term.specs.Tree.{Tree, Trees, var, int, atom, comp, none, more}
use Rattle.pl_term.specs.Nodes.{nodes}
use Rattle.pl_term.specs.Variables.{is_in, place, occurrences, occurrences_all, variables, rename, rename_by, rename_all_by}
use Rattle.pl_term.specs.NodeLists.{rename_node, with, met_with}
use Rattle.pl_term.proofs.Distinct.{is_in-append, place-append}
use Rattle.pl_term.proofs.NodeLemmas.{met, met_more, met-take, met-nodes, rename_nodes}
use Rattle.pl_term.proofs.Places.{is_in-with}

in_left : (x : ℕ) (xs ys : List ℕ) → is_in x xs ≡ true → is_in x (xs ++ ys) ≡ true
in_left x xs ys e = is_in-append x xs ys ∙ or_left (is_in x xs) (is_in x ys) e

in_right : (x : ℕ) (xs ys : List ℕ) → is_in x ys ≡ true → is_in x (xs ++ ys) ≡ true
in_right x xs ys e = is_in-append x xs ys ∙ or_right (is_in x xs) (is_in x ys) e

mutual
  -- Two renamings that agree on the variables of a term make the same of it.
  pub rename_same : (f g : ℕ → ℕ) (t : Tree)
      → ((x : ℕ) → is_in x (occurrences t) ≡ true → f x ≡ g x)
      → rename_by f t ≡ rename_by g t
  rename_same f g (var x) h = ap var (h x (or_left (x == x) false (eq-eqb x x refl)))
  rename_same f g (int i) h = refl
  rename_same f g (atom a) h = refl
  rename_same f g (comp n t ts) h =
      ap (λ u. comp n u (rename_all_by f ts)) (rename_same f g t (λ x e. h x (in_left x (occurrences t) (occurrences_all ts) e)))
      ∙ ap (comp n (rename_by g t)) (rename_same_all f g ts (λ x e. h x (in_right x (occurrences t) (occurrences_all ts) e)))

  pub rename_same_all : (f g : ℕ → ℕ) (ts : Trees)
      → ((x : ℕ) → is_in x (occurrences_all ts) ≡ true → f x ≡ g x)
      → rename_all_by f ts ≡ rename_all_by g ts
  rename_same_all f g none h = refl
  rename_same_all f g (more t ts) h =
      ap (λ u. more u (rename_all_by f ts)) (rename_same f g t (λ x e. h x (in_left x (occurrences t) (occurrences_all ts) e)))
      ∙ ap (more (rename_by g t)) (rename_same_all f g ts (λ x e. h x (in_right x (occurrences t) (occurrences_all ts) e)))

mutual
  pub rename_twice : (f g : ℕ → ℕ) (t : Tree) → rename_by g (rename_by f t) ≡ rename_by (λ x. g (f x)) t
  rename_twice f g (var x) = refl
  rename_twice f g (int i) = refl
  rename_twice f g (atom a) = refl
  rename_twice f g (comp n t ts) =
      ap (λ u. comp n u (rename_all_by g (rename_all_by f ts))) (rename_twice f g t)
      ∙ ap (comp n (rename_by (λ x. g (f x)) t)) (rename_twice_all f g ts)

  pub rename_twice_all : (f g : ℕ → ℕ) (ts : Trees)
      → rename_all_by g (rename_all_by f ts) ≡ rename_all_by (λ x. g (f x)) ts
  rename_twice_all f g none = refl
  rename_twice_all f g (more t ts) =
      ap (λ u. more u (rename_all_by g (rename_all_by f ts))) (rename_twice f g t)
      ∙ ap (more (rename_by (λ x. g (f x)) t)) (rename_twice_all f g ts)

mutual
  pub rename_none : (t : Tree) → rename_by (λ x. x) t ≡ t
  rename_none (var x) = refl
  rename_none (int i) = refl
  rename_none (atom a) = refl
  rename_none (comp n t ts) =
      ap (λ u. comp n u (rename_all_by (λ x. x) ts)) (rename_none t) ∙ ap (comp n t) (rename_none_all ts)

  pub rename_none_all : (ts : Trees) → rename_all_by (λ x. x) ts ≡ ts
  rename_none_all none = refl
  rename_none_all (more t ts) =
      ap (λ u. more u (rename_all_by (λ x. x) ts)) (rename_none t) ∙ ap (more t) (rename_none_all ts)

mutual
  pub occurrences-rename_by : (f : ℕ → ℕ) (t : Tree) → occurrences (rename_by f t) ≡ map f (occurrences t)
  occurrences-rename_by f (var x) = refl
  occurrences-rename_by f (int i) = refl
  occurrences-rename_by f (atom a) = refl
  occurrences-rename_by f (comp n t ts) =
      ap (λ xs. xs ++ occurrences_all (rename_all_by f ts)) (occurrences-rename_by f t)
      ∙ ap (λ xs. map f (occurrences t) ++ xs) (occurrences-rename_all_by f ts)
      ∙ sym (map-append f (occurrences t) (occurrences_all ts))

  pub occurrences-rename_all_by : (f : ℕ → ℕ) (ts : Trees)
      → occurrences_all (rename_all_by f ts) ≡ map f (occurrences_all ts)
  occurrences-rename_all_by f none = refl
  occurrences-rename_all_by f (more t ts) =
      ap (λ xs. xs ++ occurrences_all (rename_all_by f ts)) (occurrences-rename_by f t)
      ∙ ap (λ xs. map f (occurrences t) ++ xs) (occurrences-rename_all_by f ts)
      ∙ sym (map-append f (occurrences t) (occurrences_all ts))

-- Two renamings that make the same of a term agree on its variables.
pub agree : (f g : ℕ → ℕ) (xs : List ℕ) → map f xs ≡ map g xs → (x : ℕ) → is_in x xs ≡ true → f x ≡ g x
agree f g [] e x h = cc
agree f g (y ∷ ys) e x h =
    let heads : f y ≡ g y = cc in
    let tails : map f ys ≡ map g ys = cc in
    let step : (b : Bool) → (x == y) ≡ b → (b || is_in x ys) ≡ true → f x ≡ g x =
    λ b. elim b as (λ b. (x == y) ≡ b → (b || is_in x ys) ≡ true → f x ≡ g x) [
      | true ↦ λ p q. let same : x ≡ y = eqb-true x y p in ap f same ∙ heads ∙ ap g (sym same)
      | false ↦ λ p q. agree f g ys tails x q
    ] in
    step (x == y) refl h

pub rename_agree : (f g : ℕ → ℕ) (t : Tree)
    → rename_by f t ≡ rename_by g t
    → (x : ℕ)
    → is_in x (occurrences t) ≡ true
    → f x ≡ g x
rename_agree f g t e =
    agree f g (occurrences t)
    (sym (occurrences-rename_by f t) ∙ ap occurrences e ∙ occurrences-rename_by g t)

-- A variable's place among those met so far is its place among all.
pub placed : (n : Node) (ns : List Node) (i : ℕ) (f : ℕ → ℕ)
    → i < length ns
    → n ≡ get_or ns i n
    → rename_node (λ x. f (place x (met_with n (met (take i ns))))) n ≡ rename_node (λ x. f (place x (met ns))) n
placed (Var x) ns i f h e =
    let (xs, all) = met-take ns (i + 1) in
    let here : met (take (i + 1) ns) ≡ with x (met (take i ns)) = met_more ns i (Var x) h e in
    ap (λ ys. Var (f (place x ys))) (sym here)
    ∙ ap (λ k. Var (f k))
    (sym (place-append x (met (take (i + 1) ns)) xs (ap (is_in x) here ∙ is_in-with x (met (take i ns))))
    ∙ ap (place x) (sym all))
placed (Int j) ns i f h e = refl
placed (Atom a) ns i f h e = refl
placed (Comp g k) ns i f h e = refl

pub placed_more : (m n : Node) (ns : List Node) (i : ℕ) (f : ℕ → ℕ) (xs : List ℕ) (from to : List Node)
    → i < length ns
    → n ≡ get_or ns i n
    → xs ≡ met_with n (met (take i ns))
    → m ≡ rename_node (λ x. f (place x xs)) n
    → from ≡ map (rename_node (λ x. f (place x (met ns)))) (take i ns)
    → to ≡ from ++ m ∷ []
    → to ≡ map (rename_node (λ x. f (place x (met ns)))) (take (i + 1) ns)
placed_more m n ns i f xs from to h e met_is m_is from_is to_is =
    let g : ℕ → ℕ = λ x. f (place x (met ns)) in
    to_is
    ∙ ap (λ ms. ms ++ m ∷ []) from_is
    ∙ ap (λ p. map (rename_node g) (take i ns) ++ p ∷ [])
    (m_is ∙ ap (λ ys. rename_node (λ x. f (place x ys)) n) met_is ∙ placed n ns i f h e)
    ∙ sym (map-append (rename_node g) (take i ns) (n ∷ []))
    ∙ ap (λ p. map (rename_node g) (take i ns ++ p ∷ [])) e
    ∙ ap (map (rename_node g)) (sym (take_more ns i n h))

-- What the loop over all nodes of a term leaves is the renamed term.
pub renamed_all : (t : Tree) (ns : List Node) (from i : ℕ) (all : List Node)
    → ns ≡ nodes t
    → length ns ≤ i
    → all ≡ map (rename_node (λ x. from + place x (met ns))) (take i ns)
    → all ≡ nodes (rename from t)
renamed_all t ns from i all is past e =
    let g : List ℕ → ℕ → ℕ = λ ys x. from + place x ys in
    e
    ∙ ap (map (rename_node (g (met ns)))) (take_all i ns past)
    ∙ ap (λ ms. map (rename_node (g (met ms))) ms) is
    ∙ ap (λ ys. map (rename_node (g ys)) (nodes t)) (met-nodes t)
    ∙ rename_nodes (g (variables t)) t
