-- Whether two terms unify does not depend on how their names are spelled, but on which of them are spelled alike.
use Rattle.std.proofs.Common.{◌≡◌, ℕ, zero, suc, ◌+◌, Bool, true, false, cond, ◌&&◌, ◌==◌, nat_lt, [], ◌∷◌, ◌++◌, length, map, Option, Some, None, refl, sym, ap, ap₂, ◌∙◌}
use Rattle.std.specs.Option.{is_some, option_map}
use Rattle.std.specs.Ordering.{int_eq}
use Rattle.std.specs.Str.{bytes_eq}
use Rattle.pl_term.specs.Tree.{Chars, Tree, Trees, var, int, atom, comp, none, more, count}
use Rattle.pl_term.specs.Variables.{is_in, has, occurrences, occurrences_all, variables, distinct, rename, rename_by, rename_all_by, place, replace, replace_all}
use Rattle.pl_model.specs.Unify.{Bindings, Difference, same, clash, binds, or_later, difference, differences, turn, solve, solve_all, unify}
use Rattle.pl_model.specs.FirstArguments.{unify_apart}
use Rattle.term_store.specs.NumberedNames.{spelled, spelled_all}

abbrev spelled_difference : (Chars → Chars) → Difference → Difference
spelled_difference g same = same
spelled_difference g clash = clash
spelled_difference g (binds x t) = binds x (spelled g t)

abbrev spelled_bindings : (Chars → Chars) → Bindings → Bindings
spelled_bindings g bs = map (λ b. (b.0, spelled g b.1)) bs

mutual
  pub occurrences-spelled : (g : Chars → Chars) (t : Tree) → occurrences (spelled g t) ≡ occurrences t
  occurrences-spelled g (var x) = refl
  occurrences-spelled g (int i) = refl
  occurrences-spelled g (atom a) = refl
  occurrences-spelled g (comp f t ts) = ap₂ ◌++◌ (occurrences-spelled g t) (occurrences_all-spelled g ts)

  pub occurrences_all-spelled : (g : Chars → Chars) (ts : Trees) → occurrences_all (spelled_all g ts) ≡ occurrences_all ts
  occurrences_all-spelled g none = refl
  occurrences_all-spelled g (more t ts) = ap₂ ◌++◌ (occurrences-spelled g t) (occurrences_all-spelled g ts)

pub count-spelled : (g : Chars → Chars) (ts : Trees) → count (spelled_all g ts) ≡ count ts
count-spelled g none = refl
count-spelled g (more t ts) = ap suc (count-spelled g ts)

mutual
  pub rename_by-spelled : (g : Chars → Chars) (f : ℕ → ℕ) (t : Tree) → rename_by f (spelled g t) ≡ spelled g (rename_by f t)
  rename_by-spelled g f (var x) = refl
  rename_by-spelled g f (int i) = refl
  rename_by-spelled g f (atom a) = refl
  rename_by-spelled g f (comp h t ts) = ap₂ (comp (g h)) (rename_by-spelled g f t) (rename_all_by-spelled g f ts)

  pub rename_all_by-spelled : (g : Chars → Chars) (f : ℕ → ℕ) (ts : Trees) → rename_all_by f (spelled_all g ts) ≡ spelled_all g (rename_all_by f ts)
  rename_all_by-spelled g f none = refl
  rename_all_by-spelled g f (more t ts) = ap₂ more (rename_by-spelled g f t) (rename_all_by-spelled g f ts)

pub rename-spelled : (g : Chars → Chars) (from : ℕ) (t : Tree) → rename from (spelled g t) ≡ spelled g (rename from t)
rename-spelled g from t =
    ap (λ xs. rename_by (λ x. from + place x (distinct xs)) (spelled g t)) (occurrences-spelled g t)
    ∙ rename_by-spelled g (λ x. from + place x (variables t)) t

spelled-cond : (g : Chars → Chars) (b : Bool) (t u : Tree) → spelled g (cond b t u) ≡ cond b (spelled g t) (spelled g u)
spelled-cond g true t u = refl
spelled-cond g false t u = refl

mutual
  pub replace-spelled : (g : Chars → Chars) (x : ℕ) (s t : Tree) → replace x (spelled g s) (spelled g t) ≡ spelled g (replace x s t)
  replace-spelled g x s (var y) = sym (spelled-cond g (x == y) s (var y))
  replace-spelled g x s (int i) = refl
  replace-spelled g x s (atom a) = refl
  replace-spelled g x s (comp f t ts) = ap₂ (comp (g f)) (replace-spelled g x s t) (replace_all-spelled g x s ts)

  pub replace_all-spelled : (g : Chars → Chars) (x : ℕ) (s : Tree) (ts : Trees)
      → replace_all x (spelled g s) (spelled_all g ts) ≡ spelled_all g (replace_all x s ts)
  replace_all-spelled g x s none = refl
  replace_all-spelled g x s (more t ts) = ap₂ more (replace-spelled g x s t) (replace_all-spelled g x s ts)

chosen : (g : Chars → Chars) (b : Bool) (d e : Difference)
    → cond b (spelled_difference g d) (spelled_difference g e) ≡ spelled_difference g (cond b d e)
chosen g true d e = refl
chosen g false d e = refl

later : (g : Chars → Chars) (d e : Difference)
    → or_later (spelled_difference g d) (spelled_difference g e) ≡ spelled_difference g (or_later d e)
later g same e = refl
later g clash e = refl
later g (binds x t) e = refl

spelled_bindings-append : (g : Chars → Chars) (bs cs : Bindings) → spelled_bindings g (bs ++ cs) ≡ spelled_bindings g bs ++ spelled_bindings g cs
spelled_bindings-append g [] cs = refl
spelled_bindings-append g (b ∷ bs) cs = ap (λ l. (b.0, spelled g b.1) ∷ l) (spelled_bindings-append g bs cs)

or_none : (g : Chars → Chars) (b : Bool) (o : Option Bindings)
    → cond b None (option_map (spelled_bindings g) o) ≡ option_map (spelled_bindings g) (cond b None o)
or_none g true o = refl
or_none g false o = refl

-- Unification where a test says which names are alike.
module _ (alike : Chars → Chars → Bool) where
  abbrev mutual
    difference_by : Tree → Tree → Difference
    difference_by (var x) (var y) = cond (x == y) same (cond (nat_lt x y) (binds y (var x)) (binds x (var y)))
    difference_by (var x) (int j) = binds x (int j)
    difference_by (var x) (atom b) = binds x (atom b)
    difference_by (var x) (comp h u us) = binds x (comp h u us)
    difference_by (int i) (var y) = binds y (int i)
    difference_by (atom a) (var y) = binds y (atom a)
    difference_by (comp f t ts) (var y) = binds y (comp f t ts)
    difference_by (int i) (int j) = cond (int_eq i j) same clash
    difference_by (atom a) (atom b) = cond (alike a b) same clash
    difference_by (int i) (atom b) = clash
    difference_by (int i) (comp h u us) = clash
    difference_by (atom a) (int j) = clash
    difference_by (atom a) (comp h u us) = clash
    difference_by (comp f t ts) (int j) = clash
    difference_by (comp f t ts) (atom b) = clash
    difference_by (comp f t ts) (comp h u us) =
        cond (alike f h && (count ts == count us)) (or_later (difference_by t u) (differences_by ts us)) clash

    differences_by : Trees → Trees → Difference
    differences_by none none = same
    differences_by none (more u us) = clash
    differences_by (more t ts) none = clash
    differences_by (more t ts) (more u us) = or_later (difference_by t u) (differences_by ts us)

  abbrev solve_by : ℕ → Bindings → Trees → Trees → Option Bindings
  solve_by zero bs ts us = None
  solve_by (suc n) bs ts us = turn (solve_by n) bs ts us (differences_by ts us)

  module _ (g : Chars → Chars) (told : (a b : Chars) → bytes_eq (g a) (g b) ≡ alike a b) where
    opened : (f h : Chars) (ts us : Trees) (d e a b : Difference) → a ≡ spelled_difference g d → b ≡ spelled_difference g e
        → cond (bytes_eq (g f) (g h) && (count (spelled_all g ts) == count (spelled_all g us))) (or_later a b) clash
        ≡ spelled_difference g (cond (alike f h && (count ts == count us)) (or_later d e) clash)
    opened f h ts us d e a b p q =
        ap₂ (λ n k. cond (n && k) (or_later a b) clash) (told f h) (ap₂ (λ n k. n == k) (count-spelled g ts) (count-spelled g us))
        ∙ ap (λ s. cond (alike f h && (count ts == count us)) s clash) (ap₂ or_later p q ∙ later g d e)
        ∙ chosen g (alike f h && (count ts == count us)) (or_later d e) clash

    mutual
      difference-spelled : (t u : Tree) → difference (spelled g t) (spelled g u) ≡ spelled_difference g (difference_by t u)
      difference-spelled (var x) (var y) =
          ap (λ d. cond (x == y) same d) (chosen g (nat_lt x y) (binds y (var x)) (binds x (var y)))
          ∙ chosen g (x == y) same (cond (nat_lt x y) (binds y (var x)) (binds x (var y)))
      difference-spelled (var x) (int j) = refl
      difference-spelled (var x) (atom b) = refl
      difference-spelled (var x) (comp h u us) = refl
      difference-spelled (int i) (var y) = refl
      difference-spelled (atom a) (var y) = refl
      difference-spelled (comp f t ts) (var y) = refl
      difference-spelled (int i) (int j) = chosen g (int_eq i j) same clash
      difference-spelled (atom a) (atom b) = ap (λ q. cond q same clash) (told a b) ∙ chosen g (alike a b) same clash
      difference-spelled (int i) (atom b) = refl
      difference-spelled (int i) (comp h u us) = refl
      difference-spelled (atom a) (int j) = refl
      difference-spelled (atom a) (comp h u us) = refl
      difference-spelled (comp f t ts) (int j) = refl
      difference-spelled (comp f t ts) (atom b) = refl
      difference-spelled (comp f t ts) (comp h u us) =
          opened f h ts us (difference_by t u) (differences_by ts us) (difference (spelled g t) (spelled g u))
          (differences (spelled_all g ts) (spelled_all g us)) (difference-spelled t u) (differences-spelled ts us)

      differences-spelled : (ts us : Trees) → differences (spelled_all g ts) (spelled_all g us) ≡ spelled_difference g (differences_by ts us)
      differences-spelled none none = refl
      differences-spelled none (more u us) = refl
      differences-spelled (more t ts) none = refl
      differences-spelled (more t ts) (more u us) =
          ap₂ or_later (difference-spelled t u) (differences-spelled ts us) ∙ later g (difference_by t u) (differences_by ts us)

    solve-spelled : (n : ℕ) (bs : Bindings) (ts us : Trees)
        → solve n (spelled_bindings g bs) (spelled_all g ts) (spelled_all g us) ≡ option_map (spelled_bindings g) (solve_by n bs ts us)
    solve-spelled zero bs ts us = refl
    solve-spelled (suc n) bs ts us =
        ap (turn (solve n) (spelled_bindings g bs) (spelled_all g ts) (spelled_all g us)) (differences-spelled ts us)
        ∙ go (λ cs vs ws. solve-spelled n cs vs ws) (differences_by ts us)
      where
        go : ((cs : Bindings) (vs ws : Trees) → solve n (spelled_bindings g cs) (spelled_all g vs) (spelled_all g ws) ≡ option_map (spelled_bindings g) (solve_by n cs vs ws))
            → (d : Difference)
            → turn (solve n) (spelled_bindings g bs) (spelled_all g ts) (spelled_all g us) (spelled_difference g d)
            ≡ option_map (spelled_bindings g) (turn (solve_by n) bs ts us d)
        go ih same = refl
        go ih clash = refl
        go ih (binds x t) =
            ap₂ (λ q o. cond q None o) (ap (is_in x) (occurrences-spelled g t))
            (ap₂ (λ l k. solve n l k (replace_all x (spelled g t) (spelled_all g us))) (sym (spelled_bindings-append g bs ((x, t) ∷ []))) (replace_all-spelled g x t ts)
            ∙ ap (solve n (spelled_bindings g (bs ++ (x, t) ∷ [])) (spelled_all g (replace_all x t ts))) (replace_all-spelled g x t us)
            ∙ ih (bs ++ (x, t) ∷ []) (replace_all x t ts) (replace_all x t us))
            ∙ or_none g (has x t) (solve_by n (bs ++ (x, t) ∷ []) (replace_all x t ts) (replace_all x t us))

    some_mapped : {A B : Type 0} (f : A → B) (o : Option A) → is_some (option_map f o) ≡ is_some o
    some_mapped f None = refl
    some_mapped f (Some a) = refl

    unified_by : (t u : Tree)
        → is_some (unify (spelled g t) (spelled g u))
        ≡ is_some (solve_by (suc (length (occurrences_all (more t none)) + length (occurrences_all (more u none)))) [] (more t none) (more u none))
    unfolding unify solve_all
    unified_by t u =
        ap is_some
        (ap₂ (λ l k. solve (suc (length l + length k)) [] (more (spelled g t) none) (more (spelled g u) none))
        (occurrences_all-spelled g (more t none)) (occurrences_all-spelled g (more u none))
        ∙ solve-spelled (suc (length (occurrences_all (more t none)) + length (occurrences_all (more u none)))) [] (more t none) (more u none))
        ∙ some_mapped (spelled_bindings g) (solve_by (suc (length (occurrences_all (more t none)) + length (occurrences_all (more u none)))) [] (more t none) (more u none))

-- Two spellings that spell the same names alike.
pub unify-alike : (alike : Chars → Chars → Bool) (g h : Chars → Chars)
    → ((a b : Chars) → bytes_eq (g a) (g b) ≡ alike a b) → ((a b : Chars) → bytes_eq (h a) (h b) ≡ alike a b)
    → (t u : Tree) → is_some (unify (spelled g t) (spelled g u)) ≡ is_some (unify (spelled h t) (spelled h u))
unify-alike alike g h p q t u = unified_by alike g p t u ∙ sym (unified_by alike h q t u)

pub unify_apart-alike : (alike : Chars → Chars → Bool) (g h : Chars → Chars)
    → ((a b : Chars) → bytes_eq (g a) (g b) ≡ alike a b) → ((a b : Chars) → bytes_eq (h a) (h b) ≡ alike a b)
    → (t u : Tree) → unify_apart (spelled g t) (spelled g u) ≡ unify_apart (spelled h t) (spelled h u)
unfolding unify_apart
unify_apart-alike alike g h p q t u =
    apart g ∙ unify-alike alike g h p q (rename 0 t) (rename (length (variables t)) u) ∙ sym (apart h)
  where
    apart : (k : Chars → Chars)
        → is_some (unify (rename 0 (spelled k t)) (rename (length (variables (spelled k t))) (spelled k u)))
        ≡ is_some (unify (spelled k (rename 0 t)) (spelled k (rename (length (variables t)) u)))
    apart k =
        ap₂ (λ v w. is_some (unify v w)) (rename-spelled k 0 t)
        (ap (λ xs. rename (length (distinct xs)) (spelled k u)) (occurrences-spelled k t) ∙ rename-spelled k (length (variables t)) u)
