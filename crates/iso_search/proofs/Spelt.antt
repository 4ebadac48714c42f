-- Unification does not depend on how names are spelled, as long as different names are spelled differently.
use Rattle.std.proofs.Common.{◌≡◌, ℕ, zero, suc, ◌+◌, Bool, true, false, cond, ◌&&◌, ◌==◌, nat_lt, [], ◌∷◌, ◌++◌, length, Option, None, refl, sym, ap, ap₂, ◌∙◌}
use Rattle.std.specs.Option.{option_map}
use Rattle.std.specs.Ordering.{int_eq}
use Rattle.std.specs.Str.{bytes_eq}
use Rattle.pl_term.specs.Tree.{Chars, Tree, Trees, var, int, atom, comp, none, more, count}
use Rattle.pl_term.specs.Variables.{is_in, has, occurrences, occurrences_all, replace, replace_all}
use Rattle.pl_model.specs.Unify.{Bindings, bound, Difference, same, clash, binds, or_later, difference, differences, turn, solve, solve_all, unify}
use Rattle.iso_search.specs.Spelling.{spelled, spelled_all, spelled_bindings, TellsApart}

abbrev pub spelled_difference : (Chars → Chars) → Difference → Difference
spelled_difference g same = same
spelled_difference g clash = clash
spelled_difference g (binds x t) = binds x (spelled g t)

mutual
  pub occurrences-spelled : (g : Chars → Chars) (t : Tree) → occurrences (spelled g t) ≡ occurrences t
  occurrences-spelled g (var x) = refl
  occurrences-spelled g (int i) = refl
  occurrences-spelled g (atom a) = refl
  occurrences-spelled g (comp f t ts) = ap₂ ◌++◌ (occurrences-spelled g t) (occurrences_all-spelled g ts)

  pub occurrences_all-spelled : (g : Chars → Chars) (ts : Trees) → occurrences_all (spelled_all g ts) ≡ occurrences_all ts
  occurrences_all-spelled g none = refl
  occurrences_all-spelled g (more t ts) = ap₂ ◌++◌ (occurrences-spelled g t) (occurrences_all-spelled g ts)

pub count-spelled : (g : Chars → Chars) (ts : Trees) → count (spelled_all g ts) ≡ count ts
count-spelled g none = refl
count-spelled g (more t ts) = ap suc (count-spelled g ts)

spelled-cond : (g : Chars → Chars) (b : Bool) (t u : Tree) → spelled g (cond b t u) ≡ cond b (spelled g t) (spelled g u)
spelled-cond g true t u = refl
spelled-cond g false t u = refl

mutual
  pub replace-spelled : (g : Chars → Chars) (x : ℕ) (s t : Tree) → replace x (spelled g s) (spelled g t) ≡ spelled g (replace x s t)
  replace-spelled g x s (var y) = sym (spelled-cond g (x == y) s (var y))
  replace-spelled g x s (int i) = refl
  replace-spelled g x s (atom a) = refl
  replace-spelled g x s (comp f t ts) = ap₂ (comp (g f)) (replace-spelled g x s t) (replace_all-spelled g x s ts)

  pub replace_all-spelled : (g : Chars → Chars) (x : ℕ) (s : Tree) (ts : Trees)
      → replace_all x (spelled g s) (spelled_all g ts) ≡ spelled_all g (replace_all x s ts)
  replace_all-spelled g x s none = refl
  replace_all-spelled g x s (more t ts) = ap₂ more (replace-spelled g x s t) (replace_all-spelled g x s ts)

pub bound-spelled : (g : Chars → Chars) (bs : Bindings) (t : Tree) → bound (spelled_bindings g bs) (spelled g t) ≡ spelled g (bound bs t)
bound-spelled g [] t = refl
bound-spelled g (b ∷ bs) t = ap (bound (spelled_bindings g bs)) (replace-spelled g b.0 b.1 t) ∙ bound-spelled g bs (replace b.0 b.1 t)

chosen : (g : Chars → Chars) (b : Bool) (d e : Difference)
    → cond b (spelled_difference g d) (spelled_difference g e) ≡ spelled_difference g (cond b d e)
chosen g true d e = refl
chosen g false d e = refl

later : (g : Chars → Chars) (d e : Difference)
    → or_later (spelled_difference g d) (spelled_difference g e) ≡ spelled_difference g (or_later d e)
later g same e = refl
later g clash e = refl
later g (binds x t) e = refl

opened : (g : Chars → Chars) → TellsApart g → (f h : Chars) (ts us : Trees) (d e a b : Difference) → a ≡ spelled_difference g d → b ≡ spelled_difference g e
    → cond (bytes_eq (g f) (g h) && (count (spelled_all g ts) == count (spelled_all g us))) (or_later a b) clash
    ≡ spelled_difference g (cond (bytes_eq f h && (count ts == count us)) (or_later d e) clash)
opened g apart f h ts us d e a b p q =
    ap₂ (λ n k. cond (n && k) (or_later a b) clash) (apart f h) (ap₂ (λ n k. n == k) (count-spelled g ts) (count-spelled g us))
    ∙ ap (λ s. cond (bytes_eq f h && (count ts == count us)) s clash) (ap₂ or_later p q ∙ later g d e)
    ∙ chosen g (bytes_eq f h && (count ts == count us)) (or_later d e) clash

mutual
  pub difference-spelled : (g : Chars → Chars) → TellsApart g → (t u : Tree)
      → difference (spelled g t) (spelled g u) ≡ spelled_difference g (difference t u)
  difference-spelled g apart (var x) (var y) =
      ap (λ d. cond (x == y) same d) (chosen g (nat_lt x y) (binds y (var x)) (binds x (var y)))
      ∙ chosen g (x == y) same (cond (nat_lt x y) (binds y (var x)) (binds x (var y)))
  difference-spelled g apart (var x) (int j) = refl
  difference-spelled g apart (var x) (atom b) = refl
  difference-spelled g apart (var x) (comp h u us) = refl
  difference-spelled g apart (int i) (var y) = refl
  difference-spelled g apart (atom a) (var y) = refl
  difference-spelled g apart (comp f t ts) (var y) = refl
  difference-spelled g apart (int i) (int j) = chosen g (int_eq i j) same clash
  difference-spelled g apart (atom a) (atom b) = ap (λ q. cond q same clash) (apart a b) ∙ chosen g (bytes_eq a b) same clash
  difference-spelled g apart (int i) (atom b) = refl
  difference-spelled g apart (int i) (comp h u us) = refl
  difference-spelled g apart (atom a) (int j) = refl
  difference-spelled g apart (atom a) (comp h u us) = refl
  difference-spelled g apart (comp f t ts) (int j) = refl
  difference-spelled g apart (comp f t ts) (atom b) = refl
  difference-spelled g apart (comp f t ts) (comp h u us) =
      opened g apart f h ts us (difference t u) (differences ts us) (difference (spelled g t) (spelled g u)) (differences (spelled_all g ts) (spelled_all g us))
      (difference-spelled g apart t u) (differences-spelled g apart ts us)

  pub differences-spelled : (g : Chars → Chars) → TellsApart g → (ts us : Trees)
      → differences (spelled_all g ts) (spelled_all g us) ≡ spelled_difference g (differences ts us)
  differences-spelled g apart none none = refl
  differences-spelled g apart none (more u us) = refl
  differences-spelled g apart (more t ts) none = refl
  differences-spelled g apart (more t ts) (more u us) =
      ap₂ or_later (difference-spelled g apart t u) (differences-spelled g apart ts us) ∙ later g (difference t u) (differences ts us)

spelled_bindings-append : (g : Chars → Chars) (bs cs : Bindings) → spelled_bindings g (bs ++ cs) ≡ spelled_bindings g bs ++ spelled_bindings g cs
spelled_bindings-append g [] cs = refl
spelled_bindings-append g (b ∷ bs) cs = ap (λ l. (b.0, spelled g b.1) ∷ l) (spelled_bindings-append g bs cs)

or_none : (g : Chars → Chars) (b : Bool) (o : Option Bindings)
    → cond b None (option_map (spelled_bindings g) o) ≡ option_map (spelled_bindings g) (cond b None o)
or_none g true o = refl
or_none g false o = refl

pub solve-spelled : (g : Chars → Chars) → TellsApart g → (n : ℕ) (bs : Bindings) (ts us : Trees)
    → solve n (spelled_bindings g bs) (spelled_all g ts) (spelled_all g us) ≡ option_map (spelled_bindings g) (solve n bs ts us)
solve-spelled g apart zero bs ts us = refl
solve-spelled g apart (suc n) bs ts us =
    ap (turn (solve n) (spelled_bindings g bs) (spelled_all g ts) (spelled_all g us)) (differences-spelled g apart ts us)
    ∙ go (λ cs vs ws. solve-spelled g apart n cs vs ws) (differences ts us)
  where
    go : ((cs : Bindings) (vs ws : Trees) → solve n (spelled_bindings g cs) (spelled_all g vs) (spelled_all g ws) ≡ option_map (spelled_bindings g) (solve n cs vs ws))
        → (d : Difference)
        → turn (solve n) (spelled_bindings g bs) (spelled_all g ts) (spelled_all g us) (spelled_difference g d)
        ≡ option_map (spelled_bindings g) (turn (solve n) bs ts us d)
    go ih same = refl
    go ih clash = refl
    go ih (binds x t) =
        ap₂ (λ q o. cond q None o) (ap (is_in x) (occurrences-spelled g t))
        (ap₂ (λ l k. solve n l k (replace_all x (spelled g t) (spelled_all g us))) (sym (spelled_bindings-append g bs ((x, t) ∷ []))) (replace_all-spelled g x t ts)
        ∙ ap (solve n (spelled_bindings g (bs ++ (x, t) ∷ [])) (spelled_all g (replace_all x t ts))) (replace_all-spelled g x t us)
        ∙ ih (bs ++ (x, t) ∷ []) (replace_all x t ts) (replace_all x t us))
        ∙ or_none g (has x t) (solve n (bs ++ (x, t) ∷ []) (replace_all x t ts) (replace_all x t us))

pub solve_all-spelled : (g : Chars → Chars) → TellsApart g → (bs : Bindings) (ts us : Trees)
    → solve_all (spelled_bindings g bs) (spelled_all g ts) (spelled_all g us) ≡ option_map (spelled_bindings g) (solve_all bs ts us)
unfolding solve_all
solve_all-spelled g apart bs ts us =
    ap₂ (λ l k. solve (suc (length l + length k)) (spelled_bindings g bs) (spelled_all g ts) (spelled_all g us)) (occurrences_all-spelled g ts) (occurrences_all-spelled g us)
    ∙ solve-spelled g apart (suc (length (occurrences_all ts) + length (occurrences_all us))) bs ts us

-- The terms unify as they do with their names spelled otherwise.
pub unify-spelled : (g : Chars → Chars) → TellsApart g → (t u : Tree) → unify (spelled g t) (spelled g u) ≡ option_map (spelled_bindings g) (unify t u)
unfolding unify
unify-spelled g apart t u = solve_all-spelled g apart [] (more t none) (more u none)
