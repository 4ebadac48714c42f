-- Copies of terms, their cells and their variables, however their names are spelled.
use Rattle.std.proofs.Common.{◌≡◌, ℕ, zero, ◌+◌, ◌-◌, length, get_or, refl, sym, ap, ap₂, ◌∙◌, arith, zero-add}
use Rattle.pl_term.specs.Tree.{Chars, Tree, Trees, var, int, atom, comp, none, more}
use Rattle.pl_term.specs.Variables.{distinct, occurrences, place, rename, rename_all_by, rename_by, variables}
use Rattle.pl_term.specs.Cells.{cells, compound_cells, compound_cells_all}
use Rattle.pl_term.proofs.Distinct.{get_or-place, is_in-distinct}
use Rattle.pl_term.proofs.NodeLemmas.{count-rename_all_by}
use Rattle.pl_term.proofs.Renaming.{rename_same}
use Rattle.pl_term.proofs.Variants.{same_from_variant}
use Rattle.term_store.proofs.Renumbering.{length-variables_renamed, raised_numbered, rename-raised, rename-rename}
use Rattle.iso_search.specs.Spelling.{spelled, spelled_all}
use Rattle.iso_search.proofs.Spelt.{count-spelled, occurrences-spelled}

mutual
  rename_by-spelled : (g : Chars → Chars) (f : ℕ → ℕ) (t : Tree) → rename_by f (spelled g t) ≡ spelled g (rename_by f t)
  rename_by-spelled g f (var x) = refl
  rename_by-spelled g f (int i) = refl
  rename_by-spelled g f (atom a) = refl
  rename_by-spelled g f (comp h t ts) = ap₂ (comp (g h)) (rename_by-spelled g f t) (rename_all_by-spelled g f ts)

  rename_all_by-spelled : (g : Chars → Chars) (f : ℕ → ℕ) (ts : Trees) → rename_all_by f (spelled_all g ts) ≡ spelled_all g (rename_all_by f ts)
  rename_all_by-spelled g f none = refl
  rename_all_by-spelled g f (more t ts) = ap₂ more (rename_by-spelled g f t) (rename_all_by-spelled g f ts)

pub variables-spelled : (g : Chars → Chars) (t : Tree) → variables (spelled g t) ≡ variables t
variables-spelled g t = ap distinct (occurrences-spelled g t)

pub rename-spelled : (g : Chars → Chars) (from : ℕ) (t : Tree) → rename from (spelled g t) ≡ spelled g (rename from t)
rename-spelled g from t =
    ap (λ vs. rename_by (λ x. from + place x vs) (spelled g t)) (variables-spelled g t)
    ∙ rename_by-spelled g (λ x. from + place x (variables t)) t

mutual
  compound_cells-spelled : (g : Chars → Chars) (t : Tree) → compound_cells (spelled g t) ≡ compound_cells t
  compound_cells-spelled g (var x) = refl
  compound_cells-spelled g (int i) = refl
  compound_cells-spelled g (atom a) = refl
  compound_cells-spelled g (comp h t ts) =
      ap₂ (λ n m. 2 + n + m) (count-spelled g ts) (ap₂ (λ n m. n + m) (compound_cells-spelled g t) (compound_cells_all-spelled g ts))

  compound_cells_all-spelled : (g : Chars → Chars) (ts : Trees) → compound_cells_all (spelled_all g ts) ≡ compound_cells_all ts
  compound_cells_all-spelled g none = refl
  compound_cells_all-spelled g (more t ts) = ap₂ (λ n m. n + m) (compound_cells-spelled g t) (compound_cells_all-spelled g ts)

pub cells-spelled : (g : Chars → Chars) (t : Tree) → cells (spelled g t) ≡ cells t
cells-spelled g t = ap₂ (λ n m. n + m) (compound_cells-spelled g t) (ap length (variables-spelled g t))

mutual
  compound_cells-renamed : (f : ℕ → ℕ) (t : Tree) → compound_cells (rename_by f t) ≡ compound_cells t
  compound_cells-renamed f (var x) = refl
  compound_cells-renamed f (int i) = refl
  compound_cells-renamed f (atom a) = refl
  compound_cells-renamed f (comp h t ts) =
      ap₂ (λ n m. 2 + n + m) (count-rename_all_by f ts) (ap₂ (λ n m. n + m) (compound_cells-renamed f t) (compound_cells_all-renamed f ts))

  compound_cells_all-renamed : (f : ℕ → ℕ) (ts : Trees) → compound_cells_all (rename_all_by f ts) ≡ compound_cells_all ts
  compound_cells_all-renamed f none = refl
  compound_cells_all-renamed f (more t ts) = ap₂ (λ n m. n + m) (compound_cells-renamed f t) (compound_cells_all-renamed f ts)

-- The term as it is kept.
pub cells-kept : (t : Tree) → cells (rename zero t) ≡ cells t
cells-kept t = ap₂ (λ n m. n + m) (compound_cells-renamed (λ x. zero + place x (variables t)) t) (length-variables_renamed t)

pub rename-kept : (from : ℕ) (t : Tree) → rename from (rename zero t) ≡ rename from t
rename-kept from t = sym (raised_numbered from (rename zero t) (rename-rename t)) ∙ rename-raised from t

-- A term is numbered again as it was before its variables were numbered from a number on.
pub numbered_again : (from : ℕ) (t : Tree) → rename zero (rename from t) ≡ rename zero t
numbered_again from t =
    unzero (rename from t)
    ∙ sym
    (unzero t
    ∙ same_from_variant t (rename from t)
    (record {
      to = λ x. from + place x (variables t);
      back = λ k. get_or (variables t) (k - from) 0;
      becomes = refl;
      one_to_one = λ x h.
          ap (λ k. get_or (variables t) k 0) (back_down from (place x (variables t)))
          ∙ get_or-place x (variables t) (is_in-distinct x (occurrences t) ∙ h);
    }))
  where
    unzero : (u : Tree) → rename zero u ≡ rename_by (λ x. place x (variables u)) u
    unzero u = rename_same (λ x. zero + place x (variables u)) (λ x. place x (variables u)) u (λ x _. zero-add (place x (variables u)))

    back_down : (n k : ℕ) → n + k - n ≡ k
    back_down n k = omega arith

pub cells-renamed : (from : ℕ) (t : Tree) → cells (rename from t) ≡ cells t
cells-renamed from t = sym (cells-kept (rename from t)) ∙ ap cells (numbered_again from t) ∙ cells-kept t
