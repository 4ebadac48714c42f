-- A term that is numbered in order, read in texts.
use Rattle.std.proofs.Common.{◌≡◌, ℕ, zero, ◌+◌, ◌++◌, refl, ap, ap₂, ◌∙◌}
use Rattle.pl_term.specs.Tree.{Chars, Tree, Trees, var, int, atom, comp, none, more}
use Rattle.pl_term.specs.Variables.{distinct, occurrences, occurrences_all, place, rename, rename_all_by, rename_by, variables}
use Rattle.term_store.specs.NumberedNames.{spelled, spelled_all, text_by}
use Rattle.atom_api.specs.Names.{Names}
use Rattle.world_api.specs.Texts.{text_of}
use Rattle.counted_terms.specs.CountedTerms.{said}

mutual
  renamed_spelled : (g : Chars → Chars) (f : ℕ → ℕ) (t : Tree) → rename_by f (spelled g t) ≡ spelled g (rename_by f t)
  renamed_spelled g f (var x) = refl
  renamed_spelled g f (int i) = refl
  renamed_spelled g f (atom a) = refl
  renamed_spelled g f (comp h t ts) = ap₂ (comp (g h)) (renamed_spelled g f t) (renamed_all_spelled g f ts)

  renamed_all_spelled : (g : Chars → Chars) (f : ℕ → ℕ) (ts : Trees) → rename_all_by f (spelled_all g ts) ≡ spelled_all g (rename_all_by f ts)
  renamed_all_spelled g f none = refl
  renamed_all_spelled g f (more t ts) = ap₂ more (renamed_spelled g f t) (renamed_all_spelled g f ts)

mutual
  occurrences_spelled : (g : Chars → Chars) (t : Tree) → occurrences (spelled g t) ≡ occurrences t
  occurrences_spelled g (var x) = refl
  occurrences_spelled g (int i) = refl
  occurrences_spelled g (atom a) = refl
  occurrences_spelled g (comp h t ts) = ap₂ ◌++◌ (occurrences_spelled g t) (occurrences_all_spelled g ts)

  occurrences_all_spelled : (g : Chars → Chars) (ts : Trees) → occurrences_all (spelled_all g ts) ≡ occurrences_all ts
  occurrences_all_spelled g none = refl
  occurrences_all_spelled g (more t ts) = ap₂ ◌++◌ (occurrences_spelled g t) (occurrences_all_spelled g ts)

-- It is numbered in order too.
pub numbered_said : (m : Names) (t : Tree) → rename zero t ≡ t → rename zero (said m t) ≡ said m t
numbered_said m t e =
    let g = text_by (text_of m) in
    ap (λ vs. rename_by (λ x. zero + place x (distinct vs)) (spelled g t)) (occurrences_spelled g t)
    ∙ renamed_spelled g (λ x. zero + place x (variables t)) t
    ∙ ap (spelled g) e
