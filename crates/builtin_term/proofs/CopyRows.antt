-- Copies of terms, their cells and their variables, however their names are spelled.
use Rattle.std.proofs.Common.{◌≡◌, ℕ, zero, suc, ◌+◌, ◌<◌, ◌≤◌, ◌^◌, List, ◌∷◌, ◌++◌, length, map, codes, refl, sym, ap, ap₂, subst, ◌∙◌, arith}
use Rattle.std.specs.Prelude.{IsSome}
use Rattle.std.specs.List.{All}
use Rattle.std.proofs.lemmas.List.{length-map}
use Rattle.pl_term.specs.Tree.{Chars, Tree, Trees, var, int, atom, comp, none, more, count}
use Rattle.pl_term.specs.Variables.{distinct, occurrences, occurrences_all, place, rename, rename_all_by, rename_by, variables}
use Rattle.pl_term.specs.Cells.{cells, compound_cells, compound_cells_all}
use Rattle.pl_term.proofs.NodeLemmas.{count-rename_all_by}
use Rattle.pl_model.specs.BuiltinRows.{Answer}
use Rattle.pl_model.specs.History.{proc}
use Rattle.pl_model.specs.TermBuiltins.{copies, two}
use Rattle.atom_api.specs.Names.{Names}
use Rattle.term_store.specs.declared.words.Place.{Place}
use Rattle.term_store.specs.Contents.{Adds, Builds, Contents, Holds, term_at}
use Rattle.term_store.proofs.Renumbering.{length-variables_renamed, raised_numbered, rename-raised, rename-rename}
use Rattle.builtin_rows.specs.declared.row.Places.TheVariants.{Two}
use Rattle.builtin_rows.specs.declared.row.Row.TheVariants as rows
use Rattle.builtin_rows.specs.Rows.{Makes}
use Rattle.world_builtins.specs.Naming.{IsHeldAt, atoms_in, atoms_in_all, number_of}
use Rattle.world_builtins.specs.Spelling.{reads, spelled, spelled_all, text_of}
use Rattle.builtin_term.specs.Giving.{IsGiven}
use Rattle.builtin_term.proofs.PartAnswers.{all_two, answer_given}

mutual
  rename_by-spelled : (g : Chars → Chars) (f : ℕ → ℕ) (t : Tree) → rename_by f (spelled g t) ≡ spelled g (rename_by f t)
  rename_by-spelled g f (var x) = refl
  rename_by-spelled g f (int i) = refl
  rename_by-spelled g f (atom a) = refl
  rename_by-spelled g f (comp h t ts) = ap₂ (comp (g h)) (rename_by-spelled g f t) (rename_all_by-spelled g f ts)

  rename_all_by-spelled : (g : Chars → Chars) (f : ℕ → ℕ) (ts : Trees) → rename_all_by f (spelled_all g ts) ≡ spelled_all g (rename_all_by f ts)
  rename_all_by-spelled g f none = refl
  rename_all_by-spelled g f (more t ts) = ap₂ more (rename_by-spelled g f t) (rename_all_by-spelled g f ts)

mutual
  pub occurrences-spelled : (g : Chars → Chars) (t : Tree) → occurrences (spelled g t) ≡ occurrences t
  occurrences-spelled g (var x) = refl
  occurrences-spelled g (int i) = refl
  occurrences-spelled g (atom a) = refl
  occurrences-spelled g (comp h t ts) = ap₂ ◌++◌ (occurrences-spelled g t) (occurrences_all-spelled g ts)

  occurrences_all-spelled : (g : Chars → Chars) (ts : Trees) → occurrences_all (spelled_all g ts) ≡ occurrences_all ts
  occurrences_all-spelled g none = refl
  occurrences_all-spelled g (more t ts) = ap₂ ◌++◌ (occurrences-spelled g t) (occurrences_all-spelled g ts)

count-spelled : (g : Chars → Chars) (ts : Trees) → count (spelled_all g ts) ≡ count ts
count-spelled g none = refl
count-spelled g (more t ts) = ap suc (count-spelled g ts)

pub variables-spelled : (g : Chars → Chars) (t : Tree) → variables (spelled g t) ≡ variables t
variables-spelled g t = ap distinct (occurrences-spelled g t)

rename-spelled : (g : Chars → Chars) (from : ℕ) (t : Tree) → rename from (spelled g t) ≡ spelled g (rename from t)
rename-spelled g from t =
    ap (λ vs. rename_by (λ x. from + place x vs) (spelled g t)) (variables-spelled g t) ∙ rename_by-spelled g (λ x. from + place x (variables t)) t

mutual
  compound_cells-spelled : (g : Chars → Chars) (t : Tree) → compound_cells (spelled g t) ≡ compound_cells t
  compound_cells-spelled g (var x) = refl
  compound_cells-spelled g (int i) = refl
  compound_cells-spelled g (atom a) = refl
  compound_cells-spelled g (comp h t ts) =
      ap₂ (λ n m. 2 + n + m) (count-spelled g ts) (ap₂ (λ n m. n + m) (compound_cells-spelled g t) (compound_cells_all-spelled g ts))

  compound_cells_all-spelled : (g : Chars → Chars) (ts : Trees) → compound_cells_all (spelled_all g ts) ≡ compound_cells_all ts
  compound_cells_all-spelled g none = refl
  compound_cells_all-spelled g (more t ts) = ap₂ (λ n m. n + m) (compound_cells-spelled g t) (compound_cells_all-spelled g ts)

cells-spelled : (g : Chars → Chars) (t : Tree) → cells (spelled g t) ≡ cells t
cells-spelled g t = ap₂ (λ n m. n + m) (compound_cells-spelled g t) (ap length (variables-spelled g t))

mutual
  compound_cells-renamed : (f : ℕ → ℕ) (t : Tree) → compound_cells (rename_by f t) ≡ compound_cells t
  compound_cells-renamed f (var x) = refl
  compound_cells-renamed f (int i) = refl
  compound_cells-renamed f (atom a) = refl
  compound_cells-renamed f (comp h t ts) =
      ap₂ (λ n m. 2 + n + m) (count-rename_all_by f ts) (ap₂ (λ n m. n + m) (compound_cells-renamed f t) (compound_cells_all-renamed f ts))

  compound_cells_all-renamed : (f : ℕ → ℕ) (ts : Trees) → compound_cells_all (rename_all_by f ts) ≡ compound_cells_all ts
  compound_cells_all-renamed f none = refl
  compound_cells_all-renamed f (more t ts) = ap₂ (λ n m. n + m) (compound_cells-renamed f t) (compound_cells_all-renamed f ts)

-- The term as it is kept.
cells-kept : (t : Tree) → cells (rename zero t) ≡ cells t
cells-kept t = ap₂ (λ n m. n + m) (compound_cells-renamed (λ x. zero + place x (variables t)) t) (length-variables_renamed t)

rename-kept : (from : ℕ) (t : Tree) → rename from (rename zero t) ≡ rename from t
rename-kept from t = sym (raised_numbered from (rename zero t) (rename-rename t)) ∙ rename-raised from t

mutual
  atoms_in-renamed : (f : ℕ → ℕ) (t : Tree) → atoms_in (rename_by f t) ≡ atoms_in t
  atoms_in-renamed f (var x) = refl
  atoms_in-renamed f (int i) = refl
  atoms_in-renamed f (atom a) = refl
  atoms_in-renamed f (comp g t ts) = ap₂ (λ xs ys. number_of g ∷ (xs ++ ys)) (atoms_in-renamed f t) (atoms_in_all-renamed f ts)

  atoms_in_all-renamed : (f : ℕ → ℕ) (ts : Trees) → atoms_in_all (rename_all_by f ts) ≡ atoms_in_all ts
  atoms_in_all-renamed f none = refl
  atoms_in_all-renamed f (more t ts) = ap₂ ◌++◌ (atoms_in-renamed f t) (atoms_in_all-renamed f ts)

-- The variables that the copy takes, and its cells.
pub kept_variables : (m : Names) (s : Contents) (p : Place) (kept : Tree) → kept ≡ rename zero (term_at s p) → length (variables (reads m s p)) ≡ length (variables kept)
kept_variables m s p kept e =
    ap length (variables-spelled (text_of m) (term_at s p)) ∙ sym (ap (λ t. length (variables t)) e ∙ length-variables_renamed (term_at s p))

pub kept_cells : (m : Names) (s : Contents) (p : Place) (kept : Tree) → kept ≡ rename zero (term_at s p) → cells (reads m s p) ≡ cells kept
kept_cells m s p kept e = cells-spelled (text_of m) (term_at s p) ∙ sym (ap cells e ∙ cells-kept (term_at s p))

-- The same, counted without a copy.
pub counted_variables : (m : Names) (s : Contents) (p : Place) (ps : List Place) → map (term_at s) ps ≡ map var (variables (term_at s p))
    → length (variables (reads m s p)) ≡ length ps
counted_variables m s p ps e =
    ap length (variables-spelled (text_of m) (term_at s p))
    ∙ sym (sym (length-map ps (term_at s)) ∙ ap length e ∙ length-map (variables (term_at s p)) var)

pub counted_cells : (m : Names) (s : Contents) (p : Place) (ps : List Place) (n k : ℕ) → map (term_at s) ps ≡ map var (variables (term_at s p))
    → n ≡ compound_cells (term_at s p) → k ≡ n + length ps → cells (reads m s p) ≡ k
counted_cells m s p ps n k e is sum =
    let count : length ps ≡ length (variables (term_at s p)) = sym (length-map ps (term_at s)) ∙ ap length e ∙ length-map (variables (term_at s p)) var in
    cells-spelled (text_of m) (term_at s p) ∙ sym (sum ∙ ap₂ ◌+◌ is count)

pub makes_built : (t u : Contents) (next k : ℕ) (kept : Tree) (p : Place) → Builds t next kept u p → Adds t u → length (variables kept) ≡ k → Makes t next k zero u
makes_built t u next k kept p b adds e =
    subst (λ n. Makes t next n zero u) e
    (record { others = b.others; adds = adds; numbers = b.numbers; used = b.used ∙ omega arith; budget = b.budget })

module _ (m : Names) (s u : Contents) (next : ℕ) (term copy : Place) (kept : Tree) (is : kept ≡ rename zero (term_at s term))
    (means : term_at u copy ≡ rename next kept) (inside : Holds u copy) (term_in : Holds s term) (held : IsHeldAt m s term)
    (makes : Makes s next (length (variables kept)) (cells kept) u) where
  abbrev P : ℕ → Type 0
  P a = IsSome (m a)

  copied : term_at u copy ≡ rename next (term_at s term)
  copied = means ∙ ap (rename next) is ∙ rename-kept next (term_at s term)

  copy_held : IsHeldAt m u copy
  copy_held =
      subst (All P) (sym (ap atoms_in copied ∙ atoms_in-renamed (λ x. next + place x (variables (term_at s term))) (term_at s term))) held

  pub copy_given : (v : Tree) (fresh : ℕ) → fresh ≡ length (variables kept) → next + length (variables kept) < 2 ^ 64 → s.used + cells kept ≤ s.budget
      → IsGiven s next (proc (codes "copy_term") 2) (copies next (reads m s term) v) m u (rows.Answer (Two term copy) fresh)
  copy_given v fresh new few fits =
      let t = reads m s term in
      let n : length (variables t) ≡ length (variables kept) = kept_variables m s term kept is in
      let k : cells t ≡ cells kept = kept_cells m s term kept is in
      let a : Answer = record { terms = two t (rename next t); fresh = length (variables t); made = cells t } in
      answer_given s next (proc (codes "copy_term") 2) m u a (Two term copy) fresh (new ∙ sym n) (subst (λ l. next + l < 2 ^ 64) (sym n) few) (subst (λ l. s.used + l ≤ s.budget) (sym k) fits)
      (ap₂ two (sym (ap (spelled (text_of m)) (makes.others term term_in)))
      (rename-spelled (text_of m) next (term_at s term) ∙ ap (spelled (text_of m)) (sym copied)))
      (subst (λ l. Makes s next l (cells t) u) (sym n) (subst (λ l. Makes s next (length (variables kept)) l u) (sym k) makes))
      (record {
        inside = all_two (Holds u) term copy (makes.adds.places term term_in) inside;
        held =
            all_two (IsHeldAt m u) term copy (subst (λ w. All P (atoms_in w)) (sym (makes.others term term_in)) held) copy_held;
      })
