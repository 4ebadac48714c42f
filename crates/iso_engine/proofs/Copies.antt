-- The parts of a clause and of its copy.
use Rattle.std.proofs.Common.{◌≡◌, ℕ, ◌+◌, Bool, true, false, cond, ◌==◌, ◌&&◌, List, [], ◌∷◌, length, get_or, codes, refl, sym, ap, ap₂, ◌∙◌, arith}
use Rattle.std.specs.Str.{bytes_eq}
use Rattle.std.proofs.lemmas.Bool.{false≢true}
use Rattle.std.proofs.lemmas.Slice.Eq.{bytes_eq-Decides}
use Rattle.pl_term.specs.Tree.{Chars, Tree, Trees, var, int, atom, comp, none, more, compound}
use Rattle.pl_term.specs.Variables.{distinct, variables, rename_by, rename_all_by}
use Rattle.pl_model.specs.History.{body_part, head_part}
use Rattle.pl_model.specs.Terms.{clause_cells, raised_by, variable_count}
use Rattle.atom_api.specs.FixedNames.{neck_name, true_name}
use Rattle.term_store.specs.declared.words.Place.{Place}
use Rattle.term_store.specs.Contents.{Contents, term_at}
use Rattle.term_store.specs.Heap.{atom_name}
use Rattle.term_store.specs.ArgumentKeys.{head_in}
use Rattle.term_store.specs.Entering.{body_in}
use Rattle.term_store.specs.KeptLaws.{sizes_are_told}
use Rattle.term_store.specs.NameUnification.{occurrences-spelled}
use Rattle.term_store.specs.NumberedNames.{clause_size, neck, number_of, term_by, text_by}
use Rattle.world_api.specs.Texts as worlds
use Rattle.world_api.specs.Visits.{clause_in}
use Rattle.iso_search.specs.Reading.{View, IsView, reads}
use Rattle.iso_search.specs.Spelling.{spelled, spelled_all, text_of}
use Rattle.iso_search.proofs.Naming.{is_named, text_is}
use Rattle.iso_engine.specs.Parts.{IsOverAtoms}
use Rattle.iso_engine.proofs.Readings.{neck_is, one_text, read_over, true_is}

abbrev named : Chars → Chars
named f = atom_name (number_of f)

-- Renaming and spelling

mutual
  pub renamed-spelled : (g : Chars → Chars) (f : ℕ → ℕ) (t : Tree) → rename_by f (spelled g t) ≡ spelled g (rename_by f t)
  renamed-spelled g f (var x) = refl
  renamed-spelled g f (int i) = refl
  renamed-spelled g f (atom a) = refl
  renamed-spelled g f (comp h t ts) = ap₂ (comp (g h)) (renamed-spelled g f t) (all_renamed-spelled g f ts)

  pub all_renamed-spelled : (g : Chars → Chars) (f : ℕ → ℕ) (ts : Trees) → rename_all_by f (spelled_all g ts) ≡ spelled_all g (rename_all_by f ts)
  all_renamed-spelled g f none = refl
  all_renamed-spelled g f (more t ts) = ap₂ more (renamed-spelled g f t) (all_renamed-spelled g f ts)

pub head-renamed : (f : ℕ → ℕ) (t : Tree) → head_in (rename_by f t) ≡ rename_by f (head_in t)
head-renamed f (var x) = refl
head-renamed f (int i) = refl
head-renamed f (atom a) = refl
head-renamed f (comp h t none) = refl
head-renamed f (comp h t (more u none)) = go (number_of h == neck)
  where
    go : (b : Bool) → cond b (rename_by f t) (rename_by f (comp h t (more u none))) ≡ rename_by f (cond b t (comp h t (more u none)))
    go true = refl
    go false = refl
head-renamed f (comp h t (more u (more v ts))) = refl

pub body-renamed : (f : ℕ → ℕ) (t : Tree) → body_in (rename_by f t) ≡ rename_by f (body_in t)
body-renamed f (var x) = refl
body-renamed f (int i) = refl
body-renamed f (atom a) = refl
body-renamed f (comp h t none) = refl
body-renamed f (comp h t (more u none)) = go (number_of h == neck)
  where
    go : (b : Bool) → cond b (rename_by f u) (atom (atom_name true_name)) ≡ rename_by f (cond b u (atom (atom_name true_name)))
    go true = refl
    go false = refl
body-renamed f (comp h t (more u (more v ts))) = refl

-- The parts of a term over atoms, read

name_of_atom : (f : Chars) (t : Tree) (ts : Trees) → IsOverAtoms (comp f t ts) → atom_name (number_of f) ≡ f
name_of_atom f t ts over = cc

module _ (v : View) (view : IsView v) where
  neck_read : (f : Chars) → atom_name (number_of f) ≡ f → bytes_eq (text_of v.names f) (codes ":-") ≡ (number_of f == neck)
  neck_read f is =
      ap (λ h. bytes_eq (text_of v.names h) (codes ":-")) (sym is) ∙ is_named v view (number_of f) neck_name (codes ":-") neck_is

  pub head_read : (t : Tree) → IsOverAtoms t → head_part (spelled (text_of v.names) t) ≡ spelled (text_of v.names) (head_in t)
  head_read (var x) over = refl
  head_read (int i) over = refl
  head_read (atom a) over = refl
  head_read (comp f t none) over = refl
  head_read (comp f t (more u none)) over =
      go (bytes_eq (text_of v.names f) (codes ":-")) (number_of f == neck) (neck_read f (name_of_atom f t (more u none) over))
    where
      go : (b c : Bool) → b ≡ c
          → cond b (spelled (text_of v.names) t) (spelled (text_of v.names) (comp f t (more u none)))
          ≡ spelled (text_of v.names) (cond c t (comp f t (more u none)))
      go b true e = ap (λ q. cond q (spelled (text_of v.names) t) (spelled (text_of v.names) (comp f t (more u none)))) e
      go b false e = ap (λ q. cond q (spelled (text_of v.names) t) (spelled (text_of v.names) (comp f t (more u none)))) e
  head_read (comp f t (more u (more w ts))) over = refl

  true_read : spelled (text_of v.names) (atom (atom_name true_name)) ≡ atom (codes "true")
  true_read = ap atom (text_is v view true_name (codes "true") true_is)

  pub body_read : (t : Tree) → IsOverAtoms t → body_part (spelled (text_of v.names) t) ≡ spelled (text_of v.names) (body_in t)
  body_read (var x) over = sym true_read
  body_read (int i) over = sym true_read
  body_read (atom a) over = sym true_read
  body_read (comp f t none) over = sym true_read
  body_read (comp f t (more u none)) over =
      go (bytes_eq (text_of v.names f) (codes ":-")) (number_of f == neck) (neck_read f (name_of_atom f t (more u none) over))
    where
      go : (b c : Bool) → b ≡ c
          → cond b (spelled (text_of v.names) u) (atom (codes "true"))
          ≡ spelled (text_of v.names) (cond c u (atom (atom_name true_name)))
      go b true e = ap (λ q. cond q (spelled (text_of v.names) u) (atom (codes "true"))) e
      go b false e = ap (λ q. cond q (spelled (text_of v.names) u) (atom (codes "true"))) e ∙ sym true_read
  body_read (comp f t (more u (more w ts))) over = sym true_read

  -- Different atoms have different texts.
  pub texts_differ : (x y : ℕ) → worlds.text_of v.names x ≡ worlds.text_of v.names y → x ≡ y
  texts_differ x y e =
      let same : text_of v.names (atom_name x) ≡ text_of v.names (atom_name y) = sym (one_text x (v.names x)) ∙ e ∙ one_text y (v.names y) in
      let is : bytes_eq (atom_name x) (atom_name y) ≡ true =
      sym (view.apart (atom_name x) (atom_name y)) ∙ (bytes_eq-Decides (text_of v.names (atom_name x)) (text_of v.names (atom_name y))).1 same in
      ap number_of ((bytes_eq-Decides (atom_name x) (atom_name y)).0 is)

  -- What a copy of a clause takes.
  pub cells_taken : (t : Tree) → clause_size t ≡ clause_cells (clause_in (term_by (worlds.text_of v.names) t))
  cells_taken t = sizes_are_told (worlds.text_of v.names) texts_differ t

  pub numbers_taken : (t : Tree) → length (variables t) ≡ variable_count (term_by (worlds.text_of v.names) t)
  numbers_taken t = ap (λ xs. length (distinct xs)) (sym (occurrences-spelled (text_by (worlds.text_of v.names)) t))

  -- The parts of a copy.
  pub raised_head : (from : ℕ) (clause : Tree) → IsOverAtoms clause
      → spelled (text_of v.names) (raised_by from (head_in clause)) ≡ raised_by from (head_part (term_by (worlds.text_of v.names) clause))
  raised_head from clause over =
      sym (renamed-spelled (text_of v.names) (λ x. from + x) (head_in clause))
      ∙ ap (raised_by from) (sym (head_read clause over) ∙ ap head_part (sym (read_over v.names view.fixed clause over)))

  pub raised_body : (from : ℕ) (clause : Tree) → IsOverAtoms clause
      → spelled (text_of v.names) (raised_by from (body_in clause)) ≡ raised_by from (body_part (term_by (worlds.text_of v.names) clause))
  raised_body from clause over =
      sym (renamed-spelled (text_of v.names) (λ x. from + x) (body_in clause))
      ∙ ap (raised_by from) (sym (body_read clause over) ∙ ap body_part (sym (read_over v.names view.fixed clause over)))

  -- The parts of the copy that stands at a place.
  pub copy_head : (s : Contents) (head : Place) (from : ℕ) (clause : Tree) → IsOverAtoms clause → term_at s head ≡ head_in (raised_by from clause)
      → reads v s head ≡ raised_by from (head_part (term_by (worlds.text_of v.names) clause))
  copy_head s head from clause over is = ap (spelled (text_of v.names)) (is ∙ head-renamed (λ x. from + x) clause) ∙ raised_head from clause over

  pub copy_body : (s : Contents) (body : Place) (from : ℕ) (clause : Tree) → IsOverAtoms clause → term_at s body ≡ body_in (raised_by from clause)
      → reads v s body ≡ raised_by from (body_part (term_by (worlds.text_of v.names) clause))
  copy_body s body from clause over is = ap (spelled (text_of v.names)) (is ∙ body-renamed (λ x. from + x) clause) ∙ raised_body from clause over

-- The parts at the places of arguments

pub rule_parts : (s : Contents) (clause head body : Place) (f : ℕ) (ts : List Tree) → term_at s clause ≡ compound (atom_name f) ts → (f == neck) ≡ true
    → length ts ≡ 2 → term_at s head ≡ get_or ts 0 (atom []) → term_at s body ≡ get_or ts 1 (atom [])
    → (term_at s head ≡ head_in (term_at s clause)) × (term_at s body ≡ body_in (term_at s clause))
rule_parts s clause head body f [] at is two h b = absurd (omega (arith, two))
rule_parts s clause head body f (x ∷ []) at is two h b = absurd (omega (arith, two))
rule_parts s clause head body f (x ∷ (y ∷ [])) at is two h b = (
  h ∙ sym (ap head_in at ∙ ap (λ q. cond q x (comp (atom_name f) x (more y none))) is),
  b ∙ sym (ap body_in at ∙ ap (λ q. cond q y (atom (atom_name true_name))) is),
)
rule_parts s clause head body f (x ∷ (y ∷ (z ∷ zs))) at is two h b = absurd (omega (arith, two))

fact_head : (f : ℕ) (ts : List Tree) → ((f == neck) && (length ts == 2)) ≡ false → head_in (compound (atom_name f) ts) ≡ compound (atom_name f) ts
fact_head f [] is = refl
fact_head f (x ∷ []) is = refl
fact_head f (x ∷ (y ∷ [])) is = go (f == neck) is
  where
    go : (q : Bool) → (q && true) ≡ false → cond q x (comp (atom_name f) x (more y none)) ≡ comp (atom_name f) x (more y none)
    go true e = absurd (false≢true (sym e))
    go false e = refl
fact_head f (x ∷ (y ∷ (z ∷ zs))) is = refl

fact_body : (f : ℕ) (ts : List Tree) → ((f == neck) && (length ts == 2)) ≡ false → body_in (compound (atom_name f) ts) ≡ atom (atom_name true_name)
fact_body f [] is = refl
fact_body f (x ∷ []) is = refl
fact_body f (x ∷ (y ∷ [])) is = go (f == neck) is
  where
    go : (q : Bool) → (q && true) ≡ false → cond q y (atom (atom_name true_name)) ≡ atom (atom_name true_name)
    go true e = absurd (false≢true (sym e))
    go false e = refl
fact_body f (x ∷ (y ∷ (z ∷ zs))) is = refl

pub fact_parts : (s : Contents) (clause body : Place) (f : ℕ) (ts : List Tree) → term_at s clause ≡ compound (atom_name f) ts
    → ((f == neck) && (length ts == 2)) ≡ false → term_at s body ≡ atom (atom_name true_name)
    → (term_at s clause ≡ head_in (term_at s clause)) × (term_at s body ≡ body_in (term_at s clause))
fact_parts s clause body f ts at is b = (
  at ∙ sym (ap head_in at ∙ fact_head f ts is),
  b ∙ sym (ap body_in at ∙ fact_body f ts is),
)
