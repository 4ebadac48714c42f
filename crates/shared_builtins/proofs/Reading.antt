-- Terms over atoms are read by the shared state, by a search and by the built-in predicates as the same terms over texts.
use Rattle.std.proofs.Common.{◌≡◌, ℕ, zero, Bool, true, false, cond, ◌==◌, [], ◌∷◌, ◌++◌, Option, Some, None, IsSome, codes, refl, sym, ap, ap₂, subst, ◌∙◌}
use Rattle.std.specs.Prelude.{is_some}
use Rattle.std.specs.List.{All}
use Rattle.std.specs.Str.{bytes_eq}
use Rattle.std.proofs.lemmas.Bool.Decides.{Decides-eqb}
use Rattle.std.proofs.lemmas.Slice.Eq.{bytes_eq-Decides}
use Rattle.std.proofs.lemmas.List.Elements.{All-cons}
use Rattle.pl_term.specs.Tree.{Chars, Tree, Trees, var, int, atom, comp, none, more}
use Rattle.pl_term.specs.Variables.{rename, rename_by, rename_all_by}
use Rattle.pl_model.specs.BodyChecks.{converted}
use Rattle.atom_api.specs.Fixed.{fixed, fixed_texts}
use Rattle.atom_api.specs.Names.{Names, FixedStand}
use Rattle.term_store.specs.declared.words.Place.{Place}
use Rattle.term_store.specs.Contents.{Contents, term_at}
use Rattle.term_store.specs.Heap.{atom_name}
use Rattle.term_store.specs.NameUnification.{rename-spelled}
use Rattle.term_store.specs.NumberedNames.{by_number, names_of, neck, term_by, text_by, with_neck}
use Rattle.term_store.specs.NumberedNames as stored
use Rattle.world_api.specs.Texts as worlds
use Rattle.world_builtins.specs.Naming.{IsHeldAt, atoms_in, atoms_in_all, number_of}
use Rattle.world_builtins.specs.Spelling.{or_no_text, reads, spelled, spelled_all, text_of}
use Rattle.iso_search.specs.Conversions.{IsConverted}
use Rattle.iso_search.specs.Reading.{View, IsView}
use Rattle.iso_search.specs.Reading as search
use Rattle.iso_search.specs.Spelling as searched
use Rattle.shared_builtins.specs.Kept.{IsKept}
use Rattle.shared_builtins.specs.Telling.{TellsAtoms}
use Rattle.shared_builtins.proofs.OverAtoms.{IsOverAtoms}

-- As a search reads them

pub text_is : (m : Names) (f : Chars) → text_of m f ≡ searched.text_of m f
text_is m [] = refl
text_is m (a ∷ []) = go (m a)
  where
    go : (o : Option Chars) → or_no_text (a ∷ []) o ≡ searched.or_no_text (a ∷ []) o
    go None = refl
    go (Some t) = refl
text_is m (a ∷ (b ∷ bs)) = refl

mutual
  pub spelled_is : (m : Names) (t : Tree) → spelled (text_of m) t ≡ searched.spelled (searched.text_of m) t
  spelled_is m (var x) = refl
  spelled_is m (int i) = refl
  spelled_is m (atom a) = ap atom (text_is m a)
  spelled_is m (comp f t ts) =
      ap (λ g. comp g (spelled (text_of m) t) (spelled_all (text_of m) ts)) (text_is m f)
      ∙ ap₂ (comp (searched.text_of m f)) (spelled_is m t) (all_spelled_is m ts)

  all_spelled_is : (m : Names) (ts : Trees) → spelled_all (text_of m) ts ≡ searched.spelled_all (searched.text_of m) ts
  all_spelled_is m none = refl
  all_spelled_is m (more t ts) = ap₂ more (spelled_is m t) (all_spelled_is m ts)

pub view_of : Names → View
view_of m = record { names = m; all = λ t g. []; left = λ t g p. [] }

pub view_names : (m : Names) → (view_of m).names ≡ m
unfolding view_of
view_names m = refl

pub view_is : (m : Names) → TellsAtoms m → IsView (view_of m)
unfolding view_of
view_is m tells = record { fixed = tells.naming.stands; apart = tells.apart }

pub read_in : (m : Names) (s : Contents) (p : Place) → reads m s p ≡ search.reads (view_of m) s p
unfolding view_of
read_in m s p = spelled_is m (term_at s p)

pub converted_read : (m : Names) (s t : Contents) (p q : Place) → IsConverted (view_of m) s p t (Some q) → converted (reads m s p) ≡ Some (reads m t q)
converted_read m s t p q e = ap converted (read_in m s p) ∙ e ∙ ap Some (sym (read_in m t q))

pub never_converted : (m : Names) (s t : Contents) (p : Place) → IsConverted (view_of m) s p t None → converted (reads m s p) ≡ None
never_converted m s t p e = ap converted (read_in m s p) ∙ e

-- As the shared state reads them

pub neck_is : fixed neck ≡ Some (codes ":-")
unfolding fixed_texts
neck_is = refl

-- The same text of an atom.
pub one_text : (m : Names) (a : ℕ) → worlds.text_of m a ≡ text_of m (atom_name a)
one_text m a = go (m a)
  where
    go : (o : Option Chars) → worlds.or_no_text a o ≡ or_no_text (atom_name a) o
    go None = refl
    go (Some t) = refl

pub fixed_text : (m : Names) → FixedStand m → (k : ℕ) (t : Chars) → fixed k ≡ Some t → worlds.text_of m k ≡ t
fixed_text m stand k t e = ap (worlds.or_no_text k) (stand k t e)

necked : (text : ℕ → Chars) → text neck ≡ codes ":-" → (a : ℕ) → with_neck text a ≡ text a
necked text is a = go (a == neck) (bytes_eq (text a) (codes ":-")) refl refl
  where
    go : (b c : Bool) → (a == neck) ≡ b → bytes_eq (text a) (codes ":-") ≡ c → cond b (codes ":-") (cond c (text neck) (text a)) ≡ text a
    go true c d e = sym is ∙ sym (ap text ((Decides-eqb a neck).0 d))
    go false true d e = is ∙ sym ((bytes_eq-Decides (text a) (codes ":-")).0 e)
    go false false d e = refl

pub name_read : (m : Names) → FixedStand m → (f : Chars) → text_by (worlds.text_of m) f ≡ text_of m (atom_name (stored.number_of f))
name_read m stand f =
    necked (worlds.text_of m) (fixed_text m stand neck (codes ":-") neck_is) (stored.number_of f) ∙ one_text m (stored.number_of f)

mutual
  read_by : (m : Names) → FixedStand m → (t : Tree) → term_by (worlds.text_of m) t ≡ spelled (text_of m) (by_number t)
  read_by m stand (var x) = refl
  read_by m stand (int i) = refl
  read_by m stand (atom a) = ap atom (name_read m stand a)
  read_by m stand (comp f t ts) =
      ap₂ (λ h p. comp h p.0 p.1) (name_read m stand f) (ap₂ (λ u us. let p : Tree × Trees = (u, us) in p) (read_by m stand t) (all_read_by m stand ts))

  all_read_by : (m : Names) → FixedStand m → (ts : Trees)
      → stored.spelled_all (text_by (worlds.text_of m)) ts ≡ spelled_all (text_of m) (stored.spelled_all (λ f. atom_name (stored.number_of f)) ts)
  all_read_by m stand none = refl
  all_read_by m stand (more t ts) = ap₂ more (read_by m stand t) (all_read_by m stand ts)

-- A term over atoms.
pub read_over : (m : Names) → FixedStand m → (t : Tree) → IsOverAtoms t → term_by (worlds.text_of m) t ≡ spelled (text_of m) t
read_over m stand t over = read_by m stand t ∙ ap (spelled (text_of m)) over

-- Kept terms

one_number : (f : Chars) → stored.number_of f ≡ number_of f
one_number [] = refl
one_number (a ∷ bs) = refl

mutual
  atoms_in-renamed : (f : ℕ → ℕ) (t : Tree) → stored.atoms_in (rename_by f t) ≡ atoms_in t
  atoms_in-renamed f (var x) = refl
  atoms_in-renamed f (int i) = refl
  atoms_in-renamed f (atom a) = ap (λ k. k ∷ []) (one_number a)
  atoms_in-renamed f (comp g t ts) =
      ap (λ k. k ∷ (stored.atoms_in (rename_by f t) ++ stored.atoms_in_all (rename_all_by f ts))) (one_number g)
      ∙ ap₂ (λ xs ys. number_of g ∷ (xs ++ ys)) (atoms_in-renamed f t) (atoms_in_all-renamed f ts)

  atoms_in_all-renamed : (f : ℕ → ℕ) (ts : Trees) → stored.atoms_in_all (rename_all_by f ts) ≡ atoms_in_all ts
  atoms_in_all-renamed f none = refl
  atoms_in_all-renamed f (more t ts) = ap₂ (λ xs ys. xs ++ ys) (atoms_in-renamed f t) (atoms_in_all-renamed f ts)

pub kept_read : (m : Names) → FixedStand m → (s : Contents) (p : Place) (k : Tree) → IsOverAtoms (term_at s p) → k ≡ rename zero (term_at s p)
    → IsHeldAt m s p → IsKept m (reads m s p) k
kept_read m stand s p k over is held =
    let u = term_at s p in
    let text = worlds.text_of m in
    let P : ℕ → Type 0 = λ a. IsSome (m a) in
    record {
      stands = ap (term_by text) is ∙ sym (rename-spelled (text_by text) zero u) ∙ ap (rename zero) (read_over m stand u over);
      held =
          All-cons P neck (stored.atoms_in k) (ap is_some (stand neck (codes ":-") neck_is))
          (subst (All P) (sym (ap stored.atoms_in is ∙ atoms_in-renamed _ u)) held);
    }

mutual
  pub naming_atoms-renamed : (f : ℕ → ℕ) (t : Tree) → atoms_in (rename_by f t) ≡ stored.atoms_in t
  naming_atoms-renamed f (var x) = refl
  naming_atoms-renamed f (int i) = refl
  naming_atoms-renamed f (atom a) = ap (λ k. k ∷ []) (sym (one_number a))
  naming_atoms-renamed f (comp g t ts) =
      ap (λ k. k ∷ (atoms_in (rename_by f t) ++ atoms_in_all (rename_all_by f ts))) (sym (one_number g))
      ∙ ap₂ (λ xs ys. stored.number_of g ∷ (xs ++ ys)) (naming_atoms-renamed f t) (naming_atoms_all-renamed f ts)

  naming_atoms_all-renamed : (f : ℕ → ℕ) (ts : Trees) → atoms_in_all (rename_all_by f ts) ≡ stored.atoms_in_all ts
  naming_atoms_all-renamed f none = refl
  naming_atoms_all-renamed f (more t ts) = ap₂ (λ xs ys. xs ++ ys) (naming_atoms-renamed f t) (naming_atoms_all-renamed f ts)
