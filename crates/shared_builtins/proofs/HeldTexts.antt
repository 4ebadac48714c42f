-- Atoms are held where the texts of terms are those of held atoms.
use Rattle.std.proofs.Common.{◌≡◌, ℕ, Bool, true, false, cond, List, [], ◌∷◌, ◌++◌, Option, Some, None, IsSome, IfSome, codes, refl, sym, ap, subst, ◌∙◌}
use Rattle.std.specs.Prelude.{is_some}
use Rattle.std.specs.List.{All}
use Rattle.std.proofs.lemmas.Bool.{false≢true}
use Rattle.std.proofs.lemmas.List.Elements.{All-append, All-cons, All-head, All-nil, All-tail}
use Rattle.std.proofs.lemmas.Slice.Eq.{bytes_eq-Decides}
use Rattle.pl_term.specs.Tree.{Chars, Tree, Trees, var, int, atom, comp, none, more}
use Rattle.pl_model.specs.BodyChecks.{both_goals, converted, is_transparent}
use Rattle.atom_api.specs.Names.{Names, FixedStand}
use Rattle.term_store.specs.declared.words.Place.{Place}
use Rattle.term_store.specs.Contents.{Contents, term_at}
use Rattle.term_store.specs.Heap.{atom_name}
use Rattle.term_store.specs.NumberedNames as stored
use Rattle.world_builtins.specs.Naming.{IsHeldAt, atoms_in, atoms_in_all, number_of}
use Rattle.world_builtins.specs.Spelling.{or_no_text, reads, spelled, spelled_all, text_of}
use Rattle.iso_search.specs.Spelling as searched
use Rattle.iso_search.proofs.Naming.{call_is}
use Rattle.shared_builtins.proofs.OverAtoms.{IsOverAtoms}
use Rattle.shared_builtins.proofs.Reading.{text_is}

parted : (P : ℕ → Type 0) (xs ys : List ℕ) → All P (xs ++ ys) → All P xs × All P ys
parted P [] ys h = (All-nil P, h)
parted P (x ∷ xs) ys h =
    let r : All P xs × All P ys = parted P xs ys (All-tail P x (xs ++ ys) h) in (All-cons P x xs (All-head P x (xs ++ ys) h) r.0, r.1)

atom_over : (a : Chars) → IsOverAtoms (atom a) → atom_name (stored.number_of a) ≡ a
atom_over a e = cc

comp_over : (f : Chars) (t : Tree) (ts : Trees) → IsOverAtoms (comp f t ts)
    → (atom_name (stored.number_of f) ≡ f) × (IsOverAtoms t × (stored.spelled_all (λ g. atom_name (stored.number_of g)) ts ≡ ts))
comp_over f t ts e = (cc, (cc, cc))

more_over : (t : Tree) (ts : Trees) → stored.spelled_all (λ g. atom_name (stored.number_of g)) (more t ts) ≡ more t ts
    → IsOverAtoms t × (stored.spelled_all (λ g. atom_name (stored.number_of g)) ts ≡ ts)
more_over t ts e = (cc, cc)

module _ (m : Names) where
  -- The text is that of an atom that is held.
  abbrev IsTold : Chars → Type 0
  IsTold f = (a : ℕ) × (m a ≡ Some f)

  abbrev mutual
    AreTold : Tree → Type 0
    AreTold (var x) = Unit {0}
    AreTold (int i) = Unit {0}
    AreTold (atom f) = IsTold f
    AreTold (comp f t ts) = IsTold f × (AreTold t × AllTold ts)

    AllTold : Trees → Type 0
    AllTold none = Unit {0}
    AllTold (more t ts) = AreTold t × AllTold ts

  -- Of a term whose atoms are held

  name_told : (f : Chars) → atom_name (stored.number_of f) ≡ f → IsSome (m (number_of f)) → IsTold (text_of m f)
  name_told [] e h = absurd (cc)
  name_told (a ∷ []) e h = go (m a) refl h
    where
      go : (o : Option Chars) → m a ≡ o → IsSome o → (b : ℕ) × (m b ≡ Some (or_no_text (a ∷ []) (m a)))
      go None is h = absurd (false≢true h)
      go (Some t) is h = (a, is ∙ ap Some (sym (ap (or_no_text (a ∷ [])) is)))
  name_told (a ∷ (b ∷ bs)) e h = absurd (cc)

  mutual
    told_in : (t : Tree) → IsOverAtoms t → All (λ a. IsSome (m a)) (atoms_in t) → AreTold (spelled (text_of m) t)
    told_in (var x) over held = tt
    told_in (int i) over held = tt
    told_in (atom a) over held = name_told a (atom_over a over) (All-head (λ k. IsSome (m k)) (number_of a) [] held)
    told_in (comp f t ts) over held =
        let P : ℕ → Type 0 = λ k. IsSome (m k) in
        let os = comp_over f t ts over in
        let hs = parted P (atoms_in t) (atoms_in_all ts) (All-tail P (number_of f) (atoms_in t ++ atoms_in_all ts) held) in (
          name_told f os.0 (All-head P (number_of f) (atoms_in t ++ atoms_in_all ts) held),
          (told_in t os.1.0 hs.0, told_in_all ts os.1.1 hs.1),
        )

    told_in_all : (ts : Trees) → stored.spelled_all (λ g. atom_name (stored.number_of g)) ts ≡ ts → All (λ a. IsSome (m a)) (atoms_in_all ts)
        → AllTold (spelled_all (text_of m) ts)
    told_in_all none over held = tt
    told_in_all (more t ts) over held =
        let P : ℕ → Type 0 = λ k. IsSome (m k) in
        let os = more_over t ts over in
        let hs = parted P (atoms_in t) (atoms_in_all ts) held in (told_in t os.0 hs.0, told_in_all ts os.1 hs.1)

  -- Of a goal for a body

  call_told : FixedStand m → IsTold (codes "call")
  call_told stand = (53, stand 53 (codes "call") call_is)

  both_told : (f : Chars) (a b : Option Tree) → IsTold f → IfSome a AreTold → IfSome b AreTold → IfSome (both_goals f a b) AreTold
  both_told f None b h p q = tt
  both_told f (Some t) None h p q = tt
  both_told f (Some t) (Some u) h p q = (h, (p, (q, tt)))

  either_told : (b : Bool) (x y : Option Tree) → IfSome x AreTold → IfSome y AreTold → IfSome (cond b x y) AreTold
  either_told true x y p q = p
  either_told false x y p q = q

  converted_told : FixedStand m → (t : Tree) → AreTold t → IfSome (converted t) AreTold
  converted_told stand (var x) h = (call_told stand, (tt, tt))
  converted_told stand (int i) h = tt
  converted_told stand (atom a) h = h
  converted_told stand (comp f t none) h = h
  converted_told stand (comp f t (more u none)) h =
      either_told (is_transparent f) (both_goals f (converted t) (converted u)) (Some (comp f t (more u none)))
      (both_told f (converted t) (converted u) h.0 (converted_told stand t h.1.0) (converted_told stand u h.1.1.0)) h
  converted_told stand (comp f t (more u (more v ts))) h = h

  -- So of the atoms of a term with such texts

  module _ (apart : searched.TellsApart (searched.text_of m)) where
    same_name : (f : Chars) (a : ℕ) → m a ≡ Some (text_of m f) → f ≡ atom_name a
    same_name f a e =
        let texts : text_of m f ≡ text_of m (atom_name a) = sym (ap (or_no_text (atom_name a)) e) in
        (bytes_eq-Decides f (atom_name a)).0
        (sym (apart f (atom_name a)) ∙ (bytes_eq-Decides (searched.text_of m f) (searched.text_of m (atom_name a))).1
        (sym (text_is m f) ∙ texts ∙ text_is m (atom_name a)))

    held_name : (f : Chars) → IsTold (text_of m f) → IsSome (m (number_of f))
    held_name f h = ap (λ (g : Chars). is_some (m (number_of g))) (same_name f h.0 h.1) ∙ ap is_some h.1

    mutual
      held_in : (t : Tree) → AreTold (spelled (text_of m) t) → All (λ a. IsSome (m a)) (atoms_in t)
      held_in (var x) h = All-nil (λ a. IsSome (m a))
      held_in (int i) h = All-nil (λ a. IsSome (m a))
      held_in (atom a) h = All-cons (λ k. IsSome (m k)) (number_of a) [] (held_name a h) (All-nil (λ k. IsSome (m k)))
      held_in (comp f t ts) h =
          let P : ℕ → Type 0 = λ k. IsSome (m k) in
          All-cons P (number_of f) (atoms_in t ++ atoms_in_all ts) (held_name f h.0)
          (All-append P (atoms_in t) (atoms_in_all ts) (held_in t h.1.0) (held_in_all ts h.1.1))

      held_in_all : (ts : Trees) → AllTold (spelled_all (text_of m) ts) → All (λ a. IsSome (m a)) (atoms_in_all ts)
      held_in_all none h = All-nil (λ a. IsSome (m a))
      held_in_all (more t ts) h =
          let P : ℕ → Type 0 = λ k. IsSome (m k) in
          All-append P (atoms_in t) (atoms_in_all ts) (held_in t h.0) (held_in_all ts h.1)

    -- The goal for a body whose atoms are held.
    pub goal_held : FixedStand m → (s t : Contents) (p q : Place) → IsOverAtoms (term_at s p) → IsHeldAt m s p → converted (reads m s p) ≡ Some (reads m t q) → IsHeldAt m t q
    goal_held stand s t p q over held e =
        held_in (term_at t q) (subst (λ o. IfSome o AreTold) e (converted_told stand (reads m s p) (told_in (term_at s p) over held)))
