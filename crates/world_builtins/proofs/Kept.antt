-- Terms whose atoms are held, read after more atoms were made.
use Rattle.std.proofs.Common.{◌≡◌, ℕ, List, [], ◌∷◌, ◌++◌, Option, Some, None, refl, sym, ap, ap₂, ◌∙◌}
use Rattle.std.specs.Prelude.{IsSome, is_some}
use Rattle.std.specs.List.{AllByRecursion}
use Rattle.std.proofs.lemmas.Bool.{false≢true}
use Rattle.std.proofs.lemmas.List.Elements.{All-weaker, recursion_from_All}
use Rattle.pl_term.specs.Tree.{Chars, Tree, Trees, var, int, atom, comp, none, more}
use Rattle.atom_api.specs.Names.{Names}
use Rattle.term_store.specs.declared.words.Place.{Place}
use Rattle.term_store.specs.Contents.{Contents, term_at}
use Rattle.world_api.specs.Texts.{Holds as Keeps}
use Rattle.world_builtins.specs.Naming.{IsHeldAt, atoms_in, atoms_in_all, number_of}
use Rattle.world_builtins.specs.Spelling.{or_no_text, reads, spelled, spelled_all, text_of}

some_is : (o : Option Chars) → IsSome o → (t : Chars) × (o ≡ Some t)
some_is None h = absurd (false≢true h)
some_is (Some t) h = (t, refl)

parted : {A : Type 0} (P : A → Type 0) (xs ys : List A) → AllByRecursion P (xs ++ ys) → AllByRecursion P xs × AllByRecursion P ys
parted P [] ys h = (tt, h)
parted P (x ∷ xs) ys h = let r : AllByRecursion P xs × AllByRecursion P ys = parted P xs ys h.1 in ((h.0, r.0), r.1)

module _ (m n : Names) (keeps : Keeps m n) where
  abbrev Held : ℕ → Type 0
  Held a = IsSome (m a)

  text_kept : (f : Chars) → Held (number_of f) → text_of n f ≡ text_of m f
  text_kept [] h = refl
  text_kept (a ∷ []) h =
      let t : (t : Chars) × (m a ≡ Some t) = some_is (m a) h in
      ap (or_no_text (a ∷ [])) (keeps a t.0 t.1 ∙ sym t.1)
  text_kept (a ∷ (b ∷ bs)) h = refl

  mutual
    spelled_kept : (t : Tree) → AllByRecursion Held (atoms_in t) → spelled (text_of n) t ≡ spelled (text_of m) t
    spelled_kept (var x) h = refl
    spelled_kept (int i) h = refl
    spelled_kept (atom a) h = ap atom (text_kept a h.0)
    spelled_kept (comp f t ts) h =
        let r : AllByRecursion Held (atoms_in t) × AllByRecursion Held (atoms_in_all ts) = parted Held (atoms_in t) (atoms_in_all ts) h.1 in
        ap (λ g. comp g (spelled (text_of n) t) (spelled_all (text_of n) ts)) (text_kept f h.0)
        ∙ ap₂ (λ u us. comp (text_of m f) u us) (spelled_kept t r.0) (all_kept ts r.1)

    all_kept : (ts : Trees) → AllByRecursion Held (atoms_in_all ts) → spelled_all (text_of n) ts ≡ spelled_all (text_of m) ts
    all_kept none h = refl
    all_kept (more t ts) h =
        let r : AllByRecursion Held (atoms_in t) × AllByRecursion Held (atoms_in_all ts) = parted Held (atoms_in t) (atoms_in_all ts) h in
        ap₂ more (spelled_kept t r.0) (all_kept ts r.1)

  pub reads_kept : (s : Contents) (p : Place) → IsHeldAt m s p → reads n s p ≡ reads m s p
  reads_kept s p h = spelled_kept (term_at s p) (recursion_from_All Held (atoms_in (term_at s p)) h)

  pub held_kept : (s : Contents) (p : Place) → IsHeldAt m s p → IsHeldAt n s p
  held_kept s p h =
      All-weaker Held (λ a. IsSome (n a)) (λ a some. let t : (t : Chars) × (m a ≡ Some t) = some_is (m a) some in ap is_some (keeps a t.0 t.1)) (atoms_in (term_at s p)) h
