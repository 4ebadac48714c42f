-- Each atom of a term that reads the same in every later view is held.
use Rattle.std.proofs.Common.{◌≡◌, ◌≢◌, ℕ, zero, suc, ◌≤◌, ◌<◌, ◌^◌, ◌⊎◌, inl, inr, true, false, cond, ◌==◌, [], ◌∷◌, Option, Some, None, IsSome, is_some, refl, sym, ap, ◌∙◌, arith}
use Rattle.std.specs.Str.{all_scalars}
use Rattle.std.proofs.lemmas.Bool.{true≢false}
use Rattle.std.proofs.lemmas.Bool.Decides.{eqb_tells}
use Rattle.pl_term.specs.Tree.{Chars, Tree, Trees, var, int, atom, comp, none, more}
use Rattle.pl_term.specs.Texts.{size}
use Rattle.atom_api.specs.Names.{FixedStand, Names, with_name}
use Rattle.world_api.specs.Texts.{Holds}
use Rattle.iso_search.specs.Spelling.{or_no_text, spelled, spelled_all, text_of, TellsApart}
use Rattle.iso_search.proofs.Texts.{texts_apart}
use Rattle.iso_engine.proofs.Naming.{AllNames, AllNamesIn}

-- The atom of the name is held.
abbrev pub IsHeldName : Names → Chars → Type 0
IsHeldName m [] = Unit {0}
IsHeldName m (a ∷ []) = IsSome (m a)
IsHeldName m (a ∷ (b ∷ bs)) = Unit {0}

abbrev many : ℕ → Chars
many zero = []
many (suc k) = 97 ∷ many k

abbrev fresh : Chars
fresh = many 249

none_is_none : (x : Chars) → (let n : Option Chars = None in n ≡ Some x) → ⊥
none_is_none x e = cc

same_some : (x y : Chars) → Some x ≡ Some y → x ≡ y
same_some x y e = cc

some_is : (o : Option Chars) (x : Chars) → o ≡ Some x → IsSome o
some_is o x e = ap is_some e

module _ (m : Names) (stands : FixedStand m) (unlike : (a b : ℕ) (t : Chars) → m a ≡ Some t → m b ≡ Some t → a ≡ b)
    (finite : (a : ℕ) (t : Chars) → m a ≡ Some t → (a < 2 ^ 32) × (size t ≤ 248) × (all_scalars t ≡ true)) where
  not_fresh : (a : ℕ) → m a ≡ Some fresh → ⊥
  unfolding lib.Utf8.encode
  not_fresh a e = let le : 249 ≤ 248 = (finite a fresh e).1 in omega arith

  module _ (a : ℕ) (absent : m a ≡ None) where
    abbrev n : Names
    n = with_name m a fresh

    n_there : (k : ℕ) → (k == a) ≡ true → n k ≡ Some fresh
    n_there k e = ap (λ b. cond b (Some fresh) (m k)) e

    n_else : (k : ℕ) → (k == a) ≡ false → n k ≡ m k
    n_else k e = ap (λ b. cond b (Some fresh) (m k)) e

    grown : Holds m n
    grown k x h = go (eqb_tells k a)
      where
        go : (((k == a) ≡ true) × (k ≡ a)) ⊎ (((k == a) ≡ false) × (k ≢ a)) → n k ≡ Some x
        go (inl (e, same)) = absurd (none_is_none x (sym absent ∙ ap m (sym same) ∙ h))
        go (inr (e, other)) = n_else k e ∙ h

    n_fixed : FixedStand n
    n_fixed k x e = grown k x (stands k x e)

    n_unlike : (k j : ℕ) (x : Chars) → n k ≡ Some x → n j ≡ Some x → k ≡ j
    n_unlike k j x h i = go (eqb_tells k a) (eqb_tells j a)
      where
        go : (((k == a) ≡ true) × (k ≡ a)) ⊎ (((k == a) ≡ false) × (k ≢ a)) → (((j == a) ≡ true) × (j ≡ a)) ⊎ (((j == a) ≡ false) × (j ≢ a)) → k ≡ j
        go (inl (e, p)) (inl (f, q)) = p ∙ sym q
        go (inl (e, p)) (inr (f, q)) = absurd (not_fresh j (sym (n_else j f) ∙ i ∙ sym h ∙ n_there k e))
        go (inr (e, p)) (inl (f, q)) = absurd (not_fresh k (sym (n_else k e) ∙ h ∙ sym i ∙ n_there j f))
        go (inr (e, p)) (inr (f, q)) = unlike k j x (sym (n_else k e) ∙ h) (sym (n_else j f) ∙ i)

    n_scalars : (k : ℕ) (x : Chars) → n k ≡ Some x → all_scalars x ≡ true
    n_scalars k x h = go (eqb_tells k a)
      where
        go : (((k == a) ≡ true) × (k ≡ a)) ⊎ (((k == a) ≡ false) × (k ≢ a)) → all_scalars x ≡ true
        go (inl (e, p)) = ap all_scalars (sym (same_some fresh x (sym (n_there k e) ∙ h)))
        go (inr (e, p)) = (finite k x (sym (n_else k e) ∙ h)).2

    n_apart : TellsApart (text_of n)
    n_apart = texts_apart n n_unlike n_scalars

    n_same : (a == a) ≡ true
    n_same = go (eqb_tells a a)
      where
        go : (((a == a) ≡ true) × (a ≡ a)) ⊎ (((a == a) ≡ false) × (a ≢ a)) → (a == a) ≡ true
        go (inl (e, p)) = e
        go (inr (e, p)) = absurd (p refl)

    -- The atom has another text there.
    told_apart : text_of n (a ∷ []) ≡ text_of m (a ∷ []) → ⊥
    told_apart e =
        let x : text_of n (a ∷ []) ≡ fresh = ap (or_no_text (a ∷ [])) (n_there a n_same)
        in let y : text_of m (a ∷ []) ≡ (2 ^ 32 ∷ (a ∷ [])) = ap (or_no_text (a ∷ [])) absent
        in let z : (let o : Chars = 2 ^ 32 ∷ (a ∷ []) in fresh ≡ o) = sym x ∙ e ∙ y
        in true≢false (ap all_scalars z)

  -- It reads the same whatever else is held.
  abbrev pub IsSettled : Tree → Type 0
  IsSettled t = (k : Names) → FixedStand k → TellsApart (text_of k) → Holds m k → spelled (text_of k) t ≡ spelled (text_of m) t

  held_name : (f : Chars) → ((k : Names) → FixedStand k → TellsApart (text_of k) → Holds m k → text_of k f ≡ text_of m f) → IsHeldName m f
  held_name [] h = tt
  held_name (a ∷ []) h = go (m a) refl
    where
      go : (o : Option Chars) → m a ≡ o → IsSome (m a)
      go None e = absurd (told_apart a e (h (n a e) (n_fixed a e) (n_apart a e) (grown a e)))
      go (Some x) e = some_is (m a) x e
  held_name (a ∷ (b ∷ bs)) h = tt

  atom_same : (f g : Chars) → atom f ≡ atom g → f ≡ g
  atom_same f g e = cc

  comp_same : (f g : Chars) (t u : Tree) (ts us : Trees) → comp f t ts ≡ comp g u us → (f ≡ g) × (t ≡ u) × (ts ≡ us)
  comp_same f g t u ts us e = (cc, cc, cc)

  more_same : (t u : Tree) (ts us : Trees) → more t ts ≡ more u us → (t ≡ u) × (ts ≡ us)
  more_same t u ts us e = (cc, cc)

  mutual
    pub held_names : (t : Tree) → IsSettled t → AllNames (IsHeldName m) t
    held_names (var x) h = tt
    held_names (int i) h = tt
    held_names (atom f) h = held_name f (λ k s a g. atom_same _ _ (h k s a g))
    held_names (comp f t ts) h = (
      held_name f (λ k s a g. (comp_same _ _ _ _ _ _ (h k s a g)).0),
      (
        held_names t (λ k s a g. (comp_same _ _ _ _ _ _ (h k s a g)).1),
        held_names_in ts (λ k s a g. (comp_same _ _ _ _ _ _ (h k s a g)).2),
      ),
    )

    held_names_in : (ts : Trees) → ((k : Names) → FixedStand k → TellsApart (text_of k) → Holds m k → spelled_all (text_of k) ts ≡ spelled_all (text_of m) ts)
        → AllNamesIn (IsHeldName m) ts
    held_names_in none h = tt
    held_names_in (more t ts) h =
        (held_names t (λ k s a g. (more_same _ _ _ _ (h k s a g)).0), held_names_in ts (λ k s a g. (more_same _ _ _ _ (h k s a g)).1))
