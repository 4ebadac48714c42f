-- The last slot that a walk passed, and the one before it, are determined by the walk.
use Rattle.std.proofs.Common.{◌≡◌, ℕ, ◌+◌, List, [], ◌∷◌, ◌++◌, refl, sym, ap, ◌∙◌, ⊎_elim, inl, inr, append_assoc}
use Rattle.atom_words.specs.Layout.{first_of}
use Rattle.atom_words.specs.Kinds.{Picks, at_hand, going_on}
use Rattle.atom_words.specs.declared.view.Held.{Held}
use Rattle.atom_words.specs.declared.view.Walk.{Walk}
use Rattle.bucket_rows.specs.Treads.{Before}

-- the last of a list, and 1 more than the slot before it, or the number given where there is none
abbrev last_of : Held → List Held → Held
last_of d [] = d
last_of d (x ∷ xs) = last_of x xs

abbrev prior_of : ℕ → List Held → ℕ
prior_of p [] = p
prior_of p (x ∷ []) = p
prior_of p (x ∷ y ∷ ys) = prior_of (x.slot + 1) (y ∷ ys)

last_is : (d : Held) (front : List Held) (c a : Held) → last_of d (front ++ c ∷ a ∷ []) ≡ a
last_is d [] c a = refl
last_is d (x ∷ xs) c a = last_is x xs c a

prior_is : (p : ℕ) (front : List Held) (c a : Held) → prior_of p (front ++ c ∷ a ∷ []) ≡ c.slot + 1
prior_is p [] c a = refl
prior_is p (x ∷ []) c a = prior_is (x.slot + 1) [] c a
prior_is p (x ∷ y ∷ ys) c a = prior_is (x.slot + 1) (y ∷ ys) c a

picks_is : (d : Held) (w : Walk) (a : Held) (before : ℕ) → Picks w a before → (last_of d w.seen ≡ a) × (prior_of 0 w.seen ≡ before)
picks_is d w a before p = ⊎_elim
    (λ (t : (w.seen ≡ a ∷ []) × (first_of w.word ≡ a.slot + 1) × (before ≡ 0)). (ap (last_of d) t.0, ap (prior_of 0) t.0 ∙ sym t.2))
    (λ (t : (front : List Held) × (c : Held) × (w.seen ≡ front ++ c ∷ a ∷ []) × (before ≡ c.slot + 1)). (ap (last_of d) t.2 ∙ last_is d t.0 t.1 a, ap (prior_of 0) t.2 ∙ (prior_is 0 t.0 t.1 a ∙ sym t.3)))
    p

pub picks_one : (w : Walk) (a : Held) (before : ℕ) (c : Held) (n : ℕ) → Picks w a before → Picks w c n → (a ≡ c) × (before ≡ n)
picks_one w a before c n p q = let x = picks_is a w a before p in let y = picks_is a w c n q in (sym x.0 ∙ y.0, sym x.1 ∙ y.1)

-- a walk that goes on from its last slot has that one at the end
pub picks_next : (w : Walk) (before x : ℕ) → Before before w.seen → (before ≡ 0 → first_of w.word ≡ (at_hand w).slot + 1) → Picks (going_on x w) (at_hand w) before
picks_next w before x b first = ⊎_elim
    (λ (t : (before ≡ 0) × (w.seen ≡ [])). inl (ap (λ (l : List Held). l ++ at_hand w ∷ []) t.1, first t.0, t.0))
    (λ (t : (front : List Held) × (c : Held) × (w.seen ≡ front ++ c ∷ []) × (before ≡ c.slot + 1)). inr (t.0, t.1, ap (λ (l : List Held). l ++ at_hand w ∷ []) t.2 ∙ append_assoc t.0 (t.1 ∷ []) (at_hand w ∷ []), t.3))
    b
