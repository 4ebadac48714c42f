-- Lists that are read by `get_elem?`, text rows, and chains.
use Rattle.std.proofs.Common.{◌≡◌, ◌≢◌, ◌⊎◌, ℕ, zero, suc, ◌+◌, ◌-◌, ◌*◌, ◌<◌, ◌≤◌, Bool, true, false, ◌==◌, ◌&&◌, ◌||◌, not, eqb, eq-eqb, eqb-true, Decides, List, [], ◌∷◌, ◌++◌, length, get_or, set, take, drop, replicate, refl, sym, ap, ◌∙◌, subst, inl, inr, ⊎_elim, arith, Option, Some, None, option_map, get_or-drop, get_or-set_same, get_or-set_other, length-drop, length-take, length-set, take_all, drop-set-lt}
use Rattle.std.proofs.lemmas.List.{get_or-take, take-take, take-set-le, drop-set-add, take_more, take_more_set, get_or-replicate}
use Rattle.std.proofs.lemmas.List.Folds.{Any-from_list_any}
use Rattle.std.proofs.lemmas.Map.Made.{IsDistinct-from_AllPairs}
use Rattle.std.proofs.lemmas.Map.Steps.{length-le_from_distinct_below}
use mathlib.Core.Logic.{dite}
use mathlib.Core.Option.{some, some-injective, some-ne-none}
use native.Mathlib.Decide.{dec_le, ℕ_discrete}
use lib.ListN.{get_elem?, length-replicate}
use Rattle.atom_words.specs.Board.{text_of}
use Rattle.atom_words.specs.Chains.{In, Chain}

-- OPTIONS AND TESTS
pub mapped : {A B : Type 0} (f : A → B) (o : Option A) (a : A) (b : B) → o ≡ Some a → option_map f o ≡ Some b → f a ≡ b
mapped f None a b e h = cc
mapped f (Some x) a b e h = cc

pub some_same : {A : Type 0} (a b : A) (o : Option A) → o ≡ Some a → o ≡ Some b → a ≡ b
some_same a b o e h = cc

pub some_is : {A : Type 0} (o : Option A) → o ≢ None → (a : A) × (o ≡ Some a)
some_is None ne = absurd (ne refl)
some_is (Some a) ne = (a, refl)

pub or_true : (a b : Bool) → (a || b) ≡ true → (a ≡ true) ⊎ (b ≡ true)
or_true true b e = inl refl
or_true false b e = inr e

pub and_true : (a b : Bool) → (a && b) ≡ true → (a ≡ true) × (b ≡ true)
and_true true b e = (refl, e)
and_true false b e = cc

pub not_equal : (a b : ℕ) → not (a == b) ≡ true → a ≢ b
not_equal a b t e = let same : (a == b) ≡ true = eq-eqb a b e in let no : not true ≡ true = ap not (sym same) ∙ t in cc

-- MEMBERS
module _ {A : Type 0} where
  pub in_none : (x : A) → In x [] → ⊥
  in_none x i = some-ne-none x (sym i.1)

  pub none_in : (xs : List A) → ((x : A) → In x xs → ⊥) → xs ≡ []
  none_in [] empty = refl
  none_in (x ∷ xs) empty = absurd (empty x (0, refl))

  pub in_later : (x y : A) (xs : List A) → In x xs → In x (y ∷ xs)
  in_later x y xs i = (suc i.0, i.1)

  pub in_cases : (x y : A) (xs : List A) → In x (y ∷ xs) → (y ≡ x) ⊎ In x xs
  in_cases x y xs i = at i.0 i.1
    where
      at : (n : ℕ) → get_elem? (y ∷ xs) n ≡ some x → (y ≡ x) ⊎ In x xs
      at zero e = inl (some-injective y x e)
      at (suc n) e = inr (n, e)

  pub at_snoc : (l : List A) (a b : A) (j : ℕ) → get_elem? (l ++ a ∷ []) j ≡ some b → (get_elem? l j ≡ some b) ⊎ ((j ≡ length l) × (a ≡ b))
  at_snoc [] a b zero e = inr (refl, some-injective a b e)
  at_snoc [] a b (suc j) e = absurd (some-ne-none b (sym e))
  at_snoc (x ∷ xs) a b zero e = inl e
  at_snoc (x ∷ xs) a b (suc j) e = ⊎_elim (λ h. inl h) (λ (t : (j ≡ length xs) × (a ≡ b)). inr (ap suc t.0, t.1)) (at_snoc xs a b j e)

  pub in_append : (xs ys : List A) (i : ℕ) (a : A) → get_elem? (xs ++ ys) i ≡ some a → (get_elem? xs i ≡ some a) ⊎ In a ys
  in_append [] ys i a e = inr (i, e)
  in_append (x ∷ xs) ys zero a e = inl e
  in_append (x ∷ xs) ys (suc i) a e = in_append xs ys i a e

  pub in_front : (x : A) (xs ys : List A) → In x xs → In x (xs ++ ys)
  in_front x [] ys i = absurd (in_none x i)
  in_front x (y ∷ xs) ys i = ⊎_elim (λ (e : y ≡ x). subst (λ z. In z (y ∷ (xs ++ ys))) e (0, refl)) (λ (j : In x xs). in_later x y (xs ++ ys) (in_front x xs ys j)) (in_cases x y xs i)

  pub in_back : (x : A) (xs ys : List A) → In x ys → In x (xs ++ ys)
  in_back x [] ys i = i
  in_back x (y ∷ xs) ys i = in_later x y (xs ++ ys) (in_back x xs ys i)

  pub in_either : (x : A) (xs ys : List A) → In x (xs ++ ys) → In x xs ⊎ In x ys
  in_either x [] ys i = inr i
  in_either x (y ∷ xs) ys i = ⊎_elim (λ (e : y ≡ x). inl (subst (λ z. In z (y ∷ xs)) e (0, refl)))
      (λ (j : In x (xs ++ ys)). ⊎_elim (λ (t : In x xs). inl (in_later x y xs t)) (λ (t : In x ys). inr t) (in_either x xs ys j)) (in_cases x y (xs ++ ys) i)

  pub at_inside : (l : List A) (i : ℕ) (a : A) → get_elem? l i ≡ some a → i < length l
  at_inside [] i a e = absurd (some-ne-none a (sym e))
  at_inside (x ∷ xs) zero a e = omega arith
  at_inside (x ∷ xs) (suc i) a e = let h = at_inside xs i a e in omega arith

  pub at_or : (l : List A) (i : ℕ) (a d : A) → get_elem? l i ≡ some a → get_or l i d ≡ a
  at_or [] i a d e = absurd (some-ne-none a (sym e))
  at_or (x ∷ xs) zero a d e = some-injective x a e
  at_or (x ∷ xs) (suc i) a d e = at_or xs i a d e

  pub or_at : (l : List A) (i : ℕ) (d : A) → i < length l → get_elem? l i ≡ some (get_or l i d)
  or_at [] i d h = absurd (omega arith)
  or_at (x ∷ xs) zero d h = refl
  or_at (x ∷ xs) (suc i) d h = or_at xs i d (omega arith)

  pub or_beyond : (l : List A) (i : ℕ) (d : A) → length l ≤ i → get_or l i d ≡ d
  or_beyond [] i d h = refl
  or_beyond (x ∷ xs) zero d h = absurd (omega arith)
  or_beyond (x ∷ xs) (suc i) d h = or_beyond xs i d (omega arith)

  pub at_replicate : (n i : ℕ) (a b : A) → get_elem? (replicate n a) i ≡ some b → a ≡ b
  at_replicate n i a b e = let h = at_inside (replicate n a) i b e in let l = length-replicate n a in
      sym (get_or-replicate n i a a (omega arith)) ∙ at_or (replicate n a) i b a e

-- lists with the same last element
last_or : {A : Type 0} → List A → A → A
last_or [] d = d
last_or (x ∷ xs) d = last_or xs x

last_is : {A : Type 0} (xs : List A) (x d : A) → last_or (xs ++ x ∷ []) d ≡ x
unfolding last_or
last_is [] x d = refl
last_is (y ∷ xs) x d = last_is xs x y

pub last_same : {A : Type 0} (xs ys : List A) (x y : A) → xs ++ x ∷ [] ≡ ys ++ y ∷ [] → x ≡ y
last_same xs ys x y e = sym (last_is xs x x) ∙ (ap (λ l. last_or l x) e ∙ last_is ys y x)

-- a fact of the word q, after the word k was written
pub word_after : (P : ℕ → Type 0) (l : List ℕ) (k x q : ℕ) → k < length l → (q ≡ k → P x) → (q ≢ k → P (get_or l q 0)) → P (get_or (set l k x) q 0)
word_after P l k x q h here there = dite (ℕ_discrete q k)
    (λ e. subst (λ (j : ℕ). P (get_or (set l k x) j 0)) (sym e) (subst P (sym (get_or-set_same l k x 0 h)) (here e)))
    (λ ne. subst P (sym (get_or-set_other l k q x 0 ne)) (there ne))

-- TEXTS
pub text_length : (texts : List ℕ) (k n : ℕ) → length texts ≡ 32 * n → k < n → length (text_of texts k) ≡ 32
text_length texts k n e h = simp (length-take, length-drop) (omega arith)

pub text_short : (texts : List ℕ) (k : ℕ) → length (text_of texts k) ≤ 32
text_short texts k = simp length-take (omega arith)

-- a word of it
pub text_word : (texts : List ℕ) (k n : ℕ) → n < 32 → get_or (text_of texts k) n 0 ≡ get_or texts (32 * k + n) 0
text_word texts k n h = get_or-take 32 (drop (32 * k) texts) n 0 h ∙ get_or-drop (32 * k) texts n 0

-- where all words are 0
pub untold_text : (texts : List ℕ) → ((i : ℕ) → get_or texts i 0 ≡ 0) → (k i : ℕ) → get_or (text_of texts k) i 0 ≡ 0
untold_text texts none k i = let short = text_short texts k in dite (dec_le 32 i) (λ (out : 32 ≤ i). or_beyond (text_of texts k) i 0 (omega arith)) (λ (inside : ¬ (32 ≤ i)). text_word texts k i (omega arith) ∙ none (32 * k + i))

-- the other words stay
pub word_else : (texts : List ℕ) (k n x i : ℕ) → i ≢ n → get_or (text_of (set texts (32 * k + n) x) k) i 0 ≡ get_or (text_of texts k) i 0
word_else texts k n x i ne = let now : List ℕ = set texts (32 * k + n) x in let short = text_short texts k in let long = text_short now k in dite (dec_le 32 i)
    (λ (out : 32 ≤ i). or_beyond (text_of now k) i 0 (omega arith) ∙ sym (or_beyond (text_of texts k) i 0 (omega arith)))
    (λ (inside : ¬ (32 ≤ i)). text_word now k i (omega arith) ∙ (get_or-set_other texts (32 * k + n) (32 * k + i) x 0 (λ e. ne (omega arith)) ∙ sym (text_word texts k i (omega arith))))

-- another slot's text stays
pub text_else : (texts : List ℕ) (k n x q : ℕ) → n < 32 → q ≢ k → text_of (set texts (32 * k + n) x) q ≡ text_of texts q
text_else texts k n x q h ne = elim (dec_le q k) as (λ _. text_of (set texts (32 * k + n) x) q ≡ text_of texts q) [
  | yes le ↦ let j : ℕ = 32 * k + n - 32 * q in let e : 32 * k + n ≡ 32 * q + j = omega arith in let long : 32 ≤ j = omega arith in
      ap (λ (i : ℕ). text_of (set texts i x) q) e ∙ (ap (take 32) (drop-set-add (32 * q) texts j x) ∙ take-set-le 32 (drop (32 * q) texts) j x long)
  | no gt ↦ let lt : k < q = omega arith in ap (take 32) (drop-set-lt (32 * q) texts (32 * k + n) x (omega arith))
]

-- the text that is put grows by a word
pub text_put : (texts : List ℕ) (k n x m : ℕ) → length texts ≡ 32 * m → k < m → n < 32 → take (n + 1) (text_of (set texts (32 * k + n) x) k) ≡ take n (text_of texts k) ++ x ∷ []
text_put texts k n x m e inside h = let l : List ℕ = drop (32 * k) texts in let long : n < length l = simp length-drop (omega arith) in
    ap (λ y. take (n + 1) (take 32 y)) (drop-set-add (32 * k) texts n x) ∙ (take-take (n + 1) 32 (set l n x) (omega arith)
    ∙ (take_more_set l n x long ∙ ap (λ y. y ++ x ∷ []) (sym (take-take n 32 l (omega arith)))))

-- what was read grows by a word
pub read_more : (t part : List ℕ) → length part < length t → take (length part) t ≡ part → take (length (part ++ get_or t (length part) 0 ∷ [])) t ≡ part ++ get_or t (length part) 0 ∷ []
read_more t part h e = let x : ℕ = get_or t (length part) 0 in let n : length (part ++ x ∷ []) ≡ length part + 1 = simp (Rattle.std.proofs.Common.length-append {A = ℕ}) refl in
    ap (λ (i : ℕ). take i t) n ∙ (take_more t (length part) 0 h ∙ ap (λ y. y ++ x ∷ []) e)

-- CHAINS
pub chain_at : (links : List ℕ) (k : ℕ) (path : List ℕ) → Chain links (k + 1) path → (ks : List ℕ) × (path ≡ k ∷ ks) × (k < length links) × Chain links (get_or links k 0) ks
chain_at links k [] c = absurd (omega (arith, c))
chain_at links k (q ∷ ks) c = let e : q ≡ k = omega (arith, c.0) in (ks, ap (λ (j : ℕ). j ∷ ks) e, subst (λ (j : ℕ). j < length links) e c.1, subst (λ (j : ℕ). Chain links (get_or links j 0) ks) e c.2)

-- first and links determine the slots
pub chain_same : (links : List ℕ) (p : ℕ) (xs ys : List ℕ) → Chain links p xs → Chain links p ys → xs ≡ ys
chain_same links p [] [] c d = refl
chain_same links p [] (y ∷ ys) c d = absurd (omega (arith, c, d.0))
chain_same links p (x ∷ xs) [] c d = absurd (omega (arith, c.0, d))
chain_same links p (x ∷ xs) (y ∷ ys) c d = let e : x ≡ y = omega (arith, c.0, d.0) in
    let rest = chain_same links (get_or links x 0) xs ys c.2 (subst (λ (j : ℕ). Chain links (get_or links j 0) ys) (sym e) d.2) in λ i. e i ∷ rest i

-- a link word outside the chain may change
pub chain_else : (links : List ℕ) (s x p : ℕ) (ks : List ℕ) → Chain links p ks → ¬ In s ks → Chain (set links s x) p ks
chain_else links s x p [] c out = c
chain_else links s x p (k ∷ ks) c out = let ne : k ≢ s = (λ e. out (0, ap some e)) in (
  c.0,
  omega (arith, c.1, length-set links s x),
  subst (λ (j : ℕ). Chain (set links s x) j ks) (sym (get_or-set_other links s k x 0 ne)) (chain_else links s x (get_or links k 0) ks c.2 (λ i. out (in_later s k ks i))),
)

pub chain_inside : (links : List ℕ) (p k : ℕ) (ks : List ℕ) → Chain links p ks → In k ks → k < length links
chain_inside links p k [] c i = absurd (in_none k i)
chain_inside links p k (q ∷ ks) c i = ⊎_elim (λ (e : q ≡ k). subst (λ (j : ℕ). j < length links) e c.1) (λ (t : In k ks). chain_inside links (get_or links q 0) k ks c.2 t) (in_cases k q ks i)

chain_drop : (links : List ℕ) (p : ℕ) (xs : List ℕ) (i k : ℕ) → Chain links p xs → get_elem? xs i ≡ some k → Chain links (k + 1) (drop i xs)
chain_drop links p [] i k c e = absurd (some-ne-none k (sym e))
chain_drop links p (x ∷ xs) zero k c e = subst (λ (n : ℕ). Chain links n (x ∷ xs)) (let same : x ≡ k = some-injective x k e in c.0 ∙ ap (λ (n : ℕ). n + 1) same) c
chain_drop links p (x ∷ xs) (suc i) k c e = chain_drop links (get_or links x 0) xs i k c.2 e

-- no slot stands twice in a chain
pub chain_once : (links : List ℕ) (p : ℕ) (xs : List ℕ) (i j k : ℕ) → Chain links p xs → get_elem? xs i ≡ some k → get_elem? xs j ≡ some k → i ≡ j
chain_once links p xs i j k c e f = let same = ap length (chain_same links (k + 1) (drop i xs) (drop j xs) (chain_drop links p xs i k c e) (chain_drop links p xs j k c f)) in
    let long : length xs - i ≡ length xs - j = sym (length-drop i xs) ∙ (same ∙ length-drop j xs) in let a = at_inside xs i k e in let b = at_inside xs j k f in omega arith

-- so it has no more slots than there are
pub chain_few : (links : List ℕ) (p : ℕ) (xs : List ℕ) → Chain links p xs → length xs ≤ length links
chain_few links p xs c = length-le_from_distinct_below xs (length links)
    (IsDistinct-from_AllPairs nat_decides xs (λ i j d l m e. let once = chain_once links p xs i j (get_or xs i d) c (or_at xs i d (omega arith)) (or_at xs j d m ∙ ap some (sym e)) in omega arith))
    (λ q t. let y = Any-from_list_any (eqb q) xs t in let same : q ≡ y.1 = eqb-true q y.1 y.4 in
    chain_inside links p q xs c (y.0, or_at xs y.0 y.1 y.2 ∙ ap some (y.3 ∙ sym same)))
  where
    nat_decides : (a b : ℕ) → Decides (eqb a b) (a ≡ b)
    nat_decides a b = (eqb-true a b, eq-eqb a b)
