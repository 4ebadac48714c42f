-- What a choice by texts and a list of predicates both say of a text.
use Rattle.std.proofs.Common.{◌≡◌, ◌≤◌, ℕ, Bool, true, false, cond, ◌==◌, ◌||◌, ◌&&◌, not, List, [], ◌∷◌, ◌++◌, Option, Some, None, refl, sym, ap, ◌∙◌, arith}
use Rattle.std.specs.List.{list_all}
use Rattle.std.specs.Prelude.{bytes_eq, nat_le, option_map, find}
use Rattle.std.proofs.lemmas.Bool.{false≢true, leb-true}
use Rattle.std.proofs.lemmas.Bool.Decides.{Decides-eqb}
use Rattle.std.proofs.lemmas.Slice.Eq.{bytes_eq-Decides}
use Rattle.pl_term.specs.Tree.{Chars}
use Rattle.pl_model.specs.History.{Proc, proc}
use Rattle.pl_model.specs.Predicates.{same_proc}
use Rattle.pl_model.specs.SystemPredicates.{PredicateKind, SystemPredicate, kind_in}

pub both : (a b : Bool) → (a && b) ≡ true → (a ≡ true) × (b ≡ true)
both true b e = (refl, e)
both false b e = absurd (false≢true e)

-- What is said of a text by a list of texts.
abbrev pub flagged : Chars → List (Chars × Bool) → Bool
flagged f [] = false
flagged f (e ∷ es) = cond (bytes_eq f e.0) e.1 (flagged f es)

abbrev pub among : Chars → List Chars → Bool
among f [] = false
among f (t ∷ ts) = cond (bytes_eq f t) true (among f ts)

abbrev texts_of : List (Chars × Bool) → List Chars
texts_of [] = []
texts_of (e ∷ es) = e.0 ∷ texts_of es

abbrev names_of : List SystemPredicate → List Chars
names_of [] = []
names_of (e ∷ es) = e.indicator.name ∷ names_of es

abbrev alike : Bool → Bool → Bool
alike true b = b
alike false b = not b

alike_equal : (a b : Bool) → alike a b ≡ true → a ≡ b
alike_equal true b e = sym e
alike_equal false true e = absurd (false≢true e)
alike_equal false false e = refl

pub at_listed : (p : Chars → Bool) (ts : List Chars) (f : Chars) → list_all p ts ≡ true → among f ts ≡ true → p f ≡ true
at_listed p [] f all in₁ = absurd (false≢true in₁)
at_listed p (t ∷ ts) f all in₁ = go (λ i. at_listed p ts f (both (p t) (list_all p ts) all).1 i) (bytes_eq f t) refl in₁
  where
    go : (among f ts ≡ true → p f ≡ true) → (b : Bool) → bytes_eq f t ≡ b → cond b true (among f ts) ≡ true → p f ≡ true
    go rest true e i = ap p ((bytes_eq-Decides f t).0 e) ∙ (both (p t) (list_all p ts) all).0
    go rest false e i = rest i

split_among : (f : Chars) (xs ys : List Chars) → among f (xs ++ ys) ≡ false → (among f xs ≡ false) × (among f ys ≡ false)
split_among f [] ys e = (refl, e)
split_among f (x ∷ xs) ys e = go (λ i. split_among f xs ys i) (bytes_eq f x) e
  where
    go : (among f (xs ++ ys) ≡ false → (among f xs ≡ false) × (among f ys ≡ false))
        → (b : Bool) → cond b true (among f (xs ++ ys)) ≡ false → (cond b true (among f xs) ≡ false) × (among f ys ≡ false)
    go rest true i = absurd (false≢true (sym i))
    go rest false i = rest i

unflagged : (f : Chars) (es : List (Chars × Bool)) → among f (texts_of es) ≡ false → flagged f es ≡ false
unflagged f [] e = refl
unflagged f (x ∷ es) e = go (λ i. unflagged f es i) (bytes_eq f x.0) e
  where
    go : (among f (texts_of es) ≡ false → flagged f es ≡ false) → (b : Bool) → cond b true (among f (texts_of es)) ≡ false → cond b x.1 (flagged f es) ≡ false
    go rest true i = absurd (false≢true (sym i))
    go rest false i = rest i

-- A list of predicates, entry by entry.
pub kind_step : (e : SystemPredicate) (es : List SystemPredicate) (p : Proc) → kind_in (e ∷ es) p ≡ cond (same_proc p e.indicator) (Some e.kind) (kind_in es p)
kind_step e es p = go (same_proc p e.indicator)
  where
    go : (b : Bool) → option_map (λ (x : SystemPredicate). x.kind) (cond b (Some e) (find (λ (x : SystemPredicate). same_proc p x.indicator) es)) ≡ cond b (Some e.kind) (kind_in es p)
    go true = refl
    go false = refl

unfound : (f : Chars) (n : ℕ) (es : List SystemPredicate) → among f (names_of es) ≡ false → kind_in es (proc f n) ≡ None
unfound f n [] e = refl
unfound f n (x ∷ es) e = kind_step x es (proc f n) ∙ go (λ i. unfound f n es i) (bytes_eq f x.indicator.name) e
  where
    go : (among f (names_of es) ≡ false → kind_in es (proc f n) ≡ None) → (b : Bool) → cond b true (among f (names_of es)) ≡ false
        → cond (b && (n == x.indicator.arity)) (Some x.kind) (kind_in es (proc f n)) ≡ None
    go rest true i = absurd (false≢true (sym i))
    go rest false i = rest i

-- A list of texts and a list of predicates say the same where they do so at the texts of both.
pub agree : (h : Option PredicateKind → Bool) → h None ≡ false → (es : List (Chars × Bool)) (ts : List SystemPredicate) (n : ℕ)
    → list_all (λ t. alike (flagged t es) (h (kind_in ts (proc t n)))) (texts_of es ++ names_of ts) ≡ true
    → (f : Chars) → flagged f es ≡ h (kind_in ts (proc f n))
agree h nothing es ts n all f = go (among f (texts_of es ++ names_of ts)) refl
  where
    go : (b : Bool) → among f (texts_of es ++ names_of ts) ≡ b → flagged f es ≡ h (kind_in ts (proc f n))
    go true i =
        alike_equal (flagged f es) (h (kind_in ts (proc f n)))
        (at_listed (λ t. alike (flagged t es) (h (kind_in ts (proc t n)))) (texts_of es ++ names_of ts) f all i)
    go false i =
        let out : (among f (texts_of es) ≡ false) × (among f (names_of ts) ≡ false) = split_among f (texts_of es) (names_of ts) i
        in unflagged f es out.0 ∙ sym (ap h (unfound f n ts out.1) ∙ nothing)

-- Predicates of more than five arguments, none of which is of the kind.
abbrev few : (Option PredicateKind → Bool) → SystemPredicate → Bool
few h e = nat_le e.indicator.arity 5 || not (h (Some e.kind))

few_read : (a b : Bool) → (a || not b) ≡ true → b ≡ true → a ≡ true
few_read true b e k = refl
few_read false true e k = absurd (false≢true e)
few_read false false e k = absurd (false≢true k)

pub none_of_more : (h : Option PredicateKind → Bool) → h None ≡ false → (ts : List SystemPredicate) → list_all (few h) ts ≡ true
    → (f : Chars) (n : ℕ) → 6 ≤ n → h (kind_in ts (proc f n)) ≡ false
none_of_more h nothing [] all f n many = nothing
none_of_more h nothing (e ∷ es) all f n many =
    let here : (few h e ≡ true) × (list_all (few h) es ≡ true) = both (few h e) (list_all (few h) es) all in
    ap h (kind_step e es (proc f n))
    ∙ go (bytes_eq f e.indicator.name) (n == e.indicator.arity) refl (h (Some e.kind)) refl here.0 (none_of_more h nothing es here.1 f n many)
  where
    go : (b c : Bool) → (n == e.indicator.arity) ≡ c → (k : Bool) → h (Some e.kind) ≡ k → few h e ≡ true → h (kind_in es (proc f n)) ≡ false
        → h (cond (b && c) (Some e.kind) (kind_in es (proc f n))) ≡ false
    go false c same k is fits rest = rest
    go true false same k is fits rest = rest
    go true true same false is fits rest = is
    go true true same true is fits rest =
        let low : e.indicator.arity ≤ 5 = leb-true e.indicator.arity 5 (few_read (nat_le e.indicator.arity 5) (h (Some e.kind)) fits is) in
        let at : n ≡ e.indicator.arity = (Decides-eqb n e.indicator.arity).0 same in
        absurd (omega arith)

-- A choice between two by a text.
pub by_test : {A : Type 0} (h : A → Bool) (t : Bool) {x y : A} {b d : Bool} → h x ≡ b → h y ≡ d → h (cond t x y) ≡ cond t b d
by_test h true p q = p
by_test h false p q = q

pub by_two_tests : {A : Type 0} (h : A → Bool) (t₁ t₂ : Bool) {x y : A} {b d : Bool} → h x ≡ b → h y ≡ d
    → h (cond (t₁ || t₂) x y) ≡ cond t₁ b (cond t₂ b d)
by_two_tests h true t₂ p q = p
by_two_tests h false true p q = p
by_two_tests h false false p q = q

-- A choice that makes no difference.
pub passed : {A : Type 0} (h : A → Bool) (t r : Bool) {x y : A} {d : Bool} → h x ≡ false → h y ≡ d → (t ≡ true → d ≡ false) → h (cond (t && r) x y) ≡ d
passed h true true p q g = p ∙ sym (g refl)
passed h true false p q g = q
passed h false r p q g = q
