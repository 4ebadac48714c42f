-- What the leftmost difference of two terms says of them.
use Rattle.std.proofs.Common.{◌≡◌, ◌≢◌, ◌⊎◌, ℕ, suc, ◌<◌, ◌≤◌, Bool, true, false, ◌&&◌, ◌||◌, ◌==◌, nat_lt, List, [], ◌∷◌, ◌++◌, refl, sym, ap, ap₂, ◌∙◌, inl, inr, arith}
use Rattle.std.proofs.lemmas.Bool.{false≢true, cases_lt}
use Rattle.std.proofs.lemmas.Bool.Decides.{Decides-eqb, Decides-int_eq, Decides-ltb}
use Rattle.std.proofs.lemmas.Slice.Eq.{bytes_eq-Decides}
use Rattle.std.specs.Ordering.{int_eq}
use Rattle.std.specs.Str.{bytes_eq}
use Rattle.pl_term.specs.Tree.{Chars, Tree, Trees, var, int, atom, comp, none, more, count}
use Rattle.pl_term.specs.Variables.{is_in, occurrences, occurrences_all}
use Rattle.pl_model.specs.Unify.{Difference, same, clash, binds, or_later, difference, differences, instance, instances}
use Rattle.pl_model.proofs.UnifyReplace.{cond_cases, eqb_same, present_left, present_right, present-append, Among}

-- The variable and the term are of the two terms, a variable that is bound to another has the greater number, and
-- each substitution that makes the two terms equal makes these equal.
pub record Faces (x : ℕ) (s : Tree) (vs : List ℕ) (Equal : (ℕ → Tree) → Type 0) : Type 0 where
  pub own : is_in x vs ≡ true
  pub among : Among (occurrences s) vs
  pub greater : (y : ℕ) → s ≡ var y → y < x
  pub solves : (σ : ℕ → Tree) → Equal σ → σ x ≡ instance σ s

abbrev pub Says : Difference → Type 0 → List ℕ → ((ℕ → Tree) → Type 0) → Type 0
Says same Same vs Equal = Same
Says clash Same vs Equal = (σ : ℕ → Tree) → Equal σ → ⊥
Says (binds x s) Same vs Equal = Faces x s vs Equal

-- What is said of the first pair and of the others is said of all.
says_later : (d e : Difference) (A B C : Type 0) (vs ws all : List ℕ) (P Q R : (ℕ → Tree) → Type 0)
    → (A → B → C) → Among vs all → Among ws all → ((σ : ℕ → Tree) → R σ → P σ) → ((σ : ℕ → Tree) → R σ → Q σ)
    → Says d A vs P → Says e B ws Q → Says (or_later d e) C all R
says_later same same A B C vs ws all P Q R f g h p q a b = f a b
says_later same clash A B C vs ws all P Q R f g h p q a b = λ σ r. b σ (q σ r)
says_later same (binds x s) A B C vs ws all P Q R f g h p q a b =
    record {
      own = h x b.own;
      among = λ y k. h y (b.among y k);
      greater = b.greater;
      solves = λ σ r. b.solves σ (q σ r);
    }
says_later clash e A B C vs ws all P Q R f g h p q a b = λ σ r. a σ (p σ r)
says_later (binds x s) e A B C vs ws all P Q R f g h p q a b =
    record {
      own = g x a.own;
      among = λ y k. g y (a.among y k);
      greater = a.greater;
      solves = λ σ r. a.solves σ (p σ r);
    }

-- A variable on the left, or on the right, against a term that is none.
faces_left : (x : ℕ) (s : Tree) → ((y : ℕ) → s ≡ var y → ⊥) → Faces x s (x ∷ occurrences s) (λ σ. σ x ≡ instance σ s)
faces_left x s none_of =
    record {
      own = present_left x (x ∷ []) (occurrences s) (present_left x (x ∷ []) [] (ap (λ b. b || false) (eqb_same x)));
      among = λ y k. present_right y (x ∷ []) (occurrences s) k;
      greater = λ y e. absurd (none_of y e);
      solves = λ σ e. e;
    }

faces_right : (x : ℕ) (s : Tree) → ((y : ℕ) → s ≡ var y → ⊥) → Faces x s (occurrences s ++ x ∷ []) (λ σ. instance σ s ≡ σ x)
faces_right x s none_of =
    record {
      own = present_right x (occurrences s) (x ∷ []) (ap (λ b. b || false) (eqb_same x));
      among = λ y k. present_left y (occurrences s) (x ∷ []) k;
      greater = λ y e. absurd (none_of y e);
      solves = λ σ e. sym e;
    }

var_of : (x y : ℕ) → var x ≡ var y → x ≡ y
var_of x y e = cc

below_by : (x y z : ℕ) → x < y → x ≡ z → z < y
below_by x y z h e = omega arith

other_below : (x y : ℕ) → (x == y) ≡ false → nat_lt x y ≡ false → y < x
other_below x y e h = go (cases_lt x y)
  where
    go : (x < y) ⊎ (y ≤ x) → y < x
    go (inl k) = absurd (false≢true (sym h ∙ (Decides-ltb x y).1 k))
    go (inr k) =
        let ne : x ≢ y = λ same_number. false≢true (sym e ∙ (Decides-eqb x y).1 same_number) in
        omega arith

variables_say : (x y : ℕ) → Says (difference (var x) (var y)) (var x ≡ var y) (x ∷ y ∷ []) (λ σ. σ x ≡ σ y)
variables_say x y =
    cond_cases (λ d. Says d (var x ≡ var y) (x ∷ y ∷ []) (λ σ. σ x ≡ σ y)) (x == y) (λ e. ap var ((Decides-eqb x y).0 e))
    (λ e. cond_cases (λ d. Says d (var x ≡ var y) (x ∷ y ∷ []) (λ σ. σ x ≡ σ y)) (nat_lt x y)
    (λ below. record {
      own = present_right y (x ∷ []) (y ∷ []) (ap (λ b. b || false) (eqb_same y));
      among = λ z k. present_left z (x ∷ []) (y ∷ []) k;
      greater = λ z k. below_by x y z ((Decides-ltb x y).0 below) (var_of x z k);
      solves = λ σ k. sym k;
    })
    (λ below. record {
      own = present_left x (x ∷ []) (y ∷ []) (ap (λ b. b || false) (eqb_same x));
      among = λ z k. present_right z (x ∷ []) (y ∷ []) k;
      greater = λ z k. below_by y x z (other_below x y e below) (var_of y z k);
      solves = λ σ k. k;
    }))

abbrev pub Pairs : Difference → Tree → Tree → Type 0
Pairs d t u = Says d (t ≡ u) (occurrences t ++ occurrences u) (λ σ. instance σ t ≡ instance σ u)

abbrev pub PairsAll : Difference → Trees → Trees → Type 0
PairsAll d ts us = Says d (ts ≡ us) (occurrences_all ts ++ occurrences_all us) (λ σ. instances σ ts ≡ instances σ us)

pub and-true : (a b : Bool) → (a && b) ≡ true → (a ≡ true) × (b ≡ true)
and-true true b h = (refl, h)
and-true false b h = absurd (false≢true h)

and_both : (a b : Bool) → a ≡ true → b ≡ true → (a && b) ≡ true
and_both a b h k = ap₂ ◌&&◌ h k

comp_by : (f g : Chars) (t u : Tree) (ts us : Trees) → f ≡ g → t ≡ u → ts ≡ us → comp f t ts ≡ comp g u us
comp_by f g t u ts us p q r = cc

names_of : (f g : Chars) (t u : Tree) (ts us : Trees) → comp f t ts ≡ comp g u us → f ≡ g
names_of f g t u ts us e = cc

others_of : (f g : Chars) (t u : Tree) (ts us : Trees) → comp f t ts ≡ comp g u us → ts ≡ us
others_of f g t u ts us e = cc

pub count-instances : (σ : ℕ → Tree) (ts : Trees) → count (instances σ ts) ≡ count ts
count-instances σ none = refl
count-instances σ (more t ts) = ap suc (count-instances σ ts)

among_first : (ts us vs ws : List ℕ) → Among (ts ++ vs) ((ts ++ us) ++ (vs ++ ws))
among_first ts us vs ws x h =
    elim (present-append x ts vs h) [
      | inl k ↦ present_left x (ts ++ us) (vs ++ ws) (present_left x ts us k)
      | inr k ↦ present_right x (ts ++ us) (vs ++ ws) (present_left x vs ws k)
    ]

among_others : (ts us vs ws : List ℕ) → Among (us ++ ws) ((ts ++ us) ++ (vs ++ ws))
among_others ts us vs ws x h =
    elim (present-append x us ws h) [
      | inl k ↦ present_left x (ts ++ us) (vs ++ ws) (present_right x ts us k)
      | inr k ↦ present_right x (ts ++ us) (vs ++ ws) (present_right x vs ws k)
    ]

compounds_say : (f g : Chars) (t u : Tree) (ts us : Trees) → Pairs (difference t u) t u → PairsAll (differences ts us) ts us
    → Pairs (difference (comp f t ts) (comp g u us)) (comp f t ts) (comp g u us)
compounds_say f g t u ts us a b =
    cond_cases (λ d. Pairs d (comp f t ts) (comp g u us)) (bytes_eq f g && (count ts == count us))
    (λ e. says_later (difference t u) (differences ts us) (t ≡ u) (ts ≡ us) (comp f t ts ≡ comp g u us)
    (occurrences t ++ occurrences u) (occurrences_all ts ++ occurrences_all us)
    ((occurrences t ++ occurrences_all ts) ++ (occurrences u ++ occurrences_all us))
    (λ σ. instance σ t ≡ instance σ u) (λ σ. instances σ ts ≡ instances σ us)
    (λ σ. instance σ (comp f t ts) ≡ instance σ (comp g u us))
    (λ p q. comp_by f g t u ts us ((bytes_eq-Decides f g).0 (and-true (bytes_eq f g) (count ts == count us) e).0) p q)
    (among_first (occurrences t) (occurrences_all ts) (occurrences u) (occurrences_all us))
    (among_others (occurrences t) (occurrences_all ts) (occurrences u) (occurrences_all us))
    (λ σ k. cc) (λ σ k. cc) a b)
    (λ e. λ σ k. false≢true (sym e ∙ and_both (bytes_eq f g) (count ts == count us)
    ((bytes_eq-Decides f g).1 (names_of f g (instance σ t) (instance σ u) (instances σ ts) (instances σ us) k))
    ((Decides-eqb (count ts) (count us)).1 (sym (count-instances σ ts)
    ∙ ap count (others_of f g (instance σ t) (instance σ u) (instances σ ts) (instances σ us) k) ∙ count-instances σ us))))

mutual
  pub difference-says : (t u : Tree) → Pairs (difference t u) t u
  difference-says (var x) (var y) = variables_say x y
  difference-says (var x) (int j) = faces_left x (int j) (λ y e. cc)
  difference-says (var x) (atom b) = faces_left x (atom b) (λ y e. cc)
  difference-says (var x) (comp g u us) = faces_left x (comp g u us) (λ y e. cc)
  difference-says (int i) (var y) = faces_right y (int i) (λ z e. cc)
  difference-says (atom a) (var y) = faces_right y (atom a) (λ z e. cc)
  difference-says (comp f t ts) (var y) = faces_right y (comp f t ts) (λ z e. cc)
  difference-says (int i) (int j) =
      cond_cases (λ d. Pairs d (int i) (int j)) (int_eq i j) (λ e. ap int ((Decides-int_eq i j).0 e))
      (λ e σ k. false≢true (sym e ∙ (Decides-int_eq i j).1 cc))
  difference-says (atom a) (atom b) =
      cond_cases (λ d. Pairs d (atom a) (atom b)) (bytes_eq a b) (λ e. ap atom ((bytes_eq-Decides a b).0 e))
      (λ e σ k. false≢true (sym e ∙ (bytes_eq-Decides a b).1 cc))
  difference-says (int i) (atom b) = λ σ e. cc
  difference-says (int i) (comp g u us) = λ σ e. cc
  difference-says (atom a) (int j) = λ σ e. cc
  difference-says (atom a) (comp g u us) = λ σ e. cc
  difference-says (comp f t ts) (int j) = λ σ e. cc
  difference-says (comp f t ts) (atom b) = λ σ e. cc
  difference-says (comp f t ts) (comp g u us) =
      compounds_say f g t u ts us (difference-says t u) (differences-say ts us)

  pub differences-say : (ts us : Trees) → PairsAll (differences ts us) ts us
  differences-say none none = refl
  differences-say none (more u us) = λ σ e. cc
  differences-say (more t ts) none = λ σ e. cc
  differences-say (more t ts) (more u us) =
      says_later (difference t u) (differences ts us) (t ≡ u) (ts ≡ us) (more t ts ≡ more u us)
      (occurrences t ++ occurrences u) (occurrences_all ts ++ occurrences_all us)
      ((occurrences t ++ occurrences_all ts) ++ (occurrences u ++ occurrences_all us))
      (λ σ. instance σ t ≡ instance σ u) (λ σ. instances σ ts ≡ instances σ us)
      (λ σ. instances σ (more t ts) ≡ instances σ (more u us))
      (λ p q. ap₂ more p q)
      (among_first (occurrences t) (occurrences_all ts) (occurrences u) (occurrences_all us))
      (among_others (occurrences t) (occurrences_all ts) (occurrences u) (occurrences_all us))
      (λ σ k. cc) (λ σ k. cc) (difference-says t u) (differences-say ts us)
