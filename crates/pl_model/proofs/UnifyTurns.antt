-- Turns of unification: what may be left out of the two lists of terms, and what one turn does.
use Rattle.std.proofs.Common.{◌≡◌, ℕ, zero, suc, Bool, true, false, cond, ◌&&◌, ◌==◌, nat_lt, [], ◌∷◌, ◌++◌, Option, Some, None, refl, sym, ap, ap₂, ◌∙◌}
use Rattle.std.proofs.lemmas.Bool.Decides.{Decides-int_eq}
use Rattle.std.proofs.lemmas.Slice.Eq.{bytes_eq-Decides}
use Rattle.pl_term.specs.Tree.{Chars, Tree, Trees, var, int, atom, comp, none, more, count, join}
use Rattle.pl_term.specs.Variables.{has, replace, replace_all}
use Rattle.pl_model.specs.Unify.{Bindings, Difference, same, clash, binds, or_later, difference, differences, turn, solve}
use Rattle.pl_model.proofs.UnifyReplace.{eqb_same, count-replace, replace-join}

-- Two turns give the same where their next turns do.
pub turn_same : (next after : Bindings → Trees → Trees → Option Bindings) (bs : Bindings) (ts us vs ws : Trees) (d : Difference)
    → ((x : ℕ) (s : Tree) → d ≡ binds x s → has x s ≡ false
    → next (bs ++ (x, s) ∷ []) (replace_all x s ts) (replace_all x s us) ≡ after (bs ++ (x, s) ∷ []) (replace_all x s vs) (replace_all x s ws))
    → turn next bs ts us d ≡ turn after bs vs ws d
turn_same next after bs ts us vs ws same h = refl
turn_same next after bs ts us vs ws clash h = refl
turn_same next after bs ts us vs ws (binds x s) h = go (has x s) refl
  where
    go : (b : Bool) → has x s ≡ b
        → cond b None (next (bs ++ (x, s) ∷ []) (replace_all x s ts) (replace_all x s us))
        ≡ cond b None (after (bs ++ (x, s) ∷ []) (replace_all x s vs) (replace_all x s ws))
    go true e = refl
    go false e = h x s refl e

mutual
  pub difference-same : (t : Tree) → difference t t ≡ same
  difference-same (var x) = ap (λ b. cond b same (cond (nat_lt x x) (binds x (var x)) (binds x (var x)))) (eqb_same x)
  difference-same (int i) = ap (λ b. cond b same clash) ((Decides-int_eq i i).1 refl)
  difference-same (atom a) = ap (λ b. cond b same clash) ((bytes_eq-Decides a a).1 refl)
  difference-same (comp f t ts) =
      ap₂ (λ b c. cond (b && c) (or_later (difference t t) (differences ts ts)) clash) ((bytes_eq-Decides f f).1 refl) (eqb_same (count ts))
      ∙ ap₂ or_later (difference-same t) (differences-same ts)

  pub differences-same : (ts : Trees) → differences ts ts ≡ same
  differences-same none = refl
  differences-same (more t ts) = ap₂ or_later (difference-same t) (differences-same ts)

-- A term that stands at the front of both lists may be left out.
pub solve-skip : (n : ℕ) (bs : Bindings) (p : Tree) (ts us : Trees) → solve n bs (more p ts) (more p us) ≡ solve n bs ts us
solve-skip zero bs p ts us = refl
solve-skip (suc n) bs p ts us =
    ap (λ d. turn (solve n) bs (more p ts) (more p us) (or_later d (differences ts us))) (difference-same p)
    ∙ turn_same (solve n) (solve n) bs (more p ts) (more p us) ts us (differences ts us)
    (λ x s _ _. solve-skip n (bs ++ (x, s) ∷ []) (replace x s p) (replace_all x s ts) (replace_all x s us))

or_later_assoc : (d e k : Difference) → or_later (or_later d e) k ≡ or_later d (or_later e k)
or_later_assoc same e k = refl
or_later_assoc clash e k = refl
or_later_assoc (binds x s) e k = refl

differences-join : (ts us vs ws : Trees) → count ts ≡ count us → differences (join ts vs) (join us ws) ≡ or_later (differences ts us) (differences vs ws)
differences-join none none vs ws e = refl
differences-join none (more u us) vs ws e = cc
differences-join (more t ts) none vs ws e = cc
differences-join (more t ts) (more u us) vs ws e =
    ap (or_later (difference t u)) (differences-join ts us vs ws (suc_inj (count ts) (count us) e))
    ∙ sym (or_later_assoc (difference t u) (differences ts us) (differences vs ws))
  where
    suc_inj : (a b : ℕ) → suc a ≡ suc b → a ≡ b
    suc_inj a b e = cc

-- Two compound terms with the same name and number of arguments may give way to their arguments.
pub solve-open : (n : ℕ) (bs : Bindings) (f : Chars) (t u : Tree) (ts us vs ws : Trees) → count ts ≡ count us
    → solve n bs (more (comp f t ts) vs) (more (comp f u us) ws) ≡ solve n bs (more t (join ts vs)) (more u (join us ws))
solve-open zero bs f t u ts us vs ws e = refl
solve-open (suc n) bs f t u ts us vs ws e =
    ap₂ (λ b c. turn (solve n) bs (more (comp f t ts) vs) (more (comp f u us) ws)
    (or_later (cond (b && c) (or_later (difference t u) (differences ts us)) clash) (differences vs ws)))
    ((bytes_eq-Decides f f).1 refl) (ap (λ k. k == count us) e ∙ eqb_same (count us))
    ∙ ap (turn (solve n) bs (more (comp f t ts) vs) (more (comp f u us) ws))
    (or_later_assoc (difference t u) (differences ts us) (differences vs ws)
    ∙ ap (or_later (difference t u)) (sym (differences-join ts us vs ws e)))
    ∙ turn_same (solve n) (solve n) bs (more (comp f t ts) vs) (more (comp f u us) ws) (more t (join ts vs)) (more u (join us ws))
    (or_later (difference t u) (differences (join ts vs) (join us ws)))
    (λ x s _ _. solve-open n (bs ++ (x, s) ∷ []) f (replace x s t) (replace x s u) (replace_all x s ts) (replace_all x s us)
    (replace_all x s vs) (replace_all x s ws) (count-replace ts x s ∙ e ∙ sym (count-replace us x s))
    ∙ ap₂ (λ ps qs. solve n (bs ++ (x, s) ∷ []) (more (replace x s t) ps) (more (replace x s u) qs))
    (sym (replace-join ts vs x s)) (sym (replace-join us ws x s)))

-- Once nothing is left that differs, the bindings are complete.
pub solve-same : (n : ℕ) (bs : Bindings) (ts : Trees) → solve (suc n) bs ts ts ≡ Some bs
solve-same n bs ts = ap (turn (solve n) bs ts ts) (differences-same ts)

-- Terms that clash at the front have no unifier.
pub solve-clash : (n : ℕ) (bs : Bindings) (t u : Tree) (ts us : Trees) → difference t u ≡ clash → solve (suc n) bs (more t ts) (more u us) ≡ None
solve-clash n bs t u ts us e =
    ap (λ d. turn (solve n) bs (more t ts) (more u us) (or_later d (differences ts us))) e

-- Nor has a variable with a term that holds it.
pub solve-occurs : (n : ℕ) (bs : Bindings) (t u : Tree) (ts us : Trees) (x : ℕ) (s : Tree) → difference t u ≡ binds x s → has x s ≡ true
    → solve (suc n) bs (more t ts) (more u us) ≡ None
solve-occurs n bs t u ts us x s e h =
    ap (λ d. turn (solve n) bs (more t ts) (more u us) (or_later d (differences ts us))) e
    ∙ ap (λ b. cond b None (solve n (bs ++ (x, s) ∷ []) (replace_all x s (more t ts)) (replace_all x s (more u us)))) h

-- A variable at the front is bound, and the two terms there, which are then the same, may be left out.
pub solve-binds : (n : ℕ) (bs : Bindings) (t u : Tree) (ts us : Trees) (x : ℕ) (s : Tree) → difference t u ≡ binds x s → has x s ≡ false
    → replace x s t ≡ replace x s u
    → solve (suc n) bs (more t ts) (more u us) ≡ solve n (bs ++ (x, s) ∷ []) (replace_all x s ts) (replace_all x s us)
solve-binds n bs t u ts us x s e h same_there =
    ap (λ d. turn (solve n) bs (more t ts) (more u us) (or_later d (differences ts us))) e
    ∙ ap (λ b. cond b None (solve n (bs ++ (x, s) ∷ []) (replace_all x s (more t ts)) (replace_all x s (more u us)))) h
    ∙ ap (λ p. solve n (bs ++ (x, s) ∷ []) (more p (replace_all x s ts)) (more (replace x s u) (replace_all x s us))) same_there
    ∙ solve-skip n (bs ++ (x, s) ∷ []) (replace x s u) (replace_all x s ts) (replace_all x s us)
