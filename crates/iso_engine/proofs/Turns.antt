-- Two lists of terms are unified by unifying their first terms, and then the others under the bindings of these.
use Rattle.std.proofs.Common.{◌≡◌, ℕ, zero, suc, ◌+◌, ◌<◌, ◌≤◌, Bool, true, false, cond, List, [], ◌∷◌, ◌++◌, length, Option, Some, None, refl, sym, ap, subst, ◌∙◌, arith, append-nil, append_assoc, length-append}
use Rattle.std.specs.Option.{option_map}
use Rattle.pl_term.specs.Tree.{Tree, Trees, none, more}
use Rattle.pl_term.specs.Variables.{has, without, occurrences, occurrences_all, replace, replace_all}
use Rattle.pl_model.specs.Unify.{Bindings, Difference, same, clash, binds, or_later, bound_all, difference, differences, turn, solve, solve_all, unify, instances}
use Rattle.pl_model.proofs.UnifyDifference.{Pairs, difference-says}
use Rattle.pl_model.proofs.UnifyEnough.{Covers, Covers-next, binds_say, turns_enough}
use Rattle.pl_model.proofs.UnifyMore.{solve_all-more}
use Rattle.pl_model.proofs.UnifyReplace.{length-without_lt}
use Rattle.pl_model.proofs.UnifyTurns.{solve-skip}

none_is_some : (x : Bindings) → (let n : Option Bindings = None in n ≡ Some x) → ⊥
none_is_some x e = cc

same_some : (x y : Bindings) → Some x ≡ Some y → x ≡ y
same_some x y e = cc

-- The bindings of the first terms, and the turns that are left for the others.
record Begun (n : ℕ) (bs cs : Bindings) (answer : Option Bindings) (ts us : Trees) : Type 0 where
  later : Bindings
  parts : cs ≡ bs ++ later
  turns : ℕ
  enough : n ≤ turns
  goes : answer ≡ solve turns cs (bound_all later ts) (bound_all later us)

-- A turn of the first terms alone and of all.
begun_turn : (n m k : ℕ) (bs cs : Bindings) (t u : Tree) (ts us : Trees) → suc k ≡ suc n + m
    → ((x : ℕ) (s : Tree) → solve n (bs ++ (x, s) ∷ []) (more (replace x s t) none) (more (replace x s u) none) ≡ Some cs
    → Begun m (bs ++ (x, s) ∷ []) cs (solve k (bs ++ (x, s) ∷ []) (more (replace x s t) (replace_all x s ts)) (more (replace x s u) (replace_all x s us)))
    (replace_all x s ts) (replace_all x s us))
    → (d : Difference) → difference t u ≡ d → turn (solve n) bs (more t none) (more u none) (or_later d same) ≡ Some cs
    → Begun m bs cs (turn (solve k) bs (more t ts) (more u us) (or_later d (differences ts us))) ts us
begun_turn n m k bs cs t u ts us is ih same at e =
    let equal : t ≡ u = subst (λ d. Pairs d t u) at (difference-says t u) in
    record {
      later = [];
      parts = sym (same_some bs cs e) ∙ sym (append-nil bs);
      turns = suc k;
      enough = omega (arith, is);
      goes = ap (λ d. turn (solve k) bs (more t ts) (more u us) (or_later d (differences ts us))) (sym at)
          ∙ ap (λ w. solve (suc k) bs (more t ts) (more w us)) (sym equal)
          ∙ solve-skip (suc k) bs t ts us
          ∙ ap (λ l. solve (suc k) l ts us) (same_some bs cs e);
    }
begun_turn n m k bs cs t u ts us is ih clash at e = absurd (none_is_some cs e)
begun_turn n m k bs cs t u ts us is ih (binds x s) at e = go (has x s) (ih x s) e
  where
    go : (b : Bool)
        → (solve n (bs ++ (x, s) ∷ []) (more (replace x s t) none) (more (replace x s u) none) ≡ Some cs
        → Begun m (bs ++ (x, s) ∷ []) cs (solve k (bs ++ (x, s) ∷ []) (more (replace x s t) (replace_all x s ts)) (more (replace x s u) (replace_all x s us)))
        (replace_all x s ts) (replace_all x s us))
        → cond b None (solve n (bs ++ (x, s) ∷ []) (more (replace x s t) none) (more (replace x s u) none)) ≡ Some cs
        → Begun m bs cs
        (cond b None (solve k (bs ++ (x, s) ∷ []) (more (replace x s t) (replace_all x s ts)) (more (replace x s u) (replace_all x s us)))) ts us
    go true ih e = absurd (none_is_some cs e)
    go false ih e =
        let q = ih e in
        record {
          later = (x, s) ∷ q.later;
          parts = q.parts ∙ append_assoc bs ((x, s) ∷ []) q.later;
          turns = q.turns;
          enough = q.enough;
          goes = q.goes;
        }

begun : (n m k : ℕ) (bs cs : Bindings) (t u : Tree) (ts us : Trees) → k ≡ n + m → solve n bs (more t none) (more u none) ≡ Some cs
    → Begun m bs cs (solve k bs (more t ts) (more u us)) ts us
begun zero m k bs cs t u ts us is e = absurd (none_is_some cs e)
begun (suc n) m zero bs cs t u ts us is e = absurd (omega (arith, is))
begun (suc n) m (suc k) bs cs t u ts us is e =
    begun_turn n m k bs cs t u ts us is
    (λ x s. begun n m k (bs ++ (x, s) ∷ []) cs (replace x s t) (replace x s u) (replace_all x s ts) (replace_all x s us) (omega (arith, is)))
    (difference t u) refl e

not_begun_turn : (n k : ℕ) (bs : Bindings) (t u : Tree) (ts us : Trees) (d : Difference)
    → ((x : ℕ) (s : Tree) → d ≡ binds x s → has x s ≡ false
    → solve n (bs ++ (x, s) ∷ []) (more (replace x s t) none) (more (replace x s u) none) ≡ None
    → solve k (bs ++ (x, s) ∷ []) (more (replace x s t) (replace_all x s ts)) (more (replace x s u) (replace_all x s us)) ≡ None)
    → turn (solve n) bs (more t none) (more u none) (or_later d same) ≡ None
    → turn (solve k) bs (more t ts) (more u us) (or_later d (differences ts us)) ≡ None
not_begun_turn n k bs t u ts us same ih e = absurd (none_is_some bs (sym e))
not_begun_turn n k bs t u ts us clash ih e = refl
not_begun_turn n k bs t u ts us (binds x s) ih e = go (has x s) (ih x s refl) e
  where
    go : (b : Bool)
        → (b ≡ false → solve n (bs ++ (x, s) ∷ []) (more (replace x s t) none) (more (replace x s u) none) ≡ None
        → solve k (bs ++ (x, s) ∷ []) (more (replace x s t) (replace_all x s ts)) (more (replace x s u) (replace_all x s us)) ≡ None)
        → cond b None (solve n (bs ++ (x, s) ∷ []) (more (replace x s t) none) (more (replace x s u) none)) ≡ None
        → cond b None (solve k (bs ++ (x, s) ∷ []) (more (replace x s t) (replace_all x s ts)) (more (replace x s u) (replace_all x s us))) ≡ None
    go true ih e = refl
    go false ih e = ih refl e

-- Where the first terms do not unify, the lists do not.
not_begun : (n k : ℕ) (vs : List ℕ) (bs : Bindings) (t u : Tree) (ts us : Trees) → n ≤ k → length vs < n → Covers vs (more t none) (more u none)
    → solve n bs (more t none) (more u none) ≡ None → solve k bs (more t ts) (more u us) ≡ None
not_begun zero k vs bs t u ts us le lt c e = absurd (omega (arith, lt))
not_begun (suc n) zero vs bs t u ts us le lt c e = absurd (omega (arith, le))
not_begun (suc n) (suc k) vs bs t u ts us le lt c e =
    not_begun_turn n k bs t u ts us (difference t u)
    (λ x s at absent gone.
    let f = binds_say (more t none) (more u none) x s (ap (λ d. or_later d same) at) in
    let shorter = length-without_lt x vs (c x f.own) in
    not_begun n k (without x vs) (bs ++ (x, s) ∷ []) (replace x s t) (replace x s u) (replace_all x s ts) (replace_all x s us)
    (omega (arith, le)) (omega (arith, lt, shorter))
    (Covers-next vs x s (more t none) (more u none) (λ σ. instances σ (more t none) ≡ instances σ (more u none)) f absent c) gone)
    e

module _ (t u : Tree) (ts us : Trees) where
  -- The occurrences of variables in all of them.
  abbrev all_of : ℕ
  all_of = length (occurrences_all (more t ts)) + length (occurrences_all (more u us))

  few : length (occurrences_all (more t none)) + length (occurrences_all (more u none)) ≤ all_of
  few =
      omega (arith, length-append (occurrences t) [], length-append (occurrences u) [], length-append (occurrences t) (occurrences_all ts), length-append (occurrences u) (occurrences_all us))

  pub none_first : unify t u ≡ None → solve_all [] (more t ts) (more u us) ≡ None
  unfolding unify solve_all
  none_first e =
      not_begun (suc (length (occurrences_all (more t none)) + length (occurrences_all (more u none)))) (suc all_of)
      (occurrences_all (more t none) ++ occurrences_all (more u none)) [] t u ts us (omega (arith, few))
      (omega (arith, length-append (occurrences_all (more t none)) (occurrences_all (more u none)))) (λ x k. k) e

  pub some_first : (bs : Bindings) → unify t u ≡ Some bs
      → solve_all [] (more t ts) (more u us) ≡ option_map (λ later. bs ++ later) (solve_all [] (bound_all bs ts) (bound_all bs us))
  unfolding unify solve_all
  some_first bs e =
      let n = suc (length (occurrences_all (more t none)) + length (occurrences_all (more u none))) in
      let rest = length (occurrences_all (bound_all bs ts)) + length (occurrences_all (bound_all bs us)) in
      let m = suc (all_of + rest) in
      let q = begun n m (n + m) [] bs t u ts us refl e in
      let is : q.later ≡ bs = sym q.parts in
      sym (turns_enough (n + m) [] (more t ts) (more u us) (omega arith))
      ∙ q.goes
      ∙ ap (λ l. solve q.turns bs (bound_all l ts) (bound_all l us)) is
      ∙ turns_enough q.turns bs (bound_all bs ts) (bound_all bs us) (omega (arith, q.enough))
      ∙ solve_all-more bs (bound_all bs ts) (bound_all bs us)
