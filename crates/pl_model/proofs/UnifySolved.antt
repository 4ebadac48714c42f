-- What holds of the bindings that solve two lists of terms.
use Rattle.std.proofs.Common.{◌≡◌, ℕ, zero, suc, ◌<◌, Bool, true, false, cond, ◌==◌, List, [], ◌∷◌, ◌++◌, Option, Some, None, refl, sym, ap, ◌∙◌, inl, inr, append_assoc, append-nil, All}
use Rattle.std.proofs.lemmas.Bool.{false≢true}
use Rattle.std.proofs.lemmas.Bool.Decides.{Decides-eqb}
use Rattle.std.proofs.lemmas.List.Elements.{All-nil, All-cons}
use Rattle.pl_term.specs.Tree.{Tree, Trees, var}
use Rattle.pl_term.specs.Variables.{is_in, has, occurrences, occurrences_all, replace, replace_all}
use Rattle.pl_model.specs.Unify.{Bindings, bound_variables, bound, bound_all, Difference, same, clash, binds, differences, turn, solve, instances}
use Rattle.pl_model.proofs.UnifyReplace.{Among, or-true, present-append, present_left, present_right, absent_both, has-replace, has_all-replace, has-replaced, has_all-replaced}
use Rattle.pl_model.proofs.UnifyDifference.{Faces, PairsAll, differences-say}

-- Bound to another variable, the variable has the greater number.
abbrev pub IsGreater : ℕ × Tree → Type 0
IsGreater p = (y : ℕ) → p.1 ≡ var y → y < p.0

pub record Solved (bs r : Bindings) (ts us : Trees) : Type 0 where
  pub later : Bindings
  pub parts : r ≡ bs ++ later
  pub equal : bound_all later ts ≡ bound_all later us
  pub own : Among (bound_variables later) (occurrences_all ts ++ occurrences_all us)
  pub gone : (x : ℕ) → is_in x (bound_variables later) ≡ true → (t : Tree) → has x (bound later t) ≡ false
  pub within : (x : ℕ) (t : Tree) → has x (bound later t) ≡ true → is_in x (occurrences t ++ (occurrences_all ts ++ occurrences_all us)) ≡ true
  pub greater : All IsGreater later

-- What is there after a turn was there before.
replaced_within : (ts us : Trees) (x : ℕ) (s : Tree) → Among (occurrences s) (occurrences_all ts ++ occurrences_all us)
    → Among (occurrences_all (replace_all x s ts) ++ occurrences_all (replace_all x s us)) (occurrences_all ts ++ occurrences_all us)
replaced_within ts us x s f y h =
    elim (present-append y (occurrences_all (replace_all x s ts)) (occurrences_all (replace_all x s us)) h) [
      | inl k ↦ elim (has_all-replaced ts x s y k) [ inl l ↦ f y l | inr l ↦ present_left y (occurrences_all ts) (occurrences_all us) l ]
      | inr k ↦ elim (has_all-replaced us x s y k) [ inl l ↦ f y l | inr l ↦ present_right y (occurrences_all ts) (occurrences_all us) l ]
    ]

absent_after : (ts us : Trees) (x : ℕ) (s t : Tree) → has x s ≡ false
    → is_in x (occurrences (replace x s t) ++ (occurrences_all (replace_all x s ts) ++ occurrences_all (replace_all x s us))) ≡ false
absent_after ts us x s t absent =
    absent_both x (occurrences (replace x s t)) (occurrences_all (replace_all x s ts) ++ occurrences_all (replace_all x s us))
    (has-replace t x s absent)
    (absent_both x (occurrences_all (replace_all x s ts)) (occurrences_all (replace_all x s us)) (has_all-replace ts x s absent) (has_all-replace us x s absent))

false_unless : (b : Bool) → (b ≡ true → ⊥) → b ≡ false
false_unless true h = absurd (h refl)
false_unless false h = refl

solved_more : (bs r : Bindings) (ts us : Trees) (x : ℕ) (s : Tree) → has x s ≡ false
    → Faces x s (occurrences_all ts ++ occurrences_all us) (λ σ. instances σ ts ≡ instances σ us)
    → Solved (bs ++ (x, s) ∷ []) r (replace_all x s ts) (replace_all x s us) → Solved bs r ts us
solved_more bs r ts us x s absent f q =
    record {
      later = (x, s) ∷ q.later;
      parts = q.parts ∙ append_assoc bs ((x, s) ∷ []) q.later;
      equal = q.equal;
      own = λ y h. elim (or-true (y == x) (is_in y (bound_variables q.later)) h) [
        | inl k ↦ same_member y x (occurrences_all ts ++ occurrences_all us) ((Decides-eqb y x).0 k) f.own
        | inr k ↦ replaced_within ts us x s f.among y (q.own y k)
      ];
      gone = λ y h t. elim (or-true (y == x) (is_in y (bound_variables q.later)) h) [
        | inl k ↦ ap (λ z. has z (bound q.later (replace x s t))) ((Decides-eqb y x).0 k)
            ∙ false_unless (has x (bound q.later (replace x s t)))
            (λ e. false≢true (sym (absent_after ts us x s t absent) ∙ q.within x (replace x s t) e))
        | inr k ↦ q.gone y k (replace x s t)
      ];
      within = λ y t h. elim (present-append y (occurrences (replace x s t))
          (occurrences_all (replace_all x s ts) ++ occurrences_all (replace_all x s us)) (q.within y (replace x s t) h)) [
            | inl k ↦ elim (has-replaced t x s y k) [
              | inl l ↦ present_right y (occurrences t) (occurrences_all ts ++ occurrences_all us) (f.among y l)
              | inr l ↦ present_left y (occurrences t) (occurrences_all ts ++ occurrences_all us) l
            ]
            | inr k ↦ present_right y (occurrences t) (occurrences_all ts ++ occurrences_all us) (replaced_within ts us x s f.among y k)
          ];
      greater = All-cons IsGreater (x, s) q.later f.greater q.greater;
    }
  where
    same_member : (y x : ℕ) (vs : List ℕ) → y ≡ x → is_in x vs ≡ true → is_in y vs ≡ true
    same_member y x vs e h = ap (λ z. is_in z vs) e ∙ h

solved_turn : (next : Bindings → Trees → Trees → Option Bindings) (bs r : Bindings) (ts us : Trees) (d : Difference)
    → ((x : ℕ) (s : Tree) → next (bs ++ (x, s) ∷ []) (replace_all x s ts) (replace_all x s us) ≡ Some r
    → Solved (bs ++ (x, s) ∷ []) r (replace_all x s ts) (replace_all x s us))
    → PairsAll d ts us → turn next bs ts us d ≡ Some r → Solved bs r ts us
solved_turn next bs r ts us same ih said e =
    record {
      later = [];
      parts = some_of e ∙ sym (append-nil bs);
      equal = said;
      own = λ x h. absurd (false≢true h);
      gone = λ x h t. absurd (false≢true h);
      within = λ x t h. present_left x (occurrences t) (occurrences_all ts ++ occurrences_all us) h;
      greater = All-nil IsGreater;
    }
  where
    some_of : Some bs ≡ Some r → r ≡ bs
    some_of e = cc
solved_turn next bs r ts us clash ih said e = cc
solved_turn next bs r ts us (binds x s) ih said e = go (has x s) refl e
  where
    go : (b : Bool) → has x s ≡ b → cond b None (next (bs ++ (x, s) ∷ []) (replace_all x s ts) (replace_all x s us)) ≡ Some r → Solved bs r ts us
    go true h k = cc
    go false h k = solved_more bs r ts us x s h said (ih x s k)

pub solved : (n : ℕ) (bs r : Bindings) (ts us : Trees) → solve n bs ts us ≡ Some r → Solved bs r ts us
solved zero bs r ts us e = cc
solved (suc n) bs r ts us e =
    solved_turn (solve n) bs r ts us (differences ts us)
    (λ x s k. solved n (bs ++ (x, s) ∷ []) r (replace_all x s ts) (replace_all x s us) k) (differences-say ts us) e
