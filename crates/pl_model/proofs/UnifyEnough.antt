-- Each turn takes a variable out of those that the two lists of terms have.
use Rattle.std.proofs.Common.{◌≡◌, ℕ, zero, suc, ◌+◌, ◌<◌, false, List, [], ◌∷◌, ◌++◌, length, sym, ap, ◌∙◌, inl, inr, arith, length-append}
use Rattle.std.proofs.lemmas.Bool.{false≢true}
use Rattle.pl_term.specs.Tree.{Tree, Trees}
use Rattle.pl_term.specs.Variables.{has, has_all, without, occurrences, occurrences_all, replace_all}
use Rattle.pl_model.specs.Unify.{Bindings, binds, differences, solve, solve_all, instances}
use Rattle.pl_model.proofs.UnifyReplace.{Among, present-append, present_left, present_right, has_all-replace, has_all-replaced, is_in-without, length-without_lt}
use Rattle.pl_model.proofs.UnifyDifference.{Faces, differences-say}
use Rattle.pl_model.proofs.UnifyTurns.{turn_same}

-- The two lists of terms have no variables but these.
abbrev pub Covers : List ℕ → Trees → Trees → Type 0
Covers vs ts us = Among (occurrences_all ts ++ occurrences_all us) vs

covered : (vs : List ℕ) (x : ℕ) (s : Tree) (ts : Trees) → has x s ≡ false → Among (occurrences s) vs → Among (occurrences_all ts) vs
    → Among (occurrences_all (replace_all x s ts)) (without x vs)
covered vs x s ts absent in_s in_ts y h =
    is_in-without x y vs
    (λ e. false≢true (sym (has_all-replace ts x s absent) ∙ ap (λ z. has_all z (replace_all x s ts)) e ∙ h))
    (elim (has_all-replaced ts x s y h) [ inl k ↦ in_s y k | inr k ↦ in_ts y k ])

-- After a turn, the variable that was bound is gone from them.
pub Covers-next : (vs : List ℕ) (x : ℕ) (s : Tree) (ts us : Trees) (Equal : (ℕ → Tree) → Type 0)
    → Faces x s (occurrences_all ts ++ occurrences_all us) Equal → has x s ≡ false → Covers vs ts us
    → Covers (without x vs) (replace_all x s ts) (replace_all x s us)
Covers-next vs x s ts us Equal f absent c y h =
    elim (present-append y (occurrences_all (replace_all x s ts)) (occurrences_all (replace_all x s us)) h) [
      | inl k ↦ covered vs x s ts absent (λ z l. c z (f.among z l)) (λ z l. c z (present_left z (occurrences_all ts) (occurrences_all us) l)) y k
      | inr k ↦ covered vs x s us absent (λ z l. c z (f.among z l)) (λ z l. c z (present_right z (occurrences_all ts) (occurrences_all us) l)) y k
    ]

-- What the difference says where it binds.
pub binds_say : (ts us : Trees) (x : ℕ) (s : Tree) → differences ts us ≡ binds x s
    → Faces x s (occurrences_all ts ++ occurrences_all us) (λ σ. instances σ ts ≡ instances σ us)
binds_say ts us x s e = rw e at (differences-say ts us)

pub turns_same : (n m : ℕ) (vs : List ℕ) (bs : Bindings) (ts us : Trees) → length vs < n → length vs < m → Covers vs ts us → solve n bs ts us ≡ solve m bs ts us
turns_same zero m vs bs ts us h k c = absurd (omega arith)
turns_same (suc n) zero vs bs ts us h k c = absurd (omega arith)
turns_same (suc n) (suc m) vs bs ts us h k c =
    turn_same (solve n) (solve m) bs ts us ts us (differences ts us)
    (λ x s e absent.
    let f = binds_say ts us x s e in
    let shorter = length-without_lt x vs (c x f.own) in
    turns_same n m (without x vs) (bs ++ (x, s) ∷ []) (replace_all x s ts) (replace_all x s us) (omega arith) (omega arith)
    (Covers-next vs x s ts us (λ σ. instances σ ts ≡ instances σ us) f absent c))

pub turns_enough : (n : ℕ) (bs : Bindings) (ts us : Trees) → length (occurrences_all ts) + length (occurrences_all us) < n → solve n bs ts us ≡ solve_all bs ts us
unfolding solve_all
turns_enough n bs ts us h =
    turns_same n (suc (length (occurrences_all ts) + length (occurrences_all us))) (occurrences_all ts ++ occurrences_all us) bs ts us
    (omega (arith, length-append (occurrences_all ts) (occurrences_all us)))
    (omega (arith, length-append (occurrences_all ts) (occurrences_all us))) (λ x k. k)
