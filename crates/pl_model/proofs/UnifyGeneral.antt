-- A substitution that makes two lists of terms equal is an instance of the bindings that solve them.
use Rattle.std.proofs.Common.{◌≡◌, ℕ, zero, suc, ◌+◌, ◌<◌, ◌≤◌, Bool, true, false, cond, List, [], ◌∷◌, ◌++◌, length, Option, Some, None, refl, sym, ap, ◌∙◌, inl, inr, append_assoc, append-nil, arith}
use Rattle.std.proofs.lemmas.Bool.{false≢true}
use Rattle.pl_term.specs.Tree.{Tree, Trees, var, int, atom, comp, none, more}
use Rattle.pl_term.specs.Variables.{is_in, has, has_all, without, occurrences, occurrences_all, replace, replace_all}
use Rattle.pl_model.specs.Unify.{Bindings, bound, Difference, same, clash, binds, differences, turn, solve, instance, instances}
use Rattle.pl_model.proofs.UnifyReplace.{is_in-one, present-append, instance-replace, instances-replace, length-without_lt}
use Rattle.pl_model.proofs.UnifyDifference.{PairsAll, differences-say}
use Rattle.pl_model.proofs.UnifyEnough.{Covers, Covers-next, binds_say}

-- The number of nodes of a term.
abbrev mutual
  pub size : Tree → ℕ
  size (var x) = 1
  size (int i) = 1
  size (atom a) = 1
  size (comp f t ts) = suc (size t + sizes ts)

  pub sizes : Trees → ℕ
  sizes none = 0
  sizes (more t ts) = size t + sizes ts

size_either : (x : ℕ) (ts us : List ℕ) (a b c : ℕ) → (is_in x ts ≡ true → a ≤ b) → (is_in x us ≡ true → a ≤ c)
    → is_in x (ts ++ us) ≡ true → a ≤ b + c
size_either x ts us a b c f g h =
    elim (present-append x ts us h) [ inl k ↦ omega (arith, f k) | inr k ↦ omega (arith, g k) ]

mutual
  -- The instance of a term is no smaller than what stands in it for a variable.
  size-instance : (t : Tree) (x : ℕ) (σ : ℕ → Tree) → has x t ≡ true → size (σ x) ≤ size (instance σ t)
  size-instance (var y) x σ h = rw (is_in-one x y h) (omega arith)
  size-instance (int i) x σ h = absurd (false≢true h)
  size-instance (atom a) x σ h = absurd (false≢true h)
  size-instance (comp f t ts) x σ h =
      let h : size (σ x) ≤ size (instance σ t) + sizes (instances σ ts) =
      size_either x (occurrences t) (occurrences_all ts) (size (σ x)) (size (instance σ t)) (sizes (instances σ ts))
      (size-instance t x σ) (sizes-instance ts x σ) h in
      omega arith

  sizes-instance : (ts : Trees) (x : ℕ) (σ : ℕ → Tree) → has_all x ts ≡ true → size (σ x) ≤ sizes (instances σ ts)
  sizes-instance none x σ h = absurd (false≢true h)
  sizes-instance (more t ts) x σ h =
      size_either x (occurrences t) (occurrences_all ts) (size (σ x)) (size (instance σ t)) (sizes (instances σ ts))
      (size-instance t x σ) (sizes-instance ts x σ) h

-- No substitution makes a variable equal to another term that holds it.
not_within : (s : Tree) (x : ℕ) (σ : ℕ → Tree) → ((y : ℕ) → s ≡ var y → y < x) → σ x ≡ instance σ s → has x s ≡ true → ⊥
not_within (var y) x σ greater e h = omega (arith, greater y refl, is_in-one x y h)
not_within (int i) x σ greater e h = false≢true h
not_within (atom a) x σ greater e h = false≢true h
not_within (comp f t ts) x σ greater e h =
    omega (
      arith,
      ap size e,
      size_either x (occurrences t) (occurrences_all ts) (size (σ x)) (size (instance σ t)) (sizes (instances σ ts))
          (size-instance t x σ) (sizes-instance ts x σ) h,
    )

-- The bindings solve the two lists of terms, and the substitution makes of each term what it makes of the term
-- with the bindings put in.
pub record General (bs : Bindings) (answer : Option Bindings) (σ : ℕ → Tree) : Type 0 where
  pub later : Bindings
  pub solves : answer ≡ Some (bs ++ later)
  pub factors : (t : Tree) → instance σ (bound later t) ≡ instance σ t

general_turn : (next : Bindings → Trees → Trees → Option Bindings) (bs : Bindings) (ts us : Trees) (σ : ℕ → Tree) (d : Difference)
    → ((x : ℕ) (s : Tree) → d ≡ binds x s → has x s ≡ false → σ x ≡ instance σ s
    → General (bs ++ (x, s) ∷ []) (next (bs ++ (x, s) ∷ []) (replace_all x s ts) (replace_all x s us)) σ)
    → PairsAll d ts us → instances σ ts ≡ instances σ us → General bs (turn next bs ts us d) σ
general_turn next bs ts us σ same ih said e =
    record { later = []; solves = ap Some (sym (append-nil bs)); factors = λ t. refl }
general_turn next bs ts us σ clash ih said e = absurd (said σ e)
general_turn next bs ts us σ (binds x s) ih said e = go (has x s) refl
  where
    go : (b : Bool) → has x s ≡ b → General bs (cond b None (next (bs ++ (x, s) ∷ []) (replace_all x s ts) (replace_all x s us))) σ
    go true h = absurd (not_within s x σ said.greater (said.solves σ e) h)
    go false h =
        let q = ih x s refl h (said.solves σ e) in
        record {
          later = (x, s) ∷ q.later;
          solves = q.solves ∙ ap Some (append_assoc bs ((x, s) ∷ []) q.later);
          factors = λ t. q.factors (replace x s t) ∙ instance-replace t x s σ (said.solves σ e);
        }

pub general : (n : ℕ) (vs : List ℕ) (bs : Bindings) (ts us : Trees) (σ : ℕ → Tree) → length vs < n → Covers vs ts us
    → instances σ ts ≡ instances σ us → General bs (solve n bs ts us) σ
general zero vs bs ts us σ h c e = absurd (omega arith)
general (suc n) vs bs ts us σ h c e =
    general_turn (solve n) bs ts us σ (differences ts us)
    (λ x s d absent k.
    let f = binds_say ts us x s d in
    let shorter = length-without_lt x vs (c x f.own) in
    general n (without x vs) (bs ++ (x, s) ∷ []) (replace_all x s ts) (replace_all x s us) σ (omega arith)
    (Covers-next vs x s ts us (λ ρ. instances ρ ts ≡ instances ρ us) f absent c)
    (instances-replace ts x s σ k ∙ e ∙ sym (instances-replace us x s σ k)))
    (differences-say ts us) e
