-- The test for the same predicate, and lists of things that have one.
use Rattle.std.proofs.Common.{◌≡◌, Bool, true, false, cond, List, [], ◌∷◌, find, Some, None, refl, sym, ap, ap₂, ◌∙◌}
use Rattle.std.specs.Prelude.{bytes_eq, ◌==◌}
use Rattle.std.specs.Bool.{Decides}
use Rattle.std.specs.Option.{option_map_or}
use Rattle.std.proofs.lemmas.Bool.{false≢true}
use Rattle.std.proofs.lemmas.Bool.Decides.{Decides-like, Decides-and, Decides-eqb}
use Rattle.std.proofs.lemmas.Slice.Eq.{bytes_eq-Decides}
use Rattle.pl_model.specs.History.{Proc}
use Rattle.pl_model.specs.Predicates.{same_proc}

pub same_proc-Decides : (p q : Proc) → Decides (same_proc p q) (p ≡ q)
same_proc-Decides p q =
    Decides-like
    (same_proc p q)
    (λ e. ap₂ (λ n k. record { name = n; arity = k }) e.0 e.1)
    (λ e. (ap (λ r. r.name) e, ap (λ r. r.arity) e))
    (Decides-and
    (bytes_eq p.name q.name)
    (p.arity == q.arity)
    (bytes_eq-Decides p.name q.name)
    (Decides-eqb p.arity q.arity))

pub is_same : (p q : Proc) → same_proc p q ≡ true → p ≡ q
is_same p q e = (same_proc-Decides p q).0 e

pub same_self : (p : Proc) → same_proc p p ≡ true
same_self p = (same_proc-Decides p p).1 refl

twice : {Y : Type 0} (b : Bool) (a x f : Y) → cond b a f ≡ cond b a (cond b x f)
twice true a x f = refl
twice false a x f = refl

swap : {Y : Type 0} (s t : Bool) (a x f : Y) → (s ≡ true → t ≡ true → false ≡ true) → cond s x (cond t a f) ≡ cond t a (cond s x f)
swap true true a x f h = absurd (false≢true (h refl refl))
swap true false a x f h = refl
swap false true a x f h = refl
swap false false a x f h = refl

module _ {X : Type 0} (name : X → Proc) where
  abbrev pub named : Proc → X → Bool
  named p x = same_proc (name x) p

  -- The first one of the name is changed, or a new one is put after.
  abbrev pub amend : Proc → (X → X) → X → List X → List X
  amend p f new [] = new ∷ []
  amend p f new (x ∷ xs) = cond (named p x) (f x ∷ xs) (x ∷ amend p f new xs)

  pub find_amend : (p : Proc) (f : X → X) (new : X) → ((x : X) → name (f x) ≡ name x) → name new ≡ p → (q : Proc) (xs : List X)
      → find (named q) (amend p f new xs) ≡ cond (same_proc p q) (Some (option_map_or f (find (named p) xs) new)) (find (named q) xs)
  find_amend p f new keeps is q [] = ap (λ r. cond (same_proc r q) (Some new) None) is
  find_amend p f new keeps is q (x ∷ xs) = go (named p x) refl (find_amend p f new keeps is q xs)
    where
      go : (b : Bool) → named p x ≡ b
          → find (named q) (amend p f new xs) ≡ cond (same_proc p q) (Some (option_map_or f (find (named p) xs) new)) (find (named q) xs)
          → find (named q) (cond b (f x ∷ xs) (x ∷ amend p f new xs)) ≡ cond (same_proc p q) (Some (option_map_or f (cond b (Some x) (find (named p) xs)) new)) (cond (named q x) (Some x) (find (named q) xs))
      go true e ih =
          let n : name x ≡ p = is_same (name x) p e in
          ap (λ r. cond (same_proc r q) (Some (f x)) (find (named q) xs)) (keeps x)
          ∙ twice (named q x) (Some (f x)) (Some x) (find (named q) xs)
          ∙ ap (λ r. cond (same_proc r q) (Some (f x)) (cond (named q x) (Some x) (find (named q) xs))) n
      go false e ih =
          ap (λ o. cond (named q x) (Some x) o) ih
          ∙ swap (named q x) (same_proc p q) (Some (option_map_or f (find (named p) xs) new)) (Some x) (find (named q) xs)
          (λ u v. sym e ∙ ap (λ r. same_proc r p) (is_same (name x) q u ∙ sym (is_same p q v)) ∙ same_self p)
