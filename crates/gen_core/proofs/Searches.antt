-- Searching for the next number.
use Rattle.std.proofs.Common.{◌≡◌, ℕ, ◌<◌, ◌≤◌, Bool, true, false, not, ◌&&◌, ◌||◌, Option, Some, None, refl, sym, ap, ap₂, ◌∙◌, arith, inl, inr}
use Rattle.std.proofs.lemmas.Bool.{cases_lt}
use Rattle.std.specs.Option.{option_map_or}
use Rattle.std.specs.Ordering.{is_eq}
use Rattle.std.specs.declared.cmp.Ordering.{Ordering}
use Rattle.pl_model.specs.FirstArguments.{are_apart}
use Rattle.gen_core.specs.NumberMaps.{ByNumber}
use Rattle.gen_core.specs.declared.dated_clause.DatedClause.{DatedClause}
use Rattle.gen_core.specs.declared.clause_index.Entry.{Entry}
use Rattle.gen_core.specs.Index.{IsNext}
use Rattle.gen_core.specs.ClauseIndex.{holds, dated_at}

-- The same answer by a test that answers the same.
pub IsNext-same : (P Q : ℕ → Bool) (from : ℕ) (r : Option ℕ) → ((q : ℕ) → P q ≡ Q q) → IsNext P from r → IsNext Q from r
IsNext-same P Q from None e h = λ q l. sym (e q) ∙ h q l
IsNext-same P Q from (Some r) e h = (h.0, sym (e r) ∙ h.1, λ q l m. sym (e q) ∙ h.2 q l m)

either : (b e : Bool) → ((not b && e) || b) ≡ (not (not b && not e))
either true e = refl
either false true = refl
either false false = refl

-- A clause is found under the goal's key, or among those that may be equal to any.
pub found_under : {C K : Type 0} (order : K → K → Ordering) (any : K → Bool) (key_of : C → K) (m : ByNumber (Entry C K)) (first : K) (q : ℕ) (a b : Bool)
    → any first ≡ false
    → a ≡ holds m (λ d. not (any (key_of d.clause)) && is_eq (order first (key_of d.clause))) q
    → b ≡ holds m (λ d. any (key_of d.clause)) q
    → (a || b) ≡ holds m (λ d. not (are_apart order any first (key_of d.clause))) q
found_under {C} order any key_of m first q a b h f k = ap₂ ◌||◌ f k ∙ go (dated_at m q)
  where
    go : (o : Option (DatedClause C))
        → (option_map_or (λ d. not (any (key_of d.clause)) && is_eq (order first (key_of d.clause))) o false || option_map_or (λ d. any (key_of d.clause)) o false)
        ≡ option_map_or (λ d. not (are_apart order any first (key_of d.clause))) o false
    go None = refl
    go (Some d) =
        either (any (key_of d.clause)) (is_eq (order first (key_of d.clause)))
        ∙ ap (λ x. not (not x && (not (any (key_of d.clause)) && not (is_eq (order first (key_of d.clause)))))) (sym h)

-- Whether a clause on a number passes two tests.
pub holds-both : {C K : Type 0} (m : ByNumber (Entry C K)) (a b : DatedClause C → Bool) (q : ℕ) → holds m (λ d. a d && b d) q ≡ (holds m a q && holds m b q)
holds-both {C} m a b q = go (dated_at m q)
  where
    go : (o : Option (DatedClause C)) → option_map_or (λ d. a d && b d) o false ≡ (option_map_or a o false && option_map_or b o false)
    go None = refl
    go (Some d) = refl

and-false : (b : Bool) → (b && false) ≡ false
and-false true = refl
and-false false = refl

module _ (P V R : ℕ → Bool) (both : (q : ℕ) → R q ≡ (V q && P q)) (start from : ℕ) (passed : (q : ℕ) → start ≤ q → q < from → R q ≡ false) where
  fails : (q : ℕ) → P q ≡ false → R q ≡ false
  fails q e = both q ∙ ap (λ b. V q && b) e ∙ and-false (V q)

  before : (to q : ℕ) → ((p : ℕ) → from ≤ p → p < to → P p ≡ false) → start ≤ q → q < to → R q ≡ false
  before to q h l m = elim (cases_lt q from) [ inl n ↦ passed q l n | inr n ↦ fails q (h q n m) ]

  -- A search that found none, among those that pass a second test.
  pub passed_none : IsNext P from None → IsNext R start None
  passed_none h q l = elim (cases_lt q from) [ inl n ↦ passed q l n | inr n ↦ fails q (h q n) ]

  -- A search that found one that passes a second test.
  pub passed_some : (n : ℕ) → start ≤ from → IsNext P from (Some n) → V n ≡ true → IsNext R start (Some n)
  passed_some n l h v = (omega (arith, h.0), both n ∙ ap₂ ◌&&◌ v h.1, λ q k m. before n q h.2 k m)

  -- A search that found one that does not, nor those behind it as far as another number.
  pub passed_run : (n to : ℕ) → IsNext P from (Some n) → ((q : ℕ) → n ≤ q → q < to → V q ≡ false) → (q : ℕ) → start ≤ q → q < to → R q ≡ false
  passed_run n to h v q k m =
      elim (cases_lt q n) [
        | inl l ↦ before n q h.2 k l
        | inr l ↦ both q ∙ ap (λ b. b && P q) (v q l m)
      ]
