-- A procedure that stands at an index is the first one of its predicate, since no predicate stands there twice.
use Rattle.std.proofs.Common.{◌≡◌, ◌||◌, ℕ, zero, suc, Bool, true, false, cond, find, List, [], ◌∷◌, map, Some, None, refl, sym, ap, ◌∙◌}
use Rattle.std.specs.List.{list_any}
use Rattle.std.proofs.lemmas.Bool.{false≢true}
use Rattle.pl_model.specs.History.{Proc}
use Rattle.pl_model.specs.Predicates.{same_proc}
use Rattle.pl_model.specs.laws.Shown.{proc_of}
use Rattle.clause_db.specs.declared.parts.ProcedureClauses.{ProcedureClauses}
use Rattle.clause_db.specs.Located.{IsAt, stands_at}
use Rattle.clause_db.specs.Parts.{piece, is_part_of}
use Rattle.clause_db.specs.Sound.{Apart, names}
use Rattle.clause_db.proofs.Procs.{is_same}

neither : (a b : Bool) → (a || b) ≡ false → (a ≡ false) × (b ≡ false)
neither true b e = absurd (false≢true (sym e))
neither false b e = (refl, e)

-- Of three predicates, where the second is the third and the first is not the second, the first is not the third.
not_third : (y x p : Proc) → same_proc y x ≡ false → same_proc x p ≡ true → same_proc y p ≡ false
not_third y x p e h = go (same_proc y p) refl
  where
    go : (b : Bool) → same_proc y p ≡ b → b ≡ false
    go false q = refl
    go true q = absurd (false≢true (sym e ∙ ap (same_proc y) (is_same x p h) ∙ q))

module _ {C K : Type 0} (p : Proc) where
  abbrev test : ProcedureClauses C K → Bool
  test x = is_part_of p (piece x)

  other : (y : Proc) (xs : List (ProcedureClauses C K)) (i : ℕ) → list_any (same_proc y) (names (map piece xs)) ≡ false
      → stands_at test xs i ≡ true → same_proc y p ≡ false
  other y [] i none hit = absurd (false≢true hit)
  other y (x ∷ xs) zero none hit =
      not_third y (proc_of x.name) p (neither (same_proc y (proc_of x.name)) (list_any (same_proc y) (names (map piece xs))) none).0 hit
  other y (x ∷ xs) (suc i) none hit =
      other y xs i (neither (same_proc y (proc_of x.name)) (list_any (same_proc y) (names (map piece xs))) none).1 hit

  missed_more : (y : ProcedureClauses C K) (before : List (ProcedureClauses C K)) → test y ≡ false → find test before ≡ None → find test (y ∷ before) ≡ None
  missed_more y before e m = ap (λ b. cond b (Some y) (find test before)) e ∙ m

  pub member_found : (xs : List (ProcedureClauses C K)) (i : ℕ) → Apart (names (map piece xs)) → stands_at test xs i ≡ true → IsAt test xs i
  member_found [] i apart at = absurd (false≢true at)
  member_found (y ∷ xs) zero apart at = record {
    before = [];
    item = y;
    after = xs;
    whole = refl;
    index = refl;
    missed = refl;
    hits = at;
  }
  member_found (y ∷ xs) (suc i) apart at =
      let next = member_found xs i apart.1 at in
      record {
        before = y ∷ next.before;
        item = next.item;
        after = next.after;
        whole = ap (λ l. y ∷ l) next.whole;
        index = ap suc next.index;
        missed = missed_more y next.before (other (proc_of y.name) xs i apart.0 at) next.missed;
        hits = next.hits;
      }
