-- Operators that are put into the table at their turns: none is refused where the table, as it was, refuses none.
use Rattle.std.proofs.Common.{◌≡◌, ℕ, zero, suc, List, [], ◌∷◌, Option, Some, None, Bool, false, cond, refl, ap, ap₂, ◌∙◌, arith}
use Rattle.std.proofs.lemmas.Bool.{ne_eqb}
use Rattle.std.specs.Prelude.{codes, is_some, nat_lt, ◌||◌, ◌&&◌, bytes_eq, if◌then◌else◌}
use Rattle.std.specs.List.{list_any}
use Rattle.std.specs.Option.{option_map}
use Rattle.std.specs.Ordering.{is_eq, nat_cmp, ordering_then}
use Rattle.std.specs.declared.cmp.Ordering.{Ordering}
use Rattle.std.specs.declared.cmp.Ordering.TheVariants.{Less, Equal, Greater}
use Rattle.std.specs.FinMap as finite
use Rattle.std.specs.FinMap.{get-insert}
use Rattle.pl_term.specs.Order.{text_order}
use Rattle.pl_term.specs.Tree.{Chars}
use Rattle.pl_model.specs.OperatorTable.{Entry, OperatorTable, Refusal, changed, comma, highest_priority, infix_postfix, is_reserved, place_of, priority, refusal, reserved, stands_beside}
use Rattle.pl_model.specs.declared.operators.Kind.{Kind}
use Rattle.pl_model.specs.declared.operators.Place.{Place}
use Rattle.pl_model.specs.declared.operators.Place.TheVariants.{Prefix, Infix, Postfix}
use Rattle.pl_model.proofs.KeyOrder.{key_order_total}
use Rattle.op_table.specs.Faults.{fault_of}
use Rattle.op_table.specs.declared.operator.Operator.{Operator}
use Rattle.clause_db.specs.Operators.{first_fault}
use Rattle.hub_database.specs.Operators.{fault_in, operators_by}
use Rattle.hub_database.proofs.Served.{neither}

-- names at two places are no one key
other_place : (o p : Ordering) → is_eq p ≡ false → is_eq (ordering_then o p) ≡ false
other_place Less p e = refl
other_place Equal p e = e
other_place Greater p e = refl

-- an operator at a place puts none beside another one there
beside_put : (t : OperatorTable) (q : Place) (f g : Chars) (e : Entry) → stands_beside (finite.insert t (f, q) e) g q ≡ stands_beside t g q
beside_put t Prefix f g e = refl
beside_put t Infix f g e =
    ap is_some (get-insert key_order_total t (f, Infix) e (g, Postfix) ∙ ap (λ b. cond b (Some e) (finite.get t (g, Postfix))) (other_place (text_order g f) (nat_cmp 2 1) refl))
beside_put t Postfix f g e =
    ap is_some (get-insert key_order_total t (f, Postfix) e (g, Infix) ∙ ap (λ b. cond b (Some e) (finite.get t (g, Infix))) (other_place (text_order g f) (nat_cmp 1 2) refl))

changed_put : (t : OperatorTable) (n : ℕ) (k : Kind) (f : Chars) → changed t (suc n) k f ≡ finite.insert t (f, place_of k) (suc n, k)
changed_put t n k f = ap (λ b. if b then finite.remove t (f, place_of k) else finite.insert t (f, place_of k) (suc n, k)) (ne_eqb (suc n) 0 (λ same. let e = same in absurd (omega (arith, e))))

-- so a name is refused as before
refused_then : (t : OperatorTable) (p : ℕ) (k : Kind) (f g : Chars) → refusal (changed t p k f) p (Some k) g ≡ refusal t p (Some k) g
refused_then t zero k f g = refl
refused_then t (suc n) k f g =
    ap (λ (u : OperatorTable). refusal u (suc n) (Some k) g) (changed_put t n k f)
    ∙ ap (λ b.
    if nat_lt highest_priority (suc n) then Some priority
    else if bytes_eq g (codes ",") then Some comma
    else if is_reserved g then Some reserved
    else if nat_lt 0 (suc n) && b then Some infix_postfix
    else None) (beside_put t (place_of k) f g (suc n, k))

module _ (p : ℕ) (k : Kind) where
  abbrev refused_in : OperatorTable → Operator → Bool
  refused_in t o = is_some (fault_in t o)

  any_same : (t u : OperatorTable) → ((g : Chars) → refusal u p (Some k) g ≡ refusal t p (Some k) g) → (fs : List Chars) → list_any (refused_in u) (operators_by p k fs) ≡ list_any (refused_in t) (operators_by p k fs)
  any_same t u same [] = refl
  any_same t u same (f ∷ fs) = ap₂ (λ (a b : Bool). a || b) (ap (λ (o : Option Refusal). is_some (option_map fault_of o)) (same f)) (any_same t u same fs)

  unrefused : (o : Option Refusal) → is_some (option_map fault_of o) ≡ false → o ≡ None
  unrefused None e = refl
  unrefused (Some r) e = absurd (cc)

  -- NONE IS REFUSED
  pub none_at_turn : (t : OperatorTable) (fs : List Chars) → list_any (refused_in t) (operators_by p k fs) ≡ false → first_fault (operators_by p k fs) t ≡ None
  none_at_turn t [] none = refl
  none_at_turn t (f ∷ fs) none =
      let both = neither (refused_in t (record { name = f; priority = p; kind = k })) (list_any (refused_in t) (operators_by p k fs)) none in
      let u = changed t p k f in
      ap (λ (o : Option Refusal). elim o [ None ↦ first_fault (operators_by p k fs) u | Some r ↦ Some (fault_of r) ]) (unrefused (refusal t p (Some k) f) both.0)
      ∙ none_at_turn u fs (any_same t u (refused_then t p k f) fs ∙ both.1)
