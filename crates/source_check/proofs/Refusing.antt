-- Operators that the table refuses, or takes.
use Rattle.std.proofs.Common.{◌≡◌, ◌<◌, ◌≤◌, ℕ, zero, suc, List, [], ◌∷◌, Option, Some, None, Bool, true, false, cond, refl, sym, ap, ap₂, ◌∙◌, arith}
use Rattle.std.proofs.lemmas.Bool.{false≢true, ne_eqb}
use Rattle.std.specs.Prelude.{codes, is_some, nat_lt, ◌||◌, ◌&&◌, bytes_eq, if◌then◌else◌}
use Rattle.std.specs.List.{list_any}
use Rattle.std.specs.Option.{IfNone}
use Rattle.std.specs.Ordering.{is_eq, nat_cmp, ordering_then}
use Rattle.std.specs.declared.cmp.Ordering.{Ordering}
use Rattle.std.specs.declared.cmp.Ordering.TheVariants.{Less, Equal, Greater}
use Rattle.std.specs.FinMap as finite
use Rattle.std.specs.FinMap.{get-insert}
use Rattle.pl_term.specs.Order.{text_order}
use Rattle.pl_term.specs.Tree.{Chars, Tree}
use Rattle.pl_model.specs.OperatorTable.{Entry, OperatorTable, Refusal, changed, comma, highest_priority, infix_postfix, is_reserved, place_of, priority, refusal, reserved, specifier_of, stands_beside}
use Rattle.pl_model.specs.SharedState.{kind_of, with_operators}
use Rattle.pl_model.specs.Service.{operator_error, operators_error}
use Rattle.pl_model.specs.declared.operators.Kind.{Kind}
use Rattle.pl_model.specs.declared.operators.Kind.TheVariants.{Xfx, Xfy, Yfx, Fy, Fx, Xf, Yf}
use Rattle.pl_model.specs.declared.operators.Place.{Place}
use Rattle.pl_model.specs.declared.operators.Place.TheVariants.{Prefix, Infix, Postfix}
use Rattle.pl_model.proofs.KeyOrder.{key_order_total}
use Rattle.op_table.proofs.Refusals.{refused_beside, allowed}
use Rattle.source_check.specs.Listings.{operators_of, with_table}
use Rattle.source_check.specs.Checkers.{refuses}

pub beside_refused : (t : OperatorTable) (p : ℕ) (k : Kind) (f : Chars) → p ≤ 1200 → bytes_eq f (codes ",") ≡ false → is_reserved f ≡ false → 0 < p
    → (b : Bool) → stands_beside t f (place_of k) ≡ b → refuses t p k f ≡ b
beside_refused t p k f low no_comma not_reserved positive true e = ap is_some (refused_beside t p k f low no_comma not_reserved positive e)
beside_refused t p k f low no_comma not_reserved positive false e = ap is_some (allowed t p k f low no_comma not_reserved positive e)

-- Names at two places are no one key.
other_place : (o p : Ordering) → is_eq p ≡ false → is_eq (ordering_then o p) ≡ false
other_place Less p e = refl
other_place Equal p e = e
other_place Greater p e = refl

-- An operator at a place puts none beside another one there.
beside_put : (t : OperatorTable) (q : Place) (f g : Chars) (e : Entry) → stands_beside (finite.insert t (f, q) e) g q ≡ stands_beside t g q
beside_put t Prefix f g e = refl
beside_put t Infix f g e =
    ap is_some (get-insert key_order_total t (f, Infix) e (g, Postfix) ∙ ap (λ b. cond b (Some e) (finite.get t (g, Postfix))) (other_place (text_order g f) (nat_cmp 2 1) refl))
beside_put t Postfix f g e =
    ap is_some (get-insert key_order_total t (f, Postfix) e (g, Infix) ∙ ap (λ b. cond b (Some e) (finite.get t (g, Infix))) (other_place (text_order g f) (nat_cmp 1 2) refl))

changed_put : (t : OperatorTable) (n : ℕ) (k : Kind) (f : Chars) → changed t (suc n) k f ≡ finite.insert t (f, place_of k) (suc n, k)
changed_put t n k f = ap (λ b. if b then finite.remove t (f, place_of k) else finite.insert t (f, place_of k) (suc n, k)) (ne_eqb (suc n) 0 (λ same. let e = same in absurd (omega (arith, e))))

-- So a name is refused as before.
refused_then : (t : OperatorTable) (p : ℕ) (k : Kind) (f g : Chars) → refusal (changed t p k f) p (Some k) g ≡ refusal t p (Some k) g
refused_then t zero k f g = refl
refused_then t (suc n) k f g =
    ap (λ (u : OperatorTable). refusal u (suc n) (Some k) g) (changed_put t n k f)
    ∙ ap (λ b.
    if nat_lt highest_priority (suc n) then Some priority
    else if bytes_eq g (codes ",") then Some comma
    else if is_reserved g then Some reserved
    else if nat_lt 0 (suc n) && b then Some infix_postfix
    else None) (beside_put t (place_of k) f g (suc n, k))

pub any_then : (t : OperatorTable) (p : ℕ) (k : Kind) (f : Chars) (fs : List Chars) → list_any (refuses (changed t p k f) p k) fs ≡ list_any (refuses t p k) fs
any_then t p k f [] = refl
any_then t p k f (g ∷ fs) = ap₂ (λ (a b : Bool). a || b) (ap is_some (refused_then t p k f g)) (any_then t p k f fs)

neither : (a b : Bool) → (a || b) ≡ false → (a ≡ false) × (b ≡ false)
neither true b e = absurd (false≢true (sym e))
neither false b e = (refl, e)

none_of : (o : Option Refusal) → is_some o ≡ false → o ≡ None
none_of None e = refl
none_of (Some r) e = absurd (false≢true (sym e))

-- The first of some operators that are not refused.
pub first_taken : (t : OperatorTable) (p : ℕ) (k : Kind) (f : Chars) (fs : List Chars) → list_any (refuses t p k) (f ∷ fs) ≡ false → refusal t p (Some k) f ≡ None
first_taken t p k f fs e = none_of (refusal t p (Some k) f) (neither (refuses t p k f) (list_any (refuses t p k) fs) e).0

-- The others are not refused after it is put into the table.
pub others_taken : (t : OperatorTable) (p : ℕ) (k : Kind) (f : Chars) (fs : List Chars) → list_any (refuses t p k) (f ∷ fs) ≡ false → list_any (refuses (changed t p k f) p k) fs ≡ false
others_taken t p k f fs e = any_then t p k f fs ∙ (neither (refuses t p k f) (list_any (refuses t p k) fs) e).1

pub kind_back : (k : Kind) → kind_of (specifier_of k) ≡ k
kind_back Xfx = refl
kind_back Xfy = refl
kind_back Yfx = refl
kind_back Fy = refl
kind_back Fx = refl
kind_back Xf = refl
kind_back Yf = refl

pub put_first : (t : OperatorTable) (p : ℕ) (k : Kind) (f : Chars) (fs : List Chars) → with_operators (operators_of p k fs) (changed t p k f) ≡ with_operators (operators_of p k (f ∷ fs)) t
put_first t p k f fs = ap (λ (j : Kind). with_operators (operators_of p k fs) (changed t p j f)) (sym (kind_back k))

-- Whether one of them is refused says whether there is an error.
no_error : (t : OperatorTable) (p : ℕ) (k : Kind) (fs : List Chars) → list_any (refuses t p k) fs ≡ false → operators_error t p k fs ≡ None
no_error t p k [] e = refl
no_error t p k (f ∷ fs) e =
    let both = neither (refuses t p k f) (list_any (refuses t p k) fs) e in
    ap (λ (o : Option Refusal). elim o [ None ↦ operators_error t p k fs | Some r ↦ Some (operator_error p f r) ]) (none_of (refusal t p (Some k) f) both.0)
    ∙ no_error t p k fs both.1

error_by : (t : OperatorTable) (p : ℕ) (k : Kind) (f : Chars) (fs : List Chars) (o : Option Refusal)
    → (list_any (refuses t p k) fs ≡ true → is_some (operators_error t p k fs) ≡ true)
    → (is_some o || list_any (refuses t p k) fs) ≡ true
    → is_some (elim o [ None ↦ operators_error t p k fs | Some r ↦ Some (operator_error p f r) ]) ≡ true
error_by t p k f fs None next e = next e
error_by t p k f fs (Some r) next e = refl

some_error : (t : OperatorTable) (p : ℕ) (k : Kind) (fs : List Chars) → list_any (refuses t p k) fs ≡ true → is_some (operators_error t p k fs) ≡ true
some_error t p k [] e = absurd (false≢true e)
some_error t p k (f ∷ fs) e = error_by t p k f fs (refusal t p (Some k) f) (some_error t p k fs) e

pub table_taken : (t : OperatorTable) (p : ℕ) (k : Kind) (fs : List Chars) → list_any (refuses t p k) fs ≡ false → with_table p k fs t (operators_error t p k fs) ≡ with_operators (operators_of p k fs) t
table_taken t p k fs e = ap (with_table p k fs t) (no_error t p k fs e)

table_by : (t : OperatorTable) (p : ℕ) (k : Kind) (fs : List Chars) (o : Option Tree) → is_some o ≡ true → with_table p k fs t o ≡ t
table_by t p k fs None e = absurd (false≢true e)
table_by t p k fs (Some x) e = refl

pub table_refused : (t : OperatorTable) (p : ℕ) (k : Kind) (fs : List Chars) → list_any (refuses t p k) fs ≡ true → with_table p k fs t (operators_error t p k fs) ≡ t
table_refused t p k fs e = table_by t p k fs (operators_error t p k fs) (some_error t p k fs e)

-- One of them is put into the table.
pub step : (t u : OperatorTable) (p : ℕ) (k : Kind) (f : Chars) (fs gs : List Chars)
    → gs ≡ f ∷ fs
    → list_any (refuses t p k) gs ≡ false
    → (refusal t p (Some k) f ≡ None → u ≡ changed t p k f)
    → (list_any (refuses u p k) fs ≡ false) × (with_operators (operators_of p k fs) u ≡ with_operators (operators_of p k gs) t)
step t u p k f fs gs is e made =
    let e₁ : list_any (refuses t p k) (f ∷ fs) ≡ false = sym (ap (list_any (refuses t p k)) is) ∙ e in
    let same : u ≡ changed t p k f = made (first_taken t p k f fs e₁) in (
      ap (λ (v : OperatorTable). list_any (refuses v p k) fs) same ∙ others_taken t p k f fs e₁,
      ap (with_operators (operators_of p k fs)) same ∙ put_first t p k f fs ∙ ap (λ (hs : List Chars). with_operators (operators_of p k hs) t) (sym is),
    )

pub when_none : {P : Type 0} (o : Option Refusal) → IfNone o P → o ≡ None → P
when_none None p e = p
when_none (Some r) p e = absurd (let no : ⊥ = cc in no)
