-- No change of the operator table touches the comma or makes an operator of a reserved name.
use Rattle.std.proofs.Common.{◌≡◌, ℕ, Bool, true, false, cond, List, [], ◌∷◌, Option, Some, None, refl, sym, ap, subst, ◌∙◌}
use Rattle.std.specs.Prelude.{◌||◌, ◌==◌, bytes_eq, codes, nat_lt, if◌then◌else◌}
use Rattle.std.specs.Ordering.{eq_by_cmp}
use Rattle.std.specs.FinMap as finite
use Rattle.std.specs.FinMap.{get, get-from_entries, get-insert, get-remove}
use Rattle.std.specs.FinMap.Entries.{find}
use Rattle.pl_term.specs.Tree.{Chars}
use Rattle.pl_model.specs.OperatorTable.{Key, Entry, OperatorTable, operator_at, key_order, place_of, opening_rows, opening_table, Refusal, priority, comma, reserved, refusal, changed, is_reserved, highest_priority, IsSound}
use Rattle.pl_model.specs.declared.operators.Kind.{Kind}
use Rattle.pl_model.specs.declared.operators.Place.{Place}
use Rattle.pl_model.specs.declared.operators.Place.TheVariants.{Prefix, Infix, Postfix}
use Rattle.pl_model.proofs.KeyOrder.{key_order_total, key_order_exact}
use Rattle.pl_model.proofs.TableLaws.{opening_sound, changed_sound}
use Rattle.term_writer.specs.ReadingBack.{KeepsNames, Change, after_change, table_after}
use Rattle.std.specs.Ordering.{is_eq}
use Rattle.std.specs.declared.cmp.Ordering.{Ordering}
use Rattle.std.specs.declared.cmp.Ordering.TheVariants.{Less, Equal, Greater}
use Rattle.term_writer.proofs.Bits.{same_text, differ}

equal : (r : Ordering) → is_eq r ≡ true → r ≡ Equal
equal Less e = absurd (differ (sym e))
equal Equal e = refl
equal Greater e = absurd (differ (sym e))

same_key : (q k : Key) → eq_by_cmp key_order q k ≡ true → q ≡ k
same_key q k e = key_order_exact q k (equal (key_order q k) e)

opened : (f : Chars) (p : Place) (o : Option Entry) → find key_order (f, p) opening_rows ≡ o → operator_at opening_table f p ≡ o
opened f p o e = get-from_entries key_order_total opening_rows (f, p) ∙ e

not_opening : (f : Chars) (p : Place) → is_reserved f ≡ true → find key_order (f, p) opening_rows ≡ None
not_opening f p e =
    one (bytes_eq f (codes ".")) (codes ".") refl e (at_all (codes ".") refl refl refl)
    (λ e. one (bytes_eq f (codes "|")) (codes "|") refl e (at_all (codes "|") refl refl refl)
    (λ e. one (bytes_eq f (codes "[]")) (codes "[]") refl e (at_all (codes "[]") refl refl refl)
    (λ e. one (bytes_eq f (codes "{}")) (codes "{}") refl e (at_all (codes "{}") refl refl refl) (λ e. absurd (differ (sym e))))))
  where
    at_all : (g : Chars) → find key_order (g, Prefix) opening_rows ≡ None → find key_order (g, Infix) opening_rows ≡ None → find key_order (g, Postfix) opening_rows ≡ None
        → find key_order (g, p) opening_rows ≡ None
    at_all g a b c = by p a b c where
      by : (q : Place) → find key_order (g, Prefix) opening_rows ≡ None → find key_order (g, Infix) opening_rows ≡ None → find key_order (g, Postfix) opening_rows ≡ None
          → find key_order (g, q) opening_rows ≡ None
      by Prefix a b c = a
      by Infix a b c = b
      by Postfix a b c = c

    one : (t : Bool) (g : Chars) {rest : Bool} → bytes_eq f g ≡ t → (t || rest) ≡ true → find key_order (g, p) opening_rows ≡ None
        → (rest ≡ true → find key_order (f, p) opening_rows ≡ None) → find key_order (f, p) opening_rows ≡ None
    one true g {rest} same e here later = ap (λ h. find key_order (h, p) opening_rows) (same_text f g same) ∙ here
    one false g {rest} same e here later = later e

pub opening_keeps : KeepsNames opening_table
opening_keeps = record {
  comma = opened (codes ",") Infix _ refl;
  no_prefix = opened (codes ",") Prefix _ refl;
  no_postfix = opened (codes ",") Postfix _ refl;
  reserved = λ f p e. opened f p None (not_opening f p e);
}

-- A test that does not refuse.
passed : (b : Bool) (r : Refusal) (rest : Option Refusal) → (if b then Some r else rest) ≡ None → (b ≡ false) × (rest ≡ None)
passed true r rest e = absurd (cc)
passed false r rest e = (refl, e)

module _ (t : OperatorTable) (p : ℕ) (k : Kind) (f : Chars) (allowed : refusal t p (Some k) f ≡ None) where
  not_comma : bytes_eq f (codes ",") ≡ false
  not_comma = (passed (bytes_eq f (codes ",")) comma _ (passed (nat_lt highest_priority p) priority _ allowed).1).0

  not_reserved : is_reserved f ≡ false
  not_reserved = (passed (is_reserved f) reserved _ (passed (bytes_eq f (codes ",")) comma _ (passed (nat_lt highest_priority p) priority _ allowed).1).1).0

  other_key : (g : Chars) (q : Place) → (g ≡ f → ⊥) → eq_by_cmp key_order (g, q) (f, place_of k) ≡ false
  other_key g q other = by (eq_by_cmp key_order (g, q) (f, place_of k)) refl where
    by : (b : Bool) → eq_by_cmp key_order (g, q) (f, place_of k) ≡ b → b ≡ false
    by true e = absurd (other (ap (λ (x : Key). x.0) (same_key (g, q) (f, place_of k) e)))
    by false e = refl

  -- Another name is what it was.
  elsewhere : (g : Chars) (q : Place) → (g ≡ f → ⊥) → operator_at (changed t p k f) g q ≡ operator_at t g q
  elsewhere g q other = by (p == 0) where
    away : eq_by_cmp key_order (g, q) (f, place_of k) ≡ false
    away = other_key g q other

    by : (b : Bool) → get (if b then finite.remove t (f, place_of k) else finite.insert t (f, place_of k) (p, k)) (g, q) ≡ get t (g, q)
    by true = get-remove key_order_total t (f, place_of k) (g, q) ∙ ap (λ b. cond b None (get t (g, q))) away
    by false = get-insert key_order_total t (f, place_of k) (p, k) (g, q) ∙ ap (λ b. cond b (Some (p, k)) (get t (g, q))) away

  no_comma : codes "," ≡ f → ⊥
  no_comma same = differ (subst (λ g. bytes_eq g (codes ",") ≡ false) (sym same) not_comma)

  unreserved : (g : Chars) → is_reserved g ≡ true → g ≡ f → ⊥
  unreserved g is same = differ (sym is ∙ ap is_reserved same ∙ not_reserved)

  pub changed_keeps : KeepsNames t → KeepsNames (changed t p k f)
  changed_keeps kept = record {
    comma = elsewhere (codes ",") Infix no_comma ∙ kept.comma;
    no_prefix = elsewhere (codes ",") Prefix no_comma ∙ kept.no_prefix;
    no_postfix = elsewhere (codes ",") Postfix no_comma ∙ kept.no_postfix;
    reserved = λ g q is. elsewhere g q (unreserved g is) ∙ kept.reserved g q is;
  }

-- Each table that changes can make.
pub record Keeps (t : OperatorTable) : Type 0 where
  pub sound : IsSound t
  pub names : KeepsNames t

keeps_by : (t : OperatorTable) (c : Change) (r : Option Refusal) → Keeps t → refusal t c.0 (Some c.1) c.2 ≡ r → Keeps (after_change t c r)
keeps_by t c None kept e = record { sound = changed_sound t c.0 c.1 c.2 kept.sound e; names = changed_keeps t c.0 c.1 c.2 e kept.names }
keeps_by t c (Some r) kept e = kept

pub keeps : (cs : List Change) → Keeps (table_after cs)
keeps [] = record { sound = opening_sound; names = opening_keeps }
keeps (c ∷ cs) = let t = table_after cs in keeps_by t c (refusal t c.0 (Some c.1) c.2) (keeps cs) refl

pub change_keeps : (t : OperatorTable) (p : ℕ) (k : Kind) (f : Chars) → KeepsNames t → refusal t p (Some k) f ≡ None → KeepsNames (changed t p k f)
change_keeps t p k f kept allowed = changed_keeps t p k f allowed kept
