-- What passes the checks of arguments.
use Rattle.std.proofs.Common.{◌≡◌, ◌⊎◌, inl, inr, ℤ, pos, negsuc, nat_abs, Bool, true, false, ◌&&◌, if◌then◌else◌, ◌<◌, w64, List, [], ◌∷◌, Option, Some, None, refl, sym, ap, ap₂, ◌∙◌, arith}
use Rattle.std.proofs.lemmas.Bool.{false≢true, ltb-true}
use Rattle.std.proofs.lemmas.Int.{to_z-of_z}
use lib.Signed.{lt_z}
use mir.Val.{SFits, of_z, to_z}
use Rattle.std.specs.Prelude.{is_some}
use Rattle.pl_term.specs.Tree.{Tree, var, int, atom, comp}
use Rattle.pl_model.specs.AtomBuiltins.{concatenates, counted_error, sub_atoms}
use Rattle.pl_model.specs.BuiltinRows.{error, one_answer, table}
use Rattle.pl_model.specs.BuiltinRows as defined
use Rattle.pl_model.specs.Checks.{atom_error, bound_error, first_error, text_of_atom}
use Rattle.pl_model.specs.Terms.{is_atom, is_variable}
use Rattle.pl_model.specs.TermBuiltins.{unless}
use Rattle.atom_parts.specs.Joining.{joined_row}
use Rattle.atom_parts.specs.Lined.{lines_in}
use Rattle.atom_parts.specs.Misfits.{concatenation_error, sub_atoms_error}
use Rattle.atom_parts.specs.Parts.{parts_of}
use Rattle.atom_parts.specs.Reading.{IsAtom}
use Rattle.atom_parts.specs.Splits.{splits_of}

-- An error is none that is not there.
pub no_error : (e : Option Tree) (es : List (Option Tree)) → first_error (e ∷ es) ≡ None → (e ≡ None) × (first_error es ≡ None)
no_error None es h = (refl, h)
no_error (Some t) es h = absurd (false≢true (sym (ap is_some h)))

pub is_some_error : (t : Tree) → Some t ≡ None → ⊥
is_some_error t h = false≢true (sym (ap is_some h))

-- What is a variable or an atom, and what is no variable but that.
pub atom_or_variable : (t : Tree) → atom_error t ≡ None → (is_variable t ≡ true) ⊎ IsAtom t
atom_or_variable (var x) h = inl refl
atom_or_variable (int i) h = absurd (is_some_error _ h)
atom_or_variable (atom a) h = inr (a, refl)
atom_or_variable (comp f t ts) h = absurd (is_some_error _ h)

pub bound_atom : (t : Tree) → bound_error t ≡ None → atom_error t ≡ None → IsAtom t
bound_atom (var x) b h = absurd (is_some_error _ b)
bound_atom (int i) b h = absurd (is_some_error _ h)
bound_atom (atom a) b h = (a, refl)
bound_atom (comp f t ts) b h = absurd (is_some_error _ h)

is_one : (t : Tree) → IsAtom t → is_atom t ≡ true
is_one t h = ap is_atom h.1

pub one_is : (t : Tree) → is_atom t ≡ true → IsAtom t
one_is (var x) h = absurd (false≢true h)
one_is (int i) h = absurd (false≢true h)
one_is (atom a) h = (a, refl)
one_is (comp f t ts) h = absurd (false≢true h)

both_true : (x y : Bool) → (x && y) ≡ true → (x ≡ true) × (y ≡ true)
both_true true y h = (refl, h)
both_true false y h = absurd (false≢true h)

-- No lines where there is no table.
pub lines_of_error : (e : Tree) (r : defined.Row) → error e ≡ r → lines_in r ≡ []
lines_of_error e r h = ap lines_in (sym h)

lines_unless_long : (b : Bool) (e : Tree) (us : defined.Row) → lines_in us ≡ [] → lines_in (if b then error e else us) ≡ []
lines_unless_long true e us h = refl
lines_unless_long false e us h = h

-- atom_concat/3
module _ (a b c : Tree) where
  pub concat_faulty : (e : Tree) → concatenation_error a b c ≡ Some e → error e ≡ concatenates a b c
  concat_faulty e h =
      sym
      (ap
      (λ o. unless o
      (if is_atom a && is_atom b then joined_row a b else table (splits_of (text_of_atom c)))) h)

  module _ (none : concatenation_error a b c ≡ None) where
    passed : (if is_atom a && is_atom b then joined_row a b else table (splits_of (text_of_atom c))) ≡ concatenates a b c
    passed = sym (ap (λ o. unless o (if is_atom a && is_atom b then joined_row a b else table (splits_of (text_of_atom c)))) none)

    pub concat_joined : (is_atom a && is_atom b) ≡ true → joined_row a b ≡ concatenates a b c
    concat_joined h = sym (ap (λ x. if x then joined_row a b else table (splits_of (text_of_atom c))) h) ∙ passed

    pub concat_table : (is_atom a && is_atom b) ≡ false → table (splits_of (text_of_atom c)) ≡ concatenates a b c
    concat_table h = sym (ap (λ x. if x then joined_row a b else table (splits_of (text_of_atom c))) h) ∙ passed

    pub concat_no_lines : (is_atom a && is_atom b) ≡ true → lines_in (concatenates a b c) ≡ []
    concat_no_lines h = sym (ap lines_in (concat_joined h)) ∙ lines_unless_long _ _ (one_answer _) refl

    pub concat_both : (is_atom a && is_atom b) ≡ true → IsAtom a × IsAtom b
    concat_both h = let p = both_true (is_atom a) (is_atom b) h in (one_is a p.0, one_is b p.1)

    types : first_error (atom_error a ∷ (atom_error b ∷ (atom_error c ∷ []))) ≡ None
    types =
        (no_error (if is_variable c then first_error (bound_error a ∷ (bound_error b ∷ [])) else None)
        (atom_error a ∷ (atom_error b ∷ (atom_error c ∷ []))) none).1

    later_types : first_error (atom_error b ∷ (atom_error c ∷ [])) ≡ None
    later_types = (no_error (atom_error a) (atom_error b ∷ (atom_error c ∷ [])) types).1

    pub concat_first : atom_error a ≡ None
    concat_first = (no_error (atom_error a) (atom_error b ∷ (atom_error c ∷ [])) types).0

    pub concat_second : atom_error b ≡ None
    concat_second = (no_error (atom_error b) (atom_error c ∷ []) later_types).0

    concat_third : atom_error c ≡ None
    concat_third = (no_error (atom_error c) [] (no_error (atom_error b) (atom_error c ∷ []) later_types).1).0

    pub concat_whole : (is_atom a && is_atom b) ≡ false → IsAtom c
    concat_whole h = go (atom_or_variable c concat_third)
      where
        go : (is_variable c ≡ true) ⊎ IsAtom c → IsAtom c
        go (inr whole) = whole
        go (inl free) =
            let unbound : first_error (bound_error a ∷ (bound_error b ∷ [])) ≡ None =
            sym (ap (λ x. if x then first_error (bound_error a ∷ (bound_error b ∷ [])) else None) free)
            ∙ (no_error (if is_variable c then first_error (bound_error a ∷ (bound_error b ∷ [])) else None)
            (atom_error a ∷ (atom_error b ∷ (atom_error c ∷ []))) none).0 in
            let first = no_error (bound_error a) (bound_error b ∷ []) unbound in
            let second = no_error (bound_error b) [] first.1 in
            absurd
            (false≢true
            (sym h
            ∙ ap₂ (λ x y. x && y) (is_one a (bound_atom a first.0 concat_first)) (is_one b (bound_atom b second.0 concat_second))))

-- sub_atom/5
module _ (a b l f s : Tree) where
  pub sub_faulty : (e : Tree) → sub_atoms_error a b l f s ≡ Some e → error e ≡ sub_atoms a b l f s
  sub_faulty e h = sym (ap (λ o. unless o (table (parts_of (text_of_atom a)))) h)

  module _ (none : sub_atoms_error a b l f s ≡ None) where
    pub sub_table : table (parts_of (text_of_atom a)) ≡ sub_atoms a b l f s
    sub_table = sym (ap (λ o. unless o (table (parts_of (text_of_atom a)))) none)

    abbrev after_whole : List (Option Tree)
    after_whole = counted_error b ∷ (counted_error l ∷ (counted_error f ∷ (atom_error s ∷ [])))

    bound : (bound_error a ≡ None) × (first_error (atom_error a ∷ after_whole) ≡ None)
    bound = no_error (bound_error a) (atom_error a ∷ after_whole) none

    kind : (atom_error a ≡ None) × (first_error after_whole ≡ None)
    kind = no_error (atom_error a) after_whole bound.1

    pub sub_whole : IsAtom a
    sub_whole = bound_atom a bound.0 kind.0

    before : (counted_error b ≡ None) × (first_error (counted_error l ∷ (counted_error f ∷ (atom_error s ∷ []))) ≡ None)
    before = no_error (counted_error b) (counted_error l ∷ (counted_error f ∷ (atom_error s ∷ []))) kind.1

    pub sub_before : counted_error b ≡ None
    sub_before = before.0

    count : (counted_error l ≡ None) × (first_error (counted_error f ∷ (atom_error s ∷ [])) ≡ None)
    count = no_error (counted_error l) (counted_error f ∷ (atom_error s ∷ [])) before.1

    pub sub_count : counted_error l ≡ None
    sub_count = count.0

    after : (counted_error f ≡ None) × (first_error (atom_error s ∷ []) ≡ None)
    after = no_error (counted_error f) (atom_error s ∷ []) count.1

    pub sub_after : counted_error f ≡ None
    sub_after = after.0

    pub sub_part : atom_error s ≡ None
    sub_part = (no_error (atom_error s) [] after.1).0

-- An integer from 0 on.
pub not_below : (i : ℤ) → SFits w64 i → lt_z (to_z w64 (of_z w64 i)) (pos 0) ≡ true → counted_error (int i) ≡ None → ⊥
not_below i fits low h = go i (ap (λ z. lt_z z (pos 0)) (sym (to_z-of_z w64 i fits)) ∙ low) h
  where
    go : (i : ℤ) → lt_z i (pos 0) ≡ true → counted_error (int i) ≡ None → ⊥
    go (pos k) less none = let no : k < 0 = ltb-true k 0 less in omega (arith, no)
    go (negsuc k) less none = is_some_error _ none

pub from_zero : (i : ℤ) → SFits w64 i → lt_z (to_z w64 (of_z w64 i)) (pos 0) ≡ false → i ≡ pos (nat_abs i)
from_zero i fits low = go i (ap (λ z. lt_z z (pos 0)) (sym (to_z-of_z w64 i fits)) ∙ low)
  where
    go : (i : ℤ) → lt_z i (pos 0) ≡ false → i ≡ pos (nat_abs i)
    go (pos k) low = refl
    go (negsuc k) low = absurd (false≢true (sym low))
