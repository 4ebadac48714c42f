-- Checks of arguments, by the definition.
use Rattle.std.proofs.Common.{◌≡◌, ℕ, Bool, true, false, cond, not, ◌+◌, suc, ◌<◌, ◌||◌, ◌==◌, List, [], ◌∷◌, length, get_or, map, drop, drop-cons, arith, below_more, Option, Some, None, IsSome, is_some, pos, negsuc, codes, refl, sym, ap, ap₂, ◌∙◌}
use Rattle.std.specs.List.{All, list_any}
use Rattle.std.specs.Option.{option_map}
use Rattle.std.specs.Str.{bytes_eq}
use Rattle.std.proofs.lemmas.List.{get_or_default}
use Rattle.std.proofs.lemmas.List.Elements.{All-get_or, All-head}
use Rattle.pl_term.specs.Tree.{Chars, Tree, var, int, atom, comp, none, more}
use Rattle.pl_model.specs.Balls.{instantiation_error, type_error, uninstantiation_error}
use Rattle.pl_model.specs.Checks.{atom_error, bound_error, callable_error, error_if, first_error, integer_error, negative_error}
use Rattle.pl_model.specs.ErrorTerms.{domain_error, permission_error}
use Rattle.pl_model.specs.Flags as flags
use Rattle.pl_model.specs.SharedBuiltins.{fixed_error, flag_error, is_changeable, priority_error, specifier_error, value_error}
use Rattle.pl_model.specs.Terms.{is_variable}
use Rattle.pl_model.specs.declared.operators.Kind.{Kind}
use Rattle.atom_api.specs.Fixed.{fixed}
use Rattle.atom_api.specs.FixedNames.{chars_name, codes_name, double_quotes_name, error_name, fail_name, unknown_name}
use Rattle.atom_api.specs.FixedNames as fixed_names
use Rattle.atom_api.specs.Names.{Names}
use Rattle.term_store.specs.declared.words.Place.{Place}
use Rattle.term_store.specs.Contents.{Contents, term_at}
use Rattle.world_builtins.specs.Naming.{atoms_in}
use Rattle.world_builtins.specs.Spelling.{reads, spelled, text_of}
use Rattle.builtin_rows.specs.Kinds.{passes}
use Rattle.builtin_rows.specs.Lists.{IsNaming}
use Rattle.builtin_rows.proofs.Listing.{named_is}
use Rattle.shared_builtins.specs.declared.checks.Check.{Check}
use Rattle.shared_builtins.specs.declared.checks.Check.TheVariants.{Bound, Unbound, Atom, Integer, Callable, Natural, Priority, Specifier, Flag, Changeable, Value}
use Rattle.shared_builtins.specs.declared.faults.Fault.{Fault}
use Rattle.shared_builtins.specs.declared.faults.Fault.TheVariants as faults
use Rattle.shared_builtins.specs.declared.kinds.TheConstants.{ATOM, BOUND, CALLABLE, INTEGER, VARIABLE}
use Rattle.shared_builtins.specs.Checks.{IsCheckHeld, IsCheckIn, check_error, check_fault, check_passes, flag_in, natural_in, priority_in, specifier_in, unfixed_in, value_in}
use Rattle.shared_builtins.specs.Faults.{IsFaultHeld, IsFaultIn, fault_term, or_empty}
use Rattle.shared_builtins.specs.Flags.{is_value}
use Rattle.shared_builtins.proofs.FixedNames.{atom_is, callable_is, chars_is, codes_is, domain_error_is, double_quotes_is, error_is, fail_is, flag_is, integer_is, modify_is, not_less_than_zero_is, operator_priority_is, operator_specifier_is, prolog_flag_is, type_error_is, uninstantiation_error_is, unknown_is}
use Rattle.shared_builtins.proofs.Named.{fixed_told, set_told, specifier_told}

-- Error terms of faults

pub is_fixed_name : (k : ℕ) (t : Chars) → fixed k ≡ Some t → IsSome (fixed k)
is_fixed_name k t e = ap is_some e

pub for_term : (m : Names) (s : Contents) (p : Place) (e k : ℕ) (x y : Chars) → fixed e ≡ Some x → fixed k ≡ Some y
    → comp x (atom y) (more (reads m s p) none) ≡ fault_term m s (faults.For e k p)
for_term m s p e k x y f g = sym (ap₂ (λ a b. comp (or_empty a) (atom (or_empty b)) (more (reads m s p) none)) f g)

of_term : (m : Names) (s : Contents) (p : Place) (e : ℕ) (x : Chars) → fixed e ≡ Some x → comp x (reads m s p) none ≡ fault_term m s (faults.Of e p)
of_term m s p e x f = sym (ap (λ a. comp (or_empty a) (reads m s p) none) f)

not_permitted_term : (m : Names) (s : Contents) (p : Place) (a k : ℕ) (x y : Chars) → fixed a ≡ Some x → fixed k ≡ Some y
    → permission_error x y (reads m s p) ≡ fault_term m s (faults.NotPermitted a k p)
not_permitted_term m s p a k x y f g = sym (ap₂ (λ b c. permission_error (or_empty b) (or_empty c) (reads m s p)) f g)

-- The error, where the test fails, is that of the fault.
abbrev unless_passed : Bool → Tree → Option Tree
unless_passed b e = cond b None (Some e)

as_fault : (m : Names) (s : Contents) (b : Bool) (e : Tree) (f : Fault) → e ≡ fault_term m s f
    → unless_passed b e ≡ option_map (fault_term m s) (cond b None (Some f))
as_fault m s true e f is = refl
as_fault m s false e f is = ap Some is

-- Kinds, by the term over numbers of atoms

bound_checked : (g : Chars → Chars) (t : Tree) → bound_error (spelled g t) ≡ unless_passed (passes BOUND t) instantiation_error
bound_checked g (var x) = refl
bound_checked g (int i) = refl
bound_checked g (atom a) = refl
bound_checked g (comp f u us) = refl

unbound_checked : (g : Chars → Chars) (t : Tree) → error_if (not (is_variable (spelled g t))) (uninstantiation_error (spelled g t)) ≡ unless_passed (passes VARIABLE t) (uninstantiation_error (spelled g t))
unbound_checked g (var x) = refl
unbound_checked g (int i) = refl
unbound_checked g (atom a) = refl
unbound_checked g (comp f u us) = refl

atom_checked : (g : Chars → Chars) (t : Tree) → atom_error (spelled g t) ≡ unless_passed (passes ATOM t) (type_error (codes "atom") (spelled g t))
atom_checked g (var x) = refl
atom_checked g (int i) = refl
atom_checked g (atom a) = refl
atom_checked g (comp f u us) = refl

integer_checked : (g : Chars → Chars) (t : Tree) → integer_error (spelled g t) ≡ unless_passed (passes INTEGER t) (type_error (codes "integer") (spelled g t))
integer_checked g (var x) = refl
integer_checked g (int i) = refl
integer_checked g (atom a) = refl
integer_checked g (comp f u us) = refl

callable_checked : (g : Chars → Chars) (t : Tree) → callable_error (spelled g t) ≡ unless_passed (passes CALLABLE t) (type_error (codes "callable") (spelled g t))
callable_checked g (var x) = refl
callable_checked g (int i) = refl
callable_checked g (atom a) = refl
callable_checked g (comp f u us) = refl

natural_checked : (g : Chars → Chars) (t : Tree) → negative_error (spelled g t) ≡ unless_passed (natural_in t) (domain_error (codes "not_less_than_zero") (spelled g t))
natural_checked g (var x) = refl
natural_checked g (int (pos n)) = refl
natural_checked g (int (negsuc n)) = refl
natural_checked g (atom a) = refl
natural_checked g (comp f u us) = refl

priority_checked : (g : Chars → Chars) (t : Tree) → priority_error (spelled g t) ≡ unless_passed (priority_in t) (domain_error (codes "operator_priority") (spelled g t))
priority_checked g (var x) = refl
priority_checked g (int (pos n)) = refl
priority_checked g (int (negsuc n)) = refl
priority_checked g (atom a) = refl
priority_checked g (comp f u us) = refl

-- Names, where the atoms are held

module _ (m : Names) (n : IsNaming m) where
  held_name : (a : ℕ) → All (λ k. IsSome (m k)) (atoms_in (atom (a ∷ []))) → IsSome (m a)
  held_name a h = All-head (λ k. IsSome (m k)) a [] h

  specifier_checked : (t : Tree) → All (λ a. IsSome (m a)) (atoms_in t)
      → specifier_error (spelled (text_of m) t) ≡ unless_passed (specifier_in t) (domain_error (codes "operator_specifier") (spelled (text_of m) t))
  specifier_checked (var x) h = refl
  specifier_checked (int i) h = refl
  specifier_checked (atom []) h = refl
  specifier_checked (atom (a ∷ [])) h =
      ap (λ (o : Option Kind). unless_passed (is_some o) (domain_error (codes "operator_specifier") (atom (text_of m (a ∷ [])))))
      (specifier_told m n a (held_name a h))
  specifier_checked (atom (a ∷ (b ∷ bs))) h = refl
  specifier_checked (comp f u us) h = refl

  -- A test that is turned twice.
  turned_twice : (b : Bool) (e : Tree) → error_if (not b) e ≡ unless_passed b e
  turned_twice true e = refl
  turned_twice false e = refl

  turned : (b : Bool) (e : Tree) → error_if b e ≡ unless_passed (not b) e
  turned true e = refl
  turned false e = refl

  flag_checked : (t : Tree) → All (λ a. IsSome (m a)) (atoms_in t)
      → flag_error (spelled (text_of m) t) ≡ unless_passed (flag_in t) (domain_error (codes "prolog_flag") (spelled (text_of m) t))
  flag_checked (var x) h = refl
  flag_checked (int i) h = refl
  flag_checked (atom []) h = refl
  flag_checked (atom (a ∷ [])) h =
      let e = domain_error (codes "prolog_flag") (atom (text_of m (a ∷ []))) in
      turned_twice (flags.is_fixed_flag (text_of m (a ∷ [])) || is_changeable (text_of m (a ∷ []))) e
      ∙ ap₂ (λ b c. unless_passed (b || c) e) (fixed_told m n a (held_name a h)) (set_told m n a (held_name a h))
  flag_checked (atom (a ∷ (b ∷ bs))) h = refl
  flag_checked (comp f u us) h = refl

  fixed_checked : (t : Tree) → All (λ a. IsSome (m a)) (atoms_in t)
      → fixed_error (spelled (text_of m) t) ≡ unless_passed (unfixed_in t) (permission_error (codes "modify") (codes "flag") (spelled (text_of m) t))
  fixed_checked (var x) h = refl
  fixed_checked (int i) h = refl
  fixed_checked (atom []) h = refl
  fixed_checked (atom (a ∷ [])) h =
      let e = permission_error (codes "modify") (codes "flag") (atom (text_of m (a ∷ []))) in
      turned (flags.is_fixed_flag (text_of m (a ∷ []))) e ∙ ap (λ b. unless_passed (not b) e) (fixed_told m n a (held_name a h))
  fixed_checked (atom (a ∷ (b ∷ bs))) h = refl
  fixed_checked (comp f u us) h = refl

  -- Values of flags
  among : (y : Chars) (b c : Bool) → list_any (bytes_eq y) (cond b (codes "codes" ∷ codes "chars" ∷ codes "atom" ∷ []) (cond c (codes "error" ∷ codes "fail" ∷ []) []))
      ≡ cond b (bytes_eq y (codes "codes") || (bytes_eq y (codes "chars") || (bytes_eq y (codes "atom") || false)))
      (cond c (bytes_eq y (codes "error") || (bytes_eq y (codes "fail") || false)) false)
  among y true c = refl
  among y false true = refl
  among y false false = refl

  or_false : (b : Bool) → (b || false) ≡ b
  or_false true = refl
  or_false false = refl

  value_told : (f v : ℕ) → IsSome (m f) → IsSome (m v) → flags.is_flag_value (text_of m (f ∷ [])) (text_of m (v ∷ [])) ≡ is_value f v
  value_told f v hf hv =
      let x = text_of m (f ∷ []) in
      let y = text_of m (v ∷ []) in
      among y (bytes_eq x (codes "double_quotes")) (bytes_eq x (codes "unknown"))
      ∙ ap₂ (λ b c. cond b (bytes_eq y (codes "codes") || (bytes_eq y (codes "chars") || (bytes_eq y (codes "atom") || false)))
      (cond c (bytes_eq y (codes "error") || (bytes_eq y (codes "fail") || false)) false))
      (named_is m n f double_quotes_name (codes "double_quotes") double_quotes_is hf) (named_is m n f unknown_name (codes "unknown") unknown_is hf)
      ∙ ap₂ (λ p q. cond (f == double_quotes_name) p (cond (f == unknown_name) q false))
      (ap₂ (λ b c. b || (c || (bytes_eq y (codes "atom") || false))) (named_is m n v codes_name (codes "codes") codes_is hv) (named_is m n v chars_name (codes "chars") chars_is hv)
      ∙ ap (λ b. (v == codes_name) || ((v == chars_name) || b)) (or_false (bytes_eq y (codes "atom")) ∙ named_is m n v fixed_names.atom_name (codes "atom") atom_is hv))
      (ap₂ (λ b c. b || (c || false)) (named_is m n v error_name (codes "error") error_is hv) (named_is m n v fail_name (codes "fail") fail_is hv)
      ∙ ap (λ b. (v == error_name) || b) (or_false (v == fail_name)))

  no_flag : (x y : Chars) → bytes_eq x (codes "double_quotes") ≡ false → bytes_eq x (codes "unknown") ≡ false → flags.is_flag_value x y ≡ false
  no_flag x y a b = among y (bytes_eq x (codes "double_quotes")) (bytes_eq x (codes "unknown")) ∙ ap₂ (λ p q. cond p (bytes_eq y (codes "codes") || (bytes_eq y (codes "chars") || (bytes_eq y (codes "atom") || false)))
      (cond q (bytes_eq y (codes "error") || (bytes_eq y (codes "fail") || false)) false)) a b

  -- An atom that is none has no value's text.
  no_value : (f : Chars) (y : Chars) → bytes_eq y (codes "codes") ≡ false → bytes_eq y (codes "chars") ≡ false → bytes_eq y (codes "atom") ≡ false
      → bytes_eq y (codes "error") ≡ false → bytes_eq y (codes "fail") ≡ false → flags.is_flag_value f y ≡ false
  no_value f y p q r s t =
      among y (bytes_eq f (codes "double_quotes")) (bytes_eq f (codes "unknown"))
      ∙ ap₂ (λ a b. cond (bytes_eq f (codes "double_quotes")) (a || (b || (bytes_eq y (codes "atom") || false)))
      (cond (bytes_eq f (codes "unknown")) (bytes_eq y (codes "error") || (bytes_eq y (codes "fail") || false)) false)) p q
      ∙ ap₂ (λ a b. cond (bytes_eq f (codes "double_quotes")) (a || false)
      (cond (bytes_eq f (codes "unknown")) (b || (bytes_eq y (codes "fail") || false)) false)) r s
      ∙ ap (λ a. cond (bytes_eq f (codes "double_quotes")) false (cond (bytes_eq f (codes "unknown")) (a || false) false)) t
      ∙ none_at (bytes_eq f (codes "double_quotes")) (bytes_eq f (codes "unknown"))
    where
      none_at : (b c : Bool) → cond b false (cond c false false) ≡ false
      none_at true c = refl
      none_at false true = refl
      none_at false false = refl

  abbrev no_value_error : Tree → Tree → Tree
  no_value_error f v = domain_error (codes "flag_value") (comp (codes "+") f (more v none))

  value_checked : (f v : Tree) → All (λ a. IsSome (m a)) (atoms_in f) → All (λ a. IsSome (m a)) (atoms_in v)
      → value_error (spelled (text_of m) f) (spelled (text_of m) v) ≡ unless_passed (value_in f v) (no_value_error (spelled (text_of m) f) (spelled (text_of m) v))
  value_checked (var x) (var y) hf hv = refl
  value_checked (var x) (int i) hf hv = refl
  value_checked (var x) (atom b) hf hv = refl
  value_checked (var x) (comp g u us) hf hv = refl
  value_checked (int x) (var y) hf hv = refl
  value_checked (int x) (int i) hf hv = refl
  value_checked (int x) (atom b) hf hv = refl
  value_checked (int x) (comp g u us) hf hv = refl
  value_checked (comp x y z) (var k) hf hv = refl
  value_checked (comp x y z) (int i) hf hv = refl
  value_checked (comp x y z) (atom b) hf hv = refl
  value_checked (comp x y z) (comp g u us) hf hv = refl
  value_checked (atom []) (var y) hf hv = refl
  value_checked (atom []) (int i) hf hv = refl
  value_checked (atom []) (atom b) hf hv = refl
  value_checked (atom []) (comp g u us) hf hv = refl
  value_checked (atom (a ∷ (c ∷ cs))) (var y) hf hv = refl
  value_checked (atom (a ∷ (c ∷ cs))) (int i) hf hv = refl
  value_checked (atom (a ∷ (c ∷ cs))) (atom b) hf hv = refl
  value_checked (atom (a ∷ (c ∷ cs))) (comp g u us) hf hv = refl
  value_checked (atom (a ∷ [])) (var y) hf hv = refl
  value_checked (atom (a ∷ [])) (int i) hf hv = refl
  value_checked (atom (a ∷ [])) (comp g u us) hf hv = refl
  value_checked (atom (a ∷ [])) (atom []) hf hv =
      let e = no_value_error (atom (text_of m (a ∷ []))) (atom (text_of m [])) in
      ap (λ b. error_if (not b) e) (no_value (text_of m (a ∷ [])) (text_of m []) refl refl refl refl refl)
  value_checked (atom (a ∷ [])) (atom (b ∷ (c ∷ cs))) hf hv =
      let e = no_value_error (atom (text_of m (a ∷ []))) (atom (text_of m (b ∷ (c ∷ cs)))) in
      ap (λ d. error_if (not d) e) (no_value (text_of m (a ∷ [])) (text_of m (b ∷ (c ∷ cs))) refl refl refl refl refl)
  value_checked (atom (a ∷ [])) (atom (b ∷ [])) hf hv =
      let e = no_value_error (atom (text_of m (a ∷ []))) (atom (text_of m (b ∷ []))) in
      turned_twice (flags.is_flag_value (text_of m (a ∷ [])) (text_of m (b ∷ []))) e
      ∙ ap (λ d. unless_passed d e) (value_told a b (held_name a hf) (held_name b hv))

  -- The error of a check.
  pub check_told : (s : Contents) (k : Check) → IsCheckHeld m s k
      → check_error (reads m s) k ≡ option_map (fault_term m s) (cond (check_passes s k) None (Some (check_fault k)))
  check_told s (Bound p) h = bound_checked (text_of m) (term_at s p) ∙ as_fault m s (check_passes s (Bound p)) instantiation_error faults.Unbound refl
  check_told s (Unbound p) h =
      unbound_checked (text_of m) (term_at s p)
      ∙ as_fault m s (check_passes s (Unbound p)) (uninstantiation_error (reads m s p)) (check_fault (Unbound p)) (of_term m s p 180 (codes "uninstantiation_error") uninstantiation_error_is)
  check_told s (Atom p) h =
      atom_checked (text_of m) (term_at s p)
      ∙ as_fault m s (check_passes s (Atom p)) (type_error (codes "atom") (reads m s p)) (check_fault (Atom p)) (for_term m s p 177 45 (codes "type_error") (codes "atom") type_error_is atom_is)
  check_told s (Integer p) h =
      integer_checked (text_of m) (term_at s p)
      ∙ as_fault m s (check_passes s (Integer p)) (type_error (codes "integer") (reads m s p)) (check_fault (Integer p)) (for_term m s p 177 108 (codes "type_error") (codes "integer") type_error_is integer_is)
  check_told s (Callable p) h =
      callable_checked (text_of m) (term_at s p)
      ∙ as_fault m s (check_passes s (Callable p)) (type_error (codes "callable") (reads m s p)) (check_fault (Callable p)) (for_term m s p 177 54 (codes "type_error") (codes "callable") type_error_is callable_is)
  check_told s (Natural p) h =
      natural_checked (text_of m) (term_at s p)
      ∙ as_fault m s (check_passes s (Natural p)) (domain_error (codes "not_less_than_zero") (reads m s p)) (check_fault (Natural p)) (for_term m s p 77 131 (codes "domain_error") (codes "not_less_than_zero") domain_error_is not_less_than_zero_is)
  check_told s (Priority p) h =
      priority_checked (text_of m) (term_at s p)
      ∙ as_fault m s (check_passes s (Priority p)) (domain_error (codes "operator_priority") (reads m s p)) (check_fault (Priority p)) (for_term m s p 77 138 (codes "domain_error") (codes "operator_priority") domain_error_is operator_priority_is)
  check_told s (Specifier p) h =
      specifier_checked (term_at s p) h
      ∙ as_fault m s (check_passes s (Specifier p)) (domain_error (codes "operator_specifier") (reads m s p)) (check_fault (Specifier p)) (for_term m s p 77 139 (codes "domain_error") (codes "operator_specifier") domain_error_is operator_specifier_is)
  check_told s (Flag p) h =
      flag_checked (term_at s p) h
      ∙ as_fault m s (check_passes s (Flag p)) (domain_error (codes "prolog_flag") (reads m s p)) (check_fault (Flag p)) (for_term m s p 77 147 (codes "domain_error") (codes "prolog_flag") domain_error_is prolog_flag_is)
  check_told s (Changeable p) h =
      fixed_checked (term_at s p) h
      ∙ as_fault m s (check_passes s (Changeable p)) (permission_error (codes "modify") (codes "flag") (reads m s p)) (check_fault (Changeable p)) (not_permitted_term m s p 125 91 (codes "modify") (codes "flag") modify_is flag_is)
  check_told s (Value f v) h =
      value_checked (term_at s f) (term_at s v) h.0 h.1
      ∙ as_fault m s (check_passes s (Value f v)) (no_value_error (reads m s f) (reads m s v)) (check_fault (Value f v)) refl

-- What is refused stands in the store, and its atoms are held.
pub check_inside : (s : Contents) (k : Check) → IsCheckIn s k → IsFaultIn s (check_fault k)
check_inside s (Bound p) h = tt
check_inside s (Unbound p) h = (is_fixed_name 180 (codes "uninstantiation_error") uninstantiation_error_is, h)
check_inside s (Atom p) h = (is_fixed_name 177 (codes "type_error") type_error_is, (is_fixed_name 45 (codes "atom") atom_is, h))
check_inside s (Integer p) h = (is_fixed_name 177 (codes "type_error") type_error_is, (is_fixed_name 108 (codes "integer") integer_is, h))
check_inside s (Callable p) h = (is_fixed_name 177 (codes "type_error") type_error_is, (is_fixed_name 54 (codes "callable") callable_is, h))
check_inside s (Natural p) h = (is_fixed_name 77 (codes "domain_error") domain_error_is, (is_fixed_name 131 (codes "not_less_than_zero") not_less_than_zero_is, h))
check_inside s (Priority p) h = (is_fixed_name 77 (codes "domain_error") domain_error_is, (is_fixed_name 138 (codes "operator_priority") operator_priority_is, h))
check_inside s (Specifier p) h = (is_fixed_name 77 (codes "domain_error") domain_error_is, (is_fixed_name 139 (codes "operator_specifier") operator_specifier_is, h))
check_inside s (Flag p) h = (is_fixed_name 77 (codes "domain_error") domain_error_is, (is_fixed_name 147 (codes "prolog_flag") prolog_flag_is, h))
check_inside s (Changeable p) h = (is_fixed_name 125 (codes "modify") modify_is, (is_fixed_name 91 (codes "flag") flag_is, h))
check_inside s (Value f v) h = h

pub check_held : (m : Names) (s : Contents) (k : Check) → IsCheckHeld m s k → IsFaultHeld m s (check_fault k)
check_held m s (Bound p) h = tt
check_held m s (Unbound p) h = h
check_held m s (Atom p) h = h
check_held m s (Integer p) h = h
check_held m s (Callable p) h = h
check_held m s (Natural p) h = h
check_held m s (Priority p) h = h
check_held m s (Specifier p) h = h
check_held m s (Flag p) h = h
check_held m s (Changeable p) h = h
check_held m s (Value f v) h = h

-- Checks in their order

pub one_more_passed : (s : Contents) (ks : List Check) (i : ℕ) (e : Check) → i < length ks → check_passes s (get_or ks i e) ≡ true
    → ((k : ℕ) (d : Check) → k < i → check_passes s (get_or ks k d) ≡ true) → (k : ℕ) (d : Check) → k < i + 1 → check_passes s (get_or ks k d) ≡ true
one_more_passed s ks i e lt here before k d below =
    below_more (λ j. check_passes s (get_or ks j d) ≡ true) i (λ j lt. before j d lt) (ap (check_passes s) (get_or_default ks i d e lt) ∙ here) k below

module _ (m : Names) (n : IsNaming m) (s : Contents) (ks : List Check) (held : All (IsCheckHeld m s) ks) where
  abbrev errors_from : ℕ → Option Tree
  errors_from i = first_error (map (check_error (reads m s)) (drop i ks))

  here_told : (i : ℕ) (d : Check) (b : Bool) → i < length ks → check_passes s (get_or ks i d) ≡ b
      → errors_from i ≡ first_error (option_map (fault_term m s) (cond b None (Some (check_fault (get_or ks i d)))) ∷ map (check_error (reads m s)) (drop (suc i) ks))
  here_told i d b lt is =
      ap (λ xs. first_error (map (check_error (reads m s)) xs)) (drop-cons ks i d lt)
      ∙ ap (λ o. first_error (o ∷ map (check_error (reads m s)) (drop (suc i) ks)))
      (check_told m n s (get_or ks i d) (All-get_or (IsCheckHeld m s) ks i d lt held)
      ∙ ap (λ b. option_map (fault_term m s) (cond b None (Some (check_fault (get_or ks i d))))) is)

  pub check_passed : (i : ℕ) (d : Check) → i < length ks → check_passes s (get_or ks i d) ≡ true → errors_from i ≡ errors_from (i + 1)
  check_passed i d lt is = let up : suc i ≡ i + 1 = omega arith in here_told i d true lt is ∙ ap errors_from up

  pub check_failed : (i : ℕ) (d : Check) (f : Fault) → i < length ks → check_passes s (get_or ks i d) ≡ false → f ≡ check_fault (get_or ks i d)
      → errors_from i ≡ Some (fault_term m s f)
  check_failed i d f lt is e = here_told i d false lt is ∙ ap (λ g. Some (fault_term m s g)) (sym e)
