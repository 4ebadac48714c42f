-- char_code/2 by what stands at its arguments.
use Rattle.std.proofs.Common.{◌≡◌, ℕ, Bool, true, false, if◌then◌else◌, [], ◌∷◌, Option, Some, None, refl, sym, ap, ap₂, subst, ◌∙◌}
use Rattle.pl_term.specs.Tree.{Tree, var}
use Rattle.pl_model.specs.BuiltinRows as defined
use Rattle.pl_model.specs.BuiltinRows.{error, one_answer}
use Rattle.pl_model.specs.Balls.{instantiation_error}
use Rattle.pl_model.specs.Checks.{error_if, first_error}
use Rattle.pl_model.specs.Terms.{is_variable}
use Rattle.pl_model.specs.TermBuiltins.{two, unless}
use Rattle.atom_api.specs.Names.{Names}
use Rattle.term_store.specs.Contents.{Contents}
use Rattle.builtin_atom.specs.declared.forms.Fault.{Fault}
use Rattle.builtin_atom.specs.declared.forms.Fault.TheVariants.{NoCharacter, NoCode, NoInteger, Unbound}
use Rattle.builtin_atom.specs.Forms.{IsBound, IsFaultOf, error_of}
use Rattle.pl_model.specs.AtomBuiltins.{as_character, character_error, code_error, coded_row, codes_character, number}

-- By the checks of both arguments.
abbrev checked : Tree → Tree → Bool → Option Tree → Bool → Option Tree → defined.Row
checked c n b e d f =
    unless
    (first_error ((if b then error_if d instantiation_error else None) ∷ (if b then None else e) ∷ (if d then None else f) ∷ []))
    (coded_row c n)

by_checks : (c n : Tree) (b d : Bool) (e f : Option Tree) → is_variable c ≡ b → is_variable n ≡ d → character_error c ≡ e → code_error n ≡ f
    → codes_character c n ≡ checked c n b e d f
by_checks c n b d e f cb nd ce nf =
    ap₂ (λ x y. checked c n x y (is_variable n) (code_error n)) cb ce ∙ ap₂ (λ x y. checked c n b e x y) nd nf

pub both_unbound : (c n : Tree) (x y : ℕ) → c ≡ var x → n ≡ var y → error instantiation_error ≡ codes_character c n
both_unbound c n x y e f = sym (ap₂ codes_character e f)

module _ (c n : Tree) (x : ℕ) (is : c ≡ var x) where
  pub bad_code : (e : Tree) → is_variable n ≡ false → code_error n ≡ Some e → error e ≡ codes_character c n
  bad_code e bound bad = sym (ap (λ u. codes_character u n) is ∙ by_checks (var x) n true false (Some instantiation_error) (Some e) refl bound refl bad)

  pub of_code : (k : ℕ) → n ≡ number k → code_error n ≡ None → one_answer (two (as_character k) n) ≡ codes_character c n
  of_code k num good =
      sym
      (ap₂ codes_character is num
      ∙ by_checks (var x) (number k) true false (Some instantiation_error) None refl refl refl (ap code_error (sym num) ∙ good)
      ∙ ap (λ u. one_answer (two (as_character k) u)) (sym num))

pub bad_character : (c n e : Tree) → is_variable c ≡ false → character_error c ≡ Some e → error e ≡ codes_character c n
bad_character c n e bound bad = sym (by_checks c n false (is_variable n) (Some e) (code_error n) bound refl bad refl)

module _ (c n : Tree) (k : ℕ) (is : c ≡ as_character k) where
  pub code_any : (y : ℕ) → n ≡ var y → one_answer (two c (number k)) ≡ codes_character c n
  code_any y e = ap (λ u. one_answer (two u (number k))) is ∙ sym (ap₂ codes_character is e)

  pub code_bad : (e : Tree) → is_variable n ≡ false → code_error n ≡ Some e → error e ≡ codes_character c n
  code_bad e bound bad = sym (ap (λ u. codes_character u n) is ∙ by_checks (as_character k) n false false None (Some e) refl bound refl bad)

  pub code_given : (d : ℕ) → n ≡ number d → code_error n ≡ None → one_answer (two c (number k)) ≡ codes_character c n
  code_given d num good =
      ap (λ u. one_answer (two u (number k))) is
      ∙ sym
      (ap₂ codes_character is num
      ∙ by_checks (as_character k) (number d) false false None None refl refl refl (ap code_error (sym num) ∙ good))

  pub code_same : (d : ℕ) → n ≡ number d → code_error n ≡ None → k ≡ d → one_answer (two c n) ≡ codes_character c n
  code_same d num good same = ap (λ u. one_answer (two c u)) (num ∙ ap number (sym same)) ∙ code_given d num good

-- The second argument is at fault, and the first one is a variable.
pub bad_or_unbound : (m : Names) (s : Contents) (c n : Tree) (f : Fault) (x : ℕ) → c ≡ var x → code_error n ≡ Some (error_of m s f) → IsFaultOf n f
    → error (error_of m s f) ≡ codes_character c n
bad_or_unbound m s c n Unbound x is bad of = both_unbound c n x of.0 is of.1
bad_or_unbound m s c n (NoCharacter p) x is bad of = bad_code c n x is (error_of m s (NoCharacter p)) of bad
bad_or_unbound m s c n (NoInteger p) x is bad of = bad_code c n x is (error_of m s (NoInteger p)) of bad
bad_or_unbound m s c n NoCode x is bad of = bad_code c n x is (error_of m s NoCode) of bad

-- An argument is at fault, and is bound.
pub bound_by : (t : Tree) (f : Fault) → IsBound f → IsFaultOf t f → is_variable t ≡ false
bound_by t Unbound b of = absurd b
bound_by t (NoCharacter p) b of = of
bound_by t (NoInteger p) b of = of
bound_by t NoCode b of = of

-- An argument is a variable.
pub unbound_by : (t : Tree) (f : Fault) → f ≡ Unbound → IsFaultOf t f → (x : ℕ) × (t ≡ var x)
unbound_by t f e of = subst (λ (g : Fault). IsFaultOf t g) e of
