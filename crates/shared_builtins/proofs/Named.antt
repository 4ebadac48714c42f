-- Atoms that are held, told by the numbers of the fixed ones.
use Rattle.std.proofs.Common.{◌≡◌, ℕ, Bool, true, false, cond, ◌==◌, ◌||◌, List, [], ◌∷◌, Option, Some, None, codes, refl, ap, ap₂, ◌∙◌}
use Rattle.std.specs.Prelude.{IsSome}
use Rattle.std.specs.Str.{bytes_eq}
use Rattle.pl_term.specs.Tree.{Chars}
use Rattle.pl_model.specs.declared.operators.Kind.{Kind}
use Rattle.pl_model.specs.declared.operators.Kind.TheVariants.{Xfx, Xfy, Yfx, Fy, Fx, Xf, Yf}
use Rattle.pl_model.specs.Flags as flags
use Rattle.pl_model.specs.SharedBuiltins.{is_changeable, specifier_named}
use Rattle.atom_api.specs.Fixed.{fixed}
use Rattle.atom_api.specs.FixedNames.{bounded_name, double_quotes_name, fx_name, fy_name, integer_rounding_function_name, max_integer_name, min_integer_name, unknown_name, xf_name, xfx_name, xfy_name, yf_name, yfx_name}
use Rattle.atom_api.specs.Names.{Names}
use Rattle.term_store.specs.Heap.{atom_name}
use Rattle.world_builtins.specs.Spelling.{text_of}
use Rattle.builtin_rows.specs.Lists.{IsNaming}
use Rattle.builtin_rows.proofs.Listing.{named_is}
use Rattle.shared_builtins.specs.Flags.{is_fixed, is_set}
use Rattle.shared_builtins.specs.Operators.{kind_named}
use Rattle.shared_builtins.proofs.FixedNames.{bounded_is, double_quotes_is, fx_is, fy_is, integer_rounding_function_is, max_integer_is, min_integer_is, unknown_is, xf_is, xfx_is, xfy_is, yf_is, yfx_is}

abbrev chosen : Bool → Bool → Bool → Bool → Bool → Bool → Bool → Option Kind
chosen b c d e f g h =
    cond b (Some Xfx) (cond c (Some Xfy) (cond d (Some Yfx) (cond e (Some Fy) (cond f (Some Fx) (cond g (Some Xf) (cond h (Some Yf) None))))))

or_false : (b : Bool) → (b || false) ≡ b
or_false true = refl
or_false false = refl

-- A flag that has values can be changed.
changeable : (b c : Bool) (x y : Chars) (xs ys : List Chars)
    → elim (cond b (x ∷ xs) (cond c (y ∷ ys) [])) [ [] ↦ false | v ∷ vs ↦ true ] ≡ (b || c)
changeable true c x y xs ys = refl
changeable false true x y xs ys = refl
changeable false false x y xs ys = refl

module _ (m : Names) (n : IsNaming m) (a : ℕ) (held : IsSome (m a)) where
  is : (k : ℕ) (t : Chars) → fixed k ≡ Some t → bytes_eq (text_of m (atom_name a)) t ≡ (a == k)
  is k t e = named_is m n a k t e held

  q : Chars → Bool
  q t = bytes_eq (text_of m (atom_name a)) t

  pub specifier_told : specifier_named (text_of m (atom_name a)) ≡ kind_named a
  specifier_told =
      let x = text_of m (atom_name a) in
      ap₂ (λ b c. chosen b c (bytes_eq x (codes "yfx")) (bytes_eq x (codes "fy")) (bytes_eq x (codes "fx")) (bytes_eq x (codes "xf")) (bytes_eq x (codes "yf")))
      (is xfx_name (codes "xfx") xfx_is) (is xfy_name (codes "xfy") xfy_is)
      ∙ ap₂ (λ d e. chosen (a == xfx_name) (a == xfy_name) d e (bytes_eq x (codes "fx")) (bytes_eq x (codes "xf")) (bytes_eq x (codes "yf")))
      (is yfx_name (codes "yfx") yfx_is) (is fy_name (codes "fy") fy_is)
      ∙ ap₂ (λ f g. chosen (a == xfx_name) (a == xfy_name) (a == yfx_name) (a == fy_name) f g (bytes_eq x (codes "yf")))
      (is fx_name (codes "fx") fx_is) (is xf_name (codes "xf") xf_is)
      ∙ ap (λ h. chosen (a == xfx_name) (a == xfy_name) (a == yfx_name) (a == fy_name) (a == fx_name) (a == xf_name) h) (is yf_name (codes "yf") yf_is)

  pub fixed_told : flags.is_fixed_flag (text_of m (atom_name a)) ≡ is_fixed a
  fixed_told =
      let x = text_of m (atom_name a) in
      ap₂ (λ b c. b || (c || (bytes_eq x (codes "max_integer") || (bytes_eq x (codes "min_integer") || false))))
      (is bounded_name (codes "bounded") bounded_is) (is integer_rounding_function_name (codes "integer_rounding_function") integer_rounding_function_is)
      ∙ ap₂ (λ d e. (a == bounded_name) || ((a == integer_rounding_function_name) || (d || (e || false))))
      (is max_integer_name (codes "max_integer") max_integer_is) (is min_integer_name (codes "min_integer") min_integer_is)
      ∙ ap (λ e. (a == bounded_name) || ((a == integer_rounding_function_name) || ((a == max_integer_name) || e))) (or_false (a == min_integer_name))

  pub set_told : is_changeable (text_of m (atom_name a)) ≡ is_set a
  set_told =
      let x = text_of m (atom_name a) in
      changeable (bytes_eq x (codes "double_quotes")) (bytes_eq x (codes "unknown")) (codes "codes") (codes "error") (codes "chars" ∷ codes "atom" ∷ []) (codes "fail" ∷ [])
      ∙ ap₂ (λ b c. b || c) (is double_quotes_name (codes "double_quotes") double_quotes_is) (is unknown_name (codes "unknown") unknown_is)
