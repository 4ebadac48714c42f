-- What number_chars/2 and number_codes/2 come to.
use Rattle.std.proofs.Common.{◌≡◌, ℕ, ℤ, ◌*◌, true, false, if◌then◌else◌, List, length, map, Option, Some, None, Result, Ok, Err, codes, sym, ap, ap₂, ◌∙◌}
use Rattle.std.specs.Fmt.{signed_decimal}
use Rattle.pl_term.specs.Tree.{Chars, Tree, var, int, atom}
use Rattle.pl_model.specs.AtomBuiltins.{all_errors, number_in, number_row, spells_number}
use Rattle.pl_model.specs.Balls.{syntax_error, type_error}
use Rattle.pl_model.specs.BuiltinRows as defined
use Rattle.pl_model.specs.BuiltinRows.{error, one_answer}
use Rattle.pl_model.specs.Checks.{elements}
use Rattle.pl_model.specs.Evaluables.{is_in_range}
use Rattle.pl_model.specs.Terms.{list_term}
use Rattle.pl_model.specs.TermBuiltins.{makes, on_list, two, unless}
use Rattle.builtin_atom.proofs.Looks.{IsCompound}

module _ (check : Tree → Option Tree) (from : Tree → ℕ) (to : ℕ → Tree) (a l : Tree) where
  abbrev by : List Tree → defined.Row
  by ts = unless (all_errors check ts) (number_row l (number_in (map from ts)))

  of_list : (x : ℕ) → a ≡ var x → (r : Result (List Tree) Tree) → elements l ≡ r → spells_number check from to a l ≡ on_list r by
  of_list x is r e = ap (λ t. spells_number check from to t l) is ∙ ap (λ q. on_list q by) e

  pub numbers_error : (x : ℕ) → a ≡ var x → (e : Tree) → elements l ≡ Err e → error e ≡ spells_number check from to a l
  numbers_error x is e h = sym (of_list x is (Err e) h)

  pub numbers_bad : (x : ℕ) → a ≡ var x → (ts : List Tree) (e : Tree) → elements l ≡ Ok ts → all_errors check ts ≡ Some e → error e ≡ spells_number check from to a l
  numbers_bad x is ts e h bad = sym (of_list x is (Ok ts) h ∙ ap (λ o. unless o (number_row l (number_in (map from ts)))) bad)

  pub numbers_read : (x : ℕ) → a ≡ var x → (ts : List Tree) (cs : Chars) → elements l ≡ Ok ts → all_errors check ts ≡ None → map from ts ≡ cs
      → number_row l (number_in cs) ≡ spells_number check from to a l
  numbers_read x is ts cs h good same =
      sym
      (of_list x is (Ok ts) h ∙ ap (λ o. unless o (number_row l (number_in (map from ts)))) good ∙ ap (λ t. number_row l (number_in t)) same)

  pub numbers_integer : (i : ℤ) (cs : Chars) → a ≡ int i → cs ≡ signed_decimal i
      → makes (two a (list_term (map to cs))) (3 * length cs) ≡ spells_number check from to a l
  numbers_integer i cs is same =
      ap₂ (λ u ds. makes (two u (list_term (map to ds))) (3 * length ds)) is same ∙ sym (ap (λ u. spells_number check from to u l) is)

  pub numbers_atom : (t : Chars) → a ≡ atom t → error (type_error (codes "number") a) ≡ spells_number check from to a l
  numbers_atom t is = ap (λ u. error (type_error (codes "number") u)) is ∙ sym (ap (λ u. spells_number check from to u l) is)

  pub numbers_compound : IsCompound a → error (type_error (codes "number") a) ≡ spells_number check from to a l
  numbers_compound h = ap (λ u. error (type_error (codes "number") u)) h.is ∙ sym (ap (λ u. spells_number check from to u l) h.is)

-- The rows of what is read as a number.
pub no_number : (l : Tree) (o : Option ℤ) → o ≡ None → error (syntax_error (codes "illegal_number")) ≡ number_row l o
no_number l o e = sym (ap (number_row l) e)

pub large_number : (l : Tree) (o : Option ℤ) (i : ℤ) → o ≡ Some i → is_in_range i ≡ false → error (syntax_error (codes "integer_too_large")) ≡ number_row l o
large_number l o i e past =
    sym
    (ap (number_row l) e ∙ ap (λ b. if b then one_answer (two (int i) l) else error (syntax_error (codes "integer_too_large"))) past)

pub read_number : (l : Tree) (o : Option ℤ) (i : ℤ) → o ≡ Some i → is_in_range i ≡ true → one_answer (two (int i) l) ≡ number_row l o
read_number l o i e within =
    sym
    (ap (number_row l) e ∙ ap (λ b. if b then one_answer (two (int i) l) else error (syntax_error (codes "integer_too_large"))) within)
