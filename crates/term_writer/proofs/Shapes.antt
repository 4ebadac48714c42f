-- The pieces of a compound term, by what it is written as.
use Rattle.std.proofs.Common.{◌≡◌, ℕ, suc, Bool, true, false, cond, ◌&&◌, ◌==◌, codes, List, [], ◌∷◌, ◌++◌, Option, Some, None, refl, ap, ◌∙◌, arith, bytes_eq, ℤ}
use Rattle.std.specs.Fmt.{signed_decimal}
use Rattle.std.proofs.lemmas.Bool.Decides.{nat_tests}
use Rattle.pl_term.specs.Tree.{Chars, Tree, Trees, var, int, atom, comp, none, more, count}
use Rattle.pl_model.specs.declared.operators.Place.TheVariants.{Prefix, Infix, Postfix}
use Rattle.pl_model.specs.OperatorTable.{Entry}
use Rattle.pl_model.specs.TermGrammar.{Lookup, left_argument, right_argument}
use Rattle.pl_model.specs.Writing.{Place, alone, operand, left_operand, variable, Tail, ends, goes_on, partial, tail_of}
use Rattle.pl_model.specs.TermWriting.{Piece, plain, before_operand, Form, list, curly_brackets, infix_operation, prefix_operation, postfix_operation, functional, form, form_of_one, form_of_two, quoting, pieces, right_operand, arguments, list_tail, elements, parenthesized, needs_parentheses, infix_pieces, postfix_pieces, operator_name, functor_by, atom_pieces}
use Rattle.term_writer.proofs.Bits.{same_text, differ}

-- A compound term of one argument.
pub data OfOne (ops : Lookup) (f : Chars) : Type 0 where
  in_curly : f ≡ codes "{}" → form quoting ops f 1 ≡ curly_brackets → OfOne ops f
  prefixed : (e : Entry) → ops f Prefix ≡ Some e → form quoting ops f 1 ≡ prefix_operation e → OfOne ops f
  postfixed : (e : Entry) → ops f Postfix ≡ Some e → form quoting ops f 1 ≡ postfix_operation e → OfOne ops f
  called : form quoting ops f 1 ≡ functional → OfOne ops f

-- A compound term of two arguments.
pub data OfTwo (ops : Lookup) (f : Chars) : Type 0 where
  listed : f ≡ codes "." → form quoting ops f 2 ≡ list → OfTwo ops f
  infixed : (e : Entry) → ops f Infix ≡ Some e → form quoting ops f 2 ≡ infix_operation e → OfTwo ops f
  called_two : form quoting ops f 2 ≡ functional → OfTwo ops f

module _ (ops : Lookup) (f : Chars) where
  one_by : (t : Bool) (o p : Option Entry) → bytes_eq f (codes "{}") ≡ t → ops f Prefix ≡ o → ops f Postfix ≡ p → OfOne ops f
  one_by true o p e is_prefix is_postfix =
      in_curly (same_text f (codes "{}") e) (ap (λ t. cond t curly_brackets (form_of_one (ops f Prefix) (ops f Postfix))) e)
  one_by false (Some x) p e is_prefix is_postfix =
      prefixed x is_prefix
      (ap (λ t. cond t curly_brackets (form_of_one (ops f Prefix) (ops f Postfix))) e ∙ ap (λ o. form_of_one o (ops f Postfix)) is_prefix)
  one_by false None (Some x) e is_prefix is_postfix =
      postfixed x is_postfix
      (ap (λ t. cond t curly_brackets (form_of_one (ops f Prefix) (ops f Postfix))) e ∙ ap (λ o. form_of_one o (ops f Postfix)) is_prefix ∙ ap (form_of_one None) is_postfix)
  one_by false None None e is_prefix is_postfix =
      called
      (ap (λ t. cond t curly_brackets (form_of_one (ops f Prefix) (ops f Postfix))) e ∙ ap (λ o. form_of_one o (ops f Postfix)) is_prefix ∙ ap (form_of_one None) is_postfix)

  pub of_one : OfOne ops f
  of_one = one_by (bytes_eq f (codes "{}")) (ops f Prefix) (ops f Postfix) refl refl refl

  two_by : (t : Bool) (o : Option Entry) → bytes_eq f (codes ".") ≡ t → ops f Infix ≡ o → OfTwo ops f
  two_by true o e is_infix = listed (same_text f (codes ".") e) (ap (λ t. cond t list (form_of_two (ops f Infix))) e)
  two_by false (Some x) e is_infix = infixed x is_infix (ap (λ t. cond t list (form_of_two (ops f Infix))) e ∙ ap form_of_two is_infix)
  two_by false None e is_infix = called_two (ap (λ t. cond t list (form_of_two (ops f Infix))) e ∙ ap form_of_two is_infix)

  pub of_two : OfTwo ops f
  of_two = two_by (bytes_eq f (codes ".")) (ops f Infix) refl refl

  no_form : (a b : Bool) → a ≡ false → b ≡ false → (x y z v : Form)
      → cond (a && bytes_eq f (codes ".")) x (cond (b && bytes_eq f (codes "{}")) y (cond a z (cond b v functional))) ≡ functional
  no_form true b e g x y z v = absurd (differ e)
  no_form false true e g x y z v = absurd (differ g)
  no_form false false e g x y z v = refl

  -- One of three or more arguments is written in functional notation.
  pub of_more : (n : ℕ) → form quoting ops f (suc (suc (suc n))) ≡ functional
  of_more n =
      let two : (suc (suc (suc n)) == 2) ≡ false = grind (arith, nat_tests) in
      let one : (suc (suc (suc n)) == 1) ≡ false = grind (arith, nat_tests) in
      no_form (suc (suc (suc n)) == 2) (suc (suc (suc n)) == 1) two one _ _ _ _

  abbrev pub pieces_by : ℕ → Place → Tree → Trees → Form → List Piece
  pieces_by max place t ts list = plain (codes "[") ∷ (pieces quoting ops 999 alone t ++ list_tail quoting ops ts)
  pieces_by max place t ts curly_brackets = plain (codes "{") ∷ (pieces quoting ops 1200 alone t ++ plain (codes "}") ∷ [])
  pieces_by max place t ts (infix_operation e) =
      parenthesized (needs_parentheses max place e)
      (pieces quoting ops (left_argument e) (left_operand e.0) t ++ (infix_pieces quoting f ++ right_operand quoting ops e ts))
  pieces_by max place t ts (prefix_operation e) =
      parenthesized (needs_parentheses max place e) (before_operand f (operator_name quoting f) ∷ pieces quoting ops (right_argument e) operand t)
  pieces_by max place t ts (postfix_operation e) =
      parenthesized (needs_parentheses max place e) (pieces quoting ops (left_argument e) (left_operand e.0) t ++ postfix_pieces quoting f)
  pieces_by max place t ts functional =
      plain (functor_by quoting f) ∷ plain (codes "(") ∷ (pieces quoting ops 999 alone t ++ arguments quoting ops ts)

  pub pieces-comp : (max : ℕ) (place : Place) (t : Tree) (ts : Trees) → pieces quoting ops max place (comp f t ts) ≡ pieces_by max place t ts (form quoting ops f (suc (count ts)))
  unfolding pieces
  pieces-comp max place t ts = refl

  pub pieces-form : (max : ℕ) (place : Place) (t : Tree) (ts : Trees) (w : Form) → form quoting ops f (suc (count ts)) ≡ w
      → pieces quoting ops max place (comp f t ts) ≡ pieces_by max place t ts w
  pieces-form max place t ts w e = pieces-comp max place t ts ∙ ap (pieces_by max place t ts) e

module _ (ops : Lookup) where
  pub pieces-var : (max : ℕ) (place : Place) (n : ℕ) → pieces quoting ops max place (var n) ≡ plain (variable n) ∷ []
  unfolding pieces
  pieces-var max place n = refl

  pub pieces-atom : (max : ℕ) (place : Place) (a : Chars) → pieces quoting ops max place (atom a) ≡ atom_pieces quoting ops place a
  unfolding pieces
  pieces-atom max place a = refl

  pub pieces-int : (max : ℕ) (place : Place) (i : ℤ) → pieces quoting ops max place (int i) ≡ plain (signed_decimal i) ∷ []
  unfolding pieces
  pieces-int max place i = refl

  pub right-more : (e : Entry) (t : Tree) (ts : Trees) → right_operand quoting ops e (more t ts) ≡ pieces quoting ops (right_argument e) operand t
  unfolding pieces
  right-more e t ts = refl

  pub arguments-none : arguments quoting ops none ≡ plain (codes ")") ∷ []
  unfolding pieces
  arguments-none = refl

  pub arguments-more : (t : Tree) (ts : Trees) → arguments quoting ops (more t ts) ≡ plain (codes ",") ∷ (pieces quoting ops 999 alone t ++ arguments quoting ops ts)
  unfolding pieces
  arguments-more t ts = refl

  abbrev pub tail_by : Tree → Tail → List Piece
  tail_by t ends = plain (codes "]") ∷ []
  tail_by t goes_on = elements quoting ops t
  tail_by t partial = plain (codes "|") ∷ (pieces quoting ops 999 alone t ++ plain (codes "]") ∷ [])

  pub list_tail-more : (t : Tree) (ts : Trees) → list_tail quoting ops (more t ts) ≡ tail_by t (tail_of t)
  unfolding pieces
  list_tail-more t ts = refl

  pub elements-comp : (f : Chars) (t : Tree) (ts : Trees) → elements quoting ops (comp f t ts) ≡ plain (codes ",") ∷ (pieces quoting ops 999 alone t ++ list_tail quoting ops ts)
  unfolding pieces
  elements-comp f t ts = refl
