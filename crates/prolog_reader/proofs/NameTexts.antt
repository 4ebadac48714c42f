-- Names as the reader compares them, and the texts that it spells itself.
use Rattle.std.proofs.Common.{◌≡◌, ℕ, suc, ◌+◌, ◌<◌, ◌++◌, arith, Bool, true, false, List, [], ◌∷◌, length, drop, get_or, Some, None, codes, bytes_eq, refl, sym, ap, ◌∙◌}
use Rattle.std.specs.Str.{chars}
use Rattle.std.proofs.lemmas.Bool.{cond-true, cond-false}
use Rattle.std.proofs.lemmas.Slice.Eq.{bytes_eq-Decides}
use Rattle.std.proofs.lemmas.List.{drop_more}
use Rattle.pl_term.specs.Tree.{Chars, var}
use Rattle.pl_model.specs.Grammar.{Reading, Part, number_of, named, variable, variable_named}
use Rattle.prolog_reader.specs.declared.names.NamedVariable.{NamedVariable}
use Rattle.prolog_reader.specs.Names.{pairs}

is_false : (b : Bool) → (b ≡ true → ⊥) → b ≡ false
is_false true h = absurd (h refl)
is_false false h = refl

pub same_name : (f g : Chars) → f ≡ g → bytes_eq f g ≡ true
same_name f g e = (bytes_eq-Decides f g).1 e

pub other_name : (f g : Chars) → (f ≡ g → ⊥) → bytes_eq f g ≡ false
other_name f g h = is_false (bytes_eq f g) (λ t. h ((bytes_eq-Decides f g).0 t))

-- The texts that the reader spells.

pub chars-minus : chars (codes "-") ≡ codes "-"
unfolding chars
chars-minus = refl

pub chars-comma : chars (codes ",") ≡ codes ","
unfolding chars
chars-comma = refl

pub chars-dot : chars (codes ".") ≡ codes "."
unfolding chars
chars-dot = refl

pub chars-list : chars (codes "[]") ≡ codes "[]"
unfolding chars
chars-list = refl

pub chars-curly : chars (codes "{}") ≡ codes "{}"
unfolding chars
chars-curly = refl

pub chars-underscore : chars (codes "_") ≡ codes "_"
unfolding chars
chars-underscore = refl

pub ruleset reader_texts = (chars-minus, chars-comma, chars-dot, chars-list, chars-curly, chars-underscore)

-- The numbers of named variables.

at_item : (ns : List NamedVariable) (i : ℕ) (n : NamedVariable) → i < length ns → n ≡ get_or ns i n → drop i ns ≡ n ∷ drop (i + 1) ns
at_item ns i n h is = drop_more ns i n h ∙ ap (λ (m : NamedVariable). m ∷ drop (i + 1) ns) (sym is)

pub number_of-found : (ns : List NamedVariable) (i : ℕ) (n : NamedVariable) (name : Chars) → i < length ns → n ≡ get_or ns i n → n.name ≡ name
    → Some n.variable ≡ number_of (pairs (drop i ns)) name
number_of-found ns i n name h is same =
    sym (ap (λ ms. number_of (pairs ms) name) (at_item ns i n h is) ∙ cond-true _ _ _ (same_name n.name name same))

pub number_of-other : (ns : List NamedVariable) (i : ℕ) (n : NamedVariable) (name : Chars) → i < length ns → n ≡ get_or ns i n
    → (n.name ≡ name → ⊥) → number_of (pairs (drop i ns)) name ≡ number_of (pairs (drop (i + 1) ns)) name
number_of-other ns i n name h is other =
    ap (λ ms. number_of (pairs ms) name) (at_item ns i n h is) ∙ cond-false _ _ _ (other_name n.name name other)

module _ (ns : List (Chars × ℕ)) (next : ℕ) (name : Chars) (at place : ℕ) where
  abbrev here : Reading
  here = record { at = at; names = ns; next = next }

  abbrev numbered : ℕ → List (Chars × ℕ) → ℕ → Part
  numbered n ms next' = variable (var n) (record { at = place; names = ms; next = next' })

  pub variable-underscore : name ≡ codes "_" → variable_named here name place ≡ numbered next ns (next + 1)
  variable-underscore e =
      cond-true (bytes_eq name (codes "_")) (numbered next ns (suc next)) (named here name place (number_of ns name)) (same_name name (codes "_") e)
      ∙ ap (λ m. numbered next ns m) (omega arith)

  pub variable-known : (n : ℕ) → (name ≡ codes "_" → ⊥) → Some n ≡ number_of ns name → variable_named here name place ≡ numbered n ns next
  variable-known n other e =
      cond-false (bytes_eq name (codes "_")) (numbered next ns (suc next)) (named here name place (number_of ns name)) (other_name name (codes "_") other)
      ∙ ap (named here name place) (sym e)

  pub variable-new : (name ≡ codes "_" → ⊥) → None ≡ number_of ns name
      → variable_named here name place ≡ numbered next (ns ++ (name, next) ∷ []) (next + 1)
  variable-new other e =
      cond-false (bytes_eq name (codes "_")) (numbered next ns (suc next)) (named here name place (number_of ns name)) (other_name name (codes "_") other)
      ∙ ap (named here name place) (sym e) ∙ ap (λ m. numbered next (ns ++ (name, next) ∷ []) m) (omega arith)
