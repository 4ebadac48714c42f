-- The list of the predicates of the system with the numbers of their names, and what two such lists both say.
use Rattle.std.proofs.Common.{◌≡◌, ℕ, zero, suc, Bool, true, false, cond, ◌==◌, ◌&&◌, not, List, [], ◌∷◌, ◌++◌, Option, Some, None, refl, sym, ap, ap₂, ◌∙◌}
use Rattle.std.specs.List.{list_all}
use Rattle.std.specs.Prelude.{bytes_eq, map}
use Rattle.std.proofs.lemmas.Bool.{false≢true}
use Rattle.std.proofs.lemmas.Bool.Decides.{Decides-eqb}
use Rattle.std.proofs.lemmas.Slice.Eq.{bytes_eq-Decides}
use Rattle.pl_term.specs.Tree.{Chars}
use Rattle.pl_model.specs.History.{proc}
use Rattle.pl_model.specs.SystemPredicates.{SystemPredicate, kind_in, system_kind, system_predicates}
use Rattle.pl_model.specs.declared.system.PredicateKind.{PredicateKind}
use Rattle.pl_model.proofs.DispatchTexts.{kind_step}
use Rattle.atom_api.specs.Fixed.{fixed, fixed_texts}
use Rattle.builtin_rows.specs.Laws.{AreTexts}
use Rattle.builtin_rows.proofs.Choosing.{is_named}

pub both : (a b : Bool) → (a && b) ≡ true → (a ≡ true) × (b ≡ true)
both true b e = (refl, e)
both false b e = absurd (false≢true e)

-- A predicate by the number of its name.
pub record Numbered : Type 0 where
  pub name : ℕ
  pub arity : ℕ
  pub kind : PredicateKind

abbrev pub is_at : ℕ → ℕ → Numbered → Bool
is_at a n e = (a == e.name) && (n == e.arity)

-- The kind of the predicate with this name and so many arguments.
abbrev pub kind_at : ℕ → ℕ → List Numbered → Option PredicateKind
kind_at a n [] = None
kind_at a n (e ∷ es) = cond (is_at a n e) (Some e.kind) (kind_at a n es)

-- Two lists say the same where they do so at the numbers of both.
abbrev alike : Bool → Bool → Bool
alike true b = b
alike false b = not b

alike_equal : (a b : Bool) → alike a b ≡ true → a ≡ b
alike_equal true b e = sym e
alike_equal false true e = absurd (false≢true e)
alike_equal false false e = refl

abbrev among : ℕ → ℕ → List Numbered → Bool
among a n [] = false
among a n (e ∷ es) = cond (is_at a n e) true (among a n es)

at_listed : (p : ℕ → ℕ → Bool) (es : List Numbered) (a n : ℕ) → list_all (λ (e : Numbered). p e.name e.arity) es ≡ true → among a n es ≡ true → p a n ≡ true
at_listed p [] a n all in₁ = absurd (false≢true in₁)
at_listed p (e ∷ es) a n all in₁ =
    let here : (p e.name e.arity ≡ true) × (list_all (λ (x : Numbered). p x.name x.arity) es ≡ true) =
    both (p e.name e.arity) (list_all (λ (x : Numbered). p x.name x.arity) es) all in
    go here.0 (λ i. at_listed p es a n here.1 i) (a == e.name) refl (n == e.arity) refl in₁
  where
    go : p e.name e.arity ≡ true → (among a n es ≡ true → p a n ≡ true)
        → (b : Bool) → (a == e.name) ≡ b → (c : Bool) → (n == e.arity) ≡ c → cond (b && c) true (among a n es) ≡ true → p a n ≡ true
    go at rest true x true y i = ap₂ p ((Decides-eqb a e.name).0 x) ((Decides-eqb n e.arity).0 y) ∙ at
    go at rest true x false y i = rest i
    go at rest false x c y i = rest i

split_among : (a n : ℕ) (xs ys : List Numbered) → among a n (xs ++ ys) ≡ false → (among a n xs ≡ false) × (among a n ys ≡ false)
split_among a n [] ys e = (refl, e)
split_among a n (x ∷ xs) ys e = go (λ i. split_among a n xs ys i) (is_at a n x) e
  where
    go : (among a n (xs ++ ys) ≡ false → (among a n xs ≡ false) × (among a n ys ≡ false))
        → (b : Bool) → cond b true (among a n (xs ++ ys)) ≡ false → (cond b true (among a n xs) ≡ false) × (among a n ys ≡ false)
    go rest true i = absurd (false≢true (sym i))
    go rest false i = rest i

unfound : (a n : ℕ) (es : List Numbered) → among a n es ≡ false → kind_at a n es ≡ None
unfound a n [] e = refl
unfound a n (x ∷ es) e = go (λ i. unfound a n es i) (is_at a n x) e
  where
    go : (among a n es ≡ false → kind_at a n es ≡ None) → (b : Bool) → cond b true (among a n es) ≡ false → cond b (Some x.kind) (kind_at a n es) ≡ None
    go rest true i = absurd (false≢true (sym i))
    go rest false i = rest i

abbrev pub SayTheSame : (Option PredicateKind → Bool) → (Option PredicateKind → Bool) → List Numbered → List Numbered → Type 0
SayTheSame h g xs ys = list_all (λ (e : Numbered). alike (h (kind_at e.name e.arity xs)) (g (kind_at e.name e.arity ys))) (xs ++ ys) ≡ true

pub agree : (h g : Option PredicateKind → Bool) (xs ys : List Numbered) → h None ≡ g None → SayTheSame h g xs ys → (a n : ℕ) → h (kind_at a n xs) ≡ g (kind_at a n ys)
agree h g xs ys nothing all a n = go (among a n (xs ++ ys)) refl
  where
    go : (b : Bool) → among a n (xs ++ ys) ≡ b → h (kind_at a n xs) ≡ g (kind_at a n ys)
    go true i =
        alike_equal (h (kind_at a n xs)) (g (kind_at a n ys))
        (at_listed (λ b m. alike (h (kind_at b m xs)) (g (kind_at b m ys))) (xs ++ ys) a n all i)
    go false i =
        let out : (among a n xs ≡ false) × (among a n ys ≡ false) = split_among a n xs ys i
        in ap h (unfound a n xs out.0) ∙ nothing ∙ sym (ap g (unfound a n ys out.1))

-- The number of a text: its place among the fixed ones.
abbrev number_in : List Chars → Chars → ℕ
number_in [] t = zero
number_in (u ∷ us) t = cond (bytes_eq u t) zero (suc (number_in us t))

abbrev number_of : SystemPredicate → Numbered
number_of e = record { name = number_in fixed_texts e.indicator.name; arity = e.indicator.arity; kind = e.kind }

abbrev pub system_numbers : List Numbered
system_numbers = map number_of system_predicates

abbrev pub is_text : Option Chars → Chars → Bool
is_text None t = false
is_text (Some u) t = bytes_eq u t

pub text_is : (o : Option Chars) (t : Chars) → is_text o t ≡ true → o ≡ Some t
text_is None t e = absurd (false≢true e)
text_is (Some u) t e = ap Some ((bytes_eq-Decides u t).0 e)

abbrev has_number : SystemPredicate → Bool
has_number e = is_text (fixed (number_in fixed_texts e.indicator.name)) e.indicator.name

module _ (text : ℕ → Chars) (is : AreTexts text) where
  by_numbers : (es : List SystemPredicate) → list_all has_number es ≡ true → (a n : ℕ) → kind_in es (proc (text a) n) ≡ kind_at a n (map number_of es)
  by_numbers [] all a n = refl
  by_numbers (e ∷ es) all a n =
      let here : (has_number e ≡ true) × (list_all has_number es ≡ true) = both (has_number e) (list_all has_number es) all in
      kind_step e es (proc (text a) n)
      ∙ ap₂ (λ b o. cond (b && (n == e.indicator.arity)) (Some e.kind) o)
      (is_named text is a (number_in fixed_texts e.indicator.name) e.indicator.name (text_is (fixed (number_in fixed_texts e.indicator.name)) e.indicator.name here.0))
      (by_numbers es here.1 a n)

  all_numbered : list_all has_number system_predicates ≡ true
  unfolding system_predicates fixed_texts
  all_numbered = refl

  -- The kind of a predicate, by the number of its name.
  pub system_kind_at : (a n : ℕ) → system_kind (proc (text a) n) ≡ kind_at a n system_numbers
  system_kind_at a n = by_numbers system_predicates all_numbered a n
