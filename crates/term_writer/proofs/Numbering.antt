-- The variables `_N` that are written are numbered anew when they are read, in the order in which they first occur: the
-- term that is read is a variant of the one that was written.
use Rattle.std.proofs.Common.{◌≡◌, ℕ, ◌+◌, ◌^◌, ◌<◌, zero, suc, Bool, true, false, cond, ◌&&◌, ◌||◌, ◌==◌, nat_lt, codes, List, [], ◌∷◌, ◌++◌, length, drop, get_or, Option, Some, None, append_assoc, refl, sym, ap, subst, ◌∙◌, arith, bytes_eq}
use Rattle.std.specs.List.{list_all}
use Rattle.std.specs.Fmt.{decimal}
use Rattle.std.specs.Str.Parse.{AllDigits, digits_value}
use Rattle.std.proofs.lemmas.Bool.{cond-true, cond-false, eq-eqb, or_left}
use Rattle.std.proofs.lemmas.Bool.Decides.{nat_tests}
use Rattle.std.proofs.lemmas.List.{append-nil, length-append}
use Rattle.std.proofs.lemmas.List.Folds.{list_all-append}
use Rattle.std.proofs.lemmas.Slice.Eq.{bytes_eq-Decides}
use Rattle.std.proofs.lemmas.Str.Parse.{tells_digits, numerals_by_value}
use Rattle.std.proofs.lemmas.Fmt.{digits_value-decimal, decimal_nonempty}
use Rattle.pl_term.specs.Tree.{Chars, Tree, Trees, var, int, atom, comp, none, more}
use Rattle.pl_term.specs.Variables.{is_in, place, occurrences, occurrences_all, rename_by, rename_all_by}
use Rattle.pl_term.specs.Variant.{IsVariant}
use Rattle.pl_term.specs.NodeLists.{with}
use Rattle.pl_term.proofs.Distinct.{is_in-append, place-append, place-push, get_or-place}
use Rattle.pl_term.proofs.Places.{is_in-with}
use Rattle.pl_term.proofs.Renaming.{rename_same}
use Rattle.pl_model.specs.Grammar.{Part, number_of, new_variable, named, variable_named}
use Rattle.pl_model.specs.Writing.{variable}
use Rattle.term_writer.specs.ReadingBack.{is_readable, all_readable, is_readable_text}
use Rattle.term_writer.proofs.Bits.{both, all_true, other_text, same_number, differ}
use Rattle.term_writer.proofs.Steps.{Met, standing, met, told, told_all, after, after_all}

-- A number that is written in full.
abbrev fits : ℕ → Bool
fits n = nat_lt n (2 ^ 64)

below : (n : ℕ) → fits n ≡ true → n < 2 ^ 64
below n e = grind (arith, nat_tests)

same-decimal : (m n : ℕ) → fits m ≡ true → fits n ≡ true → decimal m ≡ decimal n → m ≡ n
same-decimal m n fm fn e =
    let own = numerals_by_value (AllDigits 10) tells_digits in
    sym (digits_value-decimal own m (below m fm)) ∙ ap (digits_value 10) e ∙ digits_value-decimal own n (below n fn)

same-variable : (m n : ℕ) → fits m ≡ true → fits n ≡ true → variable m ≡ variable n → m ≡ n
same-variable m n fm fn e = same-decimal m n fm fn (ap (drop 1) e)

not_anonymous : (n : ℕ) → fits n ≡ true → bytes_eq (variable n) (codes "_") ≡ false
not_anonymous n f =
    other_text (variable n) (codes "_")
    (λ e. let some : 0 < length (decimal n) = decimal_nonempty n (below n f) in
    let nothing : length (decimal n) ≡ 0 = ap (λ cs. length (drop 1 cs)) e in
    omega arith)

-- The names of these variables, whose numbers go up from one.
names_from : ℕ → List ℕ → List (Chars × ℕ)
names_from k [] = []
names_from k (x ∷ xs) = (variable x, k) ∷ names_from (suc k) xs

found_by : (k x y : ℕ) (ys : List ℕ) (t : Bool) (later : Option ℕ) → fits x ≡ true → fits y ≡ true → (x == y) ≡ t
    → later ≡ cond (is_in x ys) (Some (suc k + place x ys)) None
    → cond (bytes_eq (variable y) (variable x)) (Some k) later ≡ cond (t || is_in x ys) (Some (k + cond t zero (suc (place x ys)))) None
found_by k x y ys true later fx fy e h =
    let same : y ≡ x = sym (same_number x y e) in
    cond-true (bytes_eq (variable y) (variable x)) (Some k) later ((bytes_eq-Decides (variable y) (variable x)).1 (ap variable same))
    ∙ ap Some (omega arith)
found_by k x y ys false later fx fy e h =
    let other : bytes_eq (variable y) (variable x) ≡ false
    = other_text (variable y) (variable x) (λ same. differ (sym (eq-eqb x y (sym (same-variable y x fy fx same))) ∙ e)) in
    let number : suc k + place x ys ≡ k + suc (place x ys) = omega arith in
    cond-false (bytes_eq (variable y) (variable x)) (Some k) later other ∙ h ∙ ap (λ n. cond (is_in x ys) (Some n) None) number

-- A name is found at the place of its variable.
number-names : (x k : ℕ) (xs : List ℕ) → fits x ≡ true → list_all fits xs ≡ true
    → number_of (names_from k xs) (variable x) ≡ cond (is_in x xs) (Some (k + place x xs)) None
unfolding names_from
number-names x k [] fx all = refl
number-names x k (y ∷ ys) fx all =
    let s = both (fits y) (list_all fits ys) all in
    found_by k x y ys (x == y) (number_of (names_from (suc k) ys) (variable x)) fx s.0 refl (number-names x (suc k) ys fx s.1)

names-push : (k x : ℕ) (xs : List ℕ) → names_from k (xs ++ x ∷ []) ≡ names_from k xs ++ (variable x, k + length xs) ∷ []
unfolding names_from
names-push k x [] = let same : k ≡ k + 0 = omega arith in ap (λ n. (variable x, n) ∷ []) same
names-push k x (y ∷ ys) =
    let number : suc k + length ys ≡ k + suc (length ys) = omega arith in
    ap (λ ns. (variable y, k) ∷ ns) (names-push (suc k) x ys ∙ ap (λ n. names_from (suc k) ys ++ (variable x, n) ∷ []) number)

-- What has been met after these variables.
state : List ℕ → Met
state xs = (names_from 0 xs, length xs)

record VariableTold (x : ℕ) (xs : List ℕ) : Type 0 where
  term_is : told (var x) (state xs) ≡ var (place x (with x xs))
  after_is : after (var x) (state xs) ≡ state (with x xs)

variable-found : (x : ℕ) (xs : List ℕ) → fits x ≡ true → list_all fits xs ≡ true
    → variable_named (standing 0 (state xs)) (variable x) 0 ≡ named (standing 0 (state xs)) (variable x) 0 (cond (is_in x xs) (Some (place x xs)) None)
unfolding state
variable-found x xs fx all =
    let s : Met = (names_from 0 xs, length xs) in
    let number : 0 + place x xs ≡ place x xs = omega arith in
    cond-false (bytes_eq (variable x) (codes "_")) (new_variable (standing 0 s) s.0 0) (named (standing 0 s) (variable x) 0 (number_of s.0 (variable x))) (not_anonymous x fx)
    ∙ ap (named (standing 0 s) (variable x) 0) (number-names x 0 xs fx all ∙ ap (λ n. cond (is_in x xs) (Some n) None) number)

variable_told : (x : ℕ) (xs : List ℕ) → fits x ≡ true → list_all fits xs ≡ true → VariableTold x xs
unfolding state
variable_told x xs fx all = by (is_in x xs) refl where
  s : Met
  s = (names_from 0 xs, length xs)

  part : (t : Bool) → is_in x xs ≡ t → variable_named (standing 0 (state xs)) (variable x) 0 ≡ named (standing 0 (state xs)) (variable x) 0 (cond t (Some (place x xs)) None)
  part t e = variable-found x xs fx all ∙ ap (λ t. named (standing 0 (state xs)) (variable x) 0 (cond t (Some (place x xs)) None)) e

  by : (t : Bool) → is_in x xs ≡ t → VariableTold x xs
  by true e =
      let same : with x xs ≡ xs = cond-true (is_in x xs) xs (xs ++ x ∷ []) e in
      record {
        term_is = ap (λ (p : Part). p.term) (part true e) ∙ ap (λ ys. var (place x ys)) (sym same);
        after_is = ap (λ (p : Part). met p.reading) (part true e) ∙ ap state (sym same);
      }
  by false e =
      let same : with x xs ≡ xs ++ x ∷ [] = cond-false (is_in x xs) xs (xs ++ x ∷ []) e in
      let longer : suc (length xs) ≡ length (xs ++ x ∷ []) = omega (arith, length-append xs (x ∷ [])) in
      let number : length xs ≡ 0 + length xs = omega arith in
      record {
        term_is = ap (λ (p : Part). p.term) (part false e) ∙ ap var (sym (place-push x xs e)) ∙ ap (λ ys. var (place x ys)) (sym same);
        after_is =
            ap (λ (p : Part). met p.reading) (part false e)
            ∙ ap (λ n. (names_from 0 xs ++ (variable x, n) ∷ [], suc (length xs))) number
            ∙ ap (λ ns. (ns, suc (length xs))) (sym (names-push 0 x xs))
            ∙ ap (λ n. (names_from 0 (xs ++ x ∷ []), n)) longer
            ∙ ap state (sym same);
      }

-- All variables that were met, after further occurrences.
abbrev met_list : List ℕ → List ℕ → List ℕ
met_list [] xs = xs
met_list (y ∷ ys) xs = met_list ys (with y xs)

met_list-append : (ys zs xs : List ℕ) → met_list (ys ++ zs) xs ≡ met_list zs (met_list ys xs)
met_list-append [] zs xs = refl
met_list-append (y ∷ ys) zs xs = met_list-append ys zs (with y xs)

with-extends : (t : Bool) (y : ℕ) (xs : List ℕ) → (zs : List ℕ) × (cond t xs (xs ++ y ∷ []) ≡ xs ++ zs)
with-extends true y xs = ([], sym (append-nil xs))
with-extends false y xs = (y ∷ [], refl)

extends : (ys xs : List ℕ) → (zs : List ℕ) × (met_list ys xs ≡ xs ++ zs)
extends [] xs = ([], sym (append-nil xs))
extends (y ∷ ys) xs =
    let w = with-extends (is_in y xs) y xs in
    let r = extends ys (with y xs) in
    (w.0 ++ r.0, r.1 ∙ ap (λ zs. zs ++ r.0) w.1 ∙ append_assoc xs w.0 r.0)

still_in : (x : ℕ) (ys xs : List ℕ) → is_in x xs ≡ true → is_in x (met_list ys xs) ≡ true
still_in x ys xs e =
    let r = extends ys xs in
    ap (is_in x) r.1 ∙ is_in-append x xs r.0 ∙ or_left (is_in x xs) (is_in x r.0) e

same_place : (x : ℕ) (ys xs : List ℕ) → is_in x xs ≡ true → place x xs ≡ place x (met_list ys xs)
same_place x ys xs e = let r = extends ys xs in sym (ap (place x) r.1 ∙ place-append x xs r.0 e)

met-in-first : (t : Bool) (x y : ℕ) (ys xs : List ℕ) → (x == y) ≡ t → (t || is_in x ys) ≡ true → (is_in x ys ≡ true → is_in x (met_list ys (with y xs)) ≡ true)
    → is_in x (met_list ys (with y xs)) ≡ true
met-in-first true x y ys xs same e later =
    let is : y ≡ x = sym (same_number x y same) in
    still_in x ys (with y xs) (subst (λ z. is_in x (with z xs) ≡ true) (sym is) (is_in-with x xs))
met-in-first false x y ys xs same e later = later e

met-in : (x : ℕ) (ys xs : List ℕ) → is_in x ys ≡ true → is_in x (met_list ys xs) ≡ true
met-in x [] xs e = cc
met-in x (y ∷ ys) xs e = met-in-first (x == y) x y ys xs refl e (λ later. met-in x ys (with y xs) later)

with-fits : (t : Bool) (y : ℕ) (xs : List ℕ) → fits y ≡ true → list_all fits xs ≡ true → list_all fits (cond t xs (xs ++ y ∷ [])) ≡ true
with-fits true y xs fy all = all
with-fits false y xs fy all = list_all-append fits xs (y ∷ []) ∙ all_true (list_all fits xs) (fits y && true) all (all_true (fits y) true fy refl)

-- A term is told as itself with its variables numbered.
abbrev Numbered : List ℕ → ℕ → ℕ
Numbered xs x = place x xs

record Told (t : Tree) (xs : List ℕ) : Type 0 where
  term_is : told t (state xs) ≡ rename_by (Numbered (met_list (occurrences t) xs)) t
  after_is : after t (state xs) ≡ state (met_list (occurrences t) xs)
  all_fit : list_all fits (met_list (occurrences t) xs) ≡ true

record AllTold (ts : Trees) (xs : List ℕ) : Type 0 where
  terms_are : told_all ts (state xs) ≡ rename_all_by (Numbered (met_list (occurrences_all ts) xs)) ts
  after_is : after_all ts (state xs) ≡ state (met_list (occurrences_all ts) xs)
  all_fit : list_all fits (met_list (occurrences_all ts) xs) ≡ true

-- A term keeps its numbers when more variables are met.
keeps : (t : Tree) (zs xs : List ℕ) → rename_by (Numbered (met_list (occurrences t) xs)) t ≡ rename_by (Numbered (met_list zs (met_list (occurrences t) xs))) t
keeps t zs xs =
    let ys = met_list (occurrences t) xs in
    rename_same (Numbered ys) (Numbered (met_list zs ys)) t (λ x e. same_place x zs ys (met-in x (occurrences t) xs e))

mutual
  tells : (t : Tree) (xs : List ℕ) → is_readable t ≡ true → list_all fits xs ≡ true → Told t xs
  tells (var n) xs e all =
      let v = variable_told n xs e all in
      record { term_is = v.term_is; after_is = v.after_is; all_fit = with-fits (is_in n xs) n xs e all }
  tells (int i) xs e all = record { term_is = refl; after_is = refl; all_fit = all }
  tells (atom a) xs e all = record { term_is = refl; after_is = refl; all_fit = all }
  tells (comp f t ts) xs e all =
      let s = both (is_readable_text f) (is_readable t && all_readable ts) e in
      let u = both (is_readable t) (all_readable ts) s.1 in
      let one = tells t xs u.0 all in
      let ys = met_list (occurrences t) xs in
      let others = tells_all ts ys u.1 one.all_fit in
      let joined = met_list-append (occurrences t) (occurrences_all ts) xs in
      record {
        term_is =
            ap (λ u. comp f u (told_all ts (after t (state xs)))) (one.term_is ∙ keeps t (occurrences_all ts) xs)
            ∙ ap (λ us. comp f (rename_by (Numbered (met_list (occurrences_all ts) ys)) t) us) (ap (told_all ts) one.after_is ∙ others.terms_are)
            ∙ ap (λ zs. rename_by (Numbered zs) (comp f t ts)) (sym joined);
        after_is = ap (after_all ts) one.after_is ∙ others.after_is ∙ ap state (sym joined);
        all_fit = ap (list_all fits) joined ∙ others.all_fit;
      }

  tells_all : (ts : Trees) (xs : List ℕ) → all_readable ts ≡ true → list_all fits xs ≡ true → AllTold ts xs
  tells_all none xs e all = record { terms_are = refl; after_is = refl; all_fit = all }
  tells_all (more t ts) xs e all =
      let u = both (is_readable t) (all_readable ts) e in
      let one = tells t xs u.0 all in
      let ys = met_list (occurrences t) xs in
      let others = tells_all ts ys u.1 one.all_fit in
      let joined = met_list-append (occurrences t) (occurrences_all ts) xs in
      record {
        terms_are =
            ap (λ u. more u (told_all ts (after t (state xs)))) (one.term_is ∙ keeps t (occurrences_all ts) xs)
            ∙ ap (λ us. more (rename_by (Numbered (met_list (occurrences_all ts) ys)) t) us) (ap (told_all ts) one.after_is ∙ others.terms_are)
            ∙ ap (λ zs. rename_all_by (Numbered zs) (more t ts)) (sym joined);
        after_is = ap (after_all ts) one.after_is ∙ others.after_is ∙ ap state (sym joined);
        all_fit = ap (list_all fits) joined ∙ others.all_fit;
      }

-- Where nothing was met before.
abbrev pub nothing_met : Met
nothing_met = ([], 0)

pub told-variant : (t : Tree) → is_readable t ≡ true → IsVariant t (told t nothing_met)
unfolding state names_from
told-variant t e =
    let all = met_list (occurrences t) [] in
    let v = tells t [] e refl in
    record {
      to = λ x. place x all;
      back = λ n. get_or all n 0;
      becomes = sym v.term_is;
      one_to_one = λ x has_it. get_or-place x all (met-in x (occurrences t) [] has_it);
    }
