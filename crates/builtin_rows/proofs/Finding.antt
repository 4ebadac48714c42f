-- What is found in the table.
use Rattle.std.proofs.Common.{◌≡◌, ◌≢◌, ◌<◌, ◌≤◌, ◌+◌, ℕ, zero, suc, Bool, true, false, cond, ◌==◌, ◌&&◌, List, [], ◌∷◌, ◌++◌, length, drop, get_or, Option, Some, None, refl, sym, ap, subst, ◌∙◌, arith}
use Rattle.std.specs.List.{list_all}
use Rattle.std.specs.Prelude.{map, option_map}
use Rattle.std.proofs.lemmas.Bool.{false≢true, eq-eqb, ne_eqb}
use Rattle.std.proofs.lemmas.Bool.Decides.{Decides-eqb}
use Rattle.pl_model.specs.declared.system.PredicateKind.{PredicateKind}
use Rattle.atom_api.specs.Fixed.{fixed, fixed_texts}
use Rattle.builtin_rows.specs.declared.predicates.Meaning.{Meaning}
use Rattle.builtin_rows.specs.declared.predicates.Meaning.TheVariants.{Row, Asks, Steps}
use Rattle.builtin_rows.specs.Predicates.{name_of, arity_of, kind_of}
use Rattle.builtin_rows.specs.Tables.{with_count, rows_of, table, predicate_at}
use Rattle.builtin_rows.specs.Laws.{IsNamed}
use Rattle.std.specs.Borrow.{Bor}
use Rattle.builtin_rows.proofs.Numbered.{both, Numbered, kind_at, is_text, text_is}

-- A predicate of the table, with the number of its name.
record Found : Type 0 where
  name : ℕ
  arity : ℕ
  meaning : Meaning

abbrev found_at : ℕ → ℕ → List Found → Option Meaning
found_at a n [] = None
found_at a n (e ∷ es) = cond ((a == e.name) && (n == e.arity)) (Some e.meaning) (found_at a n es)

abbrev named : ℕ → List (ℕ × Meaning) → List Found
named k [] = []
named k (r ∷ rs) = record { name = k; arity = r.0; meaning = r.1 } ∷ named k rs

abbrev all_named : ℕ → List (List (ℕ × Meaning)) → List Found
all_named k [] = []
all_named k (r ∷ rs) = named k r ++ all_named (suc k) rs

-- one row, and what comes after it
same_count : (n m : ℕ) → (m == n) ≡ (n == m)
same_count n m = go (n == m) refl
  where
    go : (b : Bool) → (n == m) ≡ b → (m == n) ≡ b
    go true e = eq-eqb m n (sym ((Decides-eqb n m).0 e))
    go false e = ne_eqb m n (λ same. false≢true (sym e ∙ eq-eqb n m (sym same)))

abbrev first_of : Option Meaning → Option Meaning → Option Meaning
first_of None o = o
first_of (Some p) o = Some p

in_row : (k n : ℕ) (rs : List (ℕ × Meaning)) (es : List Found) → found_at k n (named k rs ++ es) ≡ first_of (with_count n rs) (found_at k n es)
in_row k n [] es = refl
in_row k n (r ∷ rs) es =
    ap (λ b. cond (b && (n == r.0)) (Some r.1) (found_at k n (named k rs ++ es))) (eq-eqb k k refl)
    ∙ ap (λ b. cond b (Some r.1) (found_at k n (named k rs ++ es))) (sym (same_count n r.0))
    ∙ go (r.0 == n) (in_row k n rs es)
  where
    go : (b : Bool) → found_at k n (named k rs ++ es) ≡ first_of (with_count n rs) (found_at k n es)
        → cond b (Some r.1) (found_at k n (named k rs ++ es)) ≡ first_of (cond b (Some r.1) (with_count n rs)) (found_at k n es)
    go true rest = refl
    go false rest = rest

other_row : (a k n : ℕ) (rs : List (ℕ × Meaning)) (es : List Found) → a ≢ k → found_at a n (named k rs ++ es) ≡ found_at a n es
other_row a k n [] es other = refl
other_row a k n (r ∷ rs) es other =
    ap (λ b. cond (b && (n == r.0)) (Some r.1) (found_at a n (named k rs ++ es))) (ne_eqb a k other) ∙ other_row a k n rs es other

none_later : (a k n : ℕ) (rows : List (List (ℕ × Meaning))) → a < k → found_at a n (all_named k rows) ≡ None
none_later a k n [] low = refl
none_later a k n (r ∷ rs) low =
    other_row a k n r (all_named (suc k) rs) (λ same. absurd (omega (arith, same, low))) ∙ none_later a (suc k) n rs (omega (arith, low))

or_none : (o : Option Meaning) → first_of o None ≡ o
or_none None = refl
or_none (Some p) = refl

at_row : (k j n : ℕ) (rows : List (List (ℕ × Meaning))) (a : ℕ) → a ≡ k + j → found_at a n (all_named k rows) ≡ with_count n (get_or rows j [])
at_row k j n [] a e = refl
at_row k zero n (r ∷ rs) a e =
    let here : a ≡ k = omega (arith, e) in
    ap (λ b. found_at b n (named k r ++ all_named (suc k) rs)) here
    ∙ in_row k n r (all_named (suc k) rs)
    ∙ ap (first_of (with_count n r)) (none_later k (suc k) n rs (omega arith))
    ∙ or_none (with_count n r)
at_row k (suc j) n (r ∷ rs) a e =
    other_row a k n r (all_named (suc k) rs) (λ same. absurd (omega (arith, same, e))) ∙ at_row (suc k) j n rs a (omega (arith, e))

abbrev found : List Found
found = all_named zero table

table_found : (a n : ℕ) → found_at a n found ≡ predicate_at a n
table_found a n = at_row zero a n table a (omega arith)

-- by their kinds
abbrev numbered : Found → Numbered
numbered e = record { name = e.name; arity = e.arity; kind = kind_of e.meaning }

abbrev kind_of_found : Option Meaning → Option PredicateKind
kind_of_found o = option_map kind_of o

kinds_found : (a n : ℕ) (es : List Found) → kind_at a n (map numbered es) ≡ kind_of_found (found_at a n es)
kinds_found a n [] = refl
kinds_found a n (e ∷ es) = go ((a == e.name) && (n == e.arity)) (kinds_found a n es)
  where
    go : (b : Bool) → kind_at a n (map numbered es) ≡ kind_of_found (found_at a n es)
        → cond b (Some (kind_of e.meaning)) (kind_at a n (map numbered es)) ≡ kind_of_found (cond b (Some e.meaning) (found_at a n es))
    go true rest = refl
    go false rest = rest

abbrev pub table_numbers : List Numbered
table_numbers = map numbered found

pub table_kind : (a n : ℕ) → kind_at a n table_numbers ≡ option_map kind_of (predicate_at a n)
table_kind a n = kinds_found a n found ∙ ap kind_of_found (table_found a n)

-- Names and numbers of arguments.
abbrev is_right_of : ℕ → ℕ → Meaning → Bool
is_right_of a n (Row p) = is_text (fixed a) (name_of p) && (n == arity_of p)
is_right_of a n Asks = true
is_right_of a n Steps = true

abbrev is_right : Found → Bool
is_right e = is_right_of e.name e.arity e.meaning

right_named : (a n : ℕ) (w : Meaning) → is_right_of a n w ≡ true → IsNamed a n (Some w)
right_named a n (Row p) e =
    let at : (is_text (fixed a) (name_of p) ≡ true) × ((n == arity_of p) ≡ true) = both (is_text (fixed a) (name_of p)) (n == arity_of p) e in
    (text_is (fixed a) (name_of p) at.0, (Decides-eqb n (arity_of p)).0 at.1)
right_named a n Asks e = tt
right_named a n Steps e = tt

named_in : (a n : ℕ) (es : List Found) → list_all is_right es ≡ true → IsNamed a n (found_at a n es)
named_in a n [] all = tt
named_in a n (e ∷ es) all =
    let here : (is_right e ≡ true) × (list_all is_right es ≡ true) = both (is_right e) (list_all is_right es) all in
    go (right_named e.name e.arity e.meaning here.0) (named_in a n es here.1) (a == e.name) refl (n == e.arity) refl
  where
    go : IsNamed e.name e.arity (Some e.meaning) → IsNamed a n (found_at a n es)
        → (b : Bool) → (a == e.name) ≡ b → (c : Bool) → (n == e.arity) ≡ c → IsNamed a n (cond (b && c) (Some e.meaning) (found_at a n es))
    go named rest true x true y =
        subst (λ b. IsNamed b n (Some e.meaning)) (sym ((Decides-eqb a e.name).0 x))
        (subst (λ m. IsNamed e.name m (Some e.meaning)) (sym ((Decides-eqb n e.arity).0 y)) named)
    go named rest true x false y = rest
    go named rest false x c y = rest

all_right : list_all is_right found ≡ true
unfolding table fixed_texts
all_right = refl

pub table_named : (a n : ℕ) → IsNamed a n (predicate_at a n)
table_named a n = rw (sym (table_found a n)) (named_in a n found all_right)

-- The rows of a name one by one.
pub count_here : (n : ℕ) (rs : List (ℕ × Meaning)) (i : ℕ) (d : ℕ × Meaning) → i < length rs → (get_or rs i d).0 ≡ n → with_count n (drop i rs) ≡ Some (get_or rs i d).1
count_here n [] i d low is = absurd (omega (arith, low))
count_here n (r ∷ rs) zero d low is = ap (λ b. cond b (Some r.1) (with_count n rs)) (eq-eqb r.0 n is)
count_here n (r ∷ rs) (suc i) d low is = count_here n rs i d (omega (arith, low)) is

pub count_past : (n : ℕ) (rs : List (ℕ × Meaning)) (i : ℕ) (d : ℕ × Meaning) → i < length rs → (get_or rs i d).0 ≢ n → with_count n (drop i rs) ≡ with_count n (drop (suc i) rs)
count_past n [] i d low other = absurd (omega (arith, low))
count_past n (r ∷ rs) zero d low other = ap (λ b. cond b (Some r.1) (with_count n rs)) (ne_eqb r.0 n other)
count_past n (r ∷ rs) (suc i) d low other = count_past n rs i d (omega (arith, low)) other

pub count_none : (n : ℕ) (rs : List (ℕ × Meaning)) (i : ℕ) → length rs ≤ i → with_count n (drop i rs) ≡ None
count_none n [] zero past = refl
count_none n [] (suc i) past = refl
count_none n (r ∷ rs) zero past = absurd (omega (arith, past))
count_none n (r ∷ rs) (suc i) past = count_none n rs i (omega (arith, past))

pub row_now : (rows : List (Bor (List (ℕ × Meaning)))) (i : ℕ) (d : Bor (List (ℕ × Meaning))) → d.now ≡ [] → (get_or rows i d).now ≡ get_or (rows_of rows) i []
row_now [] i d e = e
row_now (r ∷ rs) zero d e = refl
row_now (r ∷ rs) (suc i) d e = row_now rs i d e

pub no_row : (rows : List (Bor (List (ℕ × Meaning)))) (i : ℕ) → length rows ≤ i → get_or (rows_of rows) i [] ≡ []
no_row [] i past = refl
no_row (r ∷ rs) zero past = absurd (omega (arith, past))
no_row (r ∷ rs) (suc i) past = no_row rs i (omega (arith, past))
