-- Texts are in the order of their bytes in UTF-8.
use Rattle.std.proofs.Common.{rules, ◌≡◌, ◌<◌, ◌≤◌, ◌+◌, ◌/◌, ◌%◌, ℕ, List, [], ◌∷◌, ◌++◌, refl, sym, ◌∙◌, ap, arith, ⊎_elim}
use Rattle.std.proofs.lemmas.Bool.{cases_lt, cond-true, cond-false}
use Rattle.std.proofs.lemmas.Bool.Decides.{nat_tests}
use Rattle.std.proofs.lemmas.Cmp.{ranked}
use Rattle.std.proofs.Math.Nat.{div-div-eq-div-mul}
use Rattle.std.specs.Cmp.{nat_cmp_is}
use Rattle.std.specs.Cmp.Lexicographic.{slice_cmp}
use Rattle.std.specs.Ordering.{nat_cmp, ordering_then, MatchOrdering}
use Rattle.std.specs.declared.cmp.Ordering.{Ordering}
use Rattle.std.specs.declared.cmp.Ordering.TheVariants.{Less, Equal, Greater}
use Rattle.std.specs.Str.{IsUtf8, chars}
use Rattle.std.proofs.lemmas.Str.{encodes-chars}
use lib.Utf8.{encode, encodes, next}
use lib.Dec.{ltb}

pub then_assoc : (a b c : Ordering) → ordering_then (ordering_then a b) c ≡ ordering_then a (ordering_then b c)
then_assoc Less b c = refl
then_assoc Equal b c = refl
then_assoc Greater b c = refl

pub nat_cmp-less : (x y : ℕ) → x < y → nat_cmp x y ≡ Less
nat_cmp-less x y h = sym (nat_cmp_is x y Less h)

pub nat_cmp-greater : (x y : ℕ) → y < x → nat_cmp x y ≡ Greater
nat_cmp-greater x y h = sym (nat_cmp_is x y Greater h)

pub nat_cmp-same : (x y : ℕ) → x ≡ y → nat_cmp x y ≡ Equal
nat_cmp-same x y h = sym (nat_cmp_is x y Equal h)

pub nat_cmp-plus : (k x y : ℕ) → nat_cmp (k + x) (k + y) ≡ nat_cmp x y
nat_cmp-plus k x y = grind (arith, nat_tests)

digit_by : (x y : ℕ) (o p : Ordering)
    → MatchOrdering o (x / 64 < y / 64) (x / 64 ≡ y / 64) (y / 64 < x / 64)
    → MatchOrdering p (x % 64 < y % 64) (x % 64 ≡ y % 64) (y % 64 < x % 64)
    → ordering_then o p ≡ nat_cmp x y
digit_by x y Less p h k = nat_cmp_is x y Less (omega arith)
digit_by x y Greater p h k = nat_cmp_is x y Greater (omega arith)
digit_by x y Equal Less h k = nat_cmp_is x y Less (omega arith)
digit_by x y Equal Equal h k = nat_cmp_is x y Equal (omega arith)
digit_by x y Equal Greater h k = nat_cmp_is x y Greater (omega arith)

-- A number is compared by its digits at base 64.
digit : (x y : ℕ) → ordering_then (nat_cmp (x / 64) (y / 64)) (nat_cmp (next x) (next y)) ≡ nat_cmp x y
digit x y =
    ap (ordering_then (nat_cmp (x / 64) (y / 64))) (nat_cmp-plus 128 (x % 64) (y % 64))
    ∙ digit_by
    x
    y
    (nat_cmp (x / 64) (y / 64))
    (nat_cmp (x % 64) (y % 64))
    (ranked (x / 64) (y / 64) (nat_cmp (x / 64) (y / 64)) refl)
    (ranked (x % 64) (y % 64) (nat_cmp (x % 64) (y % 64)) refl)

digit_then : (x y : ℕ) (o : Ordering)
    → ordering_then (nat_cmp (x / 64) (y / 64)) (ordering_then (nat_cmp (next x) (next y)) o)
    ≡ ordering_then (nat_cmp x y) o
digit_then x y o =
    sym (then_assoc (nat_cmp (x / 64) (y / 64)) (nat_cmp (next x) (next y)) o)
    ∙ ap (λ p. ordering_then p o) (digit x y)

two_bytes : (k x y : ℕ) (o : Ordering)
    → ordering_then (nat_cmp (k + x / 64) (k + y / 64)) (ordering_then (nat_cmp (next x) (next y)) o)
    ≡ ordering_then (nat_cmp x y) o
two_bytes k x y o =
    ap (λ p. ordering_then p (ordering_then (nat_cmp (next x) (next y)) o)) (nat_cmp-plus k (x / 64) (y / 64))
    ∙ digit_then x y o

three_bytes : (k x y : ℕ) (o : Ordering)
    → ordering_then
    (nat_cmp (k + x / 4096) (k + y / 4096))
    (ordering_then (nat_cmp (next (x / 64)) (next (y / 64))) (ordering_then (nat_cmp (next x) (next y)) o))
    ≡ ordering_then (nat_cmp x y) o
three_bytes k x y o =
    ap
    (λ n. ordering_then
    (nat_cmp (k + n) (k + y / 4096))
    (ordering_then (nat_cmp (next (x / 64)) (next (y / 64))) (ordering_then (nat_cmp (next x) (next y)) o)))
    (sym (div-div-eq-div-mul x 64 64))
    ∙ ap
    (λ n. ordering_then
    (nat_cmp (k + x / 64 / 64) (k + n))
    (ordering_then (nat_cmp (next (x / 64)) (next (y / 64))) (ordering_then (nat_cmp (next x) (next y)) o)))
    (sym (div-div-eq-div-mul y 64 64))
    ∙ two_bytes k (x / 64) (y / 64) (ordering_then (nat_cmp (next x) (next y)) o)
    ∙ digit_then x y o

four_bytes : (k x y : ℕ) (o : Ordering)
    → ordering_then
    (nat_cmp (k + x / 262144) (k + y / 262144))
    (ordering_then
    (nat_cmp (next (x / 4096)) (next (y / 4096)))
    (ordering_then (nat_cmp (next (x / 64)) (next (y / 64))) (ordering_then (nat_cmp (next x) (next y)) o)))
    ≡ ordering_then (nat_cmp x y) o
four_bytes k x y o =
    let a : x / 262144 ≡ x / 64 / 4096 = sym (div-div-eq-div-mul x 64 4096) in
    let b : y / 262144 ≡ y / 64 / 4096 = sym (div-div-eq-div-mul y 64 4096) in
    let c : x / 4096 ≡ x / 64 / 64 = sym (div-div-eq-div-mul x 64 64) in
    let d : y / 4096 ≡ y / 64 / 64 = sym (div-div-eq-div-mul y 64 64) in
    rw (a, b, c, d)
    (three_bytes k (x / 64) (y / 64) (ordering_then (nat_cmp (next x) (next y)) o) ∙ digit_then x y o)

-- How many bytes a character takes.
data Size (c : ℕ) : Type 0 where
  one : c < 128 → Size c
  two : 128 ≤ c → c < 2048 → Size c
  three : 2048 ≤ c → c < 65536 → Size c
  four : 65536 ≤ c → Size c

size : (c : ℕ) → Size c
size c =
    ⊎_elim
    one
    (λ a. ⊎_elim
    (two a)
    (λ b. ⊎_elim (three b) four (cases_lt c 65536))
    (cases_lt c 2048))
    (cases_lt c 128)

encode_one : (c : ℕ) → c < 128 → encode c ≡ c ∷ []
unfolding encode
encode_one c h = cond-true (ltb c 128) _ _ (search (rules, h))

encode_two : (c : ℕ) → 128 ≤ c → c < 2048 → encode c ≡ (192 + c / 64) ∷ next c ∷ []
unfolding encode
encode_two c a h = cond-false (ltb c 128) _ _ (search (rules, a)) ∙ cond-true (ltb c 2048) _ _ (search (rules, h))

encode_three : (c : ℕ)
    → 2048 ≤ c
    → c < 65536
    → encode c ≡ (224 + c / 4096) ∷ next (c / 64) ∷ next c ∷ []
unfolding encode
encode_three c a h =
    let b : 128 ≤ c = omega arith in
    cond-false (ltb c 128) _ _ (search (rules, b))
    ∙ cond-false (ltb c 2048) _ _ (search (rules, a))
    ∙ cond-true (ltb c 65536) _ _ (search (rules, h))

encode_four : (c : ℕ)
    → 65536 ≤ c
    → encode c ≡ (240 + c / 262144) ∷ next (c / 4096) ∷ next (c / 64) ∷ next c ∷ []
unfolding encode
encode_four c a =
    let b : 128 ≤ c = omega arith in
    let d : 2048 ≤ c = omega arith in
    cond-false (ltb c 128) _ _ (search (rules, b))
    ∙ cond-false (ltb c 2048) _ _ (search (rules, d))
    ∙ cond-false (ltb c 65536) _ _ (search (rules, a))

-- The first byte decides.
below : (c d x y : ℕ) (xs ys bs es : List ℕ)
    → encode c ≡ x ∷ xs
    → encode d ≡ y ∷ ys
    → c < d
    → x < y
    → slice_cmp nat_cmp (encode c ++ bs) (encode d ++ es) ≡ ordering_then (nat_cmp c d) (slice_cmp nat_cmp bs es)
below c d x y xs ys bs es p q h k = rw (p, q, nat_cmp-less x y k, nat_cmp-less c d h)

above : (c d x y : ℕ) (xs ys bs es : List ℕ)
    → encode c ≡ x ∷ xs
    → encode d ≡ y ∷ ys
    → d < c
    → y < x
    → slice_cmp nat_cmp (encode c ++ bs) (encode d ++ es) ≡ ordering_then (nat_cmp c d) (slice_cmp nat_cmp bs es)
above c d x y xs ys bs es p q h k = rw (p, q, nat_cmp-greater x y k, nat_cmp-greater c d h)

head_by : (c d : ℕ) (bs es : List ℕ)
    → Size c
    → Size d
    → slice_cmp nat_cmp (encode c ++ bs) (encode d ++ es) ≡ ordering_then (nat_cmp c d) (slice_cmp nat_cmp bs es)
head_by c d bs es (one p) (one r) = rw (encode_one c p, encode_one d r)
head_by c d bs es (one p) (two r s) = below c d c (192 + d / 64) _ _ bs es (encode_one c p) (encode_two d r s) (omega arith) (omega arith)
head_by c d bs es (one p) (three r s) = below c d c (224 + d / 4096) _ _ bs es (encode_one c p) (encode_three d r s) (omega arith) (omega arith)
head_by c d bs es (one p) (four r) = below c d c (240 + d / 262144) _ _ bs es (encode_one c p) (encode_four d r) (omega arith) (omega arith)
head_by c d bs es (two p q) (one r) = above c d (192 + c / 64) d _ _ bs es (encode_two c p q) (encode_one d r) (omega arith) (omega arith)
head_by c d bs es (two p q) (two r s) = rw (encode_two c p q, encode_two d r s) (two_bytes 192 c d (slice_cmp nat_cmp bs es))
head_by c d bs es (two p q) (three r s) = below c d (192 + c / 64) (224 + d / 4096) _ _ bs es (encode_two c p q) (encode_three d r s) (omega arith) (omega arith)
head_by c d bs es (two p q) (four r) = below c d (192 + c / 64) (240 + d / 262144) _ _ bs es (encode_two c p q) (encode_four d r) (omega arith) (omega arith)
head_by c d bs es (three p q) (one r) = above c d (224 + c / 4096) d _ _ bs es (encode_three c p q) (encode_one d r) (omega arith) (omega arith)
head_by c d bs es (three p q) (two r s) = above c d (224 + c / 4096) (192 + d / 64) _ _ bs es (encode_three c p q) (encode_two d r s) (omega arith) (omega arith)
head_by c d bs es (three p q) (three r s) = rw (encode_three c p q, encode_three d r s) (three_bytes 224 c d (slice_cmp nat_cmp bs es))
head_by c d bs es (three p q) (four r) = below c d (224 + c / 4096) (240 + d / 262144) _ _ bs es (encode_three c p q) (encode_four d r) (omega arith) (omega arith)
head_by c d bs es (four p) (one r) = above c d (240 + c / 262144) d _ _ bs es (encode_four c p) (encode_one d r) (omega arith) (omega arith)
head_by c d bs es (four p) (two r s) = above c d (240 + c / 262144) (192 + d / 64) _ _ bs es (encode_four c p) (encode_two d r s) (omega arith) (omega arith)
head_by c d bs es (four p) (three r s) = above c d (240 + c / 262144) (224 + d / 4096) _ _ bs es (encode_four c p) (encode_three d r s) (omega arith) (omega arith)
head_by c d bs es (four p) (four r) = rw (encode_four c p, encode_four d r) (four_bytes 240 c d (slice_cmp nat_cmp bs es))

before_by : (c : ℕ) (bs : List ℕ) → Size c → slice_cmp nat_cmp [] (encode c ++ bs) ≡ Less
before_by c bs (one p) = rw (encode_one c p)
before_by c bs (two m p) = rw (encode_two c m p)
before_by c bs (three m p) = rw (encode_three c m p)
before_by c bs (four m) = rw (encode_four c m)

behind_by : (c : ℕ) (bs : List ℕ) → Size c → slice_cmp nat_cmp (encode c ++ bs) [] ≡ Greater
behind_by c bs (one p) = rw (encode_one c p)
behind_by c bs (two m p) = rw (encode_two c m p)
behind_by c bs (three m p) = rw (encode_three c m p)
behind_by c bs (four m) = rw (encode_four c m)

encodes_order : (cs ds : List ℕ) → slice_cmp nat_cmp (encodes cs) (encodes ds) ≡ slice_cmp nat_cmp cs ds
encodes_order [] [] = refl
encodes_order [] (d ∷ ds) = before_by d (encodes ds) (size d)
encodes_order (c ∷ cs) [] = behind_by c (encodes cs) (size c)
encodes_order (c ∷ cs) (d ∷ ds) =
    head_by c d (encodes cs) (encodes ds) (size c) (size d)
    ∙ ap (ordering_then (nat_cmp c d)) (encodes_order cs ds)

-- Texts in UTF-8 are in the order of their code points.
pub bytes_order : (bs ds : List ℕ)
    → IsUtf8 bs
    → IsUtf8 ds
    → slice_cmp nat_cmp bs ds ≡ slice_cmp nat_cmp (chars bs) (chars ds)
bytes_order bs ds b d =
    ap (λ xs. slice_cmp nat_cmp xs ds) (sym (encodes-chars bs b))
    ∙ ap (λ ys. slice_cmp nat_cmp (encodes (chars bs)) ys) (sym (encodes-chars ds d))
    ∙ encodes_order (chars bs) (chars ds)
