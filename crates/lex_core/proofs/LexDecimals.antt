-- Where skipping from decimal digits goes: after them, whether or not they are a good numeral. Faulty digits are
-- passed one by one, and after each of them stand fewer digits, which are faulty or a numeral.
use Rattle.std.proofs.Common.{◌≡◌, ℕ, ◌+◌, ◌^◌, ◌<◌, ◌≤◌, suc, zero, Bool, true, false, cond, nat_lt, ◌==◌, ◌&&◌, List, [], ◌∷◌, length, take, drop, slice_index, refl, sym, ap, subst, ◌∙◌, arith}
use Rattle.std.specs.Char.{is_ascii_digit, is_whitespace, digit_value}
use Rattle.std.specs.Str.Parse.{digits_value}
use Rattle.std.proofs.lemmas.Bool.{cond-false}
use Rattle.std.proofs.lemmas.Bool.Decides.{nat_tests}
use Rattle.std.proofs.lemmas.List.{length-drop, drop-drop}
use Rattle.pl_model.specs.declared.syntax.SyntaxKind.TheVariants.{FloatNumeral, IntegerTooLarge}
use Rattle.pl_model.specs.declared.lexical.Begins.TheVariants.{Digit}
use Rattle.pl_model.specs.declared.lexical.Reading.{Reading}
use Rattle.pl_model.specs.declared.lexical.Reading.TheVariants.{Token, Fault}
use Rattle.pl_model.specs.declared.lexical.TokenKind.TheVariants.{Integer}
use Rattle.pl_model.specs.declared.skipping.Passing.TheVariants.{Through}
use Rattle.pl_model.specs.Tokens.{Front, nothing, scalar, broken, front, run, blank_at, stops}
use Rattle.pl_model.specs.LexicalCharacters.{begins, is_quote}
use Rattle.pl_model.specs.LexicalQuoted.{is_digit, digit_count}
use Rattle.pl_model.specs.LexicalTokens.{decimal_constant, radix_constant, character_code, radix_of, numeral, token_of}
use Rattle.pl_model.specs.Skipping.{begins_code, behind_fault, behind_reading, behind_blank, passing, skip, character_size, whole, quoted_size}
use Rattle.pl_model.proofs.CharacterRuns.{front-ascii, run-passes, run-stops, run-broken, run-within}
use Rattle.pl_model.proofs.LexicalPlaces.{token_front-scalar}
use Rattle.pl_model.proofs.SkippingPlaces.{skip-through}
use Rattle.pl_model.proofs.TokenPlaces.{blank-scalar}
use Rattle.lex_core.specs.Skips.{BeginsDecimal}
use Rattle.lex_core.proofs.LexPassing.{front-low}

-- A digit and what stands after it.
record Digits (bs : List ℕ) (n : ℕ) : Type 0 where
  pub first : ℕ
  pub rest : List ℕ
  pub is : bs ≡ first ∷ rest
  pub low : 48 ≤ first
  pub high : first ≤ 57
  pub front : front (first ∷ rest) ≡ scalar first 1
  pub count : digit_count 10 rest ≡ n

digit_range : (c : ℕ) → is_digit 10 c ≡ true → (48 ≤ c) × (c ≤ 57)
digit_range c e = (grind (arith, nat_tests), grind (arith, nat_tests))

digit_low : (c : ℕ) → 48 ≤ c → c ≤ 57 → nat_lt c 128 ≡ true
digit_low c low high = grind (arith, nat_tests)

digit_passes : (c : ℕ) → 48 ≤ c → c ≤ 57 → is_digit 10 c ≡ true
digit_passes c low high = grind (arith, nat_tests)

head_is : (b c : ℕ) (bs : List ℕ) → slice_index (b ∷ bs) 0 ≡ c → b ≡ c
head_is b c bs e = e

digits_some : (bs : List ℕ) (c k n : ℕ) → front bs ≡ scalar c k → is_digit 10 c ≡ true → digit_count 10 bs ≡ suc n → Digits bs n
digits_some [] c k n at digit count = cc
digits_some (b ∷ bs) c k n at digit count =
    let range = digit_range c digit in
    let same : b ≡ c = head_is b c bs (front-low (b ∷ bs) c k at (omega (arith, range.1))) in
    let low : 48 ≤ b = omega (arith, range.0) in
    let high : b ≤ 57 = omega (arith, range.1) in
    let one : front (b ∷ bs) ≡ scalar b 1 = front-ascii b bs (digit_low b low high) in
    let more : digit_count 10 (b ∷ bs) ≡ 1 + digit_count 10 bs = run-passes (is_digit 10) (b ∷ bs) b 1 one (digit_passes b low high) in
    record { first = b; rest = bs; is = refl; low = low; high = high; front = one; count = omega arith }

digits_by : (t : Bool) (bs : List ℕ) (c k n : ℕ) → front bs ≡ scalar c k → is_digit 10 c ≡ t → digit_count 10 bs ≡ suc n → Digits bs n
digits_by true bs c k n at digit count = digits_some bs c k n at digit count
digits_by false bs c k n at other count = absurd (omega (arith, run-stops (is_digit 10) bs c k at other))

digits_front : (bs : List ℕ) (n : ℕ) (f : Front) → front bs ≡ f → digit_count 10 bs ≡ suc n → Digits bs n
digits_front [] n f at count = cc
digits_front (b ∷ bs) n nothing at count = absurd (omega (arith, run-broken_or b bs at)) where
  run-broken_or : (b : ℕ) (bs : List ℕ) → front (b ∷ bs) ≡ nothing → run (is_digit 10) 0 (b ∷ bs) ≡ 0
  run-broken_or b bs e = rw (run, e) refl
digits_front (b ∷ bs) n (scalar c k) at count = digits_by (is_digit 10 c) (b ∷ bs) c k n at refl count
digits_front (b ∷ bs) n broken at count = absurd (omega (arith, run-broken (is_digit 10) (b ∷ bs) at))

digits_of : (bs : List ℕ) (n : ℕ) → digit_count 10 bs ≡ suc n → Digits bs n
digits_of bs n count = digits_front bs n (front bs) refl count

-- What is passed at decimal digits.

no_layout : (b : ℕ) (bs : List ℕ) → 48 ≤ b → b ≤ 57 → blank_at (b ∷ bs) b 1 ≡ stops
no_layout b bs low high =
    let white : is_whitespace b ≡ false = grind (arith, nat_tests) in
    let percent : (b == 37) ≡ false = grind (arith, nat_tests) in
    let slash : (b == 47) ≡ false = grind (arith, nat_tests) in
    cond-false (is_whitespace b) _ _ white ∙ cond-false (b == 37) _ _ percent
    ∙ cond-false ((b == 47) && (slice_index (b ∷ bs) 1 == 42)) _ _ (ap (λ t. t && (slice_index (b ∷ bs) 1 == 42)) slash)

begins_digit : (b : ℕ) → 48 ≤ b → b ≤ 57 → begins b ≡ Digit
begins_digit b low high = grind (arith, nat_tests)

no_quote : (b : ℕ) → 48 ≤ b → b ≤ 57 → is_quote b ≡ false
no_quote b low high = grind (arith, nat_tests)

-- No character code and no constant of another radix.
record Plain (bs : List ℕ) : Type 0 where
  pub code : begins_code bs ≡ false
  pub radix : ((slice_index bs 0 == 48) && is_digit (radix_of (slice_index bs 1)) (slice_index bs 2)) ≡ false

decimal-numeral : (bs : List ℕ) → Plain bs → numeral bs ≡ decimal_constant bs
decimal-numeral bs plain =
    cond-false _ (character_code (drop 2 bs)) _ plain.code
    ∙ cond-false _ (radix_constant (radix_of (slice_index bs 1)) bs) (decimal_constant bs) plain.radix

decimal-passing : (b : ℕ) (bs : List ℕ) → 48 ≤ b → b ≤ 57 → front (b ∷ bs) ≡ scalar b 1 → Plain (b ∷ bs)
    → passing (b ∷ bs) ≡ behind_reading (b ∷ bs) (decimal_constant (b ∷ bs))
decimal-passing b bs low high at plain =
    ap (behind_blank (b ∷ bs)) (blank-scalar (b ∷ bs) b 1 at ∙ no_layout b bs low high)
    ∙ ap (behind_reading (b ∷ bs))
    (token_front-scalar false (b ∷ bs) b 1 at ∙ ap (λ class. token_of false (b ∷ bs) class b 1) (begins_digit b low high)
    ∙ decimal-numeral (b ∷ bs) plain)

size-front : (bs : List ℕ) (c k : ℕ) → front bs ≡ scalar c k → character_size bs ≡ k
size-front bs c k e = rw (character_size, e) refl

fault-passing : (b : ℕ) (bs : List ℕ) → 48 ≤ b → b ≤ 57 → front (b ∷ bs) ≡ scalar b 1 → Plain (b ∷ bs) → behind_fault (b ∷ bs) ≡ Through 1
fault-passing b bs low high at plain =
    cond-false (is_quote b) (whole (quoted_size (b ∷ bs))) _ (no_quote b low high)
    ∙ cond-false (begins_code (b ∷ bs)) (Through (2 + character_size (drop 2 (b ∷ bs)))) (Through (character_size (b ∷ bs))) plain.code
    ∙ ap (λ n. Through n) (size-front (b ∷ bs) b 1 at)

-- After the first of several digits the others stand; of two digits the second is alone only before a full stop.

first_false : (a b : Bool) → a ≡ false → (a && b) ≡ false
first_false true b e = cc
first_false false b e = refl

second_false : (a b : Bool) → b ≡ false → (a && b) ≡ false
second_false true b e = e
second_false false b e = refl

no_radix : (r x : ℕ) → r ≡ 0 → nat_lt x r ≡ false
no_radix r x e = grind (arith, nat_tests)

plain_by : (b c : ℕ) (bs : List ℕ) → (c == 39) ≡ false → radix_of c ≡ 0 → Plain (b ∷ c ∷ bs)
plain_by b c bs quote letter =
    record {
      code = second_false (b == 48) ((c == 39) && nat_lt 2 (length (b ∷ c ∷ bs))) (first_false (c == 39) (nat_lt 2 (length (b ∷ c ∷ bs))) quote);
      radix = second_false (b == 48) (is_digit (radix_of c) (slice_index (b ∷ c ∷ bs) 2)) (no_radix (radix_of c) (digit_value (slice_index (b ∷ c ∷ bs) 2)) letter);
    }

plain_digit : (d : ℕ) → 48 ≤ d → d ≤ 57 → ((d == 39) ≡ false) × (radix_of d ≡ 0)
plain_digit d low high = (grind (arith, nat_tests), grind (arith, nat_tests))

plain_stop : (d : ℕ) → (d == 46) ≡ true → ((d == 39) ≡ false) × (radix_of d ≡ 0)
plain_stop d e = (grind (arith, nat_tests), grind (arith, nat_tests))

left : (a b : Bool) → (a && b) ≡ true → a ≡ true
left true b e = refl
left false b e = cc

digit_most : (b : ℕ) → 48 ≤ b → b ≤ 57 → digit_value b ≤ 9
digit_most b low high = grind (arith, nat_tests)

two_digits : (a b : ℕ) (bs : List ℕ) → 48 ≤ a → a ≤ 57 → 48 ≤ b → b ≤ 57 → nat_lt (2 ^ 63) (digits_value 10 (take 2 (a ∷ b ∷ bs))) ≡ false
two_digits a b bs la ha lb hb =
    let x = digit_most a la ha in
    let y = digit_most b lb hb in
    let small : digits_value 10 (a ∷ b ∷ []) ≤ 2 ^ 63 = omega arith in
    grind (arith, nat_tests)

plain-behind : (e : ℕ) (more : List ℕ) (m : ℕ) → digit_count 10 more ≡ m → (m ≡ 0 → (slice_index more 0 == 46) ≡ true) → Plain (e ∷ more)
plain-behind e [] zero count stop = let no : (slice_index [] 0 == 46) ≡ true = stop refl in cc
plain-behind e (f ∷ fs) zero count stop = let p = plain_stop f (stop refl) in plain_by e f fs p.0 p.1
plain-behind e more (suc m) count stop =
    let d = digits_of more m count in
    let p = plain_digit d.first d.low d.high in
    subst (λ ds. Plain (e ∷ ds)) (sym d.is) (plain_by e d.first d.rest p.0 p.1)

-- The decimal constant at the front is passed whole, or by its first digit.
data Step (bs : List ℕ) (n : ℕ) : Type 0 where
  all_of : passing bs ≡ Through (suc n) → Step bs n
  one_of : passing bs ≡ Through 1 → ((m : ℕ) → n ≡ suc m → Plain (drop 1 bs)) → Step bs n

large : List ℕ → Bool
large bs = nat_lt (2 ^ 63) (digits_value 10 (take (digit_count 10 bs) bs))

fraction : List ℕ → Bool
fraction bs = (slice_index bs (digit_count 10 bs) == 46) && is_ascii_digit (slice_index bs (digit_count 10 bs + 1))

abbrev constant : Bool → Bool → List ℕ → Reading
constant t u bs =
    cond t (Fault IntegerTooLarge 0) (cond u (Fault FloatNumeral 0) (Token (Integer (digits_value 10 (take (digit_count 10 bs) bs))) (digit_count 10 bs)))

constant-is : (bs : List ℕ) → decimal_constant bs ≡ constant (large bs) (fraction bs) bs
unfolding large fraction
constant-is bs = refl

not_large : (a : ℕ) (rest : List ℕ) → 48 ≤ a → a ≤ 57 → digit_count 10 (a ∷ rest) ≡ 2 → digit_count 10 rest ≡ 1 → large (a ∷ rest) ≡ false
unfolding large
not_large a rest low high two one =
    let d = digits_of rest 0 one in
    ap (λ k. nat_lt (2 ^ 63) (digits_value 10 (take k (a ∷ rest)))) two
    ∙ ap (λ ds. nat_lt (2 ^ 63) (digits_value 10 (take 2 (a ∷ ds)))) d.is
    ∙ two_digits a d.first d.rest low high d.low d.high

stop_behind : (a e : ℕ) (more : List ℕ) → digit_count 10 (a ∷ e ∷ more) ≡ 2 → fraction (a ∷ e ∷ more) ≡ true → (slice_index more 0 == 46) ≡ true
unfolding fraction
stop_behind a e more two is =
    ap (λ k. slice_index (a ∷ e ∷ more) k == 46) (sym two)
    ∙ left (slice_index (a ∷ e ∷ more) (digit_count 10 (a ∷ e ∷ more)) == 46) (is_ascii_digit (slice_index (a ∷ e ∷ more) (digit_count 10 (a ∷ e ∷ more) + 1))) is

rest-plain : (t : Bool) (a : ℕ) (rest : List ℕ) (n m : ℕ) → 48 ≤ a → a ≤ 57 → digit_count 10 (a ∷ rest) ≡ suc n → digit_count 10 rest ≡ n → n ≡ suc m
    → large (a ∷ rest) ≡ t → (t ≡ false → fraction (a ∷ rest) ≡ true) → Plain rest
rest-plain t a rest n m low high count behind is big small =
    let d = digits_of rest m (behind ∙ is) in
    subst Plain (sym d.is) (plain-behind d.first d.rest m d.count (stops t d.first d.rest d.is big small))
  where
    stops : (t : Bool) (e : ℕ) (more : List ℕ) → rest ≡ e ∷ more → large (a ∷ rest) ≡ t → (t ≡ false → fraction (a ∷ rest) ≡ true)
        → m ≡ 0 → (slice_index more 0 == 46) ≡ true
    stops true e more is' big small none =
        let no : large (a ∷ rest) ≡ false = not_large a rest low high (omega (arith, count, is)) (omega (arith, behind, is)) in cc
    stops false e more is' big small none =
        stop_behind a e more (ap (λ ds. digit_count 10 (a ∷ ds)) (sym is') ∙ count ∙ omega (arith, is))
        (ap (λ ds. fraction (a ∷ ds)) (sym is') ∙ small refl)

step-by : (t u : Bool) (a : ℕ) (rest : List ℕ) (n : ℕ) → 48 ≤ a → a ≤ 57 → front (a ∷ rest) ≡ scalar a 1 → Plain (a ∷ rest)
    → digit_count 10 (a ∷ rest) ≡ suc n → digit_count 10 rest ≡ n → large (a ∷ rest) ≡ t → fraction (a ∷ rest) ≡ u → Step (a ∷ rest) n
step-by true u a rest n low high at plain count behind big small =
    let fault = fault-passing a rest low high at plain in
    one_of
    (decimal-passing a rest low high at plain ∙ ap (behind_reading (a ∷ rest)) (constant-is (a ∷ rest) ∙ ap (λ b. constant b (fraction (a ∷ rest)) (a ∷ rest)) big) ∙ fault)
    (λ m is. rest-plain true a rest n m low high count behind is big (λ e. cc))
step-by false true a rest n low high at plain count behind big small =
    let fault = fault-passing a rest low high at plain in
    one_of
    (decimal-passing a rest low high at plain
    ∙ ap (behind_reading (a ∷ rest)) (constant-is (a ∷ rest) ∙ ap (λ b. constant b (fraction (a ∷ rest)) (a ∷ rest)) big ∙ ap (λ b. constant false b (a ∷ rest)) small) ∙ fault)
    (λ m is. rest-plain false a rest n m low high count behind is big (λ e. small))
step-by false false a rest n low high at plain count behind big small =
    all_of
    (decimal-passing a rest low high at plain
    ∙ ap (behind_reading (a ∷ rest)) (constant-is (a ∷ rest) ∙ ap (λ b. constant b (fraction (a ∷ rest)) (a ∷ rest)) big ∙ ap (λ b. constant false b (a ∷ rest)) small)
    ∙ ap (λ k. Through k) count)

step-of : (bs : List ℕ) (n : ℕ) → Plain bs → digit_count 10 bs ≡ suc n → Step bs n
step-of bs n plain count =
    let d = digits_of bs n count in
    subst (λ ds. Step ds n) (sym d.is)
    (step-by (large (d.first ∷ d.rest)) (fraction (d.first ∷ d.rest)) d.first d.rest n d.low d.high d.front (subst Plain d.is plain)
    (ap (digit_count 10) (sym d.is) ∙ count) d.count refl refl)

digits-lie : (text : List ℕ) (at n : ℕ) → digit_count 10 (drop at text) ≡ suc n → (at < length text) × (at + suc n ≤ length text)
digits-lie text at n count =
    let within = run-within (is_digit 10) 0 (drop at text) in
    (omega (arith, within, count, length-drop at text), omega (arith, within, count, length-drop at text))

behind_one : (bs : List ℕ) (n : ℕ) → digit_count 10 bs ≡ suc n → digit_count 10 (drop 1 bs) ≡ n
behind_one bs n count = let d = digits_of bs n count in ap (λ ds. digit_count 10 (drop 1 ds)) d.is ∙ d.count

decimal-step : (text : List ℕ) (at n : ℕ) → digit_count 10 (drop at text) ≡ suc n → Step (drop at text) n
    → ((m : ℕ) → n ≡ suc m → Plain (drop 1 (drop at text)) → skip text (at + 1) ≡ skip text (at + 1 + n)) → skip text at ≡ skip text (at + suc n)
decimal-step text at n count (all_of e) later =
    let lies = digits-lie text at n count in skip-through text at (suc n) lies.0 (omega arith) lies.1 e
decimal-step text at zero count (one_of e plain) later =
    let lies = digits-lie text at 0 count in skip-through text at 1 lies.0 (omega arith) lies.1 e
decimal-step text at (suc m) count (one_of e plain) later =
    let lies = digits-lie text at (suc m) count in
    skip-through text at 1 lies.0 (omega arith) (omega (arith, lies.1)) e ∙ later m refl (plain m refl) ∙ ap (skip text) (omega arith)

decimal-run : (n : ℕ) (text : List ℕ) (at : ℕ) → Plain (drop at text) → digit_count 10 (drop at text) ≡ suc n → skip text at ≡ skip text (at + suc n)
decimal-run zero text at plain count = decimal-step text at 0 count (step-of (drop at text) 0 plain count) (λ m is p. cc)
decimal-run (suc n) text at plain count =
    decimal-step text at (suc n) count (step-of (drop at text) (suc n) plain count)
    (λ m is p. decimal-run n text (at + 1) (subst Plain (drop-drop 1 at text) p) (ap (digit_count 10) (sym (drop-drop 1 at text)) ∙ behind_one (drop at text) (suc n) count))

pub decimal-skips : (text : List ℕ) (at : ℕ) (bs : List ℕ) (n : ℕ) → bs ≡ drop at text → at < length text → 0 < n → BeginsDecimal bs n
    → (0 < n) × (at + n ≤ length text) × (skip text at ≡ skip text (at + n))
decimal-skips text at bs zero is h some begins = absurd (omega arith)
decimal-skips text at bs (suc n) is h some begins =
    let count : digit_count 10 (drop at text) ≡ suc n = ap (digit_count 10) (sym is) ∙ begins.digits in
    let plain : Plain bs = record { code = begins.code; radix = begins.radix } in
    (some, (digits-lie text at n count).1, decimal-run n text at (subst Plain is plain) count)
