-- Each kind of token is read as itself.
use Rattle.std.proofs.Common.{◌≡◌, ℕ, ◌+◌, ◌^◌, ◌<◌, ◌≤◌, suc, Bool, true, false, cond, nat_lt, ◌==◌, ◌&&◌, ◌||◌, codes, List, [], ◌∷◌, ◌++◌, length, take, drop, slice_index, append_assoc, refl, sym, ap, subst, ◌∙◌, arith}
use Rattle.std.specs.Char.{encode_utf8, digit_value, is_ascii_digit, is_ascii_lowercase, is_whitespace}
use Rattle.std.specs.Str.{chars, is_utf8, continuation_len, all_scalars, encode_utf8_all}
use Rattle.std.specs.Str.Parse.{AllDigits, IsNumeral, digits_value}
use Rattle.std.specs.List.{list_all, list_any}
use Rattle.std.specs.Fmt.{decimal}
use Rattle.std.proofs.lemmas.Bool.{cond-true, cond-false}
use Rattle.std.proofs.lemmas.Bool.Decides.{nat_tests}
use Rattle.std.proofs.lemmas.List.{length-append, append-nil}
use Rattle.std.proofs.lemmas.Str.{chars-encodes, encode_ascii, length-le-encodes}
use Rattle.std.proofs.lemmas.Str.Parse.{digit_from_value, tells_digits, numerals_by_value}
use Rattle.std.proofs.lemmas.Fmt.{digits_decimal, digits_value-decimal, decimal_nonempty}
use Rattle.std.proofs.Math.Seq.{take-append_seam, drop-append_seam}
use Rattle.unicode_ident.specs.Ident.{is_xid_start}
use Rattle.pl_model.specs.declared.syntax.SyntaxKind.TheVariants.{FloatNumeral, IntegerTooLarge}
use Rattle.pl_model.specs.declared.lexical.Begins.{Begins}
use Rattle.pl_model.specs.declared.lexical.Begins.TheVariants.{Name as NameBegins, Variable as VariableBegins, Digit, Symbol, Other}
use Rattle.pl_model.specs.declared.lexical.Mark.TheVariants.{Close, OpenList, CloseList, OpenCurly, CloseCurly, Bar, Comma}
use Rattle.pl_model.specs.declared.lexical.TokenKind.TheVariants.{Name, Variable, Integer, Punctuation, EndToken}
use Rattle.pl_model.specs.declared.lexical.Reading.TheVariants.{Token, Fault}
use Rattle.pl_model.specs.Characters.{is_symbol, begins_name, continues_name, is_letter_name}
use Rattle.pl_model.specs.Tokens.{Front, nothing, scalar, broken, front, front_of, run, closes_clause}
use Rattle.pl_model.specs.LexicalCharacters.{begins, ascii_begins, is_solo}
use Rattle.pl_model.specs.LexicalQuoted.{is_digit, digit_count, begins_with}
use Rattle.pl_model.specs.LexicalTokens.{word_size, integer, character_code, radix_constant, radix_of, decimal_constant, numeral, token_of, token_front}
use Rattle.pl_model.specs.laws.LexicalLaws.{begins_variable, is_variable_name, EndsNumeral}
use Rattle.pl_model.proofs.CharacterRuns.{front-ascii, run-passes, run-stops}
use Rattle.pl_model.proofs.TokenPlaces.{closes_clause-scalar, closes_clause-broken}
use Rattle.pl_model.proofs.LexicalPlaces.{token_front-scalar}
use Rattle.pl_model.proofs.LexicalFronts.{front-encode}

both : (a b : Bool) → (a && b) ≡ true → (a ≡ true) × (b ≡ true)
both true b e = (refl, e)
both false b e = cc

-- Runs of characters.

run-encodes : (p : ℕ → Bool) (cs rest : List ℕ) → all_scalars cs ≡ true → list_all p cs ≡ true → run p 0 rest ≡ 0
    → run p 0 (encode_utf8_all cs ++ rest) ≡ length (encode_utf8_all cs)
run-encodes p [] rest scalars pass stops = stops
run-encodes p (c ∷ cs) rest scalars pass stops =
    let s = both _ (all_scalars cs) scalars in
    let t = both (p c) (list_all p cs) pass in
    let behind = encode_utf8_all cs ++ rest in
    let k = length (encode_utf8 c) in
    ap (run p 0) (append_assoc (encode_utf8 c) (encode_utf8_all cs) rest)
    ∙ run-passes p (encode_utf8 c ++ behind) c k (front-encode c behind s.0) t.0
    ∙ ap (λ bs. k + run p 0 bs) (drop-append_seam (encode_utf8 c) behind)
    ∙ ap (λ n. k + n) (run-encodes p cs rest s.1 t.1 stops)
    ∙ sym (length-append (encode_utf8 c) (encode_utf8_all cs))

-- Names and variables: a first character, and those that continue.
record ReadsWord (c : ℕ) (cs rest : List ℕ) : Type 0 where
  at_front : front (encode_utf8_all (c ∷ cs) ++ rest) ≡ scalar c (length (encode_utf8 c))
  size : word_size (length (encode_utf8 c)) (encode_utf8_all (c ∷ cs) ++ rest) ≡ length (encode_utf8_all (c ∷ cs))
  text : chars (take (length (encode_utf8_all (c ∷ cs))) (encode_utf8_all (c ∷ cs) ++ rest)) ≡ c ∷ cs

word-reads : (c : ℕ) (cs rest : List ℕ) → all_scalars (c ∷ cs) ≡ true → list_all continues_name cs ≡ true → run continues_name 0 rest ≡ 0 → ReadsWord c cs rest
word-reads c cs rest scalars pass stops =
    let s = both _ (all_scalars cs) scalars in
    let behind = encode_utf8_all cs ++ rest in
    let k = length (encode_utf8 c) in
    let joined = append_assoc (encode_utf8 c) (encode_utf8_all cs) rest in
    record {
      at_front = ap front joined ∙ front-encode c behind s.0;
      size =
          ap (λ bs. k + run continues_name 0 (drop k bs)) joined
          ∙ ap (λ bs. k + run continues_name 0 bs) (drop-append_seam (encode_utf8 c) behind)
          ∙ ap (λ n. k + n) (run-encodes continues_name cs rest s.1 pass stops)
          ∙ sym (length-append (encode_utf8 c) (encode_utf8_all cs));
      text = ap chars (take-append_seam (encode_utf8_all (c ∷ cs)) rest) ∙ chars-encodes (c ∷ cs) scalars;
    }

begins-name_by : (t l x : Bool) (more : Begins) → cond t l x ≡ true → cond t (cond l NameBegins more) (cond x NameBegins Other) ≡ NameBegins
begins-name_by true true x more e = refl
begins-name_by true false x more e = cc
begins-name_by false l true more e = refl
begins-name_by false l false more e = cc

begins-name : (c : ℕ) → begins_name c ≡ true → begins c ≡ NameBegins
begins-name c e = begins-name_by (nat_lt c 128) (is_ascii_lowercase c) (is_xid_start c) _ e

pub name-reads : (direct : Bool) (cs rest : List ℕ) → all_scalars cs ≡ true → is_letter_name cs ≡ true → run continues_name 0 rest ≡ 0
    → token_front direct (encode_utf8_all cs ++ rest) ≡ Token (Name cs) (length (encode_utf8_all cs))
name-reads direct [] rest scalars is stops = cc
name-reads direct (c ∷ cs) rest scalars is stops =
    let t = both (begins_name c) (list_all continues_name cs) is in
    let w = word-reads c cs rest scalars t.1 stops in
    let bs = encode_utf8_all (c ∷ cs) ++ rest in
    let k = length (encode_utf8 c) in
    token_front-scalar direct bs c k w.at_front
    ∙ ap (λ class. token_of direct bs class c k) (begins-name c t.0)
    ∙ ap (λ n. Token (Name (chars (take n bs))) n) w.size
    ∙ ap (λ ts. Token (Name ts) (length (encode_utf8_all (c ∷ cs)))) w.text

variable_tests : (c : ℕ) → begins_variable c ≡ true → (nat_lt c 128 ≡ true) × (is_ascii_lowercase c ≡ false)
variable_tests c e = (grind (arith, nat_tests), grind (arith, nat_tests))

begins-variable : (c : ℕ) → begins_variable c ≡ true → begins c ≡ VariableBegins
begins-variable c e =
    let t = variable_tests c e in
    cond-true (nat_lt c 128) (ascii_begins c) _ t.0 ∙ cond-false (is_ascii_lowercase c) NameBegins _ t.1 ∙ cond-true (begins_variable c) VariableBegins _ e

pub variable-reads : (direct : Bool) (cs rest : List ℕ) → all_scalars cs ≡ true → is_variable_name cs ≡ true → run continues_name 0 rest ≡ 0
    → token_front direct (encode_utf8_all cs ++ rest) ≡ Token (Variable cs) (length (encode_utf8_all cs))
variable-reads direct [] rest scalars is stops = cc
variable-reads direct (c ∷ cs) rest scalars is stops =
    let t = both (begins_variable c) (list_all continues_name cs) is in
    let w = word-reads c cs rest scalars t.1 stops in
    let bs = encode_utf8_all (c ∷ cs) ++ rest in
    let k = length (encode_utf8 c) in
    token_front-scalar direct bs c k w.at_front
    ∙ ap (λ class. token_of direct bs class c k) (begins-variable c t.0)
    ∙ ap (λ n. Token (Variable (chars (take n bs))) n) w.size
    ∙ ap (λ ts. Token (Variable ts) (length (encode_utf8_all (c ∷ cs)))) w.text

-- Symbol characters.

abbrev Each : (ℕ → Type 0) → List ℕ → Type 0
Each P [] = Unit {0}
Each P (d ∷ ds) = P d × Each P ds

one_of : (P : ℕ → Type 0) (t : Bool) (c d : ℕ) (ds : List ℕ) → (d == c) ≡ t → (t || list_any (λ e. e == c) ds) ≡ true → P d
    → (list_any (λ e. e == c) ds ≡ true → P c) → P c
one_of P true c d ds same e here there = let is : d ≡ c = grind (arith, nat_tests) in subst P is here
one_of P false c d ds same e here there = there e

among : (P : ℕ → Type 0) (c : ℕ) (ds : List ℕ) → list_any (λ e. e == c) ds ≡ true → Each P ds → P c
among P c [] e each = cc
among P c (d ∷ ds) e each = one_of P (d == c) c d ds refl e each.0 (λ later. among P c ds later each.1)

begins-symbol : (c : ℕ) → is_symbol c ≡ true → begins c ≡ Symbol
begins-symbol c e =
    let P : ℕ → Type 0 = λ d. begins d ≡ Symbol in
    among P c (codes "+-*/\\^<>=~:.?@#&$") e
    (refl, (refl, (refl, (refl, (refl, (refl, (refl, (refl, (refl, (refl, (refl, (refl, (refl, (refl, (refl, (refl, (refl, tt)))))))))))))))))

no_layout : (c : ℕ) → is_symbol c ≡ true → (is_whitespace c || (c == 37)) ≡ false
no_layout c e =
    let P : ℕ → Type 0 = λ d. (is_whitespace d || (d == 37)) ≡ false in
    among P c (codes "+-*/\\^<>=~:.?@#&$") e
    (refl, (refl, (refl, (refl, (refl, (refl, (refl, (refl, (refl, (refl, (refl, (refl, (refl, (refl, (refl, (refl, (refl, tt)))))))))))))))))

list_all-scalars : (cs : List ℕ) → list_all is_symbol cs ≡ true → all_scalars cs ≡ true
list_all-scalars [] e = refl
list_all-scalars (c ∷ cs) e =
    let t = both (is_symbol c) (list_all is_symbol cs) e in
    let P : ℕ → Type 0 = λ d. all_scalars (d ∷ cs) ≡ true in
    let rest = list_all-scalars cs t.1 in
    among P c (codes "+-*/\\^<>=~:.?@#&$") t.0
    (rest, (rest, (rest, (rest, (rest, (rest, (rest, (rest, (rest, (rest, (rest, (rest, (rest, (rest, (rest, (rest, (rest, tt)))))))))))))))))

symbols-read : (cs rest : List ℕ) → list_all is_symbol cs ≡ true → run is_symbol 0 rest ≡ 0
    → (run is_symbol 0 (encode_utf8_all cs ++ rest) ≡ length (encode_utf8_all cs))
symbols-read cs rest pass stops = run-encodes is_symbol cs rest (list_all-scalars cs pass) pass stops

-- A symbol name is read, but for a full stop that is the end token.
symbol-reads : (direct : Bool) (c : ℕ) (cs rest : List ℕ) → list_all is_symbol (c ∷ cs) ≡ true → run is_symbol 0 rest ≡ 0
    → ((length (encode_utf8_all (c ∷ cs)) == 1) && ((slice_index (encode_utf8_all (c ∷ cs) ++ rest) 0 == 46) && closes_clause (drop 1 (encode_utf8_all (c ∷ cs) ++ rest)))) ≡ false
    → token_front direct (encode_utf8_all (c ∷ cs) ++ rest) ≡ Token (Name (c ∷ cs)) (length (encode_utf8_all (c ∷ cs)))
symbol-reads direct c cs rest pass stops no_end =
    let t = both (is_symbol c) (list_all is_symbol cs) pass in
    let scalars = list_all-scalars (c ∷ cs) pass in
    let s = both _ (all_scalars cs) scalars in
    let bs = encode_utf8_all (c ∷ cs) ++ rest in
    let k = length (encode_utf8 c) in
    let n = length (encode_utf8_all (c ∷ cs)) in
    let behind = encode_utf8_all cs ++ rest in
    let at_front = ap front (append_assoc (encode_utf8 c) (encode_utf8_all cs) rest) ∙ front-encode c behind s.0 in
    token_front-scalar direct bs c k at_front
    ∙ ap (λ class. token_of direct bs class c k) (begins-symbol c t.0)
    ∙ ap (λ m. cond ((m == 1) && ((slice_index bs 0 == 46) && closes_clause (drop 1 bs))) (Token EndToken 1) (Token (Name (chars (take m bs))) m)) (symbols-read (c ∷ cs) rest pass stops)
    ∙ cond-false ((n == 1) && ((slice_index bs 0 == 46) && closes_clause (drop 1 bs))) (Token EndToken 1) (Token (Name (chars (take n bs))) n) no_end
    ∙ ap (λ ts. Token (Name ts) n) (ap chars (take-append_seam (encode_utf8_all (c ∷ cs)) rest) ∙ chars-encodes (c ∷ cs) scalars)

first_false : (a b : Bool) → a ≡ false → (a && b) ≡ false
first_false true b e = cc
first_false false b e = refl

-- A full stop by itself is the one symbol name that may be the end token.
no_end : (c : ℕ) (cs rest : List ℕ) → is_symbol c ≡ true → ((c ∷ cs ≡ 46 ∷ []) → closes_clause rest ≡ false)
    → ((length (encode_utf8_all (c ∷ cs)) == 1) && ((slice_index (encode_utf8_all (c ∷ cs) ++ rest) 0 == 46) && closes_clause (drop 1 (encode_utf8_all (c ∷ cs) ++ rest)))) ≡ false
no_end c (d ∷ ds) rest symbol open_stop =
    let many : suc (suc (length ds)) ≤ length (encode_utf8_all (c ∷ d ∷ ds)) = length-le-encodes (c ∷ d ∷ ds) in
    let long : (length (encode_utf8_all (c ∷ d ∷ ds)) == 1) ≡ false = grind (arith, nat_tests) in
    first_false (length (encode_utf8_all (c ∷ d ∷ ds)) == 1) _ long
no_end c [] rest symbol open_stop =
    let P : ℕ → Type 0 = λ d. nat_lt d 128 ≡ true in
    let low : nat_lt c 128 ≡ true = among P c (codes "+-*/\\^<>=~:.?@#&$") symbol
    (refl, (refl, (refl, (refl, (refl, (refl, (refl, (refl, (refl, (refl, (refl, (refl, (refl, (refl, (refl, (refl, (refl, tt))))))))))))))))) in
    let less : c < 128 = grind (arith, nat_tests) in
    let one : encode_utf8_all (c ∷ []) ≡ c ∷ [] = append-nil (encode_utf8 c) ∙ encode_ascii c less in
    let stop : ((c == 46) && closes_clause rest) ≡ false = lone (c == 46) refl in
    ap (λ bs. (length bs == 1) && ((slice_index (bs ++ rest) 0 == 46) && closes_clause (drop 1 (bs ++ rest)))) one ∙ stop
  where
    lone : (t : Bool) → (c == 46) ≡ t → (t && closes_clause rest) ≡ false
    lone true e = let same : c ≡ 46 = grind (arith, nat_tests) in open_stop (ap (λ n. n ∷ []) same)
    lone false e = refl

pub symbol_name-reads : (direct : Bool) (c : ℕ) (cs rest : List ℕ) → list_all is_symbol (c ∷ cs) ≡ true → run is_symbol 0 rest ≡ 0
    → ((c ∷ cs ≡ 46 ∷ []) → closes_clause rest ≡ false)
    → token_front direct (encode_utf8_all (c ∷ cs) ++ rest) ≡ Token (Name (c ∷ cs)) (length (encode_utf8_all (c ∷ cs)))
symbol_name-reads direct c cs rest pass stops open_stop =
    symbol-reads direct c cs rest pass stops (no_end c cs rest (both (is_symbol c) (list_all is_symbol cs) pass).0 open_stop)

-- The end token.

not_symbol : (t u : Bool) → (u ≡ true → t ≡ false) → t ≡ true → u ≡ false
not_symbol t true h e = let no : t ≡ false = h refl in cc
not_symbol t false h e = refl

nothing_front : (t : Bool) (b : ℕ) (u : Bool) (piece : List ℕ) → cond t (scalar b 1) (front_of u piece) ≡ nothing → ⊥
nothing_front true b u piece e = cc
nothing_front false b true piece e = cc
nothing_front false b false piece e = cc

something : (b : ℕ) (bs : List ℕ) → front (b ∷ bs) ≡ nothing → ⊥
something b bs e =
    nothing_front (nat_lt b 128) b (is_utf8 (take (suc (continuation_len b)) (b ∷ bs))) (take (suc (continuation_len b)) (b ∷ bs)) e

stops_by : (bs : List ℕ) (f : Front) → front bs ≡ f → closes_clause bs ≡ true → run is_symbol 0 bs ≡ 0
stops_by [] f e closes = refl
stops_by (b ∷ bs) nothing e closes = absurd (something b bs e)
stops_by (b ∷ bs) (scalar c k) e closes =
    run-stops is_symbol (b ∷ bs) c k e
    (not_symbol (is_whitespace c || (c == 37)) (is_symbol c) (no_layout c) (sym (closes_clause-scalar (b ∷ bs) c k e) ∙ closes))
stops_by (b ∷ bs) broken e closes = let no : closes_clause (b ∷ bs) ≡ false = closes_clause-broken (b ∷ bs) e in cc

pub end-reads : (direct : Bool) (rest : List ℕ) → closes_clause rest ≡ true → token_front direct (46 ∷ rest) ≡ Token EndToken 1
end-reads direct rest closes =
    let one : run is_symbol 0 (46 ∷ rest) ≡ 1 = ap suc (stops_by rest (front rest) refl closes) in
    ap (λ m. cond ((m == 1) && closes_clause rest) (Token EndToken 1) (Token (Name (chars (take m (46 ∷ rest)))) m)) one
    ∙ cond-true (closes_clause rest) (Token EndToken 1) (Token (Name (chars (take 1 (46 ∷ rest)))) 1) closes

-- Integers.

run-digits : (ds rest : List ℕ) → AllDigits 10 ds → digit_count 10 rest ≡ 0 → digit_count 10 (ds ++ rest) ≡ length ds
run-digits [] rest digits stops = stops
run-digits (d ∷ ds) rest digits stops =
    let range = digit_from_value d digits.0 in
    let low : nat_lt d 128 ≡ true = grind (arith, nat_tests) in
    let passes : is_digit 10 d ≡ true = grind (arith, nat_tests) in
    run-passes (is_digit 10) (d ∷ (ds ++ rest)) d 1 (front-ascii d (ds ++ rest) low) passes
    ∙ ap (λ n. 1 + n) (run-digits ds rest digits.1 stops) ∙ omega arith

plain_digit : (d : ℕ) → 48 ≤ d → d ≤ 57 → ((d == 39) ≡ false) × (radix_of d ≡ 0) × (begins d ≡ Digit)
plain_digit d low high = (grind (arith, nat_tests), grind (arith, nat_tests), grind (arith, nat_tests))

-- The byte after the first digit makes no other numeral of it.
second : (d : ℕ) (ds rest : List ℕ) → AllDigits 10 ds → EndsNumeral rest
    → ((slice_index (d ∷ (ds ++ rest)) 1 == 39) ≡ false) × (radix_of (slice_index (d ∷ (ds ++ rest)) 1) ≡ 0)
second d [] rest digits ends = (no_quote rest ends.quote, ends.letter) where
  no_quote : (bs : List ℕ) → begins_with 39 bs ≡ false → (slice_index bs 0 == 39) ≡ false
  no_quote [] e = refl
  no_quote (b ∷ bs) e = e
second d (e ∷ es) rest digits ends =
    let range = digit_from_value e digits.0 in
    let p = plain_digit e range.0 range.1 in (p.0, p.1)

slice-append : (ds rest : List ℕ) (i : ℕ) → slice_index (ds ++ rest) (length ds + i) ≡ slice_index rest i
slice-append [] rest i = ap (λ n. slice_index rest n) (omega arith)
slice-append (d ∷ ds) rest i =
    let later : suc (length ds) + i ≡ suc (length ds + i) = omega arith in
    ap (λ n. slice_index (d ∷ (ds ++ rest)) n) later ∙ slice-append ds rest i

and_false : (a b : Bool) → b ≡ false → (a && b) ≡ false
and_false true b e = e
and_false false b e = refl

no_radix : (r x : ℕ) → r ≡ 0 → nat_lt x r ≡ false
no_radix r x e = grind (arith, nat_tests)

digits-read : (d : ℕ) (ds rest : List ℕ) → AllDigits 10 (d ∷ ds) → digits_value 10 (d ∷ ds) ≤ 2 ^ 63 → EndsNumeral rest
    → numeral (d ∷ (ds ++ rest)) ≡ Token (Integer (digits_value 10 (d ∷ ds))) (length (d ∷ ds))
digits-read d ds rest digits most ends =
    let bs = d ∷ (ds ++ rest) in
    let n = length (d ∷ ds) in
    let value = digits_value 10 (d ∷ ds) in
    let behind = second d ds rest digits.1 ends in
    let no_code = and_false (d == 48) ((slice_index bs 1 == 39) && nat_lt 2 (length bs)) (first_false (slice_index bs 1 == 39) (nat_lt 2 (length bs)) behind.0) in
    let no_letter = and_false (d == 48) (is_digit (radix_of (slice_index bs 1)) (slice_index bs 2)) (no_radix (radix_of (slice_index bs 1)) (digit_value (slice_index bs 2)) behind.1) in
    let small : nat_lt (2 ^ 63) value ≡ false = grind (arith, nat_tests) in
    let place : n ≡ n + 0 = omega arith in
    let after : slice_index bs n ≡ slice_index rest 0 = ap (λ m. slice_index bs m) place ∙ slice-append (d ∷ ds) rest 0 in
    let fraction : ((slice_index bs n == 46) && is_ascii_digit (slice_index bs (n + 1))) ≡ false
    = ap (λ b. (b == 46) && is_ascii_digit (slice_index bs (n + 1))) after ∙ ap (λ b. (slice_index rest 0 == 46) && is_ascii_digit b) (slice-append (d ∷ ds) rest 1) ∙ ends.fraction in
    cond-false _ (character_code (drop 2 bs)) _ no_code
    ∙ cond-false _ (radix_constant (radix_of (slice_index bs 1)) bs) (decimal_constant bs) no_letter
    ∙ ap (λ m. cond (nat_lt (2 ^ 63) (digits_value 10 (take m bs))) (Fault IntegerTooLarge 0) (cond ((slice_index bs m == 46) && is_ascii_digit (slice_index bs (m + 1))) (Fault FloatNumeral 0) (Token (Integer (digits_value 10 (take m bs))) m)))
    (run-digits (d ∷ ds) rest digits ends.digit)
    ∙ ap (λ ts. cond (nat_lt (2 ^ 63) (digits_value 10 ts)) (Fault IntegerTooLarge 0) (cond ((slice_index bs n == 46) && is_ascii_digit (slice_index bs (n + 1))) (Fault FloatNumeral 0) (Token (Integer (digits_value 10 ts)) n)))
    (take-append_seam (d ∷ ds) rest)
    ∙ cond-false (nat_lt (2 ^ 63) value) (Fault IntegerTooLarge 0) _ small
    ∙ cond-false ((slice_index bs n == 46) && is_ascii_digit (slice_index bs (n + 1))) (Fault FloatNumeral 0) (Token (Integer value) n) fraction

decimal_by : (direct : Bool) (n : ℕ) (ds rest : List ℕ) → AllDigits 10 ds → digits_value 10 ds ≡ n → 0 < length ds → n ≤ 2 ^ 63 → EndsNumeral rest
    → token_front direct (ds ++ rest) ≡ Token (Integer n) (length ds)
decimal_by direct n [] rest digits is some most ends = absurd (omega arith)
decimal_by direct n (d ∷ ds) rest digits is some most ends =
    let range = digit_from_value d digits.0 in
    let low : nat_lt d 128 ≡ true = grind (arith, nat_tests) in
    let few : digits_value 10 (d ∷ ds) ≤ 2 ^ 63 = omega (arith, is) in
    token_front-scalar direct (d ∷ (ds ++ rest)) d 1 (front-ascii d (ds ++ rest) low)
    ∙ ap (λ class. token_of direct (d ∷ (ds ++ rest)) class d 1) (plain_digit d range.0 range.1).2
    ∙ digits-read d ds rest digits few ends
    ∙ ap (λ v. Token (Integer v) (length (d ∷ ds))) is

-- A number in decimal is read as that number.
pub integer-reads : (direct : Bool) (n : ℕ) (rest : List ℕ) → n ≤ 2 ^ 63 → EndsNumeral rest → token_front direct (decimal n ++ rest) ≡ Token (Integer n) (length (decimal n))
integer-reads direct n rest most ends =
    let fits : n < 2 ^ 64 = omega arith in
    let own = numerals_by_value (AllDigits 10) tells_digits in
    decimal_by direct n (decimal n) rest (digits_decimal own n fits) (digits_value-decimal own n fits) (decimal_nonempty n fits) most ends

-- Digits of a radix.

ascii_digit : (d : ℕ) → digit_value d < 36 → nat_lt d 128 ≡ true
ascii_digit d h = by (nat_lt d 128) refl where
  by : (t : Bool) → nat_lt d 128 ≡ t → t ≡ true
  by true e = refl
  by false e = let none : digit_value d ≡ 36 = grind (arith, nat_tests) in absurd (omega arith)

run-radix : (radix : ℕ) (ds rest : List ℕ) → radix ≤ 16 → AllDigits radix ds → digit_count radix rest ≡ 0 → digit_count radix (ds ++ rest) ≡ length ds
run-radix radix [] rest few digits stops = stops
run-radix radix (d ∷ ds) rest few digits stops =
    let value : digit_value d < radix = digits.0 in
    let passes : is_digit radix d ≡ true = grind (arith, nat_tests) in
    run-passes (is_digit radix) (d ∷ (ds ++ rest)) d 1 (front-ascii d (ds ++ rest) (ascii_digit d (omega arith))) passes
    ∙ ap (λ n. 1 + n) (run-radix radix ds rest few digits.1 stops) ∙ omega arith

radix-reads : (direct : Bool) (letter d : ℕ) (ds rest : List ℕ) → (letter == 39) ≡ false → radix_of letter ≤ 16 → AllDigits (radix_of letter) (d ∷ ds)
    → digits_value (radix_of letter) (d ∷ ds) ≤ 2 ^ 63 → digit_count (radix_of letter) rest ≡ 0
    → token_front direct (48 ∷ letter ∷ (d ∷ ds ++ rest)) ≡ Token (Integer (digits_value (radix_of letter) (d ∷ ds))) (length (d ∷ ds) + 2)
radix-reads direct letter d ds rest no_quote few digits most stops =
    let radix = radix_of letter in
    let bs = 48 ∷ letter ∷ (d ∷ ds ++ rest) in
    let value = digits_value radix (d ∷ ds) in
    let n = length (d ∷ ds) in
    let below : digit_value d < radix = digits.0 in
    let digit : is_digit radix d ≡ true = grind (arith, nat_tests) in
    let small : nat_lt (2 ^ 63) value ≡ false = grind (arith, nat_tests) in
    cond-false ((letter == 39) && nat_lt 2 (length bs)) (character_code (d ∷ ds ++ rest)) _ (first_false (letter == 39) (nat_lt 2 (length bs)) no_quote)
    ∙ cond-true (is_digit radix d) (radix_constant radix bs) (decimal_constant bs) digit
    ∙ ap (λ m. integer (digits_value radix (take m (d ∷ ds ++ rest))) (m + 2)) (run-radix radix (d ∷ ds) rest few digits stops)
    ∙ ap (λ ts. integer (digits_value radix ts) (n + 2)) (take-append_seam (d ∷ ds) rest)
    ∙ cond-false (nat_lt (2 ^ 63) value) (Fault IntegerTooLarge 0) (Token (Integer value) (n + 2)) small

-- A numeral of a radix is read as the number that its digits write.
abbrev ReadsRadix : ℕ → ℕ → Type 0
ReadsRadix letter radix = (direct : Bool) (ds rest : List ℕ) → IsNumeral radix ds → digits_value radix ds ≤ 2 ^ 63 → digit_count radix rest ≡ 0
    → token_front direct (48 ∷ letter ∷ (ds ++ rest)) ≡ Token (Integer (digits_value radix ds)) (length ds + 2)

pub hexadecimal-reads : ReadsRadix 120 16
hexadecimal-reads direct [] rest h most stops = absurd (omega arith)
hexadecimal-reads direct (d ∷ ds) rest h most stops = radix-reads direct 120 d ds rest refl (omega arith) h.1 most stops

pub octal-reads : ReadsRadix 111 8
octal-reads direct [] rest h most stops = absurd (omega arith)
octal-reads direct (d ∷ ds) rest h most stops = radix-reads direct 111 d ds rest refl (omega arith) h.1 most stops

pub binary-reads : ReadsRadix 98 2
binary-reads direct [] rest h most stops = absurd (omega arith)
binary-reads direct (d ∷ ds) rest h most stops = radix-reads direct 98 d ds rest refl (omega arith) h.1 most stops

-- Punctuation.

pub close-reads : (direct : Bool) (rest : List ℕ) → token_front direct (41 ∷ rest) ≡ Token (Punctuation Close) 1
close-reads true rest = refl
close-reads false rest = refl

pub open_list-reads : (direct : Bool) (rest : List ℕ) → token_front direct (91 ∷ rest) ≡ Token (Punctuation OpenList) 1
open_list-reads true rest = refl
open_list-reads false rest = refl

pub close_list-reads : (direct : Bool) (rest : List ℕ) → token_front direct (93 ∷ rest) ≡ Token (Punctuation CloseList) 1
close_list-reads true rest = refl
close_list-reads false rest = refl

pub open_curly-reads : (direct : Bool) (rest : List ℕ) → token_front direct (123 ∷ rest) ≡ Token (Punctuation OpenCurly) 1
open_curly-reads true rest = refl
open_curly-reads false rest = refl

pub close_curly-reads : (direct : Bool) (rest : List ℕ) → token_front direct (125 ∷ rest) ≡ Token (Punctuation CloseCurly) 1
close_curly-reads true rest = refl
close_curly-reads false rest = refl

pub bar-reads : (direct : Bool) (rest : List ℕ) → token_front direct (124 ∷ rest) ≡ Token (Punctuation Bar) 1
bar-reads true rest = refl
bar-reads false rest = refl

pub comma-reads : (direct : Bool) (rest : List ℕ) → token_front direct (44 ∷ rest) ≡ Token (Punctuation Comma) 1
comma-reads true rest = refl
comma-reads false rest = refl

-- The cut and the semicolon.

pub solo-reads : (direct : Bool) (c : ℕ) (rest : List ℕ) → is_solo c ≡ true → token_front direct (c ∷ rest) ≡ Token (Name (c ∷ [])) 1
unfolding chars
solo-reads direct c rest is = by (c == 33) refl is where
  by : (t : Bool) → (c == 33) ≡ t → (t || (c == 59)) ≡ true → token_front direct (c ∷ rest) ≡ Token (Name (c ∷ [])) 1
  by true e h = let P : ℕ → Type 0 = λ n. token_front direct (n ∷ rest) ≡ Token (Name (n ∷ [])) 1 in let same : 33 ≡ c = grind (arith, nat_tests) in subst P same refl
  by false e h = let P : ℕ → Type 0 = λ n. token_front direct (n ∷ rest) ≡ Token (Name (n ∷ [])) 1 in let same : 59 ≡ c = grind (arith, nat_tests) in subst P same refl
