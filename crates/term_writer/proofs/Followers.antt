-- What may be written after an operand: a space, a closing bracket, a bar, a comma, a semicolon or a name of symbol
-- characters. Each of them ends a word and a numeral.
use Rattle.std.proofs.Common.{◌≡◌, ℕ, ◌<◌, Bool, true, false, cond, ◌&&◌, ◌||◌, not, ◌==◌, nat_lt, nat_eq, codes, [], ◌∷◌, ◌++◌, slice_index, refl, ap, subst, ◌∙◌, arith, bytes_eq}
use Rattle.std.specs.Char.{IsScalar, is_ascii_digit}
use Rattle.std.specs.Str.{encode_utf8_all}
use Rattle.std.specs.List.{list_all, list_any, starts_with}
use Rattle.std.proofs.lemmas.Bool.Decides.{nat_tests}
use Rattle.std.proofs.lemmas.Str.{encode_ascii}
use Rattle.pl_term.specs.Tree.{Chars}
use Rattle.pl_model.specs.Characters.{is_symbol, continues_name, is_symbol_name}
use Rattle.pl_model.specs.Tokens.{run}
use Rattle.pl_model.specs.LexicalQuoted.{begins_with, is_digit}
use Rattle.pl_model.specs.LexicalTokens.{radix_of}
use Rattle.pl_model.specs.laws.LexicalLaws.{EndsNumeral}
use Rattle.pl_model.specs.Writing.{would_join}
use Rattle.pl_model.specs.TermWriting.{Behind, would_bind, put}
use Rattle.term_writer.proofs.Bits.{both, all_true, first_false, not_true, left_true, same_number, differ}
use Rattle.term_writer.proofs.FirstBytes.{FirstScalar, run-ends}
use Rattle.term_writer.proofs.NameTokens.{among}

abbrev pub is_stop : ℕ → Bool
is_stop c = list_any (λ d. d == c) (codes " )]}|,;")

abbrev pub begins_symbol : Chars → Bool
begins_symbol [] = false
begins_symbol (c ∷ cs) = is_symbol c

abbrev pub may_follow : Chars → Bool
may_follow [] = false
may_follow (c ∷ cs) = is_stop c || (is_symbol c && (not (c == 46) || begins_symbol cs))

-- A character that ends words and numerals.
record Ends (c : ℕ) : Type 0 where
  low : nat_lt c 128 ≡ true
  some : IsScalar c
  no_name : continues_name c ≡ false
  no_digit : is_digit 10 c ≡ false
  no_decimal : is_ascii_digit c ≡ false
  no_quote : (c == 39) ≡ false
  no_letter : radix_of c ≡ 0
  no_open : (c == 40) ≡ false

ends_at : (c : ℕ) → nat_lt c 128 ≡ true → IsScalar c → continues_name c ≡ false → is_digit 10 c ≡ false → is_ascii_digit c ≡ false
    → (c == 39) ≡ false → radix_of c ≡ 0 → (c == 40) ≡ false → Ends c
ends_at c a b d e f g h i = record { low = a; some = b; no_name = d; no_digit = e; no_decimal = f; no_quote = g; no_letter = h; no_open = i }

stop-ends : (c : ℕ) → is_stop c ≡ true → Ends c
stop-ends c e =
    let f = λ (d : ℕ) (r : nat_lt d 128 ≡ true). ends_at d r in
    among Ends c (codes " )]}|,;") e (
      ends_at 32 refl refl refl refl refl refl refl refl,
      (
        ends_at 41 refl refl refl refl refl refl refl refl,
        (
          ends_at 93 refl refl refl refl refl refl refl refl,
          (
            ends_at 125 refl refl refl refl refl refl refl refl,
            (
              ends_at 124 refl refl refl refl refl refl refl refl,
              (
                ends_at 44 refl refl refl refl refl refl refl refl,
                (ends_at 59 refl refl refl refl refl refl refl refl, tt),
              ),
            ),
          ),
        ),
      ),
    )

symbol-ends : (c : ℕ) → is_symbol c ≡ true → Ends c
symbol-ends c e =
    among Ends c (codes "+-*/\\^<>=~:.?@#&$") e (
      ends_at 43 refl refl refl refl refl refl refl refl,
      (
        ends_at 45 refl refl refl refl refl refl refl refl,
        (
          ends_at 42 refl refl refl refl refl refl refl refl,
          (
            ends_at 47 refl refl refl refl refl refl refl refl,
            (
              ends_at 92 refl refl refl refl refl refl refl refl,
              (
                ends_at 94 refl refl refl refl refl refl refl refl,
                (
                  ends_at 60 refl refl refl refl refl refl refl refl,
                  (
                    ends_at 62 refl refl refl refl refl refl refl refl,
                    (
                      ends_at 61 refl refl refl refl refl refl refl refl,
                      (
                        ends_at 126 refl refl refl refl refl refl refl refl,
                        (
                          ends_at 58 refl refl refl refl refl refl refl refl,
                          (
                            ends_at 46 refl refl refl refl refl refl refl refl,
                            (
                              ends_at 63 refl refl refl refl refl refl refl refl,
                              (
                                ends_at 64 refl refl refl refl refl refl refl refl,
                                (
                                  ends_at 35 refl refl refl refl refl refl refl refl,
                                  (ends_at 38 refl refl refl refl refl refl refl refl, (ends_at 36 refl refl refl refl refl refl refl refl, tt)),
                                ),
                              ),
                            ),
                          ),
                        ),
                      ),
                    ),
                  ),
                ),
              ),
            ),
          ),
        ),
      ),
    )

stop-no_point : (c : ℕ) → is_stop c ≡ true → (c == 46) ≡ false
stop-no_point c e =
    let P : ℕ → Type 0 = λ d. (d == 46) ≡ false in
    among P c (codes " )]}|,;") e (refl, (refl, (refl, (refl, (refl, (refl, (refl, tt)))))))

-- What the characters after an operand say of its bytes.
pub record Follower (cs : Chars) : Type 0 where
  pub first : FirstScalar cs
  pub numeral : EndsNumeral (encode_utf8_all cs)
  pub word : run continues_name 0 (encode_utf8_all cs) ≡ 0
  pub no_open : (slice_index (encode_utf8_all cs) 0 == 40) ≡ false
  pub no_digit : is_ascii_digit (slice_index (encode_utf8_all cs) 0) ≡ false

ascii-text : (c : ℕ) (cs : Chars) → nat_lt c 128 ≡ true → encode_utf8_all (c ∷ cs) ≡ c ∷ encode_utf8_all cs
ascii-text c cs low = let less : c < 128 = grind (arith, nat_tests) in ap (λ xs. xs ++ encode_utf8_all cs) (encode_ascii c less)

symbol-byte : (cs : Chars) → begins_symbol cs ≡ true → is_ascii_digit (slice_index (encode_utf8_all cs) 0) ≡ false
symbol-byte [] e = cc
symbol-byte (c ∷ cs) e =
    let facts = symbol-ends c e in
    ap (λ bs. is_ascii_digit (slice_index bs 0)) (ascii-text c cs facts.low) ∙ facts.no_decimal

numeral-ends : (c : ℕ) (cs : Chars) → Ends c → ((c == 46) && is_ascii_digit (slice_index (encode_utf8_all cs) 0)) ≡ false → EndsNumeral (encode_utf8_all (c ∷ cs))
numeral-ends c cs ends fraction =
    let bytes = ascii-text c cs ends.low in
    record {
      digit = run-ends (is_digit 10) c cs ends.some ends.no_digit;
      quote = ap (begins_with 39) bytes ∙ ends.no_quote;
      letter = ap (λ bs. radix_of (slice_index bs 0)) bytes ∙ ends.no_letter;
      fraction = ap (λ bs. (slice_index bs 0 == 46) && is_ascii_digit (slice_index bs 1)) bytes ∙ fraction;
    }

follower_by : (c : ℕ) (cs : Chars) → Ends c → ((c == 46) && is_ascii_digit (slice_index (encode_utf8_all cs) 0)) ≡ false → Follower (c ∷ cs)
follower_by c cs ends fraction =
    let bytes = ascii-text c cs ends.low in
    record {
      first = ends.some;
      numeral = numeral-ends c cs ends fraction;
      word = run-ends continues_name c cs ends.some ends.no_name;
      no_open = ap (λ bs. slice_index bs 0 == 40) bytes ∙ ends.no_open;
      no_digit = ap (λ bs. is_ascii_digit (slice_index bs 0)) bytes ∙ ends.no_decimal;
    }

point_by : (t u : Bool) (d : Bool) → (not t || u) ≡ true → (u ≡ true → d ≡ false) → (t && d) ≡ false
point_by true true d e h = h refl
point_by true false d e h = cc
point_by false u d e h = refl

either : {A : Type 0} (a b : Bool) → (a || b) ≡ true → (a ≡ true → A) → (b ≡ true → A) → A
either {A} true b e f g = f refl
either {A} false b e f g = g e

pub follower : (cs : Chars) → may_follow cs ≡ true → Follower cs
follower [] e = cc
follower (c ∷ cs) e =
    either (is_stop c) _ e
    (λ stop. follower_by c cs (stop-ends c stop) (first_false (c == 46) _ (stop-no_point c stop)))
    (λ e. let t = both (is_symbol c) (not (c == 46) || begins_symbol cs) e in
    follower_by c cs (symbol-ends c t.0) (point_by (c == 46) (begins_symbol cs) _ t.1 (symbol-byte cs)))

-- A piece that may follow, with the gap before it.
pub follow-put : (b : Behind) (d : ℕ) (ds rest : Chars) → may_follow (d ∷ (ds ++ rest)) ≡ true → may_follow (put b (d ∷ ds) ++ rest) ≡ true
follow-put b d ds rest e = by (would_join b.last d || would_bind b.prefix d) where
  by : (t : Bool) → may_follow ((cond t (codes " ") [] ++ d ∷ ds) ++ rest) ≡ true
  by true = refl
  by false = e

pub follow-symbol_name : (d : ℕ) (ds rest : Chars) → is_symbol_name (d ∷ ds) ≡ true → may_follow (d ∷ (ds ++ rest)) ≡ true
follow-symbol_name d [] rest e =
    let t = both (list_all is_symbol (d ∷ [])) _ e in
    let s = both (is_symbol d) true t.0 in
    let tests = both (not (bytes_eq (d ∷ []) (codes "."))) (not (starts_with nat_eq (d ∷ []) (codes "/*"))) t.1 in
    second_true (is_stop d) _ (all_true (is_symbol d) _ s.0 (left_true (not (d == 46)) (begins_symbol rest) (point (d == 46) refl (not_true _ tests.0))))
  where
    second_true : (a b : Bool) → b ≡ true → (a || b) ≡ true
    second_true true b e = refl
    second_true false b e = e

    point : (t : Bool) → (d == 46) ≡ t → bytes_eq (d ∷ []) (codes ".") ≡ false → not t ≡ true
    point true same none_such =
        let P : ℕ → Type 0 = λ n. bytes_eq (n ∷ []) (codes ".") ≡ false in
        absurd (differ (subst P (same_number d 46 same) none_such))
    point false same none_such = refl
follow-symbol_name d (e ∷ es) rest is =
    let t = both (list_all is_symbol (d ∷ e ∷ es)) _ is in
    let s = both (is_symbol d) (list_all is_symbol (e ∷ es)) t.0 in
    let u = both (is_symbol e) (list_all is_symbol es) s.1 in
    second_true (is_stop d) _ (all_true (is_symbol d) _ s.0 (second_true (not (d == 46)) (is_symbol e) u.0))
  where
    second_true : (a b : Bool) → b ≡ true → (a || b) ≡ true
    second_true true b e = refl
    second_true false b e = e
