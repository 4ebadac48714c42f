-- Integers and variables that are written are read as themselves.
use Rattle.std.proofs.Common.{◌≡◌, ℕ, ◌^◌, ◌<◌, ◌≤◌, Bool, true, false, ◌&&◌, ◌==◌, nat_lt, codes, List, [], ◌∷◌, ◌++◌, length, drop, slice_index, None, refl, sym, ap, subst, ◌∙◌, arith, bytes_eq}
use Rattle.std.specs.Char.{is_ascii_digit, is_whitespace}
use Rattle.std.specs.Str.{encode_utf8_all, all_scalars}
use Rattle.std.specs.Str.Parse.{AllDigits}
use Rattle.std.specs.List.{list_all}
use Rattle.std.specs.Fmt.{decimal}
use Rattle.std.proofs.lemmas.Bool.Decides.{nat_tests}
use Rattle.std.proofs.lemmas.Str.{encode_ascii}
use Rattle.std.proofs.lemmas.Str.Parse.{digit_from_value, tells_digits, numerals_by_value}
use Rattle.std.proofs.lemmas.Fmt.{digits_decimal, decimal_nonempty}
use Rattle.std.proofs.Math.Utf8.{encode, low_scalar}
use Rattle.pl_term.specs.Tree.{Chars}
use Rattle.pl_model.specs.declared.lexical.TokenKind.TheVariants.{Name, Integer, Variable}
use Rattle.pl_model.specs.declared.lexical.Reading.TheVariants.{Token}
use Rattle.pl_model.specs.Characters.{is_symbol, continues_name}
use Rattle.pl_model.specs.Tokens.{run}
use Rattle.pl_model.specs.LexicalTokens.{token_front}
use Rattle.pl_model.specs.laws.LexicalLaws.{EndsNumeral}
use Rattle.pl_model.specs.Writing.{variable}
use Rattle.pl_model.specs.TermWriting.{Piece, plain, Behind, behind, text_behind}
use Rattle.pl_model.proofs.CharacterRuns.{front-ascii, run-stops}
use Rattle.pl_model.proofs.LexicalReads.{integer-reads, symbol_name-reads, variable-reads}
use Rattle.term_writer.proofs.Bits.{all_true, differ}
use Rattle.term_writer.proofs.Seams.{lead, blanks}
use Rattle.term_writer.proofs.FirstBytes.{NoLayout, no_layout}
use Rattle.std.proofs.Math.Seq.{drop-append_seam}
use Rattle.std.proofs.Common.{Ok}
use Rattle.pl_model.specs.LexicalTokens.{token_at}
use Rattle.pl_model.specs.declared.lexical.Lexeme.TheVariants.{Token as TokenLexeme}
use Rattle.term_writer.proofs.Places.{Ahead, Exact, Next, token-here, piece-next, byte-at}

-- A digit.
pub record Digit (d : ℕ) : Type 0 where
  pub least : 48 ≤ d
  pub most : d ≤ 57

pub digit : (d : ℕ) (ds : Chars) → AllDigits 10 (d ∷ ds) → Digit d
digit d ds digits = let range = digit_from_value d digits.0 in record { least = range.0; most = range.1 }

plain_digit : (d : ℕ) → Digit d → (nat_lt d 128 ≡ true) × (is_whitespace d ≡ false) × ((d == 37) ≡ false) × ((d == 47) ≡ false) × (is_symbol d ≡ false) × (continues_name d ≡ true) × (is_ascii_digit d ≡ true)
plain_digit d is =
    let least = is.least in
    let most = is.most in
    (grind (arith, nat_tests), grind (arith, nat_tests), grind (arith, nat_tests), grind (arith, nat_tests), grind (arith, nat_tests), grind (arith, nat_tests), grind (arith, nat_tests))

pub digits-bytes : (ds : Chars) → AllDigits 10 ds → encode_utf8_all ds ≡ ds
digits-bytes [] digits = refl
digits-bytes (d ∷ ds) digits =
    let is = digit d ds digits in
    let less : d < 128 = omega (arith, is.most) in
    ap (λ xs. xs ++ encode_utf8_all ds) (encode_ascii d less) ∙ ap (λ xs. d ∷ xs) (digits-bytes ds digits.1)

digits-scalars : (ds : Chars) → AllDigits 10 ds → all_scalars ds ≡ true
digits-scalars [] digits = refl
digits-scalars (d ∷ ds) digits =
    let is = digit d ds digits in
    all_true _ (all_scalars ds) (low_scalar d (omega (arith, is.most))) (digits-scalars ds digits.1)

digits-continue : (ds : Chars) → AllDigits 10 ds → list_all continues_name ds ≡ true
digits-continue [] digits = refl
digits-continue (d ∷ ds) digits = all_true (continues_name d) (list_all continues_name ds) (plain_digit d (digit d ds digits)).5 (digits-continue ds digits.1)

pub digit-layout : (d : ℕ) (bs : List ℕ) → Digit d → NoLayout (d ∷ bs)
digit-layout d bs is =
    let t = plain_digit d is in
    no_layout (d ∷ bs) d 1 (front-ascii d bs t.0) t.1 t.2 (first_false (d == 47) _ t.3)
  where
    first_false : (a b : Bool) → a ≡ false → (a && b) ≡ false
    first_false true b e = absurd (differ e)
    first_false false b e = refl

-- The digits of a number.
pub record Digits (n : ℕ) : Type 0 where
  pub first : ℕ
  pub more : Chars
  pub is : decimal n ≡ first ∷ more
  pub all : AllDigits 10 (first ∷ more)

pub digits_of : (n : ℕ) → n < 2 ^ 64 → Digits n
digits_of n fits =
    let own = numerals_by_value (AllDigits 10) tells_digits in
    by (decimal n) refl (digits_decimal own n fits) (decimal_nonempty n fits)
  where
    by : (ds : List ℕ) → decimal n ≡ ds → AllDigits 10 ds → 0 < length ds → Digits n
    by [] is all some = absurd (omega arith)
    by (d ∷ ds) is all some = record { first = d; more = ds; is = is; all = all }

module _ (text : List ℕ) where
  digits-next : (n : ℕ) (b : Behind) (ps : List Piece) (at : ℕ) (p : Chars) → p ≡ decimal n → Ahead text b (plain p ∷ ps) at → n ≤ 2 ^ 63
      → EndsNumeral (encode_utf8_all (text_behind (behind b None p) ps)) → Next text (λ direct. Integer n) (behind b None p) ps at
  digits-next n b ps at p same ahead most ends =
      let digits = digits_of n (omega arith) in
      let rest = encode_utf8_all (text_behind (behind b None p) ps) in
      let bytes = digits-bytes (digits.first ∷ digits.more) digits.all in
      let here : encode_utf8_all (digits.first ∷ digits.more) ≡ decimal n = bytes ∙ sym digits.is in
      piece-next text (λ direct. Integer n) b (plain p) ps at digits.first digits.more (same ∙ digits.is) ahead
      (subst (λ xs. NoLayout (xs ++ rest)) (sym bytes) (digit-layout digits.first (digits.more ++ rest) (digit digits.first digits.more digits.all)))
      (λ direct. ap (λ xs. token_front direct (xs ++ rest)) here ∙ integer-reads direct n rest most ends ∙ ap (λ xs. Token (Integer n) (length xs)) (sym here))

  pub integer-next : (n : ℕ) (b : Behind) (ps : List Piece) (at : ℕ) → Ahead text b (plain (decimal n) ∷ ps) at → n ≤ 2 ^ 63
      → EndsNumeral (encode_utf8_all (text_behind (behind b None (decimal n)) ps)) → Next text (λ direct. Integer n) (behind b None (decimal n)) ps at
  integer-next n b ps at ahead most ends = digits-next n b ps at (decimal n) refl ahead most ends

  -- A minus sign directly before digits.
  pub record NegativeNext (n : ℕ) (b : Behind) (ps : List Piece) (at : ℕ) : Type 0 where
    pub minus_start : ℕ
    pub minus_end : ℕ
    pub minus : token_at text at ≡ Ok (TokenLexeme (Name (codes "-")) minus_start minus_end)
    pub digit : is_ascii_digit (slice_index text minus_end) ≡ true
    pub start : ℕ
    pub end : ℕ
    pub is : token_at text minus_end ≡ Ok (TokenLexeme (Integer n) start end)
    pub exact : Exact text b ps end

  minus-token : (direct : Bool) (d : ℕ) (bs : List ℕ) → Digit d → token_front direct (45 ∷ (d ∷ bs)) ≡ Token (Name (codes "-")) 1
  unfolding encode
  minus-token direct d bs is =
      let t = plain_digit d is in
      symbol_name-reads direct 45 [] (d ∷ bs) refl (run-stops is_symbol (d ∷ bs) d 1 (front-ascii d bs t.0) t.4) (λ stop. absurd (not_point stop))
    where
      not_point : codes "-" ≡ codes "." → ⊥
      not_point e = differ (sym (subst (λ (cs : Chars). bytes_eq cs (codes "-") ≡ true) e refl))

  pub negative-next : (n : ℕ) (b : Behind) (ps : List Piece) (at : ℕ) → Ahead text b (plain (45 ∷ decimal n) ∷ ps) at → n ≤ 2 ^ 63
      → EndsNumeral (encode_utf8_all (text_behind (behind b None (45 ∷ decimal n)) ps)) → NegativeNext n (behind b None (45 ∷ decimal n)) ps at
  unfolding encode
  negative-next n b ps at ahead most ends =
      let digits = digits_of n (omega arith) in
      let first = digit digits.first digits.more digits.all in
      let rest = encode_utf8_all (text_behind (behind b None (45 ∷ decimal n)) ps) in
      let bytes : encode_utf8_all (decimal n) ++ rest ≡ digits.first ∷ (digits.more ++ rest)
      = ap (λ ds. encode_utf8_all ds ++ rest) digits.is ∙ ap (λ bs. bs ++ rest) (digits-bytes (digits.first ∷ digits.more) digits.all) in
      let stands = lead b (plain (45 ∷ decimal n)) ps 45 (decimal n) ahead.spaces (drop at text) refl ahead.is in
      let minus = token-here text at stands.0 1 (45 ∷ (digits.first ∷ (digits.more ++ rest))) (digits.first ∷ (digits.more ++ rest)) (λ direct. Name (codes "-"))
      (stands.1 ∙ ap (λ bs. blanks stands.0 ++ (45 ∷ bs)) bytes)
      (no_layout (45 ∷ (digits.first ∷ (digits.more ++ rest))) 45 1 refl refl refl refl)
      (λ direct. minus-token direct digits.first (digits.more ++ rest) first) refl in
      let whole : decimal n ++ rest ≡ digits.first ∷ (digits.more ++ rest) = ap (λ ds. ds ++ rest) digits.is in
      let number = token-here text minus.end 0 (length (decimal n)) (digits.first ∷ (digits.more ++ rest)) rest (λ direct. Integer n) minus.rest
      (digit-layout digits.first (digits.more ++ rest) first)
      (λ direct. ap (token_front direct) (sym whole) ∙ integer-reads direct n rest most ends)
      (ap (drop (length (decimal n))) (sym whole) ∙ drop-append_seam (decimal n) rest) in
      record {
        minus_start = minus.start;
        minus_end = minus.end;
        minus = minus.is;
        digit = ap is_ascii_digit (byte-at text minus.end (digits.first ∷ (digits.more ++ rest)) minus.rest) ∙ (plain_digit digits.first first).6;
        start = number.start;
        end = number.end;
        is = number.is;
        exact = number.rest;
      }

  pub variable-next : (n : ℕ) (b : Behind) (ps : List Piece) (at : ℕ) → Ahead text b (plain (variable n) ∷ ps) at → n < 2 ^ 64
      → run continues_name 0 (encode_utf8_all (text_behind (behind b None (variable n)) ps)) ≡ 0
      → Next text (λ direct. Variable (variable n)) (behind b None (variable n)) ps at
  unfolding encode
  variable-next n b ps at ahead fits ends =
      let own = numerals_by_value (AllDigits 10) tells_digits in
      let all = digits_decimal own n fits in
      let rest = encode_utf8_all (text_behind (behind b None (variable n)) ps) in
      piece-next text (λ direct. Variable (variable n)) b (plain (variable n)) ps at 95 (decimal n) refl ahead
      (no_layout (95 ∷ (encode_utf8_all (decimal n) ++ rest)) 95 1 refl refl refl refl)
      (λ direct. variable-reads direct (variable n) rest (digits-scalars (decimal n) all) (digits-continue (decimal n) all) ends)
