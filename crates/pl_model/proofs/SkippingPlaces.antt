-- Where skipping goes on: after each piece that is passed, and after each token that is none of the end.
use Rattle.std.proofs.Common.{◌≡◌, ℕ, ◌+◌, ◌-◌, ◌^◌, ◌<◌, ◌≤◌, zero, suc, Bool, true, false, cond, nat_lt, ◌==◌, ◌&&◌, List, [], ◌∷◌, length, take, drop, slice_index, Option, Some, None, option_map, Result, Ok, Err, refl, sym, ap, subst, ◌∙◌, arith}
use Rattle.std.specs.Char.{is_ascii_digit}
use Rattle.std.specs.Str.{chars, is_utf8, continuation_len}
use Rattle.std.specs.Str.Parse.{digits_value}
use Rattle.std.proofs.lemmas.List.{length-drop, drop-drop}
use Rattle.pl_model.specs.declared.syntax.SyntaxFault.{SyntaxFault}
use Rattle.pl_model.specs.declared.syntax.SyntaxKind.TheVariants.{BadUtf8, BadEscape, FloatNumeral, IntegerTooLarge}
use Rattle.pl_model.specs.declared.lexical.Begins.{Begins}
use Rattle.pl_model.specs.declared.lexical.Begins.TheVariants.{Name as NameBegins, Variable as VariableBegins, Digit, Symbol, Solo, Quote, Punctuation as PunctuationBegins, Other}
use Rattle.pl_model.specs.declared.lexical.Piece.{Piece}
use Rattle.pl_model.specs.declared.lexical.Piece.TheVariants.{Character, Continuation, Close, Bad}
use Rattle.pl_model.specs.declared.lexical.TokenKind.{TokenKind}
use Rattle.pl_model.specs.declared.lexical.TokenKind.TheVariants.{Name, Quoted, Variable, Integer, DoubleQuoted, BackQuoted, Punctuation, EndToken}
use Rattle.pl_model.specs.declared.lexical.Reading.{Reading}
use Rattle.pl_model.specs.declared.lexical.Reading.TheVariants.{Token, Fault, Nothing}
use Rattle.pl_model.specs.declared.lexical.Lexeme.TheVariants.{End}
use Rattle.pl_model.specs.declared.skipping.Passing.{Passing}
use Rattle.pl_model.specs.declared.skipping.Passing.TheVariants.{Through, Ends, StaysOpen}
use Rattle.pl_model.specs.Characters.{is_symbol}
use Rattle.pl_model.specs.Tokens.{Front, nothing, scalar, broken, front, front_of, run, Blank, passes, stops, spoils, blank, skip_layout, closes_clause}
use Rattle.pl_model.specs.LexicalCharacters.{begins}
use Rattle.pl_model.specs.LexicalQuoted.{is_digit, digit_count, piece, closing, Spelled, spelled, closed, quoted_by}
use Rattle.pl_model.specs.LexicalTokens.{integer, radix_constant, decimal_constant, coded_character, character_code, radix_of, numeral, token_of, token_front, placed, from_start, token_at, token}
use Rattle.pl_model.specs.Skipping.{behind_reading, behind_blank, passing, clause_length, end_or, skip}
use Rattle.pl_model.proofs.TokenPlaces.{skip_layout-forward}
use Rattle.pl_model.proofs.LexicalPlaces.{ReadsWithin, token_front-within}

-- Up to the first end token, after a piece.

mapped_none : (o : Option ℕ) → o ≡ option_map (λ n. 0 + n) o
mapped_none None = refl
mapped_none (Some n) = ap (λ m. Some m) (omega arith)

mapped_twice : (k : ℕ) (o : Option ℕ) → option_map (λ n. suc n) (option_map (λ n. k + n) o) ≡ option_map (λ n. suc k + n) o
mapped_twice k None = refl
mapped_twice k (Some n) = ap (λ m. Some m) (omega arith)

abbrev after_passing : List ℕ → Passing → Option ℕ
after_passing bs (Through n) = option_map (λ m. suc m) (clause_length (n - 1) bs)
after_passing bs (Ends n) = Some n
after_passing bs StaysOpen = None

clause_length-passing : (b : ℕ) (bs : List ℕ) → clause_length 0 (b ∷ bs) ≡ after_passing bs (passing (b ∷ bs))
clause_length-passing b bs = by (passing (b ∷ bs)) where
  by : (p : Passing) → elim p [
    | Through n ↦ option_map (λ m. suc m) (clause_length (n - 1) bs)
    | Ends n ↦ Some n
    | StaysOpen ↦ None
  ] ≡ after_passing bs p
  by (Through n) = refl
  by (Ends n) = refl
  by StaysOpen = refl

clause_length-inside : (k : ℕ) (bs : List ℕ) → k ≤ length bs → clause_length k bs ≡ option_map (λ n. k + n) (clause_length 0 (drop k bs))
clause_length-inside zero bs h = mapped_none (clause_length 0 bs)
clause_length-inside (suc k) [] h = absurd (omega arith)
clause_length-inside (suc k) (b ∷ bs) h =
    ap (option_map (λ n. suc n)) (clause_length-inside k bs (omega arith)) ∙ mapped_twice k (clause_length 0 (drop k bs))

over : (n b : ℕ) (bs : List ℕ) → 0 < n → n ≤ length (b ∷ bs) → passing (b ∷ bs) ≡ Through n
    → clause_length 0 (b ∷ bs) ≡ option_map (λ m. n + m) (clause_length 0 (drop n (b ∷ bs)))
over zero b bs some within e = absurd (omega arith)
over (suc k) b bs some within e =
    let less : suc k - 1 ≡ k = omega arith in
    clause_length-passing b bs ∙ ap (after_passing bs) e ∙ ap (λ m. option_map (λ n. suc n) (clause_length m bs)) less
    ∙ clause_length-inside (suc k) (b ∷ bs) within

through : (bs : List ℕ) (n : ℕ) → 0 < length bs → 0 < n → n ≤ length bs → passing bs ≡ Through n
    → clause_length 0 bs ≡ option_map (λ m. n + m) (clause_length 0 (drop n bs))
through [] n left some within e = absurd (omega arith)
through (b ∷ bs) n left some within e = over n b bs some within e

ended : (bs : List ℕ) (n : ℕ) → 0 < length bs → passing bs ≡ Ends n → clause_length 0 bs ≡ Some n
ended [] n left e = absurd (omega arith)
ended (b ∷ bs) n left e = clause_length-passing b bs ∙ ap (after_passing bs) e

opened : (bs : List ℕ) → 0 < length bs → passing bs ≡ StaysOpen → clause_length 0 bs ≡ None
opened [] left e = absurd (omega arith)
opened (b ∷ bs) left e = clause_length-passing b bs ∙ ap (after_passing bs) e

-- Over places.

placed_on : (size at n : ℕ) (o : Option ℕ) → end_or size at (option_map (λ m. n + m) o) ≡ end_or size (at + n) o
placed_on size at n None = refl
placed_on size at n (Some m) = omega arith

left_at : (text : List ℕ) (at : ℕ) → at < length text → 0 < length (drop at text)
left_at text at h = omega (arith, length-drop at text)

pub skip-through : (text : List ℕ) (at n : ℕ) → at < length text → 0 < n → at + n ≤ length text → passing (drop at text) ≡ Through n
    → skip text at ≡ skip text (at + n)
unfolding skip
skip-through text at n h some within e =
    ap (end_or (length text) at) (through (drop at text) n (left_at text at h) some (omega (arith, length-drop at text)) e)
    ∙ placed_on (length text) at n (clause_length 0 (drop n (drop at text)))
    ∙ ap (λ bs. end_or (length text) (at + n) (clause_length 0 bs)) (drop-drop n at text)

pub skip-ends : (text : List ℕ) (at n : ℕ) → at < length text → passing (drop at text) ≡ Ends n → skip text at ≡ at + n
unfolding skip
skip-ends text at n h e = ap (end_or (length text) at) (ended (drop at text) n (left_at text at h) e)

pub skip-open : (text : List ℕ) (at : ℕ) → at < length text → passing (drop at text) ≡ StaysOpen → skip text at ≡ length text
unfolding skip
skip-open text at h e = ap (end_or (length text) at) (opened (drop at text) (left_at text at h) e)

past_end : (at : ℕ) (text : List ℕ) → length text ≤ at → drop at text ≡ []
past_end zero [] h = refl
past_end (suc at) [] h = refl
past_end zero (b ∷ bs) h = absurd (omega arith)
past_end (suc at) (b ∷ bs) h = past_end at bs (omega arith)

pub skip-past : (text : List ℕ) (at : ℕ) → length text ≤ at → skip text at ≡ length text
unfolding skip
skip-past text at h = ap (λ bs. end_or (length text) at (clause_length 0 bs)) (past_end at text h)

-- Layout is passed.

record Passed (at start k : ℕ) (bs : List ℕ) : Type 0 where
  pub on : clause_length k bs ≡ option_map (λ n. (start - at) + n) (clause_length 0 (drop (start - at) bs))
  pub stop : blank (drop (start - at) bs) ≡ stops

passed_one : (at start k b : ℕ) (bs : List ℕ) → suc at ≤ start → Passed (suc at) start k bs → Passed at start (suc k) (b ∷ bs)
passed_one at start k b bs h p =
    let size : start - at ≡ suc (start - suc at) = omega arith in
    record {
      on = ap (option_map (λ n. suc n)) p.on ∙ mapped_twice (start - suc at) (clause_length 0 (drop (start - suc at) bs))
          ∙ ap (λ m. option_map (λ n. m + n) (clause_length 0 (drop m (b ∷ bs)))) (sym size);
      stop = ap (λ m. blank (drop m (b ∷ bs))) size ∙ p.stop;
    }

passed_here : (at start : ℕ) (bs : List ℕ) → at ≡ start → blank bs ≡ stops → Passed at start 0 bs
passed_here at start bs here e =
    let size : start - at ≡ 0 = omega arith in
    record {
      on = mapped_none (clause_length 0 bs) ∙ ap (λ m. option_map (λ n. m + n) (clause_length 0 (drop m bs))) (sym size);
      stop = ap (λ m. blank (drop m bs)) size ∙ e;
    }

same_length : (at start k b : ℕ) (bs : List ℕ) → clause_length 0 (b ∷ bs) ≡ clause_length (suc k) (b ∷ bs) → Passed at start (suc k) (b ∷ bs)
    → Passed at start 0 (b ∷ bs)
same_length at start k b bs e p = record { on = e ∙ p.on; stop = p.stop }

abbrev after_blank : ℕ → List ℕ → Blank → Result ℕ SyntaxFault
after_blank at bs (passes n) = skip_layout (suc at) (n - 1) bs
after_blank at bs stops = Ok at
after_blank at bs (spoils kind n) = Err (record { kind = kind; at = at + n })

skip_layout-blank : (at b : ℕ) (bs : List ℕ) → skip_layout at 0 (b ∷ bs) ≡ after_blank at bs (blank (b ∷ bs))
skip_layout-blank at b bs = by (blank (b ∷ bs)) where
  by : (l : Blank) → elim l [ passes n ↦ skip_layout (suc at) (n - 1) bs | stops ↦ Ok at | spoils kind n ↦ Err (record { kind = kind; at = at + n }) ] ≡ after_blank at bs l
  by (passes n) = refl
  by stops = refl
  by (spoils kind n) = refl

passed_blank : (at start b : ℕ) (bs : List ℕ) (l : Blank) → ((k : ℕ) → skip_layout (suc at) k bs ≡ Ok start → Passed (suc at) start k bs)
    → blank (b ∷ bs) ≡ l → after_blank at bs l ≡ Ok start → Passed at start 0 (b ∷ bs)
passed_blank at start b bs (passes n) h is e =
    same_length at start (n - 1) b bs (clause_length-passing b bs ∙ ap (λ l. after_passing bs (behind_blank (b ∷ bs) l)) is)
    (passed_one at start (n - 1) b bs (skip_layout-forward (suc at) (n - 1) bs start e) (h (n - 1) e))
passed_blank at start b bs stops h is e = let same : at ≡ start = cc in passed_here at start (b ∷ bs) same is
passed_blank at start b bs (spoils kind n) h is e = cc

passed_layout : (at k : ℕ) (bs : List ℕ) (start : ℕ) → skip_layout at k bs ≡ Ok start → Passed at start k bs
passed_layout at zero [] start e = let same : at ≡ start = cc in passed_here at start [] same refl
passed_layout at (suc k) [] start e =
    let same : at ≡ start = cc in let here = passed_here at start [] same refl in record { on = here.on; stop = here.stop }
passed_layout at (suc k) (b ∷ bs) start e =
    passed_one at start k b bs (skip_layout-forward (suc at) k bs start e) (passed_layout (suc at) k bs start e)
passed_layout at zero (b ∷ bs) start e =
    passed_blank at start b bs (blank (b ∷ bs)) (λ k. passed_layout (suc at) k bs start) refl (sym (skip_layout-blank at b bs) ∙ e)

pub skip-layout : (text : List ℕ) (at start : ℕ) → skip_layout at 0 (drop at text) ≡ Ok start → skip text at ≡ skip text start
unfolding skip
skip-layout text at start e =
    let p = passed_layout at 0 (drop at text) start e in
    let forward : at ≤ start = skip_layout-forward at 0 (drop at text) start e in
    let place : at + (start - at) ≡ start = omega arith in
    ap (end_or (length text) at) p.on ∙ placed_on (length text) at (start - at) (clause_length 0 (drop (start - at) (drop at text)))
    ∙ ap (λ bs. end_or (length text) (at + (start - at)) (clause_length 0 bs)) (drop-drop (start - at) at text)
    ∙ ap (λ n. end_or (length text) n (clause_length 0 (drop n text))) place

pub stops-behind : (text : List ℕ) (at start : ℕ) → skip_layout at 0 (drop at text) ≡ Ok start → blank (drop start text) ≡ stops
stops-behind text at start e =
    let p = passed_layout at 0 (drop at text) start e in
    let forward : at ≤ start = skip_layout-forward at 0 (drop at text) start e in
    let place : at + (start - at) ≡ start = omega arith in
    ap blank (sym (drop-drop (start - at) at text ∙ ap (λ n. drop n text) place)) ∙ p.stop

-- Tokens are passed whole, whether or not layout stands before them.

direct_of : (direct : Bool) (bs : List ℕ) (b : Begins) (c k : ℕ) → behind_reading bs (token_of direct bs b c k) ≡ behind_reading bs (token_of false bs b c k)
direct_of direct bs NameBegins c k = refl
direct_of direct bs VariableBegins c k = refl
direct_of direct bs Digit c k = refl
direct_of direct bs Symbol c k = refl
direct_of direct bs Solo c k = refl
direct_of direct bs Quote c k = refl
direct_of direct bs (PunctuationBegins mark) c k = refl
direct_of direct bs Other c k = refl

direct-front : (direct : Bool) (bs : List ℕ) → behind_reading bs (token_front direct bs) ≡ behind_reading bs (token_front false bs)
direct-front direct bs = by (front bs) where
  by : (f : Front) → behind_reading bs (elim f [ nothing ↦ Nothing | scalar c k ↦ token_of direct bs (begins c) c k | broken ↦ Fault BadUtf8 0 ])
      ≡ behind_reading bs (elim f [ nothing ↦ Nothing | scalar c k ↦ token_of false bs (begins c) c k | broken ↦ Fault BadUtf8 0 ])
  by nothing = refl
  by (scalar c k) = direct_of direct bs (begins c) c k
  by broken = refl

passing-front : (direct : Bool) (bs : List ℕ) (r : Reading) → blank bs ≡ stops → token_front direct bs ≡ r → passing bs ≡ behind_reading bs r
passing-front direct bs r e is =
    ap (behind_blank bs) e ∙ sym (direct-front direct bs) ∙ ap (behind_reading bs) is

through-token : (bs : List ℕ) (kind : TokenKind) (n : ℕ) → (kind ≡ EndToken → ⊥) → behind_reading bs (Token kind n) ≡ Through n
through-token bs (Name t) n other = refl
through-token bs (Quoted t) n other = refl
through-token bs (Variable t) n other = refl
through-token bs (Integer i) n other = refl
through-token bs (DoubleQuoted t) n other = refl
through-token bs (BackQuoted t) n other = refl
through-token bs (Punctuation mark) n other = refl
through-token bs EndToken n other = absurd (other refl)

-- A token that lies at a start, after which the front is.
record Begun (text : List ℕ) (start : ℕ) (kind : TokenKind) (s e : ℕ) : Type 0 where
  pub size : ℕ
  pub some : 0 < size
  pub left : start < length text
  pub within : start + size ≤ length text
  pub end : e ≡ start + size
  pub passes : passing (drop start text) ≡ behind_reading (drop start text) (Token kind size)

begun : (text : List ℕ) (start : ℕ) (direct : Bool) (kind : TokenKind) (s e : ℕ) (r : Reading) → blank (drop start text) ≡ stops
    → token_front direct (drop start text) ≡ r → ReadsWithin (length (drop start text)) r → placed start r ≡ token kind s e
    → Begun text start kind s e
begun text start direct kind s e (Token k n) stop is within same =
    let ends : e ≡ start + n = cc in
    let kinds : k ≡ kind = cc in
    let left = length-drop start text in
    record {
      size = n;
      some = within.0;
      left = omega (arith, within.0, within.1, left);
      within = omega (arith, within.0, within.1, left);
      end = ends;
      passes = passing-front direct (drop start text) (Token k n) stop is ∙ ap (λ l. behind_reading (drop start text) (Token l n)) kinds;
    }
begun text start direct kind s e (Fault k n) stop is within same = cc
begun text start direct kind s e Nothing stop is within same = cc

begun_from : (text : List ℕ) (at : ℕ) (kind : TokenKind) (s e start : ℕ) → skip_layout at 0 (drop at text) ≡ Ok start
    → placed start (token_front (start == at) (drop start text)) ≡ token kind s e → Begun text start kind s e
begun_from text at kind s e start from is =
    begun text start (start == at) kind s e (token_front (start == at) (drop start text)) (stops-behind text at start from) refl
    (token_front-within (start == at) (drop start text)) is

ends_from : (text : List ℕ) (at s e : ℕ) (r : Result ℕ SyntaxFault) → skip_layout at 0 (drop at text) ≡ r
    → from_start text at r ≡ token EndToken s e → skip text at ≡ e
ends_from text at s e (Err f) from is = cc
ends_from text at s e (Ok start) from is =
    let b = begun_from text at EndToken s e start from is in
    skip-layout text at start from ∙ skip-ends text start b.size b.left b.passes ∙ sym b.end

pub ends_at : (text : List ℕ) (at s e : ℕ) → token_at text at ≡ token EndToken s e → skip text at ≡ e
unfolding token_at
ends_at text at s e is = ends_from text at s e (skip_layout at 0 (drop at text)) refl is

passes_from : (text : List ℕ) (at : ℕ) (kind : TokenKind) (s e : ℕ) (r : Result ℕ SyntaxFault) → (kind ≡ EndToken → ⊥)
    → skip_layout at 0 (drop at text) ≡ r → from_start text at r ≡ token kind s e → skip text at ≡ skip text e
passes_from text at kind s e (Err f) other from is = cc
passes_from text at kind s e (Ok start) other from is =
    let b = begun_from text at kind s e start from is in
    skip-layout text at start from
    ∙ skip-through text start b.size b.left b.some b.within (b.passes ∙ through-token (drop start text) kind b.size other)
    ∙ ap (skip text) (sym b.end)

pub passes_at : (text : List ℕ) (at : ℕ) (kind : TokenKind) (s e : ℕ) → (kind ≡ EndToken → ⊥) → token_at text at ≡ token kind s e
    → skip text at ≡ skip text e
unfolding token_at
passes_at text at kind s e other is = passes_from text at kind s e (skip_layout at 0 (drop at text)) other refl is

-- Where bytes are left, a token or a fault stands.

abbrev Something : Reading → Type 0
Something (Token kind n) = Unit {0}
Something (Fault kind n) = Unit {0}
Something Nothing = ⊥

either : (t : Bool) (p q : Reading) → Something p → Something q → Something (cond t p q)
either true p q f g = f
either false p q f g = g

integer-something : (value size : ℕ) → Something (integer value size)
integer-something value size = either (nat_lt (2 ^ 63) value) (Fault IntegerTooLarge 0) (Token (Integer value) size) tt tt

decimal-something : (bs : List ℕ) → Something (decimal_constant bs)
decimal-something bs =
    let n = digit_count 10 bs in
    let value = digits_value 10 (take n bs) in
    either (nat_lt (2 ^ 63) value) (Fault IntegerTooLarge 0) _ tt
    (either ((slice_index bs n == 46) && is_ascii_digit (slice_index bs (n + 1))) (Fault FloatNumeral 0) (Token (Integer value) n) tt tt)

coded-something : (p : Piece) → Something (coded_character p)
coded-something (Character c k) = tt
coded-something (Continuation k) = tt
coded-something Close = tt
coded-something (Bad kind k) = tt

numeral-something : (bs : List ℕ) → Something (numeral bs)
numeral-something bs =
    either ((slice_index bs 0 == 48) && ((slice_index bs 1 == 39) && nat_lt 2 (length bs))) (character_code (drop 2 bs)) _
    (either (slice_index (drop 2 bs) 0 == 10) (Fault BadEscape 0) (coded_character (piece 39 (drop 2 bs))) tt (coded-something (piece 39 (drop 2 bs))))
    (either ((slice_index bs 0 == 48) && is_digit (radix_of (slice_index bs 1)) (slice_index bs 2)) (radix_constant (radix_of (slice_index bs 1)) bs)
    (decimal_constant bs)
    (integer-something (digits_value (radix_of (slice_index bs 1)) (take (digit_count (radix_of (slice_index bs 1)) (drop 2 bs)) (drop 2 bs)))
    (digit_count (radix_of (slice_index bs 1)) (drop 2 bs) + 2)) (decimal-something bs))

closed-something : (quote size : ℕ) (s : Spelled) → Something (closed quote size s)
closed-something quote size (Ok cs) = tt
closed-something quote size (Err f) = tt

quoted-something : (quote : ℕ) (bs : List ℕ) (o : Option ℕ) → Something (quoted_by quote bs o)
quoted-something quote bs None = tt
quoted-something quote bs (Some n) = closed-something quote (n + 2) (spelled quote 1 0 bs)

token_of-something : (direct : Bool) (bs : List ℕ) (b : Begins) (c k : ℕ) → Something (token_of direct bs b c k)
token_of-something direct bs NameBegins c k = tt
token_of-something direct bs VariableBegins c k = tt
token_of-something direct bs Digit c k = numeral-something bs
token_of-something direct bs Symbol c k =
    let n = run is_symbol 0 bs in
    either ((n == 1) && ((slice_index bs 0 == 46) && closes_clause (drop 1 bs))) (Token EndToken 1) (Token (Name (chars (take n bs))) n) tt tt
token_of-something direct bs Solo c k = tt
token_of-something direct bs Quote c k = quoted-something c (drop 1 bs) (closing c 0 (drop 1 bs))
token_of-something direct bs (PunctuationBegins mark) c k = tt
token_of-something direct bs Other c k = tt

front-something : (direct : Bool) (b : ℕ) (bs : List ℕ) → Something (token_front direct (b ∷ bs))
front-something direct b bs = by (nat_lt b 128) (is_utf8 (take (suc (continuation_len b)) (b ∷ bs))) (take (suc (continuation_len b)) (b ∷ bs)) where
  by : (t u : Bool) (wide : List ℕ)
      → Something (elim (cond t (scalar b 1) (front_of u wide)) [ nothing ↦ Nothing | scalar c k ↦ token_of direct (b ∷ bs) (begins c) c k | broken ↦ Fault BadUtf8 0 ])
  by true u wide = token_of-something direct (b ∷ bs) (begins b) b 1
  by false true wide = token_of-something direct (b ∷ bs) (begins (slice_index (chars wide) 0)) (slice_index (chars wide) 0) (length wide)
  by false false wide = tt

none_left : (direct : Bool) (bs : List ℕ) → token_front direct bs ≡ Nothing → bs ≡ []
none_left direct [] e = refl
none_left direct (b ∷ bs) e = absurd (subst Something e (front-something direct b bs))

nothing_placed : (start : ℕ) (r : Reading) → placed start r ≡ Ok End → r ≡ Nothing
nothing_placed start (Token kind n) e = cc
nothing_placed start (Fault kind n) e = cc
nothing_placed start Nothing e = refl

nothing_from : (text : List ℕ) (at : ℕ) (r : Result ℕ SyntaxFault) → skip_layout at 0 (drop at text) ≡ r → from_start text at r ≡ Ok End
    → skip text at ≡ length text
unfolding skip
nothing_from text at (Err f) from is = cc
nothing_from text at (Ok start) from is =
    skip-layout text at start from
    ∙ ap (λ bs. end_or (length text) start (clause_length 0 bs))
    (none_left (start == at) (drop start text) (nothing_placed start (token_front (start == at) (drop start text)) is))

pub nothing_at : (text : List ℕ) (at : ℕ) → token_at text at ≡ Ok End → skip text at ≡ length text
unfolding token_at
nothing_at text at is = nothing_from text at (skip_layout at 0 (drop at text)) refl is
