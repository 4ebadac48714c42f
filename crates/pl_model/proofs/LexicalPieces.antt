-- Pieces of quoted texts: how many bytes each has, and how a quoted text goes on after one.
use Rattle.std.proofs.Common.{◌≡◌, ℕ, ◌+◌, ◌-◌, ◌<◌, ◌≤◌, zero, suc, Bool, true, false, cond, ◌==◌, List, [], ◌∷◌, length, take, drop, get_or, slice_index, Option, Some, None, option_map, Ok, Err, refl, ap, ◌∙◌, arith}
use Rattle.std.specs.Str.{all_scalars}
use Rattle.std.specs.Str.Parse.{digits_value}
use Rattle.std.proofs.lemmas.Bool.{cond-true, cond-false}
use Rattle.std.proofs.lemmas.Bool.Decides.{nat_tests}
use Rattle.std.proofs.lemmas.List.{length-drop, length-take}
use Rattle.pl_model.specs.Tokens.{Front, nothing, scalar, broken, front}
use Rattle.pl_model.specs.declared.syntax.SyntaxKind.{SyntaxKind}
use Rattle.pl_model.specs.declared.syntax.SyntaxKind.TheVariants.{BadUtf8, BadEscape}
use Rattle.pl_model.specs.declared.lexical.Piece.{Piece}
use Rattle.pl_model.specs.declared.lexical.Piece.TheVariants.{Character, Continuation, Close, Bad}
use Rattle.pl_model.specs.LexicalQuoted.{is_digit, digit_count, simple_escape, coded, digits_escape, four_digits_escape, simple_piece, escape, begins_with, piece_of, piece, piece_size, HasSize, closing, Spelled, behind, spelled}
use Rattle.pl_model.proofs.CharacterRuns.{front-bounds, run-within}

either : (n : ℕ) (t : Bool) (p q : Piece) → (t ≡ true → HasSize n p) → (t ≡ false → HasSize n q) → HasSize n (cond t p q)
either n true p q f g = f refl
either n false p q f g = g refl

coded-size : (n code size : ℕ) → 0 < size → size ≤ n → 2 ≤ n → HasSize n (coded code size)
coded-size n code size some within two =
    either n (all_scalars (code ∷ [])) (Character code size) (Bad BadEscape 2) (λ _. (some, within)) (λ _. (omega arith, two))

chosen : (t : Bool) (m n b : ℕ) → (t ≡ true → m ≤ b) → n ≤ b → cond t m n ≤ b
chosen true m n b f g = f refl
chosen false m n b f g = g

some_of : (t : Bool) (m n : ℕ) → 0 < m → 0 < n → 0 < cond t m n
some_of true m n f g = f
some_of false m n f g = g

get-inside : (bs : List ℕ) (n : ℕ) → get_or bs n 0 ≡ 92 → n < length bs
get-inside [] n e = cc
get-inside (b ∷ bs) zero e = omega arith
get-inside (b ∷ bs) (suc n) e = omega (arith, get-inside bs n e)

inside : (bs : List ℕ) (n : ℕ) → (slice_index bs n == 92) ≡ true → n < length bs
inside bs n e = let is : get_or bs n 0 ≡ 92 = grind (arith, nat_tests) in get-inside bs n is

digits_escape-size : (radix before : ℕ) (bs : List ℕ) → 0 < before → 2 ≤ before + length bs → HasSize (before + length bs) (digits_escape radix before bs)
digits_escape-size radix before bs some two =
    let n = digit_count radix bs in
    let within : n ≤ length bs = run-within (is_digit radix) 0 bs in
    let size = cond (slice_index bs n == 92) (before + n + 1) (before + n) in
    let fits : size ≤ before + length bs
    = chosen (slice_index bs n == 92) (before + n + 1) (before + n) (before + length bs) (λ t. omega (arith, inside bs n t)) (omega arith) in
    let least : 0 < size = some_of (slice_index bs n == 92) (before + n + 1) (before + n) (omega arith) (omega arith) in
    either (before + length bs) (n == 0) (Bad BadEscape 2) (coded (digits_value radix (take n bs)) size) (λ _. (omega arith, two))
    (λ _. coded-size (before + length bs) (digits_value radix (take n bs)) size least fits two)

four_digits_escape-size : (bs : List ℕ) → HasSize (2 + length bs) (four_digits_escape bs)
four_digits_escape-size bs =
    let n = digit_count 16 (take 4 bs) in
    let within : n ≤ length (take 4 bs) = run-within (is_digit 16) 0 (take 4 bs) in
    let front : length (take 4 bs) ≤ length bs = omega (arith, length-take 4 bs) in
    let full : (n == 4) ≡ true → n ≡ 4 = λ (t : (n == 4) ≡ true). grind (arith, nat_tests) in
    either (2 + length bs) (n == 4) (coded (digits_value 16 (take 4 bs)) 6) (Bad BadEscape 2)
    (λ t. let is : n ≡ 4 = full t in coded-size (2 + length bs) (digits_value 16 (take 4 bs)) 6 (omega arith) (omega arith) (omega arith))
    (λ _. (omega arith, omega arith))

simple_piece-size : (o : Option ℕ) (bs : List ℕ) (c k : ℕ) → 0 < length bs → 0 < k → k ≤ length bs → HasSize (1 + length bs) (simple_piece o bs c k)
simple_piece-size (Some code) bs c k some least within = (omega arith, omega arith)
simple_piece-size None bs c k some least within =
    let rest : 1 + length (drop 1 bs) ≡ length bs = omega (arith, length-drop 1 bs) in
    let x = digits_escape-size 16 2 (drop 1 bs) (omega arith) (omega arith) in
    let u = four_digits_escape-size (drop 1 bs) in
    let octal = digits_escape-size 8 1 bs (omega arith) (omega arith) in
    either (1 + length bs) (c == 10) (Continuation 2) _ (λ _. (omega arith, omega arith))
    (λ _. either (1 + length bs) (c == 120) (digits_escape 16 2 (drop 1 bs)) _ (λ _. (x.0, omega (arith, x.1)))
    (λ _. either (1 + length bs) (is_digit 8 c) (digits_escape 8 1 bs) _ (λ _. octal)
    (λ _. either (1 + length bs) (c == 117) (four_digits_escape (drop 1 bs)) (Bad BadEscape (1 + k)) (λ _. (u.0, omega (arith, u.1)))
    (λ _. (omega arith, omega arith)))))

abbrev escape_front : List ℕ → Front → Piece
escape_front bs nothing = Bad BadEscape 1
escape_front bs (scalar c k) = simple_piece (simple_escape c) bs c k
escape_front bs broken = Bad BadEscape 2

escape-front : (bs : List ℕ) → escape bs ≡ escape_front bs (front bs)
escape-front bs = by (front bs) where
  by : (f : Front) → elim f [ nothing ↦ Bad BadEscape 1 | scalar c k ↦ simple_piece (simple_escape c) bs c k | broken ↦ Bad BadEscape 2 ] ≡ escape_front bs f
  by nothing = refl
  by (scalar c k) = refl
  by broken = refl

escape_front-size : (bs : List ℕ) (f : Front) → front bs ≡ f → HasSize (1 + length bs) (escape_front bs f)
escape_front-size bs nothing e = (omega arith, omega arith)
escape_front-size bs (scalar c k) e =
    let bounds = front-bounds bs c k e in simple_piece-size (simple_escape c) bs c k (omega (arith, bounds.0, bounds.1)) bounds.0 bounds.1
escape_front-size [] broken e = cc
escape_front-size (b ∷ bs) broken e = (omega arith, omega arith)

escape-size : (bs : List ℕ) → HasSize (1 + length bs) (escape bs)
escape-size bs = rw (escape-front bs) (escape_front-size bs (front bs) refl)

doubled : (c : ℕ) (bs : List ℕ) → begins_with c bs ≡ true → 0 < length bs
doubled c [] e = cc
doubled c (b ∷ bs) e = omega arith

piece_of-size : (quote : ℕ) (bs : List ℕ) (c k : ℕ) → 0 < k → k ≤ length bs → HasSize (length bs) (piece_of quote bs c k)
piece_of-size quote bs c k least within =
    let rest : 1 + length (drop 1 bs) ≡ length bs = omega (arith, length-drop 1 bs) in
    let escaped = escape-size (drop 1 bs) in
    either (length bs) (c == quote) (cond (begins_with quote (drop 1 bs)) (Character quote 2) Close) _
    (λ _. either (length bs) (begins_with quote (drop 1 bs)) (Character quote 2) Close
    (λ t. (omega arith, omega (arith, doubled quote (drop 1 bs) t))) (λ _. (omega arith, omega arith)))
    (λ _. either (length bs) (c == 92) (escape (drop 1 bs)) (Character c k) (λ _. (escaped.0, omega (arith, escaped.1)))
    (λ _. (least, within)))

abbrev pub piece_front : ℕ → List ℕ → Front → Piece
piece_front quote bs nothing = Bad BadUtf8 1
piece_front quote bs (scalar c k) = piece_of quote bs c k
piece_front quote bs broken = Bad BadUtf8 1

pub piece-front : (quote : ℕ) (bs : List ℕ) → piece quote bs ≡ piece_front quote bs (front bs)
piece-front quote bs = by (front bs) where
  by : (f : Front) → elim f [ nothing ↦ Bad BadUtf8 1 | scalar c k ↦ piece_of quote bs c k | broken ↦ Bad BadUtf8 1 ] ≡ piece_front quote bs f
  by nothing = refl
  by (scalar c k) = refl
  by broken = refl

piece_front-size : (quote : ℕ) (bs : List ℕ) (f : Front) → 0 < length bs → front bs ≡ f → HasSize (length bs) (piece_front quote bs f)
piece_front-size quote bs nothing some e = (omega arith, omega arith)
piece_front-size quote bs (scalar c k) some e = let bounds = front-bounds bs c k e in piece_of-size quote bs c k bounds.0 bounds.1
piece_front-size quote bs broken some e = (omega arith, omega arith)

pub piece-scalar : (quote : ℕ) (bs : List ℕ) (c k : ℕ) → front bs ≡ scalar c k → piece quote bs ≡ piece_of quote bs c k
piece-scalar quote bs c k e = piece-front quote bs ∙ ap (piece_front quote bs) e

-- A backslash begins an escape sequence.
pub piece-escape : (quote : ℕ) (bs : List ℕ) (c k : ℕ) → front bs ≡ scalar c k → (c ≡ quote → ⊥) → c ≡ 92 → piece quote bs ≡ escape (drop 1 bs)
piece-escape quote bs c k e other is =
    let differs : (c == quote) ≡ false = grind (arith, nat_tests) in
    let backslash : (c == 92) ≡ true = grind (arith, nat_tests) in
    piece-scalar quote bs c k e ∙ cond-false (c == quote) (cond (begins_with quote (drop 1 bs)) (Character quote 2) Close) _ differs
    ∙ cond-true (c == 92) (escape (drop 1 bs)) (Character c k) backslash

-- A piece has at least one byte, and no more than there are.
pub piece-size : (quote : ℕ) (bs : List ℕ) → 0 < length bs → HasSize (length bs) (piece quote bs)
piece-size quote bs some = rw (piece-front quote bs) (piece_front-size quote bs (front bs) some refl)

-- Where a quoted text closes.

mapped_twice : (k : ℕ) (o : Option ℕ) → option_map (λ n. suc n) (option_map (λ n. k + n) o) ≡ option_map (λ n. suc k + n) o
mapped_twice k None = refl
mapped_twice k (Some n) = ap (λ m. Some m) (omega arith)

mapped_none : (o : Option ℕ) → o ≡ option_map (λ n. 0 + n) o
mapped_none None = refl
mapped_none (Some n) = ap (λ m. Some m) (omega arith)

closing-inside : (quote k : ℕ) (bs : List ℕ) → k ≤ length bs → closing quote k bs ≡ option_map (λ n. k + n) (closing quote 0 (drop k bs))
closing-inside quote zero bs h = mapped_none (closing quote 0 bs)
closing-inside quote (suc k) [] h = absurd (omega arith)
closing-inside quote (suc k) (b ∷ bs) h =
    ap (option_map (λ n. suc n)) (closing-inside quote k bs (omega arith)) ∙ mapped_twice k (closing quote 0 (drop k bs))

abbrev pub closing_piece : ℕ → List ℕ → Piece → Option ℕ
closing_piece quote bs (Character c k) = option_map (λ n. suc n) (closing quote (k - 1) bs)
closing_piece quote bs (Continuation k) = option_map (λ n. suc n) (closing quote (k - 1) bs)
closing_piece quote bs Close = Some 0
closing_piece quote bs (Bad kind k) = option_map (λ n. suc n) (closing quote (k - 1) bs)

pub closing-piece : (quote b : ℕ) (bs : List ℕ) → closing quote 0 (b ∷ bs) ≡ closing_piece quote bs (piece quote (b ∷ bs))
closing-piece quote b bs = by (piece quote (b ∷ bs)) where
  by : (p : Piece) → elim p [
    | Character c k ↦ option_map (λ n. suc n) (closing quote (k - 1) bs)
    | Continuation k ↦ option_map (λ n. suc n) (closing quote (k - 1) bs)
    | Close ↦ Some 0
    | Bad kind k ↦ option_map (λ n. suc n) (closing quote (k - 1) bs)
  ] ≡ closing_piece quote bs p
  by (Character c k) = refl
  by (Continuation k) = refl
  by Close = refl
  by (Bad kind k) = refl

-- A piece that does not close the text.
abbrev pub Passes : Piece → Type 0
Passes (Character c k) = Unit {0}
Passes (Continuation k) = Unit {0}
Passes Close = ⊥
Passes (Bad kind k) = Unit {0}

over : (quote k b : ℕ) (bs : List ℕ) → 0 < k → k ≤ length (b ∷ bs)
    → option_map (λ n. suc n) (closing quote (k - 1) bs) ≡ option_map (λ n. k + n) (closing quote 0 (drop k (b ∷ bs)))
over quote zero b bs some within = absurd (omega arith)
over quote (suc k) b bs some within =
    let less : suc k - 1 ≡ k = omega arith in
    ap (λ m. option_map (λ n. suc n) (closing quote m bs)) less ∙ closing-inside quote (suc k) (b ∷ bs) within

passed : (quote b : ℕ) (bs : List ℕ) (p : Piece) → piece quote (b ∷ bs) ≡ p → Passes p → HasSize (length (b ∷ bs)) p
    → closing quote 0 (b ∷ bs) ≡ option_map (λ n. piece_size p + n) (closing quote 0 (drop (piece_size p) (b ∷ bs)))
passed quote b bs (Character c k) e h size = closing-piece quote b bs ∙ ap (closing_piece quote bs) e ∙ over quote k b bs size.0 size.1
passed quote b bs (Continuation k) e h size = closing-piece quote b bs ∙ ap (closing_piece quote bs) e ∙ over quote k b bs size.0 size.1
passed quote b bs Close e h size = absurd h
passed quote b bs (Bad kind k) e h size = closing-piece quote b bs ∙ ap (closing_piece quote bs) e ∙ over quote k b bs size.0 size.1

pub closing-passes : (quote : ℕ) (bs : List ℕ) (p : Piece) → 0 < length bs → piece quote bs ≡ p → Passes p
    → closing quote 0 bs ≡ option_map (λ n. piece_size p + n) (closing quote 0 (drop (piece_size p) bs))
closing-passes quote [] p some e h = absurd (omega arith)
closing-passes quote (b ∷ bs) p some e h =
    passed quote b bs p e h (let size = piece-size quote (b ∷ bs) (omega arith) in rw e at size)

pub closing-closes : (quote : ℕ) (bs : List ℕ) → 0 < length bs → piece quote bs ≡ Close → closing quote 0 bs ≡ Some 0
closing-closes quote [] some e = absurd (omega arith)
closing-closes quote (b ∷ bs) some e = closing-piece quote b bs ∙ ap (closing_piece quote bs) e

-- What a quoted text spells.

spelled-inside : (quote at k : ℕ) (bs : List ℕ) → k ≤ length bs → spelled quote at k bs ≡ spelled quote (at + k) 0 (drop k bs)
spelled-inside quote at zero bs h = ap (λ n. spelled quote n 0 bs) (omega arith)
spelled-inside quote at (suc k) [] h = absurd (omega arith)
spelled-inside quote at (suc k) (b ∷ bs) h =
    spelled-inside quote (suc at) k bs (omega arith) ∙ ap (λ n. spelled quote n 0 (drop k bs)) (omega arith)

abbrev pub spelled_piece : ℕ → ℕ → List ℕ → Piece → Spelled
spelled_piece quote at bs (Character c k) = behind c (spelled quote (suc at) (k - 1) bs)
spelled_piece quote at bs (Continuation k) = spelled quote (suc at) (k - 1) bs
spelled_piece quote at bs Close = Ok []
spelled_piece quote at bs (Bad kind k) = Err (kind, at)

pub spelled-piece : (quote at b : ℕ) (bs : List ℕ) → spelled quote at 0 (b ∷ bs) ≡ spelled_piece quote at bs (piece quote (b ∷ bs))
spelled-piece quote at b bs = by (piece quote (b ∷ bs)) where
  by : (p : Piece) → elim p [
    | Character c k ↦ behind c (spelled quote (suc at) (k - 1) bs)
    | Continuation k ↦ spelled quote (suc at) (k - 1) bs
    | Close ↦ Ok []
    | Bad kind k ↦ Err (kind, at)
  ] ≡ spelled_piece quote at bs p
  by (Character c k) = refl
  by (Continuation k) = refl
  by Close = refl
  by (Bad kind k) = refl

further : (quote at k b : ℕ) (bs : List ℕ) → 0 < k → k ≤ length (b ∷ bs)
    → spelled quote (suc at) (k - 1) bs ≡ spelled quote (at + k) 0 (drop k (b ∷ bs))
further quote at zero b bs some within = absurd (omega arith)
further quote at (suc k) b bs some within =
    let less : suc k - 1 ≡ k = omega arith in
    ap (λ m. spelled quote (suc at) m bs) less ∙ spelled-inside quote at (suc k) (b ∷ bs) within

sized : (quote : ℕ) (bs : List ℕ) (p : Piece) → 0 < length bs → piece quote bs ≡ p → HasSize (length bs) p
sized quote bs p some e = let size = piece-size quote bs some in rw e at size

pub spelled-character : (quote at : ℕ) (bs : List ℕ) (c k : ℕ) → 0 < length bs → piece quote bs ≡ Character c k
    → spelled quote at 0 bs ≡ behind c (spelled quote (at + k) 0 (drop k bs))
spelled-character quote at [] c k some e = absurd (omega arith)
spelled-character quote at (b ∷ bs) c k some e =
    let size = sized quote (b ∷ bs) (Character c k) some e in
    spelled-piece quote at b bs ∙ ap (spelled_piece quote at bs) e ∙ ap (behind c) (further quote at k b bs size.0 size.1)

pub spelled-continuation : (quote at : ℕ) (bs : List ℕ) (k : ℕ) → 0 < length bs → piece quote bs ≡ Continuation k
    → spelled quote at 0 bs ≡ spelled quote (at + k) 0 (drop k bs)
spelled-continuation quote at [] k some e = absurd (omega arith)
spelled-continuation quote at (b ∷ bs) k some e =
    let size = sized quote (b ∷ bs) (Continuation k) some e in
    spelled-piece quote at b bs ∙ ap (spelled_piece quote at bs) e ∙ further quote at k b bs size.0 size.1

pub spelled-closes : (quote at : ℕ) (bs : List ℕ) → 0 < length bs → piece quote bs ≡ Close → spelled quote at 0 bs ≡ Ok []
spelled-closes quote at [] some e = absurd (omega arith)
spelled-closes quote at (b ∷ bs) some e = spelled-piece quote at b bs ∙ ap (spelled_piece quote at bs) e

pub spelled-bad : (quote at : ℕ) (bs : List ℕ) (kind : SyntaxKind) (k : ℕ) → 0 < length bs → piece quote bs ≡ Bad kind k
    → spelled quote at 0 bs ≡ Err (kind, at)
spelled-bad quote at [] kind k some e = absurd (omega arith)
spelled-bad quote at (b ∷ bs) kind k some e = spelled-piece quote at b bs ∙ ap (spelled_piece quote at bs) e
