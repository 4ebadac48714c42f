-- What the loops over the pieces of a quoted text meet.
use Rattle.std.proofs.Common.{◌≡◌, ℕ, ◌+◌, ◌-◌, ◌*◌, ◌^◌, ◌<◌, ◌≤◌, zero, suc, Bool, true, false, nat_lt, List, [], ◌∷◌, ◌++◌, length, take, drop, min, get_or, Option, Some, None, option_map, Ok, Err, refl, sym, ap, ◌∙◌, arith, append_assoc}
use Rattle.std.specs.Str.{chars, IsUtf8}
use Rattle.std.specs.Char.{encode_utf8, IsScalar, digit_value}
use Rattle.std.proofs.lemmas.Bool.Decides.{nat_tests}
use Rattle.pl_model.specs.declared.syntax.SyntaxKind.{SyntaxKind}
use Rattle.pl_model.specs.LexicalQuoted.{piece_size, HasSize}
use Rattle.std.proofs.lemmas.List.{length-drop, drop-drop, take_more, append-nil}
use Rattle.std.proofs.lemmas.Str.{chars-append, chars_past_char, IsUtf8-encode, chars-nil}
use Rattle.std.specs.Str.Parse.{digits_value}
use Rattle.std.proofs.lemmas.Int.Digits.{digits_value_push}
use Rattle.pl_term.specs.Tree.{Chars}
use Rattle.pl_model.specs.declared.lexical.Piece.{Piece}
use Rattle.pl_model.specs.declared.lexical.Piece.TheVariants.{Character, Continuation, Close, Bad}
use Rattle.pl_model.specs.LexicalQuoted.{Spelled, behind, closing, piece, spelled}
use Rattle.pl_model.proofs.LexicalPieces.{Passes, piece-size, closing-passes, closing-closes, spelled-character, spelled-continuation, spelled-closes, spelled-bad}

-- Where a quoted text closes, over places.

abbrev pub closing_from : ℕ → List ℕ → ℕ → Option ℕ
closing_from quote text at = option_map (λ n. at + n) (closing quote 0 (drop at text))

mapped : (at k : ℕ) (o : Option ℕ) → option_map (λ n. at + n) (option_map (λ n. k + n) o) ≡ option_map (λ n. (at + k) + n) o
mapped at k None = refl
mapped at k (Some n) = ap (λ m. Some m) (omega arith)

pub closing_from-start : (quote : ℕ) (text : List ℕ) → closing quote 0 text ≡ closing_from quote text 0
closing_from-start quote text = by (closing quote 0 text) where
  by : (o : Option ℕ) → o ≡ option_map (λ n. 0 + n) o
  by None = refl
  by (Some n) = ap (λ m. Some m) (omega arith)

pub closing_from-passes : (quote : ℕ) (text : List ℕ) (at : ℕ) (p : Piece) → at < length text → p ≡ piece quote (drop at text) → Passes p
    → closing_from quote text at ≡ closing_from quote text (at + piece_size p)
closing_from-passes quote text at p h e passes =
    let some : 0 < length (drop at text) = omega (arith, length-drop at text) in
    ap (option_map (λ n. at + n)) (closing-passes quote (drop at text) p some (sym e) passes)
    ∙ mapped at (piece_size p) (closing quote 0 (drop (piece_size p) (drop at text)))
    ∙ ap (λ bs. option_map (λ n. (at + piece_size p) + n) (closing quote 0 bs)) (drop-drop (piece_size p) at text)

pub closing_from-closes : (quote : ℕ) (text : List ℕ) (at : ℕ) → at < length text → Close ≡ piece quote (drop at text)
    → closing_from quote text at ≡ Some at
closing_from-closes quote text at h e =
    let some : 0 < length (drop at text) = omega (arith, length-drop at text) in
    ap (option_map (λ n. at + n)) (closing-closes quote (drop at text) some (sym e)) ∙ ap (λ m. Some m) (omega arith)

past_end : (at : ℕ) (text : List ℕ) → length text ≤ at → drop at text ≡ []
past_end zero [] h = refl
past_end (suc at) [] h = refl
past_end zero (b ∷ bs) h = absurd (omega arith)
past_end (suc at) (b ∷ bs) h = past_end at bs (omega arith)

pub closing_from-ends : (quote : ℕ) (text : List ℕ) (at : ℕ) → length text ≤ at → closing_from quote text at ≡ None
closing_from-ends quote text at h = ap (λ bs. option_map (λ n. at + n) (closing quote 0 bs)) (past_end at text h)

-- Each piece lies within the text.
pub piece-within : (quote : ℕ) (text : List ℕ) (at : ℕ) (p : Piece) → at < length text → p ≡ piece quote (drop at text)
    → (0 < piece_size p) × (at + piece_size p ≤ length text)
piece-within quote text at p h e =
    let some : 0 < length (drop at text) = omega (arith, length-drop at text) in
    let size : HasSize (length (drop at text)) p = rw e (piece-size quote (drop at text) some) in
    (size.0, omega (arith, size.1, length-drop at text))

-- What it spells, over places: `at` bytes after the opening quote.

abbrev pub prefixed : Chars → Spelled → Spelled
prefixed cs (Ok ds) = Ok (cs ++ ds)
prefixed cs (Err f) = Err f

abbrev pub spelled_from : ℕ → List ℕ → ℕ → Spelled
spelled_from quote text at = spelled quote (1 + at) 0 (drop at text)

prefixed-behind : (cs : Chars) (c : ℕ) (r : Spelled) → prefixed cs (behind c r) ≡ prefixed (cs ++ c ∷ []) r
prefixed-behind cs c (Ok ds) = ap (λ es. Ok es) (sym (append_assoc cs (c ∷ []) ds))
prefixed-behind cs c (Err f) = refl

nil : (r : Spelled) → prefixed [] r ≡ r
nil (Ok ds) = refl
nil (Err f) = refl

pub spelled_from-start : (quote : ℕ) (text bs : List ℕ) → bs ≡ [] → spelled quote 1 0 text ≡ prefixed (chars bs) (spelled_from quote text 0)
spelled_from-start quote text bs e =
    sym (ap (λ ds. prefixed (chars ds) (spelled quote 1 0 text)) e ∙ ap (λ cs. prefixed cs (spelled quote 1 0 text)) chars-nil ∙ nil (spelled quote 1 0 text))

pub chars-push : (bs : List ℕ) (c : ℕ) → IsUtf8 bs → IsScalar c → chars (bs ++ encode_utf8 c) ≡ chars bs ++ c ∷ []
chars-push bs c text is =
    let one : chars (encode_utf8 c) ≡ c ∷ [] =
    chars_past_char (encode_utf8 c) [] c (IsUtf8-encode c is) (sym (append-nil (encode_utf8 c))) ∙ ap (λ cs. c ∷ cs) chars-nil in
    chars-append bs (encode_utf8 c) text ∙ ap (λ cs. chars bs ++ cs) one

module _ (quote : ℕ) (text bs : List ℕ) (at : ℕ) (so_far : spelled quote 1 0 text ≡ prefixed (chars bs) (spelled_from quote text at)) where
  some_left : at < length text → 0 < length (drop at text)
  some_left h = omega (arith, length-drop at text)

  pub spelled_from-character : (c k : ℕ) (ds : List ℕ) → at < length text → Character c k ≡ piece quote (drop at text)
      → chars ds ≡ chars bs ++ c ∷ [] → spelled quote 1 0 text ≡ prefixed (chars ds) (spelled_from quote text (at + k))
  spelled_from-character c k ds h e more =
      let place : (1 + at) + k ≡ 1 + (at + k) = omega arith in
      so_far
      ∙ ap (prefixed (chars bs)) (spelled-character quote (1 + at) (drop at text) c k (some_left h) (sym e))
      ∙ ap (λ ts. prefixed (chars bs) (behind c (spelled quote ((1 + at) + k) 0 ts))) (drop-drop k at text)
      ∙ ap (λ n. prefixed (chars bs) (behind c (spelled quote n 0 (drop (at + k) text)))) place
      ∙ prefixed-behind (chars bs) c (spelled_from quote text (at + k))
      ∙ ap (λ cs. prefixed cs (spelled_from quote text (at + k))) (sym more)

  pub spelled_from-continuation : (k : ℕ) → at < length text → Continuation k ≡ piece quote (drop at text)
      → spelled quote 1 0 text ≡ prefixed (chars bs) (spelled_from quote text (at + k))
  spelled_from-continuation k h e =
      let place : (1 + at) + k ≡ 1 + (at + k) = omega arith in
      so_far
      ∙ ap (prefixed (chars bs)) (spelled-continuation quote (1 + at) (drop at text) k (some_left h) (sym e))
      ∙ ap (λ ts. prefixed (chars bs) (spelled quote ((1 + at) + k) 0 ts)) (drop-drop k at text)
      ∙ ap (λ n. prefixed (chars bs) (spelled quote n 0 (drop (at + k) text))) place

  pub spelled_from-closes : at < length text → Close ≡ piece quote (drop at text) → Ok (chars bs) ≡ spelled quote 1 0 text
  spelled_from-closes h e =
      sym (so_far ∙ ap (prefixed (chars bs)) (spelled-closes quote (1 + at) (drop at text) (some_left h) (sym e)) ∙ ap (λ cs. Ok cs) (append-nil (chars bs)))

  pub spelled_from-ends : length text ≤ at → Ok (chars bs) ≡ spelled quote 1 0 text
  spelled_from-ends h =
      sym (so_far ∙ ap (λ ts. prefixed (chars bs) (spelled quote (1 + at) 0 ts)) (past_end at text h) ∙ ap (λ cs. Ok cs) (append-nil (chars bs)))

  pub spelled_from-bad : (kind : SyntaxKind) (k : ℕ) → at < length text → Bad kind k ≡ piece quote (drop at text)
      → Err (kind, at + 1) ≡ spelled quote 1 0 text
  spelled_from-bad kind k h e =
      let place : 1 + at ≡ at + 1 = omega arith in
      sym (so_far ∙ ap (prefixed (chars bs)) (spelled-bad quote (1 + at) (drop at text) kind k (some_left h) (sym e)) ∙ ap (λ n. Err (kind, n)) place)

-- The number that digits write, as far as 64 bits go.

saturated_by : (t : Bool) (r v m d : ℕ) → nat_lt (2 ^ 64 - 1) m ≡ t → v ≡ min (2 ^ 64 - 1) m
    → min (min (v * suc r) (2 ^ 64 - 1) + d) (2 ^ 64 - 1) ≡ min (2 ^ 64 - 1) (suc r * m + d)
saturated_by true r v m d more is =
    let large : 2 ^ 64 - 1 < m = grind (arith, nat_tests) in
    let most : v ≡ 2 ^ 64 - 1 = omega arith in
    let product : v * suc r ≡ (2 ^ 64 - 1) * suc r = ap (λ n. n * suc r) most in
    omega (arith, product)
saturated_by false r v m d less is =
    let small : m ≤ 2 ^ 64 - 1 = grind (arith, nat_tests) in
    let same : v ≡ m = omega arith in
    let product : v * suc r ≡ m * suc r = ap (λ n. n * suc r) same in
    omega (arith, product)

saturated : (radix v m d : ℕ) → 0 < radix → v ≡ min (2 ^ 64 - 1) m
    → min (min (v * radix) (2 ^ 64 - 1) + d) (2 ^ 64 - 1) ≡ min (2 ^ 64 - 1) (radix * m + d)
saturated zero v m d some is = absurd (omega arith)
saturated (suc r) v m d some is = saturated_by (nat_lt (2 ^ 64 - 1) m) r v m d refl is

pub saturated-step : (radix v m d product sum : ℕ) → 0 < radix → v ≡ min (2 ^ 64 - 1) m → product ≡ min (v * radix) (2 ^ 64 - 1)
    → sum ≡ min (product + d) (2 ^ 64 - 1) → sum ≡ min (2 ^ 64 - 1) (radix * m + d)
saturated-step radix v m d product sum some is made added =
    added ∙ ap (λ n. min (n + d) (2 ^ 64 - 1)) made ∙ saturated radix v m d some is

pub digits_value-more : (radix : ℕ) (ds : List ℕ) (i : ℕ) → i < length ds
    → digits_value radix (take (i + 1) ds) ≡ radix * digits_value radix (take i ds) + digit_value (get_or ds i 0)
digits_value-more radix ds i h =
    let flip : digits_value radix (take i ds) * radix ≡ radix * digits_value radix (take i ds) = omega arith in
    ap (digits_value radix) (take_more ds i 0 h) ∙ digits_value_push radix (take i ds) (get_or ds i 0)
    ∙ ap (λ n. n + digit_value (get_or ds i 0)) flip

pub has_size : (quote : ℕ) (bs : List ℕ) (p : Piece) → 0 < length bs → p ≡ piece quote bs → HasSize (length bs) p
has_size quote bs p some e = rw e (piece-size quote bs some)
