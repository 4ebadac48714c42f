-- Characters of texts.
use Rattle.std.proofs.Common.{◌≡◌, ◌≢◌, ℕ, ◌≤◌, true, false, List, [], ◌∷◌, Option, Some, None, length, ◌++◌, append-nil, refl, sym, ap, subst, ◌∙◌, arith}
use Rattle.std.specs.Prelude.{MatchOption, encode_utf8, encode_utf8_all}
use Rattle.std.specs.Char.{IsScalar}
use Rattle.std.specs.Str.{IsUtf8, all_scalars, chars}
use Rattle.std.proofs.lemmas.Str.{chars-encodes, chars-nil, chars_past_char, encodes-chars, IsUtf8-encode, len_utf8_bounds, length-encode, length-le-encodes}
use Rattle.pl_term.specs.Tree.{atom}
use Rattle.pl_term.specs.Texts.{size}
use Rattle.pl_model.specs.AtomBuiltins.{is_character}

-- A text has at least as many bytes as characters.
pub few_characters : (bs : List ℕ) → IsUtf8 bs → length (chars bs) ≤ length bs
few_characters bs u = subst (λ (xs : List ℕ). length (chars bs) ≤ length xs) (encodes-chars bs u) (length-le-encodes (chars bs))

-- The first of but one character.
pub only_first : (o : Option ℕ) (cs : List ℕ) → length cs ≡ 1 → MatchOption o (cs ≡ []) (λ c. (ds : List ℕ) × (cs ≡ c ∷ ds))
    → MatchOption o (is_character (atom cs) ≡ false) (λ c. cs ≡ c ∷ [])
only_first None cs one none = absurd (omega (arith, one, ap length none))
only_first (Some c) cs one p =
    p.1 ∙ ap (λ ds. c ∷ ds) (nothing p.0 (omega (arith, sym one ∙ ap length p.1)))
  where
    nothing : (ds : List ℕ) → length ds ≡ 0 → ds ≡ []
    nothing [] e = refl
    nothing (d ∷ ds) e = absurd (omega arith)

pub no_character : (cs : List ℕ) → length cs ≢ 1 → is_character (atom cs) ≡ false
no_character [] e = refl
no_character (c ∷ []) e = absurd (e refl)
no_character (c ∷ (d ∷ cs)) e = refl

-- The text in a buffer.
pub buffered : (bs t u : List ℕ) → bs ≡ encode_utf8_all t → all_scalars t ≡ true → u ≡ t → chars bs ≡ u
buffered bs t u e scalars is = ap chars e ∙ chars-encodes t scalars ∙ sym is

-- The text of one character.
pub one_is : (old new : List ℕ) (c : ℕ) → old ≡ [] → new ≡ old ++ encode_utf8 c → IsScalar c → chars new ≡ c ∷ []
one_is old new c empty more scalar =
    ap chars (more ∙ ap (λ xs. xs ++ encode_utf8 c) empty)
    ∙ chars_past_char (encode_utf8 c) [] c (IsUtf8-encode c scalar) (sym (append-nil (encode_utf8 c))) ∙ ap (λ cs. c ∷ cs) chars-nil

pub one_short : (c : ℕ) (t : List ℕ) → t ≡ c ∷ [] → size t ≤ 248
one_short c t e =
    let one : size (c ∷ []) ≡ length (encode_utf8 c) = ap length (append-nil (encode_utf8 c)) in
    subst (λ u. size u ≤ 248) (sym e) (omega (arith, one, length-encode c, (len_utf8_bounds c).1))
