-- What the first character of a text says of the first byte of its UTF-8, and of the tokens that end before it.
use Rattle.std.proofs.Common.{◌≡◌, ℕ, ◌+◌, ◌-◌, ◌<◌, ◌≤◌, Bool, true, false, cond, ◌&&◌, ◌||◌, ◌==◌, nat_lt, List, [], ◌∷◌, length, slice_index, Ok, refl, sym, ap, subst, ◌∙◌, arith, ◌⊎◌, inl, inr, below_more, below_none}
use Rattle.std.specs.Char.{encode_utf8, IsScalar, is_ascii_lowercase, is_ascii_alphanumeric, is_whitespace}
use Rattle.std.specs.Str.{encode_utf8_all}
use Rattle.std.proofs.lemmas.Bool.Decides.{nat_tests}
use Rattle.unicode_ident.specs.Ident.{is_xid_start, is_xid_continue}
use Rattle.unicode_ident.proofs.IdentLemmas.{is_xid_start-is_xid_continue}
use Rattle.unicode_ident.proofs.Computing.{unicode_ident}
use Rattle.pl_term.specs.Tree.{Chars}
use Rattle.pl_model.specs.Characters.{begins_name, continues_name}
use Rattle.pl_model.specs.Tokens.{scalar, front, run, skip_layout, Blank, passes, stops, blank}
use Rattle.pl_model.specs.LexicalQuoted.{begins_with}
use Rattle.pl_model.proofs.CharacterRuns.{front-ascii, run-stops}
use Rattle.pl_model.proofs.LexicalFronts.{front-encode}
use Rattle.pl_model.proofs.TokenPlaces.{skip_layout-blank, blank-scalar}
use Rattle.term_writer.proofs.Bits.{both, same_number, differ}

-- The first character, if there is one.
abbrev pub FirstScalar : Chars → Type 0
FirstScalar [] = Unit {0}
FirstScalar (x ∷ xs) = IsScalar x

pub front-text : (x : ℕ) (xs : Chars) → IsScalar x → front (encode_utf8_all (x ∷ xs)) ≡ scalar x (length (encode_utf8 x))
front-text x xs is = front-encode x (encode_utf8_all xs) is

-- A run of characters ends before one that does not pass.
pub run-ends : (p : ℕ → Bool) (x : ℕ) (xs : Chars) → IsScalar x → p x ≡ false → run p 0 (encode_utf8_all (x ∷ xs)) ≡ 0
run-ends p x xs is fails = run-stops p (encode_utf8_all (x ∷ xs)) x (length (encode_utf8 x)) (front-text x xs is) fails

-- The first byte is the first character, or no character of ASCII.
first-byte_by : (t : Bool) (b : ℕ) (bs : List ℕ) (x k : ℕ) → nat_lt b 128 ≡ t → front (b ∷ bs) ≡ scalar x k → (b ≡ x) ⊎ (128 ≤ b)
first-byte_by true b bs x k e is =
    let one : scalar b 1 ≡ scalar x k = sym (front-ascii b bs e) ∙ is in inl cc
first-byte_by false b bs x k e is = inr (grind (arith, nat_tests))

byte_of : (bs : List ℕ) (x k : ℕ) → front bs ≡ scalar x k → (slice_index bs 0 ≡ x) ⊎ (128 ≤ slice_index bs 0)
byte_of [] x k is = cc
byte_of (b ∷ bs) x k is = first-byte_by (nat_lt b 128) b bs x k refl is

pub first-byte : (x : ℕ) (xs : Chars) → IsScalar x → (slice_index (encode_utf8_all (x ∷ xs)) 0 ≡ x) ⊎ (128 ≤ slice_index (encode_utf8_all (x ∷ xs)) 0)
first-byte x xs is = byte_of (encode_utf8_all (x ∷ xs)) x (length (encode_utf8 x)) (front-text x xs is)

-- A test of bytes that no byte past ASCII passes says of the first byte what it says of the first character.
pub byte-fails : (p : ℕ → Bool) → ((b : ℕ) → 128 ≤ b → p b ≡ false) → p 0 ≡ false → (cs : Chars) → FirstScalar cs
    → ((x : ℕ) (xs : Chars) → cs ≡ x ∷ xs → p x ≡ false) → p (slice_index (encode_utf8_all cs) 0) ≡ false
byte-fails p high none [] is h = none
byte-fails p high none (x ∷ xs) is h =
    elim (first-byte x xs is) [
      | inl same ↦ ap p same ∙ h x xs refl
      | inr wide ↦ high (slice_index (encode_utf8_all (x ∷ xs)) 0) wide
    ]

quote_by : (bs : List ℕ) → (slice_index bs 0 == 39) ≡ false → begins_with 39 bs ≡ false
quote_by [] e = refl
quote_by (b ∷ bs) e = e

pub no_quote : (cs : Chars) → FirstScalar cs → ((x : ℕ) (xs : Chars) → cs ≡ x ∷ xs → (x == 39) ≡ false) → begins_with 39 (encode_utf8_all cs) ≡ false
no_quote cs is h = quote_by (encode_utf8_all cs) (byte-fails (λ b. b == 39) (λ b high. grind (arith, nat_tests)) refl cs is h)

-- Layout

abbrev pub NoLayout : List ℕ → Type 0
NoLayout bs = (at : ℕ) → skip_layout at 0 bs ≡ Ok at

blank_stops : (at b : ℕ) (bs : List ℕ) → blank (b ∷ bs) ≡ stops → skip_layout at 0 (b ∷ bs) ≡ Ok at
blank_stops at b bs e = rw (skip_layout-blank at b bs) (rw e refl)

no_blank : (bs : List ℕ) (c k : ℕ) (t u v : Bool) (x y : Blank) → is_whitespace c ≡ t → t ≡ false → u ≡ false → v ≡ false
    → cond t (passes k) (cond u x (cond v y stops)) ≡ stops
no_blank bs c k true u v x y is e f g = absurd (differ e)
no_blank bs c k false true v x y is e f g = absurd (differ f)
no_blank bs c k false false true x y is e f g = absurd (differ g)
no_blank bs c k false false false x y is e f g = refl

-- No layout begins with a character that is no white space, no `%` and no `/` before a `*`.
pub no_layout : (bs : List ℕ) (c k : ℕ) → front bs ≡ scalar c k → is_whitespace c ≡ false → (c == 37) ≡ false
    → ((c == 47) && (slice_index bs 1 == 42)) ≡ false → NoLayout bs
no_layout [] c k is e f g at = refl
no_layout (b ∷ bs) c k is e f g at =
    blank_stops at b bs
    (blank-scalar (b ∷ bs) c k is ∙ no_blank (b ∷ bs) c k (is_whitespace c) (c == 37) ((c == 47) && (slice_index (b ∷ bs) 1 == 42)) _ _ refl e f g)

-- Letters that begin names

abbrev Starts : ℕ → Type 0
Starts c = is_xid_start c ≡ true → ⊥

no_start : (c : ℕ) → is_xid_start c ≡ false → Starts c
no_start c e h = differ (sym h ∙ e)

spaces_by_width : (d : ℕ) → d < 11 → is_xid_start (8192 + d) ≡ false
unfolding unicode_ident
spaces_by_width = let P : ℕ → Type 0 = λ d. is_xid_start (8192 + d) ≡ false in below_more P 10 (below_more P 9 (below_more P 8 (below_more P 7 (below_more P 6 (below_more P 5 (below_more P 4 (below_more P 3 (below_more P 2 (below_more P 1 (below_more P 0 (below_none P) refl) refl) refl) refl) refl) refl) refl) refl) refl) refl) refl

no_start_at : (d c : ℕ) → is_xid_start d ≡ false → (c == d) ≡ true → Starts c
no_start_at d c e same = let is : d ≡ c = sym (same_number c d same) in subst Starts is (no_start d e)

no_start_within : (c : ℕ) → (nat_lt 8191 c && nat_lt c 8203) ≡ true → Starts c
no_start_within c e =
    let parts = both (nat_lt 8191 c) (nat_lt c 8203) e in
    let above : 8191 < c = grind (arith, nat_tests, parts.0) in
    let below : c < 8203 = grind (arith, nat_tests, parts.1) in
    let is : 8192 + (c - 8192) ≡ c = omega arith in
    subst Starts is (no_start (8192 + (c - 8192)) (spaces_by_width (c - 8192) (omega arith)))

starts-133 : is_xid_start 133 ≡ false
unfolding unicode_ident
starts-133 = refl

starts-160 : is_xid_start 160 ≡ false
unfolding unicode_ident
starts-160 = refl

starts-5760 : is_xid_start 5760 ≡ false
unfolding unicode_ident
starts-5760 = refl

starts-8232 : is_xid_start 8232 ≡ false
unfolding unicode_ident
starts-8232 = refl

starts-8233 : is_xid_start 8233 ≡ false
unfolding unicode_ident
starts-8233 = refl

starts-8239 : is_xid_start 8239 ≡ false
unfolding unicode_ident
starts-8239 = refl

starts-8287 : is_xid_start 8287 ≡ false
unfolding unicode_ident
starts-8287 = refl

starts-12288 : is_xid_start 12288 ≡ false
unfolding unicode_ident
starts-12288 = refl

either : {A : Type 0} (a b : Bool) → (a || b) ≡ true → (a ≡ true → A) → (b ≡ true → A) → A
either {A} true b e f g = f refl
either {A} false b e f g = g e

-- White space begins no name.
wide_space : (c : ℕ) → 128 ≤ c → is_whitespace c ≡ true → Starts c
wide_space c high e =
    either _ (c == 12288) e
    (λ e. either _ (c == 8287) e
    (λ e. either _ (c == 8239) e
    (λ e. either _ (c == 8233) e
    (λ e. either _ (c == 8232) e
    (λ e. either _ (nat_lt 8191 c && nat_lt c 8203) e
    (λ e. either _ (c == 5760) e
    (λ e. either _ (c == 160) e
    (λ e. either _ (c == 133) e
    (λ e. absurd (low e))
    (no_start_at 133 c starts-133)) (no_start_at 160 c starts-160)) (no_start_at 5760 c starts-5760)) (no_start_within c))
    (no_start_at 8232 c starts-8232)) (no_start_at 8233 c starts-8233)) (no_start_at 8239 c starts-8239)) (no_start_at 8287 c starts-8287))
    (no_start_at 12288 c starts-12288)
  where
    low : ((nat_lt 8 c && nat_lt c 14) || (c == 32)) ≡ true → ⊥
    low e = either (nat_lt 8 c && nat_lt c 14) (c == 32) e (λ e. let h : c < 14 = grind (arith, nat_tests, (both (nat_lt 8 c) (nat_lt c 14) e).1) in omega arith) (λ e. let h : c ≡ 32 = same_number c 32 e in omega arith)

begins-no_space_by : (t : Bool) (c : ℕ) → nat_lt c 128 ≡ t → cond t (is_ascii_lowercase c) (is_xid_start c) ≡ true → is_whitespace c ≡ false
begins-no_space_by true c e begins = let low : 97 ≤ c = grind (arith, nat_tests) in let high : c ≤ 122 = grind (arith, nat_tests) in grind (arith, nat_tests)
begins-no_space_by false c e begins = by (is_whitespace c) refl where
  by : (t : Bool) → is_whitespace c ≡ t → t ≡ false
  by true space = absurd (wide_space c (grind (arith, nat_tests)) space begins)
  by false space = refl

pub begins-no_space : (c : ℕ) → begins_name c ≡ true → is_whitespace c ≡ false
begins-no_space c begins = begins-no_space_by (nat_lt c 128) c refl begins

begins-plain_by : (t : Bool) (c : ℕ) → nat_lt c 128 ≡ t → cond t (is_ascii_lowercase c) (is_xid_start c) ≡ true → ((c == 37) ≡ false) × ((c == 47) ≡ false)
begins-plain_by true c e begins = let low : 97 ≤ c = grind (arith, nat_tests) in (grind (arith, nat_tests), grind (arith, nat_tests))
begins-plain_by false c e begins = let high : 128 ≤ c = grind (arith, nat_tests) in (grind (arith, nat_tests), grind (arith, nat_tests))

pub begins-plain : (c : ℕ) → begins_name c ≡ true → ((c == 37) ≡ false) × ((c == 47) ≡ false)
begins-plain c begins = begins-plain_by (nat_lt c 128) c refl begins

begins-continues_by : (t : Bool) (c : ℕ) → nat_lt c 128 ≡ t → cond t (is_ascii_lowercase c) (is_xid_start c) ≡ true
    → cond t (is_ascii_alphanumeric c || (c == 95)) (is_xid_continue c) ≡ true
begins-continues_by true c e begins = let low : 97 ≤ c = grind (arith, nat_tests) in let high : c ≤ 122 = grind (arith, nat_tests) in grind (arith, nat_tests)
begins-continues_by false c e begins = is_xid_start-is_xid_continue c begins

-- What begins a name may continue one.
pub begins-continues : (c : ℕ) → begins_name c ≡ true → continues_name c ≡ true
begins-continues c begins = begins-continues_by (nat_lt c 128) c refl begins
