-- What the functions of skipping meet.
use Rattle.std.proofs.Common.{◌≡◌, ℕ, ◌+◌, ◌<◌, ◌≤◌, suc, zero, Bool, true, false, cond, nat_lt, ◌==◌, ◌&&◌, ◌||◌, List, [], ◌∷◌, ◌++◌, length, take, drop, slice_index, get_or, Option, Some, None, option_map, refl, sym, ap, subst, ◌∙◌, arith, append_assoc}
use Rattle.std.specs.Char.{encode_utf8, IsScalar, is_ascii_digit, is_ascii_lowercase, is_ascii_uppercase}
use Rattle.std.specs.Str.{IsUtf8, encode_utf8_all, all_scalars}
use Rattle.std.proofs.lemmas.Bool.Decides.{nat_tests}
use Rattle.std.proofs.lemmas.List.{length-drop, take-append-drop}
use Rattle.std.proofs.lemmas.Str.{encode_ascii}
use Rattle.unicode_ident.specs.Ident.{is_xid_start}
use Rattle.pl_model.specs.declared.syntax.SyntaxKind.TheVariants.{BadUtf8}
use Rattle.pl_model.specs.declared.lexical.Begins.{Begins}
use Rattle.pl_model.specs.declared.lexical.Begins.TheVariants.{Name as NameBegins, Variable as VariableBegins, Digit, Symbol, Solo, Quote, Punctuation as PunctuationBegins, Other}
use Rattle.pl_model.specs.declared.lexical.Mark.TheVariants.{Open, Close, OpenList, CloseList, OpenCurly, CloseCurly, Bar, Comma}
use Rattle.pl_model.specs.declared.lexical.Reading.{Reading}
use Rattle.pl_model.specs.declared.skipping.Passing.{Passing}
use Rattle.pl_model.specs.declared.skipping.Passing.TheVariants.{Through, Ends, StaysOpen}
use Rattle.pl_model.specs.Characters.{is_symbol}
use Rattle.pl_model.specs.Tokens.{scalar, front, run, passes, stops, spoils, blank_at, comment, block, line_length, block_length}
use Rattle.pl_model.specs.LexicalCharacters.{is_quote, is_solo, punctuation, ascii_begins, begins}
use Rattle.pl_model.specs.LexicalTokens.{numeral, token_front, token_of}
use Rattle.pl_model.specs.Skipping.{whole, comment_size, behind_blank, passing}
use Rattle.pl_model.proofs.CharacterRuns.{front-bounds, run-passes}
use Rattle.pl_model.proofs.LexicalFronts.{front-encode}
use Rattle.pl_model.proofs.LexicalPlaces.{ReadsWithin, token_front-within, token_front-scalar}
use Rattle.pl_model.proofs.SkippingPlaces.{skip-through, skip-ends, skip-open}
use Rattle.pl_model.proofs.TokenPlaces.{blank-scalar}
use Rattle.pl_model.proofs.TokenTexts.{front-text}
use Rattle.lex_core.specs.Skips.{PassesWithin, Skips}

-- A character of ASCII at the front is the first byte.

both : (a b : Bool) → (a && b) ≡ true → a ≡ true
both true b e = refl
both false b e = cc

scalar_parts : (c k d n : ℕ) → scalar c k ≡ scalar d n → c ≡ d
scalar_parts c k d n e = cc

first_byte : (bs : List ℕ) (d c k : ℕ) (more : List ℕ) → IsScalar d → encode_utf8 d ++ more ≡ bs → front bs ≡ scalar c k → c < 128
    → slice_index bs 0 ≡ c
first_byte bs d c k more is e at low =
    let same : d ≡ c = scalar_parts d (length (encode_utf8 d)) c k (sym (front-encode d more is) ∙ ap front e ∙ at) in
    let less : d < 128 = omega arith in
    sym (ap (λ (xs : List ℕ). get_or xs 0 0) (ap (λ (xs : List ℕ). xs ++ more) (sym (encode_ascii d less)) ∙ e)) ∙ same

spelled_front : (bs : List ℕ) (cs : List ℕ) (c k : ℕ) → all_scalars cs ≡ true → encode_utf8_all cs ≡ take k bs → 0 < k → k ≤ length bs
    → front bs ≡ scalar c k → c < 128 → slice_index bs 0 ≡ c
spelled_front [] cs c k is e some within at low = cc
spelled_front (b ∷ bs) cs c zero is e some within at low = absurd (omega arith)
spelled_front (b ∷ bs) [] c (suc k) is e some within at low = cc
spelled_front (b ∷ bs) (d ∷ ds) c (suc k) is e some within at low =
    first_byte (b ∷ bs) d c (suc k) (encode_utf8_all ds ++ drop (suc k) (b ∷ bs)) (both _ (all_scalars ds) is)
    (sym (append_assoc (encode_utf8 d) (encode_utf8_all ds) (drop (suc k) (b ∷ bs))) ∙ ap (λ xs. xs ++ drop (suc k) (b ∷ bs)) e ∙ take-append-drop (suc k) (b ∷ bs))
    at low

pub front-low : (bs : List ℕ) (c k : ℕ) → front bs ≡ scalar c k → c < 128 → slice_index bs 0 ≡ c
front-low bs c k at low =
    let text : IsUtf8 (take k bs) = front-text bs c k at in
    let bounds = front-bounds bs c k at in
    spelled_front bs text.0 c k text.1.0 text.1.1 bounds.0 bounds.1 at low

-- What a character begins.

abbrev BeginsAs : ℕ → Begins → Type 0
BeginsAs c NameBegins = Unit {0}
BeginsAs c VariableBegins = Unit {0}
BeginsAs c Digit = Unit {0}
BeginsAs c Symbol = is_symbol c ≡ true
BeginsAs c Solo = Unit {0}
BeginsAs c Quote = is_quote c ≡ true
BeginsAs c (PunctuationBegins m) = Unit {0}
BeginsAs c Other = Unit {0}

either : (c : ℕ) (t : Bool) (p q : Begins) → (t ≡ true → BeginsAs c p) → BeginsAs c q → BeginsAs c (cond t p q)
either c true p q f g = f refl
either c false p q f g = g

punctuation-as : (c : ℕ) → BeginsAs c (punctuation c)
punctuation-as c =
    either c (c == 40) (PunctuationBegins Open) _ (λ _. tt)
    (either c (c == 41) (PunctuationBegins Close) _ (λ _. tt)
    (either c (c == 91) (PunctuationBegins OpenList) _ (λ _. tt)
    (either c (c == 93) (PunctuationBegins CloseList) _ (λ _. tt)
    (either c (c == 123) (PunctuationBegins OpenCurly) _ (λ _. tt)
    (either c (c == 125) (PunctuationBegins CloseCurly) _ (λ _. tt)
    (either c (c == 124) (PunctuationBegins Bar) _ (λ _. tt)
    (either c (c == 44) (PunctuationBegins Comma) Other (λ _. tt) tt)))))))

ascii_begins-as : (c : ℕ) → BeginsAs c (ascii_begins c)
ascii_begins-as c =
    either c (is_ascii_lowercase c) NameBegins _ (λ _. tt)
    (either c (is_ascii_uppercase c || (c == 95)) VariableBegins _ (λ _. tt)
    (either c (is_ascii_digit c) Digit _ (λ _. tt)
    (either c (is_symbol c) Symbol _ (λ t. t)
    (either c (is_solo c) Solo _ (λ _. tt)
    (either c (is_quote c) Quote (punctuation c) (λ t. t) (punctuation-as c))))))

begins-as : (c : ℕ) → BeginsAs c (begins c)
begins-as c =
    either c (nat_lt c 128) (ascii_begins c) (cond (is_xid_start c) NameBegins Other) (λ _. ascii_begins-as c)
    (either c (is_xid_start c) NameBegins Other (λ _. tt) tt)

pub begins-quote : (c : ℕ) → Quote ≡ begins c → is_quote c ≡ true
begins-quote c e = subst (BeginsAs c) (sym e) (begins-as c)

pub quote-first : (bs : List ℕ) (c k : ℕ) → front bs ≡ scalar c k → Quote ≡ begins c → slice_index bs 0 ≡ c
quote-first bs c k at e =
    let quote : is_quote c ≡ true = begins-quote c e in
    let low : c < 128 = grind (arith, nat_tests) in
    front-low bs c k at low

pub some-symbols : (bs : List ℕ) (c k : ℕ) → front bs ≡ scalar c k → Symbol ≡ begins c → 0 < run is_symbol 0 bs
some-symbols bs c k at e =
    let symbol : is_symbol c ≡ true = subst (BeginsAs c) (sym e) (begins-as c) in
    omega (arith, run-passes is_symbol bs c k at symbol, front-bounds bs c k at)

pub numeral-lies : (bs : List ℕ) (c k : ℕ) (r : Reading) → front bs ≡ scalar c k → Digit ≡ begins c → r ≡ numeral bs → ReadsWithin (length bs) r
numeral-lies bs c k r at e is =
    let front : ReadsWithin (length bs) (token_front false bs) = token_front-within false bs in
    subst (ReadsWithin (length bs)) (token_front-scalar false bs c k at ∙ digit (begins c) e ∙ sym is) front
  where
    digit : (b : Begins) → Digit ≡ b → token_of false bs b c k ≡ numeral bs
    digit b same = subst (λ d. token_of false bs d c k ≡ numeral bs) same refl

-- Comments are passed whole.

comment_by : (t : Bool) (bs : List ℕ) (size valid : ℕ) → comment_size bs ≡ Some size
    → Through size ≡ behind_blank bs (cond t (spoils BadUtf8 valid) (passes size))
comment_by true bs size valid e = sym (ap whole e)
comment_by false bs size valid e = refl

comment-through : (bs : List ℕ) (size : ℕ) → comment_size bs ≡ Some size → Through size ≡ behind_blank bs (comment bs size)
comment-through bs size e = comment_by (nat_lt (run (λ c. true) 0 (take size bs)) size) bs size (run (λ c. true) 0 (take size bs)) e

pub line-passing : (bs : List ℕ) (c k n : ℕ) → front bs ≡ scalar c k → c ≡ 37 → n ≡ 1 + line_length (drop 1 bs) → Through n ≡ passing bs
line-passing bs c k n at is size =
    let percent : front bs ≡ scalar 37 k = at ∙ ap (λ m. scalar m k) is in
    let first : (slice_index bs 0 == 37) ≡ true = ap (λ m. m == 37) (front-low bs 37 k percent (omega arith)) in
    let same : n ≡ suc (line_length (drop 1 bs)) = omega arith in
    ap (λ m. Through m) same
    ∙ comment-through bs (suc (line_length (drop 1 bs)))
    (ap (λ t. cond t (Some (suc (line_length (drop 1 bs)))) (option_map (λ m. 2 + m) (block_length (drop 2 bs)))) first)
    ∙ sym (ap (behind_blank bs) (blank-scalar bs 37 k percent))

block-by : (bs : List ℕ) (o : Option ℕ) → comment_size bs ≡ option_map (λ m. 2 + m) o → whole (option_map (λ m. 2 + m) o) ≡ behind_blank bs (block bs o)
block-by bs None e = sym (ap whole e)
block-by bs (Some m) e = comment-through bs (2 + m) e

pub block-passing : (bs : List ℕ) (c k : ℕ) (o : Option ℕ) → front bs ≡ scalar c k → c ≡ 47 → (slice_index bs 1 == 42) ≡ true
    → o ≡ option_map (λ m. 2 + m) (block_length (drop 2 bs)) → whole o ≡ passing bs
block-passing bs c k o at is star size =
    let slash : front bs ≡ scalar 47 k = at ∙ ap (λ m. scalar m k) is in
    let first : (slice_index bs 0 == 37) ≡ false = ap (λ m. m == 37) (front-low bs 47 k slash (omega arith)) in
    let begins : blank_at bs 47 k ≡ block bs (block_length (drop 2 bs)) = ap (λ t. cond t (block bs (block_length (drop 2 bs))) stops) star in
    ap whole size
    ∙ block-by bs (block_length (drop 2 bs))
    (ap (λ t. cond t (Some (suc (line_length (drop 1 bs)))) (option_map (λ m. 2 + m) (block_length (drop 2 bs)))) first)
    ∙ sym (ap (behind_blank bs) (blank-scalar bs 47 k slash ∙ begins))

-- A step.

pub skips-of : (text : List ℕ) (at : ℕ) (bs : List ℕ) (p : Passing) → bs ≡ drop at text → at < length text → p ≡ passing bs
    → PassesWithin (length bs) p → Skips text at p
skips-of text at bs (Through n) is h e within =
    let left = length-drop at text in
    let lies : at + n ≤ length text = omega (arith, left, within.1, ap length is) in
    (within.0, lies, skip-through text at n h within.0 lies (sym (e ∙ ap passing is)))
skips-of text at bs (Ends n) is h e within =
    (omega (arith, length-drop at text, within, ap length is), skip-ends text at n h (sym (e ∙ ap passing is)))
skips-of text at bs StaysOpen is h e within = skip-open text at h (sym (e ∙ ap passing is))
