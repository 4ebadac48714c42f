-- What the lexer's loops over places meet, in the words of the definition of tokens.
use Rattle.std.proofs.Common.{◌≡◌, ℕ, ◌+◌, ◌-◌, ◌<◌, ◌≤◌, suc, Bool, true, false, cond, List, [], ◌∷◌, length, take, drop, get_or, Option, Some, None, Ok, Err, refl, sym, ap, ◌∙◌, arith, nat_lt, option_map, min}
use Rattle.std.specs.List.{slice_get}
use Rattle.std.specs.Str.{continuation_len, is_utf8, chars, IsUtf8}
use Rattle.std.proofs.lemmas.Bool.{cond-true, cond-false}
use Rattle.std.proofs.lemmas.Bool.Decides.{nat_tests}
use Rattle.std.proofs.lemmas.List.{length-drop, drop-drop, drop_more, drop-take, take_min}
use Rattle.std.proofs.lemmas.Str.{is_utf8-from_IsUtf8, IsUtf8-from_is_utf8}
use Rattle.pl_model.specs.declared.syntax.SyntaxFault.{SyntaxFault}
use Rattle.pl_model.specs.declared.syntax.SyntaxKind.TheVariants.{BadUtf8, OpenComment}
use Rattle.pl_model.specs.Tokens.{Front, nothing, scalar, broken, front, front_of, wide_front, run, run_end, line_length, block_length, comment, block, Blank, passes, stops, spoils, blank, skip_layout}
use Rattle.pl_model.proofs.CharacterRuns.{front-wide, run-passes, run-stops, run-broken}
use Rattle.pl_model.proofs.TokenPlaces.{skip_layout-passes, skip_layout-stops, skip_layout-spoils, blank-scalar}
use Rattle.lex_core.specs.Views.{character_of, blank_result}

-- The character at a place.

pub character-some : (f : Front) (c k : ℕ) → character_of f ≡ Some (c, k) → f ≡ scalar c k
character-some nothing c k e = cc
character-some (scalar d m) c k e =
    let same : ◌≡◌ {A = ℕ × ℕ} (d, m) (c, k) = cc in
    let first : d ≡ c = ap (λ (p : ℕ × ℕ). p.0) same in
    let second : m ≡ k = ap (λ (p : ℕ × ℕ). p.1) same in
    cc
character-some broken c k e = cc

something-by : (t u : Bool) (b : ℕ) (piece : List ℕ) → character_of (cond t (scalar b 1) (front_of u piece)) ≡ None
    → cond t (scalar b 1) (front_of u piece) ≡ broken
something-by true u b piece e = cc
something-by false true b piece e = cc
something-by false false b piece e = refl

-- Where bytes are left and no character begins, the first byte is broken.
pub character-none : (bs : List ℕ) → 0 < length bs → character_of (front bs) ≡ None → front bs ≡ broken
character-none [] h e = absurd (omega arith)
character-none (b ∷ bs) h e =
    something-by (nat_lt b 128) (is_utf8 (take (suc (continuation_len b)) (b ∷ bs))) b (take (suc (continuation_len b)) (b ∷ bs)) e

first-of : (cs : List ℕ) (c : ℕ) → Some c ≡ slice_get cs 0 → get_or cs 0 0 ≡ c
first-of [] c e = cc
first-of (d ∷ ds) c e = cc

pub wide-character : (piece : List ℕ) (c : ℕ) → IsUtf8 piece → Some c ≡ slice_get (chars piece) 0
    → Some (c, length piece) ≡ character_of (wide_front piece)
wide-character piece c text first =
    ap (λ d. Some (d, length piece)) (sym (first-of (chars piece) c first))
    ∙ ap (λ t. character_of (front_of t piece)) (sym (is_utf8-from_IsUtf8 piece text))

no-text : (t : Bool) (piece : List ℕ) → (t ≡ true → ⊥) → None ≡ character_of (front_of t piece)
no-text true piece h = absurd (h refl)
no-text false piece h = refl

pub wide-none : (piece : List ℕ) → (IsUtf8 piece → ⊥) → None ≡ character_of (wide_front piece)
wide-none piece h = no-text (is_utf8 piece) piece (λ e. h (IsUtf8-from_is_utf8 piece e))

-- The bytes that the first one says, or those that are left.
pub front-at : (text : List ℕ) (at end : ℕ) → at < length text → 128 ≤ get_or text at 0
    → end ≡ min (length text) (at + suc (continuation_len (get_or text at 0)))
    → front (drop at text) ≡ wide_front (take (end - at) (drop at text))
front-at text at end h wide is =
    let b = get_or text at 0 in
    let e = drop_more text at 0 h in
    let size : end - at ≡ min (suc (continuation_len b)) (length (drop at text)) = omega (arith, length-drop at text) in
    let low : nat_lt b 128 ≡ false = grind (arith, nat_tests) in
    ap front e ∙ front-wide b (drop (at + 1) text) low ∙ ap (λ bs. wide_front (take (suc (continuation_len b)) bs)) (sym e)
    ∙ ap wide_front (sym (ap (λ n. take n (drop at text)) size ∙ take_min (suc (continuation_len b)) (drop at text)))

-- Runs over places.

pub run_end-passes : (p : ℕ → Bool) (text : List ℕ) (at c k : ℕ) → front (drop at text) ≡ scalar c k → p c ≡ true
    → run_end p text at ≡ run_end p text (at + k)
run_end-passes p text at c k e pass =
    let one = run-passes p (drop at text) c k e pass in
    let behind = ap (run p 0) (drop-drop k at text) in
    omega arith

pub run_end-stops : (p : ℕ → Bool) (text : List ℕ) (at c k : ℕ) → front (drop at text) ≡ scalar c k → p c ≡ false
    → run_end p text at ≡ at
run_end-stops p text at c k e fails = omega (arith, run-stops p (drop at text) c k e fails)

pub run_end-broken : (p : ℕ → Bool) (text : List ℕ) (at : ℕ) → front (drop at text) ≡ broken → run_end p text at ≡ at
run_end-broken p text at e = omega (arith, run-broken p (drop at text) e)

-- Comments.

pub run_end-front : (p : ℕ → Bool) (text : List ℕ) (at end : ℕ) → at ≤ end
    → run_end p (take end text) at ≡ at + run p 0 (take (end - at) (drop at text))
run_end-front p text at end h =
    let whole : at + (end - at) ≡ end = omega arith in
    ap (λ n. at + run p 0 (drop at (take n text))) (sym whole) ∙ ap (λ bs. at + run p 0 bs) (drop-take at (end - at) text)

pub comment-bad : (text : List ℕ) (at end valid : ℕ) → at < end → valid ≡ run_end (λ c. true) (take end text) at → valid < end
    → Err (record { kind = BadUtf8; at = valid }) ≡ blank_result at (comment (drop at text) (end - at))
comment-bad text at end valid h is short =
    let n = run (λ c. true) 0 (take (end - at) (drop at text)) in
    let place : valid ≡ at + n = is ∙ run_end-front (λ c. true) text at end (omega arith) in
    let below : nat_lt n (end - at) ≡ true = grind (arith, nat_tests) in
    ap (λ v. Err (record { kind = BadUtf8; at = v })) place
    ∙ sym (ap (blank_result at) (cond-true (nat_lt n (end - at)) (spoils BadUtf8 n) (passes (end - at)) below))

pub comment-good : (text : List ℕ) (at end valid : ℕ) → at < end → valid ≡ run_end (λ c. true) (take end text) at → end ≤ valid
    → Ok (Some end) ≡ blank_result at (comment (drop at text) (end - at))
comment-good text at end valid h is whole =
    let n = run (λ c. true) 0 (take (end - at) (drop at text)) in
    let place : valid ≡ at + n = is ∙ run_end-front (λ c. true) text at end (omega arith) in
    let above : nat_lt n (end - at) ≡ false = grind (arith, nat_tests) in
    ap (λ v. Ok (Some v)) (omega arith)
    ∙ sym (ap (blank_result at) (cond-false (nat_lt n (end - at)) (spoils BadUtf8 n) (passes (end - at)) above))

block-found : (text : List ℕ) (at end : ℕ) (m : Option ℕ) → Some end ≡ option_map (λ n. at + 2 + n) m
    → blank_result at (comment (drop at text) (end - at)) ≡ blank_result at (block (drop at text) m)
block-found text at end None e = cc
block-found text at end (Some m) e =
    let place : end ≡ at + 2 + m = cc in
    let size : end - at ≡ 2 + m = omega arith in
    ap (λ n. blank_result at (comment (drop at text) n)) size

pub block-some : (text : List ℕ) (at end : ℕ) → Some end ≡ option_map (λ n. at + 2 + n) (block_length (drop (at + 2) text))
    → blank_result at (comment (drop at text) (end - at)) ≡ blank_result at (block (drop at text) (block_length (drop 2 (drop at text))))
block-some text at end e =
    block-found text at end (block_length (drop (at + 2) text)) e
    ∙ ap (λ bs. blank_result at (block (drop at text) (block_length bs))) (sym (drop-drop 2 at text))

block-open : (text : List ℕ) (at : ℕ) (m : Option ℕ) → None ≡ option_map (λ n. at + 2 + n) m
    → Err (record { kind = OpenComment; at = at }) ≡ blank_result at (block (drop at text) m)
block-open text at None e = ap (λ n. Err (record { kind = OpenComment; at = n })) (omega arith)
block-open text at (Some m) e = cc

pub block-none : (text : List ℕ) (at : ℕ) → None ≡ option_map (λ n. at + 2 + n) (block_length (drop (at + 2) text))
    → Err (record { kind = OpenComment; at = at }) ≡ blank_result at (block (drop at text) (block_length (drop 2 (drop at text))))
block-none text at e =
    block-open text at (block_length (drop (at + 2) text)) e
    ∙ ap (λ bs. blank_result at (block (drop at text) (block_length bs))) (sym (drop-drop 2 at text))

-- Layout.

passes-of : (l : Blank) (at end : ℕ) → Ok (Some end) ≡ blank_result at l → at < end → (n : ℕ) × (l ≡ passes n) × (0 < n) × (end ≡ at + n)
passes-of (passes n) at end e h = let same : end ≡ at + n = cc in (n, refl, omega arith, same)
passes-of stops at end e h = cc
passes-of (spoils kind n) at end e h = cc

stops-of : (l : Blank) (at : ℕ) → Ok None ≡ blank_result at l → l ≡ stops
stops-of (passes n) at e = cc
stops-of stops at e = refl
stops-of (spoils kind n) at e = cc

pub layout-passes : (text : List ℕ) (at end : ℕ) → at < length text → at < end → end ≤ length text
    → Ok (Some end) ≡ blank_result at (blank (drop at text)) → skip_layout at 0 (drop at text) ≡ skip_layout end 0 (drop end text)
layout-passes text at end h some within e =
    let found = passes-of (blank (drop at text)) at end e some in
    skip_layout-passes text at found.0 h found.2 (omega (arith, found.3)) found.1
    ∙ ap (λ n. skip_layout n 0 (drop n text)) (sym found.3)

pub layout-stops : (text : List ℕ) (at : ℕ) → at < length text → Ok None ≡ blank_result at (blank (drop at text))
    → Ok at ≡ skip_layout at 0 (drop at text)
layout-stops text at h e = sym (skip_layout-stops text at h (stops-of (blank (drop at text)) at e))

spoils-of : (text : List ℕ) (at : ℕ) (f : SyntaxFault) (l : Blank) → at < length text → blank (drop at text) ≡ l → Err f ≡ blank_result at l
    → Err f ≡ skip_layout at 0 (drop at text)
spoils-of text at f (passes n) h is e = cc
spoils-of text at f stops h is e = cc
spoils-of text at f (spoils kind n) h is e =
    let same : f ≡ record { kind = kind; at = at + n } = cc in
    ap (λ (g : SyntaxFault). Err g) same ∙ sym (skip_layout-spoils text at kind n h is)

pub layout-spoils : (text : List ℕ) (at : ℕ) (f : SyntaxFault) → at < length text → Err f ≡ blank_result at (blank (drop at text))
    → Err f ≡ skip_layout at 0 (drop at text)
layout-spoils text at f h e = spoils-of text at f (blank (drop at text)) h refl e

pub blank-comment : (text : List ℕ) (at end k : ℕ) → front (drop at text) ≡ scalar 37 k → end ≡ at + 1 + line_length (drop (at + 1) text)
    → blank_result at (comment (drop at text) (end - at)) ≡ blank_result at (blank (drop at text))
blank-comment text at end k e is =
    let size : end - at ≡ suc (line_length (drop (at + 1) text)) = omega arith in
    ap (λ n. blank_result at (comment (drop at text) n)) (size ∙ ap (λ bs. suc (line_length bs)) (sym (drop-drop 1 at text)))
    ∙ ap (blank_result at) (sym (blank-scalar (drop at text) 37 k e))
