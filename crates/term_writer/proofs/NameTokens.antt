-- A name that is written is read as that name, with or without quotes.
use Rattle.std.proofs.Common.{◌≡◌, ℕ, ◌<◌, Bool, true, false, ◌&&◌, ◌||◌, not, ◌==◌, nat_lt, nat_eq, codes, List, [], ◌∷◌, ◌++◌, length, slice_index, Option, append_assoc, refl, sym, ap, subst, ◌∙◌, arith, bytes_eq}
use Rattle.std.specs.Char.{encode_utf8, IsScalar, is_whitespace}
use Rattle.std.specs.Str.{encode_utf8_all, all_scalars}
use Rattle.std.specs.List.{list_all, list_any, starts_with, flat_map}
use Rattle.std.proofs.lemmas.Bool.Decides.{nat_tests}
use Rattle.std.proofs.lemmas.Str.{encode_ascii}
use Rattle.std.proofs.Math.Utf8.{encode}
use Rattle.pl_term.specs.Tree.{Chars}
use Rattle.pl_model.specs.declared.lexical.TokenKind.{TokenKind}
use Rattle.pl_model.specs.declared.lexical.TokenKind.TheVariants.{Name, Quoted}
use Rattle.pl_model.specs.declared.lexical.Reading.TheVariants.{Token}
use Rattle.pl_model.specs.Characters.{is_symbol, begins_name, continues_name, is_letter_name, is_symbol_name, is_solo_name, is_bare_name}
use Rattle.pl_model.specs.Tokens.{scalar, front, run}
use Rattle.pl_model.specs.LexicalTokens.{token_front}
use Rattle.pl_model.specs.Writing.{would_join, last_character, name, functor, quoted, escaped}
use Rattle.pl_model.specs.TermWriting.{Behind, would_bind, behind}
use Rattle.pl_model.proofs.CharacterRuns.{front-ascii}
use Rattle.pl_model.proofs.LexicalFronts.{front-encode}
use Rattle.pl_model.proofs.LexicalReads.{name-reads, symbol_name-reads, solo-reads}
use Rattle.pl_model.proofs.LexicalWritten.{written-reads}
use Rattle.term_writer.proofs.Bits.{both, neither, all_true, second_false, first_false, not_second, not_true, same_number, same_text, differ, choose}
use Rattle.term_writer.proofs.Seams.{Apart, last-passes}
use Rattle.term_writer.proofs.FirstBytes.{FirstScalar, run-ends, byte-fails, no_quote, NoLayout, no_layout, begins-no_space, begins-plain, begins-continues}

-- Symbol characters

abbrev pub Each : (ℕ → Type 0) → List ℕ → Type 0
Each P [] = Unit {0}
Each P (d ∷ ds) = P d × Each P ds

one_of : (P : ℕ → Type 0) (t : Bool) (c d : ℕ) (ds : List ℕ) → (d == c) ≡ t → (t || list_any (λ e. e == c) ds) ≡ true → P d
    → (list_any (λ e. e == c) ds ≡ true → P c) → P c
one_of P true c d ds same e here there = subst P (same_number d c same) here
one_of P false c d ds same e here there = there e

pub among : (P : ℕ → Type 0) (c : ℕ) (ds : List ℕ) → list_any (λ e. e == c) ds ≡ true → Each P ds → P c
among P c [] e each = cc
among P c (d ∷ ds) e each = one_of P (d == c) c d ds refl e each.0 (λ later. among P c ds later each.1)

pub record SymbolFacts (c : ℕ) : Type 0 where
  pub no_space : is_whitespace c ≡ false
  pub no_comment : (c == 37) ≡ false
  pub low : nat_lt c 128 ≡ true
  pub no_name : continues_name c ≡ false
  pub some : IsScalar c

pub symbol : (c : ℕ) → is_symbol c ≡ true → SymbolFacts c
symbol c e =
    let f : (d : ℕ) → is_whitespace d ≡ false → (d == 37) ≡ false → nat_lt d 128 ≡ true → continues_name d ≡ false → IsScalar d → SymbolFacts d =
    λ d a b c n s. record { no_space = a; no_comment = b; low = c; no_name = n; some = s } in
    among SymbolFacts c (codes "+-*/\\^<>=~:.?@#&$") e (
      f 43 refl refl refl refl refl,
      (
        f 45 refl refl refl refl refl,
        (
          f 42 refl refl refl refl refl,
          (
            f 47 refl refl refl refl refl,
            (
              f 92 refl refl refl refl refl,
              (
                f 94 refl refl refl refl refl,
                (
                  f 60 refl refl refl refl refl,
                  (
                    f 62 refl refl refl refl refl,
                    (
                      f 61 refl refl refl refl refl,
                      (
                        f 126 refl refl refl refl refl,
                        (
                          f 58 refl refl refl refl refl,
                          (
                            f 46 refl refl refl refl refl,
                            (f 63 refl refl refl refl refl, (f 64 refl refl refl refl refl, (f 35 refl refl refl refl refl, (f 38 refl refl refl refl refl, (f 36 refl refl refl refl refl, tt))))),
                          ),
                        ),
                      ),
                    ),
                  ),
                ),
              ),
            ),
          ),
        ),
      ),
    )

-- What after a piece does not join it.

pub record Parted (b : Behind) (T : Chars) : Type 0 where
  pub symbol_ends : is_symbol b.last ≡ true → (x : ℕ) (xs : Chars) → T ≡ x ∷ xs → is_symbol x ≡ false
  pub word_ends : continues_name b.last ≡ true → (x : ℕ) (xs : Chars) → T ≡ x ∷ xs → continues_name x ≡ false
  pub quote_ends : b.last ≡ 39 → (x : ℕ) (xs : Chars) → T ≡ x ∷ xs → (x == 39) ≡ false

abbrev Joins : ℕ → Chars → Type 0
Joins c T = (x : ℕ) (xs : Chars) → T ≡ x ∷ xs → would_join c x ≡ false

joins : (b : Behind) (T : Chars) → Apart b T → Joins b.last T
joins b [] h x xs e = cc
joins b (y ∷ ys) h x xs e =
    let same : y ≡ x = cc in
    ap (would_join b.last) (sym same) ∙ (neither (would_join b.last y) (would_bind b.prefix y) h).0

no_symbol : (c x : ℕ) → would_join c x ≡ false → is_symbol c ≡ true → is_symbol x ≡ false
no_symbol c x e is = not_second (is_symbol c) (is_symbol x) (neither (is_symbol c && is_symbol x) _ e).0 is

no_word : (c x : ℕ) → would_join c x ≡ false → continues_name c ≡ true → continues_name x ≡ false
no_word c x e is =
    not_second (continues_name c) (continues_name x)
    (neither (continues_name c && continues_name x) ((c == 39) && (x == 39)) (neither (is_symbol c && is_symbol x) _ e).1).0 is

no_second_quote : (c x : ℕ) → would_join c x ≡ false → c ≡ 39 → (x == 39) ≡ false
no_second_quote c x e is =
    not_second (c == 39) (x == 39)
    (neither (continues_name c && continues_name x) ((c == 39) && (x == 39)) (neither (is_symbol c && is_symbol x) _ e).1).1
    (ap (λ n. n == 39) is)

pub parted : (b : Behind) (T : Chars) → Apart b T → Parted b T
parted b T h =
    let j = joins b T h in
    record {
      symbol_ends = λ is x xs e. no_symbol b.last x (j x xs e) is;
      word_ends = λ is x xs e. no_word b.last x (j x xs e) is;
      quote_ends = λ is x xs e. no_second_quote b.last x (j x xs e) is;
    }

run_stops : (p : ℕ → Bool) (T : Chars) → FirstScalar T → ((x : ℕ) (xs : Chars) → T ≡ x ∷ xs → p x ≡ false) → run p 0 (encode_utf8_all T) ≡ 0
run_stops p [] is h = refl
run_stops p (x ∷ xs) is h = run-ends p x xs is (h x xs refl)

-- Names

abbrev pub name_kind : Bool → Chars → TokenKind
name_kind true f = Name f
name_kind false f = Quoted f

-- A text `p` before others is read as the name `f`.
pub record ReadsName (f p : Chars) (rest : List ℕ) : Type 0 where
  pub bare : Bool
  pub first : ℕ
  pub more : Chars
  pub spelled : p ≡ first ∷ more
  pub plain : IsScalar first
  pub layout : NoLayout (encode_utf8_all (first ∷ more) ++ rest)
  pub token : (direct : Bool) → token_front direct (encode_utf8_all (first ∷ more) ++ rest) ≡ Token (name_kind bare f) (length (encode_utf8_all (first ∷ more)))

front_of_text : (c : ℕ) (cs : Chars) (rest : List ℕ) → IsScalar c → front (encode_utf8_all (c ∷ cs) ++ rest) ≡ scalar c (length (encode_utf8 c))
front_of_text c cs rest is =
    ap front (append_assoc (encode_utf8 c) (encode_utf8_all cs) rest) ∙ front-encode c (encode_utf8_all cs ++ rest) is

letter-token : (f : Chars) (b : Behind) (o : Option Chars) (T : Chars) → all_scalars f ≡ true → is_letter_name f ≡ true
    → Apart (behind b o f) T → FirstScalar T → ReadsName f f (encode_utf8_all T)
letter-token [] b o T scalars is apart first = cc
letter-token (c ∷ cs) b o T scalars is apart first =
    let s = both _ (all_scalars cs) scalars in
    let t = both (begins_name c) (list_all continues_name cs) is in
    let plain = begins-plain c t.0 in
    let rest = encode_utf8_all T in
    let passes = last-passes continues_name c cs (all_true (continues_name c) (list_all continues_name cs) (begins-continues c t.0) t.1) in
    record {
      bare = true;
      first = c;
      more = cs;
      spelled = refl;
      plain = s.0;
      layout =
          no_layout (encode_utf8_all (c ∷ cs) ++ rest) c (length (encode_utf8 c)) (front_of_text c cs rest s.0) (begins-no_space c t.0) plain.0
          (first_false (c == 47) _ plain.1);
      token = λ direct. name-reads direct (c ∷ cs) rest scalars is
          (run_stops continues_name T first ((parted (behind b o (c ∷ cs)) T apart).word_ends passes));
    }

-- Symbol names

two_bytes : (c d : ℕ) (ds : Chars) (rest : List ℕ) → nat_lt c 128 ≡ true → nat_lt d 128 ≡ true → slice_index (encode_utf8_all (c ∷ d ∷ ds) ++ rest) 1 ≡ d
two_bytes c d ds rest low low' =
    let less : c < 128 = grind (arith, nat_tests) in
    let less' : d < 128 = grind (arith, nat_tests) in
    ap (λ xs. slice_index ((xs ++ (encode_utf8 d ++ encode_utf8_all ds)) ++ rest) 1) (encode_ascii c less)
    ∙ ap (λ xs. slice_index ((xs ++ encode_utf8_all ds) ++ rest) 0) (encode_ascii d less')

one_byte : (c : ℕ) (rest : List ℕ) → nat_lt c 128 ≡ true → slice_index (encode_utf8_all (c ∷ []) ++ rest) 1 ≡ slice_index rest 0
one_byte c rest low =
    let less : c < 128 = grind (arith, nat_tests) in
    ap (λ xs. slice_index ((xs ++ []) ++ rest) 1) (encode_ascii c less)

no_comment_start : (c : ℕ) (cs : Chars) (T : Chars) → list_all is_symbol (c ∷ cs) ≡ true → starts_with nat_eq (c ∷ cs) (codes "/*") ≡ false
    → FirstScalar T → ((x : ℕ) (xs : Chars) → T ≡ x ∷ xs → is_symbol x ≡ false)
    → ((c == 47) && (slice_index (encode_utf8_all (c ∷ cs) ++ encode_utf8_all T) 1 == 42)) ≡ false
no_comment_start c [] T pass no_start first ends =
    let low = (symbol c (both (is_symbol c) true pass).0).low in
    second_false (c == 47) _
    (ap (λ n. n == 42) (one_byte c (encode_utf8_all T) low)
    ∙ byte-fails (λ b. b == 42) (λ b high. grind (arith, nat_tests)) refl T first
    (λ x xs is. star x (ends x xs is)))
  where
    star_by : (t : Bool) (x : ℕ) → (x == 42) ≡ t → is_symbol x ≡ false → t ≡ false
    star_by true x same none_such =
        let P : ℕ → Type 0 = λ n. is_symbol n ≡ false in
        let bad : is_symbol 42 ≡ false = subst P (same_number x 42 same) none_such in absurd (differ bad)
    star_by false x same none_such = refl

    star : (x : ℕ) → is_symbol x ≡ false → (x == 42) ≡ false
    star x none_such = star_by (x == 42) x refl none_such
no_comment_start c (d ∷ ds) T pass no_start first ends =
    let s = both (is_symbol c) (list_all is_symbol (d ∷ ds)) pass in
    let t = both (is_symbol d) (list_all is_symbol ds) s.1 in
    let second = two_bytes c d ds (encode_utf8_all T) (symbol c s.0).low (symbol d t.0).low in
    ap (λ n. (c == 47) && (n == 42)) second ∙ pair (c == 47) (d == 42) refl refl
  where
    pair : (a b : Bool) → (c == 47) ≡ a → (d == 42) ≡ b → (a && b) ≡ false
    pair true true e f =
        let P : ℕ → ℕ → Type 0 = λ m n. starts_with nat_eq (m ∷ n ∷ ds) (codes "/*") ≡ false in
        absurd (differ (subst (P 47) (same_number d 42 f) (subst (λ m. P m d) (same_number c 47 e) no_start)))
    pair true false e f = refl
    pair false b e f = refl

single_stop : (f : Chars) → bytes_eq f (codes ".") ≡ false → f ≡ 46 ∷ [] → ⊥
single_stop f none_such is =
    let P : Chars → Type 0 = λ g. bytes_eq g (codes ".") ≡ false in
    differ (subst P is none_such)

pub symbol-token : (f : Chars) (b : Behind) (o : Option Chars) (T : Chars) → is_symbol_name f ≡ true
    → Apart (behind b o f) T → FirstScalar T → ReadsName f f (encode_utf8_all T)
symbol-token [] b o T is apart first = cc
symbol-token (c ∷ cs) b o T is apart first =
    let whole = both (list_all is_symbol (c ∷ cs)) _ is in
    let tests = both (not (bytes_eq (c ∷ cs) (codes "."))) (not (starts_with nat_eq (c ∷ cs) (codes "/*"))) whole.1 in
    let t = both (is_symbol c) (list_all is_symbol cs) whole.0 in
    let facts = symbol c t.0 in
    let rest = encode_utf8_all T in
    let ends = (parted (behind b o (c ∷ cs)) T apart).symbol_ends (last-passes is_symbol c cs whole.0) in
    record {
      bare = true;
      first = c;
      more = cs;
      spelled = refl;
      plain = facts.some;
      layout =
          no_layout (encode_utf8_all (c ∷ cs) ++ rest) c (length (encode_utf8 c)) (front_of_text c cs rest facts.some) facts.no_space facts.no_comment
          (no_comment_start c cs T whole.0 (not_true _ tests.1) first ends);
      token = λ direct. symbol_name-reads direct c cs rest whole.0 (run_stops is_symbol T first ends)
          (λ stop. absurd (single_stop (c ∷ cs) (not_true _ tests.0) stop));
    }

-- The cut and the semicolon

pub cut-token : (rest : List ℕ) → ReadsName (codes "!") (codes "!") rest
unfolding encode
cut-token rest =
    record {
      bare = true;
      first = 33;
      more = [];
      spelled = refl;
      plain = refl;
      layout = no_layout (33 ∷ rest) 33 1 refl refl refl refl;
      token = λ direct. solo-reads direct 33 rest refl;
    }

pub semicolon-token : (rest : List ℕ) → ReadsName (codes ";") (codes ";") rest
unfolding encode
semicolon-token rest =
    record {
      bare = true;
      first = 59;
      more = [];
      spelled = refl;
      plain = refl;
      layout = no_layout (59 ∷ rest) 59 1 refl refl refl refl;
      token = λ direct. solo-reads direct 59 rest refl;
    }

-- Names in quotes

last_more : (c : ℕ) (cs : Chars) → last_character c (cs ++ codes "'") ≡ 39
last_more c [] = refl
last_more c (d ∷ ds) = last_more d ds

quote_text : (f : Chars) (rest : List ℕ) → encode_utf8_all (quoted f) ++ rest ≡ 39 ∷ (encode_utf8_all (flat_map escaped f ++ codes "'") ++ rest)
quote_text f rest = let less : 39 < 128 = omega arith in ap (λ xs. (xs ++ encode_utf8_all (flat_map escaped f ++ codes "'")) ++ rest) (encode_ascii 39 less)

pub quoted-token : (f : Chars) (b : Behind) (o : Option Chars) (T : Chars) → all_scalars f ≡ true
    → Apart (behind b o (quoted f)) T → FirstScalar T → ReadsName f (quoted f) (encode_utf8_all T)
quoted-token f b o T scalars apart first =
    let rest = encode_utf8_all T in
    let inner = flat_map escaped f ++ codes "'" in
    record {
      bare = false;
      first = 39;
      more = inner;
      spelled = refl;
      plain = refl;
      layout = no_layout (encode_utf8_all (quoted f) ++ rest) 39 1
          (ap front (quote_text f rest) ∙ front-ascii 39 (encode_utf8_all inner ++ rest) refl) refl refl refl;
      token = λ direct. written-reads direct f rest scalars
          (no_quote T first ((parted (behind b o (quoted f)) T apart).quote_ends (last_more 39 (flat_map escaped f))));
    }

-- All names but the brackets, which are two tokens each.

pub record NoBrackets (f : Chars) : Type 0 where
  pub no_list : f ≡ codes "[]" → ⊥
  pub no_curly : f ≡ codes "{}" → ⊥

abbrev Written : Chars → Behind → Option Chars → Chars → Chars → Type 0
Written f b o T p = Apart (behind b o p) T → FirstScalar T → ReadsName f p (encode_utf8_all T)

either : {A : Type 0} (a b : Bool) → (a || b) ≡ true → (a ≡ true → A) → (b ≡ true → A) → A
either {A} true b e f g = f refl
either {A} false b e f g = g e

solo-token : (f : Chars) (b : Behind) (o : Option Chars) (T : Chars) → NoBrackets f → is_solo_name f ≡ true → Written f b o T f
solo-token f b o T none_such is apart first =
    let rest = encode_utf8_all T in
    let P : Chars → Type 0 = λ g. ReadsName g g rest in
    either (bytes_eq f (codes "!")) _ is (λ e. subst P (sym (same_text f (codes "!") e)) (cut-token rest))
    (λ is. either (bytes_eq f (codes ";")) _ is (λ e. subst P (sym (same_text f (codes ";") e)) (semicolon-token rest))
    (λ is. either (bytes_eq f (codes "[]")) _ is (λ e. absurd (none_such.no_list (same_text f (codes "[]") e)))
    (λ is. either (bytes_eq f (codes "{}")) false is (λ e. absurd (none_such.no_curly (same_text f (codes "{}") e))) (λ e. absurd (differ (sym e))))))

bare-token : (f : Chars) (b : Behind) (o : Option Chars) (T : Chars) → all_scalars f ≡ true → NoBrackets f → is_bare_name f ≡ true → Written f b o T f
bare-token f b o T scalars none_such is apart first =
    either (is_letter_name f) _ is (λ letter. letter-token f b o T scalars letter apart first)
    (λ is. either (is_symbol_name f) (is_solo_name f) is (λ symbol. symbol-token f b o T symbol apart first)
    (λ solo. solo-token f b o T none_such solo apart first))

pub name-token : (f : Chars) (b : Behind) (o : Option Chars) (T : Chars) → all_scalars f ≡ true → NoBrackets f → Written f b o T (name f)
name-token f b o T scalars none_such =
    choose (Written f b o T) (is_bare_name f) f (quoted f) (bare-token f b o T scalars none_such) (λ _. quoted-token f b o T scalars)

pub no_brackets : (f : Chars) → (bytes_eq f (codes "[]") || bytes_eq f (codes "{}")) ≡ false → NoBrackets f
no_brackets f e =
    let t = neither (bytes_eq f (codes "[]")) (bytes_eq f (codes "{}")) e in
    let P : Chars → Chars → Type 0 = λ g h. bytes_eq g h ≡ false in
    record {
      no_list = λ is. differ (subst (λ g. bytes_eq g (codes "[]") ≡ false) is t.0);
      no_curly = λ is. differ (subst (λ g. bytes_eq g (codes "{}") ≡ false) is t.1);
    }

pub functor-token : (f : Chars) (b : Behind) (o : Option Chars) (T : Chars) → all_scalars f ≡ true → Written f b o T (functor f)
functor-token f b o T scalars =
    choose (Written f b o T) (bytes_eq f (codes "[]") || bytes_eq f (codes "{}")) (quoted f) (name f) (λ _. quoted-token f b o T scalars)
    (λ e. name-token f b o T scalars (no_brackets f e))
