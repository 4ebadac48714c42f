-- Quoted texts are read as the texts that they stand for: those that the writer writes, and those in any quotes in
-- which the quote is doubled.
use Rattle.std.proofs.Common.{◌≡◌, ℕ, ◌+◌, ◌<◌, suc, Bool, true, false, cond, nat_lt, ◌==◌, ◌&&◌, ◌||◌, codes, List, [], ◌∷◌, ◌++◌, length, get_or, drop, option_map, Some, Ok, append_assoc, refl, sym, ap, subst, ◌∙◌, arith, below_more, below_none}
use Rattle.std.specs.Char.{encode_utf8, IsScalar}
use Rattle.std.specs.Str.{all_scalars, encode_utf8_all}
use Rattle.std.specs.List.{flat_map}
use Rattle.std.proofs.lemmas.Bool.{cond-true, cond-false}
use Rattle.std.proofs.lemmas.Bool.Decides.{nat_tests}
use Rattle.std.proofs.lemmas.List.{length-append, append-nil}
use Rattle.std.proofs.lemmas.Str.{encodes-append, encode_ascii, char_from_byte}
use Rattle.std.proofs.Math.Seq.{drop-append_seam}
use Rattle.std.proofs.Math.Utf8.{encode}
use Rattle.pl_term.specs.Tree.{Chars}
use Rattle.pl_model.specs.declared.syntax.SyntaxKind.TheVariants.{BadEscape}
use Rattle.pl_model.specs.declared.lexical.Piece.TheVariants.{Character, Close}
use Rattle.pl_model.specs.declared.lexical.Begins.TheVariants.{Quote}
use Rattle.pl_model.specs.declared.lexical.TokenKind.TheVariants.{Quoted, Integer}
use Rattle.pl_model.specs.declared.lexical.Reading.TheVariants.{Token, Fault}
use Rattle.pl_model.specs.Writing.{hexadecimal, escaped, quoted as written}
use Rattle.pl_model.specs.LexicalCharacters.{begins}
use Rattle.pl_model.specs.LexicalQuoted.{begins_with, piece, closing, spelled, behind, quoted_kind, closed, quoted_by, quoted}
use Rattle.pl_model.specs.LexicalTokens.{coded_character, character_code, token_of, token_front}
use Rattle.pl_model.specs.laws.LexicalLaws.{doubled_in, in_quotes}
use Rattle.pl_model.proofs.CharacterRuns.{front-ascii}
use Rattle.pl_model.proofs.LexicalPieces.{piece-scalar, closing-passes, closing-closes, spelled-character, spelled-closes}
use Rattle.pl_model.proofs.LexicalPlaces.{token_front-scalar}
use Rattle.pl_model.proofs.LexicalFronts.{front-encode}

both : (a b : Bool) → (a && b) ≡ true → (a ≡ true) × (b ≡ true)
both true b e = (refl, e)
both false b e = cc

-- A text in quotes stands for one character, whatever is after it.
abbrev Reads : ℕ → ℕ → Chars → Type 0
Reads quote c text = (ys : List ℕ) → piece quote (encode_utf8_all text ++ ys) ≡ Character c (length (encode_utf8_all text))

choose : (quote c : ℕ) (t : Bool) (xs ys : Chars) → (t ≡ true → Reads quote c xs) → (t ≡ false → Reads quote c ys) → Reads quote c (cond t xs ys)
choose quote c true xs ys f g = f refl
choose quote c false xs ys f g = g refl

same_code : (quote c d : ℕ) (text : Chars) → (c == d) ≡ true → Reads quote d text → Reads quote c text
same_code quote c d text e h =
    let same : d ≡ c = grind (arith, nat_tests) in
    let P : ℕ → Type 0 = λ n. Reads quote n text in subst P same h

plain_piece : (quote c : ℕ) (ys : List ℕ) → IsScalar c → (c == quote) ≡ false → (c == 92) ≡ false
    → piece quote (encode_utf8 c ++ ys) ≡ Character c (length (encode_utf8 c))
plain_piece quote c ys is no_quote no_backslash =
    let k = length (encode_utf8 c) in
    let bs = encode_utf8 c ++ ys in
    piece-scalar quote bs c k (front-encode c ys is)
    ∙ cond-false (c == quote) (cond (begins_with quote (drop 1 bs)) (Character quote 2) Close) _ no_quote
    ∙ cond-false (c == 92) _ (Character c k) no_backslash

plain : (quote c : ℕ) → IsScalar c → (c == quote) ≡ false → (c == 92) ≡ false → Reads quote c (c ∷ [])
plain quote c is no_quote no_backslash ys =
    ap (λ bs. piece quote (bs ++ ys)) (append-nil (encode_utf8 c))
    ∙ plain_piece quote c ys is no_quote no_backslash
    ∙ ap (λ xs. Character c (length xs)) (sym (append-nil (encode_utf8 c)))

some_bytes : (quote c : ℕ) (text : Chars) (bs : List ℕ) → piece quote bs ≡ Character c (length (encode_utf8_all text)) → 0 < length bs
some_bytes quote c text [] e = cc
some_bytes quote c text (b ∷ bs) e = omega arith

-- A text in quotes, each of whose characters is written so that it reads as itself.
module _ (quote : ℕ) (written_as : ℕ → Chars) (low : nat_lt quote 128 ≡ true) (same : (quote == quote) ≡ true)
    (reads : (c : ℕ) → IsScalar c → Reads quote c (written_as c)) where
  abbrev inner : Chars → List ℕ
  inner cs = encode_utf8_all (flat_map written_as cs)

  inner-more : (c : ℕ) (cs : Chars) (ys : List ℕ) → inner (c ∷ cs) ++ ys ≡ encode_utf8_all (written_as c) ++ (inner cs ++ ys)
  inner-more c cs ys =
      ap (λ bs. bs ++ ys) (encodes-append (written_as c) (flat_map written_as cs)) ∙ append_assoc (encode_utf8_all (written_as c)) (inner cs) ys

  some : (c : ℕ) (ys : List ℕ) → IsScalar c → 0 < length (encode_utf8_all (written_as c) ++ ys)
  some c ys is = some_bytes quote c (written_as c) (encode_utf8_all (written_as c) ++ ys) (reads c is ys)

  closes : (rest : List ℕ) → begins_with quote rest ≡ false → piece quote (quote ∷ rest) ≡ Close
  closes rest ends =
      piece-scalar quote (quote ∷ rest) quote 1 (front-ascii quote rest low)
      ∙ cond-true (quote == quote) (cond (begins_with quote rest) (Character quote 2) Close) _ same
      ∙ cond-false (begins_with quote rest) (Character quote 2) Close ends

  closing-inner : (cs : Chars) (rest : List ℕ) → all_scalars cs ≡ true → begins_with quote rest ≡ false
      → closing quote 0 (inner cs ++ quote ∷ rest) ≡ Some (length (inner cs))
  closing-inner [] rest scalars ends = closing-closes quote (quote ∷ rest) (omega arith) (closes rest ends)
  closing-inner (c ∷ cs) rest scalars ends =
      let s = both _ (all_scalars cs) scalars in
      let more = inner cs ++ quote ∷ rest in
      let k = length (encode_utf8_all (written_as c)) in
      ap (closing quote 0) (inner-more c cs (quote ∷ rest))
      ∙ closing-passes quote (encode_utf8_all (written_as c) ++ more) (Character c k) (some c more s.0) (reads c s.0 more) tt
      ∙ ap (λ bs. option_map (λ n. k + n) (closing quote 0 bs)) (drop-append_seam (encode_utf8_all (written_as c)) more)
      ∙ ap (option_map (λ n. k + n)) (closing-inner cs rest s.1 ends)
      ∙ ap (λ n. Some n) (sym (ap length (encodes-append (written_as c) (flat_map written_as cs)) ∙ length-append (encode_utf8_all (written_as c)) (inner cs)))

  spelled-inner : (cs : Chars) (at : ℕ) (rest : List ℕ) → all_scalars cs ≡ true → begins_with quote rest ≡ false
      → spelled quote at 0 (inner cs ++ quote ∷ rest) ≡ Ok cs
  spelled-inner [] at rest scalars ends = spelled-closes quote at (quote ∷ rest) (omega arith) (closes rest ends)
  spelled-inner (c ∷ cs) at rest scalars ends =
      let s = both _ (all_scalars cs) scalars in
      let more = inner cs ++ quote ∷ rest in
      let k = length (encode_utf8_all (written_as c)) in
      ap (spelled quote at 0) (inner-more c cs (quote ∷ rest))
      ∙ spelled-character quote at (encode_utf8_all (written_as c) ++ more) c k (some c more s.0) (reads c s.0 more)
      ∙ ap (λ bs. behind c (spelled quote (at + k) 0 bs)) (drop-append_seam (encode_utf8_all (written_as c)) more)
      ∙ ap (behind c) (spelled-inner cs (at + k) rest s.1 ends)

  quoted-inner : (cs : Chars) (rest : List ℕ) → all_scalars cs ≡ true → begins_with quote rest ≡ false
      → quoted quote (inner cs ++ quote ∷ rest) ≡ Token (quoted_kind quote cs) (length (inner cs) + 2)
  quoted-inner cs rest scalars ends =
      ap (quoted_by quote (inner cs ++ quote ∷ rest)) (closing-inner cs rest scalars ends)
      ∙ ap (closed quote (length (inner cs) + 2)) (spelled-inner cs 1 rest scalars ends)

  one_byte : encode_utf8 quote ≡ quote ∷ []
  one_byte = let less : quote < 128 = grind (arith, nat_tests) in encode_ascii quote less

  abbrev whole : Chars → Chars
  whole cs = quote ∷ (flat_map written_as cs ++ quote ∷ [])

  whole-bytes : (cs : Chars) (rest : List ℕ) → encode_utf8_all (whole cs) ++ rest ≡ quote ∷ (inner cs ++ quote ∷ rest)
  whole-bytes cs rest =
      ap (λ bs. (bs ++ encode_utf8_all (flat_map written_as cs ++ quote ∷ [])) ++ rest) one_byte
      ∙ ap (λ bs. quote ∷ (bs ++ rest)) (encodes-append (flat_map written_as cs) (quote ∷ []) ∙ ap (λ bs. inner cs ++ (bs ++ [])) one_byte)
      ∙ ap (λ bs. quote ∷ bs) (append_assoc (inner cs) (quote ∷ []) rest)

  whole-size : (cs : Chars) → length (inner cs) + 2 ≡ length (encode_utf8_all (whole cs))
  whole-size cs =
      sym
      (ap length (sym (append-nil (encode_utf8_all (whole cs))) ∙ whole-bytes cs [])
      ∙ ap suc (length-append (inner cs) (quote ∷ [])) ∙ omega arith)

  pub in_quotes-reads : (direct : Bool) (cs : Chars) (rest : List ℕ) → begins quote ≡ Quote → all_scalars cs ≡ true → begins_with quote rest ≡ false
      → token_front direct (encode_utf8_all (whole cs) ++ rest) ≡ Token (quoted_kind quote cs) (length (encode_utf8_all (whole cs)))
  in_quotes-reads direct cs rest class scalars ends =
      let bs = quote ∷ (inner cs ++ quote ∷ rest) in
      ap (token_front direct) (whole-bytes cs rest)
      ∙ token_front-scalar direct bs quote 1 (front-ascii quote (inner cs ++ quote ∷ rest) low)
      ∙ ap (λ b. token_of direct bs b quote 1) class
      ∙ quoted-inner cs rest scalars ends
      ∙ ap (λ n. Token (quoted_kind quote cs) n) (whole-size cs)

-- What the writer writes.

-- A character by its code.
abbrev coded_text : ℕ → Chars
coded_text c = codes "\\x" ++ (hexadecimal c ++ codes "\\")

abbrev ReadsCode : ℕ → Type 0
ReadsCode c = Reads 39 c (coded_text c)

low_codes : (c : ℕ) → c < 32 → ReadsCode c
unfolding encode
low_codes = let P : ℕ → Type 0 = ReadsCode in below_more P 31 (below_more P 30 (below_more P 29 (below_more P 28 (below_more P 27 (below_more P 26 (below_more P 25 (below_more P 24 (below_more P 23 (below_more P 22 (below_more P 21 (below_more P 20 (below_more P 19 (below_more P 18 (below_more P 17 (below_more P 16 (below_more P 15 (below_more P 14 (below_more P 13 (below_more P 12 (below_more P 11 (below_more P 10 (below_more P 9 (below_more P 8 (below_more P 7 (below_more P 6 (below_more P 5 (below_more P 4 (below_more P 3 (below_more P 2 (below_more P 1 (below_more P 0 (below_none P) (λ ys. refl)) (λ ys. refl)) (λ ys. refl)) (λ ys. refl)) (λ ys. refl)) (λ ys. refl)) (λ ys. refl)) (λ ys. refl)) (λ ys. refl)) (λ ys. refl)) (λ ys. refl)) (λ ys. refl)) (λ ys. refl)) (λ ys. refl)) (λ ys. refl)) (λ ys. refl)) (λ ys. refl)) (λ ys. refl)) (λ ys. refl)) (λ ys. refl)) (λ ys. refl)) (λ ys. refl)) (λ ys. refl)) (λ ys. refl)) (λ ys. refl)) (λ ys. refl)) (λ ys. refl)) (λ ys. refl)) (λ ys. refl)) (λ ys. refl)) (λ ys. refl)) (λ ys. refl)

delete_code : ReadsCode 127
unfolding encode
delete_code ys = refl

quote_text : Reads 39 39 (codes "\\'")
unfolding encode
quote_text ys = refl

backslash_text : Reads 39 92 (codes "\\\\")
unfolding encode
backslash_text ys = refl

newline_text : Reads 39 10 (codes "\\n")
unfolding encode
newline_text ys = refl

tab_text : Reads 39 9 (codes "\\t")
unfolding encode
tab_text ys = refl

control : (c : ℕ) → (nat_lt c 32 || (c == 127)) ≡ true → ReadsCode c
control c e = by (nat_lt c 32) refl e where
  by : (t : Bool) → nat_lt c 32 ≡ t → (t || (c == 127)) ≡ true → ReadsCode c
  by true low e = let less : c < 32 = grind (arith, nat_tests) in low_codes c less
  by false high e = let same : 127 ≡ c = grind (arith, nat_tests) in let P : ℕ → Type 0 = ReadsCode in subst P same delete_code

escaped-reads : (c : ℕ) → IsScalar c → Reads 39 c (escaped c)
escaped-reads c is =
    choose 39 c (c == 39) (codes "\\'") _ (λ t. same_code 39 c 39 (codes "\\'") t quote_text)
    (λ no_quote. choose 39 c (c == 92) (codes "\\\\") _ (λ t. same_code 39 c 92 (codes "\\\\") t backslash_text)
    (λ no_backslash. choose 39 c (c == 10) (codes "\\n") _ (λ t. same_code 39 c 10 (codes "\\n") t newline_text)
    (λ _. choose 39 c (c == 9) (codes "\\t") _ (λ t. same_code 39 c 9 (codes "\\t") t tab_text)
    (λ _. choose 39 c (nat_lt c 32 || (c == 127)) (coded_text c) (c ∷ []) (λ t. control c t) (λ _. plain 39 c is no_quote no_backslash)))))

pub written-reads : (direct : Bool) (cs : Chars) (rest : List ℕ) → all_scalars cs ≡ true → begins_with 39 rest ≡ false
    → token_front direct (encode_utf8_all (written cs) ++ rest) ≡ Token (Quoted cs) (length (encode_utf8_all (written cs)))
written-reads direct cs rest scalars ends = in_quotes-reads 39 escaped refl refl escaped-reads direct cs rest refl scalars ends

-- Texts in any quotes, where quotes are doubled.

doubled-reads : (quote : ℕ) → Reads quote quote (quote ∷ quote ∷ []) → Reads quote 92 (codes "\\\\") → (c : ℕ) → IsScalar c → Reads quote c (doubled_in quote c)
doubled-reads quote pair slash c is =
    choose quote c (c == quote) (quote ∷ quote ∷ []) _ (λ t. same_code quote c quote (quote ∷ quote ∷ []) t pair)
    (λ no_quote. choose quote c (c == 92) (codes "\\\\") (c ∷ []) (λ t. same_code quote c 92 (codes "\\\\") t slash)
    (λ no_backslash. plain quote c is no_quote no_backslash))

single_pair : Reads 39 39 (39 ∷ 39 ∷ [])
unfolding encode
single_pair ys = refl

double_pair : Reads 34 34 (34 ∷ 34 ∷ [])
unfolding encode
double_pair ys = refl

double_slash : Reads 34 92 (codes "\\\\")
unfolding encode
double_slash ys = refl

back_pair : Reads 96 96 (96 ∷ 96 ∷ [])
unfolding encode
back_pair ys = refl

back_slash : Reads 96 92 (codes "\\\\")
unfolding encode
back_slash ys = refl

abbrev ReadsQuoted : ℕ → Type 0
ReadsQuoted quote = (direct : Bool) (cs : Chars) (rest : List ℕ) → all_scalars cs ≡ true → begins_with quote rest ≡ false
    → token_front direct (encode_utf8_all (in_quotes quote cs) ++ rest) ≡ Token (quoted_kind quote cs) (length (encode_utf8_all (in_quotes quote cs)))

pub doubled_single : ReadsQuoted 39
doubled_single direct cs rest scalars ends =
    in_quotes-reads 39 (doubled_in 39) refl refl (doubled-reads 39 single_pair backslash_text) direct cs rest refl scalars ends

pub doubled_double : ReadsQuoted 34
doubled_double direct cs rest scalars ends =
    in_quotes-reads 34 (doubled_in 34) refl refl (doubled-reads 34 double_pair double_slash) direct cs rest refl scalars ends

pub doubled_back : ReadsQuoted 96
doubled_back direct cs rest scalars ends =
    in_quotes-reads 96 (doubled_in 96) refl refl (doubled-reads 96 back_pair back_slash) direct cs rest refl scalars ends

-- Character codes.

other_byte : (c : ℕ) (rest : List ℕ) → 0 < length (encode_utf8 c ++ rest) → (c == 10) ≡ false → (get_or (encode_utf8 c ++ rest) 0 0 == 10) ≡ false
other_byte c rest some no_newline = by (get_or (encode_utf8 c ++ rest) 0 0 == 10) refl where
  by : (t : Bool) → (get_or (encode_utf8 c ++ rest) 0 0 == 10) ≡ t → t ≡ false
  by true e =
      let first : get_or (encode_utf8 c ++ rest) 0 0 ≡ 10 = grind (arith, nat_tests) in
      let low : get_or (encode_utf8 c ++ rest) 0 0 < 128 = omega arith in
      let same : c ≡ get_or (encode_utf8 c ++ rest) 0 0 = char_from_byte (encode_utf8 c ++ rest) rest c refl low some in
      let newline : c ≡ 10 = same ∙ first in
      let no : true ≡ false = grind (arith, nat_tests) in no
  by false e = refl

third : (n : ℕ) → 0 < n → nat_lt 2 (suc (suc n)) ≡ true
third n some = grind (arith, nat_tests)

pub code-reads : (direct : Bool) (c : ℕ) (rest : List ℕ) → IsScalar c → (c == 39) ≡ false → (c == 92) ≡ false → (c == 10) ≡ false
    → token_front direct (48 ∷ 39 ∷ (encode_utf8 c ++ rest)) ≡ Token (Integer c) (length (encode_utf8 c) + 2)
code-reads direct c rest is no_quote no_backslash no_newline =
    let bs = encode_utf8 c ++ rest in
    let reads = plain_piece 39 c rest is no_quote no_backslash in
    let some : 0 < length bs = some_piece bs reads in
    cond-true (nat_lt 2 (length (48 ∷ 39 ∷ bs))) (character_code bs) _ (third (length bs) some)
    ∙ cond-false (get_or bs 0 0 == 10) (Fault BadEscape 0) (coded_character (piece 39 bs)) (other_byte c rest some no_newline)
    ∙ ap coded_character reads
  where
    some_piece : (bs : List ℕ) → piece 39 bs ≡ Character c (length (encode_utf8 c)) → 0 < length bs
    some_piece [] e = cc
    some_piece (b ∷ bs) e = omega arith
