-- Pieces at a place of a text, and the token that each is read as.
use Rattle.std.proofs.Common.{◌≡◌, ℕ, ◌+◌, zero, suc, Bool, false, cond, ◌&&◌, ◌==◌, codes, List, [], ◌∷◌, ◌++◌, length, drop, get_or, slice_index, Option, Some, None, Ok, refl, sym, ap, subst, ◌∙◌, arith, bytes_eq}
use Rattle.std.specs.Char.{encode_utf8, is_ascii_digit}
use Rattle.std.specs.Str.{encode_utf8_all}
use Rattle.std.proofs.lemmas.List.{drop-drop, get_or-drop}
use Rattle.std.proofs.Math.Seq.{drop-append_seam}
use Rattle.std.proofs.Math.Utf8.{encode}
use Rattle.pl_term.specs.Tree.{Chars}
use Rattle.pl_model.specs.declared.lexical.Mark.TheVariants.{Open, Close, OpenList, CloseList, OpenCurly, CloseCurly, Bar, Comma}
use Rattle.pl_model.specs.declared.lexical.TokenKind.{TokenKind}
use Rattle.pl_model.specs.declared.lexical.TokenKind.TheVariants.{Punctuation}
use Rattle.pl_model.specs.declared.lexical.Reading.TheVariants.{Token}
use Rattle.pl_model.specs.declared.lexical.Lexeme.TheVariants.{Token as TokenLexeme}
use Rattle.pl_model.specs.Characters.{is_symbol, continues_name}
use Rattle.pl_model.specs.Tokens.{front, skip_layout}
use Rattle.pl_model.specs.LexicalTokens.{mark_at, placed, token_front, token_at}
use Rattle.pl_model.specs.Writing.{would_join}
use Rattle.pl_model.specs.TermWriting.{Piece, plain, Behind, would_bind, put, behind, text_behind}
use Rattle.pl_model.proofs.LexicalPlaces.{token_at-start}
use Rattle.pl_model.proofs.LexicalReads.{close-reads, open_list-reads, close_list-reads, open_curly-reads, close_curly-reads, bar-reads, comma-reads}
use Rattle.term_writer.proofs.Bits.{second_false, none_true}
use Rattle.term_writer.proofs.Seams.{chars_of, after_piece, blanks, blanks-add, lead}
use Rattle.term_writer.proofs.FirstBytes.{NoLayout, no_layout}
use Rattle.term_writer.proofs.NameTokens.{name_kind, ReadsName}

-- Spaces are passed as layout.
skip-blanks : (n at : ℕ) (bs : List ℕ) → NoLayout bs → skip_layout at 0 (blanks n ++ bs) ≡ Ok (at + n)
skip-blanks zero at bs h = h at ∙ ap Ok (omega arith)
skip-blanks (suc n) at bs h =
    let more : suc at + n ≡ at + suc n = omega arith in
    skip-blanks n (suc at) bs h ∙ ap Ok more

drop-blanks : (n : ℕ) (bs : List ℕ) → drop n (blanks n ++ bs) ≡ bs
drop-blanks zero bs = refl
drop-blanks (suc n) bs = drop-blanks n bs

-- Whether a gap stands before a piece that joins nothing and binds to nothing.
pub no_gap : (b : Behind) (d : ℕ) (ds : Chars) → would_join b.last d ≡ false → would_bind b.prefix d ≡ false → put b (d ∷ ds) ≡ d ∷ ds
no_gap b d ds e f = ap (λ t. cond t (codes " ") [] ++ d ∷ ds) (none_true (would_join b.last d) (would_bind b.prefix d) e f)

pub joins_nothing : (c d : ℕ) → is_symbol d ≡ false → continues_name d ≡ false → (d == 39) ≡ false → would_join c d ≡ false
joins_nothing c d e f g =
    none_true (is_symbol c && is_symbol d) _ (second_false (is_symbol c) (is_symbol d) e)
    (none_true (continues_name c && continues_name d) _ (second_false (continues_name c) (continues_name d) f) (second_false (c == 39) (d == 39) g))

pub space_binds : (o : Option Chars) → would_bind o 32 ≡ false
space_binds None = refl
space_binds (Some f) = second_false (bytes_eq f (codes "-")) (is_ascii_digit 32) refl

-- The state after a piece of one character.
abbrev pub behind_one : ℕ → Behind
behind_one c = record { last = c; prefix = None }

module _ (text : List ℕ) where
  -- These pieces stand at a place, after spaces.
  pub record Ahead (b : Behind) (ps : List Piece) (at : ℕ) : Type 0 where
    pub spaces : ℕ
    pub is : drop at text ≡ blanks spaces ++ encode_utf8_all (text_behind b ps)

  -- These pieces stand at a place.
  abbrev pub Exact : Behind → List Piece → ℕ → Type 0
  Exact b ps at = drop at text ≡ encode_utf8_all (text_behind b ps)

  pub exact-ahead : (b : Behind) (ps : List Piece) (at : ℕ) → Exact b ps at → Ahead b ps at
  exact-ahead b ps at e = record { spaces = 0; is = e }

  space-bytes : (b : Behind) (ps : List Piece) → encode_utf8_all (text_behind b (plain (codes " ") ∷ ps)) ≡ blanks 1 ++ encode_utf8_all (text_behind (behind_one 32) ps)
  unfolding encode
  space-bytes b ps =
      ap (λ cs. encode_utf8_all (cs ++ text_behind (behind_one 32) ps))
      (no_gap b 32 [] (joins_nothing b.last 32 refl refl refl) (space_binds b.prefix))

  pub space-ahead : (b : Behind) (ps : List Piece) (at : ℕ) → Ahead b (plain (codes " ") ∷ ps) at → Ahead (behind_one 32) ps at
  space-ahead b ps at a = record {
    spaces = a.spaces + 1;
    is =
        a.is ∙ ap (λ bs. blanks a.spaces ++ bs) (space-bytes b ps) ∙ blanks-add a.spaces 1 (encode_utf8_all (text_behind (behind_one 32) ps));
  }

  pub byte-at : (at : ℕ) (bs : List ℕ) → drop at text ≡ bs → slice_index text at ≡ slice_index bs 0
  byte-at at bs e =
      let place : at ≡ at + 0 = omega arith in
      ap (λ n. get_or text n 0) place ∙ sym (get_or-drop at text 0 0) ∙ ap (λ xs. get_or xs 0 0) e

  -- The token at a place, and the bytes after it.
  pub record TokenAt (at : ℕ) (kind : Bool → TokenKind) (bs : List ℕ) : Type 0 where
    pub direct : Bool
    pub start : ℕ
    pub end : ℕ
    pub is : token_at text at ≡ Ok (TokenLexeme (kind direct) start end)
    pub rest : drop end text ≡ bs

  pub token-here : (at n size : ℕ) (bs rest : List ℕ) (kind : Bool → TokenKind) → drop at text ≡ blanks n ++ bs → NoLayout bs
      → ((direct : Bool) → token_front direct bs ≡ Token (kind direct) size) → drop size bs ≡ rest → TokenAt at kind rest
  token-here at n size bs rest kind stands layout front behind =
      let start = at + n in
      let there : drop start text ≡ bs = sym (drop-drop n at text) ∙ ap (drop n) stands ∙ drop-blanks n bs in
      record {
        direct = start == at;
        start = start;
        end = start + size;
        is =
            token_at-start text at start (sym (ap (skip_layout at 0) stands ∙ skip-blanks n at bs layout))
            ∙ ap (λ xs. placed start (token_front (start == at) xs)) there
            ∙ ap (placed start) (front (start == at));
        rest = sym (drop-drop size start text) ∙ ap (drop size) there ∙ behind;
      }

  -- The token that a piece is read as, and the pieces after it.
  pub record Next (kind : Bool → TokenKind) (b : Behind) (ps : List Piece) (at : ℕ) : Type 0 where
    pub direct : Bool
    pub start : ℕ
    pub end : ℕ
    pub is : token_at text at ≡ Ok (TokenLexeme (kind direct) start end)
    pub exact : Exact b ps end

  next : (kind : Bool → TokenKind) (b : Behind) (ps : List Piece) (at : ℕ) → TokenAt at kind (encode_utf8_all (text_behind b ps)) → Next kind b ps at
  next kind b ps at t = record { direct = t.direct; start = t.start; end = t.end; is = t.is; exact = t.rest }

  pub piece-next : (kind : Bool → TokenKind) (b : Behind) (p : Piece) (ps : List Piece) (at : ℕ) (d : ℕ) (ds : Chars) → chars_of p ≡ d ∷ ds
      → Ahead b (p ∷ ps) at
      → NoLayout (encode_utf8_all (d ∷ ds) ++ encode_utf8_all (text_behind (after_piece b p) ps))
      → ((direct : Bool) → token_front direct (encode_utf8_all (d ∷ ds) ++ encode_utf8_all (text_behind (after_piece b p) ps)) ≡ Token (kind direct) (length (encode_utf8_all (d ∷ ds))))
      → Next kind (after_piece b p) ps at
  piece-next kind b p ps at d ds spelled ahead layout front =
      let rest = encode_utf8_all (text_behind (after_piece b p) ps) in
      let stands = lead b p ps d ds ahead.spaces (drop at text) spelled ahead.is in
      next kind (after_piece b p) ps at
      (token-here at stands.0 (length (encode_utf8_all (d ∷ ds))) (encode_utf8_all (d ∷ ds) ++ rest) rest kind stands.1 layout front
      (drop-append_seam (encode_utf8_all (d ∷ ds)) rest))

  pub name-next : (f : Chars) (b : Behind) (p : Piece) (ps : List Piece) (at : ℕ) → Ahead b (p ∷ ps) at
      → (r : ReadsName f (chars_of p) (encode_utf8_all (text_behind (after_piece b p) ps))) → Next (λ direct. name_kind r.bare f) (after_piece b p) ps at
  name-next f b p ps at ahead r = piece-next (λ direct. name_kind r.bare f) b p ps at r.first r.more r.spelled ahead r.layout r.token

  mark-next : (kind : Bool → TokenKind) (c : ℕ) (b : Behind) (ps : List Piece) (at : ℕ) → Ahead b (plain (c ∷ []) ∷ ps) at
      → encode_utf8 c ≡ c ∷ []
      → ((rest : List ℕ) → NoLayout (c ∷ rest)) → ((direct : Bool) (rest : List ℕ) → token_front direct (c ∷ rest) ≡ Token (kind direct) 1)
      → Next kind (behind_one c) ps at
  mark-next kind c b ps at ahead one layout front =
      let rest = encode_utf8_all (text_behind (behind_one c) ps) in
      let bytes : c ∷ rest ≡ encode_utf8_all (c ∷ []) ++ rest = ap (λ xs. (xs ++ []) ++ rest) (sym one) in
      piece-next kind b (plain (c ∷ [])) ps at c [] refl ahead
      (subst NoLayout bytes (layout rest))
      (λ direct. ap (token_front direct) (sym bytes) ∙ front direct rest ∙ ap (λ xs. Token (kind direct) (length (xs ++ []))) (sym one))

  pub open-next : (b : Behind) (ps : List Piece) (at : ℕ) → Ahead b (plain (codes "(") ∷ ps) at → Next (λ direct. Punctuation (mark_at direct Open)) (behind_one 40) ps at
  unfolding encode
  open-next b ps at a = mark-next (λ direct. Punctuation (mark_at direct Open)) 40 b ps at a refl (λ rest. no_layout (40 ∷ rest) 40 1 refl refl refl refl) (λ direct rest. refl)

  pub close-next : (b : Behind) (ps : List Piece) (at : ℕ) → Ahead b (plain (codes ")") ∷ ps) at → Next (λ direct. Punctuation Close) (behind_one 41) ps at
  unfolding encode
  close-next b ps at a = mark-next (λ direct. Punctuation Close) 41 b ps at a refl (λ rest. no_layout (41 ∷ rest) 41 1 refl refl refl refl) close-reads

  pub open_list-next : (b : Behind) (ps : List Piece) (at : ℕ) → Ahead b (plain (codes "[") ∷ ps) at → Next (λ direct. Punctuation OpenList) (behind_one 91) ps at
  unfolding encode
  open_list-next b ps at a = mark-next (λ direct. Punctuation OpenList) 91 b ps at a refl (λ rest. no_layout (91 ∷ rest) 91 1 refl refl refl refl) open_list-reads

  pub close_list-next : (b : Behind) (ps : List Piece) (at : ℕ) → Ahead b (plain (codes "]") ∷ ps) at → Next (λ direct. Punctuation CloseList) (behind_one 93) ps at
  unfolding encode
  close_list-next b ps at a = mark-next (λ direct. Punctuation CloseList) 93 b ps at a refl (λ rest. no_layout (93 ∷ rest) 93 1 refl refl refl refl) close_list-reads

  pub open_curly-next : (b : Behind) (ps : List Piece) (at : ℕ) → Ahead b (plain (codes "{") ∷ ps) at → Next (λ direct. Punctuation OpenCurly) (behind_one 123) ps at
  unfolding encode
  open_curly-next b ps at a = mark-next (λ direct. Punctuation OpenCurly) 123 b ps at a refl (λ rest. no_layout (123 ∷ rest) 123 1 refl refl refl refl) open_curly-reads

  pub close_curly-next : (b : Behind) (ps : List Piece) (at : ℕ) → Ahead b (plain (codes "}") ∷ ps) at → Next (λ direct. Punctuation CloseCurly) (behind_one 125) ps at
  unfolding encode
  close_curly-next b ps at a = mark-next (λ direct. Punctuation CloseCurly) 125 b ps at a refl (λ rest. no_layout (125 ∷ rest) 125 1 refl refl refl refl) close_curly-reads

  pub bar-next : (b : Behind) (ps : List Piece) (at : ℕ) → Ahead b (plain (codes "|") ∷ ps) at → Next (λ direct. Punctuation Bar) (behind_one 124) ps at
  unfolding encode
  bar-next b ps at a = mark-next (λ direct. Punctuation Bar) 124 b ps at a refl (λ rest. no_layout (124 ∷ rest) 124 1 refl refl refl refl) bar-reads

  pub comma-next : (b : Behind) (ps : List Piece) (at : ℕ) → Ahead b (plain (codes ",") ∷ ps) at → Next (λ direct. Punctuation Comma) (behind_one 44) ps at
  unfolding encode
  comma-next b ps at a = mark-next (λ direct. Punctuation Comma) 44 b ps at a refl (λ rest. no_layout (44 ∷ rest) 44 1 refl refl refl refl) comma-reads

  -- A parenthesis directly after a name.
  pub open-bytes : (b : Behind) (ps : List Piece) (at : ℕ) → b.prefix ≡ None → Exact b (plain (codes "(") ∷ ps) at
      → drop at text ≡ 40 ∷ encode_utf8_all (text_behind (behind_one 40) ps)
  unfolding encode
  open-bytes b ps at unbound e =
      e
      ∙ ap (λ cs. encode_utf8_all (cs ++ text_behind (behind_one 40) ps))
      (no_gap b 40 [] (joins_nothing b.last 40 refl refl refl) (ap (λ o. would_bind o 40) unbound))

  pub one-more : (at : ℕ) (c : ℕ) (bs : List ℕ) → drop at text ≡ c ∷ bs → drop (at + 1) text ≡ bs
  one-more at c bs e = sym (drop-drop 1 at text) ∙ ap (drop 1) e
