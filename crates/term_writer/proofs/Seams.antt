-- Where pieces of written text meet: spaces, and the first character after a piece.
use Rattle.std.proofs.Common.{◌≡◌, ℕ, ◌+◌, zero, suc, Bool, true, false, cond, ◌&&◌, ◌||◌, ◌==◌, codes, List, [], ◌∷◌, ◌++◌, Option, Some, None, append_assoc, refl, ap, ◌∙◌, arith, bytes_eq}
use Rattle.std.specs.Char.{is_ascii_digit}
use Rattle.std.specs.Str.{encode_utf8_all}
use Rattle.std.specs.List.{list_all}
use Rattle.std.proofs.lemmas.Str.{encodes-append}
use Rattle.std.proofs.Math.Utf8.{encode}
use Rattle.pl_term.specs.Tree.{Chars}
use Rattle.pl_model.specs.Characters.{is_symbol, continues_name}
use Rattle.pl_model.specs.Writing.{would_join, last_character}
use Rattle.pl_model.specs.TermWriting.{Piece, plain, before_operand, Behind, would_bind, gap, put, behind, text_behind}
use Rattle.term_writer.proofs.Bits.{second_false, none_true}

abbrev pub chars_of : Piece → Chars
chars_of (plain p) = p
chars_of (before_operand f p) = p

abbrev pub prefix_of : Piece → Option Chars
prefix_of (plain p) = None
prefix_of (before_operand f p) = Some f

abbrev pub after_piece : Behind → Piece → Behind
after_piece b p = behind b (prefix_of p) (chars_of p)

pub text-piece : (b : Behind) (p : Piece) (ps : List Piece) → text_behind b (p ∷ ps) ≡ put b (chars_of p) ++ text_behind (after_piece b p) ps
text-piece b (plain p) ps = refl
text-piece b (before_operand f p) ps = refl

abbrev pub blanks : ℕ → List ℕ
blanks zero = []
blanks (suc n) = 32 ∷ blanks n

pub blanks-add : (m n : ℕ) (bs : List ℕ) → blanks m ++ (blanks n ++ bs) ≡ blanks (m + n) ++ bs
blanks-add zero n bs = ap (λ k. blanks k ++ bs) (omega arith)
blanks-add (suc m) n bs =
    let more : suc (m + n) ≡ suc m + n = omega arith in
    ap (λ cs. 32 ∷ cs) (blanks-add m n bs) ∙ ap (λ k. blanks k ++ bs) more

-- A gap is one space or none.
some_gap : (t : Bool) → (k : ℕ) × (encode_utf8_all (cond t (codes " ") []) ≡ blanks k)
unfolding encode
some_gap true = (1, refl)
some_gap false = (0, refl)

-- A piece after spaces: further spaces, and then its characters and what follows them.
pub lead : (b : Behind) (p : Piece) (ps : List Piece) (d : ℕ) (ds : Chars) (n : ℕ) (bs : List ℕ) → chars_of p ≡ d ∷ ds
    → bs ≡ blanks n ++ encode_utf8_all (text_behind b (p ∷ ps))
    → (m : ℕ) × (bs ≡ blanks m ++ (encode_utf8_all (d ∷ ds) ++ encode_utf8_all (text_behind (after_piece b p) ps)))
lead b p ps d ds n bs spelled is =
    let rest = text_behind (after_piece b p) ps in
    let space = some_gap (would_join b.last d || would_bind b.prefix d) in (
      n + space.0,
      is
          ∙ ap (λ cs. blanks n ++ encode_utf8_all cs) (text-piece b p ps ∙ ap (λ cs. put b cs ++ rest) spelled)
          ∙ ap (λ cs. blanks n ++ cs) (encodes-append (gap b d ++ d ∷ ds) rest ∙ ap (λ cs. cs ++ encode_utf8_all rest) (encodes-append (gap b d) (d ∷ ds) ∙ ap (λ cs. cs ++ encode_utf8_all (d ∷ ds)) space.1)
          ∙ append_assoc (blanks space.0) (encode_utf8_all (d ∷ ds)) (encode_utf8_all rest))
          ∙ blanks-add n space.0 (encode_utf8_all (d ∷ ds) ++ encode_utf8_all rest),
    )

-- What is written after a piece: its first character would not join it, and would not bind to it.
abbrev pub Apart : Behind → Chars → Type 0
Apart b [] = Unit {0}
Apart b (x ∷ xs) = (would_join b.last x || would_bind b.prefix x) ≡ false

space-joins : (c : ℕ) → would_join c 32 ≡ false
space-joins c =
    none_true (is_symbol c && is_symbol 32) _ (second_false (is_symbol c) (is_symbol 32) refl)
    (none_true (continues_name c && continues_name 32) _ (second_false (continues_name c) (continues_name 32) refl) (second_false (c == 39) (32 == 39) refl))

space-binds : (o : Option Chars) → would_bind o 32 ≡ false
space-binds None = refl
space-binds (Some f) = second_false (bytes_eq f (codes "-")) (is_ascii_digit 32) refl

apart_by : (b : Behind) (d : ℕ) (ds rest : Chars) (t : Bool) → (would_join b.last d || would_bind b.prefix d) ≡ t → Apart b ((cond t (codes " ") [] ++ d ∷ ds) ++ rest)
apart_by b d ds rest true e = none_true (would_join b.last 32) (would_bind b.prefix 32) (space-joins b.last) (space-binds b.prefix)
apart_by b d ds rest false e = e

apart_piece : (b : Behind) (o : Option Chars) (cs : Chars) (more : (b : Behind) → Chars) → ((b : Behind) → Apart b (more b)) → Apart b (put b cs ++ more (behind b o cs))
apart_piece b o [] more h = h b
apart_piece b o (d ∷ ds) more h = apart_by b d ds (more (behind b o (d ∷ ds))) (would_join b.last d || would_bind b.prefix d) refl

pub apart : (b : Behind) (ps : List Piece) → Apart b (text_behind b ps)
apart b [] = tt
apart b (plain p ∷ ps) = apart_piece b None p (λ b'. text_behind b' ps) (λ b'. apart b' ps)
apart b (before_operand f p ∷ ps) = apart_piece b (Some f) p (λ b'. text_behind b' ps) (λ b'. apart b' ps)

-- The last character of a text all of whose characters pass a test.
pub last-passes : (p : ℕ → Bool) (d : ℕ) (ds : Chars) → list_all p (d ∷ ds) ≡ true → p (last_character d ds) ≡ true
last-passes p d [] h = by (p d) h where
  by : (t : Bool) → (t && true) ≡ true → t ≡ true
  by true e = refl
  by false e = e
last-passes p d (e ∷ es) h = last-passes p e es (by (p d) h) where
  by : (t : Bool) → (t && list_all p (e ∷ es)) ≡ true → list_all p (e ∷ es) ≡ true
  by true e = e
  by false e = cc
