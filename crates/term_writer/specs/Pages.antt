-- What is written on a page: a text after which further pieces are put.
use Rattle.std.specs.Prelude.{◌≡◌, ℕ, List, [], ◌∷◌, ◌++◌, Option, Some, None}
use Rattle.std.specs.Str.{encode_utf8_all}
use Rattle.pl_term.specs.Tree.{Chars}
use Rattle.pl_model.specs.TermWriting.{Piece, plain, before_operand, Behind, text_behind}
use Rattle.term_writer.specs.declared.page.Page.{Page}

-- What stands before the next piece of a page.
abbrev pub behind_page : Page → Behind
behind_page p = record { last = p.last; prefix = p.prefix }

-- A piece, that of a prefix operator where there is one.
abbrev pub piece_of : Option Chars → Chars → Piece
piece_of None p = plain p
piece_of (Some f) p = before_operand f p

-- The bytes of a page once further pieces are put.
unfoldable pub shown : List ℕ → Behind → List Piece → List ℕ
shown bytes b ps = bytes ++ encode_utf8_all (text_behind b ps)

-- The first list is where the second begins.
abbrev pub Grows : List ℕ → List ℕ → Type 0
Grows before after = (more : List ℕ) × (after ≡ before ++ more)

-- These pieces were put on the page: it shows what it would have shown with them in front.
abbrev pub Puts : Page → Page → List Piece → Type 0
Puts old new qs = (ps : List Piece) → shown new.bytes.items (behind_page new) ps ≡ shown old.bytes.items (behind_page old) (qs ++ ps)
