-- Texts.
use Rattle.std.specs.Prelude.{ℕ, length, encode_utf8_all}
use Rattle.pl_term.specs.Tree.{Chars}

-- How many bytes a text takes in UTF-8.
abbrev pub size : Chars → ℕ
size cs = length (encode_utf8_all cs)
