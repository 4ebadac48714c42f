-- Text that is put at the end of some bytes, in UTF-8.
use Rattle.std.specs.Prelude.{◌≡◌, ◌++◌, ℕ, List}
use Rattle.std.specs.Str.{encode_utf8_all}
use Rattle.pl_term.specs.Tree.{Chars}

-- The bytes after are those before, with this text after them.
pub record Adds (before after : List ℕ) (text : Chars) : Type 0 where
  pub added : after ≡ before ++ encode_utf8_all text
