-- Texts are the same exactly where their bytes in UTF-8 are.
use Rattle.std.proofs.Common.{◌≡◌, ℕ, List, IsTrue, ◌↔◌, sym, ◌∙◌, ap}
use Rattle.std.specs.Str.{chars, IsUtf8, encode_utf8_all, bytes_eq}
use Rattle.std.proofs.lemmas.Str.{encodes-chars}
use Rattle.std.proofs.lemmas.Slice.Eq.{bytes_eq-Decides}

-- Two texts in UTF-8 with the same code points are the same.
pub bytes_from_chars : (bs ds : List ℕ) → IsUtf8 bs → IsUtf8 ds → chars bs ≡ chars ds → bs ≡ ds
bytes_from_chars bs ds b d e =
    sym (encodes-chars bs b) ∙ ap encode_utf8_all e ∙ encodes-chars ds d

pub same_chars : (bs ds : List ℕ)
    → IsUtf8 bs
    → IsUtf8 ds
    → IsTrue (bytes_eq bs ds) ↔ (chars bs ≡ chars ds)
same_chars bs ds b d = (
  λ t. ap chars ((bytes_eq-Decides bs ds).0 t),
  λ e. (bytes_eq-Decides bs ds).1 (bytes_from_chars bs ds b d e),
)
