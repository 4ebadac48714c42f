-- Names that are spelled in ASCII.
use Rattle.std.proofs.Common.{◌≡◌, ℕ, Bool, true, List, [], ◌∷◌, ◌++◌, ◌↔◌, refl, sym, ◌∙◌, ap}
use Rattle.std.specs.Prelude.{bytes_eq, chars}
use Rattle.std.specs.Char.{is_ascii}
use Rattle.std.specs.List.{list_all}
use Rattle.std.specs.Str.{encode_utf8_all, IsUtf8}
use Rattle.std.proofs.lemmas.Bool.{and_parts, ltb-true}
use Rattle.std.proofs.lemmas.Bool.Decides.{same_from_decides}
use Rattle.std.proofs.lemmas.Slice.Eq.{bytes_eq-Decides}
use Rattle.std.proofs.lemmas.Str.{encode_ascii, chars_from_encodes}
use Rattle.std.specs.Prelude.{IsTrue}

-- A text in ASCII is its own bytes.
encodes_ascii : (bs : List ℕ) → list_all is_ascii bs ≡ true → encode_utf8_all bs ≡ bs
encodes_ascii [] t = refl
encodes_ascii (b ∷ bs) t =
    let p = and_parts (is_ascii b) (list_all is_ascii bs) t in
    ap (λ cs. cs ++ encode_utf8_all bs) (encode_ascii b (ltb-true b 128 p.0))
    ∙ ap (λ cs. b ∷ cs) (encodes_ascii bs p.1)

-- A text is what an ASCII literal spells exactly where it has its bytes as characters.
pub spelled : (r : Bool) (f bs : List ℕ) → IsUtf8 bs → list_all is_ascii bs ≡ true → IsTrue r ↔ (f ≡ chars bs)
    → r ≡ bytes_eq f bs
spelled r f bs u ascii iff =
    let same : bs ≡ chars bs = chars_from_encodes bs bs u (encodes_ascii bs ascii) in
    same_from_decides r (bytes_eq f bs) (λ t. iff.0 t ∙ sym same, λ e. iff.1 (e ∙ same)) (bytes_eq-Decides f bs)
