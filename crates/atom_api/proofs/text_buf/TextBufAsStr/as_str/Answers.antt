use Rattle.std.proofs.Common.{◌≡◌, sym, ◌∙◌, ap, take, refl}
use Rattle.std.specs.Prelude.{Result, Ok, Err, encode_utf8_all, MatchResult}
use Rattle.std.specs.Result.{IsOk}
use Rattle.std.proofs.lemmas.Str.{IsUtf8-from_is_utf8, encodes-chars}
use Rattle.atom_api.proofs.text_buf.TextBufAsStr.as_str.Goals as goal

valid : {T E : Type 0} (r : Result T E) (P : T → Type 0) (Q : E → Type 0) → ((e : E) → Q e → ⊥) → MatchResult r P Q → IsOk r
valid (Ok x) P Q bad h = refl
valid (Err e) P Q bad h = absurd (bad e h)

value : {T E : Type 0} (r : Result T E) (x : T) (P : T → Type 0) (Q : E → Type 0) → r ≡ Ok x → MatchResult r P Q → P x
value r x P Q is h = rw is at h

pub unwrap-requires : goal.unwrap-requires
unwrap-requires c =
    valid c.from_utf8.result _ _ (λ e h. h.0 (IsUtf8-from_is_utf8 (take c.self.inside.len c.self.inside.bytes) c.self.invariant.1)) c.from_utf8.ensures.cases

pub returns : goal.returns
returns c =
    let text = value c.from_utf8.result c.unwrap.result _ _ c.unwrap.ensures c.from_utf8.ensures.cases in
    text.0
    ∙ sym (encodes-chars (take c.self.inside.len c.self.inside.bytes) text.1)
    ∙ ap encode_utf8_all c.self.view_is
