use Rattle.std.proofs.Common.{◌≡◌, sym, ap, ◌∙◌}
use Rattle.std.specs.Prelude.{encode_utf8_all}
use Rattle.std.specs.HashMap.{get_by_text}
use Rattle.atom_api.proofs.slots.Slots.find.Goals as goal

pub returns : goal.returns
returns c =
    let found : c.copied.result ≡ get_by_text c.args.self.now.numbers (encode_utf8_all c.args.text.now) =
    c.copied.ensures ∙ c.get.ensures.value ∙ ap (λ bytes. get_by_text c.args.self.now.numbers bytes) c.as_str.ensures in
    λ k. (λ h. (c.args.self.now.indexed k c.args.text.now).0 (sym found ∙ h), λ h. found ∙ (c.args.self.now.indexed k c.args.text.now).1 h)
