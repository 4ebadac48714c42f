use Rattle.std.proofs.Common.{◌++◌, sym, ap, ◌∙◌}
use Rattle.std.specs.Str.{chars}
use Rattle.std.proofs.lemmas.Str.{encodes-chars}
use Rattle.world_builtins.proofs.Single.{put_one}
use Rattle.world_builtins.proofs.characters.put_text.Goals as goal

pub returns : goal.returns
returns c =
    put_one (chars c.args.text.now) c.args.out.now.items c.extend_from_slice.new.self.items
    (sym c.character_count.ensures ∙ c.if-character_count-ne1.false)
    (c.in_ok-extend_from_slice.ensures.items ∙ ap (λ l. c.args.out.now.items ++ l) (c.as_bytes.ensures.value ∙ sym (encodes-chars c.args.text.now c.utf8.text)))
