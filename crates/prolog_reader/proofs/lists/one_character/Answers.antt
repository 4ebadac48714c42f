use Rattle.std.proofs.Common.{◌≡◌, ℕ, List, IfOk, ◌∙◌, ap, subst, string_bytes}
use Rattle.std.specs.Str.{chars}
use Rattle.prolog_reader.proofs.ListNodes.{one-character}
use Rattle.prolog_reader.proofs.lists.one_character.Goals as goal

pub returns : goal.returns
returns c =
    subst (λ (cs : List ℕ). IfOk c.from_str.result (λ t. t ≡ cs))
    (ap chars c.as_str.ensures.value
    ∙ one-character (string_bytes c.new-s.result) (string_bytes c.push.new.self) c.args.c c.new-s.ensures.bytes c.in_ok-push.ensures.bytes c.ranges.c.0)
    c.from_str.ensures
