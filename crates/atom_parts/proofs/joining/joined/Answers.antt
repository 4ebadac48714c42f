use Rattle.std.proofs.Common.{ap, ◌++◌, ◌∙◌}
use Rattle.std.specs.Str.{chars}
use Rattle.std.proofs.lemmas.Str.{chars-append}
use Rattle.builtin_atom.proofs.Rows.{with_ok}
use Rattle.atom_parts.proofs.joining.joined.Goals as goal

pub returns : goal.returns
returns c =
    with_ok _ _ c.from_str-2.result
    (λ t e. e
    ∙ ap chars (c.as_str.ensures.value ∙ c.in_ok-push_str.ensures.bytes ∙ ap (λ bs. bs ++ c.args.second.now) c.in_ok-both.ensures.ok)
    ∙ chars-append c.args.first.now c.args.second.now c.utf8.first)
    c.from_str-2.ensures
