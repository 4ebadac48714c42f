use Rattle.std.proofs.Common.{ap, ◌∙◌}
use Rattle.std.specs.List.{list_any}
use Rattle.gen_core.specs.Visible.{is_visible}
use Rattle.gen_core.proofs.Listed.{visible_any}
use Rattle.gen_core.proofs.dated.Dated.visible.Goals as goal

pub returns : goal.returns
returns g c = c.any_visible.ensures ∙ visible_any c.args.g c.self.inside.index.clauses.entries ∙ ap (list_any (is_visible c.args.g)) c.self.view_is
