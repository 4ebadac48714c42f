use Rattle.std.proofs.Common.{refl, sym, ap, ◌∙◌}
use Rattle.std.specs.Prelude.{length}
use Rattle.toplevel.proofs.OutcomeLaws.{ready_so}
use Rattle.toplevel.proofs.ready.make_ready.Goals as goal

pub returns : goal.returns
returns c p board h words opens begun only once are =
    let file = c.args.command.now.file in
    let k = c.in_ok-kept.ensures p board h (c.len-goals.ensures ∙ c.args.command.now.goals.ok.0 ∙ ap length (sym words)) opens begun only once are in
    let r = c.in_ok-report.ensures file p (sym words) k in
    ready_so file p c.in_ok-kept.kept k c.in_ok-report.report _ r refl refl refl refl
