use Rattle.std.proofs.Common.{◌≡◌, sym, ap, subst, ◌∙◌}
use Rattle.pl_model.specs.Control.{construct}
use Rattle.iso_search.specs.Constructs.{construction}
use Rattle.iso_search.specs.Reading.{IsView, View, reads}
use Rattle.iso_engine.proofs.run.plain_row.Goals as goal

pub returns : goal.returns
returns c =
    let s = c.args.store.now in
    let at = c.in-Some.ensures.0 in (
      at,
      record {
        goal_is = c.in-Some.ensures.1;
        other_is = λ v view. ap (λ w. construct (reads v s w)) at
            ∙ sym (subst (λ k. construction v s k ≡ construct (reads v s c.args.goal)) c.in-Other.is (c.requires.kind.1 v view));
      },
    )
