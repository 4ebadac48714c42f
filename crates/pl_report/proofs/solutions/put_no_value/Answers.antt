use Rattle.std.proofs.Common.{ap, ◌∙◌}
use Rattle.std.proofs.lemmas.Str.{chars-nil}
use Rattle.pl_term.specs.Tree.{atom}
use Rattle.pl_model.specs.TermWriting.{writeq}
use Rattle.pl_report.proofs.AddsLemmas.{adds_same}
use Rattle.pl_report.proofs.solutions.put_no_value.Goals as goal

pub returns : goal.returns
returns c =
    adds_same
    (ap (λ t. writeq c.args.ops.now 699 t) (c.in_ok-none.ensures ∙ ap atom (c.in_ok-text.ensures ∙ chars-nil)))
    c.in_ok-put_value.ensures
