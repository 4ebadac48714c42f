use Rattle.std.proofs.Common.{◌≡◌, ap, ◌∙◌, sym}
use Rattle.pl_term.specs.Variables.{has, is_in}
use Rattle.pl_term.specs.NodeLists.{variables_of}
use Rattle.pl_term.proofs.NodeLemmas.{variables_of-nodes}
use Rattle.pl_term.proofs.flat.Flat.has.Goals as goal

pub returns : goal.returns
returns c =
    let same : c.occurs.result ≡ has c.args.x c.args.self.now =
    c.occurs.ensures
    ∙ ap (λ ns. is_in c.args.x (variables_of ns)) c.nodes.ensures
    ∙ ap (is_in c.args.x) (variables_of-nodes c.args.self.now) in
    (λ e. sym same ∙ e, λ e. same ∙ e)
