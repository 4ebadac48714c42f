use Rattle.std.proofs.Common.{◌∙◌, drop, ap}
use Rattle.pl_term.specs.Nodes.{tree}
use Rattle.pl_consult.proofs.ItemTerms.{only}
use Rattle.pl_consult.proofs.items.argument.Goals as goal

pub term_at-requires : goal.term_at-requires
term_at-requires c = rw c.nodes.ensures (only c.args.term.now c.requires).starts

pub returns : goal.returns
returns c =
    (only c.args.term.now c.requires).whole c.in_ok-argument.argument (c.in_ok-argument.ensures.term ∙ ap (λ ns. tree (drop 1 ns)) c.nodes.ensures)
