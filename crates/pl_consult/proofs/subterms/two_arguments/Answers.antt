use Rattle.std.proofs.Common.{◌∙◌, drop, ap}
use Rattle.pl_term.specs.Nodes.{tree}
use Rattle.pl_consult.proofs.ReadTerms.{Second, second}
use Rattle.pl_consult.proofs.subterms.two_arguments.Goals as goal
use Rattle.pl_consult.proofs.subterms.two_arguments.Goals.{In_ok-left}

second_here : (c : In_ok-left) → Second c.args.t.now c.in_ok-left.left c.in_ok-left.middle
second_here c =
    second c.args.t.now c.in_ok-left.left c.in_ok-left.middle c.requires
    (c.in_ok-left.ensures.term ∙ ap (λ ns. tree (drop 1 ns)) c.nodes-all.ensures) c.in_ok-left.ensures.end

pub term_at-requires-2 : goal.term_at-requires-2
term_at-requires-2 c =
    rw c.nodes-all.ensures (second_here (goal.at.term_at-requires-2 c).In_ok-left).starts

pub returns : goal.returns
returns c =
    (second_here (goal.at.returns c).In_ok-left).whole c.in_ok-right.right
    (c.in_ok-right.ensures.term ∙ ap (λ ns. tree (drop c.in_ok-left.middle ns)) c.nodes-all.ensures)
