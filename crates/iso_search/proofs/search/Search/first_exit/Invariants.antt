use Rattle.std.proofs.Common.{◌≡◌}
use Rattle.pl_term.specs.Tree.{Tree}
use Rattle.pl_model.specs.Control.{thrown}
use Rattle.iso_search.specs.Outcomes.{Setting, limits_in, state_in}
use Rattle.iso_search.specs.Searching.{node_of}
use Rattle.iso_search.proofs.search.Search.first_exit.Given as goal

abbrev pub invariant-loop-frame : goal.invariant-loop-frame
invariant-loop-frame l =
    (t : Setting) (ball : Tree)
    → thrown (limits_in t l.self) (state_in t l.self) ball (node_of t.view l.self l.at).goals
    ≡ thrown (limits_in t l.self) (state_in t l.self) ball (node_of t.view l.self l.list).goals

abbrev pub decreases-loop-frame : goal.decreases-loop-frame
decreases-loop-frame l = l.at
