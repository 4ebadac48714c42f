-- Where a ball is caught, as states of the search.
use Rattle.std.specs.Prelude.{suc, List, Option, Some, None}
use Rattle.pl_term.specs.Tree.{Tree}
use Rattle.pl_model.specs.Resolution.{Pending, State, throwing, ended, threw, up_to}
use Rattle.pl_model.specs.Control.{at_catch, caught, fitting}
use Rattle.iso_search.specs.declared.search.Search.{Search}
use Rattle.iso_search.specs.declared.throwing.CatchExit.{CatchExit}
use Rattle.iso_search.specs.declared.throwing.CatchPoint.{CatchPoint}
use Rattle.iso_search.specs.Outcomes.{Setting, limits_in, state_in}
use Rattle.iso_search.specs.Reading.{reads}
use Rattle.iso_search.specs.Searching.{choices_of, node_of}

-- Nothing catches the ball, or it comes to the choice point of a catch.
abbrev pub thrown_result : Setting → Search → Tree → Option CatchExit → State
thrown_result t e ball None = record (state_in t e) { doing = ended (threw ball) }
thrown_result t e ball (Some x) =
    caught (limits_in t e) (state_in t e) ball (node_of t.view e x.rest).goals (up_to (suc x.height) (choices_of t.view e))

-- The ball is to be looked for after the exit, or comes to the catch that was gone back to.
abbrev pub caught_result : Setting → Search → Tree → List Pending → Option CatchPoint → State
caught_result t e ball outer None = record (state_in t e) { doing = throwing ball outer }
caught_result t e ball outer (Some k) =
    let s = state_in t e
    in at_catch s (node_of t.view e k.next) (reads t.view e.store k.catcher) (reads t.view e.store k.recovery)
    (fitting (limits_in t e) s (node_of t.view e k.next) ball)
