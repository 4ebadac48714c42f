-- Failures.
use Rattle.std.specs.Prelude.{◌≡◌}
use Rattle.pl_model.specs.Resolution.{failing, goes}
use Rattle.pl_model.specs.Control.{step}
use Rattle.iso_search.specs.declared.failure.Back.{Back}
use Rattle.iso_search.specs.declared.search.Search.{Search}
use Rattle.iso_search.specs.Failures.{back_result}
use Rattle.iso_search.specs.Outcomes.{Setting, limits_in, state_in}
use Rattle.iso_engine.specs.declared.doing.Doing.{Doing}
use Rattle.iso_engine.specs.Standing.{state_at}

-- It stands for what is left to do.
abbrev pub StandsForBack : Search → Back → Doing → Type 0
StandsForBack e b d = (t : Setting) → back_result t e b ≡ state_at t.view e d t.output

-- A step leads from a failure to what is left to do.
abbrev pub FailsTo : Search → Search → Back → Type 0
FailsTo e f b = (t : Setting) → t.doing ≡ failing → step (limits_in t e) (state_in t e) ≡ goes (back_result t f b)
