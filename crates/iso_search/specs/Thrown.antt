-- What comes of a ball that was thrown, as states of the search.
use Rattle.pl_model.specs.Resolution.{State, running, throwing, ended, threw}
use Rattle.iso_search.specs.declared.search.Search.{Search}
use Rattle.iso_search.specs.declared.thrown.Thrown.{Thrown}
use Rattle.iso_search.specs.declared.thrown.Thrown.TheVariants.{Run, Throw, Uncaught}
use Rattle.iso_search.specs.Outcomes.{Setting, state_in}
use Rattle.iso_search.specs.Searching.{node_of}
use Rattle.iso_search.specs.Spelling.{spelled, text_of}

abbrev pub thrown_state : Setting → Search → Thrown → State
thrown_state t e (Run list) = record (state_in t e) { doing = running (node_of t.view e list) }
thrown_state t e (Throw b outer) = record (state_in t e) { doing = throwing (spelled (text_of t.view.names) b) (node_of t.view e outer).goals }
thrown_state t e (Uncaught b) = record (state_in t e) { doing = ended (threw (spelled (text_of t.view.names) b)) }
