-- Which engines a run has.
use Rattle.std.specs.Prelude.{◌≡◌, ◌∷◌, ◌++◌, ℕ, List, Option, map}
use Rattle.std.specs.List.{Contains}
use Rattle.pl_term.specs.Tree.{Chars}
use Rattle.pl_model.specs.History.{Entry, History}
use Rattle.run_model.specs.Lawful.{Beginning, beginnings, engine_numbers}
use Rattle.pl_history.specs.Fronts.{FrontState, own_engine}
use Rattle.pl_hub.specs.Fronts.{begun_in, idle}

-- THE ENGINES THAT THE HISTORY BEGINS are those of the list, which were given fronts, and those that the hub's front carries still
abbrev pub AreBegun : List ℕ → FrontState → Type 0
AreBegun started hub = begun_in hub.seen ≡ map idle started ++ hub.lives

-- THE NUMBER AND THE ALIAS of each engine that the history begins, in its order
abbrev pub named_in : History → List (ℕ × Option Chars)
named_in h = map (λ (b : Beginning). (b.engine, b.alias)) (beginnings h)

-- THE ENGINE HAS BEGUN: it is engine 1, or an update of the history began it
abbrev pub IsBegun : History → ℕ → Type 0
IsBegun h e = Contains (engine_numbers (beginnings h)) e

-- NOBODY ELSE makes an entry
abbrev pub AreOnly : History → Type 0
AreOnly h = (x : Entry) → Contains h x → IsBegun h x.engine

-- the engine is carried by one of the fronts
abbrev pub carried_by : List FrontState → List ℕ
carried_by fs = map (λ (f : FrontState). own_engine f.lives) fs

-- THE FRONTS ARE THOSE OF ALL ENGINES: engine 1 and each that the history begins has one
abbrev pub AreWhole : History → List FrontState → Type 0
AreWhole h fs = (e : ℕ) → IsBegun h e → Contains (carried_by fs) e
