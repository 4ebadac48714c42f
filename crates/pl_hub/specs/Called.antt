-- Which engines have begun, each with its alias.
use Rattle.std.specs.Prelude.{ℕ, List, [], ◌∷◌, ◌++◌, Option, map}
use Rattle.pl_term.specs.Tree.{Chars}
use Rattle.pl_model.specs.History.{History, Kind, start}
use Rattle.pl_history.specs.Fronts.{Life}
use Rattle.pl_hub.specs.Fronts.{idle}

-- an engine with the alias of its thread, where it has one
abbrev pub Called : Type 0
Called = ℕ × Option Chars

-- the engine that an update begins
abbrev pub called_by : Kind → List Called
called_by (start n goal alias) = (n, alias) ∷ []
called_by _ = []

-- ALL ENGINES THAT THE HISTORY BEGINS, in the order in which they begin
abbrev pub called_in : History → List Called
called_in [] = []
called_in (x ∷ xs) = called_by x.kind ++ called_in xs

-- the same engines, which have done nothing yet
abbrev pub lives_of : List Called → List Life
lives_of cs = map (λ (c : Called). idle c.0) cs
