-- How procedures may be used, as the definitions have it.
use Rattle.std.specs.Prelude.{ℕ, Bool, ◌&&◌, nat_lt, nat_le, Option, Some, List, [], ◌∷◌, if◌then◌else◌}
use Rattle.pl_model.specs.Database as database
use Rattle.pl_model.specs.declared.shows.Origin.{Origin}
use Rattle.pl_model.specs.declared.shows.Origin.TheVariants.{Consult, Assert}
use Rattle.clause_db.specs.declared.access.Access.{Access}
use Rattle.clause_db.specs.declared.access.Access.TheVariants.{Static, Dynamic}
use Rattle.clause_db.specs.declared.access.Life.{Life}

abbrev pub access_of : Access → database.Access
access_of Static = database.static
access_of Dynamic = database.dynamic

abbrev pub access_by : Origin → Access
access_by Consult = Static
access_by Assert = Dynamic

-- A procedure that the update at a place made and that a later one abolished is there from the generation after the first
-- of these places on, up to that of the second.
abbrev pub is_alive : ℕ → Life → Bool
is_alive g l = nat_lt l.from g && nat_le g l.until

-- How it may be used at the generation by the last of these that is there then.
abbrev pub life_at : Option Access → ℕ → List Life → Option Access
life_at a g [] = a
life_at a g (l ∷ ls) = life_at (if is_alive g l then Some l.access else a) g ls
