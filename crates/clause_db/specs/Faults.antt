-- When the database refuses a request, and why.
use Rattle.std.specs.Prelude.{ℕ, ◌+◌, ◌^◌, Option, Some, None, Bool, true, false, List, nat_lt, if◌then◌else◌}
use Rattle.std.specs.List.{list_any}
use Rattle.pl_model.specs.History as entries
use Rattle.pl_model.specs.Database.{Database, is_system, is_static, is_known, used_cells, has_room}
use Rattle.pl_model.specs.declared.shows.Origin.{Origin}
use Rattle.pl_model.specs.declared.shows.Origin.TheVariants.{Consult, Assert}
use Rattle.clause_db.specs.declared.access.Access.{Access}
use Rattle.clause_db.specs.declared.access.Access.TheVariants.{Static, Dynamic}
use Rattle.clause_db.specs.declared.access.By.{By}
use Rattle.clause_db.specs.declared.access.By.TheVariants.{Goal, Clause}
use Rattle.clause_db.specs.declared.fault.DbFault.{DbFault}
use Rattle.clause_db.specs.declared.fault.DbFault.TheVariants.{Static as StaticFault, Private, Unknown, CellsFull}
use Rattle.clause_db.specs.Parts.{Held, held_access}

-- A goal is refused where there is no such procedure, and clause/2 where the procedure is static (ISO 7.7.7, 8.8.1).
abbrev pub call_fault : {C : Type 0} → Database C → entries.Proc → By → Option DbFault
call_fault d p Goal = if is_known d p then None else Some Unknown
call_fault d p Clause = if is_static d p then Some Private else None

abbrev pub access_fault : Option Access → By → Option DbFault
access_fault None Goal = Some Unknown
access_fault (Some a) Goal = None
access_fault None Clause = None
access_fault (Some Static) Clause = Some Private
access_fault (Some Dynamic) Clause = None

abbrev pub held_call_fault : {C : Type 0} → ℕ → Held C → entries.Proc → By → Option DbFault
held_call_fault g h p by = access_fault (held_access g h p) by

-- A goal adds no clause to a static procedure, and a text none to one of the system (ISO 7.5.2, 8.9.1); and there has to be
-- room for the clause.
abbrev pub is_closed : {C : Type 0} → Database C → entries.Proc → Origin → Bool
is_closed d p Consult = is_system p
is_closed d p Assert = is_static d p

abbrev pub addition_fault : {C : Type 0} → (C → ℕ) → Database C → entries.Proc → Origin → C → Option DbFault
addition_fault need d p o c =
    if is_closed d p o then Some StaticFault
    else if has_room need c d then None
    else Some (CellsFull (used_cells need d) (need c))

abbrev pub is_static_access : Option Access → Bool
is_static_access None = false
is_static_access (Some Static) = true
is_static_access (Some Dynamic) = false

abbrev pub is_held_closed : {C : Type 0} → ℕ → Held C → entries.Proc → Origin → Bool
is_held_closed g h p Consult = is_system p
is_held_closed g h p Assert = is_static_access (held_access g h p)

abbrev pub held_addition_fault : {C : Type 0} → ℕ → Held C → entries.Proc → Origin → ℕ → Option DbFault
held_addition_fault g h p o need =
    if is_held_closed g h p o then Some StaticFault
    else if nat_lt (h.used + need) (2 ^ 40) then None
    else Some (CellsFull h.used need)

-- A static procedure cannot be changed (ISO 8.9.4, 7.4.2.1).
abbrev pub change_fault : {C : Type 0} → Database C → List entries.Proc → Option DbFault
change_fault d ps = if list_any (is_static d) ps then Some StaticFault else None
