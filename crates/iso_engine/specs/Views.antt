-- By what a search over a world is read, and what stays when others go on.
use Rattle.std.specs.Prelude.{◌≡◌, ◌++◌}
use Rattle.pl_model.specs.History.{History}
use Rattle.atom_api.specs.Names.{Names}
use Rattle.world_api.specs.Texts.{Holds}
use Rattle.world_api.specs.Told.{Told, clause_list, behind}
use Rattle.iso_search.specs.Reading.{View, IsView}

-- Numbers of atoms are read by what the engine's atoms hold, and what clauses there were and are left by what the engine was told.
abbrev pub view_of : Names → Told → View
view_of m t =
    record {
      names = m;
      all = λ goal g. clause_list t.goals t.history g goal;
      left = λ goal g place. behind place (clause_list t.goals t.history g goal);
    }

-- What is held and what the engine was told have only grown.
pub record IsLater (m : Names) (t : Told) (n : Names) (u : Told) : Type 0 where
  pub holds : Holds m n
  pub later : History
  pub grown : u.history ≡ t.history ++ later
  pub engine : u.engine ≡ t.engine
  pub goals : u.goals ≡ t.goals

-- A view by which the engine may be read, now or later.
pub record IsViewFrom (m : Names) (t : Told) (v : View) : Type 0 where
  pub names : Names
  pub told : Told
  pub later : IsLater m t names told
  pub is : v ≡ view_of names told
  pub view : IsView v
