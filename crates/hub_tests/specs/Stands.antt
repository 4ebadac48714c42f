-- A database by itself, with the keeper that counts its atoms, in a test.
use Rattle.std.specs.Prelude.{ℕ, Option, IsSome}
use Rattle.pl_term.specs.Tree.{Tree}
use Rattle.atomic_table.specs.Seated.{TableId}
use Rattle.atom_api.specs.Names.{Names}
use Rattle.atom_words.specs.declared.size.Size.{Size}
use Rattle.atom_table.specs.declared.seats.Keeper.{Keeper}
use Rattle.clause_db.specs.Parts.{Held}
use Rattle.counted_terms.specs.Keeping.{KeeperAt, keeper_view}
use Rattle.counted_terms.specs.Sharing.{Counts}
use Rattle.hub_database.specs.Database.{IsUpTo, clause_counts}

-- THE KEEPER, which is in its place, counts the atoms of the stored clauses, no update lies at the generation or after it, and the atom is held
pub record IsStand (atoms : TableId) (size : Size) (db : Held Tree) (keeper : Option Keeper) (g own : ℕ) (m : Names) : Type 0 where
  pub keeper_is : KeeperAt atoms size keeper
  pub counts : Counts (clause_counts db) (keeper_view keeper) g
  pub upto : IsUpTo g db
  pub holds : IsSome (m own)
