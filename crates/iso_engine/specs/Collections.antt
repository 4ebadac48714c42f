-- Goals that ask for a collection.
use Rattle.std.specs.Prelude.{◌≡◌, ℕ}
use Rattle.pl_term.specs.Tree.{atom}
use Rattle.atom_api.specs.FixedNames.{garbage_collect_atoms_name, garbage_collect_clauses_name}
use Rattle.term_store.specs.declared.words.Place.{Place}
use Rattle.term_store.specs.Contents.{Contents, Holds, term_at}
use Rattle.term_store.specs.Heap.{atom_name}
use Rattle.iso_engine.specs.declared.state.collecting.Collection.{Collection}
use Rattle.iso_engine.specs.declared.state.collecting.Collection.TheVariants.{Atoms, Clauses}

-- The name of the predicate.
abbrev pub collection_name : Collection → ℕ
collection_name Atoms = garbage_collect_atoms_name
collection_name Clauses = garbage_collect_clauses_name

-- The goal at the place is one of the predicate.
pub record IsCollectAt (s : Contents) (goal : Place) (x : Collection) : Type 0 where
  pub holds : Holds s goal
  pub means : term_at s goal ≡ atom (atom_name (collection_name x))
