use Rattle.std.proofs.Common.{◌≡◌, take}
use Rattle.std.specs.List.{Contains}
use Rattle.term_store.specs.Contents.{Contents}
use Rattle.world_api.specs.Asked.{texts_in_all}
use Rattle.world_api.specs.Gains.{Gains}
use Rattle.world_api.specs.Texts.{Holds as Keeps}
use Rattle.atom_parts.specs.Columns.{values_of}
use Rattle.atom_parts.specs.Tables.{AreAt, AreGiven}
use Rattle.atom_parts.proofs.tables.column_places.Given as goal

abbrev pub invariant-loop-i : goal.invariant-loop-i
invariant-loop-i g l =
    record {
      holds : Keeps (g.A.Atoms.held l.fn.atoms) (g.A.Atoms.held l.atoms);
      refusals : g.A.Atoms.refusals l.atoms ≡ g.A.Atoms.refusals l.fn.atoms;
      asked : Gains (Contains (texts_in_all (values_of l.text l.columns))) (g.A.Atoms.asked l.fn.atoms) (g.A.Atoms.asked l.atoms);
      placed : (s : Contents) → AreGiven (g.A.Atoms.held l.fn.atoms) s l.text l.columns l.arguments
          → AreAt (g.A.Atoms.held l.atoms) s l.text (take l.i l.columns) l.places.items;
    }
