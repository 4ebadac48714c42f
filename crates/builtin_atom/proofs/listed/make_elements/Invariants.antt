use Rattle.std.proofs.Common.{◌≡◌, take}
use Rattle.std.specs.List.{Contains}
use Rattle.term_store.specs.Contents.{Contents}
use Rattle.world_api.specs.Gains.{Gains}
use Rattle.world_api.specs.Texts.{Holds as Keeps}
use Rattle.builtin_atom.specs.Listed.{AreListedAt, element_texts}
use Rattle.builtin_atom.proofs.listed.make_elements.Given as goal

abbrev pub invariant-loop-c : goal.invariant-loop-c
invariant-loop-c g l =
    record {
      holds : Keeps (g.A.Atoms.held l.fn.atoms) (g.A.Atoms.held l.atoms);
      refusals : g.A.Atoms.refusals l.atoms ≡ g.A.Atoms.refusals l.fn.atoms;
      asked : Gains (Contains (element_texts l.form l.text)) (g.A.Atoms.asked l.fn.atoms) (g.A.Atoms.asked l.atoms);
      listed : (s : Contents) → AreListedAt l.form (g.A.Atoms.held l.atoms) (take l.c-index l.text) l.places.items s;
    }
