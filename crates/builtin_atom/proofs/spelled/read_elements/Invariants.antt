use Rattle.std.proofs.Common.{◌≡◌, ◌++◌, map, drop}
use Rattle.pl_model.specs.AtomBuiltins.{all_errors}
use Rattle.world_builtins.specs.Spelling.{reads}
use Rattle.builtin_atom.specs.Forms.{check_by, from_by}
use Rattle.builtin_atom.proofs.spelled.read_elements.Given as goal

abbrev pub invariant-loop-place : goal.invariant-loop-place
invariant-loop-place g l =
    record {
      same : g.A.Atoms.held l.atoms ≡ g.A.Atoms.held l.fn.atoms;
      refusals : g.A.Atoms.refusals l.atoms ≡ g.A.Atoms.refusals l.fn.atoms;
      asked : g.A.Atoms.asked l.atoms ≡ g.A.Atoms.asked l.fn.atoms;
      errors : (let read = reads (g.A.Atoms.held l.fn.atoms) l.store in
          all_errors (check_by l.form) (map read l.elements) ≡ all_errors (check_by l.form) (map read (drop l.place-index l.elements)));
      read : (let read = reads (g.A.Atoms.held l.fn.atoms) l.store in
          map (from_by l.form) (map read l.elements) ≡ l.text.items ++ map (from_by l.form) (map read (drop l.place-index l.elements)));
    }
