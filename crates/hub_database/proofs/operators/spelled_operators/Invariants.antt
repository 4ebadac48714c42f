use Rattle.std.proofs.Common.{◌≡◌, map, take}
use Rattle.atom_words.specs.Seats.{seen}
use Rattle.atom_table.specs.Naming.{names}
use Rattle.world_api.specs.Texts.{text_of}
use Rattle.hub_database.specs.Operators.{operators_by}
use Rattle.hub_database.specs.Rows.{IsQuiet}
use Rattle.hub_database.proofs.operators.spelled_operators.Given as goal

abbrev pub invariant-loop-i : goal.invariant-loop-i
invariant-loop-i g l = record {
  held : names (seen l.atoms.seat) ≡ names (seen l.initial.atoms.seat);
  quiet : IsQuiet (seen l.initial.atoms.seat) (seen l.atoms.seat);
  spelled : l.rows.items ≡ operators_by l.priority l.kind (map (text_of (names (seen l.initial.atoms.seat))) (take l.i l.operators));
}
