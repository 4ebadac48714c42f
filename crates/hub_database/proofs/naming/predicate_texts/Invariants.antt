use Rattle.std.proofs.Common.{◌≡◌, map, take}
use Rattle.pl_model.specs.laws.Shown.{proc_of}
use Rattle.atom_words.specs.Seats.{seen}
use Rattle.atom_table.specs.Naming.{names}
use Rattle.world_api.specs.Texts.{text_of}
use Rattle.world_api.specs.Visits.{proc_named}
use Rattle.hub_database.specs.Rows.{IsQuiet}
use Rattle.hub_database.proofs.naming.predicate_texts.Given as goal

abbrev pub invariant-loop-i : goal.invariant-loop-i
invariant-loop-i g l = record {
  held : names (seen l.atoms.seat) ≡ names (seen l.initial.atoms.seat);
  quiet : IsQuiet (seen l.initial.atoms.seat) (seen l.atoms.seat);
  spelled : map proc_of l.texts.items ≡ map (proc_named (text_of (names (seen l.initial.atoms.seat)))) (take l.i l.ps);
}
