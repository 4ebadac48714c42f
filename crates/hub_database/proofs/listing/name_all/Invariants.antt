use Rattle.std.proofs.Common.{◌≡◌, map, take}
use Rattle.std.specs.Prelude.{IsSome}
use Rattle.std.specs.List.{All}
use Rattle.pl_model.specs.laws.Shown.{proc_of}
use Rattle.atom_words.specs.Seats.{seen}
use Rattle.atom_table.specs.Naming.{names, requests}
use Rattle.world_api.specs.Texts.{text_of}
use Rattle.world_api.specs.Visits.{proc_named}
use Rattle.world_api.specs.declared.visit.Procedure.{Procedure}
use Rattle.counted_terms.specs.Keeping.{HoldsOn}
use Rattle.hub_database.specs.Listing.{AsksSome}
use Rattle.hub_database.proofs.listing.name_all.Given as goal

abbrev pub invariant-loop-i : goal.invariant-loop-i
invariant-loop-i g l = record {
  holds : HoldsOn (names (seen l.initial.atoms.seat)) (names (seen l.atoms.seat));
  refusals : (seen l.atoms.seat).refusals ≡ (seen l.initial.atoms.seat).refusals;
  named : All (λ (p : Procedure). IsSome (names (seen l.atoms.seat) p.name)) l.found.items;
  lists : map (proc_named (text_of (names (seen l.atoms.seat)))) l.found.items ≡ map proc_of (take l.i l.ps);
  asked : AsksSome (map proc_of l.ps) (requests (seen l.initial.atoms.seat)) (requests (seen l.atoms.seat));
}
