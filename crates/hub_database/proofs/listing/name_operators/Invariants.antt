use Rattle.std.proofs.Common.{◌≡◌, map, take}
use Rattle.std.specs.Prelude.{IsSome}
use Rattle.std.specs.List.{All}
use Rattle.op_table.specs.Entries.{entries_of, entry_of}
use Rattle.atom_words.specs.Seats.{seen}
use Rattle.atom_table.specs.Naming.{names, requests}
use Rattle.world_api.specs.Replies.{operator_in}
use Rattle.world_api.specs.Texts.{text_of}
use Rattle.world_api.specs.declared.reply.Operator.{Operator}
use Rattle.counted_terms.specs.Keeping.{HoldsOn}
use Rattle.hub_database.specs.Listing.{AsksAmong, operator_names}
use Rattle.hub_database.proofs.listing.name_operators.Given as goal

abbrev pub invariant-loop-i : goal.invariant-loop-i
invariant-loop-i g l = record {
  holds : HoldsOn (names (seen l.initial.atoms.seat)) (names (seen l.atoms.seat));
  refusals : (seen l.atoms.seat).refusals ≡ (seen l.initial.atoms.seat).refusals;
  named : All (λ (o : Operator). IsSome (names (seen l.atoms.seat) o.name)) l.found.items;
  lists : map (operator_in (text_of (names (seen l.atoms.seat)))) l.found.items ≡ map entry_of (take l.i l.all);
  asked : AsksAmong (operator_names (entries_of l.all)) (requests (seen l.initial.atoms.seat)) (requests (seen l.atoms.seat));
}
