use Rattle.std.proofs.Common.{◌≡◌, None, map, take}
use Rattle.atom_words.specs.Seats.{seen}
use Rattle.atom_table.specs.Naming.{names, requests}
use Rattle.world_api.specs.Texts.{text_of}
use Rattle.hub_threads.specs.Aliases.{first_taken}
use Rattle.hub_threads.proofs.beginning.check_aliases.Given as goal

abbrev pub invariant-loop-a : goal.invariant-loop-a
invariant-loop-a g l = record {
  free : first_taken l.queues.state (map (text_of (names (seen l.initial.atoms.seat))) (take l.a-index l.aliases)) ≡ None;
  held : names (seen l.atoms.seat) ≡ names (seen l.initial.atoms.seat);
  refusals : (seen l.atoms.seat).refusals ≡ (seen l.initial.atoms.seat).refusals;
  asked : requests (seen l.atoms.seat) ≡ requests (seen l.initial.atoms.seat);
}
