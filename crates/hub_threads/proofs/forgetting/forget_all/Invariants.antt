use Rattle.std.proofs.Common.{◌≡◌, take}
use Rattle.atom_words.specs.Seats.{seen}
use Rattle.atom_table.specs.Naming.{names, requests}
use Rattle.counted_terms.specs.Keeping.{KeeperAt, keeper_view}
use Rattle.hub_threads.proofs.Forgotten.{Less}
use Rattle.hub_threads.proofs.forgetting.forget_all.Given as goal

abbrev pub invariant-loop-term : goal.invariant-loop-term
invariant-loop-term g l = record {
  keeper : KeeperAt g.K.NamesTable.atoms g.K.NamesTable.size l.keeper;
  less : Less (take l.term-index l.terms) (keeper_view l.initial.keeper) (keeper_view l.keeper);
  held : names (seen l.atoms.seat) ≡ names (seen l.initial.atoms.seat);
  refusals : (seen l.atoms.seat).refusals ≡ (seen l.initial.atoms.seat).refusals;
  requests : requests (seen l.atoms.seat) ≡ requests (seen l.initial.atoms.seat);
}
