use Rattle.std.proofs.Common.{◌≡◌, ℕ, ◌+◌, take}
use Rattle.std.specs.List.{sum_by}
use Rattle.pl_term.specs.Tree.{Tree}
use Rattle.atom_words.specs.Seats.{seen}
use Rattle.atom_table.specs.Naming.{names}
use Rattle.counted_terms.specs.CountedTerms.{IsCounted, naming, said}
use Rattle.counted_terms.specs.Keeping.{KeeperAt, keeper_view, kept, tally}
use Rattle.hub_database.specs.Rows.{IsQuiet}
use Rattle.hub_database.proofs.reclaiming.forget_all.Given as goal

abbrev pub invariant-loop-clause : goal.invariant-loop-clause
invariant-loop-clause g l = record {
  keeper : KeeperAt g.K.NamesTable.atoms g.K.NamesTable.size l.keeper;
  others : (t : Tree) → IsCounted t (keeper_view l.keeper) → said (kept (keeper_view l.keeper)) t ≡ said (kept (keeper_view l.initial.keeper)) t;
  counts : (a : ℕ) → sum_by (naming a) (take l.clause-index l.clauses) + tally (keeper_view l.keeper) a ≡ tally (keeper_view l.initial.keeper) a;
  held : names (seen l.atoms.seat) ≡ names (seen l.initial.atoms.seat);
  quiet : IsQuiet (seen l.initial.atoms.seat) (seen l.atoms.seat);
}
