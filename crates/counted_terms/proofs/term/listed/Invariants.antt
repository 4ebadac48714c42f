use Rattle.std.proofs.Common.{◌≡◌, ℕ, take}
use Rattle.std.specs.Ordering.{nat_cmp}
use Rattle.std.specs.BTreeSet as set
use Rattle.counted_terms.specs.CountedTerms.{IsListed, has_counted, slots_of}
use Rattle.counted_terms.proofs.term.listed.Given as goal

abbrev pub invariant-loop-node : goal.invariant-loop-node
invariant-loop-node l = record {
  listed : IsListed l.met l.atoms.items;
  met : (k : ℕ) → set.contains nat_cmp l.met k ≡ has_counted k (slots_of (take l.node-index l.nodes));
}
