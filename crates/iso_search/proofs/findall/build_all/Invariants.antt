use Rattle.std.proofs.Common.{ℕ, zero, drop, take}
use Rattle.term_store.specs.Contents.{IsAbove}
use Rattle.iso_search.specs.Collecting.{AreBuilt, Rise}
use Rattle.iso_search.proofs.CopyTerms.{AreLeft}
use Rattle.iso_search.proofs.findall.build_all.Given as goal

abbrev pub invariant-loop-copy : goal.invariant-loop-copy
invariant-loop-copy l =
    record {
      built : AreBuilt l.fn.store (take l.copy-index l.copies) l.store l.places.items;
      left : (high : ℕ) → Rise zero l.copies high → AreLeft l.store (drop l.copy-index l.copies) high;
      above : (low : ℕ) → IsAbove low l.fn.store → Rise zero l.copies low → IsAbove low l.store;
    }
