use Rattle.std.proofs.Common.{◌≡◌, ◌<◌, ◌≤◌, [], length, take}
use Rattle.std.specs.List.{All}
use Rattle.term_store.specs.Fit.{Cached, OnceFrom}
use Rattle.term_store.proofs.undo.unbind.Given as goal

abbrev pub invariant-loop-bonds : goal.invariant-loop-bonds
invariant-loop-bonds l =
    record {
      keeps : l.fn.keep ≤ length l.bonds.items;
      within : length l.bonds.items ≤ length l.initial.bonds.items;
      taken : l.bonds.items ≡ take (length l.bonds.items) l.initial.bonds.items;
      long : length l.bonds.values ≡ length l.initial.bonds.values;
      slots : All (λ b. b.slot < length l.bonds.values) l.bonds.items;
      once : OnceFrom [] l.bonds.items;
      cached : Cached l.bonds.values l.bonds.items;
    }

abbrev pub decreases-loop-bonds : goal.decreases-loop-bonds
decreases-loop-bonds l = length l.bonds.items
