use Rattle.std.proofs.Common.{◌≡◌, ◌-◌, ◌≤◌, ℕ, false, length, get_or}
use Rattle.term_store.proofs.made_ground.mark_at.Given as goal

abbrev pub invariant-loop-grounds : goal.invariant-loop-grounds
invariant-loop-grounds l =
    record {
      low : length l.grounds.items ≤ l.fn.k;
      same : (j : ℕ) → get_or l.grounds.items j false ≡ get_or l.fn.grounds.items j false;
    }

abbrev pub decreases-loop-grounds : goal.decreases-loop-grounds
decreases-loop-grounds l = l.fn.k - length l.grounds.items
