use Rattle.std.proofs.Common.{◌≡◌, ◌<◌, ◌≤◌, ◌+◌, ◌-◌, ℕ, List, IsTrue, Some, length, take, vec_len}
use Rattle.pl_io.proofs.whole.read_all.Given as goal

abbrev pub invariant-loop-buffer : goal.invariant-loop-buffer
invariant-loop-buffer g l = record {
  room : 0 < length l.buffer;
  in_limit : vec_len l.all ≤ l.limit + 1;
  told : (n : List ℕ) → g.F.Files.told l.files n ≡ g.F.Files.told l.fn.files n;
  absence : (n : List ℕ) → g.F.Files.absent l.files n ≡ g.F.Files.absent l.fn.files n;
  missing : IsTrue (g.F.Files.absent l.fn.files l.name) → vec_len l.all ≡ 0;
  faults : (n : List ℕ) → g.F.Files.faults l.fn.files n ≤ g.F.Files.faults l.files n;
  bytes : (bytes : List ℕ) → g.F.Files.told l.fn.files l.name ≡ Some bytes → l.all.items ≡ take (vec_len l.all) bytes;
}

abbrev pub decreases-loop-buffer : goal.decreases-loop-buffer
decreases-loop-buffer g l = l.limit + 1 - vec_len l.all
