use Rattle.std.proofs.Common.{◌≡◌, ◌≤◌, length, filter, take}
use Rattle.pl_model.specs.Threads.{is_running}
use Rattle.hub_threads.proofs.held.searches.running.Given as goal

abbrev pub invariant-loop-thread : goal.invariant-loop-thread
invariant-loop-thread g l = (l.count ≡ length (filter is_running (take l.thread-index l.threads))) × (l.count ≤ l.thread-index)
