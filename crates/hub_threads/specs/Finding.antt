-- Which queue or thread a name finds.
use Rattle.std.specs.Prelude.{◌≡◌, ℕ, ◌==◌, Bool, false, Option, Some, None, IsSome, is_some, option_and_then, option_map}
use Rattle.pl_term.specs.Tree.{Tree}
use Rattle.pl_model.specs.declared.threads.Name.{Name}
use Rattle.pl_model.specs.declared.threads.Status.{Status}
use Rattle.pl_model.specs.declared.threads.Thread.{Thread}
use Rattle.pl_model.specs.Threads.{Threads, queue_named, thread_named}
use Rattle.hub_threads.specs.declared.finding.FoundQueue.{FoundQueue}
use Rattle.hub_threads.specs.declared.finding.FoundQueue.TheVariants.{Is, Missing, Memory}
use Rattle.hub_threads.specs.declared.finding.FoundThread.{FoundThread}
use Rattle.hub_threads.specs.declared.finding.FoundThread.TheVariants as thread

abbrev pub Finds : Threads Tree → Option Name → FoundQueue → Type 0
Finds s o (Is n) = (o ≡ Some n) × IsSome (queue_named s n)
Finds s o Missing = option_and_then (queue_named s) o ≡ None
Finds s o Memory = Unit {0}

-- the number of the thread of this name, and whether it has ended
abbrev pub known : Threads Tree → Name → Option (ℕ × Bool)
known s n = option_map (λ h. (h.number, is_some h.status)) (thread_named s n)

abbrev pub FindsThread : Threads Tree → Option Name → FoundThread → Type 0
FindsThread s o (thread.Is n k b) = (o ≡ Some n) × (known s n ≡ Some (k, b))
FindsThread s o thread.Missing = option_and_then (thread_named s) o ≡ None
FindsThread s o thread.Memory = Unit {0}

-- how the thread of this name ended, where it has
abbrev pub status_named : Threads Tree → Name → Option (Status Tree)
status_named s n = option_and_then (λ h. h.status) (thread_named s n)

-- THE THREAD OF THIS NAME HAS ENDED, and is not the engine e
pub record HasEnded (s : Threads Tree) (n : Name) (e : ℕ) : Type 0 where
  pub thread : Thread Tree
  pub status : Status Tree
  pub found : thread_named s n ≡ Some thread
  pub ended : thread.status ≡ Some status
  pub other : (thread.number == e) ≡ false
