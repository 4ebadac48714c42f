-- Why a call is refused: the first cause that holds.
use Rattle.std.specs.Prelude.{ℕ, Option, Some, None, Bool, false, if◌then◌else◌}
use Rattle.pl_term.specs.Tree.{Chars}
use Rattle.pl_model.specs.declared.threads.Name.{Name}
use Rattle.pl_model.specs.Threads.{Threads, is_alias, queue_named, thread_named, thread_numbered, is_joined, is_running, has_engine}
use Rattle.hub_threads.specs.declared.held.fault.QueueFault.{QueueFault}
use Rattle.hub_threads.specs.declared.held.fault.QueueFault.TheVariants.{NoQueue, OwnQueue, NoThread, Joined, AliasTaken, EnginesFull}

abbrev pub is_taken : {M : Type 0} → Threads M → Option Chars → Bool
is_taken t None = false
is_taken t (Some a) = is_alias t a

abbrev pub make_refusal : {M : Type 0} → Threads M → Option Chars → Option QueueFault
make_refusal t a = if is_taken t a then Some AliasTaken else None

abbrev pub start_refusal : {M : Type 0} → Threads M → Option Chars → Option QueueFault
start_refusal t a = if is_taken t a then Some AliasTaken else if has_engine t then None else Some EnginesFull

abbrev pub drop_refusal : {M : Type 0} → Threads M → Name → Option QueueFault
drop_refusal t x = elim (queue_named t x) [ None ↦ Some NoQueue | Some q ↦ if q.is_own then Some OwnQueue else None ]

abbrev pub join_fault : {M : Type 0} → Threads M → Name → QueueFault
join_fault t x = if is_joined t x then Joined else NoThread

abbrev pub join_refusal : {M : Type 0} → Threads M → Name → Option QueueFault
join_refusal t x = elim (thread_named t x) [ None ↦ Some (join_fault t x) | Some h ↦ None ]

abbrev pub end_refusal : {M : Type 0} → Threads M → ℕ → Option QueueFault
end_refusal t n =
    elim (thread_numbered t n) [ None ↦ Some NoThread | Some h ↦ if is_running h then None else Some NoThread ]
