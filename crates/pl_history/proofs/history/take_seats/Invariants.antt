use Rattle.std.proofs.Common.{◌≡◌, ◌≤◌, replicate, vec_len, vec_capacity}
use Rattle.pl_history.specs.Fronts.{new_front}
use Rattle.pl_history.proofs.history.take_seats.Given as goal

abbrev pub invariant-loop : goal.invariant-loop
invariant-loop l = (l.fronts.items ≡ replicate l.counter (new_front l.words.shared.table_id)) × (vec_len l.fronts ≡ l.counter) × (l.count ≤ vec_capacity l.fronts)
