use Rattle.std.proofs.Common.{◌≡◌, ◌≤◌, ℕ, List, length}
use Rattle.atom_words.specs.Kinds.{after}
use Rattle.bucket_rows.specs.Treads.{nexts, Ahead, Treads}
use Rattle.bucket_rows.proofs.treads.tread_chain.Given as goal

abbrev pub invariant-loop-i : goal.invariant-loop-i
invariant-loop-i l = record {
  same : (l.seat.table_id ≡ l.initial.seat.table_id) × (l.seat.id ≡ l.initial.seat.id) × (l.seat.me.1 ≡ l.initial.seat.me.1);
  steps : (links : List ℕ) × (l.seat.me.0 ≡ after l.initial.seat.me.0 (nexts links)) × (length links ≡ l._i);
  stands : Treads l.slot l.word l._i l.before l.place l.seat.me.0;
  ahead : Ahead l.seat.me.0;
  low : l.before ≤ l.words.size.slots;
}
