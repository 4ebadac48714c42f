use Rattle.counted_terms.proofs.Exactly.{exact_counted, exact_room}
use Rattle.counted_terms.proofs.laws.exact_counts_tell.Goals as goal

pub returns-clause-counted : goal.returns-clause-counted
returns-clause-counted c = exact_counted

pub returns-clause-room : goal.returns-clause-room
returns-clause-room c = exact_room
