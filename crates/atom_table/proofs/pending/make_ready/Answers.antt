use Rattle.atom_words.specs.Seats.{seen}
use Rattle.bucket_rows.proofs.Reading.{walking_as}
use Rattle.atom_table.proofs.pending.make_ready.Goals as goal

pub take-requires-clause-walking : goal.take-requires-clause-walking
take-requires-clause-walking c = walking_as (seen c.args.seat.now) (seen c.walk.new.seat) c.walk.ensures.aside c.requires.walking
