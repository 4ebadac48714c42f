use Rattle.atom_words.specs.Seats.{seen}
use Rattle.bucket_rows.proofs.Reading.{walking_as}
use Rattle.bucket_rows.proofs.tests.look.Goals as goal

pub returns-clause-walking : goal.returns-clause-walking
returns-clause-walking c = walking_as (seen c.args.seat.now) (seen c.walk.new.seat) c.walk.ensures.aside c.requires.walking
