use Rattle.std.proofs.Common.{refl}
use Rattle.std.specs.Fmt.{digits}
use Rattle.load_source.proofs.rows.numbers_are_drawn_from_a_seed.Goals as goal

pub returns : goal.returns
unfolding digits
returns c = record { one = refl; zero = refl; largest = refl }
