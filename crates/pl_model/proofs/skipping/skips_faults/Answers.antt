use Rattle.std.proofs.Common.{refl}
use Rattle.std.specs.Str.{chars, is_utf8}
use Rattle.pl_model.specs.Skipping.{skip}
use Rattle.pl_model.proofs.skipping.skips_faults.Goals as goal

pub returns : goal.returns
unfolding skip chars is_utf8
returns c = record { escape = refl; byte = refl; comment = refl; block = refl; code = refl; float = refl; quote = refl; opening = refl }
