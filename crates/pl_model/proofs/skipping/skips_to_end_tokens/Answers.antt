use Rattle.std.proofs.Common.{refl}
use Rattle.std.specs.Str.{chars, is_utf8}
use Rattle.pl_model.specs.Skipping.{skip}
use Rattle.pl_model.proofs.skipping.skips_to_end_tokens.Goals as goal

pub returns : goal.returns
unfolding skip chars is_utf8
returns c = record { first = refl; second = refl; inside = refl; code = refl; nothing = refl; behind = refl }
