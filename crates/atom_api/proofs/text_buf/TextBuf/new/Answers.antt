use Rattle.std.proofs.Common.{refl, lit≤}
use Rattle.std.specs.Str.{chars, is_utf8}
use Rattle.atom_api.proofs.text_buf.TextBuf.new.Goals as goal

pub invariant_of-result : goal.invariant_of-result
unfolding chars is_utf8
invariant_of-result c = (lit≤ tt, refl)

pub returns : goal.returns
unfolding chars
returns c = refl
