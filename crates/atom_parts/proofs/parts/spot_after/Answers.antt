use Rattle.std.proofs.Common.{arith}
use Rattle.atom_parts.proofs.parts.spot_after.Goals as goal

pub returns : goal.returns
returns c =
    let q = c.block_after.ensures in (q.0, omega (arith, q.1, c.requires.spot.within c.requires.within, c.if-spot-length.false))
