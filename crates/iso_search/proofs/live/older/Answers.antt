use Rattle.std.proofs.Common.{◌++◌, Some, sym, subst}
use Rattle.iso_search.specs.Live.{IsLeast}
use Rattle.iso_search.proofs.Oldest.{least_both}
use Rattle.iso_search.proofs.live.older.Goals as goal

pub returns : goal.returns
returns c gs hs first second =
    subst (λ m. IsLeast (Some m) (gs ++ hs)) (sym c.min.ensures)
    (least_both c.in-Some.g c.in-Some-second.h gs hs (subst (λ o. IsLeast o gs) c.in-Some.is first) (subst (λ o. IsLeast o hs) c.in-Some-second.is second))
