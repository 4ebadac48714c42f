use Rattle.std.proofs.Common.{◌≤◌, reverse, subst, arith}
use Rattle.iso_search.specs.Held.{frames_held}
use Rattle.iso_search.proofs.search.Search.push_over.Goals as goal

pub put_over-requires-clause-held : goal.put_over-requires-clause-held
put_over-requires-clause-held c =
    subst (λ l. frames_held (reverse l) ≤ c.higher-keep.result) c.deref.ensures.value
    (subst (λ n. n ≤ c.higher-keep.result) c.held_frames.ensures c.higher-keep.ensures.first)
