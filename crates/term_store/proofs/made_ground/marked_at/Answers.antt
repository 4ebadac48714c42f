use Rattle.std.proofs.Common.{◌≤◌, false, length, sym, arith}
use Rattle.std.proofs.lemmas.List.{get_or_past}
use Rattle.term_store.proofs.made_ground.marked_at.Goals as goal

pub returns-else-k-grounds : goal.returns-else-k-grounds
returns-else-k-grounds c =
    let past : length c.args.grounds.now ≤ c.args.k = omega arith in sym (get_or_past c.args.grounds.now c.args.k false past)
