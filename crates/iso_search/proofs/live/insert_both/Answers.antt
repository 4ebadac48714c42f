use Rattle.std.proofs.Common.{[], ◌∷◌, flat_map}
use Rattle.term_store.proofs.Gathering.{gathers_both}
use Rattle.iso_search.proofs.live.insert_both.Goals as goal

pub returns : goal.returns
returns c =
    gathers_both (c.args.first ∷ []) (c.args.second ∷ []) c.args.live.now c.insert.new.self c.insert-2.new.self c.in_ok-insert.ensures c.in_ok-insert-2.ensures
