use Rattle.std.specs.Prelude.{[], ◌∷◌}
use Rattle.term_store.specs.NumberedNames.{atoms_in, neck}
use Rattle.term_store.proofs.Gathering.{gathers_both}
use Rattle.script_api.proofs.living.name_term.Goals as goal

pub returns : goal.returns
returns c =
    gathers_both (neck ∷ []) (atoms_in c.args.term.now) c.args.live.now c.insert.new.self c.live_in.new.live c.in_ok-insert.ensures c.in_ok-live_in.ensures
