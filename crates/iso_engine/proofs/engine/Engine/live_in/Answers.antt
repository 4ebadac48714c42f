use Rattle.term_store.proofs.Gathering.{gathers_both}
use Rattle.iso_search.specs.Live.{search_atoms}
use Rattle.iso_engine.specs.Live.{doing_atoms}
use Rattle.iso_engine.proofs.LiveKept.{stays_kept}
use Rattle.iso_engine.proofs.engine.Engine.live_in.Goals as goal

pub returns-in_err-live_in-clause-kept : goal.returns-in_err-live_in-clause-kept
returns-in_err-live_in-clause-kept c = stays_kept c.args.self.now

pub returns-in_err-list_doing-clause-kept : goal.returns-in_err-list_doing-clause-kept
returns-in_err-list_doing-clause-kept c = stays_kept c.args.self.now

pub returns-clause-gathers : goal.returns-clause-gathers
returns-clause-gathers c =
    let e = c.args.self.now in
    gathers_both (search_atoms e.search) (doing_atoms e.doing) c.args.live.now c.live_in.new.live c.list_doing.new.live c.in_ok-live_in.ensures.gathers
    c.in_ok-list_doing.ensures

pub returns-clause-kept : goal.returns-clause-kept
returns-clause-kept c = stays_kept c.args.self.now
