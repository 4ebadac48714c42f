use Rattle.iso_engine.specs.Live.{doing_generations}
use Rattle.iso_search.specs.Live.{open_generations}
use Rattle.iso_engine.proofs.engine.Engine.oldest_open.Goals as goal

pub returns : goal.returns
returns c =
    let e = c.args.self.now in
    c.older.ensures (open_generations e.search) (doing_generations e.doing) c.oldest_open.ensures c.generation_of.ensures
