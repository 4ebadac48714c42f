use Rattle.pl_model.specs.laws.Shown.{proc_of}
use Rattle.clause_db.proofs.Indexing.{found_nowhere, found_under}
use Rattle.clause_db.proofs.search.locate.Goals as goal

pub returns : goal.returns
returns g c =
    found_under (proc_of c.args.p.now) c.args.index.now c.args.parts.now c.under.result c.hash_of.result c.in-Some.places.now c.requires.apart c.requires.indexed c.in-Some.ensures c.hash_of.ensures c.under.ensures.some c.under.ensures.none

pub returns-in_default : goal.returns-in_default
returns-in_default g c =
    found_nowhere (proc_of c.args.p.now) c.args.index.now c.args.parts.now c.hash_of.result c.requires.indexed c.in_default.ensures c.hash_of.ensures
