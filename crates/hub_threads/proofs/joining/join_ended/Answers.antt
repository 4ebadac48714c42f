use Rattle.std.proofs.Common.{arith, codes}
use Rattle.pl_model.specs.ErrorTerms.{resource_error}
use Rattle.pl_model.specs.Requests as requests
use Rattle.atom_words.specs.Seats.{seen}
use Rattle.atom_table.specs.Naming.{names}
use Rattle.counted_terms.specs.CountedTerms.{said}
use Rattle.counted_terms.specs.Keeping.{keeper_view}
use Rattle.hub_threads.proofs.JoinedThreads.{join_worn}
use Rattle.hub_threads.proofs.RefusedRows.{refuses_decides}
use Rattle.hub_threads.proofs.joining.join_ended.Goals as goal

pub returns-then-generation-ge-MOST_UPDATES-clause-says : goal.returns-then-generation-ge-MOST_UPDATES-clause-says
returns-then-generation-ge-MOST_UPDATES-clause-says g c = λ count goals h long stands.
    let k = keeper_view c.args.keeper.now in
    let q = c.args.queues.now in
    let m = names (seen c.args.atoms.now.seat) in
    let y = said m c.args.thread.now in
    let there = c.requires.there in
    refuses_decides k m c.args.engine (requests.join_thread y) q count goals h (resource_error (codes "generations"))
    (join_worn k q count goals h stands c.args.engine y c.args.name.now c.requires.named there.thread there.found there.other there.status there.ended (let high = c.if-generation-ge-MOST_UPDATES.true in let l = long in omega (arith, high, l)))
    stands c.worn_out.result (c.worn_out.ensures.says m c.args.atoms.now.lawful.stand)
