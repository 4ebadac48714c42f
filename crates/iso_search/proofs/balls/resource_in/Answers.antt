use Rattle.std.proofs.Common.{[]}
use Rattle.std.proofs.lemmas.List.Elements.{All-cons, All-nil}
use Rattle.term_store.specs.Contents.{Holds}
use Rattle.iso_search.proofs.balls.resource_in.Goals as goal

pub make_compound-requires-clause-places : goal.make_compound-requires-clause-places
make_compound-requires-clause-places c =
    let s = c.args.own.now in
    All-cons (Holds s) c.atom.result [] (c.atom.ensures s).0 (All-nil (Holds s))
