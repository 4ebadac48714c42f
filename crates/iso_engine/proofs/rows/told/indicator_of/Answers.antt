use Rattle.std.proofs.Common.{[], ◌∷◌}
use Rattle.std.proofs.lemmas.List.Elements.{All-cons, All-nil}
use Rattle.term_store.specs.Contents.{Holds}
use Rattle.iso_engine.proofs.rows.told.indicator_of.Goals as goal

pub make_compound-requires-clause-places : goal.make_compound-requires-clause-places
make_compound-requires-clause-places c =
    let s = c.args.store.now in
    All-cons (Holds s) c.atom.result (c.integer.result ∷ []) (c.atom.ensures s).0
    (All-cons (Holds s) c.integer.result [] (c.integer.ensures s).0 (All-nil (Holds s)))
