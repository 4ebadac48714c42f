use Rattle.std.proofs.Common.{[], ◌∷◌, map}
use Rattle.pl_term.specs.Tree.{compound}
use Rattle.term_store.specs.Heap.{atom_name}
use Rattle.term_store.specs.Contents.{term_at}
use Rattle.iso_search.proofs.Converting.{grows_made}
use Rattle.iso_engine.proofs.Putting.{two_places}
use Rattle.iso_engine.proofs.write.characters.pair.Goals as goal

pub make_compound-requires-clause-places : goal.make_compound-requires-clause-places
make_compound-requires-clause-places c = two_places c.args.store.now c.args.first c.args.second c.requires.first c.requires.second

pub returns-clause-grows : goal.returns-clause-grows
returns-clause-grows c =
    let s = c.args.store.now in
    let made = c.in_ok-made.ensures in
    grows_made s c.make_compound.new.self (compound (atom_name c.args.name) (map (term_at s) (c.args.first ∷ (c.args.second ∷ [])))) c.in_ok-made.made
    made.made made.numbers made.adds
