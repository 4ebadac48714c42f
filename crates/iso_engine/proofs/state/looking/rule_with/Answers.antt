use Rattle.std.proofs.Common.{[], ◌∷◌}
use Rattle.std.proofs.lemmas.List.Elements.{All-cons, All-nil}
use Rattle.term_store.specs.Contents.{Holds}
use Rattle.iso_search.proofs.Converting.{grows_made}
use Rattle.iso_engine.proofs.state.looking.rule_with.Goals as goal

pub make_compound-requires-clause-places : goal.make_compound-requires-clause-places
make_compound-requires-clause-places c =
    let s = c.args.store.now in
    All-cons (Holds s) c.args.head (c.args.body ∷ []) c.requires.head (All-cons (Holds s) c.args.body [] c.requires.body (All-nil (Holds s)))

pub returns-clause-grows : goal.returns-clause-grows
returns-clause-grows c =
    let made = c.in_ok-rule.ensures in grows_made c.args.store.now c.make_compound.new.self _ c.in_ok-rule.rule made.made made.numbers made.adds

pub returns-clause-stands : goal.returns-clause-stands
returns-clause-stands c = c.in_ok-rule.ensures.made.means
