use Rattle.std.proofs.Common.{map, subst}
use Rattle.pl_term.specs.Tree.{trees}
use Rattle.pl_model.specs.Terms.{arguments}
use Rattle.term_store.specs.Contents.{term_at}
use Rattle.iso_engine.specs.Leading.{AreUnified}
use Rattle.iso_engine.proofs.Unified.{places_differ, places_unified, unified_whole}
use Rattle.iso_engine.proofs.rows.lines.unify_places.Goals as goal

pub returns-then-same-clause-whole : goal.returns-then-same-clause-whole
returns-then-same-clause-whole c =
    let k = c.in_ok-same.ensures in
    unified_whole c.args.search.now c.args.goal c.args.places.now c.args.rest c.unify_arguments.new.store c.requires.whole k.adds k.size

pub returns-then-same-clause-step : goal.returns-then-same-clause-step
returns-then-same-clause-step c t p view =
    let e = c.args.search.now in
    let u = c.unify_arguments.new.store in
    let k = c.in_ok-same.ensures in
    places_unified e c.args.goal c.args.places.now c.args.rest u c.requires.whole k.adds k.size t p view
    (subst (λ b. AreUnified b e.store (arguments (term_at e.store c.args.goal)) (trees (map (term_at e.store) c.args.places.now)) u) c.if-same.true k.unified)

pub returns-else-same-clause-whole : goal.returns-else-same-clause-whole
returns-else-same-clause-whole c =
    let k = c.in_ok-same.ensures in
    unified_whole c.args.search.now c.args.goal c.args.places.now c.args.rest c.unify_arguments.new.store c.requires.whole k.adds k.size

pub returns-else-same-clause-step : goal.returns-else-same-clause-step
returns-else-same-clause-step c t p view =
    let e = c.args.search.now in
    let u = c.unify_arguments.new.store in
    let k = c.in_ok-same.ensures in
    places_differ e c.args.goal c.args.places.now c.args.rest u c.requires.whole k.adds k.size t p view
    (subst (λ b. AreUnified b e.store (arguments (term_at e.store c.args.goal)) (trees (map (term_at e.store) c.args.places.now)) u) c.if-same.false k.unified)
