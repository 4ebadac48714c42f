use Rattle.std.proofs.Common.{◌+◌, ◌<◌, length, arith, sym, ◌∙◌}
use Rattle.std.proofs.lemmas.List.Elements.{All-weaker}
use Rattle.pl_term.specs.Variables.{variables}
use Rattle.term_store.specs.Contents.{numbers_of}
use Rattle.term_store.proofs.KeptTerms.{stored_names}
use Rattle.term_store.proofs.Renumbering.{raised_numbered}
use Rattle.iso_search.proofs.Grown.{whole_stays}
use Rattle.iso_search.proofs.Recoveries.{stays_built}
use Rattle.iso_engine.proofs.call.clauses.build_clause.Goals as goal

pub returns-in_err-place-clause-named : goal.returns-in_err-place-clause-named
returns-in_err-place-clause-named c = stored_names c.args.clause.now c.nodes-nodes.result.now c.nodes-nodes.ensures.spelled

pub returns-clause-named : goal.returns-clause-named
returns-clause-named c = stored_names c.args.clause.now c.nodes-nodes.result.now c.nodes-nodes.ensures.spelled

pub returns-clause-whole : goal.returns-clause-whole
returns-clause-whole c =
    let e = c.args.search.now in
    let s = c.build.new.self in
    let built = c.in_ok-place.ensures in
    whole_stays e s (stays_built e.store s c.args.from c.args.clause.now c.in_ok-place.place built.built built.adds) c.requires.whole
    (All-weaker (λ m. m < c.args.from + length (variables c.args.clause.now)) (λ m. m < e.next_variable) (λ m lt. omega (arith, lt, c.requires.taken)) (numbers_of s) built.above)

pub returns-clause-copied : goal.returns-clause-copied
returns-clause-copied c =
    let built = c.in_ok-place.ensures.built in
    (built.holds, built.means ∙ sym (raised_numbered c.args.from c.args.clause.now c.nodes-nodes.ensures.numbered))
