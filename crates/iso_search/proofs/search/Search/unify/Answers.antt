use Rattle.std.proofs.Common.{◌<◌, reverse, refl, subst, sym, arith}
use Rattle.std.specs.List.{All}
use Rattle.term_store.specs.Contents.{Unified}
use Rattle.iso_search.specs.declared.search.Search.{Search}
use Rattle.iso_search.specs.Searching.{node_of}
use Rattle.iso_search.proofs.Instances.{choices_kept, unified_run, unified_fail}
use Rattle.iso_search.proofs.Wholes.{whole_added}
use Rattle.iso_search.proofs.search.Search.unify.Goals as goal

pub returns-then-same-clause-whole : goal.returns-then-same-clause-whole
returns-then-same-clause-whole c =
    let e = c.args.self.now in
    let s = c.unify.new.self in
    let adds = c.in_ok-same.ensures.adds in
    whole_added e s e.next_variable adds c.in_ok-same.ensures.size.budget (omega arith)
    (subst (All (λ m. m < e.next_variable)) (sym c.in_ok-same.ensures.size.numbers) c.requires.whole.above) c.requires.whole

pub returns-then-same-clause-step : goal.returns-then-same-clause-step
returns-then-same-clause-step c t p view =
    let e = c.args.self.now in
    let d : Search = record e { store = c.unify.new.self } in
    let same = subst (λ q. Unified q e.store c.args.left c.args.right d.store) c.if-same.true c.in_ok-same.ensures.unified in
    unified_run t e d c.args.left c.args.right c.args.rest p view same refl refl c.in_ok-same.ensures.size.used
    (choices_kept t.view e.answer.items e.store d.store e.frames.items (reverse e.choices.items) c.in_ok-same.ensures.adds c.requires.whole.rests)
    refl refl

pub returns-else-same-clause-step : goal.returns-else-same-clause-step
returns-else-same-clause-step c t p view =
    let e = c.args.self.now in
    let d : Search = record e { store = c.unify.new.self } in
    let differ = subst (λ q. Unified q e.store c.args.left c.args.right d.store) c.if-same.false c.in_ok-same.ensures.unified in
    unified_fail t e d c.args.left c.args.right (node_of t.view e c.args.rest) p view differ.0
    (choices_kept t.view e.answer.items e.store d.store e.frames.items (reverse e.choices.items) c.in_ok-same.ensures.adds c.requires.whole.rests)
    refl refl
