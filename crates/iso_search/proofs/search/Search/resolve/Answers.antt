use Rattle.std.proofs.Common.{◌+◌, ◌<◌, length, ap, subst, arith}
use Rattle.std.proofs.lemmas.List.Elements.{All-weaker}
use Rattle.pl_term.specs.Variables.{variables}
use Rattle.term_store.specs.Contents.{numbers_of}
use Rattle.term_store.specs.Entering.{ClauseEntered}
use Rattle.iso_search.specs.declared.search.Search.{Search}
use Rattle.iso_search.proofs.Resolved.{entered_fail, entered_run}
use Rattle.iso_search.proofs.Wholes.{whole_added}
use Rattle.iso_search.proofs.search.Search.resolve.Goals as goal

pub push_over-requires-clause-whole : goal.push_over-requires-clause-whole
push_over-requires-clause-whole c =
    let e = c.args.self.now in
    let s = c.enter.new.self in
    let entered = c.in_ok-body.ensures in
    whole_added e s e.next_variable entered.adds entered.budget (omega arith)
    (All-weaker (λ m. m < c.args.from + length (variables c.args.clause.now)) (λ m. m < e.next_variable) (λ m lt. omega (arith, lt, c.requires.taken)) (numbers_of s)
    entered.above)
    c.requires.whole

pub returns-in_ok-list-in-Some-clause-step : goal.returns-in_ok-list-in-Some-clause-step
returns-in_ok-list-in-Some-clause-step c t p place view =
    let e = c.args.self.now in
    let s = c.enter.new.self in
    let entered = c.in_ok-body.ensures in
    let pushed = c.in_ok-list-in-Some.ensures in
    let body = c.in-Some.body in
    entered_run t view e c.requires.whole c.args.goal c.args.from c.args.clause.now s c.requires.goal entered.adds entered.used c.args.height place c.args.rest p
    c.push_over.new.self c.in_ok-list-in-Some.list body
    (subst (λ r. ClauseEntered e.store c.args.goal c.args.from c.args.clause.now r s) c.in-Some.is entered.entered)
    (pushed.node t.view) (pushed.choices t.view) (ap (λ (x : Search). x.next_variable) pushed.kept) (ap (λ (x : Search). x.inferences) pushed.kept)

pub returns-in-None-clause-step : goal.returns-in-None-clause-step
returns-in-None-clause-step c t p place view =
    let e = c.args.self.now in
    let s = c.enter.new.self in
    let entered = c.in_ok-body.ensures in
    entered_fail t view e c.requires.whole c.args.goal c.args.from c.args.clause.now s c.requires.goal entered.adds entered.used c.args.height place c.args.rest p
    (subst (λ r. ClauseEntered e.store c.args.goal c.args.from c.args.clause.now r s) c.in-None.is entered.entered)
