use Rattle.std.proofs.Common.{map, subst, arith}
use Rattle.pl_term.specs.Tree.{trees}
use Rattle.pl_model.specs.Terms.{arguments}
use Rattle.term_store.specs.Contents.{term_at}
use Rattle.builtin_rows.specs.Rows.{listed}
use Rattle.iso_engine.specs.Leading.{AreUnified}
use Rattle.iso_engine.proofs.FollowedRows.{answer_fails, answer_goal, answer_numbers, answer_runs, answer_whole}
use Rattle.iso_engine.proofs.rows.following.give.Goals as goal

pub overflow_add-search : goal.overflow_add-search
overflow_add-search c =
    let e = c.args.search.now in
    let room = answer_numbers c.requires.made.0 c.args.goal e c.args.places c.args.fresh c.requires.made.1 in
    omega (arith, room)

pub unify_answer-requires-clause-term : goal.unify_answer-requires-clause-term
unify_answer-requires-clause-term c =
    answer_goal c.requires.made.0 c.args.goal c.args.search.now c.args.places c.args.fresh c.requires.made.1

pub returns-then-same-clause-whole : goal.returns-then-same-clause-whole
returns-then-same-clause-whole c =
    let k = c.in_ok-same.ensures in
    answer_whole c.requires.made.0 c.args.goal c.args.search.now c.args.places c.args.fresh c.requires.made.1 c.unify_answer.new.store k.adds k.size

pub returns-then-same-clause-step : goal.returns-then-same-clause-step
returns-then-same-clause-step c x t m view known =
    let e = c.args.search.now in
    let u = c.unify_answer.new.store in
    let k = c.in_ok-same.ensures in
    let same =
    subst (λ b. AreUnified b e.store (arguments (term_at e.store c.args.goal)) (trees (map (term_at e.store) (listed c.args.places))) u) c.if-same.true k.unified in
    answer_runs x c.args.goal e c.args.places c.args.fresh m u k.adds k.size t view known c.args.rest same

pub returns-else-same-clause-whole : goal.returns-else-same-clause-whole
returns-else-same-clause-whole c =
    let k = c.in_ok-same.ensures in
    answer_whole c.requires.made.0 c.args.goal c.args.search.now c.args.places c.args.fresh c.requires.made.1 c.unify_answer.new.store k.adds k.size

pub returns-else-same-clause-step : goal.returns-else-same-clause-step
returns-else-same-clause-step c x t m view known =
    let e = c.args.search.now in
    let u = c.unify_answer.new.store in
    let k = c.in_ok-same.ensures in
    let differ =
    subst (λ b. AreUnified b e.store (arguments (term_at e.store c.args.goal)) (trees (map (term_at e.store) (listed c.args.places))) u) c.if-same.false k.unified in
    answer_fails x c.args.goal e c.args.places c.args.fresh m u k.adds k.size t view known c.args.rest differ
