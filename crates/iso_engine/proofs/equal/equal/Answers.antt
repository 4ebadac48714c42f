use Rattle.std.proofs.Common.{◌≡◌, [], length, get_or, sym, ap, subst, arith}
use Rattle.pl_term.specs.Tree.{atom}
use Rattle.pl_model.specs.Predicates.{proc_of}
use Rattle.atom_api.specs.FixedNames.{equal_name}
use Rattle.term_store.specs.Heap.{atom_name}
use Rattle.term_store.specs.Contents.{arguments_at, term_at}
use Rattle.iso_search.specs.declared.outcome.Fault.TheVariants.{Inferences}
use Rattle.iso_search.specs.declared.outcome.Outcome.TheVariants.{Raise}
use Rattle.iso_search.specs.declared.search.Search.{Search}
use Rattle.iso_search.specs.Reading.{reads}
use Rattle.iso_search.specs.Spelling.{spelled, text_of}
use Rattle.iso_search.proofs.After.{outcome_behind}
use Rattle.iso_engine.proofs.Followed.{goal_done, run_setting}
use Rattle.iso_engine.proofs.Equals.{IsCounted, equal_done, equal_ran, equal_reads, equal_shape, equal_spent, keeps_counted}
use Rattle.iso_engine.proofs.Procedures.{compound_proc}
use Rattle.iso_engine.proofs.equal.equal.Goals as goal

pub returns-then-not-infer-clause-step : goal.returns-then-not-infer-clause-step
returns-then-not-infer-clause-step c list cut is t view =
    let e = c.args.search.now in
    let x = c.infer.new.self in
    let a = c.args.arguments in
    let d = c.in_ok-doing.doing in
    let r = run_setting t e x list c.args.rest cut c.args.goal (Raise Inferences) d in
    let xs = arguments_at e.store a in
    let left = spelled (text_of t.view.names) (get_or xs 0 (atom [])) in
    let right = spelled (text_of t.view.names) (get_or xs 1 (atom [])) in
    let two = c.requires.two in
    goal_done t e x list c.args.rest cut c.args.goal (Raise Inferences) d
    (record { name = text_of t.view.names (atom_name equal_name); arity = 2 })
    is
    c.requires.rest
    (tt, keeps_counted e x c.infer.ensures.kept)
    (compound_proc t.view e.store c.args.goal 16 2 a c.requires.goal c.requires.arguments (omega (arith, two)) (sym two))
    (equal_spent r e x c.args.goal left right c.args.rest cut (equal_shape t.view view e.store c.args.goal a c.requires.goal c.requires.arguments two)
    (subst (IsCounted r e x c.args.goal left right c.args.rest cut) c.if-not-infer.true (c.infer.ensures.step r)))
    (c.in_ok-doing.ensures r view)

pub returns-clause-step : goal.returns-clause-step
returns-clause-step c list cut is t view =
    let e = c.args.search.now in
    let x = c.infer.new.self in
    let f = c.equal.new.self in
    let a = c.args.arguments in
    let o = c.in_ok-outcome.outcome in
    let d = c.in_ok-doing-2.doing in
    let left = c.argument-left.result in
    let right = c.argument-right.result in
    let kept = c.infer.ensures.kept in
    let two = c.requires.two in
    let r = run_setting t e f list c.args.rest cut c.args.goal o d in
    let longer : length e.frames.items ≡ length x.frames.items = sym (ap (λ (y : Search). length y.frames.items) kept) in
    let l = subst (λ (y : Search). term_at y.store left ≡ get_or (arguments_at y.store a) 0 (atom [])) kept c.argument-left.ensures.stands in
    let q = subst (λ (y : Search). term_at y.store right ≡ get_or (arguments_at y.store a) 1 (atom [])) kept c.argument-right.ensures.stands in
    goal_done t e f list c.args.rest cut c.args.goal o d
    (record { name = text_of t.view.names (atom_name equal_name); arity = 2 })
    is
    c.requires.rest
    (outcome_behind e x f o (omega (arith, longer)) (keeps_counted e x kept) c.in_ok-outcome.ensures.after.inside)
    (compound_proc t.view e.store c.args.goal 16 2 a c.requires.goal c.requires.arguments (omega (arith, two)) (sym two))
    (equal_done r e x c.args.goal (reads t.view e.store left) (reads t.view e.store right) c.args.rest cut f o
    (equal_reads t.view view e.store c.args.goal left right a c.requires.goal c.requires.arguments two l q)
    (subst (IsCounted r e x c.args.goal (reads t.view e.store left) (reads t.view e.store right) c.args.rest cut) c.if-not-infer.false (c.infer.ensures.step r))
    (equal_ran r e x f c.args.goal left right c.args.rest o kept (c.in_ok-outcome.ensures.step r (proc_of (reads t.view e.store c.args.goal)) view)))
    (c.in_ok-doing-2.ensures r view)
