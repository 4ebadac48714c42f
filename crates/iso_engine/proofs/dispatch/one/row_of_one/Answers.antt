use Rattle.pl_term.specs.Tree.{more, none}
use Rattle.pl_model.specs.BuiltinRows.{test_row, type_test}
use Rattle.world_builtins.specs.Spelling.{reads}
use Rattle.builtin_rows.specs.declared.predicates.Pred.TheVariants.{One}
use Rattle.builtin_rows.specs.Predicates.{name_of_one}
use Rattle.builtin_rows.proofs.Answering.{ok_weaker}
use Rattle.iso_engine.proofs.Dispatched.{answers_do, type_test_defined}
use Rattle.iso_engine.proofs.dispatch.one.row_of_one.Goals as goal

pub returns-clause-does : goal.returns-clause-does
returns-clause-does c m next few =
    let s = c.args.store.now in
    let p = c.args.test in
    let t = reads m s c.args.term in
    let ts = more t none in
    answers_do s c.type_test.new.store (One p) ts next m (test_row (type_test (name_of_one p) t) ts) c.type_test.result few (type_test_defined p t next)
    (ok_weaker _ _ c.type_test.result c.type_test.ensures.row (λ r h. h m)) c.type_test.ensures.single
