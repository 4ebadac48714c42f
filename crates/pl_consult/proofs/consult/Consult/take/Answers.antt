use Rattle.std.proofs.Common.{sym, subst}
use Rattle.std.specs.Prelude.{IfOk}
use Rattle.run_model.specs.Execution.{Execution}
use Rattle.pl_consult.specs.Consults.{Took}
use Rattle.pl_consult.proofs.ConsultLemmas.{fault_taken, item_read}
use Rattle.pl_consult.proofs.TakingLaws.{read_at, taken_at, put_off_at}
use Rattle.pl_consult.proofs.consult.Consult.take.Goals as goal

pub returns-in-Clause-clause-took : goal.returns-in-Clause-clause-took
returns-in-Clause-clause-took c job x s =
    subst
    (λ (y : Execution). IfOk c.take_term.result (λ taken. Took taken c.args.self.now.name c.take_term.new.self job c.args.ops.now y c.take_term.new.out.items))
    (sym
    (item_read c.args.self.now job x c.args.out.now.items c.args.at c.args.ops.now c.args.quotes _ s (rw c.as_slice.ensures.value at c.in-Clause.ensures)))
    (c.take_term.ensures.took job x s)

pub returns-in-Syntax-clause-took : goal.returns-in-Syntax-clause-took
returns-in-Syntax-clause-took c job x s =
    fault_taken c.args.self.now c.behind_fault-self.result job x c.args.out.now.items _ c.args.at c.args.ops.now c.args.quotes c.in-Syntax.kind c.in-Syntax.fault s (rw c.as_slice.ensures.value at c.in-Syntax.ensures) (c.in_ok-put_syntax_fault-in-Syntax.ensures _ s.lines) c.behind_fault-self.ensures

pub returns-in-Clause-clause-item : goal.returns-in-Clause-clause-item
returns-in-Clause-clause-item c =
    taken_at c.args.self.now.text.items c.args.at c.args.ops.now c.args.quotes c.in-Clause.term (read_at (rw c.as_slice.ensures.value at c.in-Clause.ensures))
    c.take_term.result c.take_term.ensures.item

pub returns-in-Clause-clause-later : goal.returns-in-Clause-clause-later
returns-in-Clause-clause-later c =
    put_off_at c.args.self.now.text.items c.args.at c.args.ops.now c.args.quotes c.in-Clause.term (read_at (rw c.as_slice.ensures.value at c.in-Clause.ensures))
    c.args.self.now.later.items c.take_term.new.self.later.items c.take_term.ensures.later
