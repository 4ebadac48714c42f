use Rattle.std.proofs.Common.{refl, sym, subst}
use Rattle.std.specs.Prelude.{OnOk}
use Rattle.pl_model.specs.Grammar.{Item}
use Rattle.run_model.specs.Execution.{items_from, initialization, behind_fault}
use Rattle.source_check.specs.declared.checker.Place.TheVariants.{Item as ItemAt, End}
use Rattle.source_check.specs.Listings.{with_item}
use Rattle.source_check.specs.Checkers.{Stands}
use Rattle.source_check.proofs.Lines.{item_read, moved}
use Rattle.source_check.proofs.checker.Checker.take.Goals as goal

pub returns-in-Clause-clause-stands : goal.returns-in-Clause-clause-stands
returns-in-Clause-clause-stands c d s =
    subst
    (λ (i : Item). OnOk c.take_term.result (Stands c.args.name.now c.take_term.new.self (with_item c.args.bytes.now c.args.at d i)))
    (sym (item_read c.args.name.now c.args.self.now d c.args.bytes.now c.args.at _ s c.in-Clause.ensures))
    (c.take_term.ensures.stands c.args.name.now (record d { rest = items_from c.in-Clause.next }) (moved c.args.name.now c.args.self.now d (ItemAt c.in-Clause.next) (items_from c.in-Clause.next) refl s))

pub returns-in-End-clause-stands : goal.returns-in-End-clause-stands
returns-in-End-clause-stands c d s =
    subst
    (λ (i : Item). Stands c.args.name.now (record c.args.self.now { place = End }) (with_item c.args.bytes.now c.args.at d i))
    (sym (item_read c.args.name.now c.args.self.now d c.args.bytes.now c.args.at _ s c.in-End.ensures))
    (moved c.args.name.now c.args.self.now d End initialization refl s)

pub returns-in-Syntax-clause-stands : goal.returns-in-Syntax-clause-stands
returns-in-Syntax-clause-stands c d s =
    subst
    (λ (i : Item). OnOk c.take_fault.result (Stands c.args.name.now c.take_fault.new.self (with_item c.args.bytes.now c.args.at d i)))
    (sym (item_read c.args.name.now c.args.self.now d c.args.bytes.now c.args.at _ s c.in-Syntax.ensures))
    (c.take_fault.ensures.stands (record d { rest = behind_fault c.args.bytes.now c.args.at c.in-Syntax.kind }) (moved c.args.name.now c.args.self.now d c.behind_fault-self.result (behind_fault c.args.bytes.now c.args.at c.in-Syntax.kind) c.behind_fault-self.ensures s))
