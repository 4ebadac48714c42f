use Rattle.std.proofs.Common.{Some, sym, subst, ◌∙◌}
use Rattle.std.specs.Prelude.{IfOk, codes}
use Rattle.std.proofs.lemmas.Result.{IfOk-weaker}
use Rattle.pl_model.specs.OperatorTable.{Refusal, comma, infix_postfix, priority, reserved}
use Rattle.pl_model.specs.Service.{operator_error}
use Rattle.world_api.specs.Texts.{text_of}
use Rattle.hub_database.specs.Rows.{IsErrorTerm}
use Rattle.hub_database.proofs.Errors.{modify_fixed}
use Rattle.hub_database.proofs.PutOperators.{create_fixed, fault_one}
use Rattle.hub_database.proofs.operators.operator_error.Goals as goal

pub returns-in-Priority : goal.returns-in-Priority
returns-in-Priority c = λ r same.
    subst (λ (s : Refusal). IfOk c.priority_error.result (IsErrorTerm (Some c.args.name) (λ m. operator_error c.args.priority (text_of m c.args.name) s))) (fault_one priority r (sym c.in-Priority.is ∙ same))
    (IfOk-weaker c.priority_error.result _ _ (λ e f m stand held. f m stand tt) c.priority_error.ensures)

pub returns-in-Comma : goal.returns-in-Comma
returns-in-Comma c = λ r same.
    subst (λ (s : Refusal). IfOk c.change_error.result (IsErrorTerm (Some c.args.name) (λ m. operator_error c.args.priority (text_of m c.args.name) s))) (fault_one comma r (sym c.in-Comma.is ∙ same))
    (c.change_error.ensures (codes "modify") modify_fixed)

pub returns-in-Reserved : goal.returns-in-Reserved
returns-in-Reserved c = λ r same.
    subst (λ (s : Refusal). IfOk c.change_error-in-Reserved.result (IsErrorTerm (Some c.args.name) (λ m. operator_error c.args.priority (text_of m c.args.name) s))) (fault_one reserved r (sym c.in-Reserved.is ∙ same))
    (c.change_error-in-Reserved.ensures (codes "create") create_fixed)

pub returns-in-InfixPostfix : goal.returns-in-InfixPostfix
returns-in-InfixPostfix c = λ r same.
    subst (λ (s : Refusal). IfOk c.change_error-in-InfixPostfix.result (IsErrorTerm (Some c.args.name) (λ m. operator_error c.args.priority (text_of m c.args.name) s))) (fault_one infix_postfix r (sym c.in-InfixPostfix.is ∙ same))
    (c.change_error-in-InfixPostfix.ensures (codes "create") create_fixed)
