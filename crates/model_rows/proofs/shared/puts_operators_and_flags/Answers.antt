use Rattle.std.proofs.Common.{◌≡◌, [], ◌∷◌, Option, Some, None, refl, ap, codes}
use Rattle.std.specs.FinMap.{get-from_entries}
use Rattle.pl_term.specs.Tree.{Tree}
use Rattle.pl_model.specs.Operators.{xfx}
use Rattle.pl_model.specs.OperatorTable.{Refusal, refusal, opening_rows, opening_table}
use Rattle.pl_model.specs.declared.operators.Kind.TheVariants.{Xfx}
use Rattle.pl_model.specs.declared.operators.Place.TheVariants.{Postfix}
use Rattle.pl_model.specs.History.{set_op}
use Rattle.pl_model.specs.SharedState.{opening_state}
use Rattle.pl_model.specs.Requests.{put_operators, done}
use Rattle.pl_model.specs.Service.{answers, serve, operator_error, operators_put}
use Rattle.pl_model.proofs.KeyOrder.{key_order_total}
use Rattle.model_rows.proofs.shared.puts_operators_and_flags.Goals as goal

abbrev error_of : Option Refusal → Option Tree
error_of None = None
error_of (Some r) = Some (operator_error 700 (codes "===>") r)

allowed : refusal opening_table 700 (Some Xfx) (codes "===>") ≡ None
allowed = rw (get-from_entries key_order_total opening_rows (codes "===>", Postfix)) refl

operator : serve 1 (put_operators 700 Xfx (codes "===>" ∷ [])) (opening_state 1) 0
    ≡ answers done (Some (set_op (record { name = codes "===>"; priority = 700; specifier = xfx } ∷ [])))
unfolding serve
operator = ap (λ r. operators_put 0 700 Xfx (codes "===>" ∷ []) (error_of r)) allowed

pub returns-clause-operator : goal.returns-clause-operator
returns-clause-operator c = operator
