use Rattle.std.specs.Prelude.{codes}
use Rattle.pl_term.specs.Tree.{atom}
use Rattle.world_api.specs.Texts.{text_of}
use Rattle.hub_database.proofs.Errors.{permission_told}
use Rattle.hub_database.proofs.PutOperators.{atom_told, operator_fixed}
use Rattle.hub_database.proofs.operators.change_error.Goals as goal

pub returns : goal.returns
returns c = λ t f.
    permission_told c.args.name c.in_ok-culprit.culprit (λ m. atom (text_of m c.args.name))
    (λ m stand held. atom_told m c.args.name c.in_ok-culprit.culprit (λ u. c.in_ok-culprit.ensures.says m u stand) held)
    c.in_ok-culprit.ensures.named
    c.permission_error.result c.args.action 137 t (codes "operator") f operator_fixed c.permission_error.ensures.says c.permission_error.ensures.named
