use Rattle.std.proofs.Common.{Option, refl, sym, subst}
use Rattle.std.specs.Prelude.{IsSome}
use Rattle.pl_term.specs.Tree.{Chars}
use Rattle.hub_database.proofs.flags.atom_flag.Goals as goal

pub returns : goal.returns
returns c = λ t u f v. record {
  flag = λ m stand. stand c.args.flag t f;
  value = λ m stand. c.in_ok-value.ensures.says m u stand (stand c.args.value u v);
  named = λ m stand. c.in_ok-value.ensures.named m stand (subst (λ (o : Option Chars). IsSome o) (sym (stand c.args.value u v)) refl);
}
