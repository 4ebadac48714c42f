use Rattle.std.proofs.Common.{sym, subst, ◌∙◌}
use Rattle.shared_builtins.specs.Names.{AreListed}
use Rattle.shared_builtins.proofs.Naming.{no_name}
use Rattle.shared_builtins.proofs.names.names_listed.Goals as goal

pub returns-in_ok-listed-clause-listed : goal.returns-in_ok-listed-clause-listed
returns-in_ok-listed-clause-listed c m n held =
    let s = c.args.store.now in
    subst (λ r. AreListed m s r c.in_ok-listed.listed) (sym (no_name m s c.args.place (sym c.passes.ensures ∙ c.if-passes.false)))
    (c.in_ok-listed.ensures.listed m n held)
