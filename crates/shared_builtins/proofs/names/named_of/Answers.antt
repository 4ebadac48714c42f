use Rattle.std.proofs.Common.{map, sym, subst}
use Rattle.std.specs.List.{All}
use Rattle.world_builtins.specs.Naming.{IsHeldAt}
use Rattle.world_builtins.specs.Spelling.{reads}
use Rattle.shared_builtins.specs.Names.{AreAtoms, AreListed}
use Rattle.shared_builtins.proofs.Naming.{named_by_list, refused_by_list}
use Rattle.shared_builtins.proofs.names.named_of.Goals as goal

pub returns-in_ok-named-in-Terms : goal.returns-in_ok-named-in-Terms
returns-in_ok-named-in-Terms c m r n listed =
    let s = c.args.store.now in
    let l = subst (AreListed m s r) c.in-Terms.is listed in
    let e = c.as_slice.ensures.value in
    named_by_list m s r c.in-Terms.terms.items c.in_ok-named-in-Terms.named l.0
    (subst (λ xs. AreAtoms m s (map (reads m s) xs) c.in_ok-named-in-Terms.named) e (c.in_ok-named-in-Terms.ensures m n (subst (All (IsHeldAt m s)) (sym e) l.1)))

pub returns-in-Refused : goal.returns-in-Refused
returns-in-Refused c m r n listed = refused_by_list m c.args.store.now r c.in-Refused.fault (subst (AreListed m c.args.store.now r) c.in-Refused.is listed)
