use Rattle.std.proofs.Common.{codes, sym, subst}
use Rattle.pl_model.specs.History.{proc}
use Rattle.builtin_rows.specs.Rows.{IsRow}
use Rattle.builtin_rows.proofs.Balls.{inferences_is, resource_is}
use Rattle.builtin_rows.proofs.Numbers.{no_numbers}
use Rattle.builtin_rows.proofs.room.take_room.Goals as goal

pub returns-then-fresh-next-clause-refused : goal.returns-then-fresh-next-clause-refused
returns-then-fresh-next-clause-refused c m p ts a stands f fresh made =
    let s = c.args.store.now in
    subst (λ g. IsRow s c.args.next ts g m c.refused_with.new.store c.in_ok-row.row)
    (sym (no_numbers (proc p c.args.arity) c.args.next s.used s.budget c.args.fresh a fresh c.if-fresh-next.true))
    (c.in_ok-row.ensures.row m (codes "resource_error") (codes "inferences") p c.args.next ts stands resource_is inferences_is f)
