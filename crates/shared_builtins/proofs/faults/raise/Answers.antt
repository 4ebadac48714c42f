use Rattle.std.proofs.Common.{sym}
use Rattle.builtin_rows.proofs.Balls.{thrown_row}
use Rattle.shared_builtins.specs.Faults.{fault_term}
use Rattle.shared_builtins.proofs.faults.raise.Goals as goal

pub ball_of-requires : goal.ball_of-requires
ball_of-requires c = c.in_ok-term.ensures.made.1

pub returns-clause-row : goal.returns-clause-row
returns-clause-row c m p next ts stands held f =
    let s = c.args.store.now in
    thrown_row m stands c.term_of.new.store c.ball_of.new.store c.in_ok-term.term c.args.name c.args.arity p f c.in_ok-ball.ball c.in_ok-ball.ensures s next ts
    (fault_term m s c.args.fault) c.in_ok-term.ensures.made.0 (sym (c.in_ok-term.ensures.term m stands)) (c.in_ok-term.ensures.held m stands held)
