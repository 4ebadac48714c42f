use Rattle.pl_model.specs.BuiltinRows.{error}
use Rattle.shared_builtins.specs.Faults.{fault_term}
use Rattle.iso_engine.proofs.StateRows.{fault_row, led_by, made_here, origin_of}
use Rattle.iso_engine.proofs.state.leads.refuse.Goals as goal

pub follow_row-requires : goal.follow_row-requires
follow_row-requires c =
    let e = c.args.search.now in
    let x = c.args.goal.now in
    let h = c.requires.held in
    let k = c.in_ok-row in
    let t = c.raise.new.store in
    let d = error (fault_term h.0 e.store c.args.fault) in
    record {
      made = (
        origin_of h.0 e.store x d,
        made_here h.0 e x d c.requires.whole c.requires.goal h.2 t k.row
            (fault_row h.0 h.1 e x c.args.fault c.requires.whole c.requires.goal h.2 h.3 t k.row c.arguments_taken.result c.arguments_taken.ensures k.ensures.row)
            k.ensures.single,
      );
      served = k.ensures.refuses;
      rest = c.requires.rest;
    }

pub returns-clause-after : goal.returns-clause-after
returns-clause-after c =
    let e = c.args.search.now in
    let x = c.args.goal.now in
    let h = c.requires.held in
    let k = c.in_ok-row in
    let t = c.raise.new.store in
    let d = error (fault_term h.0 e.store c.args.fault) in
    c.in_ok-outcome.ensures.after (origin_of h.0 e.store x d)
    (made_here h.0 e x d c.requires.whole c.requires.goal h.2 t k.row
    (fault_row h.0 h.1 e x c.args.fault c.requires.whole c.requires.goal h.2 h.3 t k.row c.arguments_taken.result c.arguments_taken.ensures k.ensures.row)
    k.ensures.single)

pub returns-clause-led : goal.returns-clause-led
returns-clause-led c n tells held fault_held =
    let e = c.args.search.now in
    let x = c.args.goal.now in
    let k = c.in_ok-row in
    let t = c.raise.new.store in
    let d = error (fault_term n e.store c.args.fault) in
    let made = made_here n e x d c.requires.whole c.requires.goal held t k.row
    (fault_row n tells e x c.args.fault c.requires.whole c.requires.goal held fault_held t k.row c.arguments_taken.result c.arguments_taken.ensures k.ensures.row)
    k.ensures.single in
    let o = c.in_ok-outcome in
    led_by n e x d c.requires.whole c.requires.goal held c.follow_row.new.search c.args.rest o.outcome
    (λ s view known. o.ensures.step (origin_of n e.store x d) s made view known)
