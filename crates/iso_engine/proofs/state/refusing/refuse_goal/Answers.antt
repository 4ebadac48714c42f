use Rattle.pl_model.specs.BuiltinRows.{error}
use Rattle.world_api.specs.declared.visit.Procedure.{Procedure}
use Rattle.shared_builtins.specs.Faults.{fault_term}
use Rattle.iso_engine.proofs.RaisedRows.{fault_row, made_here, origin_at, raised_led}
use Rattle.iso_engine.proofs.state.refusing.refuse_goal.Goals as goal

pub follow_row-requires : goal.follow_row-requires
follow_row-requires c =
    let e = c.args.search.now in
    let w = c.args.goal in
    let p : Procedure = record { name = c.args.name; arity = c.args.arity } in
    let h = c.requires.held in
    let k = c.in_ok-row in
    let t = c.raise.new.store in
    let d = error (fault_term h.0 e.store c.args.fault) in
    record {
      made = (
        origin_at h.0 e.store w d,
        made_here h.0 h.1 e w p c.requires.whole c.requires.goal c.requires.fixed c.requires.procedure h.2 d t k.row
            (fault_row h.0 h.1 e w p c.requires.whole c.requires.goal c.requires.fixed c.requires.procedure h.2 c.args.fault h.3 t k.row k.ensures.row)
            k.ensures.single,
      );
      served = k.ensures.refuses;
      rest = c.requires.rest;
    }

pub returns-clause-after : goal.returns-clause-after
returns-clause-after c =
    let e = c.args.search.now in
    let w = c.args.goal in
    let p : Procedure = record { name = c.args.name; arity = c.args.arity } in
    let h = c.requires.held in
    let k = c.in_ok-row in
    let t = c.raise.new.store in
    let d = error (fault_term h.0 e.store c.args.fault) in
    c.in_ok-outcome.ensures.after (origin_at h.0 e.store w d)
    (made_here h.0 h.1 e w p c.requires.whole c.requires.goal c.requires.fixed c.requires.procedure h.2 d t k.row
    (fault_row h.0 h.1 e w p c.requires.whole c.requires.goal c.requires.fixed c.requires.procedure h.2 c.args.fault h.3 t k.row k.ensures.row)
    k.ensures.single)

pub returns-clause-led : goal.returns-clause-led
returns-clause-led c n s tells held fault_held view known =
    let e = c.args.search.now in
    let w = c.args.goal in
    let p : Procedure = record { name = c.args.name; arity = c.args.arity } in
    let k = c.in_ok-row in
    let t = c.raise.new.store in
    let d = error (fault_term n e.store c.args.fault) in
    let made = made_here n tells e w p c.requires.whole c.requires.goal c.requires.fixed c.requires.procedure held d t k.row
    (fault_row n tells e w p c.requires.whole c.requires.goal c.requires.fixed c.requires.procedure held c.args.fault fault_held t k.row k.ensures.row)
    k.ensures.single in
    let o = c.in_ok-outcome in
    raised_led n tells e w p c.requires.whole c.requires.goal c.requires.fixed c.requires.procedure held (fault_term n e.store c.args.fault) c.follow_row.new.search
    c.args.rest o.outcome s view known
    (o.ensures.step (origin_at n e.store w d) s made view known)
