use Rattle.pl_model.specs.BuiltinRows.{one_answer}
use Rattle.pl_model.specs.Terms.{arguments}
use Rattle.world_builtins.specs.Spelling.{reads}
use Rattle.iso_engine.proofs.StateRows.{led_by, made_here, origin_of}
use Rattle.iso_engine.proofs.state.leads.succeed.Goals as goal

pub follow_row-requires : goal.follow_row-requires
follow_row-requires c =
    let e = c.args.search.now in
    let x = c.args.goal.now in
    let h = c.requires.held in
    let k = c.in_ok-row in
    let d = one_answer (arguments (reads h.0 e.store x.place)) in
    record {
      made = (
        origin_of h.0 e.store x d,
        made_here h.0 e x d c.requires.whole c.requires.goal h.2 c.succeeded.new.store k.row (k.ensures.row h.0 h.1.naming h.2) k.ensures.single,
      );
      served = k.ensures.refuses;
      rest = c.requires.rest;
    }

pub returns-clause-after : goal.returns-clause-after
returns-clause-after c =
    let e = c.args.search.now in
    let x = c.args.goal.now in
    let h = c.requires.held in
    let k = c.in_ok-row in
    let d = one_answer (arguments (reads h.0 e.store x.place)) in
    c.in_ok-outcome.ensures.after (origin_of h.0 e.store x d)
    (made_here h.0 e x d c.requires.whole c.requires.goal h.2 c.succeeded.new.store k.row (k.ensures.row h.0 h.1.naming h.2) k.ensures.single)

pub returns-clause-led : goal.returns-clause-led
returns-clause-led c n tells held =
    let e = c.args.search.now in
    let x = c.args.goal.now in
    let k = c.in_ok-row in
    let d = one_answer (arguments (reads n e.store x.place)) in
    let made = made_here n e x d c.requires.whole c.requires.goal held c.succeeded.new.store k.row (k.ensures.row n tells.naming held) k.ensures.single in
    let o = c.in_ok-outcome in
    led_by n e x d c.requires.whole c.requires.goal held c.follow_row.new.search c.args.rest o.outcome
    (λ s view known. o.ensures.step (origin_of n e.store x d) s made view known)
