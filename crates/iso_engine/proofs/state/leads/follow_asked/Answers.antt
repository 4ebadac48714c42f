use Rattle.std.proofs.Common.{sym, subst}
use Rattle.pl_model.specs.BuiltinRows.{error}
use Rattle.pl_model.specs.BuiltinRows as rows
use Rattle.term_store.specs.Contents.{Contents, Holds}
use Rattle.world_builtins.specs.Naming.{IsHeldAt}
use Rattle.iso_search.specs.declared.search.Search.{Search}
use Rattle.iso_search.specs.Outcomes.{IsAfter}
use Rattle.iso_search.specs.Searching.{IsWhole}
use Rattle.shared_builtins.specs.Faults.{IsFaultHeld, IsFaultIn, fault_term}
use Rattle.shared_builtins.specs.Goals.{IsStateGoal}
use Rattle.shared_builtins.specs.Replies.{IsReplied}
use Rattle.iso_engine.specs.State.{IsRowLed}
use Rattle.iso_engine.proofs.StateRows.{led_by, made_here, origin_of, table_led}
use Rattle.iso_engine.proofs.ToldLaws.{with_store}
use Rattle.iso_engine.proofs.state.leads.follow_asked.Goals as goal

pub follow_row-requires : goal.follow_row-requires
follow_row-requires c =
    let e = c.args.search.now in
    let x = c.args.goal.now in
    let h = c.requires.replied in
    let k = c.in_ok-replied in
    let t = c.follow_reply.new.store in
    let is = subst (IsReplied h.0 e.store e.next_variable x (h.2 h.3 e.next_variable) t) c.in-Row.is (k.ensures h.0 h.1 h.2 h.3 h.4) in
    let d = h.2 h.3 e.next_variable in
    record {
      made = (origin_of h.0 e.store x d, made_here h.0 e x d c.requires.whole c.requires.goal h.4.held t c.in-Row.row is.0 is.1.1);
      served = is.1.0;
      rest = c.requires.rest;
    }

pub returns-in_ok-outcome-in-Row-clause-led : goal.returns-in_ok-outcome-in-Row-clause-led
returns-in_ok-outcome-in-Row-clause-led c n q next r to =
    let e = c.args.search.now in
    let x = c.args.goal.now in
    let k = c.in_ok-replied in
    let t = c.follow_reply.new.store in
    let is = subst (IsReplied n e.store e.next_variable x (next r e.next_variable) t) c.in-Row.is (k.ensures n q next r to) in
    let d = next r e.next_variable in
    let made = made_here n e x d c.requires.whole c.requires.goal to.held t c.in-Row.row is.0 is.1.1 in
    let o = c.in_ok-outcome-in-Row in (
      led_by n e x d c.requires.whole c.requires.goal to.held c.follow_row.new.search c.args.rest o.outcome
          (λ s view known. o.ensures.step (origin_of n e.store x d) s made view known),
      o.ensures.after (origin_of n e.store x d) made,
    )

pub first_told-requires-clause-whole : goal.first_told-requires-clause-whole
first_told-requires-clause-whole c =
    let e = c.args.search.now in
    let x = c.args.goal.now in
    let h = c.requires.replied in
    let k = c.in_ok-replied in
    let t = c.follow_reply.new.store in
    let is = subst (IsReplied h.0 e.store e.next_variable x (h.2 h.3 e.next_variable) t) c.in-Table.is (k.ensures h.0 h.1 h.2 h.3 h.4) in
    subst IsWhole (sym (with_store e t is.1.0)) c.requires.whole

pub first_told-requires-clause-goal : goal.first_told-requires-clause-goal
first_told-requires-clause-goal c =
    let e = c.args.search.now in
    let x = c.args.goal.now in
    let h = c.requires.replied in
    let k = c.in_ok-replied in
    let t = c.follow_reply.new.store in
    let is = subst (IsReplied h.0 e.store e.next_variable x (h.2 h.3 e.next_variable) t) c.in-Table.is (k.ensures h.0 h.1 h.2 h.3 h.4) in
    subst (λ (y : Contents). Holds y x.place) (sym is.1.0) c.requires.goal.holds

pub returns-in_ok-outcome-in-Table-clause-led : goal.returns-in_ok-outcome-in-Table-clause-led
returns-in_ok-outcome-in-Table-clause-led c n q next r to =
    let e = c.args.search.now in
    let x = c.args.goal.now in
    let k = c.in_ok-replied in
    let t = c.follow_reply.new.store in
    let is = subst (IsReplied n e.store e.next_variable x (next r e.next_variable) t) c.in-Table.is (k.ensures n q next r to) in
    let d = next r e.next_variable in
    let o = c.in_ok-outcome-in-Table in
    let f = c.first_told.new.search in
    let same = with_store e t is.1.0 in (
      table_led n e (record e { store = t }) same x c.in-Table.lines.items is.1.1 d is.0 f c.args.rest o.outcome o.ensures.step,
      subst (λ (y : Search). IsAfter y f o.outcome) same o.ensures.after,
    )

pub returns-in-Error-clause-led : goal.returns-in-Error-clause-led
returns-in-Error-clause-led c n q next r to =
    let e = c.args.search.now in
    let x = c.args.goal.now in
    let k = c.in_ok-replied in
    let t = c.follow_reply.new.store in
    let is = subst (IsReplied n e.store e.next_variable x (next r e.next_variable) t) c.in-Error.is (k.ensures n q next r to) in
    (is.0, with_store e t is.1.0, is.1.1)

pub refuse-requires-clause-whole : goal.refuse-requires-clause-whole
refuse-requires-clause-whole c =
    let e = c.args.search.now in
    let x = c.args.goal.now in
    let h = c.requires.replied in
    let k = c.in_ok-replied in
    let t = c.follow_reply.new.store in
    let is = subst (IsReplied h.0 e.store e.next_variable x (h.2 h.3 e.next_variable) t) c.in-Refused.is (k.ensures h.0 h.1 h.2 h.3 h.4) in
    subst IsWhole (sym (with_store e t is.1.0)) c.requires.whole

pub refuse-requires-clause-goal : goal.refuse-requires-clause-goal
refuse-requires-clause-goal c =
    let e = c.args.search.now in
    let x = c.args.goal.now in
    let h = c.requires.replied in
    let k = c.in_ok-replied in
    let t = c.follow_reply.new.store in
    let is = subst (IsReplied h.0 e.store e.next_variable x (h.2 h.3 e.next_variable) t) c.in-Refused.is (k.ensures h.0 h.1 h.2 h.3 h.4) in
    subst (λ (y : Contents). IsStateGoal y x) (sym is.1.0) c.requires.goal

pub refuse-requires-clause-fault : goal.refuse-requires-clause-fault
refuse-requires-clause-fault c =
    let e = c.args.search.now in
    let x = c.args.goal.now in
    let h = c.requires.replied in
    let k = c.in_ok-replied in
    let t = c.follow_reply.new.store in
    let is = subst (IsReplied h.0 e.store e.next_variable x (h.2 h.3 e.next_variable) t) c.in-Refused.is (k.ensures h.0 h.1 h.2 h.3 h.4) in
    subst (λ (y : Contents). IsFaultIn y c.in-Refused.fault) (sym is.1.0) is.1.1.0

pub refuse-requires-clause-held : goal.refuse-requires-clause-held
refuse-requires-clause-held c =
    let e = c.args.search.now in
    let x = c.args.goal.now in
    let h = c.requires.replied in
    let k = c.in_ok-replied in
    let t = c.follow_reply.new.store in
    let is = subst (IsReplied h.0 e.store e.next_variable x (h.2 h.3 e.next_variable) t) c.in-Refused.is (k.ensures h.0 h.1 h.2 h.3 h.4) in
    (h.0, h.4.tells, subst (λ (y : Contents). IsHeldAt h.0 y x.place) (sym is.1.0) h.4.held, subst (λ (y : Contents). IsFaultHeld h.0 y c.in-Refused.fault) (sym is.1.0) is.1.1.1)

pub returns-in_ok-outcome-in-Refused-clause-led : goal.returns-in_ok-outcome-in-Refused-clause-led
returns-in_ok-outcome-in-Refused-clause-led c n q next r to =
    let e = c.args.search.now in
    let x = c.args.goal.now in
    let k = c.in_ok-replied in
    let t = c.follow_reply.new.store in
    let is = subst (IsReplied n e.store e.next_variable x (next r e.next_variable) t) c.in-Refused.is (k.ensures n q next r to) in
    let d = next r e.next_variable in
    let o = c.in_ok-outcome-in-Refused in
    let f = c.refuse.new.search in
    let fault = c.in-Refused.fault in
    let same = with_store e t is.1.0 in
    let led : IsRowLed n e x c.args.rest (error (fault_term n e.store fault)) f o.outcome =
    subst (λ (y : Search). IsHeldAt n y.store x.place → IsFaultHeld n y.store fault → IsRowLed n y x c.args.rest (error (fault_term n y.store fault)) f o.outcome) same
    (λ a b. o.ensures.led n to.tells a b) to.held is.1.1.1 in (
      subst (λ (y : rows.Row). IsRowLed n e x c.args.rest y f o.outcome) (sym is.0) led,
      subst (λ (y : Search). IsAfter y f o.outcome) same o.ensures.after,
    )

pub returns-in-Error-clause-whole : goal.returns-in-Error-clause-whole
returns-in-Error-clause-whole c =
    let e = c.args.search.now in
    let x = c.args.goal.now in
    let h = c.requires.replied in
    let k = c.in_ok-replied in
    let t = c.follow_reply.new.store in
    let is = subst (IsReplied h.0 e.store e.next_variable x (h.2 h.3 e.next_variable) t) c.in-Error.is (k.ensures h.0 h.1 h.2 h.3 h.4) in
    subst IsWhole (sym (with_store e t is.1.0)) c.requires.whole
