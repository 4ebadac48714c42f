use Rattle.std.proofs.Common.{subst, refl}
use Rattle.pl_model.specs.Predicates.{proc_of}
use Rattle.iso_search.specs.Extending.{IsExtended, IsExtensionIn}
use Rattle.iso_search.proofs.Calling.{call_made, call_not_callable}
use Rattle.iso_search.proofs.Grown.{whole_grown}
use Rattle.iso_search.specs.declared.search.Search.{Search}
use Rattle.iso_search.proofs.After.{after_grown, refused}
use Rattle.iso_search.proofs.search.Search.call.Goals as goal

pub returns-in-Refused-clause-whole : goal.returns-in-Refused-clause-whole
returns-in-Refused-clause-whole c = whole_grown c.args.self.now c.extended_at.new.store c.extended_at.ensures.grows c.requires.whole

pub returns-in-Refused-clause-step : goal.returns-in-Refused-clause-step
returns-in-Refused-clause-step c t g view =
    let e = c.args.self.now in
    let s = c.extended_at.new.store in
    call_not_callable t e s c.extended_at.ensures.grows.stays c.requires.whole c.args.rest g c.args.first c.args.arguments c.in-Refused.fault
    (subst (λ x. IsExtended t.view e.store c.args.first c.args.arguments s x) c.in-Refused.is (c.in_ok-extension.ensures.extended t.view))

pub call_extended-requires-clause-whole : goal.call_extended-requires-clause-whole
call_extended-requires-clause-whole c = whole_grown c.args.self.now c.extended_at.new.store c.extended_at.ensures.grows c.requires.whole

pub returns-in_ok-outcome-in-Made-clause-step : goal.returns-in_ok-outcome-in-Made-clause-step
returns-in_ok-outcome-in-Made-clause-step c t g view =
    let e = c.args.self.now in
    let s = c.extended_at.new.store in
    let made = subst (λ x. IsExtended t.view e.store c.args.first c.args.arguments s x) c.in-Made.is (c.in_ok-extension.ensures.extended t.view) in
    call_made t e c.call_extended.new.self s c.extended_at.ensures.grows.stays c.requires.whole c.args.rest g c.args.first c.args.arguments c.in-Made.extended
    c.in_ok-outcome-in-Made.outcome made (c.in_ok-outcome-in-Made.ensures.step t (proc_of g) view)

pub call_extended-requires-clause-goal : goal.call_extended-requires-clause-goal
call_extended-requires-clause-goal c = subst (IsExtensionIn c.extended_at.new.store) c.in-Made.is c.in_ok-extension.ensures.inside

pub returns-in-Refused-clause-after : goal.returns-in-Refused-clause-after
returns-in-Refused-clause-after c =
    let e = c.args.self.now in
    let s = c.extended_at.new.store in
    let d : Search = record e { store = s } in
    refused e d c.in-Refused.fault c.extended_at.ensures.grows.stays c.requires.whole refl
    (subst (IsExtensionIn s) c.in-Refused.is c.in_ok-extension.ensures.inside)

pub returns-in_ok-outcome-in-Made-clause-after : goal.returns-in_ok-outcome-in-Made-clause-after
returns-in_ok-outcome-in-Made-clause-after c =
    let e = c.args.self.now in
    let d : Search = record e { store = c.extended_at.new.store } in
    after_grown e d c.call_extended.new.self c.in_ok-outcome-in-Made.outcome c.extended_at.ensures.grows.stays c.requires.whole refl
    c.in_ok-outcome-in-Made.ensures.after
