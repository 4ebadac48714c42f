use Rattle.std.proofs.Common.{◌∙◌, ap, sym}
use Rattle.std.specs.List.{list_any}
use Rattle.pl_model.specs.Threads.{is_alias}
use Rattle.hub_threads.specs.Held.{is_spelled}
use Rattle.hub_threads.proofs.Searched.{none_any, some_any}
use Rattle.hub_threads.proofs.held.queues.Queues.is_alias.Goals as goal

pub returns-in-None : goal.returns-in-None
returns-in-None g c =
    sym (ap (λ h. is_alias h.state c.args.name.now) (sym c.self.view_is)
    ∙ ap (list_any (is_spelled c.args.name.now)) (sym c.as_slice.ensures.value)
    ∙ none_any (is_spelled c.args.name.now) c.as_slice.result.now c.in-None.ensures)

pub returns-in-Some : goal.returns-in-Some
returns-in-Some g c =
    sym (ap (λ h. is_alias h.state c.args.name.now) (sym c.self.view_is)
    ∙ ap (list_any (is_spelled c.args.name.now)) (sym c.as_slice.ensures.value)
    ∙ some_any (is_spelled c.args.name.now) c.as_slice.result.now c.in-Some.ensures.item c.in-Some.ensures.found_is)
