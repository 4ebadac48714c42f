use Rattle.std.proofs.Common.{Option, Some, sym, ap, subst, ◌∙◌}
use Rattle.std.specs.Prelude.{option_and_then}
use Rattle.pl_model.specs.declared.threads.Name.{Name}
use Rattle.pl_model.specs.Threads.{thread_named}
use Rattle.hub_threads.specs.Finding.{FindsThread}
use Rattle.hub_threads.proofs.finding.find_thread.Goals as goal

pub returns-in-None-clause-finds : goal.returns-in-None-clause-finds
returns-in-None-clause-finds g c = ap (option_and_then (thread_named c.args.queues.now.state)) (c.in-None.ensures.says _ c.args.atoms.now.lawful.stand)

pub returns-in-Ok-clause-finds : goal.returns-in-Ok-clause-finds
returns-in-Ok-clause-finds g c =
    subst (λ (o : Option Name). FindsThread c.args.queues.now.state o c.found_thread.result)
    (sym (c.in-Some.ensures.says _ c.args.atoms.now.lawful.stand ∙ ap Some (sym c.in-Ok.ensures.says))) c.found_thread.ensures
