use Rattle.std.proofs.Common.{sym, ◌∙◌, codes}
use Rattle.std.specs.Prelude.{Some}
use Rattle.pl_term.specs.Tree.{atom}
use Rattle.pl_model.specs.ErrorTerms.{permission_error}
use Rattle.pl_model.specs.Requests as requests
use Rattle.counted_terms.proofs.MadeTerms.{held_some}
use Rattle.hub_threads.specs.Rows.{updates_in}
use Rattle.hub_threads.proofs.Creating.{taken}
use Rattle.hub_threads.proofs.RefusedRows.{message_queue_is, refuses_decides}
use Rattle.hub_threads.proofs.Sending.{nothing_below}
use Rattle.hub_threads.proofs.queues.create_aliased.Goals as goal

pub returns-then-is_alias-clause-below : goal.returns-then-is_alias-clause-below
returns-then-is_alias-clause-below c = nothing_below c.args.queues.now c.args.count.now c.args.generation (updates_in c.alias_taken.result) c.requires.below

pub returns-then-is_alias-clause-says : goal.returns-then-is_alias-clause-says
returns-then-is_alias-clause-says c = λ k m e goals h stand held long stands.
    refuses_decides k m e (requests.create_queue (Some c.args.text)) c.args.queues.now c.args.count.now goals h (permission_error (codes "create") (codes "message_queue") (atom c.args.text))
    (taken k c.args.queues.now c.args.count.now goals h stands e c.args.text (sym c.is_alias.ensures ∙ c.if-is_alias.true))
    stands c.alias_taken.result (c.alias_taken.ensures.says m (codes "message_queue") c.args.text stand (stand 119 (codes "message_queue") message_queue_is) held)

pub returns-then-is_alias-clause-named : goal.returns-then-is_alias-clause-named
returns-then-is_alias-clause-named c = λ m stand held. c.alias_taken.ensures.named m stand (held_some m 119 (codes "message_queue") (stand 119 (codes "message_queue") message_queue_is)) held

pub create_named-requires-clause-free : goal.create_named-requires-clause-free
create_named-requires-clause-free c = sym c.is_alias.ensures ∙ c.if-is_alias.false
