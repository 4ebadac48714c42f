use Rattle.std.proofs.Common.{◌≡◌, List, ◌++◌, refl, sym, ap, ◌∙◌, append-nil, arith, codes}
use Rattle.std.specs.Prelude.{false}
use Rattle.pl_term.specs.Tree.{Tree}
use Rattle.pl_model.specs.ErrorTerms.{permission_error, resource_error}
use Rattle.pl_model.specs.Requests as requests
use Rattle.pl_model.specs.Threads.{Queue, queue_named}
use Rattle.atom_words.specs.Seats.{seen}
use Rattle.atom_words.specs.declared.view.Refusal.{Refusal}
use Rattle.atom_table.specs.Naming.{names}
use Rattle.counted_terms.specs.CountedTerms.{said}
use Rattle.counted_terms.specs.Keeping.{keeper_view}
use Rattle.counted_terms.proofs.MadeTerms.{held_some}
use Rattle.hub_threads.specs.Rows.{updates_in}
use Rattle.hub_threads.specs.Threads.{thread_counts}
use Rattle.hub_threads.proofs.DestroyedQueues.{destroy_own, destroy_worn}
use Rattle.hub_threads.proofs.RefusedRows.{destroy_is, message_queue_is, refuses_decides}
use Rattle.hub_threads.proofs.Sending.{at_some, nothing_below, nothing_restores, some_at, some_of}
use Rattle.hub_threads.proofs.destroying.destroy_found.Goals as goal

-- A THREAD'S OWN QUEUE
pub returns-then-is_own-clause-restored : goal.returns-then-is_own-clause-restored
returns-then-is_own-clause-restored g c = nothing_restores (thread_counts c.args.queues.now) (keeper_view c.args.keeper.now) (keeper_view c.args.keeper.now) c.args.generation (updates_in c.not_permitted.result) refl (λ a. refl)

pub returns-then-is_own-clause-below : goal.returns-then-is_own-clause-below
returns-then-is_own-clause-below g c = λ count below. nothing_below c.args.queues.now count c.args.generation (updates_in c.not_permitted.result) below

pub returns-then-is_own-clause-says : goal.returns-then-is_own-clause-says
returns-then-is_own-clause-says g c = λ e count goals h long stands.
    let k = keeper_view c.args.keeper.now in
    let q = c.args.queues.now in
    let m = names (seen c.args.atoms.now.seat) in
    let y = said m c.args.queue.now in
    let x = some_of (queue_named q.state c.args.name.now) c.requires.there in
    refuses_decides k m e (requests.destroy_queue y) q count goals h (permission_error (codes "destroy") (codes "message_queue") y)
    (destroy_own k q count goals h stands e y c.args.name.now c.requires.named x.0 x.1 (sym (at_some _ (queue_named q.state c.args.name.now) x.0 x.1 c.is_own.ensures) ∙ c.if-is_own.true))
    stands c.not_permitted.result
    (c.not_permitted.ensures.says m (codes "destroy") (codes "message_queue") c.args.atoms.now.lawful.stand (c.args.atoms.now.lawful.stand 73 (codes "destroy") destroy_is) (c.args.atoms.now.lawful.stand 119 (codes "message_queue") message_queue_is))

pub returns-then-is_own-clause-named : goal.returns-then-is_own-clause-named
returns-then-is_own-clause-named g c =
    let m = names (seen c.args.atoms.now.seat) in
    c.not_permitted.ensures.named m c.args.atoms.now.lawful.stand
    (held_some m 73 (codes "destroy") (c.args.atoms.now.lawful.stand 73 (codes "destroy") destroy_is))
    (held_some m 119 (codes "message_queue") (c.args.atoms.now.lawful.stand 119 (codes "message_queue") message_queue_is))
    c.requires.queue

pub returns-then-is_own-clause-refusals : goal.returns-then-is_own-clause-refusals
returns-then-is_own-clause-refusals g c = sym (append-nil (seen c.args.atoms.now.seat).refusals) ∙ ap (λ (l : List Refusal). (seen c.args.atoms.now.seat).refusals ++ l) (sym c.not_permitted.ensures.refusals)

-- NO UPDATE IS MADE ANY MORE
pub returns-then-generation-ge-MOST_UPDATES-clause-restored : goal.returns-then-generation-ge-MOST_UPDATES-clause-restored
returns-then-generation-ge-MOST_UPDATES-clause-restored g c = nothing_restores (thread_counts c.args.queues.now) (keeper_view c.args.keeper.now) (keeper_view c.args.keeper.now) c.args.generation (updates_in c.worn_out.result) refl (λ a. refl)

pub returns-then-generation-ge-MOST_UPDATES-clause-below : goal.returns-then-generation-ge-MOST_UPDATES-clause-below
returns-then-generation-ge-MOST_UPDATES-clause-below g c = λ count below. nothing_below c.args.queues.now count c.args.generation (updates_in c.worn_out.result) below

pub returns-then-generation-ge-MOST_UPDATES-clause-says : goal.returns-then-generation-ge-MOST_UPDATES-clause-says
returns-then-generation-ge-MOST_UPDATES-clause-says g c = λ e count goals h long stands.
    let k = keeper_view c.args.keeper.now in
    let q = c.args.queues.now in
    let m = names (seen c.args.atoms.now.seat) in
    let y = said m c.args.queue.now in
    let x = some_of (queue_named q.state c.args.name.now) c.requires.there in
    refuses_decides k m e (requests.destroy_queue y) q count goals h (resource_error (codes "generations"))
    (destroy_worn k q count goals h stands e y c.args.name.now c.requires.named x.0 x.1 (sym (at_some _ (queue_named q.state c.args.name.now) x.0 x.1 c.is_own.ensures) ∙ c.if-is_own.false) (let high = c.if-generation-ge-MOST_UPDATES.true in let l = long in omega (arith, high, l)))
    stands c.worn_out.result (c.worn_out.ensures.says m c.args.atoms.now.lawful.stand)

pub returns-then-generation-ge-MOST_UPDATES-clause-named : goal.returns-then-generation-ge-MOST_UPDATES-clause-named
returns-then-generation-ge-MOST_UPDATES-clause-named g c = c.worn_out.ensures.named (names (seen c.args.atoms.now.seat)) c.args.atoms.now.lawful.stand

pub returns-then-generation-ge-MOST_UPDATES-clause-refusals : goal.returns-then-generation-ge-MOST_UPDATES-clause-refusals
returns-then-generation-ge-MOST_UPDATES-clause-refusals g c = sym (append-nil (seen c.args.atoms.now.seat).refusals) ∙ ap (λ (l : List Refusal). (seen c.args.atoms.now.seat).refusals ++ l) (sym c.worn_out.ensures.refusals)

-- IT IS DESTROYED
pub drop_found-requires-clause-free : goal.drop_found-requires-clause-free
drop_found-requires-clause-free g c =
    let o = queue_named c.args.queues.now.state c.args.name.now in
    let x = some_of o c.requires.there in
    some_at (λ (y : Queue Tree). y.is_own ≡ false) o x.0 x.1 (sym (at_some _ o x.0 x.1 c.is_own.ensures) ∙ c.if-is_own.false)

pub returns-clause-says : goal.returns-clause-says
returns-clause-says g c = λ e count goals h long stands.
    c.drop_found.ensures.says (names (seen c.drop_found.new.atoms.seat)) e count goals h (said (names (seen c.args.atoms.now.seat)) c.args.queue.now) long stands c.requires.named
