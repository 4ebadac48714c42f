use Rattle.std.proofs.Common.{List, ◌++◌, refl, sym, ap, subst, ◌∙◌, append-nil, arith, codes}
use Rattle.std.specs.List.{All}
use Rattle.std.specs.Option.{IsSome}
use Rattle.pl_model.specs.ErrorTerms.{existence_error, resource_error}
use Rattle.pl_model.specs.Requests as requests
use Rattle.atom_api.specs.Names.{Names}
use Rattle.atom_words.specs.Seats.{seen}
use Rattle.atom_words.specs.declared.view.Refusal.{Refusal}
use Rattle.atom_table.specs.Naming.{names}
use Rattle.term_store.specs.NumberedNames.{names_of}
use Rattle.counted_terms.specs.CountedTerms.{said}
use Rattle.counted_terms.specs.Keeping.{keeper_view, kept}
use Rattle.counted_terms.specs.Rows.{row_names, row_refusals}
use Rattle.hub_threads.specs.Rows.{Decides, updates_in}
use Rattle.hub_threads.specs.Threads.{thread_counts}
use Rattle.hub_threads.proofs.RefusedRows.{refuses_decides, send_missing}
use Rattle.hub_threads.proofs.Sending.{nothing_below, nothing_restores, send_worn}
use Rattle.hub_threads.proofs.messages.send_message.Goals as goal

-- OUT OF MEMORY
pub returns-in-Memory-clause-restored : goal.returns-in-Memory-clause-restored
returns-in-Memory-clause-restored g c = nothing_restores (thread_counts c.args.queues.now) (keeper_view c.args.keeper.now) (keeper_view c.args.keeper.now) c.args.generation 0 refl (λ a. refl)

pub returns-in-Memory-clause-below : goal.returns-in-Memory-clause-below
returns-in-Memory-clause-below g c = λ count below. nothing_below c.args.queues.now count c.args.generation 0 below

-- NO QUEUE
pub returns-in-Missing-clause-restored : goal.returns-in-Missing-clause-restored
returns-in-Missing-clause-restored g c = nothing_restores (thread_counts c.args.queues.now) (keeper_view c.args.keeper.now) (keeper_view c.args.keeper.now) c.args.generation (updates_in c.no_queue.result) refl (λ a. refl)

pub returns-in-Missing-clause-below : goal.returns-in-Missing-clause-below
returns-in-Missing-clause-below g c = λ count below. nothing_below c.args.queues.now count c.args.generation (updates_in c.no_queue.result) below

pub returns-in-Missing-clause-says : goal.returns-in-Missing-clause-says
returns-in-Missing-clause-says g c = λ e count goals h long stands.
    let k = keeper_view c.args.keeper.now in
    let q = c.args.queues.now in
    let m = names (seen c.args.atoms.now.seat) in
    let x = said m c.args.queue.now in
    let r = requests.send_message x (said m c.args.message) in
    subst (λ (z : Names). Decides k z e r q count goals h c.no_queue.result) (sym c.find_queue.ensures.held)
    (refuses_decides k m e r q count goals h (existence_error (codes "message_queue") x)
    (send_missing k q count goals h (said (kept k)) stands.threads e x c.in-Missing.ensures.finds (said m c.args.message)) stands c.no_queue.result (c.no_queue.ensures.says m c.args.atoms.now.lawful.stand))

pub returns-in-Missing-clause-named : goal.returns-in-Missing-clause-named
returns-in-Missing-clause-named g c =
    subst (λ (z : Names). All (λ a. IsSome (z a)) (row_names c.no_queue.result)) (sym c.find_queue.ensures.held)
    (c.no_queue.ensures.named (names (seen c.args.atoms.now.seat)) c.args.atoms.now.lawful.stand c.requires.queue)

-- NO UPDATE IS MADE ANY MORE
pub returns-then-generation-ge-MOST_UPDATES-clause-restored : goal.returns-then-generation-ge-MOST_UPDATES-clause-restored
returns-then-generation-ge-MOST_UPDATES-clause-restored g c = nothing_restores (thread_counts c.args.queues.now) (keeper_view c.args.keeper.now) (keeper_view c.args.keeper.now) c.args.generation (updates_in c.worn_out.result) refl (λ a. refl)

pub returns-then-generation-ge-MOST_UPDATES-clause-below : goal.returns-then-generation-ge-MOST_UPDATES-clause-below
returns-then-generation-ge-MOST_UPDATES-clause-below g c = λ count below. nothing_below c.args.queues.now count c.args.generation (updates_in c.worn_out.result) below

pub returns-then-generation-ge-MOST_UPDATES-clause-says : goal.returns-then-generation-ge-MOST_UPDATES-clause-says
returns-then-generation-ge-MOST_UPDATES-clause-says g c = λ e count goals h long stands.
    let k = keeper_view c.args.keeper.now in
    let q = c.args.queues.now in
    let m = names (seen c.args.atoms.now.seat) in
    let x = said m c.args.queue.now in
    let t = said m c.args.message in
    subst (λ (z : Names). Decides k z e (requests.send_message x t) q count goals h c.worn_out.result) (sym c.find_queue.ensures.held)
    (refuses_decides k m e (requests.send_message x t) q count goals h (resource_error (codes "generations"))
    (send_worn k q count goals h stands e x c.in-Is.name c.in-Is.ensures.finds.0 c.in-Is.ensures.finds.1 t (let high = c.if-generation-ge-MOST_UPDATES.true in let l = long in omega (arith, high, l)))
    stands c.worn_out.result (c.worn_out.ensures.says m c.args.atoms.now.lawful.stand))

pub returns-then-generation-ge-MOST_UPDATES-clause-named : goal.returns-then-generation-ge-MOST_UPDATES-clause-named
returns-then-generation-ge-MOST_UPDATES-clause-named g c = c.worn_out.ensures.named (names (seen c.find_queue.new.atoms.seat)) c.find_queue.new.atoms.lawful.stand

-- WHAT WAS HELD, AND WHAT WAS REFUSED
pub returns-in-Memory-clause-holds : goal.returns-in-Memory-clause-holds
returns-in-Memory-clause-holds g c = λ a t e. ap (λ (f : Names). f a) c.find_queue.ensures.held ∙ e

pub returns-in-Memory-clause-refusals : goal.returns-in-Memory-clause-refusals
returns-in-Memory-clause-refusals g c = c.find_queue.ensures.refusals ∙ sym (append-nil (seen c.args.atoms.now.seat).refusals)

pub returns-in-Missing-clause-holds : goal.returns-in-Missing-clause-holds
returns-in-Missing-clause-holds g c = λ a t e. ap (λ (f : Names). f a) c.find_queue.ensures.held ∙ e

pub returns-in-Missing-clause-refusals : goal.returns-in-Missing-clause-refusals
returns-in-Missing-clause-refusals g c = c.find_queue.ensures.refusals ∙ sym (append-nil (seen c.args.atoms.now.seat).refusals) ∙ ap (λ (l : List Refusal). (seen c.args.atoms.now.seat).refusals ++ l) (sym c.no_queue.ensures.refusals)

pub returns-then-generation-ge-MOST_UPDATES-clause-holds : goal.returns-then-generation-ge-MOST_UPDATES-clause-holds
returns-then-generation-ge-MOST_UPDATES-clause-holds g c = λ a t e. ap (λ (f : Names). f a) c.find_queue.ensures.held ∙ e

pub returns-then-generation-ge-MOST_UPDATES-clause-refusals : goal.returns-then-generation-ge-MOST_UPDATES-clause-refusals
returns-then-generation-ge-MOST_UPDATES-clause-refusals g c = c.find_queue.ensures.refusals ∙ sym (append-nil (seen c.args.atoms.now.seat).refusals) ∙ ap (λ (l : List Refusal). (seen c.args.atoms.now.seat).refusals ++ l) (sym c.worn_out.ensures.refusals)

-- THE MESSAGE IS PUT INTO THE QUEUE
pub put_message-requires-clause-message : goal.put_message-requires-clause-message
put_message-requires-clause-message g c = subst (λ (z : Names). All (λ a. IsSome (z a)) (names_of c.args.message)) (sym c.find_queue.ensures.held) c.requires.message

pub put_message-requires-clause-there : goal.put_message-requires-clause-there
put_message-requires-clause-there g c = c.in-Is.ensures.finds.1

pub returns-else-generation-ge-MOST_UPDATES-clause-says : goal.returns-else-generation-ge-MOST_UPDATES-clause-says
returns-else-generation-ge-MOST_UPDATES-clause-says g c = λ e count goals h long stands.
    let n = names (seen c.args.atoms.now.seat) in
    subst (λ (z : Names). Decides (keeper_view c.put_message.new.keeper) (names (seen c.put_message.new.atoms.seat)) e (requests.send_message (said n c.args.queue.now) (said z c.args.message)) c.put_message.new.queues count goals h c.put_message.result) c.find_queue.ensures.held
    (c.put_message.ensures.says e count goals h (said n c.args.queue.now) long stands c.in-Is.ensures.finds.0)

pub returns-else-generation-ge-MOST_UPDATES-clause-holds : goal.returns-else-generation-ge-MOST_UPDATES-clause-holds
returns-else-generation-ge-MOST_UPDATES-clause-holds g c = λ a t e. ap (λ (f : Names). f a) (c.put_message.ensures.held ∙ c.find_queue.ensures.held) ∙ e

pub returns-else-generation-ge-MOST_UPDATES-clause-refusals : goal.returns-else-generation-ge-MOST_UPDATES-clause-refusals
returns-else-generation-ge-MOST_UPDATES-clause-refusals g c = c.put_message.ensures.refusals ∙ ap (λ (l : List Refusal). l ++ row_refusals c.put_message.result) c.find_queue.ensures.refusals

pub returns-else-generation-ge-MOST_UPDATES-clause-asked : goal.returns-else-generation-ge-MOST_UPDATES-clause-asked
returns-else-generation-ge-MOST_UPDATES-clause-asked g c = c.put_message.ensures.asked ∙ c.find_queue.ensures.requests
