use Rattle.std.proofs.Common.{◌≡◌, ◌+◌, List, ◌++◌, refl, sym, ap, subst, ◌∙◌, append-nil, arith, codes}
use Rattle.std.specs.Prelude.{Some}
use Rattle.std.specs.List.{All}
use Rattle.std.specs.Option.{IsSome}
use Rattle.pl_model.specs.ErrorTerms.{existence_error}
use Rattle.pl_model.specs.Requests as requests
use Rattle.pl_model.specs.Service.{name_of}
use Rattle.atom_api.specs.Names.{Names}
use Rattle.atom_words.specs.Seats.{seen}
use Rattle.atom_words.specs.declared.view.Refusal.{Refusal}
use Rattle.atom_table.specs.Naming.{names}
use Rattle.term_store.specs.NumberedNames.{names_of}
use Rattle.counted_terms.specs.CountedTerms.{said}
use Rattle.counted_terms.specs.Keeping.{keeper_view, kept}
use Rattle.counted_terms.specs.Rows.{row_names, row_refusals}
use Rattle.counted_terms.proofs.Sharing.{restored_wider}
use Rattle.hub_threads.specs.Rows.{Decides, updates_in}
use Rattle.hub_threads.specs.Threads.{thread_counts}
use Rattle.hub_threads.proofs.RefusedRows.{get_missing, refuses_decides}
use Rattle.hub_threads.proofs.Sending.{nothing_below, nothing_restores}
use Rattle.hub_threads.proofs.taking.get_message.Goals as goal

-- OUT OF MEMORY
pub returns-in-Memory-clause-restored : goal.returns-in-Memory-clause-restored
returns-in-Memory-clause-restored g c = nothing_restores (thread_counts c.args.queues.now) (keeper_view c.args.keeper.now) (keeper_view c.args.keeper.now) c.args.generation 0 refl (λ a. refl)

pub returns-in-Memory-clause-below : goal.returns-in-Memory-clause-below
returns-in-Memory-clause-below g c = λ count below. nothing_below c.args.queues.now count c.args.generation 0 below

-- NO QUEUE
pub returns-in-Missing-clause-restored : goal.returns-in-Missing-clause-restored
returns-in-Missing-clause-restored g c = nothing_restores (thread_counts c.args.queues.now) (keeper_view c.args.keeper.now) (keeper_view c.args.keeper.now) c.args.generation (updates_in c.no_queue.result) refl (λ a. refl)

pub returns-in-Missing-clause-below : goal.returns-in-Missing-clause-below
returns-in-Missing-clause-below g c = λ count below. nothing_below c.args.queues.now count c.args.generation (updates_in c.no_queue.result) below

pub returns-in-Missing-clause-says : goal.returns-in-Missing-clause-says
returns-in-Missing-clause-says g c = λ e count goals h long stands.
    let k = keeper_view c.args.keeper.now in
    let q = c.args.queues.now in
    let m = names (seen c.args.atoms.now.seat) in
    let x = said m c.args.queue.now in
    let r = requests.get_message (Some x) (said m c.args.pattern.now) in
    subst (λ (z : Names). Decides k z e r q count goals h c.no_queue.result) (sym c.find_queue.ensures.held)
    (refuses_decides k m e r q count goals h (existence_error (codes "message_queue") x)
    (get_missing k q count goals h (said (kept k)) stands.threads e x c.in-Missing.ensures.finds (said m c.args.pattern.now)) stands c.no_queue.result (c.no_queue.ensures.says m c.args.atoms.now.lawful.stand))

pub returns-in-Missing-clause-named : goal.returns-in-Missing-clause-named
returns-in-Missing-clause-named g c =
    subst (λ (z : Names). All (λ a. IsSome (z a)) (row_names c.no_queue.result)) (sym c.find_queue.ensures.held)
    (c.no_queue.ensures.named (names (seen c.args.atoms.now.seat)) c.args.atoms.now.lawful.stand c.requires.queue)

-- WHAT WAS HELD, AND WHAT WAS REFUSED
pub returns-in-Memory-clause-holds : goal.returns-in-Memory-clause-holds
returns-in-Memory-clause-holds g c = λ a t e. ap (λ (f : Names). f a) c.find_queue.ensures.held ∙ e

pub returns-in-Memory-clause-refusals : goal.returns-in-Memory-clause-refusals
returns-in-Memory-clause-refusals g c = c.find_queue.ensures.refusals ∙ sym (append-nil (seen c.args.atoms.now.seat).refusals)

pub returns-in-Missing-clause-holds : goal.returns-in-Missing-clause-holds
returns-in-Missing-clause-holds g c = λ a t e. ap (λ (f : Names). f a) c.find_queue.ensures.held ∙ e

pub returns-in-Missing-clause-refusals : goal.returns-in-Missing-clause-refusals
returns-in-Missing-clause-refusals g c = c.find_queue.ensures.refusals ∙ sym (append-nil (seen c.args.atoms.now.seat).refusals) ∙ ap (λ (l : List Refusal). (seen c.args.atoms.now.seat).refusals ++ l) (sym c.no_queue.ensures.refusals)

-- NO UPDATE IS MADE ANY MORE
pub see_message-requires-clause-queue : goal.see_message-requires-clause-queue
see_message-requires-clause-queue g c = subst (λ (z : Names). All (λ a. IsSome (z a)) (names_of c.args.queue.now)) (sym c.find_queue.ensures.held) c.requires.queue

pub see_message-requires-clause-pattern : goal.see_message-requires-clause-pattern
see_message-requires-clause-pattern g c = subst (λ (z : Names). All (λ a. IsSome (z a)) (names_of c.args.pattern.now)) (sym c.find_queue.ensures.held) c.requires.pattern

pub see_message-requires-clause-named : goal.see_message-requires-clause-named
see_message-requires-clause-named g c = subst (λ (z : Names). name_of (said z c.args.queue.now) ≡ Some c.in-Is.name) (sym c.find_queue.ensures.held) c.in-Is.ensures.finds.0

pub see_message-requires-clause-there : goal.see_message-requires-clause-there
see_message-requires-clause-there g c = c.in-Is.ensures.finds.1

pub see_message-requires-clause-counts : goal.see_message-requires-clause-counts
see_message-requires-clause-counts g c = (c.args.generation, c.requires.counts)

pub returns-then-generation-ge-MOST_UPDATES-clause-restored : goal.returns-then-generation-ge-MOST_UPDATES-clause-restored
returns-then-generation-ge-MOST_UPDATES-clause-restored g c = restored_wider (thread_counts c.args.queues.now) (thread_counts c.args.queues.now) (keeper_view c.args.keeper.now) (keeper_view c.see_message.new.keeper) c.args.generation c.args.generation (c.args.generation + updates_in c.see_message.result) (c.see_message.ensures.restored c.args.generation) (omega arith)

pub returns-then-generation-ge-MOST_UPDATES-clause-below : goal.returns-then-generation-ge-MOST_UPDATES-clause-below
returns-then-generation-ge-MOST_UPDATES-clause-below g c = λ count below. nothing_below c.args.queues.now count c.args.generation (updates_in c.see_message.result) below

pub returns-then-generation-ge-MOST_UPDATES-clause-says : goal.returns-then-generation-ge-MOST_UPDATES-clause-says
returns-then-generation-ge-MOST_UPDATES-clause-says g c = λ e count goals h long stands.
    subst (λ (z : Names). Decides (keeper_view c.see_message.new.keeper) (names (seen c.see_message.new.atoms.seat)) e (requests.get_message (Some (said z c.args.queue.now)) (said z c.args.pattern.now)) c.args.queues.now count goals h c.see_message.result) c.find_queue.ensures.held
    (c.see_message.ensures.says e count goals h (let high = c.if-generation-ge-MOST_UPDATES.true in let l = long in omega (arith, high, l)) stands)

pub returns-then-generation-ge-MOST_UPDATES-clause-holds : goal.returns-then-generation-ge-MOST_UPDATES-clause-holds
returns-then-generation-ge-MOST_UPDATES-clause-holds g c = λ a t e. ap (λ (f : Names). f a) (c.see_message.ensures.held ∙ c.find_queue.ensures.held) ∙ e

pub returns-then-generation-ge-MOST_UPDATES-clause-refusals : goal.returns-then-generation-ge-MOST_UPDATES-clause-refusals
returns-then-generation-ge-MOST_UPDATES-clause-refusals g c = c.see_message.ensures.refusals ∙ ap (λ (l : List Refusal). l ++ row_refusals c.see_message.result) c.find_queue.ensures.refusals

pub returns-then-generation-ge-MOST_UPDATES-clause-asked : goal.returns-then-generation-ge-MOST_UPDATES-clause-asked
returns-then-generation-ge-MOST_UPDATES-clause-asked g c = c.see_message.ensures.asked ∙ c.find_queue.ensures.requests

-- A MESSAGE IS TAKEN
pub take_message-requires-clause-queue : goal.take_message-requires-clause-queue
take_message-requires-clause-queue g c = subst (λ (z : Names). All (λ a. IsSome (z a)) (names_of c.args.queue.now)) (sym c.find_queue.ensures.held) c.requires.queue

pub take_message-requires-clause-pattern : goal.take_message-requires-clause-pattern
take_message-requires-clause-pattern g c = subst (λ (z : Names). All (λ a. IsSome (z a)) (names_of c.args.pattern.now)) (sym c.find_queue.ensures.held) c.requires.pattern

pub take_message-requires-clause-named : goal.take_message-requires-clause-named
take_message-requires-clause-named g c = subst (λ (z : Names). name_of (said z c.args.queue.now) ≡ Some c.in-Is.name) (sym c.find_queue.ensures.held) c.in-Is.ensures.finds.0

pub take_message-requires-clause-there : goal.take_message-requires-clause-there
take_message-requires-clause-there g c = c.in-Is.ensures.finds.1

pub returns-else-generation-ge-MOST_UPDATES-clause-says : goal.returns-else-generation-ge-MOST_UPDATES-clause-says
returns-else-generation-ge-MOST_UPDATES-clause-says g c = λ e count goals h long stands.
    subst (λ (z : Names). Decides (keeper_view c.take_message.new.keeper) (names (seen c.take_message.new.atoms.seat)) e (requests.get_message (Some (said z c.args.queue.now)) (said z c.args.pattern.now)) c.take_message.new.queues count goals h c.take_message.result) c.find_queue.ensures.held
    (c.take_message.ensures.says e count goals h long stands)

pub returns-else-generation-ge-MOST_UPDATES-clause-holds : goal.returns-else-generation-ge-MOST_UPDATES-clause-holds
returns-else-generation-ge-MOST_UPDATES-clause-holds g c = λ a t e. c.take_message.ensures.holds a t (ap (λ (f : Names). f a) c.find_queue.ensures.held ∙ e)

pub returns-else-generation-ge-MOST_UPDATES-clause-refusals : goal.returns-else-generation-ge-MOST_UPDATES-clause-refusals
returns-else-generation-ge-MOST_UPDATES-clause-refusals g c = c.take_message.ensures.refusals ∙ ap (λ (l : List Refusal). l ++ row_refusals c.take_message.result) c.find_queue.ensures.refusals

pub returns-else-generation-ge-MOST_UPDATES-clause-asked : goal.returns-else-generation-ge-MOST_UPDATES-clause-asked
returns-else-generation-ge-MOST_UPDATES-clause-asked g c = c.take_message.ensures.asked ∙ c.find_queue.ensures.requests
