use Rattle.std.proofs.Common.{◌≡◌, List, ◌++◌, refl, sym, ap, subst, ◌∙◌, append-nil, codes}
use Rattle.std.specs.Prelude.{Some}
use Rattle.std.specs.List.{All}
use Rattle.std.specs.Option.{IsSome}
use Rattle.pl_model.specs.ErrorTerms.{existence_error}
use Rattle.pl_model.specs.Requests as requests
use Rattle.pl_model.specs.Service.{name_of}
use Rattle.atom_api.specs.Names.{Names}
use Rattle.atom_words.specs.Seats.{seen}
use Rattle.atom_words.specs.declared.view.Refusal.{Refusal}
use Rattle.atom_table.specs.Naming.{names}
use Rattle.term_store.specs.NumberedNames.{names_of}
use Rattle.counted_terms.specs.CountedTerms.{said}
use Rattle.counted_terms.specs.Keeping.{keeper_view, kept}
use Rattle.counted_terms.specs.Rows.{row_names, row_refusals}
use Rattle.hub_threads.specs.Rows.{Decides, updates_in}
use Rattle.hub_threads.specs.Threads.{thread_counts}
use Rattle.hub_threads.proofs.RefusedRows.{destroy_missing, refuses_decides}
use Rattle.hub_threads.proofs.Sending.{nothing_below, nothing_restores}
use Rattle.hub_threads.proofs.destroying.destroy_queue.Goals as goal

-- OUT OF MEMORY
pub returns-in-Memory-clause-restored : goal.returns-in-Memory-clause-restored
returns-in-Memory-clause-restored g c = nothing_restores (thread_counts c.args.queues.now) (keeper_view c.args.keeper.now) (keeper_view c.args.keeper.now) c.args.generation 0 refl (λ a. refl)

pub returns-in-Memory-clause-below : goal.returns-in-Memory-clause-below
returns-in-Memory-clause-below g c = λ count below. nothing_below c.args.queues.now count c.args.generation 0 below

pub returns-in-Memory-clause-holds : goal.returns-in-Memory-clause-holds
returns-in-Memory-clause-holds g c = λ a t e. ap (λ (f : Names). f a) c.find_queue.ensures.held ∙ e

pub returns-in-Memory-clause-refusals : goal.returns-in-Memory-clause-refusals
returns-in-Memory-clause-refusals g c = c.find_queue.ensures.refusals ∙ sym (append-nil (seen c.args.atoms.now.seat).refusals)

-- NO QUEUE
pub returns-in-Missing-clause-restored : goal.returns-in-Missing-clause-restored
returns-in-Missing-clause-restored g c = nothing_restores (thread_counts c.args.queues.now) (keeper_view c.args.keeper.now) (keeper_view c.args.keeper.now) c.args.generation (updates_in c.no_queue.result) refl (λ a. refl)

pub returns-in-Missing-clause-below : goal.returns-in-Missing-clause-below
returns-in-Missing-clause-below g c = λ count below. nothing_below c.args.queues.now count c.args.generation (updates_in c.no_queue.result) below

pub returns-in-Missing-clause-says : goal.returns-in-Missing-clause-says
returns-in-Missing-clause-says g c = λ e count goals h long stands.
    let k = keeper_view c.args.keeper.now in
    let q = c.args.queues.now in
    let m = names (seen c.args.atoms.now.seat) in
    let x = said m c.args.queue.now in
    subst (λ (z : Names). Decides k z e (requests.destroy_queue x) q count goals h c.no_queue.result) (sym c.find_queue.ensures.held)
    (refuses_decides k m e (requests.destroy_queue x) q count goals h (existence_error (codes "message_queue") x)
    (destroy_missing k q count goals h (said (kept k)) stands.threads e x c.in-Missing.ensures.finds) stands c.no_queue.result (c.no_queue.ensures.says m c.args.atoms.now.lawful.stand))

pub returns-in-Missing-clause-named : goal.returns-in-Missing-clause-named
returns-in-Missing-clause-named g c =
    subst (λ (z : Names). All (λ a. IsSome (z a)) (row_names c.no_queue.result)) (sym c.find_queue.ensures.held)
    (c.no_queue.ensures.named (names (seen c.args.atoms.now.seat)) c.args.atoms.now.lawful.stand c.requires.queue)

pub returns-in-Missing-clause-holds : goal.returns-in-Missing-clause-holds
returns-in-Missing-clause-holds g c = λ a t e. ap (λ (f : Names). f a) c.find_queue.ensures.held ∙ e

pub returns-in-Missing-clause-refusals : goal.returns-in-Missing-clause-refusals
returns-in-Missing-clause-refusals g c = c.find_queue.ensures.refusals ∙ sym (append-nil (seen c.args.atoms.now.seat).refusals) ∙ ap (λ (l : List Refusal). (seen c.args.atoms.now.seat).refusals ++ l) (sym c.no_queue.ensures.refusals)

-- THE QUEUE IS THERE
pub destroy_found-requires-clause-queue : goal.destroy_found-requires-clause-queue
destroy_found-requires-clause-queue g c = subst (λ (z : Names). All (λ a. IsSome (z a)) (names_of c.args.queue.now)) (sym c.find_queue.ensures.held) c.requires.queue

pub destroy_found-requires-clause-named : goal.destroy_found-requires-clause-named
destroy_found-requires-clause-named g c = subst (λ (z : Names). name_of (said z c.args.queue.now) ≡ Some c.in-Is.name) (sym c.find_queue.ensures.held) c.in-Is.ensures.finds.0

pub destroy_found-requires-clause-there : goal.destroy_found-requires-clause-there
destroy_found-requires-clause-there g c = c.in-Is.ensures.finds.1

pub returns-in-Is-clause-says : goal.returns-in-Is-clause-says
returns-in-Is-clause-says g c = λ e count goals h long stands.
    subst (λ (z : Names). Decides (keeper_view c.destroy_found.new.keeper) (names (seen c.destroy_found.new.atoms.seat)) e (requests.destroy_queue (said z c.args.queue.now)) c.destroy_found.new.queues count goals h c.destroy_found.result) c.find_queue.ensures.held
    (c.destroy_found.ensures.says e count goals h long stands)

pub returns-in-Is-clause-holds : goal.returns-in-Is-clause-holds
returns-in-Is-clause-holds g c = λ a t e. ap (λ (f : Names). f a) (c.destroy_found.ensures.held ∙ c.find_queue.ensures.held) ∙ e

pub returns-in-Is-clause-refusals : goal.returns-in-Is-clause-refusals
returns-in-Is-clause-refusals g c = c.destroy_found.ensures.refusals ∙ ap (λ (l : List Refusal). l ++ row_refusals c.destroy_found.result) c.find_queue.ensures.refusals

pub returns-in-Is-clause-asked : goal.returns-in-Is-clause-asked
returns-in-Is-clause-asked g c = c.destroy_found.ensures.asked ∙ c.find_queue.ensures.requests
