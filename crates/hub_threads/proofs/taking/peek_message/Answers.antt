use Rattle.std.proofs.Common.{◌≡◌, List, ◌++◌, refl, sym, ap, subst, ◌∙◌, append-nil, codes}
use Rattle.std.specs.Prelude.{Some}
use Rattle.std.specs.List.{All}
use Rattle.std.specs.Option.{IsSome}
use Rattle.pl_model.specs.ErrorTerms.{existence_error}
use Rattle.pl_model.specs.Requests as requests
use Rattle.pl_model.specs.Service.{name_of}
use Rattle.atom_api.specs.Names.{Names}
use Rattle.atom_words.specs.Seats.{seen}
use Rattle.atom_words.specs.declared.view.Refusal.{Refusal}
use Rattle.atom_table.specs.Naming.{names}
use Rattle.term_store.specs.NumberedNames.{names_of}
use Rattle.counted_terms.specs.CountedTerms.{said}
use Rattle.counted_terms.specs.Keeping.{keeper_view, kept}
use Rattle.counted_terms.specs.Rows.{row_names, row_refusals}
use Rattle.counted_terms.proofs.Sharing.{restored_same}
use Rattle.hub_threads.specs.Rows.{Decides}
use Rattle.hub_threads.specs.Threads.{thread_counts}
use Rattle.hub_threads.proofs.RefusedRows.{peek_missing, refuses_decides}
use Rattle.hub_threads.proofs.taking.peek_message.Goals as goal

-- OUT OF MEMORY
pub returns-in-Memory-clause-restored : goal.returns-in-Memory-clause-restored
returns-in-Memory-clause-restored g c = λ n. restored_same (thread_counts c.args.queues.now) (keeper_view c.args.keeper.now) (keeper_view c.args.keeper.now) n refl (λ a. refl)

pub returns-in-Memory-clause-holds : goal.returns-in-Memory-clause-holds
returns-in-Memory-clause-holds g c = λ a t e. ap (λ (f : Names). f a) c.find_queue.ensures.held ∙ e

pub returns-in-Memory-clause-refusals : goal.returns-in-Memory-clause-refusals
returns-in-Memory-clause-refusals g c = c.find_queue.ensures.refusals ∙ sym (append-nil (seen c.args.atoms.now.seat).refusals)

-- NO QUEUE
pub returns-in-Missing-clause-restored : goal.returns-in-Missing-clause-restored
returns-in-Missing-clause-restored g c = λ n. restored_same (thread_counts c.args.queues.now) (keeper_view c.args.keeper.now) (keeper_view c.args.keeper.now) n refl (λ a. refl)

pub returns-in-Missing-clause-says : goal.returns-in-Missing-clause-says
returns-in-Missing-clause-says g c = λ e count goals h stands.
    let k = keeper_view c.args.keeper.now in
    let q = c.args.queues.now in
    let m = names (seen c.args.atoms.now.seat) in
    let x = said m c.args.queue.now in
    let r = requests.peek_message (Some x) (said m c.args.pattern.now) in
    subst (λ (z : Names). Decides k z e r q count goals h c.no_queue.result) (sym c.find_queue.ensures.held)
    (refuses_decides k m e r q count goals h (existence_error (codes "message_queue") x)
    (peek_missing k q count goals h (said (kept k)) stands.threads e x c.in-Missing.ensures.finds (said m c.args.pattern.now)) stands c.no_queue.result (c.no_queue.ensures.says m c.args.atoms.now.lawful.stand))

pub returns-in-Missing-clause-named : goal.returns-in-Missing-clause-named
returns-in-Missing-clause-named g c =
    subst (λ (z : Names). All (λ a. IsSome (z a)) (row_names c.no_queue.result)) (sym c.find_queue.ensures.held)
    (c.no_queue.ensures.named (names (seen c.args.atoms.now.seat)) c.args.atoms.now.lawful.stand c.requires.queue)

pub returns-in-Missing-clause-holds : goal.returns-in-Missing-clause-holds
returns-in-Missing-clause-holds g c = λ a t e. ap (λ (f : Names). f a) c.find_queue.ensures.held ∙ e

pub returns-in-Missing-clause-refusals : goal.returns-in-Missing-clause-refusals
returns-in-Missing-clause-refusals g c = c.find_queue.ensures.refusals ∙ sym (append-nil (seen c.args.atoms.now.seat).refusals) ∙ ap (λ (l : List Refusal). (seen c.args.atoms.now.seat).refusals ++ l) (sym c.no_queue.ensures.refusals)

-- A MESSAGE IS LENT
pub lend_message-requires-clause-pattern : goal.lend_message-requires-clause-pattern
lend_message-requires-clause-pattern g c = subst (λ (z : Names). All (λ a. IsSome (z a)) (names_of c.args.pattern.now)) (sym c.find_queue.ensures.held) c.requires.pattern

pub lend_message-requires-clause-named : goal.lend_message-requires-clause-named
lend_message-requires-clause-named g c = subst (λ (z : Names). name_of (said z c.args.queue.now) ≡ Some c.in-Is.name) (sym c.find_queue.ensures.held) c.in-Is.ensures.finds.0

pub lend_message-requires-clause-there : goal.lend_message-requires-clause-there
lend_message-requires-clause-there g c = c.in-Is.ensures.finds.1

pub returns-in-Is-clause-says : goal.returns-in-Is-clause-says
returns-in-Is-clause-says g c = λ e count goals h stands.
    subst (λ (z : Names). Decides (keeper_view c.lend_message.new.keeper) (names (seen c.lend_message.new.atoms.seat)) e (requests.peek_message (Some (said z c.args.queue.now)) (said z c.args.pattern.now)) c.args.queues.now count goals h c.lend_message.result) c.find_queue.ensures.held
    (c.lend_message.ensures.says e count goals h stands)

pub returns-in-Is-clause-holds : goal.returns-in-Is-clause-holds
returns-in-Is-clause-holds g c = λ a t e. c.lend_message.ensures.holds a t (ap (λ (f : Names). f a) c.find_queue.ensures.held ∙ e)

pub returns-in-Is-clause-refusals : goal.returns-in-Is-clause-refusals
returns-in-Is-clause-refusals g c = c.lend_message.ensures.refusals ∙ ap (λ (l : List Refusal). l ++ row_refusals c.lend_message.result) c.find_queue.ensures.refusals

pub returns-in-Is-clause-asked : goal.returns-in-Is-clause-asked
returns-in-Is-clause-asked g c = c.lend_message.ensures.asked ∙ c.find_queue.ensures.requests
