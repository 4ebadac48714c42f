use Rattle.std.proofs.Common.{ℕ, ◌++◌, List, Some, sym, ap, subst, ◌∙◌, append-nil, codes}
use denote.Ref.{Bor}
use Rattle.std.specs.Prelude.{option_map}
use Rattle.std.specs.List.{All}
use Rattle.counted_terms.proofs.Sharing.{restored_same}
use Rattle.std.specs.Option.{IsSome}
use Rattle.pl_term.specs.Tree.{Tree}
use Rattle.pl_model.specs.ErrorTerms.{resource_error}
use Rattle.pl_model.specs.Requests as requests
use Rattle.pl_model.specs.Threads.{first_message, queue_named}
use Rattle.atom_api.specs.Names.{Names}
use Rattle.atom_words.specs.Seats.{seen}
use Rattle.atom_words.specs.declared.view.Refusal.{Refusal}
use Rattle.atom_table.specs.Naming.{names}
use Rattle.term_store.specs.NumberedNames.{names_of, unify_by_number}
use Rattle.counted_terms.specs.CountedTerms.{said}
use Rattle.counted_terms.specs.Keeping.{keeper_view}
use Rattle.hub_threads.specs.Rows.{Decides}
use Rattle.hub_threads.specs.Threads.{thread_counts}
use Rattle.hub_threads.proofs.RefusedRows.{refuses_decides}
use Rattle.hub_threads.proofs.Sending.{at_some, numbered, some_of, stored_counted}
use Rattle.hub_threads.proofs.TakenMessages.{first_alike, get_waits, get_worn, same_stands, sees_none, sees_some, waits_decides}
use Rattle.hub_threads.proofs.taking.see_message.Goals as goal

-- OUT OF MEMORY
pub returns-in-Err-Memory-clause-restored : goal.returns-in-Err-Memory-clause-restored
returns-in-Err-Memory-clause-restored g c = λ n. restored_same (thread_counts c.args.queues.now) (keeper_view c.args.keeper.now) (keeper_view c.agree.new.keeper) n c.agree.ensures.keeps (λ a. ap (λ (f : ℕ → ℕ). f a) c.agree.ensures.counts)

pub returns-in-Err-Memory-clause-says : goal.returns-in-Err-Memory-clause-says
returns-in-Err-Memory-clause-says g c = λ e count goals h high stands.
    same_stands (keeper_view c.args.keeper.now) (keeper_view c.agree.new.keeper) c.args.queues.now count goals h c.is_sound.ensures c.agree.ensures.keeps stands

pub returns-in-Err-Memory-clause-refusals : goal.returns-in-Err-Memory-clause-refusals
returns-in-Err-Memory-clause-refusals g c = c.agree.ensures.refusals ∙ sym (append-nil (seen c.args.atoms.now.seat).refusals)

-- NO MESSAGE UNIFIES
pub returns-in-None-clause-restored : goal.returns-in-None-clause-restored
returns-in-None-clause-restored g c = λ n. restored_same (thread_counts c.args.queues.now) (keeper_view c.args.keeper.now) (keeper_view c.agree.new.keeper) n c.agree.ensures.keeps (λ a. ap (λ (f : ℕ → ℕ). f a) c.agree.ensures.counts)

pub returns-in-None-clause-says : goal.returns-in-None-clause-says
returns-in-None-clause-says g c = λ e count goals h high stands.
    let q = c.args.queues.now in
    let k = keeper_view c.args.keeper.now in
    let l = keeper_view c.agree.new.keeper in
    let n = names (seen c.args.atoms.now.seat) in
    let y = said n c.args.queue.now in
    let p = said n c.args.pattern.now in
    let x = some_of (queue_named q.state c.args.name.now) c.requires.there in
    let o = first_message (unify_by_number c.args.pattern.now) x.0 in
    let first = first_alike k q c.is_sound.ensures x.0 (numbered q.state c.args.name.now x.0 x.1) (seen c.args.atoms.now.seat) c.args.pattern.now c.agree.ensures.agreed c.requires.pattern (stored_counted k q c.requires.counts.0 c.requires.counts.1) in
    let none = sees_none o (ap (option_map (λ (z : ℕ × Bor Tree). (z.0, z.1.now))) (sym c.in-None.is) ∙ at_some _ (queue_named q.state c.args.name.now) x.0 x.1 c.in-Ok.ensures.found) in
    subst (λ (z : Names). Decides l z e (requests.get_message (Some y) p) q count goals h c.wait_on_queue.result) (sym c.agree.ensures.held)
    (waits_decides l n e q count goals h y p c.args.name.now c.requires.named
    (get_waits k q count goals h stands e y c.args.name.now c.requires.named x.0 x.1 p (sym first ∙ none))
    (same_stands k l q count goals h c.is_sound.ensures c.agree.ensures.keeps stands)
    c.wait_on_queue.result (c.wait_on_queue.ensures.says n c.args.name.now c.args.atoms.now.lawful.stand c.requires.named))

pub returns-in-None-clause-named : goal.returns-in-None-clause-named
returns-in-None-clause-named g c =
    c.wait_on_queue.ensures.named (names (seen c.agree.new.atoms.seat)) (subst (λ (z : Names). All (λ a. IsSome (z a)) (names_of c.args.queue.now)) (sym c.agree.ensures.held) c.requires.queue)

pub returns-in-None-clause-refusals : goal.returns-in-None-clause-refusals
returns-in-None-clause-refusals g c = c.agree.ensures.refusals ∙ sym (append-nil (seen c.args.atoms.now.seat).refusals) ∙ ap (λ (l : List Refusal). (seen c.args.atoms.now.seat).refusals ++ l) (sym c.wait_on_queue.ensures.refusals)

-- ONE DOES
pub returns-in-Some-clause-restored : goal.returns-in-Some-clause-restored
returns-in-Some-clause-restored g c = λ n. restored_same (thread_counts c.args.queues.now) (keeper_view c.args.keeper.now) (keeper_view c.agree.new.keeper) n c.agree.ensures.keeps (λ a. ap (λ (f : ℕ → ℕ). f a) c.agree.ensures.counts)

pub returns-in-Some-clause-says : goal.returns-in-Some-clause-says
returns-in-Some-clause-says g c = λ e count goals h high stands.
    let q = c.args.queues.now in
    let k = keeper_view c.args.keeper.now in
    let l = keeper_view c.agree.new.keeper in
    let n = names (seen c.args.atoms.now.seat) in
    let y = said n c.args.queue.now in
    let p = said n c.args.pattern.now in
    let x = some_of (queue_named q.state c.args.name.now) c.requires.there in
    let o = first_message (unify_by_number c.args.pattern.now) x.0 in
    let first = first_alike k q c.is_sound.ensures x.0 (numbered q.state c.args.name.now x.0 x.1) (seen c.args.atoms.now.seat) c.args.pattern.now c.agree.ensures.agreed c.requires.pattern (stored_counted k q c.requires.counts.0 c.requires.counts.1) in
    let t = sees_some o (c.in-Some.field-0.0, c.in-Some.field-0.1.now) (ap (option_map (λ (z : ℕ × Bor Tree). (z.0, z.1.now))) (sym c.in-Some.is) ∙ at_some _ (queue_named q.state c.args.name.now) x.0 x.1 c.in-Ok.ensures.found) in
    subst (λ (z : Names). Decides l z e (requests.get_message (Some y) p) q count goals h c.worn_out.result) (sym c.agree.ensures.held)
    (refuses_decides l n e (requests.get_message (Some y) p) q count goals h (resource_error (codes "generations"))
    (get_worn k q count goals h stands e y c.args.name.now c.requires.named x.0 x.1 p t.message (sym first ∙ t.found) high)
    (same_stands k l q count goals h c.is_sound.ensures c.agree.ensures.keeps stands)
    c.worn_out.result (c.worn_out.ensures.says n c.args.atoms.now.lawful.stand))

pub returns-in-Some-clause-named : goal.returns-in-Some-clause-named
returns-in-Some-clause-named g c = c.worn_out.ensures.named (names (seen c.agree.new.atoms.seat)) c.agree.new.atoms.lawful.stand

pub returns-in-Some-clause-refusals : goal.returns-in-Some-clause-refusals
returns-in-Some-clause-refusals g c = c.agree.ensures.refusals ∙ sym (append-nil (seen c.args.atoms.now.seat).refusals) ∙ ap (λ (l : List Refusal). (seen c.args.atoms.now.seat).refusals ++ l) (sym c.worn_out.ensures.refusals)
