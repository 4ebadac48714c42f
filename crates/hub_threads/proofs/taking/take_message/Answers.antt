use Rattle.std.proofs.Common.{◌≡◌, ◌<◌, ℕ, ◌+◌, ◌++◌, List, Option, Some, sym, ap, subst, ◌∙◌, append-nil}
use Rattle.std.specs.List.{All}
use Rattle.std.specs.Option.{IsSome}
use Rattle.pl_term.specs.Tree.{Tree}
use Rattle.pl_model.specs.Requests as requests
use Rattle.pl_model.specs.Threads.{first_message, queue_named}
use Rattle.atom_api.specs.Names.{Names}
use Rattle.atom_words.specs.Seats.{seen}
use Rattle.atom_words.specs.declared.view.Refusal.{Refusal}
use Rattle.atom_table.specs.Naming.{names}
use Rattle.term_store.specs.NumberedNames.{names_of, unify_by_number}
use Rattle.hub_threads.specs.Held.{Held, Takes}
use Rattle.hub_threads.specs.Weights.{IsBelow}
use Rattle.counted_terms.specs.CountedTerms.{naming, said}
use Rattle.counted_terms.specs.Keeping.{keeper_view, tally}
use Rattle.counted_terms.specs.Rows.{row_names, row_refusals}
use Rattle.counted_terms.specs.Sharing.{Restored}
use Rattle.counted_terms.specs.declared.row.Row.{Row}
use Rattle.hub_threads.specs.Rows.{Decides, updates_in}
use Rattle.hub_threads.specs.Threads.{IsThreads, thread_counts}
use Rattle.hub_threads.proofs.Sending.{at_some, nothing_below, nothing_restores, numbered, some_of, stored_counted}
use Rattle.hub_threads.proofs.TakenMessages.{first_alike, get_waits, left_counted, same_stands, takes_none, takes_some, taken_below, taken_restores, taken_stored, taken_weighs, took_changes, waits_decides}
use Rattle.hub_threads.proofs.taking.take_message.Goals as goal

-- OUT OF MEMORY
pub returns-in-Err-Memory-clause-restored : goal.returns-in-Err-Memory-clause-restored
returns-in-Err-Memory-clause-restored g c =
    subst (λ (q : Held Tree). Restored (thread_counts c.args.queues.now) (thread_counts q) (keeper_view c.args.keeper.now) (keeper_view c.agree.new.keeper) c.args.generation (c.args.generation + 0)) (sym c.in-Err-Memory.ensures.unchanged)
    (nothing_restores (thread_counts c.args.queues.now) (keeper_view c.args.keeper.now) (keeper_view c.agree.new.keeper) c.args.generation 0 c.agree.ensures.keeps (λ a. ap (λ (f : ℕ → ℕ). f a) c.agree.ensures.counts))

pub returns-in-Err-Memory-clause-below : goal.returns-in-Err-Memory-clause-below
returns-in-Err-Memory-clause-below g c = λ count below.
    subst (λ (q : Held Tree). IsBelow count (c.args.generation + 0) q) (sym c.in-Err-Memory.ensures.unchanged) (nothing_below c.args.queues.now count c.args.generation 0 below)

pub returns-in-Err-Memory-clause-says : goal.returns-in-Err-Memory-clause-says
returns-in-Err-Memory-clause-says g c = λ e count goals h long stands.
    subst (λ (q : Held Tree). IsThreads (keeper_view c.agree.new.keeper) q count goals h) (sym c.in-Err-Memory.ensures.unchanged)
    (same_stands (keeper_view c.args.keeper.now) (keeper_view c.agree.new.keeper) c.args.queues.now count goals h c.is_sound.ensures c.agree.ensures.keeps stands)

-- NO MESSAGE UNIFIES
pub returns-in-None-clause-restored : goal.returns-in-None-clause-restored
returns-in-None-clause-restored g c =
    let q = c.args.queues.now in
    let x = some_of (queue_named q.state c.args.name.now) c.requires.there in
    let got = takes_none (first_message (unify_by_number c.args.pattern.now) x.0) q c.take.new.self (subst (λ (o : Option (ℕ × Tree)). Takes (first_message (unify_by_number c.args.pattern.now) x.0) o q c.take.new.self) c.in-None.is (at_some _ (queue_named q.state c.args.name.now) x.0 x.1 c.in-Ok.ensures.taken)) in
    subst (λ (r : Held Tree). Restored (thread_counts q) (thread_counts r) (keeper_view c.args.keeper.now) (keeper_view c.agree.new.keeper) c.args.generation (c.args.generation + updates_in c.wait_on_queue.result)) (sym got.1)
    (nothing_restores (thread_counts q) (keeper_view c.args.keeper.now) (keeper_view c.agree.new.keeper) c.args.generation (updates_in c.wait_on_queue.result) c.agree.ensures.keeps (λ a. ap (λ (f : ℕ → ℕ). f a) c.agree.ensures.counts))

pub returns-in-None-clause-below : goal.returns-in-None-clause-below
returns-in-None-clause-below g c = λ count below.
    let q = c.args.queues.now in
    let x = some_of (queue_named q.state c.args.name.now) c.requires.there in
    let got = takes_none (first_message (unify_by_number c.args.pattern.now) x.0) q c.take.new.self (subst (λ (o : Option (ℕ × Tree)). Takes (first_message (unify_by_number c.args.pattern.now) x.0) o q c.take.new.self) c.in-None.is (at_some _ (queue_named q.state c.args.name.now) x.0 x.1 c.in-Ok.ensures.taken)) in
    subst (λ (r : Held Tree). IsBelow count (c.args.generation + updates_in c.wait_on_queue.result) r) (sym got.1) (nothing_below q count c.args.generation (updates_in c.wait_on_queue.result) below)

pub returns-in-None-clause-says : goal.returns-in-None-clause-says
returns-in-None-clause-says g c = λ e count goals h long stands.
    let q = c.args.queues.now in
    let k = keeper_view c.args.keeper.now in
    let l = keeper_view c.agree.new.keeper in
    let n = names (seen c.args.atoms.now.seat) in
    let x = some_of (queue_named q.state c.args.name.now) c.requires.there in
    let got = takes_none (first_message (unify_by_number c.args.pattern.now) x.0) q c.take.new.self (subst (λ (o : Option (ℕ × Tree)). Takes (first_message (unify_by_number c.args.pattern.now) x.0) o q c.take.new.self) c.in-None.is (at_some _ (queue_named q.state c.args.name.now) x.0 x.1 c.in-Ok.ensures.taken)) in
    let first = first_alike k q c.is_sound.ensures x.0 (numbered q.state c.args.name.now x.0 x.1) (seen c.args.atoms.now.seat) c.args.pattern.now c.agree.ensures.agreed c.requires.pattern (stored_counted k q c.args.generation c.requires.counts) in
    let y = said n c.args.queue.now in
    let p = said n c.args.pattern.now in
    subst (λ (r : Held Tree). Decides l (names (seen c.agree.new.atoms.seat)) e (requests.get_message (Some y) p) r count goals h c.wait_on_queue.result) (sym got.1)
    (subst (λ (z : Names). Decides l z e (requests.get_message (Some y) p) q count goals h c.wait_on_queue.result) (sym c.agree.ensures.held)
    (waits_decides l n e q count goals h y p c.args.name.now c.requires.named
    (get_waits k q count goals h stands e y c.args.name.now c.requires.named x.0 x.1 p (sym first ∙ got.0))
    (same_stands k l q count goals h c.is_sound.ensures c.agree.ensures.keeps stands)
    c.wait_on_queue.result (c.wait_on_queue.ensures.says n c.args.name.now c.args.atoms.now.lawful.stand c.requires.named)))

pub returns-in-None-clause-named : goal.returns-in-None-clause-named
returns-in-None-clause-named g c =
    c.wait_on_queue.ensures.named (names (seen c.agree.new.atoms.seat)) (subst (λ (z : Names). All (λ a. IsSome (z a)) (names_of c.args.queue.now)) (sym c.agree.ensures.held) c.requires.queue)

pub returns-in-None-clause-holds : goal.returns-in-None-clause-holds
returns-in-None-clause-holds g c = λ a t e. ap (λ (f : Names). f a) c.agree.ensures.held ∙ e

pub returns-in-None-clause-refusals : goal.returns-in-None-clause-refusals
returns-in-None-clause-refusals g c = c.agree.ensures.refusals ∙ sym (append-nil (seen c.args.atoms.now.seat).refusals) ∙ ap (λ (l : List Refusal). (seen c.args.atoms.now.seat).refusals ++ l) (sym c.wait_on_queue.ensures.refusals)

pub returns-in-Err-Memory-clause-holds : goal.returns-in-Err-Memory-clause-holds
returns-in-Err-Memory-clause-holds g c = λ a t e. ap (λ (f : Names). f a) c.agree.ensures.held ∙ e

pub returns-in-Err-Memory-clause-refusals : goal.returns-in-Err-Memory-clause-refusals
returns-in-Err-Memory-clause-refusals g c = c.agree.ensures.refusals ∙ sym (append-nil (seen c.args.atoms.now.seat).refusals)

-- THE FIRST ONE IS HANDED OVER
pub hand_over-requires-clause-counted : goal.hand_over-requires-clause-counted
hand_over-requires-clause-counted g c =
    let q = c.args.queues.now in
    let k = keeper_view c.args.keeper.now in
    let f = first_message (unify_by_number c.args.pattern.now) in
    let x = some_of (queue_named q.state c.args.name.now) c.requires.there in
    let t = takes_some (f x.0) c.in-Some.taken q c.take.new.self (subst (λ (o : Option (ℕ × Tree)). Takes (f x.0) o q c.take.new.self) c.in-Some.is (at_some _ (queue_named q.state c.args.name.now) x.0 x.1 c.in-Ok.ensures.taken)) in
    let counted = stored_counted k q c.args.generation c.requires.counts t.message.content (taken_stored q c.take.new.self x.0 t.message (unify_by_number c.args.pattern.now) c.is_sound.ensures (numbered q.state c.args.name.now x.0 x.1) t.found t.left) in
    λ a some_. subst (λ (n : ℕ). 0 < n) (sym (ap (λ (h : ℕ → ℕ). h a) c.agree.ensures.counts)) (counted a (subst (λ (z : Tree). 0 < naming a z) t.content some_))

pub returns-in-Some-clause-restored : goal.returns-in-Some-clause-restored
returns-in-Some-clause-restored g c =
    let q = c.args.queues.now in
    let r = c.take.new.self in
    let k = keeper_view c.args.keeper.now in
    let j = keeper_view c.agree.new.keeper in
    let l = keeper_view c.hand_over.new.keeper in
    let f = first_message (unify_by_number c.args.pattern.now) in
    let x = some_of (queue_named q.state c.args.name.now) c.requires.there in
    let t = takes_some (f x.0) c.in-Some.taken q r (subst (λ (o : Option (ℕ × Tree)). Takes (f x.0) o q r) c.in-Some.is (at_some _ (queue_named q.state c.args.name.now) x.0 x.1 c.in-Ok.ensures.taken)) in
    subst (λ (row : Row). Restored (thread_counts q) (thread_counts r) k l c.args.generation (c.args.generation + updates_in row)) (sym c.handed.ensures)
    (taken_restores q r x.0 t.message (unify_by_number c.args.pattern.now) c.is_sound.ensures (numbered q.state c.args.name.now x.0 x.1) t.found t.left k l c.args.generation
    (λ u is. c.hand_over.ensures.others u is ∙ ap (λ (m : Names). said m u) c.agree.ensures.keeps)
    (λ a. ap (λ z. naming a z + tally l a) (sym t.content) ∙ c.hand_over.ensures.counts a ∙ ap (λ (h : ℕ → ℕ). h a) c.agree.ensures.counts))

pub returns-in-Some-clause-below : goal.returns-in-Some-clause-below
returns-in-Some-clause-below g c = λ count below.
    let q = c.args.queues.now in
    let r = c.take.new.self in
    let f = first_message (unify_by_number c.args.pattern.now) in
    let x = some_of (queue_named q.state c.args.name.now) c.requires.there in
    let t = takes_some (f x.0) c.in-Some.taken q r (subst (λ (o : Option (ℕ × Tree)). Takes (f x.0) o q r) c.in-Some.is (at_some _ (queue_named q.state c.args.name.now) x.0 x.1 c.in-Ok.ensures.taken)) in
    subst (λ (row : Row). IsBelow count (c.args.generation + updates_in row) r) (sym c.handed.ensures) (taken_below q r t.message.place count c.args.generation t.left below)

pub returns-in-Some-clause-says : goal.returns-in-Some-clause-says
returns-in-Some-clause-says g c = λ e count goals h long stands.
    let q = c.args.queues.now in
    let r = c.take.new.self in
    let k = keeper_view c.args.keeper.now in
    let l = keeper_view c.hand_over.new.keeper in
    let v = seen c.args.atoms.now.seat in
    let n = names v in
    let n' = names (seen c.hand_over.new.atoms.seat) in
    let p = c.args.pattern.now in
    let y = said n c.args.queue.now in
    let x = some_of (queue_named q.state c.args.name.now) c.requires.there in
    let o = first_message (unify_by_number p) x.0 in
    let number = numbered q.state c.args.name.now x.0 x.1 in
    let t = takes_some o c.in-Some.taken q r (subst (λ (z : Option (ℕ × Tree)). Takes o z q r) c.in-Some.is (at_some _ (queue_named q.state c.args.name.now) x.0 x.1 c.in-Ok.ensures.taken)) in
    let first = first_alike k q c.is_sound.ensures x.0 number v p c.agree.ensures.agreed c.requires.pattern (stored_counted k q c.args.generation c.requires.counts) in
    let counts : (a : ℕ) → naming a t.message.content + tally l a ≡ tally k a = λ a. ap (λ z. naming a z + tally l a) (sym t.content) ∙ c.hand_over.ensures.counts a ∙ ap (λ (f : ℕ → ℕ). f a) c.agree.ensures.counts in
    subst (λ (row : Row). Decides l n' e (requests.get_message (Some y) (said n p)) r count goals h row) (sym c.handed.ensures)
    (took_changes k l q r c.args.generation x.0 n n' p c.in-Some.taken.1 c.is_sound.ensures c.are_sound.ensures number
    (record { message = t.message; found = sym first ∙ t.found; content = t.content; left = t.left })
    (λ u inside. c.hand_over.ensures.others u (left_counted k l q r t.message.content c.requires.counts.rest c.requires.counts.exact (taken_weighs q r x.0 t.message (unify_by_number p) c.is_sound.ensures number t.found t.left) counts u inside) ∙ ap (λ (m : Names). said m u) c.agree.ensures.keeps)
    c.hand_over.result (ap (said n') c.hand_over.ensures.term ∙ sym (ap (said n') c.hand_over.ensures.term) ∙ c.hand_over.ensures.says ∙ ap (λ (m : Names). said m c.in-Some.taken.1) c.agree.ensures.keeps)
    c.requires.room e count goals h y c.args.name.now long stands c.requires.named x.1)

pub returns-in-Some-clause-named : goal.returns-in-Some-clause-named
returns-in-Some-clause-named g c =
    subst (λ (row : Row). All (λ a. IsSome (names (seen c.hand_over.new.atoms.seat) a)) (row_names row)) (sym c.handed.ensures) c.hand_over.ensures.named

pub returns-in-Some-clause-holds : goal.returns-in-Some-clause-holds
returns-in-Some-clause-holds g c = λ a t e. c.hand_over.ensures.holds a t (ap (λ (f : Names). f a) c.agree.ensures.held ∙ e)

pub returns-in-Some-clause-refusals : goal.returns-in-Some-clause-refusals
returns-in-Some-clause-refusals g c = c.hand_over.ensures.refusals ∙ c.agree.ensures.refusals ∙ sym (append-nil (seen c.args.atoms.now.seat).refusals) ∙ ap (λ (l : List Refusal). (seen c.args.atoms.now.seat).refusals ++ l) (sym (ap row_refusals c.handed.ensures))
