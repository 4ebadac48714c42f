use Rattle.std.proofs.Common.{◌≡◌, ◌≤◌, ℕ, ◌+◌, List, refl, sym, ap, subst, ◌∙◌, append-nil}
use Rattle.std.specs.List.{sum_by}
use Rattle.pl_term.specs.Tree.{Tree}
use Rattle.pl_model.specs.Threads.{queue_named}
use Rattle.atom_words.specs.Seats.{seen}
use Rattle.counted_terms.specs.CountedTerms.{naming}
use Rattle.counted_terms.specs.Keeping.{keeper_view, tally}
use Rattle.counted_terms.specs.Sharing.{Restored}
use Rattle.hub_threads.specs.Held.{Held, contents}
use Rattle.hub_threads.specs.Threads.{IsThreads, thread_counts}
use Rattle.hub_threads.specs.Weights.{IsBelow}
use Rattle.hub_threads.proofs.DestroyedQueues.{drop_changes, dropped_below, dropped_restores, dropped_says, dropped_within, was_dropped}
use Rattle.hub_threads.proofs.Sending.{at_some, nothing_below, nothing_restores, numbered, some_of}
use Rattle.hub_threads.proofs.destroying.drop_found.Goals as goal

-- OUT OF MEMORY
pub returns-in-Err-Memory-clause-restored : goal.returns-in-Err-Memory-clause-restored
returns-in-Err-Memory-clause-restored g c =
    subst (λ (q : Held Tree). Restored (thread_counts c.args.queues.now) (thread_counts q) (keeper_view c.args.keeper.now) (keeper_view c.args.keeper.now) c.args.generation (c.args.generation + 0)) (sym c.in-Err-Memory.ensures.unchanged)
    (nothing_restores (thread_counts c.args.queues.now) (keeper_view c.args.keeper.now) (keeper_view c.args.keeper.now) c.args.generation 0 refl (λ a. refl))

pub returns-in-Err-Memory-clause-below : goal.returns-in-Err-Memory-clause-below
returns-in-Err-Memory-clause-below g c = λ count below.
    subst (λ (q : Held Tree). IsBelow count (c.args.generation + 0) q) (sym c.in-Err-Memory.ensures.unchanged) (nothing_below c.args.queues.now count c.args.generation 0 below)

pub returns-in-Err-Memory-clause-says : goal.returns-in-Err-Memory-clause-says
returns-in-Err-Memory-clause-says g c = λ n e count goals h x long stands named.
    subst (λ (q : Held Tree). IsThreads (keeper_view c.args.keeper.now) q count goals h) (sym c.in-Err-Memory.ensures.unchanged) stands

pub returns-in-Err-Memory-clause-refusals : goal.returns-in-Err-Memory-clause-refusals
returns-in-Err-Memory-clause-refusals g c = sym (append-nil (seen c.args.atoms.now.seat).refusals)

-- IT IS DESTROYED
pub forget_all-requires-clause-counted : goal.forget_all-requires-clause-counted
forget_all-requires-clause-counted g c = λ a.
    let q = c.args.queues.now in
    let r = c.drop_queue.new.self in
    let k = keeper_view c.args.keeper.now in
    let x = some_of (queue_named q.state c.args.name.now) c.requires.there in
    let other = at_some _ (queue_named q.state c.args.name.now) x.0 x.1 c.requires.free in
    let d = was_dropped _ q.state c.args.name.now x.0 x.1 other c.in-Ok.ensures.dropped in
    let number = numbered q.state c.args.name.now x.0 x.1 in
    subst (λ (z : List Tree). sum_by (naming a) z ≤ tally k a) (sym (c.as_slice.ensures.value ∙ d.0)) (dropped_within q r x.0 c.is_sound.ensures number d.1 k c.args.generation c.requires.counts a)

pub returns-in-Ok-clause-restored : goal.returns-in-Ok-clause-restored
returns-in-Ok-clause-restored g c =
    let q = c.args.queues.now in
    let r = c.drop_queue.new.self in
    let k = keeper_view c.args.keeper.now in
    let x = some_of (queue_named q.state c.args.name.now) c.requires.there in
    let other = at_some _ (queue_named q.state c.args.name.now) x.0 x.1 c.requires.free in
    let d = was_dropped _ q.state c.args.name.now x.0 x.1 other c.in-Ok.ensures.dropped in
    let number = numbered q.state c.args.name.now x.0 x.1 in
    let l = keeper_view c.forget_all.new.keeper in
    let counts : (a : ℕ) → sum_by (naming a) (contents x.0.messages) + tally l a ≡ tally k a = λ a. ap (λ (z : List Tree). sum_by (naming a) z + tally l a) (sym (c.as_slice.ensures.value ∙ d.0)) ∙ c.forget_all.ensures.counts a in
    dropped_restores q r x.0 c.is_sound.ensures number d.1 k l c.args.generation c.forget_all.ensures.others counts

pub returns-in-Ok-clause-below : goal.returns-in-Ok-clause-below
returns-in-Ok-clause-below g c = λ count below.
    let q = c.args.queues.now in
    let r = c.drop_queue.new.self in
    let k = keeper_view c.args.keeper.now in
    let x = some_of (queue_named q.state c.args.name.now) c.requires.there in
    let other = at_some _ (queue_named q.state c.args.name.now) x.0 x.1 c.requires.free in
    let d = was_dropped _ q.state c.args.name.now x.0 x.1 other c.in-Ok.ensures.dropped in
    let number = numbered q.state c.args.name.now x.0 x.1 in
    dropped_below q r x.0 c.is_sound.ensures number d.1 count c.args.generation below

pub returns-in-Ok-clause-says : goal.returns-in-Ok-clause-says
returns-in-Ok-clause-says g c = λ n e count goals h y long stands named.
    let q = c.args.queues.now in
    let r = c.drop_queue.new.self in
    let k = keeper_view c.args.keeper.now in
    let x = some_of (queue_named q.state c.args.name.now) c.requires.there in
    let other = at_some _ (queue_named q.state c.args.name.now) x.0 x.1 c.requires.free in
    let d = was_dropped _ q.state c.args.name.now x.0 x.1 other c.in-Ok.ensures.dropped in
    let number = numbered q.state c.args.name.now x.0 x.1 in
    let l = keeper_view c.forget_all.new.keeper in
    let counts : (a : ℕ) → sum_by (naming a) (contents x.0.messages) + tally l a ≡ tally k a = λ a. ap (λ (z : List Tree). sum_by (naming a) z + tally l a) (sym (c.as_slice.ensures.value ∙ d.0)) ∙ c.forget_all.ensures.counts a in
    drop_changes q r x.0 c.is_sound.ensures number d.1 k l n e count goals c.args.generation h y c.args.name.now c.are_sound.ensures
    (dropped_says q r x.0 c.is_sound.ensures number d.1 k l c.args.generation c.forget_all.ensures.others counts c.requires.counts)
    c.requires.room long stands named x.1 other

pub returns-in-Ok-clause-refusals : goal.returns-in-Ok-clause-refusals
returns-in-Ok-clause-refusals g c = c.forget_all.ensures.refusals ∙ sym (append-nil (seen c.args.atoms.now.seat).refusals)
