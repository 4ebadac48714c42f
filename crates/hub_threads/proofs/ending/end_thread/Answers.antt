use Rattle.std.proofs.Common.{◌≡◌, ◌≤◌, ℕ, ◌+◌, List, sym, ap, subst, ◌∙◌, arith}
use Rattle.std.specs.List.{sum_by}
use Rattle.pl_term.specs.Tree.{Tree}
use Rattle.pl_model.specs.declared.threads.Status.{Status}
use Rattle.counted_terms.specs.CountedTerms.{naming}
use Rattle.counted_terms.specs.Keeping.{keeper_view, tally}
use Rattle.counted_terms.specs.Sharing.{Restored}
use Rattle.hub_threads.specs.Held.{Held, own_contents}
use Rattle.hub_threads.specs.Refusals.{end_refusal}
use Rattle.hub_threads.specs.Threads.{IsThreads, thread_counts}
use Rattle.hub_threads.specs.Weights.{IsBelow, weigh_how}
use Rattle.hub_threads.proofs.EndedThreads.{at_none, ended_below, ended_restores, ended_stands, handed_back, not_refused, own_within, ran, undone_restores, undone_stands}
use Rattle.hub_threads.proofs.Sending.{nothing_below}
use Rattle.hub_threads.proofs.ending.end_thread.Goals as goal

pub store_status-requires-clause-room : goal.store_status-requires-clause-room
store_status-requires-clause-room g c = λ a. let f = c.requires.counts.few a in let low = c.requires.room in omega (arith, f, low)

-- IT ENDS
pub forget_all-requires-clause-counted : goal.forget_all-requires-clause-counted
forget_all-requires-clause-counted g c = λ a.
    let q = c.args.queues.now in
    let r = c.end.new.self in
    let how = c.args.status in
    let k = keeper_view c.args.keeper.now in
    let l = keeper_view c.store_status.new.keeper in
    let none = not_refused _ _ (end_refusal q.state c.args.engine) c.in-Ok.ensures.refused in
    let d = at_none (end_refusal q.state c.args.engine) none c.in-Ok.ensures.ended in
    let was = ran q.state c.args.engine none in
    subst (λ (z : List Tree). sum_by (naming a) z ≤ tally l a) (sym (c.as_slice.ensures.value ∙ d.0))
    (own_within q r c.args.engine how c.is_sound.ensures was d.1 k l l c.args.generation c.requires.counts c.store_status.ensures.others c.store_status.ensures.counts a)

pub returns-in-Ok-clause-restored : goal.returns-in-Ok-clause-restored
returns-in-Ok-clause-restored g c =
    let q = c.args.queues.now in
    let r = c.end.new.self in
    let how = c.args.status in
    let k = keeper_view c.args.keeper.now in
    let l = keeper_view c.store_status.new.keeper in
    let none = not_refused _ _ (end_refusal q.state c.args.engine) c.in-Ok.ensures.refused in
    let d = at_none (end_refusal q.state c.args.engine) none c.in-Ok.ensures.ended in
    let was = ran q.state c.args.engine none in
    let o = keeper_view c.forget_all.new.keeper in
    let less : (a : ℕ) → sum_by (naming a) (own_contents c.args.engine q.state) + tally o a ≡ tally l a = λ a. ap (λ (z : List Tree). sum_by (naming a) z + tally o a) (sym (c.as_slice.ensures.value ∙ d.0)) ∙ c.forget_all.ensures.counts a in
    ended_restores q r c.args.engine how c.is_sound.ensures was d.1 k l o c.args.generation c.requires.counts c.store_status.ensures.others c.store_status.ensures.counts c.forget_all.ensures.others less

pub returns-in-Ok-clause-below : goal.returns-in-Ok-clause-below
returns-in-Ok-clause-below g c = λ count below.
    let q = c.args.queues.now in
    let r = c.end.new.self in
    let how = c.args.status in
    let k = keeper_view c.args.keeper.now in
    let l = keeper_view c.store_status.new.keeper in
    let none = not_refused _ _ (end_refusal q.state c.args.engine) c.in-Ok.ensures.refused in
    let d = at_none (end_refusal q.state c.args.engine) none c.in-Ok.ensures.ended in
    let was = ran q.state c.args.engine none in
    ended_below q r c.args.engine how c.is_sound.ensures was d.1 count c.args.generation below

pub returns-in-Ok-clause-ended : goal.returns-in-Ok-clause-ended
returns-in-Ok-clause-ended g c = λ e steps count goals h long stands same_how.
    let q = c.args.queues.now in
    let r = c.end.new.self in
    let how = c.args.status in
    let k = keeper_view c.args.keeper.now in
    let l = keeper_view c.store_status.new.keeper in
    let none = not_refused _ _ (end_refusal q.state c.args.engine) c.in-Ok.ensures.refused in
    let d = at_none (end_refusal q.state c.args.engine) none c.in-Ok.ensures.ended in
    let was = ran q.state c.args.engine none in
    let o = keeper_view c.forget_all.new.keeper in
    let less : (a : ℕ) → sum_by (naming a) (own_contents c.args.engine q.state) + tally o a ≡ tally l a = λ a. ap (λ (z : List Tree). sum_by (naming a) z + tally o a) (sym (c.as_slice.ensures.value ∙ d.0)) ∙ c.forget_all.ensures.counts a in
    ended_stands q r c.args.engine how c.is_sound.ensures was d.1 k l o c.args.generation c.requires.counts c.store_status.ensures.others c.store_status.ensures.counts c.forget_all.ensures.others less
    e steps count goals h c.are_sound.ensures stands (same_how ∙ sym c.store_status.ensures.says)

-- IT DOES NOT
pub forget_status-requires-clause-counted : goal.forget_status-requires-clause-counted
forget_status-requires-clause-counted g c = λ a.
    let q = c.args.queues.now in
    let same : c.in-Err.status ≡ c.args.status = handed_back _ (end_refusal q.state c.args.engine) _ c.args.status c.in-Err.ensures.refused c.in-Err.ensures.ended in
    let counts = c.store_status.ensures.counts a in
    subst (λ (z : Status Tree). weigh_how (naming a) z ≤ tally (keeper_view c.store_status.new.keeper) a) (sym same) (omega (arith, counts))

pub returns-in-Err-clause-undone : goal.returns-in-Err-clause-undone
returns-in-Err-clause-undone g c =
    let q = c.args.queues.now in
    let how = c.args.status in
    let k = keeper_view c.args.keeper.now in
    let l = keeper_view c.store_status.new.keeper in
    let o = keeper_view c.forget_status.new.keeper in
    let same : c.in-Err.status ≡ how = handed_back _ (end_refusal q.state c.args.engine) _ how c.in-Err.ensures.refused c.in-Err.ensures.ended in
    let less : (a : ℕ) → weigh_how (naming a) how + tally o a ≡ tally l a = λ a. ap (λ (z : Status Tree). weigh_how (naming a) z + tally o a) (sym same) ∙ c.forget_status.ensures.counts a in
    subst (λ (z : Held Tree). Restored (thread_counts q) (thread_counts z) k o c.args.generation c.args.generation) (sym c.in-Err.ensures.unchanged)
    (undone_restores k l o how c.store_status.ensures.others c.store_status.ensures.counts c.forget_status.ensures.others less (thread_counts q) c.args.generation)

pub returns-in-Err-clause-below : goal.returns-in-Err-clause-below
returns-in-Err-clause-below g c = λ count below.
    subst (IsBelow count (c.args.generation + 1)) (sym c.in-Err.ensures.unchanged) (nothing_below c.args.queues.now count c.args.generation 1 below)

pub returns-in-Err-clause-failed : goal.returns-in-Err-clause-failed
returns-in-Err-clause-failed g c = λ count goals h stands.
    let q = c.args.queues.now in
    let how = c.args.status in
    let k = keeper_view c.args.keeper.now in
    let l = keeper_view c.store_status.new.keeper in
    let o = keeper_view c.forget_status.new.keeper in
    let same : c.in-Err.status ≡ how = handed_back _ (end_refusal q.state c.args.engine) _ how c.in-Err.ensures.refused c.in-Err.ensures.ended in
    let less : (a : ℕ) → weigh_how (naming a) how + tally o a ≡ tally l a = λ a. ap (λ (z : Status Tree). weigh_how (naming a) z + tally o a) (sym same) ∙ c.forget_status.ensures.counts a in
    subst (λ (z : Held Tree). IsThreads o z count goals h) (sym c.in-Err.ensures.unchanged)
    (undone_stands k l o how c.store_status.ensures.others c.store_status.ensures.counts c.forget_status.ensures.others less q c.args.generation c.is_sound.ensures c.requires.counts count goals h stands)
