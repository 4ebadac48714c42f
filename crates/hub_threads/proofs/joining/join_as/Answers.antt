use Rattle.std.proofs.Common.{◌≡◌, ◌<◌, ℕ, ◌+◌, sym, ap, subst, ◌∙◌}
use Rattle.std.proofs.lemmas.Option.{same_Some}
use Rattle.pl_term.specs.Tree.{Tree}
use Rattle.pl_model.specs.declared.threads.Status.{Status}
use Rattle.pl_model.specs.Service.{status_term}
use Rattle.pl_model.specs.Threads.{thread_named}
use Rattle.atom_words.specs.Seats.{seen}
use Rattle.atom_table.specs.Naming.{names}
use Rattle.counted_terms.specs.CountedTerms.{naming, said}
use Rattle.counted_terms.specs.Keeping.{keeper_view, kept, tally}
use Rattle.hub_threads.specs.Serving.{status_as}
use Rattle.hub_threads.specs.Weights.{weigh_how}
use Rattle.hub_threads.proofs.JoinedThreads.{ended_so, join_changes, joined_below, joined_counted, joined_restores, numbered_thread}
use Rattle.hub_threads.proofs.Sending.{at_some}
use Rattle.hub_threads.proofs.joining.join_as.Goals as goal

pub hand_over_status-requires-clause-counted : goal.hand_over_status-requires-clause-counted
hand_over_status-requires-clause-counted g c = λ a some_.
    let q = c.args.queues.now in
    let r = c.join.new.self in
    let k = keeper_view c.args.keeper.now in
    let there = c.requires.there in
    let d = at_some _ (thread_named q.state c.args.name.now) there.thread there.found c.in-Ok-Some.ensures.joined in
    let how : c.in-Ok-Some.how ≡ there.status = same_Some _ _ (sym c.in-Ok-Some.field-0-is ∙ d.0 ∙ there.ended) in
    let number = numbered_thread q.state c.args.name.now there.thread there.found in
    joined_counted q r there.thread there.status c.is_sound.ensures number there.ended d.1 k c.args.generation c.requires.counts a (subst (λ (z : Status Tree). 0 < weigh_how (naming a) z) how some_)

pub returns-in-Ok-Some-clause-restored : goal.returns-in-Ok-Some-clause-restored
returns-in-Ok-Some-clause-restored g c =
    let q = c.args.queues.now in
    let r = c.join.new.self in
    let k = keeper_view c.args.keeper.now in
    let there = c.requires.there in
    let d = at_some _ (thread_named q.state c.args.name.now) there.thread there.found c.in-Ok-Some.ensures.joined in
    let how : c.in-Ok-Some.how ≡ there.status = same_Some _ _ (sym c.in-Ok-Some.field-0-is ∙ d.0 ∙ there.ended) in
    let number = numbered_thread q.state c.args.name.now there.thread there.found in
    let l = keeper_view c.hand_over_status.new.keeper in
    let counts : (a : ℕ) → weigh_how (naming a) there.status + tally l a ≡ tally k a = λ a. ap (λ (z : Status Tree). weigh_how (naming a) z + tally l a) (sym how) ∙ c.hand_over_status.ensures.counts a in
    joined_restores q r there.thread there.status c.is_sound.ensures number there.ended d.1 k l c.args.generation c.hand_over_status.ensures.others counts

pub returns-in-Ok-Some-clause-below : goal.returns-in-Ok-Some-clause-below
returns-in-Ok-Some-clause-below g c = λ count below.
    let q = c.args.queues.now in
    let r = c.join.new.self in
    let k = keeper_view c.args.keeper.now in
    let there = c.requires.there in
    let d = at_some _ (thread_named q.state c.args.name.now) there.thread there.found c.in-Ok-Some.ensures.joined in
    let how : c.in-Ok-Some.how ≡ there.status = same_Some _ _ (sym c.in-Ok-Some.field-0-is ∙ d.0 ∙ there.ended) in
    let number = numbered_thread q.state c.args.name.now there.thread there.found in
    joined_below q r there.thread there.status c.is_sound.ensures number there.ended d.1 count c.args.generation below

pub returns-in-Ok-Some-clause-says : goal.returns-in-Ok-Some-clause-says
returns-in-Ok-Some-clause-says g c = λ count goals h y long stands named.
    let q = c.args.queues.now in
    let r = c.join.new.self in
    let k = keeper_view c.args.keeper.now in
    let there = c.requires.there in
    let d = at_some _ (thread_named q.state c.args.name.now) there.thread there.found c.in-Ok-Some.ensures.joined in
    let how : c.in-Ok-Some.how ≡ there.status = same_Some _ _ (sym c.in-Ok-Some.field-0-is ∙ d.0 ∙ there.ended) in
    let number = numbered_thread q.state c.args.name.now there.thread there.found in
    let l = keeper_view c.hand_over_status.new.keeper in
    let counts : (a : ℕ) → weigh_how (naming a) there.status + tally l a ≡ tally k a = λ a. ap (λ (z : Status Tree). weigh_how (naming a) z + tally l a) (sym how) ∙ c.hand_over_status.ensures.counts a in
    let n = names (seen c.hand_over_status.new.atoms.seat) in
    join_changes q r there.thread there.status c.is_sound.ensures number there.ended d.1 k l c.args.generation c.hand_over_status.ensures.others counts c.requires.counts
    n c.args.engine count goals h y c.args.status c.args.name.now c.are_sound.ensures c.requires.room long stands named there.found there.other
    (c.requires.says n there.status c.hand_over_status.new.atoms.lawful.stand (ended_so q.state c.args.name.now c.args.engine there)
    ∙ ap status_term (ap (status_as (said n)) (sym how) ∙ c.hand_over_status.ensures.says ∙ ap (status_as (said (kept k))) how))
