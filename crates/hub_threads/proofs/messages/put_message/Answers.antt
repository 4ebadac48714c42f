use Rattle.std.proofs.Common.{◌≡◌, ◌+◌, sym, ap, subst, ◌∙◌, arith}
use Rattle.pl_model.specs.Threads.{queue_named}
use Rattle.pl_term.specs.Tree.{Tree}
use Rattle.pl_term.specs.Variables.{rename}
use Rattle.atom_words.specs.Seats.{seen}
use Rattle.atom_table.specs.Naming.{names}
use Rattle.hub_threads.specs.Held.{Held}
use Rattle.hub_threads.specs.declared.held.fault.QueueFault.{QueueFault}
use Rattle.counted_terms.specs.CountedTerms.{naming}
use Rattle.counted_terms.specs.Sharing.{Restored}
use Rattle.counted_terms.proofs.Sharing.{restored_wider}
use Rattle.counted_terms.specs.Keeping.{keeper_view, tally}
use Rattle.hub_threads.specs.Threads.{IsThreads, thread_counts}
use Rattle.hub_threads.proofs.Renaming.{numbered_said}
use Rattle.hub_threads.proofs.Sending.{at_some, has_room, numbered, sent_below, sent_restores, sent_says, some_of, stored_counted, undone_restores, undone_says}
use Rattle.hub_threads.proofs.Steps.{stays}
use Rattle.hub_threads.proofs.messages.put_message.Goals as goal

pub store_from-requires-clause-room : goal.store_from-requires-clause-room
store_from-requires-clause-room g c = has_room (keeper_view c.args.keeper.now) (thread_counts c.args.queues.now) c.args.generation c.requires.counts c.requires.room

pub send-requires : goal.send-requires
send-requires g c = c.requires.below.1.places c.args.generation (omega arith)

pub returns-in-Ok-clause-restored : goal.returns-in-Ok-clause-restored
returns-in-Ok-clause-restored g c =
    let q = c.args.queues.now in
    let x = some_of (queue_named q.state c.args.name.now) c.requires.there in
    sent_restores (keeper_view c.args.keeper.now) (keeper_view c.store_from.new.keeper) q c.send.new.self c.args.generation x.0 c.args.message c.is_sound.ensures
    (numbered q.state c.args.name.now x.0 x.1) (at_some _ (queue_named q.state c.args.name.now) x.0 x.1 c.in-Ok.ensures.sent) c.store_from.ensures.others c.store_from.ensures.counts

pub returns-in-Ok-clause-below : goal.returns-in-Ok-clause-below
returns-in-Ok-clause-below g c = λ count below.
    let q = c.args.queues.now in
    let x = some_of (queue_named q.state c.args.name.now) c.requires.there in
    sent_below (keeper_view c.args.keeper.now) (keeper_view c.store_from.new.keeper) q c.send.new.self c.args.generation x.0 c.args.message c.is_sound.ensures
    (numbered q.state c.args.name.now x.0 x.1) (at_some _ (queue_named q.state c.args.name.now) x.0 x.1 c.in-Ok.ensures.sent) count below

pub returns-in-Ok-clause-says : goal.returns-in-Ok-clause-says
returns-in-Ok-clause-says g c = λ e count goals h y long stands named.
    let q = c.args.queues.now in
    let k = keeper_view c.args.keeper.now in
    let n = names (seen c.args.atoms.now.seat) in
    let x = some_of (queue_named q.state c.args.name.now) c.requires.there in
    sent_says k (keeper_view c.store_from.new.keeper) q c.send.new.self c.args.generation x.0 c.args.message c.is_sound.ensures
    (numbered q.state c.args.name.now x.0 x.1) (at_some _ (queue_named q.state c.args.name.now) x.0 x.1 c.in-Ok.ensures.sent)
    n (names (seen c.store_from.new.atoms.seat)) e count goals h y c.args.name.now c.requires.room long
    (λ t inside. c.store_from.ensures.others t (stored_counted k q c.args.generation c.requires.counts t inside))
    c.store_from.ensures.says
    (numbered_said n c.args.message (subst (λ (t : Tree). rename 0 t ≡ t) c.term.ensures c.nodes-numbered.ensures.numbered))
    stands named x.1

pub returns-in-Err-clause-restored : goal.returns-in-Err-clause-restored
returns-in-Err-clause-restored g c =
    let q = c.args.queues.now in
    let k = keeper_view c.args.keeper.now in
    let l = keeper_view c.store_from.new.keeper in
    let o = keeper_view c.forget_by.new.keeper in
    let x = some_of (queue_named q.state c.args.name.now) c.requires.there in
    let same : c.in-Err.message ≡ c.args.message = ap (λ (p : Tree × QueueFault). p.0) (at_some _ (queue_named q.state c.args.name.now) x.0 x.1 c.in-Err.ensures.sent) in
    subst (λ (r : Held Tree). Restored (thread_counts q) (thread_counts r) k o c.args.generation (c.args.generation + 0)) (sym c.in-Err.ensures.unchanged)
    (restored_wider (thread_counts q) (thread_counts q) k o c.args.generation c.args.generation (c.args.generation + 0)
    (undone_restores k l o (thread_counts q) c.args.generation c.args.message c.store_from.ensures.others c.store_from.ensures.counts c.forget_by.ensures.others (λ a. ap (λ t. naming a t + tally o a) (sym same) ∙ c.forget_by.ensures.counts a))
    (omega arith))

pub returns-in-Err-clause-says : goal.returns-in-Err-clause-says
returns-in-Err-clause-says g c = λ e count goals h y long stands named.
    let q = c.args.queues.now in
    let k = keeper_view c.args.keeper.now in
    let l = keeper_view c.store_from.new.keeper in
    let o = keeper_view c.forget_by.new.keeper in
    let x = some_of (queue_named q.state c.args.name.now) c.requires.there in
    let same : c.in-Err.message ≡ c.args.message = ap (λ (p : Tree × QueueFault). p.0) (at_some _ (queue_named q.state c.args.name.now) x.0 x.1 c.in-Err.ensures.sent) in
    subst (λ (r : Held Tree). IsThreads o r count goals h) (sym c.in-Err.ensures.unchanged)
    (stays k o q count goals h c.is_sound.ensures
    (λ t inside. undone_says k l o c.args.message t c.store_from.ensures.others c.store_from.ensures.counts c.forget_by.ensures.others (λ a. ap (λ z. naming a z + tally o a) (sym same) ∙ c.forget_by.ensures.counts a) (stored_counted k q c.args.generation c.requires.counts t inside))
    stands)
