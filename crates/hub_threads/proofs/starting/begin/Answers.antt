use Rattle.std.proofs.Common.{◌≡◌, ℕ, ◌+◌, sym, ap, subst, ◌∙◌, arith}
use Rattle.std.specs.List.{All}
use Rattle.std.specs.Option.{IsSome}
use Rattle.pl_term.specs.Tree.{Tree}
use Rattle.pl_term.specs.Variables.{rename}
use Rattle.pl_model.specs.Threads.{counted}
use Rattle.atom_api.specs.Names.{Names}
use Rattle.atom_words.specs.Seats.{seen}
use Rattle.atom_table.specs.Naming.{names}
use Rattle.term_store.specs.NumberedNames.{names_of}
use Rattle.world_api.specs.Replies.{reply_names}
use Rattle.counted_terms.specs.CountedTerms.{naming}
use Rattle.counted_terms.specs.Keeping.{keeper_view, tally}
use Rattle.counted_terms.specs.Sharing.{Restored}
use Rattle.counted_terms.proofs.Sharing.{restored_wider}
use Rattle.hub_threads.specs.declared.held.fault.QueueFault.{QueueFault}
use Rattle.hub_threads.specs.Held.{Held}
use Rattle.hub_threads.specs.Rows.{Changed}
use Rattle.hub_threads.specs.Threads.{IsThreads, thread_counts}
use Rattle.hub_threads.specs.Weights.{IsBelow}
use Rattle.hub_threads.proofs.Renaming.{numbered_said}
use Rattle.hub_threads.proofs.Sending.{has_room, nothing_below, stored_counted, undone_restores, undone_says}
use Rattle.hub_threads.proofs.StartedThreads.{begun_so, start_changes, started_below, started_restores}
use Rattle.hub_threads.proofs.Steps.{stays}
use Rattle.hub_threads.proofs.starting.begin.Goals as goal

pub store_from-requires-clause-room : goal.store_from-requires-clause-room
store_from-requires-clause-room g c = has_room (keeper_view c.args.keeper.now) (thread_counts c.args.queues.now) c.args.generation c.requires.counts c.requires.room

-- IT BEGINS
pub returns-in-Ok-clause-restored : goal.returns-in-Ok-clause-restored
returns-in-Ok-clause-restored g c =
    let q = c.args.queues.now in
    started_restores q c.start.new.self c.args.number c.args.goal c.args.alias c.is_sound.ensures c.requires.new c.requires.unjoined (begun_so _ q.state c.args.alias c.requires.free c.requires.engine c.in-Ok.ensures.started)
    (keeper_view c.args.keeper.now) (keeper_view c.store_from.new.keeper) c.args.generation c.store_from.ensures.others c.store_from.ensures.counts

pub returns-in-Ok-clause-below : goal.returns-in-Ok-clause-below
returns-in-Ok-clause-below g c =
    let q = c.args.queues.now in
    subst (λ (n : ℕ). IsBelow n (c.args.generation + 1) c.start.new.self) (sym c.counted_up.ensures)
    (started_below q c.start.new.self c.args.number c.args.goal c.args.alias c.is_sound.ensures c.requires.new c.requires.unjoined (begun_so _ q.state c.args.alias c.requires.free c.requires.engine c.in-Ok.ensures.started)
    c.args.count.now c.args.generation c.requires.below)

pub returns-in-Ok-clause-says : goal.returns-in-Ok-clause-says
returns-in-Ok-clause-says g c = λ e goals h v made long stands serves says.
    let q = c.args.queues.now in
    let m = names (seen c.args.atoms.now.seat) in
    let l = keeper_view c.store_from.new.keeper in
    let r = c.start.new.self in
    subst (λ (n : ℕ). Changed l (names (seen c.store_from.new.atoms.seat)) e v r n goals h c.args.reply) (sym c.counted_up.ensures)
    (subst (λ (z : Names). Changed l z e v r (counted c.args.number c.args.count.now) goals h c.args.reply) (sym c.store_from.ensures.held)
    (start_changes q r c.args.number c.args.goal c.args.alias c.is_sound.ensures c.requires.new c.requires.unjoined (begun_so _ q.state c.args.alias c.requires.free c.requires.engine c.in-Ok.ensures.started)
    (keeper_view c.args.keeper.now) l c.args.generation c.store_from.ensures.others c.store_from.ensures.counts c.requires.counts c.args.count.now goals h stands e
    m m v made c.args.reply c.requires.engine c.requires.room long
    (numbered_said m c.args.goal (subst (λ (t : Tree). rename 0 t ≡ t) c.term.ensures c.nodes-numbered.ensures.numbered))
    c.store_from.ensures.says serves says))

pub returns-in-Ok-clause-named : goal.returns-in-Ok-clause-named
returns-in-Ok-clause-named g c = subst (λ (z : Names). All (λ a. IsSome (z a)) (reply_names names_of c.args.reply)) (sym c.store_from.ensures.held) c.requires.reply

-- THERE IS NO MEMORY FOR IT
pub returns-in-Err-clause-restored : goal.returns-in-Err-clause-restored
returns-in-Err-clause-restored g c =
    let q = c.args.queues.now in
    let k = keeper_view c.args.keeper.now in
    let l = keeper_view c.store_from.new.keeper in
    let o = keeper_view c.forget_by.new.keeper in
    let same : c.in-Err.goal ≡ c.args.goal = ap (λ (p : Tree × QueueFault). p.0) (begun_so _ q.state c.args.alias c.requires.free c.requires.engine c.in-Err.ensures.started) in
    subst (λ (r : Held Tree). Restored (thread_counts q) (thread_counts r) k o c.args.generation (c.args.generation + 0)) (sym c.in-Err.ensures.unchanged)
    (restored_wider (thread_counts q) (thread_counts q) k o c.args.generation c.args.generation (c.args.generation + 0)
    (undone_restores k l o (thread_counts q) c.args.generation c.args.goal c.store_from.ensures.others c.store_from.ensures.counts c.forget_by.ensures.others (λ a. ap (λ t. naming a t + tally o a) (sym same) ∙ c.forget_by.ensures.counts a))
    (omega arith))

pub returns-in-Err-clause-below : goal.returns-in-Err-clause-below
returns-in-Err-clause-below g c = subst (IsBelow c.args.count.now (c.args.generation + 0)) (sym c.in-Err.ensures.unchanged) (nothing_below c.args.queues.now c.args.count.now c.args.generation 0 c.requires.below)

pub returns-in-Err-clause-says : goal.returns-in-Err-clause-says
returns-in-Err-clause-says g c = λ e goals h v made long stands serves says.
    let q = c.args.queues.now in
    let k = keeper_view c.args.keeper.now in
    let l = keeper_view c.store_from.new.keeper in
    let o = keeper_view c.forget_by.new.keeper in
    let same : c.in-Err.goal ≡ c.args.goal = ap (λ (p : Tree × QueueFault). p.0) (begun_so _ q.state c.args.alias c.requires.free c.requires.engine c.in-Err.ensures.started) in
    subst (λ (r : Held Tree). IsThreads o r c.args.count.now goals h) (sym c.in-Err.ensures.unchanged)
    (stays k o q c.args.count.now goals h c.is_sound.ensures
    (λ t inside. undone_says k l o c.args.goal t c.store_from.ensures.others c.store_from.ensures.counts c.forget_by.ensures.others (λ a. ap (λ z. naming a z + tally o a) (sym same) ∙ c.forget_by.ensures.counts a) (stored_counted k q c.args.generation c.requires.counts t inside))
    stands)
