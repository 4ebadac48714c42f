use Rattle.std.proofs.Common.{ℕ, List, Option, ap₂, sym, ◌∙◌, arith, codes}
use Rattle.pl_term.specs.Tree.{Chars}
use Rattle.pl_model.specs.ErrorTerms.{resource_error}
use Rattle.atom_words.specs.Seats.{seen}
use Rattle.atom_table.specs.Naming.{names}
use Rattle.counted_terms.specs.CountedTerms.{said}
use Rattle.counted_terms.specs.Keeping.{keeper_view}
use Rattle.counted_terms.proofs.MadeTerms.{held_some}
use Rattle.hub_threads.specs.Rows.{updates_in}
use Rattle.hub_threads.specs.Goals.{called_after}
use Rattle.hub_threads.proofs.Calling.{called_quiet}
use Rattle.hub_threads.proofs.RefusedRows.{refuses_decides, threads_is}
use Rattle.hub_threads.proofs.Sending.{nothing_below}
use Rattle.hub_threads.proofs.StartedThreads.{starts_full, starts_worn}
use Rattle.hub_threads.proofs.starting.start_with.Goals as goal

-- 64 ENGINES RUN
pub returns-then-not-has_engine-clause-says : goal.returns-then-not-has_engine-clause-says
returns-then-not-has_engine-clause-says g c = λ e goals h v made long stands serves says.
    let k = keeper_view c.args.keeper.now in
    let q = c.args.queues.now in
    let m = names (seen c.args.atoms.now.seat) in
    let stand = c.args.atoms.now.lawful.stand in
    refuses_decides k m e v q c.args.count.now goals h (resource_error (codes "threads"))
    (serves ∙ starts_full k q c.args.count.now goals h stands c.args.number (said m c.args.goal) c.args.alias made (sym c.has_engine.ensures ∙ c.if-not-has_engine.true))
    stands c.used_up.result (c.used_up.ensures.says m (codes "threads") stand (stand 173 (codes "threads") threads_is))

pub returns-then-not-has_engine-clause-named : goal.returns-then-not-has_engine-clause-named
returns-then-not-has_engine-clause-named g c =
    let m = names (seen c.args.atoms.now.seat) in
    let stand = c.args.atoms.now.lawful.stand in
    c.used_up.ensures.named m stand (held_some m 173 (codes "threads") (stand 173 (codes "threads") threads_is))

pub returns-then-not-has_engine-clause-below : goal.returns-then-not-has_engine-clause-below
returns-then-not-has_engine-clause-below g c = nothing_below c.args.queues.now c.args.count.now c.args.generation (updates_in c.used_up.result) c.requires.below

-- NO UPDATE IS MADE ANY MORE
pub returns-then-generation-ge-MOST_UPDATES-clause-says : goal.returns-then-generation-ge-MOST_UPDATES-clause-says
returns-then-generation-ge-MOST_UPDATES-clause-says g c = λ e goals h v made long stands serves says.
    let k = keeper_view c.args.keeper.now in
    let q = c.args.queues.now in
    let m = names (seen c.args.atoms.now.seat) in
    refuses_decides k m e v q c.args.count.now goals h (resource_error (codes "generations"))
    (serves ∙ starts_worn k q c.args.count.now goals h stands c.args.number (said m c.args.goal) c.args.alias made (sym c.has_engine.ensures ∙ c.if-not-has_engine.false) (let high = c.if-generation-ge-MOST_UPDATES.true in let l = long in omega (arith, high, l)))
    stands c.worn_out.result (c.worn_out.ensures.says m c.args.atoms.now.lawful.stand)

pub returns-then-generation-ge-MOST_UPDATES-clause-named : goal.returns-then-generation-ge-MOST_UPDATES-clause-named
returns-then-generation-ge-MOST_UPDATES-clause-named g c = c.worn_out.ensures.named (names (seen c.args.atoms.now.seat)) c.args.atoms.now.lawful.stand

pub returns-then-generation-ge-MOST_UPDATES-clause-below : goal.returns-then-generation-ge-MOST_UPDATES-clause-below
returns-then-generation-ge-MOST_UPDATES-clause-below g c = nothing_below c.args.queues.now c.args.count.now c.args.generation (updates_in c.worn_out.result) c.requires.below

pub returns-then-not-has_engine-clause-begun : goal.returns-then-not-has_engine-clause-begun
returns-then-not-has_engine-clause-begun g c = sym (called_quiet c.used_up.result c.args.number c.args.alias c.args.begun.now.items c.used_up.ensures.reads)

pub returns-then-generation-ge-MOST_UPDATES-clause-begun : goal.returns-then-generation-ge-MOST_UPDATES-clause-begun
returns-then-generation-ge-MOST_UPDATES-clause-begun g c = sym (called_quiet c.worn_out.result c.args.number c.args.alias c.args.begun.now.items c.worn_out.ensures.reads)

pub returns-clause-begun : goal.returns-clause-begun
returns-clause-begun g c =
    c.note.ensures ∙ ap₂ (λ (a : Option Chars) (xs : List (ℕ × Option Chars)). called_after c.begin-row.result c.args.number a xs) c.in-Ok.ensures.copy c.room_for.ensures.same
