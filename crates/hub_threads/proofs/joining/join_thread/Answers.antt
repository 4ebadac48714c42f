use Rattle.std.proofs.Common.{◌≡◌, eq-eqb, Bool, ℕ, sym, ap, subst, ◌∙◌, codes}
use Rattle.std.specs.Prelude.{◌==◌, Some}
use Rattle.std.proofs.lemmas.Bool.{ne_eqb}
use Rattle.std.specs.List.{All}
use Rattle.std.specs.Option.{IsSome}
use Rattle.pl_model.specs.ErrorTerms.{existence_error, permission_error}
use Rattle.pl_model.specs.Requests as requests
use Rattle.pl_model.specs.Service.{name_of}
use Rattle.atom_api.specs.Names.{Names}
use Rattle.atom_words.specs.Seats.{seen}
use Rattle.atom_table.specs.Naming.{names}
use Rattle.counted_terms.specs.CountedTerms.{said}
use Rattle.counted_terms.specs.Keeping.{keeper_view}
use Rattle.counted_terms.specs.Rows.{row_names}
use Rattle.counted_terms.proofs.MadeTerms.{held_some}
use Rattle.hub_threads.specs.Finding.{known}
use Rattle.hub_threads.specs.Rows.{Decides}
use Rattle.hub_threads.proofs.JoinedThreads.{has_ended, join_missing, join_own, join_waits, knows, runs_still, waits_for}
use Rattle.hub_threads.proofs.RefusedRows.{join_is, refuses_decides, thread_is}
use Rattle.hub_threads.proofs.joining.join_thread.Goals as goal

-- OUT OF MEMORY
pub returns-in-Memory-clause-holds : goal.returns-in-Memory-clause-holds
returns-in-Memory-clause-holds g c = λ a t e. ap (λ (f : Names). f a) c.find_thread.ensures.held ∙ e

-- NO THREAD
pub returns-in-Missing-clause-says : goal.returns-in-Missing-clause-says
returns-in-Missing-clause-says g c = λ count goals h long stands.
    let k = keeper_view c.args.keeper.now in
    let q = c.args.queues.now in
    let m = names (seen c.args.atoms.now.seat) in
    let x = said m c.args.thread.now in
    let stand = c.args.atoms.now.lawful.stand in
    subst (λ (z : Names). Decides k z c.args.engine (requests.join_thread x) q count goals h c.not_there.result) (sym c.find_thread.ensures.held)
    (refuses_decides k m c.args.engine (requests.join_thread x) q count goals h (existence_error (codes "thread") x)
    (join_missing k q count goals h stands c.args.engine x c.in-Missing.ensures.finds) stands c.not_there.result (c.not_there.ensures.says m (codes "thread") stand (stand 163 (codes "thread") thread_is)))

pub returns-in-Missing-clause-named : goal.returns-in-Missing-clause-named
returns-in-Missing-clause-named g c =
    let m = names (seen c.args.atoms.now.seat) in
    let stand = c.args.atoms.now.lawful.stand in
    subst (λ (z : Names). All (λ a. IsSome (z a)) (row_names c.not_there.result)) (sym c.find_thread.ensures.held)
    (c.not_there.ensures.named m stand (held_some m 163 (codes "thread") (stand 163 (codes "thread") thread_is)) c.requires.thread)

pub returns-in-Missing-clause-holds : goal.returns-in-Missing-clause-holds
returns-in-Missing-clause-holds g c = λ a t e. ap (λ (f : Names). f a) c.find_thread.ensures.held ∙ e

-- THE ENGINE ITSELF
pub returns-then-number-engine-clause-says : goal.returns-then-number-engine-clause-says
returns-then-number-engine-clause-says g c = λ count goals h long stands.
    let k = keeper_view c.args.keeper.now in
    let q = c.args.queues.now in
    let m = names (seen c.args.atoms.now.seat) in
    let x = said m c.args.thread.now in
    let stand = c.args.atoms.now.lawful.stand in
    let t = knows q.state c.in-Is.name c.in-Is.number c.in-Is.has_ended c.in-Is.ensures.finds.1 in
    subst (λ (z : Names). Decides k z c.args.engine (requests.join_thread x) q count goals h c.not_permitted.result) (sym c.find_thread.ensures.held)
    (refuses_decides k m c.args.engine (requests.join_thread x) q count goals h (permission_error (codes "join") (codes "thread") x)
    (join_own k q count goals h stands c.args.engine x c.in-Is.name c.in-Is.ensures.finds.0 t.thread t.found (eq-eqb t.thread.number c.args.engine (t.number ∙ c.if-number-engine.true)))
    stands c.not_permitted.result (c.not_permitted.ensures.says m (codes "join") (codes "thread") stand (stand 112 (codes "join") join_is) (stand 163 (codes "thread") thread_is)))

pub returns-then-number-engine-clause-named : goal.returns-then-number-engine-clause-named
returns-then-number-engine-clause-named g c =
    let m = names (seen c.args.atoms.now.seat) in
    let stand = c.args.atoms.now.lawful.stand in
    subst (λ (z : Names). All (λ a. IsSome (z a)) (row_names c.not_permitted.result)) (sym c.find_thread.ensures.held)
    (c.not_permitted.ensures.named m stand (held_some m 112 (codes "join") (stand 112 (codes "join") join_is)) (held_some m 163 (codes "thread") (stand 163 (codes "thread") thread_is)) c.requires.thread)

pub returns-then-number-engine-clause-holds : goal.returns-then-number-engine-clause-holds
returns-then-number-engine-clause-holds g c = λ a t e. ap (λ (f : Names). f a) c.find_thread.ensures.held ∙ e

-- A THREAD THAT HAS NOT ENDED
pub returns-then-not-has_ended-clause-says : goal.returns-then-not-has_ended-clause-says
returns-then-not-has_ended-clause-says g c = λ count goals h long stands.
    let k = keeper_view c.args.keeper.now in
    let q = c.args.queues.now in
    let m = names (seen c.args.atoms.now.seat) in
    let x = said m c.args.thread.now in
    let t = knows q.state c.in-Is.name c.in-Is.number c.in-Is.has_ended c.in-Is.ensures.finds.1 in
    subst (λ (z : Names). Decides k z c.args.engine (requests.join_thread x) q count goals h c.wait_on_thread.result) (sym c.find_thread.ensures.held)
    (waits_for k m c.args.engine q count goals h x c.in-Is.name c.in-Is.ensures.finds.0
    (join_waits k q count goals h stands c.args.engine x c.in-Is.name c.in-Is.ensures.finds.0 t.thread t.found
    (ap (λ (n : ℕ). n == c.args.engine) t.number ∙ ne_eqb c.in-Is.number c.args.engine c.if-number-engine.false) (runs_still t.thread (t.ended ∙ c.if-not-has_ended.true)))
    stands c.wait_on_thread.result (c.wait_on_thread.ensures.says m c.in-Is.name c.args.atoms.now.lawful.stand c.in-Is.ensures.finds.0))

pub returns-then-not-has_ended-clause-named : goal.returns-then-not-has_ended-clause-named
returns-then-not-has_ended-clause-named g c =
    subst (λ (z : Names). All (λ a. IsSome (z a)) (row_names c.wait_on_thread.result)) (sym c.find_thread.ensures.held)
    (c.wait_on_thread.ensures.named (names (seen c.args.atoms.now.seat)) c.requires.thread)

pub returns-then-not-has_ended-clause-holds : goal.returns-then-not-has_ended-clause-holds
returns-then-not-has_ended-clause-holds g c = λ a t e. ap (λ (f : Names). f a) c.find_thread.ensures.held ∙ e

-- A THREAD THAT HAS
pub join_ended-requires-clause-named : goal.join_ended-requires-clause-named
join_ended-requires-clause-named g c = subst (λ (z : Names). name_of (said z c.args.thread.now) ≡ Some c.in-Is.name) (sym c.find_thread.ensures.held) c.in-Is.ensures.finds.0

pub join_ended-requires-clause-there : goal.join_ended-requires-clause-there
join_ended-requires-clause-there g c =
    has_ended c.args.queues.now.state c.in-Is.name c.in-Is.number c.args.engine
    (subst (λ (b : Bool). known c.args.queues.now.state c.in-Is.name ≡ Some (c.in-Is.number, b)) c.if-not-has_ended.false c.in-Is.ensures.finds.1)
    (ne_eqb c.in-Is.number c.args.engine c.if-number-engine.false)

pub returns-else-not-has_ended-clause-says : goal.returns-else-not-has_ended-clause-says
returns-else-not-has_ended-clause-says g c = λ count goals h long stands.
    subst (λ (z : Names). Decides (keeper_view c.join_ended.new.keeper) (names (seen c.join_ended.new.atoms.seat)) c.args.engine (requests.join_thread (said z c.args.thread.now)) c.join_ended.new.queues count goals h c.join_ended.result) c.find_thread.ensures.held
    (c.join_ended.ensures.says count goals h long stands)

pub returns-else-not-has_ended-clause-holds : goal.returns-else-not-has_ended-clause-holds
returns-else-not-has_ended-clause-holds g c = λ a t e. c.join_ended.ensures.holds a t (ap (λ (f : Names). f a) c.find_thread.ensures.held ∙ e)
