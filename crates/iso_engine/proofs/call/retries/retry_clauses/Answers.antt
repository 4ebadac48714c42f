use Rattle.std.proofs.Common.{◌≡◌, ◌≤◌, ◌++◌, ℤ, length, sym, subst, ◌∙◌, append-nil}
use Rattle.std.specs.Prelude.{IfOk, IsSome, false}
use Rattle.std.specs.List.{All}
use Rattle.pl_term.specs.Tree.{int}
use Rattle.atom_api.specs.Names.{Names}
use Rattle.term_store.specs.Contents.{Holds, term_at}
use Rattle.term_store.specs.NumberedNames.{atoms_in}
use Rattle.iso_search.specs.declared.search.Search.{Search}
use Rattle.iso_search.specs.Searching.{IsWhole}
use Rattle.world_api.specs.Gains.{Gains}
use Rattle.world_api.specs.Texts.{Holds as AreHeld}
use Rattle.world_api.specs.Told.{Told, has_ended}
use Rattle.world_api.proofs.Gaining.{gains_nothing}
use Rattle.iso_engine.specs.Unserved.{OnRefusal, UnlessMemory, refusals_in}
use Rattle.iso_engine.specs.Purposes.{listed_in}
use Rattle.iso_engine.proofs.Requests.{no_integer}
use Rattle.iso_engine.proofs.KnownAnswers.{from_there, same_held, where_none}
use Rattle.iso_search.specs.Choices.{listed_goal, purpose_of}
use Rattle.iso_search.specs.Reading.{reads}
use Rattle.iso_engine.specs.ClausesAsked.{IsRetryAsked}
use Rattle.iso_engine.specs.Ready.{MayGoOn}
use Rattle.iso_engine.specs.Retried.{IsNextRun, IsPutBack}
use Rattle.iso_engine.specs.Views.{view_of}
use Rattle.iso_engine.proofs.call.retries.retry_clauses.Goals as goal

pub retry_anew-requires-clause-whole : goal.retry_anew-requires-clause-whole
retry_anew-requires-clause-whole g c =
    let m : Names = g.W.A.Atoms.held c.args.atoms.now in
    let k : Names = g.W.A.Atoms.held c.retry_known.new.atoms in
    let t : Told = g.W.World.told c.args.world.now in
    let u : Told = g.W.World.told c.retry_known.new.world in
    let e : Search = c.args.search.now in
    let d : Search = c.retry_known.new.search in
    let none = where_none ((u ≡ t) × (d ≡ e)) c.in_ok-known.known c.in-None.is c.in_ok-known.ensures.none in
    from_there (λ (m : Names) (t : Told) (e : Search). IsWhole e) k m u t d e (sym c.retry_known.ensures.held) (sym none.0) (sym none.1) c.requires.whole

pub retry_anew-requires-clause-goal : goal.retry_anew-requires-clause-goal
retry_anew-requires-clause-goal g c =
    let m : Names = g.W.A.Atoms.held c.args.atoms.now in
    let k : Names = g.W.A.Atoms.held c.retry_known.new.atoms in
    let t : Told = g.W.World.told c.args.world.now in
    let u : Told = g.W.World.told c.retry_known.new.world in
    let e : Search = c.args.search.now in
    let d : Search = c.retry_known.new.search in
    let none = where_none ((u ≡ t) × (d ≡ e)) c.in_ok-known.known c.in-None.is c.in_ok-known.ensures.none in
    from_there (λ (m : Names) (t : Told) (e : Search). Holds e.store c.args.goal) k m u t d e (sym c.retry_known.ensures.held) (sym none.0) (sym none.1) c.requires.goal

pub retry_anew-requires-clause-callable : goal.retry_anew-requires-clause-callable
retry_anew-requires-clause-callable g c =
    let m : Names = g.W.A.Atoms.held c.args.atoms.now in
    let k : Names = g.W.A.Atoms.held c.retry_known.new.atoms in
    let t : Told = g.W.World.told c.args.world.now in
    let u : Told = g.W.World.told c.retry_known.new.world in
    let e : Search = c.args.search.now in
    let d : Search = c.retry_known.new.search in
    let none = where_none ((u ≡ t) × (d ≡ e)) c.in_ok-known.known c.in-None.is c.in_ok-known.ensures.none in
    from_there (λ (m : Names) (t : Told) (e : Search). (i : ℤ) → listed_in c.args.purpose (term_at e.store c.args.goal) ≡ int i → ⊥) k m u t d e (sym c.retry_known.ensures.held) (sym none.0) (sym none.1)
    (λ i is. no_integer (term_at e.store c.args.listed) c.args.request c.requires.request i (c.requires.stands ∙ is))

pub retry_anew-requires-clause-next : goal.retry_anew-requires-clause-next
retry_anew-requires-clause-next g c =
    let m : Names = g.W.A.Atoms.held c.args.atoms.now in
    let k : Names = g.W.A.Atoms.held c.retry_known.new.atoms in
    let t : Told = g.W.World.told c.args.world.now in
    let u : Told = g.W.World.told c.retry_known.new.world in
    let e : Search = c.args.search.now in
    let d : Search = c.retry_known.new.search in
    let none = where_none ((u ≡ t) × (d ≡ e)) c.in_ok-known.known c.in-None.is c.in_ok-known.ensures.none in
    from_there (λ (m : Names) (t : Told) (e : Search). c.args.next ≤ length e.frames.items) k m u t d e (sym c.retry_known.ensures.held) (sym none.0) (sym none.1) c.requires.next

pub retry_anew-requires-clause-held : goal.retry_anew-requires-clause-held
retry_anew-requires-clause-held g c =
    let m : Names = g.W.A.Atoms.held c.args.atoms.now in
    let k : Names = g.W.A.Atoms.held c.retry_known.new.atoms in
    let t : Told = g.W.World.told c.args.world.now in
    let u : Told = g.W.World.told c.retry_known.new.world in
    let e : Search = c.args.search.now in
    let d : Search = c.retry_known.new.search in
    let none = where_none ((u ≡ t) × (d ≡ e)) c.in_ok-known.known c.in-None.is c.in_ok-known.ensures.none in
    from_there (λ (m : Names) (t : Told) (e : Search). All (λ a. IsSome (m a)) (atoms_in (term_at e.store c.args.goal))) k m u t d e (sym c.retry_known.ensures.held) (sym none.0) (sym none.1) c.requires.held

pub retry_anew-requires-clause-open : goal.retry_anew-requires-clause-open
retry_anew-requires-clause-open g c =
    let m : Names = g.W.A.Atoms.held c.args.atoms.now in
    let k : Names = g.W.A.Atoms.held c.retry_known.new.atoms in
    let t : Told = g.W.World.told c.args.world.now in
    let u : Told = g.W.World.told c.retry_known.new.world in
    let e : Search = c.args.search.now in
    let d : Search = c.retry_known.new.search in
    let none = where_none ((u ≡ t) × (d ≡ e)) c.in_ok-known.known c.in-None.is c.in_ok-known.ensures.none in
    from_there (λ (m : Names) (t : Told) (e : Search). MayGoOn t (listed_goal (purpose_of c.args.purpose) (reads (view_of m t) e.store c.args.goal)) c.args.generation c.args.place) k m u t d e (sym c.retry_known.ensures.held) (sym none.0) (sym none.1) c.requires.open

pub retry_anew-requires-clause-runs : goal.retry_anew-requires-clause-runs
retry_anew-requires-clause-runs g c =
    let m : Names = g.W.A.Atoms.held c.args.atoms.now in
    let k : Names = g.W.A.Atoms.held c.retry_known.new.atoms in
    let t : Told = g.W.World.told c.args.world.now in
    let u : Told = g.W.World.told c.retry_known.new.world in
    let e : Search = c.args.search.now in
    let d : Search = c.retry_known.new.search in
    let none = where_none ((u ≡ t) × (d ≡ e)) c.in_ok-known.known c.in-None.is c.in_ok-known.ensures.none in
    from_there (λ (m : Names) (t : Told) (e : Search). has_ended t.engine t.history ≡ false) k m u t d e (sym c.retry_known.ensures.held) (sym none.0) (sym none.1) c.requires.runs

pub returns-in-None-clause-retried : goal.returns-in-None-clause-retried
returns-in-None-clause-retried g c =
    let m : Names = g.W.A.Atoms.held c.args.atoms.now in
    let k : Names = g.W.A.Atoms.held c.retry_known.new.atoms in
    let t : Told = g.W.World.told c.args.world.now in
    let u : Told = g.W.World.told c.retry_known.new.world in
    let e : Search = c.args.search.now in
    let d : Search = c.retry_known.new.search in
    let none = where_none ((u ≡ t) × (d ≡ e)) c.in_ok-known.known c.in-None.is c.in_ok-known.ensures.none in
    from_there (λ (m : Names) (t : Told) (e : Search). IfOk c.retry_anew.result (IsNextRun t e c.args.purpose c.args.goal c.args.generation c.args.place c.args.next (g.W.A.Atoms.held c.retry_anew.new.atoms) (g.W.World.told c.retry_anew.new.world) c.retry_anew.new.search)) m k t u e d c.retry_known.ensures.held none.0 none.1 c.retry_anew.ensures.retried

pub returns-in-None-clause-put_back : goal.returns-in-None-clause-put_back
returns-in-None-clause-put_back g c =
    let m : Names = g.W.A.Atoms.held c.args.atoms.now in
    let k : Names = g.W.A.Atoms.held c.retry_known.new.atoms in
    let t : Told = g.W.World.told c.args.world.now in
    let u : Told = g.W.World.told c.retry_known.new.world in
    let e : Search = c.args.search.now in
    let d : Search = c.retry_known.new.search in
    let none = where_none ((u ≡ t) × (d ≡ e)) c.in_ok-known.known c.in-None.is c.in_ok-known.ensures.none in
    from_there (λ (m : Names) (t : Told) (e : Search). OnRefusal c.retry_anew.result (IsPutBack t e c.args.purpose c.args.goal c.args.generation c.args.place c.args.next (g.W.World.told c.retry_anew.new.world) c.retry_anew.new.search)) m k t u e d c.retry_known.ensures.held none.0 none.1 c.retry_anew.ensures.put_back

pub returns-in-None-clause-budgets : goal.returns-in-None-clause-budgets
returns-in-None-clause-budgets g c =
    let m : Names = g.W.A.Atoms.held c.args.atoms.now in
    let k : Names = g.W.A.Atoms.held c.retry_known.new.atoms in
    let t : Told = g.W.World.told c.args.world.now in
    let u : Told = g.W.World.told c.retry_known.new.world in
    let e : Search = c.args.search.now in
    let d : Search = c.retry_known.new.search in
    let none = where_none ((u ≡ t) × (d ≡ e)) c.in_ok-known.known c.in-None.is c.in_ok-known.ensures.none in
    from_there (λ (m : Names) (t : Told) (e : Search). UnlessMemory c.retry_anew.result (c.retry_anew.new.search.budgets ≡ e.budgets)) m k t u e d c.retry_known.ensures.held none.0 none.1 c.retry_anew.ensures.budgets

pub returns-in-None-clause-holds : goal.returns-in-None-clause-holds
returns-in-None-clause-holds g c =
    let m : Names = g.W.A.Atoms.held c.args.atoms.now in
    let k : Names = g.W.A.Atoms.held c.retry_known.new.atoms in
    let t : Told = g.W.World.told c.args.world.now in
    let u : Told = g.W.World.told c.retry_known.new.world in
    let e : Search = c.args.search.now in
    let d : Search = c.retry_known.new.search in
    let none = where_none ((u ≡ t) × (d ≡ e)) c.in_ok-known.known c.in-None.is c.in_ok-known.ensures.none in
    from_there (λ (m : Names) (t : Told) (e : Search). AreHeld m (g.W.A.Atoms.held c.retry_anew.new.atoms)) m k t u e d c.retry_known.ensures.held none.0 none.1 c.retry_anew.ensures.holds

pub returns-in-None-clause-refusals : goal.returns-in-None-clause-refusals
returns-in-None-clause-refusals g c =
    subst (λ l. UnlessMemory c.retry_anew.result (g.W.A.Atoms.refusals c.retry_anew.new.atoms ≡ l ++ refusals_in c.retry_anew.result)) c.retry_known.ensures.refusals c.retry_anew.ensures.refusals

pub returns-in-None-clause-asked : goal.returns-in-None-clause-asked
returns-in-None-clause-asked g c =
    let m : Names = g.W.A.Atoms.held c.args.atoms.now in
    let k : Names = g.W.A.Atoms.held c.retry_known.new.atoms in
    let t : Told = g.W.World.told c.args.world.now in
    let u : Told = g.W.World.told c.retry_known.new.world in
    let e : Search = c.args.search.now in
    let d : Search = c.retry_known.new.search in
    let none = where_none ((u ≡ t) × (d ≡ e)) c.in_ok-known.known c.in-None.is c.in_ok-known.ensures.none in
    from_there (λ (m : Names) (t : Told) (e : Search). Gains (IsRetryAsked m t e c.args.purpose c.args.goal c.args.generation c.args.place) (g.W.A.Atoms.asked c.args.atoms.now) (g.W.A.Atoms.asked c.retry_anew.new.atoms)) m k t u e d c.retry_known.ensures.held none.0 none.1 (subst (λ a. Gains (IsRetryAsked k u d c.args.purpose c.args.goal c.args.generation c.args.place) a (g.W.A.Atoms.asked c.retry_anew.new.atoms)) c.retry_known.ensures.asked c.retry_anew.ensures.asked)

pub returns-in-Some-clause-holds : goal.returns-in-Some-clause-holds
returns-in-Some-clause-holds g c = same_held (g.W.A.Atoms.held c.args.atoms.now) (g.W.A.Atoms.held c.retry_known.new.atoms) c.retry_known.ensures.held

pub returns-in-Some-clause-refusals : goal.returns-in-Some-clause-refusals
returns-in-Some-clause-refusals g c = c.retry_known.ensures.refusals ∙ sym (append-nil (g.W.A.Atoms.refusals c.args.atoms.now))

pub returns-in-Some-clause-asked : goal.returns-in-Some-clause-asked
returns-in-Some-clause-asked g c = gains_nothing (IsRetryAsked (g.W.A.Atoms.held c.args.atoms.now) (g.W.World.told c.args.world.now) c.args.search.now c.args.purpose c.args.goal c.args.generation c.args.place) (g.W.A.Atoms.asked c.args.atoms.now) (g.W.A.Atoms.asked c.retry_known.new.atoms) c.retry_known.ensures.asked

pub returns-in_err-known-clause-holds : goal.returns-in_err-known-clause-holds
returns-in_err-known-clause-holds g c = same_held (g.W.A.Atoms.held c.args.atoms.now) (g.W.A.Atoms.held c.retry_known.new.atoms) c.retry_known.ensures.held

pub returns-in_err-known-clause-asked : goal.returns-in_err-known-clause-asked
returns-in_err-known-clause-asked g c = gains_nothing (IsRetryAsked (g.W.A.Atoms.held c.args.atoms.now) (g.W.World.told c.args.world.now) c.args.search.now c.args.purpose c.args.goal c.args.generation c.args.place) (g.W.A.Atoms.asked c.args.atoms.now) (g.W.A.Atoms.asked c.retry_known.new.atoms) c.retry_known.ensures.asked
