use Rattle.std.proofs.Common.{◌≡◌, Option, Some, None, map, refl, sym, ap, subst, ◌∙◌, codes}
use Rattle.std.specs.Prelude.{option_map}
use Rattle.std.specs.List.{All}
use Rattle.std.specs.Option.{IsSome}
use Rattle.pl_term.specs.Tree.{Tree, atom}
use Rattle.pl_model.specs.ErrorTerms.{permission_error}
use Rattle.pl_model.specs.Requests as requests
use Rattle.atom_api.specs.Names.{Names}
use Rattle.atom_words.specs.Seats.{seen}
use Rattle.atom_table.specs.Naming.{names}
use Rattle.term_store.specs.NumberedNames.{names_of}
use Rattle.world_api.specs.Texts.{or_no_text, text_of}
use Rattle.world_api.specs.Visits.{optional_names}
use Rattle.counted_terms.specs.CountedTerms.{said}
use Rattle.counted_terms.specs.Keeping.{keeper_view}
use Rattle.counted_terms.specs.Rows.{Answers, row_names}
use Rattle.counted_terms.proofs.MadeTerms.{held_some}
use Rattle.world_api.specs.declared.reply.Reply.TheVariants.{Refused}
use Rattle.hub_threads.specs.Rows.{Decides}
use Rattle.hub_threads.specs.Aliases.{last_of}
use Rattle.hub_threads.specs.Goals.{called_after}
use Rattle.hub_threads.proofs.Calling.{called_quiet}
use Rattle.hub_threads.proofs.CreatedThreads.{create_taken, create_wrong}
use Rattle.hub_threads.proofs.RefusedRows.{refuses_decides, thread_is}
use Rattle.hub_threads.proofs.Sending.{some_of}
use Rattle.hub_threads.proofs.beginning.create_thread.Goals as goal

pub returns-in-Memory-clause-holds : goal.returns-in-Memory-clause-holds
returns-in-Memory-clause-holds g c = λ a t e. ap (λ (f : Names). f a) c.check_aliases.ensures.held ∙ e

-- AN ALIAS NAMES SOMETHING
pub returns-in-Taken-clause-says : goal.returns-in-Taken-clause-says
returns-in-Taken-clause-says g c = λ e goals h long stands.
    let k = keeper_view c.args.keeper.now in
    let q = c.args.queues.now in
    let m = names (seen c.args.atoms.now.seat) in
    let stand = c.args.atoms.now.lawful.stand in
    let t = said m c.args.goal in
    let texts = map (text_of m) c.args.aliases.now in
    let error = option_map (said m) c.args.error in
    let held = some_of (m c.in-Taken.a) c.in-Taken.ensures.checks.1 in
    let v = requests.create_thread t texts error in
    let spelled : text_of m c.in-Taken.a ≡ held.0 = ap (or_no_text c.in-Taken.a) held.1 in
    subst (λ (z : Names). Decides k z e v q c.args.count.now goals h c.alias_taken.result) (sym c.check_aliases.ensures.held)
    (refuses_decides k m e v q c.args.count.now goals h (permission_error (codes "create") (codes "thread") (atom held.0))
    (create_taken k q c.args.count.now goals h stands e t texts error held.0 (c.in-Taken.ensures.checks.0 ∙ ap Some spelled))
    stands c.alias_taken.result (c.alias_taken.ensures.says m (codes "thread") held.0 stand (stand 163 (codes "thread") thread_is) held.1))

pub returns-in-Taken-clause-named : goal.returns-in-Taken-clause-named
returns-in-Taken-clause-named g c =
    let m = names (seen c.args.atoms.now.seat) in
    let stand = c.args.atoms.now.lawful.stand in
    subst (λ (z : Names). All (λ a. IsSome (z a)) (row_names c.alias_taken.result)) (sym c.check_aliases.ensures.held)
    (c.alias_taken.ensures.named m stand (held_some m 163 (codes "thread") (stand 163 (codes "thread") thread_is)) c.in-Taken.ensures.checks.1)

pub returns-in-Taken-clause-holds : goal.returns-in-Taken-clause-holds
returns-in-Taken-clause-holds g c = λ a t e. ap (λ (f : Names). f a) c.check_aliases.ensures.held ∙ e

-- AN OPTION IS WRONG
pub returns-in-Some-clause-says : goal.returns-in-Some-clause-says
returns-in-Some-clause-says g c = λ e goals h long stands.
    let k = keeper_view c.args.keeper.now in
    let q = c.args.queues.now in
    let m = names (seen c.args.atoms.now.seat) in
    let t = said m c.args.goal in
    let texts = map (text_of m) c.args.aliases.now in
    let error = said m c.in-Some.error in (
      subst (λ (z : Names). Answers goals e (text_of z) (requests.create_thread t texts (option_map (said m) c.args.error)) h (Refused c.in-Some.error) None) (sym c.check_aliases.ensures.held)
          (subst (λ (o : Option Tree). Answers goals e (text_of m) (requests.create_thread t texts (option_map (said m) o)) h (Refused c.in-Some.error) None) (sym c.in-Some.is)
          (record { reply = requests.refused error; serves = create_wrong k q c.args.count.now goals h stands e t texts c.in-Free.ensures.checks error; says = refl })),
      stands,
    )

pub returns-in-Some-clause-named : goal.returns-in-Some-clause-named
returns-in-Some-clause-named g c =
    subst (λ (z : Names). All (λ a. IsSome (z a)) (names_of c.in-Some.error)) (sym c.check_aliases.ensures.held)
    (subst (λ (o : Option Tree). All (λ a. IsSome (names (seen c.args.atoms.now.seat) a)) (optional_names names_of o)) c.in-Some.is c.requires.error)

pub returns-in-Some-clause-holds : goal.returns-in-Some-clause-holds
returns-in-Some-clause-holds g c = λ a t e. ap (λ (f : Names). f a) c.check_aliases.ensures.held ∙ e

-- A THREAD BEGINS
pub create_free-requires-clause-goal : goal.create_free-requires-clause-goal
create_free-requires-clause-goal g c = subst (λ (z : Names). All (λ a. IsSome (z a)) (names_of c.args.goal)) (sym c.check_aliases.ensures.held) c.requires.goal

pub create_free-requires-clause-aliases : goal.create_free-requires-clause-aliases
create_free-requires-clause-aliases g c = subst (λ (z : Names). All (λ a. IsSome (z a)) c.args.aliases.now) (sym c.check_aliases.ensures.held) c.requires.aliases

pub returns-in-None-clause-says : goal.returns-in-None-clause-says
returns-in-None-clause-says g c = λ e goals h long stands.
    let m = names (seen c.args.atoms.now.seat) in
    subst (λ (o : Option Tree). Decides (keeper_view c.create_free.new.keeper) (names (seen c.create_free.new.atoms.seat)) e (requests.create_thread (said m c.args.goal) (map (text_of m) c.args.aliases.now) (option_map (said m) o)) c.create_free.new.queues c.create_free.new.count goals h c.create_free.result) (sym c.in-None.is)
    (subst (λ (z : Names). Decides (keeper_view c.create_free.new.keeper) (names (seen c.create_free.new.atoms.seat)) e (requests.create_thread (said z c.args.goal) (map (text_of z) c.args.aliases.now) None) c.create_free.new.queues c.create_free.new.count goals h c.create_free.result) c.check_aliases.ensures.held
    (c.create_free.ensures.says e goals h long stands))

pub returns-in-None-clause-holds : goal.returns-in-None-clause-holds
returns-in-None-clause-holds g c = λ a t e. ap (λ (f : Names). f a) (c.create_free.ensures.held ∙ c.check_aliases.ensures.held) ∙ e

pub returns-in-Taken-clause-begun : goal.returns-in-Taken-clause-begun
returns-in-Taken-clause-begun g c =
    sym (called_quiet c.alias_taken.result c.args.count.now (last_of None (map (text_of (names (seen c.args.atoms.now.seat))) c.args.aliases.now)) c.args.begun.now.items c.alias_taken.ensures.reads)

pub returns-in-None-clause-begun : goal.returns-in-None-clause-begun
returns-in-None-clause-begun g c =
    c.create_free.ensures.begun
    ∙ ap (λ (z : Names). called_after c.create_free.result c.args.count.now (last_of None (map (text_of z) c.args.aliases.now)) c.args.begun.now.items) c.check_aliases.ensures.held
