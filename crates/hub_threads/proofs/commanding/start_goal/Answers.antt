use Rattle.std.proofs.Common.{◌≡◌, Some, false, true, length, refl, sym, ap, subst, ◌∙◌}
use Rattle.pl_term.specs.Tree.{Chars}
use Rattle.pl_model.specs.Requests as requests
use Rattle.pl_model.specs.Service.{started as starts}
use Rattle.pl_model.specs.SharedState.{state_at}
use Rattle.pl_model.specs.Threads.{goal_alias, is_alias}
use Rattle.atom_api.specs.Names.{Names}
use Rattle.atom_words.specs.Seats.{seen}
use Rattle.atom_table.specs.Naming.{names, requests as asked}
use Rattle.counted_terms.specs.CountedTerms.{said}
use Rattle.counted_terms.specs.Keeping.{keeper_view}
use Rattle.hub_threads.specs.Goals.{called_after}
use Rattle.hub_threads.proofs.Calling.{called_quiet}
use Rattle.hub_threads.proofs.CommandedGoals.{goal_starts}
use Rattle.hub_threads.proofs.Creating.{asks_nothing}
use Rattle.hub_threads.proofs.commanding.start_goal.Goals as goal

pub returns-in-Err-clause-asked : goal.returns-in-Err-clause-asked
returns-in-Err-clause-asked g c = asks_nothing (λ t. (t ≡ goal_alias c.args.number) × (is_alias c.args.queues.now.state t ≡ true)) (asked (seen c.args.atoms.now.seat))

pub returns-then-not-can_begin-clause-asked : goal.returns-then-not-can_begin-clause-asked
returns-then-not-can_begin-clause-asked g c = asks_nothing (λ t. (t ≡ goal_alias c.args.number) × (is_alias c.args.queues.now.state t ≡ true)) (asked (seen c.args.atoms.now.seat))

-- THE ALIAS NAMES SOMETHING
pub returns-then-is_alias-clause-says : goal.returns-then-is_alias-clause-says
returns-then-is_alias-clause-says g c = λ e goals h long stands.
    c.goal_taken.ensures.says (keeper_view c.args.keeper.now) e c.args.count.now goals h (said (names (seen c.args.atoms.now.seat)) c.args.goal) stands

-- IT BEGINS
pub returns-else-not-can_begin-clause-says : goal.returns-else-not-can_begin-clause-says
returns-else-not-can_begin-clause-says g c = λ e goals h long stands.
    let k = keeper_view c.args.keeper.now in
    let q = c.args.queues.now in
    let t = said (names (seen c.args.atoms.now.seat)) c.args.goal in
    let alias : c.in-Ok.alias ≡ goal_alias c.args.number = c.in-Ok.ensures in
    let free : is_alias q.state (goal_alias c.args.number) ≡ false = subst (λ (z : Chars). is_alias q.state z ≡ false) alias (sym c.is_alias.ensures ∙ c.if-is_alias.false) in
    c.start_with.ensures.says e goals h (requests.start_goal c.args.number t) requests.done long stands
    (goal_starts k q c.args.count.now goals h stands e c.args.number t free
    ∙ ap (λ (z : Chars). starts (state_at goals h (length h)) (length h) c.args.number t (Some z) requests.done) (sym alias))
    refl

pub returns-else-not-can_begin-clause-holds : goal.returns-else-not-can_begin-clause-holds
returns-else-not-can_begin-clause-holds g c = λ a t e. ap (λ (f : Names). f a) c.start_with.ensures.held ∙ e

pub returns-then-is_alias-clause-begun : goal.returns-then-is_alias-clause-begun
returns-then-is_alias-clause-begun g c = sym (called_quiet c.goal_taken.result c.args.number (Some (goal_alias c.args.number)) c.args.begun.now.items c.goal_taken.ensures.reads)

pub returns-else-not-can_begin-clause-begun : goal.returns-else-not-can_begin-clause-begun
returns-else-not-can_begin-clause-begun g c =
    c.start_with.ensures.begun ∙ ap (λ (z : Chars). called_after c.start_with.result c.args.number (Some z) c.args.begun.now.items) c.in-Ok.ensures
