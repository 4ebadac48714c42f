use Rattle.std.proofs.Common.{◌≡◌, ◌++◌, List, Some, true, sym, ap, subst, ◌∙◌, codes}
use Rattle.pl_term.specs.Tree.{Chars, atom}
use Rattle.pl_model.specs.ErrorTerms.{permission_error}
use Rattle.pl_model.specs.Requests as requests
use Rattle.pl_model.specs.Threads.{goal_alias, is_alias}
use Rattle.atom_api.specs.declared.interned.Interned.TheVariants.{Is}
use Rattle.atom_words.specs.Seats.{seen}
use Rattle.atom_words.specs.declared.view.Refusal.{Refusal}
use Rattle.atom_table.specs.Naming.{names, requests as asked}
use Rattle.counted_terms.proofs.MadeTerms.{held_some}
use Rattle.hub_threads.proofs.CommandedGoals.{goal_refused}
use Rattle.hub_threads.proofs.Creating.{interned_asks, interned_holds, interned_text}
use Rattle.hub_threads.proofs.RefusedRows.{refuses_decides, thread_is}
use Rattle.hub_threads.proofs.commanding.goal_taken.Goals as goal

pub returns-in-Is-clause-says : goal.returns-in-Is-clause-says
returns-in-Is-clause-says g c = λ k e count goals h t stands.
    let q = c.args.queues.now in
    let m = names (seen c.intern.new.self.seat) in
    let stand = c.intern.new.self.lawful.stand in
    let a = goal_alias c.args.number in
    let taken : is_alias q.state a ≡ true = subst (λ (z : Chars). is_alias q.state z ≡ true) c.requires.alias c.requires.taken in
    refuses_decides k m e (requests.start_goal c.args.number t) q count goals h (permission_error (codes "create") (codes "thread") (atom a))
    (goal_refused k q count goals h stands e c.args.number t taken) stands c.alias_taken.result
    (c.alias_taken.ensures.says m (codes "thread") a stand (stand 163 (codes "thread") thread_is) (interned_text (names (seen c.args.atoms.now.seat)) m c.in-Is.a c.args.alias.now c.in-Is.ensures.answer.now ∙ ap Some c.requires.alias))

pub returns-in-Is-clause-named : goal.returns-in-Is-clause-named
returns-in-Is-clause-named g c =
    let m = names (seen c.intern.new.self.seat) in
    let stand = c.intern.new.self.lawful.stand in
    c.alias_taken.ensures.named m stand (held_some m 163 (codes "thread") (stand 163 (codes "thread") thread_is))
    (held_some m c.in-Is.a c.args.alias.now (interned_text (names (seen c.args.atoms.now.seat)) m c.in-Is.a c.args.alias.now c.in-Is.ensures.answer.now))

pub returns-in-Is-clause-holds : goal.returns-in-Is-clause-holds
returns-in-Is-clause-holds g c = interned_holds (names (seen c.args.atoms.now.seat)) (names (seen c.intern.new.self.seat)) c.args.alias.now (Is c.in-Is.a) c.in-Is.ensures.answer

pub returns-in-Is-clause-refusals : goal.returns-in-Is-clause-refusals
returns-in-Is-clause-refusals g c = c.in-Is.ensures.refusal ∙ ap (λ (l : List Refusal). (seen c.args.atoms.now.seat).refusals ++ l) (sym c.alias_taken.ensures.refusals)

pub returns-in-Is-clause-asked : goal.returns-in-Is-clause-asked
returns-in-Is-clause-asked g c =
    interned_asks (λ t. (t ≡ goal_alias c.args.number) × (is_alias c.args.queues.now.state t ≡ true)) c.args.alias.now (c.requires.alias, c.requires.taken) (asked (seen c.args.atoms.now.seat)) (asked (seen c.intern.new.self.seat)) (Is c.in-Is.a) c.in-Is.ensures.request
