use Rattle.std.proofs.Common.{◌≡◌, [], Option, Some, None, false, length, map, refl, sym, ap, subst, ◌∙◌}
use Rattle.std.specs.Prelude.{pos}
use Rattle.std.specs.List.{All}
use Rattle.std.specs.Option.{IsSome}
use Rattle.std.proofs.lemmas.List.Elements.{All-cons, All-nil}
use Rattle.pl_term.specs.Tree.{Chars, atom, int}
use Rattle.pl_model.specs.Requests as requests
use Rattle.pl_model.specs.Service.{started as starts}
use Rattle.pl_model.specs.SharedState.{state_at}
use Rattle.pl_model.specs.Threads.{is_alias}
use Rattle.atom_api.specs.Names.{Names}
use Rattle.atom_words.specs.Seats.{seen}
use Rattle.atom_table.specs.Naming.{names}
use Rattle.term_store.specs.NumberedNames.{names_of}
use Rattle.world_api.specs.Texts.{or_no_text, text_of}
use Rattle.counted_terms.specs.CountedTerms.{said}
use Rattle.counted_terms.specs.Keeping.{keeper_view}
use Rattle.counted_terms.proofs.MadeTerms.{held_some}
use Rattle.hub_threads.specs.Goals.{called_after}
use Rattle.hub_threads.proofs.CreatedThreads.{create_starts, last_free, last_text, no_last}
use Rattle.hub_threads.proofs.beginning.create_free.Goals as goal

pub start_with-requires-in-Ok-clause-goal : goal.start_with-requires-in-Ok-clause-goal
start_with-requires-in-Ok-clause-goal g c = subst (λ (z : Names). All (λ a. IsSome (z a)) (names_of c.args.goal)) (sym c.text_of_atom.ensures.same) c.requires.goal

pub start_with-requires-in-Ok-clause-reply : goal.start_with-requires-in-Ok-clause-reply
start_with-requires-in-Ok-clause-reply g c =
    let m = names (seen c.text_of_atom.new.atoms.seat) in
    All-cons (λ k. IsSome (m k)) c.in-Some.a [] (held_some m c.in-Some.a c.in-Ok.text (ap (λ (f : Names). f c.in-Some.a) c.text_of_atom.ensures.same ∙ c.in-Ok.ensures.text)) (All-nil (λ k. IsSome (m k)))

pub start_with-requires-in-Ok-clause-free : goal.start_with-requires-in-Ok-clause-free
start_with-requires-in-Ok-clause-free g c =
    let q = c.args.queues.now in
    let m = names (seen c.args.atoms.now.seat) in
    subst (λ (t : Chars). is_alias q.state t ≡ false) (ap (or_no_text c.in-Some.a) c.in-Ok.ensures.text)
    (last_free (is_alias q.state) (text_of m) c.args.aliases.now c.in-Some.a c.in-Some.ensures c.requires.free)

pub returns-in-None-clause-says : goal.returns-in-None-clause-says
returns-in-None-clause-says g c = λ e goals h long stands.
    let k = keeper_view c.args.keeper.now in
    let q = c.args.queues.now in
    let m = names (seen c.args.atoms.now.seat) in
    let t = said m c.args.goal in
    let texts = map (text_of m) c.args.aliases.now in
    c.start_with.ensures.says e goals h (requests.create_thread t texts None) (requests.named (int (pos c.args.count.now))) long stands
    (create_starts k q c.args.count.now goals h stands e t texts c.requires.free None (no_last (text_of m) c.args.aliases.now c.in-None.ensures)) refl

pub returns-in-Ok-clause-says : goal.returns-in-Ok-clause-says
returns-in-Ok-clause-says g c = λ e goals h long stands.
    let k = keeper_view c.args.keeper.now in
    let q = c.args.queues.now in
    let m = names (seen c.args.atoms.now.seat) in
    let t = said m c.args.goal in
    let texts = map (text_of m) c.args.aliases.now in
    let z = names (seen c.text_of_atom.new.atoms.seat) in
    let same : z ≡ m = c.text_of_atom.ensures.same in
    let r = requests.named (atom c.in-Ok.text) in
    c.start_with-in-Ok.ensures.says e goals h (requests.create_thread t texts None) r long stands
    (create_starts k q c.args.count.now goals h stands e t texts c.requires.free (Some c.in-Ok.text) (last_text (text_of m) c.args.aliases.now c.in-Some.a c.in-Some.ensures ∙ ap (λ o. Some (or_no_text c.in-Some.a o)) c.in-Ok.ensures.text)
    ∙ ap (λ (w : Names). starts (state_at goals h (length h)) (length h) c.args.count.now (said w c.args.goal) (Some c.in-Ok.text) r) (sym same))
    (ap (λ o. requests.named (atom (or_no_text c.in-Some.a o))) (sym (ap (λ (f : Names). f c.in-Some.a) same ∙ c.in-Ok.ensures.text)))

pub returns-in-None-clause-begun : goal.returns-in-None-clause-begun
returns-in-None-clause-begun g c =
    let m = names (seen c.args.atoms.now.seat) in
    c.start_with.ensures.begun ∙ ap (λ (o : Option Chars). called_after c.start_with.result c.args.count.now o c.args.begun.now.items) (sym (no_last (text_of m) c.args.aliases.now c.in-None.ensures))

pub returns-in-Ok-clause-begun : goal.returns-in-Ok-clause-begun
returns-in-Ok-clause-begun g c =
    let m = names (seen c.args.atoms.now.seat) in
    c.start_with-in-Ok.ensures.begun ∙ ap (λ (o : Option Chars). called_after c.start_with-in-Ok.result c.args.count.now o c.args.begun.now.items) (sym (last_text (text_of m) c.args.aliases.now c.in-Some.a c.in-Some.ensures ∙ ap (λ o. Some (or_no_text c.in-Some.a o)) c.in-Ok.ensures.text))
