use Rattle.std.proofs.Common.{◌≡◌, ◌++◌, ℕ, List, Option, Some, sym, ap, subst, ◌∙◌, append-nil}
use Rattle.std.specs.Prelude.{option_map}
use Rattle.pl_term.specs.Tree.{Chars}
use Rattle.pl_model.specs.Requests as requests
use Rattle.atom_api.specs.Names.{Names}
use Rattle.atom_words.specs.Seats.{seen}
use Rattle.atom_words.specs.declared.view.Refusal.{Refusal}
use Rattle.atom_table.specs.Naming.{names}
use Rattle.world_api.specs.Texts.{or_no_text, text_of}
use Rattle.counted_terms.proofs.MadeTerms.{held_some}
use Rattle.hub_threads.specs.Rows.{Decides}
use Rattle.hub_threads.proofs.queues.create_queue.Goals as goal

pub returns-in-None-clause-says : goal.returns-in-None-clause-says
returns-in-None-clause-says g c = λ k e goals h long stands.
    let m = names (seen c.args.atoms.now.seat) in
    subst (λ (al : Option ℕ). Decides k m e (requests.create_queue (option_map (text_of m) al)) c.create_unnamed.new.queues c.create_unnamed.new.count goals h c.create_unnamed.result) (sym c.in-None.is)
    (c.create_unnamed.ensures.says k m e goals h c.args.atoms.now.lawful.stand long stands)

pub returns-in-None-clause-named : goal.returns-in-None-clause-named
returns-in-None-clause-named g c = c.create_unnamed.ensures.named (names (seen c.args.atoms.now.seat)) c.args.atoms.now.lawful.stand

pub returns-in-None-clause-refusals : goal.returns-in-None-clause-refusals
returns-in-None-clause-refusals g c = sym (append-nil (seen c.args.atoms.now.seat).refusals) ∙ ap (λ (l : List Refusal). (seen c.args.atoms.now.seat).refusals ++ l) (sym c.create_unnamed.ensures.refusals)

pub returns-in-Ok-clause-says : goal.returns-in-Ok-clause-says
returns-in-Ok-clause-says g c = λ k e goals h long stands.
    let m = names (seen c.text_of_atom.new.atoms.seat) in
    let same : m ≡ names (seen c.args.atoms.now.seat) = c.text_of_atom.ensures.same in
    let held : m c.in-Some.a ≡ Some c.in-Ok.text = ap (λ (f : Names). f c.in-Some.a) same ∙ c.in-Ok.ensures.text in
    subst (λ (al : Option ℕ). Decides k m e (requests.create_queue (option_map (text_of (names (seen c.args.atoms.now.seat))) al)) c.create_aliased.new.queues c.create_aliased.new.count goals h c.create_aliased.result) (sym c.in-Some.is)
    (subst (λ (t : Chars). Decides k m e (requests.create_queue (Some t)) c.create_aliased.new.queues c.create_aliased.new.count goals h c.create_aliased.result)
    (ap (or_no_text c.in-Some.a) (sym c.in-Ok.ensures.text))
    (c.create_aliased.ensures.says k m e goals h c.text_of_atom.new.atoms.lawful.stand held long stands))

pub returns-in-Ok-clause-named : goal.returns-in-Ok-clause-named
returns-in-Ok-clause-named g c =
    let m = names (seen c.text_of_atom.new.atoms.seat) in
    c.create_aliased.ensures.named m c.text_of_atom.new.atoms.lawful.stand (held_some m c.in-Some.a c.in-Ok.text (ap (λ (f : Names). f c.in-Some.a) c.text_of_atom.ensures.same ∙ c.in-Ok.ensures.text))

pub returns-in-Ok-clause-refusals : goal.returns-in-Ok-clause-refusals
returns-in-Ok-clause-refusals g c = c.text_of_atom.ensures.refusals ∙ sym (append-nil (seen c.args.atoms.now.seat).refusals) ∙ ap (λ (l : List Refusal). (seen c.args.atoms.now.seat).refusals ++ l) (sym c.create_aliased.ensures.refusals)
