use Rattle.std.proofs.Common.{◌≡◌, ◌++◌, List, Some, sym, ap, subst, ◌∙◌, append-nil}
use Rattle.std.specs.List.{All}
use Rattle.std.specs.Option.{IsSome}
use Rattle.pl_model.specs.Requests as requests
use Rattle.pl_model.specs.Threads.{alias_of}
use Rattle.atom_words.specs.Seats.{seen}
use Rattle.atom_words.specs.declared.view.Refusal.{Refusal}
use Rattle.atom_table.specs.Naming.{names, requests as asked}
use Rattle.counted_terms.specs.Rows.{row_names, row_refusals}
use Rattle.counted_terms.specs.declared.row.Row.{Row}
use Rattle.world_api.specs.Texts.{text_of}
use Rattle.hub_threads.specs.Rows.{Decides, updates_in}
use Rattle.hub_threads.proofs.Creating.{asks_nothing, interned_asks, interned_decides, interned_holds, interned_named, interned_reads, interned_refusals, own_number}
use Rattle.hub_threads.proofs.names.own_name.Goals as goal

pub returns-in-None-clause-says : goal.returns-in-None-clause-says
returns-in-None-clause-says g c = λ k goals h count stands.
    (own_number k c.args.queues.now count goals h stands c.args.engine (text_of (names (seen c.args.atoms.now.seat))) (sym c.in-None.ensures), stands)

pub returns-in-None-clause-refusals : goal.returns-in-None-clause-refusals
returns-in-None-clause-refusals g c = sym (append-nil (seen c.args.atoms.now.seat).refusals)

pub returns-in-None-clause-asked : goal.returns-in-None-clause-asked
returns-in-None-clause-asked g c = asks_nothing (λ t. alias_of c.args.queues.now.state c.args.engine ≡ Some t) (asked (seen c.args.atoms.now.seat))

pub returns-in-Some-clause-says : goal.returns-in-Some-clause-says
returns-in-Some-clause-says g c = λ k goals h count stands.
    let n = names (seen c.intern.new.self.seat) in
    subst (λ (r : Row). Decides k n c.args.engine requests.own_name c.args.queues.now count goals h r) (sym c.named_row.ensures)
    (interned_decides (names (seen c.args.atoms.now.seat)) n c.in-Some.alias.now c.intern.result c.intern.ensures.answer k c.args.queues.now count goals h c.args.engine (sym c.in-Some.ensures) stands)

pub returns-in-Some-clause-reads : goal.returns-in-Some-clause-reads
returns-in-Some-clause-reads g c = ap updates_in c.named_row.ensures ∙ interned_reads c.intern.result

pub returns-in-Some-clause-named : goal.returns-in-Some-clause-named
returns-in-Some-clause-named g c =
    let n = names (seen c.intern.new.self.seat) in
    subst (λ (r : Row). All (λ a. IsSome (n a)) (row_names r)) (sym c.named_row.ensures)
    (interned_named (names (seen c.args.atoms.now.seat)) n c.in-Some.alias.now c.intern.result c.intern.ensures.answer)

pub returns-in-Some-clause-holds : goal.returns-in-Some-clause-holds
returns-in-Some-clause-holds g c =
    interned_holds (names (seen c.args.atoms.now.seat)) (names (seen c.intern.new.self.seat)) c.in-Some.alias.now c.intern.result c.intern.ensures.answer

pub returns-in-Some-clause-refusals : goal.returns-in-Some-clause-refusals
returns-in-Some-clause-refusals g c =
    c.intern.ensures.refusal ∙ ap (λ (l : List Refusal). (seen c.args.atoms.now.seat).refusals ++ l) (sym (ap row_refusals c.named_row.ensures ∙ interned_refusals c.intern.result))

pub returns-in-Some-clause-asked : goal.returns-in-Some-clause-asked
returns-in-Some-clause-asked g c =
    interned_asks (λ t. alias_of c.args.queues.now.state c.args.engine ≡ Some t) c.in-Some.alias.now (sym c.in-Some.ensures) (asked (seen c.args.atoms.now.seat)) (asked (seen c.intern.new.self.seat)) c.intern.result c.intern.ensures.request
