use Rattle.std.proofs.Common.{◌<◌, ℕ, ◌++◌, List, Some, refl, sym, ap, subst, ◌∙◌, append-nil}
use denote.Ref.{Bor}
use Rattle.std.specs.Prelude.{option_map}
use Rattle.std.specs.List.{All}
use Rattle.std.proofs.lemmas.Result.{IfOk-weaker}
use Rattle.counted_terms.proofs.Sharing.{restored_same}
use Rattle.std.specs.Option.{IsSome}
use Rattle.pl_term.specs.Tree.{Tree}
use Rattle.pl_model.specs.Requests as requests
use Rattle.pl_model.specs.Threads.{first_message, queue_named}
use Rattle.atom_api.specs.Names.{Names}
use Rattle.atom_words.specs.Seats.{seen}
use Rattle.atom_words.specs.declared.view.Refusal.{Refusal}
use Rattle.atom_table.specs.Naming.{names}
use Rattle.term_store.specs.NumberedNames.{unify_by_number}
use Rattle.counted_terms.specs.CountedTerms.{naming, said}
use Rattle.counted_terms.specs.Keeping.{keeper_view, kept}
use Rattle.counted_terms.specs.Rows.{row_names, row_refusals}
use Rattle.counted_terms.specs.declared.row.Row.{Row}
use Rattle.hub_threads.specs.Rows.{Decides, updates_in}
use Rattle.hub_threads.specs.Threads.{thread_counts}
use Rattle.hub_threads.proofs.Sending.{at_some, numbered, some_of, stored_counted}
use Rattle.hub_threads.proofs.TakenMessages.{first_alike, lent_decides, lent_named, lent_reads, lent_silent, peek_none, peek_sees, same_stands, seen_stored, sees_none, sees_some}
use Rattle.hub_threads.proofs.taking.lend_message.Goals as goal

-- OUT OF MEMORY
pub returns-in-Err-Memory-clause-restored : goal.returns-in-Err-Memory-clause-restored
returns-in-Err-Memory-clause-restored g c = λ n. restored_same (thread_counts c.args.queues.now) (keeper_view c.args.keeper.now) (keeper_view c.agree.new.keeper) n c.agree.ensures.keeps (λ a. ap (λ (f : ℕ → ℕ). f a) c.agree.ensures.counts)

pub returns-in-Err-Memory-clause-says : goal.returns-in-Err-Memory-clause-says
returns-in-Err-Memory-clause-says g c = λ e count goals h stands.
    same_stands (keeper_view c.args.keeper.now) (keeper_view c.agree.new.keeper) c.args.queues.now count goals h c.is_sound.ensures c.agree.ensures.keeps stands

pub returns-in-Err-Memory-clause-holds : goal.returns-in-Err-Memory-clause-holds
returns-in-Err-Memory-clause-holds g c = λ a t e. ap (λ (f : Names). f a) c.agree.ensures.held ∙ e

pub returns-in-Err-Memory-clause-refusals : goal.returns-in-Err-Memory-clause-refusals
returns-in-Err-Memory-clause-refusals g c = c.agree.ensures.refusals ∙ sym (append-nil (seen c.args.atoms.now.seat).refusals)

-- NO MESSAGE UNIFIES
pub returns-in-None-clause-restored : goal.returns-in-None-clause-restored
returns-in-None-clause-restored g c = λ n. restored_same (thread_counts c.args.queues.now) (keeper_view c.args.keeper.now) (keeper_view c.agree.new.keeper) n c.agree.ensures.keeps (λ a. ap (λ (f : ℕ → ℕ). f a) c.agree.ensures.counts)

pub returns-in-None-clause-holds : goal.returns-in-None-clause-holds
returns-in-None-clause-holds g c = λ a t e. ap (λ (f : Names). f a) c.agree.ensures.held ∙ e

pub returns-in-None-clause-refusals : goal.returns-in-None-clause-refusals
returns-in-None-clause-refusals g c = c.agree.ensures.refusals ∙ sym (append-nil (seen c.args.atoms.now.seat).refusals)

pub returns-in-None-clause-says : goal.returns-in-None-clause-says
returns-in-None-clause-says g c = λ e count goals h stands.
    let q = c.args.queues.now in
    let k = keeper_view c.args.keeper.now in
    let l = keeper_view c.agree.new.keeper in
    let n = names (seen c.args.atoms.now.seat) in
    let x = some_of (queue_named q.state c.args.name.now) c.requires.there in
    let o = first_message (unify_by_number c.args.pattern.now) x.0 in
    let none = sees_none o (ap (option_map (λ (p : ℕ × Bor Tree). (p.0, p.1.now))) (sym c.in-None.is) ∙ at_some _ (queue_named q.state c.args.name.now) x.0 x.1 c.in-Ok.ensures.found) in
    let first = first_alike k q c.is_sound.ensures x.0 (numbered q.state c.args.name.now x.0 x.1) (seen c.args.atoms.now.seat) c.args.pattern.now c.agree.ensures.agreed c.requires.pattern (stored_counted k q c.requires.counts.0 c.requires.counts.1) in (
      record { reply = requests.no_message; serves = peek_none k q count goals h stands e (said n c.args.queue.now) c.args.name.now c.requires.named x.0 x.1 (said n c.args.pattern.now) (sym first ∙ none); says = refl },
      same_stands k l q count goals h c.is_sound.ensures c.agree.ensures.keeps stands,
    )

-- THE FIRST ONE IS LENT
pub lend_to-requires-clause-counted : goal.lend_to-requires-clause-counted
lend_to-requires-clause-counted g c =
    let q = c.args.queues.now in
    let k = keeper_view c.args.keeper.now in
    let x = some_of (queue_named q.state c.args.name.now) c.requires.there in
    let o = first_message (unify_by_number c.args.pattern.now) x.0 in
    let t = sees_some o (c.in-Some.stays.0, c.in-Some.stays.1.now) (ap (option_map (λ (p : ℕ × Bor Tree). (p.0, p.1.now))) (sym c.in-Some.is) ∙ at_some _ (queue_named q.state c.args.name.now) x.0 x.1 c.in-Ok.ensures.found) in
    let counted = stored_counted k q c.requires.counts.0 c.requires.counts.1 t.message.content (seen_stored q x.0 t.message (unify_by_number c.args.pattern.now) c.is_sound.ensures (numbered q.state c.args.name.now x.0 x.1) t.found) in
    λ a some_. subst (λ (n : ℕ). 0 < n) (sym (ap (λ (f : ℕ → ℕ). f a) c.agree.ensures.counts)) (counted a (subst (λ (z : Tree). 0 < naming a z) t.content some_))

pub returns-in-Some-clause-restored : goal.returns-in-Some-clause-restored
returns-in-Some-clause-restored g c = λ n. restored_same (thread_counts c.args.queues.now) (keeper_view c.args.keeper.now) (keeper_view c.lend_to.new.keeper) n (c.lend_to.ensures.keeps ∙ c.agree.ensures.keeps) (λ a. c.lend_to.ensures.counts a ∙ ap (λ (f : ℕ → ℕ). f a) c.agree.ensures.counts)

pub returns-in-Some-clause-reads : goal.returns-in-Some-clause-reads
returns-in-Some-clause-reads g c = ap updates_in c.lent.ensures ∙ lent_reads c.lend_to.result

pub returns-in-Some-clause-named : goal.returns-in-Some-clause-named
returns-in-Some-clause-named g c = subst (λ (row : Row). All (λ a. IsSome (names (seen c.lend_to.new.atoms.seat) a)) (row_names row)) (sym c.lent.ensures) (lent_named (λ a. IsSome (names (seen c.lend_to.new.atoms.seat) a)) c.lend_to.result c.lend_to.ensures.named)

pub returns-in-Some-clause-holds : goal.returns-in-Some-clause-holds
returns-in-Some-clause-holds g c = λ a t e. c.lend_to.ensures.holds a t (ap (λ (f : Names). f a) c.agree.ensures.held ∙ e)

pub returns-in-Some-clause-refusals : goal.returns-in-Some-clause-refusals
returns-in-Some-clause-refusals g c = c.lend_to.ensures.refusals ∙ c.agree.ensures.refusals ∙ sym (append-nil (seen c.args.atoms.now.seat).refusals) ∙ ap (λ (l : List Refusal). (seen c.args.atoms.now.seat).refusals ++ l) (sym (ap row_refusals c.lent.ensures ∙ lent_silent c.lend_to.result))

pub returns-in-Some-clause-says : goal.returns-in-Some-clause-says
returns-in-Some-clause-says g c = λ e count goals h stands.
    let q = c.args.queues.now in
    let k = keeper_view c.args.keeper.now in
    let l = keeper_view c.lend_to.new.keeper in
    let n = names (seen c.args.atoms.now.seat) in
    let n' = names (seen c.lend_to.new.atoms.seat) in
    let y = said n c.args.queue.now in
    let p = said n c.args.pattern.now in
    let x = some_of (queue_named q.state c.args.name.now) c.requires.there in
    let o = first_message (unify_by_number c.args.pattern.now) x.0 in
    let t = sees_some o (c.in-Some.stays.0, c.in-Some.stays.1.now) (ap (option_map (λ (z : ℕ × Bor Tree). (z.0, z.1.now))) (sym c.in-Some.is) ∙ at_some _ (queue_named q.state c.args.name.now) x.0 x.1 c.in-Ok.ensures.found) in
    let first = first_alike k q c.is_sound.ensures x.0 (numbered q.state c.args.name.now x.0 x.1) (seen c.args.atoms.now.seat) c.args.pattern.now c.agree.ensures.agreed c.requires.pattern (stored_counted k q c.requires.counts.0 c.requires.counts.1) in
    subst (λ (row : Row). Decides l n' e (requests.peek_message (Some y) p) q count goals h row) (sym c.lent.ensures)
    (lent_decides l n' e (requests.peek_message (Some y) p) q count goals h (said (kept k) t.message.content)
    (peek_sees k q count goals h stands e y c.args.name.now c.requires.named x.0 x.1 p t.message (sym first ∙ t.found))
    (same_stands k l q count goals h c.is_sound.ensures (c.lend_to.ensures.keeps ∙ c.agree.ensures.keeps) stands)
    c.lend_to.result
    (IfOk-weaker c.lend_to.result _ _ (λ s says. says ∙ ap (λ (m : Names). said m c.in-Some.stays.1.now) c.agree.ensures.keeps ∙ ap (said (kept k)) t.content) c.lend_to.ensures.says))
