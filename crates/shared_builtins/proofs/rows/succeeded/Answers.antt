use Rattle.std.proofs.Common.{refl, sym, subst}
use Rattle.pl_model.specs.BuiltinRows.{plain_answer}
use Rattle.pl_model.specs.History.{proc}
use Rattle.pl_model.specs.Predicates.{proc_of}
use Rattle.pl_model.specs.Terms.{arguments}
use Rattle.builtin_rows.specs.Given.{with_room}
use Rattle.builtin_rows.specs.Rows.{IsRow}
use Rattle.world_builtins.specs.Spelling.{reads}
use Rattle.shared_builtins.proofs.Choosing.{none_of, some_of}
use Rattle.shared_builtins.proofs.ReplyRows.{holds_row, plainly_given, room_given}
use Rattle.shared_builtins.proofs.rows.succeeded.Goals as goal

pub returns-in-Some-clause-row : goal.returns-in-Some-clause-row
returns-in-Some-clause-row c m n held =
    let s = c.args.store.now in
    let x = c.args.goal.now in
    let is = c.requires in
    let us = arguments (reads m s x.place) in
    let f = is.predicate.0.0 in
    let t = c.take_room.new.store in
    let full = some_of _ c.in_ok-full.full c.in-Some.row c.in-Some.is c.in_ok-full.ensures.refused m f us (plain_answer us) n.stands is.predicate.0.1 refl refl in
    subst (λ d. IsRow s c.args.next us d m t c.in-Some.row) (sym (room_given m n.stands s x is c.args.next us))
    (subst (λ k. IsRow s c.args.next us (with_room (proc f k) c.args.next s.used s.budget (plain_answer us)) m t c.in-Some.row) c.arity_of-arity.ensures full)

pub returns-in-None-clause-row : goal.returns-in-None-clause-row
returns-in-None-clause-row c m n held =
    let s = c.args.store.now in
    let x = c.args.goal.now in
    let is = c.requires in
    let us = arguments (reads m s x.place) in
    holds_row m s c.take_room.new.store c.args.next (proc_of (reads m s x.place)) us (none_of _ c.in_ok-full.full c.in-None.is c.in_ok-full.ensures.taken)
    (plainly_given m n.stands s x is c.args.next us (none_of _ c.in_ok-full.full c.in-None.is c.in_ok-full.ensures.numbers)
    (none_of _ c.in_ok-full.full c.in-None.is c.in_ok-full.ensures.cells))
