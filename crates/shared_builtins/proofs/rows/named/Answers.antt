use Rattle.std.proofs.Common.{refl, sym, subst}
use Rattle.pl_model.specs.BuiltinRows.{plain_answer}
use Rattle.pl_model.specs.History.{proc}
use Rattle.pl_model.specs.Terms.{arguments}
use Rattle.builtin_rows.specs.Given.{with_room}
use Rattle.builtin_rows.specs.Rows.{IsRow}
use Rattle.world_api.specs.Replies.{name_term}
use Rattle.world_api.specs.Texts.{text_of}
use Rattle.world_builtins.specs.Spelling.{reads}
use Rattle.shared_builtins.specs.Following.{with_answer}
use Rattle.shared_builtins.proofs.Choosing.{none_of, some_of}
use Rattle.shared_builtins.proofs.ReplyRows.{answer_row, room_given, still_held}
use Rattle.shared_builtins.proofs.rows.named.Goals as goal

pub answer-places-requires-clause-given : goal.answer-places-requires-clause-given
answer-places-requires-clause-given c = c.in_ok-given.ensures.inside c.take_room.new.store

pub returns-in-Some-clause-row : goal.returns-in-Some-clause-row
returns-in-Some-clause-row c m n held h =
    let s = c.args.store.now in
    let x = c.args.goal.now in
    let is = c.requires in
    let us = arguments (reads m s x.place) in
    let vs = with_answer x.pred us (name_term (text_of m) c.args.name) in
    let f = is.predicate.0.0 in
    let t = c.take_room.new.store in
    let full = some_of _ c.in_ok-full.full c.in-Some.row c.in-Some.is c.in_ok-full.ensures.refused m f us (plain_answer vs) n.stands is.predicate.0.1 refl refl in
    subst (λ d. IsRow s c.args.next us d m t c.in-Some.row) (sym (room_given m n.stands s x is c.args.next vs))
    (subst (λ k. IsRow s c.args.next us (with_room (proc f k) c.args.next s.used s.budget (plain_answer vs)) m t c.in-Some.row) c.arity_of-arity.ensures full)

pub returns-in-None-clause-row : goal.returns-in-None-clause-row
returns-in-None-clause-row c m n held h =
    let s = c.args.store.now in
    let x = c.args.goal.now in
    let is = c.requires in
    let t = c.take_room.new.store in
    let same = none_of _ c.in_ok-full.full c.in-None.is c.in_ok-full.ensures.taken in
    answer_row m n.stands s t x is c.args.next c.answer-places.result c.in_ok-given.given (name_term (text_of m) c.args.name) same
    (c.answer-places.ensures m n (still_held m s t x.place same held) (c.in_ok-given.ensures.held m t h)) (c.in_ok-given.ensures.read m t)
    (none_of _ c.in_ok-full.full c.in-None.is c.in_ok-full.ensures.numbers) (none_of _ c.in_ok-full.full c.in-None.is c.in_ok-full.ensures.cells)
