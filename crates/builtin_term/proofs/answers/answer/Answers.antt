use Rattle.std.proofs.Common.{zero, refl, arith}
use Rattle.pl_model.specs.BuiltinRows.{plain_answer}
use Rattle.pl_model.specs.History.{proc}
use Rattle.builtin_rows.specs.Rows.{listed, terms_at}
use Rattle.builtin_term.proofs.PartAnswers.{answer_given, makes_room, none_of, placed_still, refused_given, some_of, terms_still}
use Rattle.builtin_term.proofs.answers.answer.Goals as goal

pub returns-in-Some-clause-row : goal.returns-in-Some-clause-row
returns-in-Some-clause-row c m p stands held known =
    let s = c.args.store.now in
    let a = plain_answer (terms_at m s (listed c.args.places)) in
    refused_given s c.args.next (proc p c.args.arity) m c.take_room.new.store a c.in-Some.row
    (λ ts. some_of _ c.in_ok-row.field-0 c.in-Some.row c.in-Some.is c.in_ok-row.ensures.refused m p ts a stands known refl refl)

pub returns-in-None-clause-row : goal.returns-in-None-clause-row
returns-in-None-clause-row c m p stands held known =
    let s = c.args.store.now in
    let t = c.take_room.new.store in
    let ps = c.args.places in
    let same = none_of _ c.in_ok-row.field-0 c.in-None.is c.in_ok-row.ensures.taken in
    answer_given s c.args.next (proc p c.args.arity) m t (plain_answer (terms_at m s (listed ps))) ps zero refl (omega arith)
    (none_of _ c.in_ok-row.field-0 c.in-None.is c.in_ok-row.ensures.cells)
    (terms_still m s t zero (listed ps) same) (makes_room s t c.args.next zero same) (placed_still m s t zero (listed ps) same c.requires held)
