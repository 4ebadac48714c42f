use Rattle.std.proofs.Common.{◌≡◌, true, false, ◌&&◌, length, nat_le, sym, ap₂, ◌∙◌}
use Rattle.std.proofs.lemmas.Bool.{and_right}
use Rattle.pl_model.specs.Control.{several}
use Rattle.iso_search.specs.Reading.{reads}
use Rattle.iso_search.specs.Told.{told_answers}
use Rattle.iso_engine.proofs.ToldLaws.{and_true}
use Rattle.iso_engine.proofs.rows.told.leaves_too_many.Goals as goal

pub returns-in_ok-twice-clause-tells : goal.returns-in_ok-twice-clause-tells
returns-in_ok-twice-clause-tells c v view =
    let e = c.args.search.now in
    let room : nat_le e.budgets.choices (length e.choices.items) ≡ true = sym c.has_no_room.ensures ∙ c.if-has_no_room.true in
    sym (ap₂ (λ x y. x && y) (c.in_ok-twice.ensures.tells v view) room ∙ and_true c.in_ok-twice.twice)

pub returns-else-has_no_room-clause-tells : goal.returns-else-has_no_room-clause-tells
returns-else-has_no_room-clause-tells c v view =
    let e = c.args.search.now in
    let room : nat_le e.budgets.choices (length e.choices.items) ≡ false = sym c.has_no_room.ensures ∙ c.if-has_no_room.false in
    sym (and_right (several (told_answers v.names (reads v e.store c.args.goal) c.args.lines.now.items 0)) (nat_le e.budgets.choices (length e.choices.items)) room)
