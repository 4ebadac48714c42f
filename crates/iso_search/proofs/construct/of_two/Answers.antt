use Rattle.std.proofs.Common.{sym, ◌∙◌}
use Rattle.iso_search.specs.Reading.{reads}
use Rattle.iso_search.proofs.Constructing.{is_condition, is_conjunction, is_either, is_inspection, is_none}
use Rattle.iso_search.proofs.construct.of_two.Goals as goal

pub returns-then-eq-clause-stands : goal.returns-then-eq-clause-stands
returns-then-eq-clause-stands c v view =
    let s = c.args.store.now in
    is_conjunction v view c.args.name (reads v s c.args.first) (reads v s c.args.second) (sym c.if-eq.ensures)

pub returns-then-eq-2-clause-stands : goal.returns-then-eq-2-clause-stands
returns-then-eq-2-clause-stands c v view =
    let s = c.args.store.now in
    c.either.ensures.stands v view
    ∙ is_either v view c.args.name (reads v s c.args.first) (reads v s c.args.second) (sym c.if-eq.ensures) (sym c.if-eq-2.ensures)

pub returns-then-eq-3-clause-stands : goal.returns-then-eq-3-clause-stands
returns-then-eq-3-clause-stands c v view =
    let s = c.args.store.now in
    is_condition v view c.args.name (reads v s c.args.first) (reads v s c.args.second) (sym c.if-eq.ensures) (sym c.if-eq-2.ensures) (sym c.if-eq-3.ensures)

pub returns-then-eq-4-clause-stands : goal.returns-then-eq-4-clause-stands
returns-then-eq-4-clause-stands c v view =
    let s = c.args.store.now in
    is_inspection v view c.args.name (reads v s c.args.first) (reads v s c.args.second) (sym c.if-eq.ensures) (sym c.if-eq-2.ensures)
    (sym c.if-eq-3.ensures) (sym c.if-eq-4.ensures)

pub returns-else-eq-4-clause-stands : goal.returns-else-eq-4-clause-stands
returns-else-eq-4-clause-stands c v view =
    let s = c.args.store.now in
    is_none v view c.args.name (reads v s c.args.first) (reads v s c.args.second) (sym c.if-eq.ensures) (sym c.if-eq-2.ensures)
    (sym c.if-eq-3.ensures) (sym c.if-eq-4.ensures)
