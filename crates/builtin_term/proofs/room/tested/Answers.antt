use Rattle.std.proofs.Common.{refl}
use Rattle.builtin_term.proofs.Rooms.{full_stands, holds_stands, none_fits, some_full, tests_fail, tests_stand}
use Rattle.builtin_rows.specs.declared.row.Row.TheVariants.{Holds}
use Rattle.builtin_term.proofs.room.tested.Goals as goal

pub returns-then-not-holds-clause-row : goal.returns-then-not-holds-clause-row
returns-then-not-holds-clause-row c m ts = tests_fail c.args.holds c.args.store.now c.args.store.now ts m c.if-not-holds.true refl

pub returns-in-None-clause-row : goal.returns-in-None-clause-row
returns-in-None-clause-row c m ts =
    let s = c.args.store.now in
    tests_stand c.args.holds s c.overdrawn.new.store ts m Holds c.if-not-holds.false
    (holds_stands s c.overdrawn.new.store ts m c.in_ok-full.ensures.same (none_fits c.in_ok-full.full s c.in-None.is c.in_ok-full.ensures.fits))

pub returns-in-Some-clause-row : goal.returns-in-Some-clause-row
returns-in-Some-clause-row c m ts =
    let s = c.args.store.now in
    tests_stand c.args.holds s c.overdrawn.new.store ts m c.in-Some.row c.if-not-holds.false
    (full_stands s c.overdrawn.new.store ts ts m c.in-Some.row c.in_ok-full.ensures.same
    (some_full c.in_ok-full.full c.in-Some.row s c.in-Some.is c.in_ok-full.ensures.full))
