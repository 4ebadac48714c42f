use Rattle.std.proofs.Common.{◌≡◌, rules}
use Rattle.builtin_arithmetic.proofs.Answering.{no_room, room_found}
use Rattle.builtin_arithmetic.proofs.comparing.within_budget.Goals as goal

pub returns-in-Ok-clause-row : goal.returns-in-Ok-clause-row
returns-in-Ok-clause-row c m next p ts us few h =
    room_found m c.args.store.now c.charge.new.self next p ts us few c.in-Ok.ensures.fits c.in-Ok.ensures.ok c.args.row h

pub returns-in-Err-CellsFull-clause-row : goal.returns-in-Err-CellsFull-clause-row
returns-in-Err-CellsFull-clause-row c m next p ts us few h =
    let s = c.args.store.now in
    let used : c.in-Err-CellsFull.used ≡ s.used = search rules in
    let need : c.in-Err-CellsFull.need ≡ 0 = search rules in
    no_room m s c.charge.new.self next p ts us few c.in-Err-CellsFull.used c.in-Err-CellsFull.need used need c.in-Err-CellsFull.ensures.over
    c.in-Err-CellsFull.ensures.kept
