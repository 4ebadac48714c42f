use Rattle.builtin_atom.proofs.Rows.{full_row}
use Rattle.builtin_atom.proofs.answers.take_cells.Goals as goal

pub returns-in-Err-CellsFull-clause-full : goal.returns-in-Err-CellsFull-clause-full
returns-in-Err-CellsFull-clause-full c m p ts us =
    let f = c.in-Err-CellsFull in
    full_row c.args.store.now c.charge.new.self p ts us m c.args.made f.used f.need f.field-0 f.field-0-is f.ensures.full f.ensures.over f.ensures.kept
