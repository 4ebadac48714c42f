use Rattle.std.proofs.Common.{sym, ap, ◌∙◌}
use Rattle.pl_model.specs.Service.{clause_cells}
use Rattle.pl_model.specs.laws.Shown.{proc_of}
use Rattle.clause_db.specs.Faults.{held_addition_fault}
use Rattle.clause_db.specs.Reading.{read_held}
use Rattle.clause_db.proofs.Added.{addition_fault_same}
use Rattle.clause_db.proofs.Reading.{addition_fault_read}
use Rattle.clause_db.proofs.db.Db.addition_refusal.Goals as goal

pub returns : goal.returns
returns g c = λ f d costs s.
    let p = proc_of c.args.p.now in
    let h = c.args.self.now in
    c.addition_fault.ensures
    ∙ (ap (held_addition_fault c.args.place h p c.args.origin) c.cells.ensures
    ∙ (sym (addition_fault_read f c.args.place h p c.args.origin (g.C.Kept.size c.args.clause.now))
    ∙ (ap (held_addition_fault c.args.place (read_held f h) p c.args.origin) costs
    ∙ addition_fault_same clause_cells (read_held f h) d s c.args.place c.requires p c.args.origin (f c.args.clause.now))))
