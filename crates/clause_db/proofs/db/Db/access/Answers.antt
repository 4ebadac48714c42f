use Rattle.std.proofs.Common.{ap, sym, ◌∙◌}
use Rattle.std.specs.Option.{option_map}
use Rattle.pl_model.specs.Service.{clause_cells}
use Rattle.pl_model.specs.laws.Shown.{proc_of}
use Rattle.clause_db.specs.Access.{access_of}
use Rattle.clause_db.specs.Reading.{read_held}
use Rattle.clause_db.proofs.Faults.{access_same}
use Rattle.clause_db.proofs.Reading.{held_access_read}
use Rattle.clause_db.proofs.db.Db.access.Goals as goal

pub returns-clause-stands : goal.returns-clause-stands
returns-clause-stands g c = λ d s.
    ap (option_map access_of) c.access_of.ensures ∙ access_same g.C.Kept.size c.args.self.now d s c.args.g c.requires (proc_of c.args.p.now)

pub returns-clause-says : goal.returns-clause-says
returns-clause-says g c = λ f d s.
    ap (option_map access_of) (c.access_of.ensures ∙ sym (held_access_read f c.args.g c.args.self.now (proc_of c.args.p.now)))
    ∙ access_same clause_cells (read_held f c.args.self.now) d s c.args.g c.requires (proc_of c.args.p.now)
