use Rattle.std.proofs.Common.{◌+◌, ◌≤◌, map, ap, sym, subst}
use Rattle.std.specs.Arc.{arc_value}
use Rattle.clause_db.specs.Flags.{flags_as}
use Rattle.clause_db.specs.Parts.{Held, piece}
use Rattle.clause_db.specs.Stands.{StandsFor}
use Rattle.pl_model.specs.Service.{clause_cells}
use Rattle.clause_db.specs.Reading.{SaysFor, read_held}
use Rattle.clause_db.proofs.Settings.{sound_set, stands_set}
use Rattle.clause_db.specs.Weights.{weight}
use Rattle.clause_db.proofs.db.Db.set_op.Goals as goal

pub returns-clause-stands : goal.returns-clause-stands
returns-clause-stands g c = λ d s.
    subst (λ (h : Held g.row.C.Denot). StandsFor g.C.Kept.size (record h { flags = flags_as c.self.inside.flags; operators = (arc_value c.put_operators.new.table); next = c.args.place + 1 }) d) (sym c.self.view_is)
    (stands_set g.C.Kept.size c.args.self.now d (flags_as c.self.inside.flags) (arc_value c.put_operators.new.table) c.args.place c.requires.later s)

pub returns-clause-says : goal.returns-clause-says
returns-clause-says g c = λ f d s.
    subst (λ (h : Held g.row.C.Denot). SaysFor f (record h { flags = flags_as c.self.inside.flags; operators = (arc_value c.put_operators.new.table); next = c.args.place + 1 }) d) (sym c.self.view_is)
    (stands_set clause_cells (read_held f c.args.self.now) d (flags_as c.self.inside.flags) (arc_value c.put_operators.new.table) c.args.place c.requires.later s)

pub returns-clause-weighs : goal.returns-clause-weighs
returns-clause-weighs g c = λ w. ap (λ (h : Held g.row.C.Denot). weight w h) c.self.view_is
