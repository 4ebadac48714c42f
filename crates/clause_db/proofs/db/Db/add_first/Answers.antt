use Rattle.std.proofs.Common.{◌≡◌, subst, ap, ◌∙◌}
use Rattle.std.specs.Prelude.{IfSome, Err}
use Rattle.pl_model.specs.laws.Shown.{proc_of}
use Rattle.clause_db.specs.declared.parts.End.TheVariants.{First}
use Rattle.clause_db.specs.declared.fault.DbFault.TheVariants.{Memory as NoMemory}
use Rattle.clause_db.proofs.Added.{addition_fault_same, added_stands, handed_back}
use Rattle.clause_db.proofs.Says.{added_says}
use Rattle.clause_db.specs.declared.parts.Addition.{Addition}
use Rattle.clause_db.specs.Parts.{with_added}
use Rattle.clause_db.specs.Faults.{held_addition_fault}
use Rattle.clause_db.specs.Weights.{weight}
use Rattle.clause_db.proofs.Added.{on_ok}
use Rattle.clause_db.proofs.Weighing.{added_weight, granted}
use Rattle.clause_db.proofs.db.Db.add_first.Goals as goal

pub returns-clause-refused : goal.returns-clause-refused
returns-clause-refused g c = λ d s.
    subst (λ o. IfSome o (λ f. c.add.result ≡ Err (c.args.clause, f))) (addition_fault_same g.C.Kept.size c.args.self.now d s c.args.place c.requires.later (proc_of c.args.p.now) c.args.origin c.args.clause) c.add.ensures.refused

pub returns-clause-added : goal.returns-clause-added
returns-clause-added g c = λ d s.
    added_stands g.C.Kept.size c.args.self.now c.add.new.self d s (record { origin = c.args.origin; place = c.args.place; end = First }) c.args.p.now c.args.clause c.requires.later c.add.result (λ e. e ≡ (c.args.clause, NoMemory)) c.add.ensures.added

pub returns-clause-says : goal.returns-clause-says
returns-clause-says g c = λ f d costs s.
    added_says g.C.Kept.size f c.args.self.now c.add.new.self d s (record { origin = c.args.origin; place = c.args.place; end = First }) c.args.p.now c.args.clause c.requires.later costs c.add.result (λ e. e ≡ (c.args.clause, NoMemory)) (λ x. c.add.result ≡ Err (c.args.clause, x)) c.add.ensures.refused c.add.ensures.added

pub returns-clause-weighs : goal.returns-clause-weighs
returns-clause-weighs g c =
    let by : Addition = record { origin = c.args.origin; place = c.args.place; end = First } in
    let held = with_added by c.args.p.now c.args.clause (g.C.Kept.size c.args.clause) c.args.self.now in
    on_ok c.add.result (c.add.new.self ≡ held) _
    (λ e. λ w. ap (weight w) e ∙ added_weight w by c.args.p.now c.args.clause (g.C.Kept.size c.args.clause) c.args.self.now)
    (granted (held_addition_fault c.args.place c.args.self.now (proc_of c.args.p.now) c.args.origin (g.C.Kept.size c.args.clause)) c.add.result (λ f. (c.args.clause, f)) c.add.new.self held (λ e. e ≡ (c.args.clause, NoMemory)) c.add.ensures.refused c.add.ensures.added)

pub returns-clause-back : goal.returns-clause-back
returns-clause-back g c = handed_back (held_addition_fault c.args.place c.args.self.now (proc_of c.args.p.now) c.args.origin (g.C.Kept.size c.args.clause)) c.add.result c.args.clause _ c.add.ensures.refused c.add.ensures.added
