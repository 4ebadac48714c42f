use Rattle.std.proofs.Common.{map, refl, sym, subst, ap, ◌∙◌}
use Rattle.pl_model.specs.laws.Shown.{proc_of}
use Rattle.pl_model.specs.Database.{with_dynamic_procedures}
use Rattle.clause_db.specs.Stands.{StandsFor, then_at}
use Rattle.clause_db.proofs.MadeDynamic.{some_fault, no_fault, without_fault, stands_dynamic}
use Rattle.std.proofs.lemmas.Bool.{false≢true}
use Rattle.clause_db.proofs.Says.{changed_says, dynamic_says}
use Rattle.clause_db.specs.Weights.{weight}
use Rattle.clause_db.proofs.Weighing.{dynamic_weight}
use Rattle.clause_db.proofs.db.Db.set_dynamic.Goals as goal

pub returns-then-any_static-clause-made : goal.returns-then-any_static-clause-made
returns-then-any_static-clause-made g c = λ d s.
    some_fault g.C.Kept.size c.args.self.now d s c.args.place c.requires.later c.args.ps.now c.any_static.result c.any_static.ensures c.if-any_static.true _

pub returns-in-Ok-clause-refused : goal.returns-in-Ok-clause-refused
returns-in-Ok-clause-refused g c = λ d s.
    no_fault g.C.Kept.size c.args.self.now d s c.args.place c.requires.later c.args.ps.now c.any_static.result c.any_static.ensures c.if-any_static.false _

pub returns-in-Ok-clause-made : goal.returns-in-Ok-clause-made
returns-in-Ok-clause-made g c = λ d s.
    without_fault g.C.Kept.size c.args.self.now d s c.args.place c.requires.later c.args.ps.now c.any_static.result c.any_static.ensures c.if-any_static.false _
    (subst (λ n. StandsFor g.C.Kept.size n (then_at c.args.place (with_dynamic_procedures (map proc_of c.args.ps.now)) d)) (sym c.in-Ok.ensures.ok)
    (stands_dynamic g.C.Kept.size c.args.self.now d s c.args.place c.requires.later c.args.ps.now))

pub returns-in-Err-clause-refused : goal.returns-in-Err-clause-refused
returns-in-Err-clause-refused g c = λ d s.
    no_fault g.C.Kept.size c.args.self.now d s c.args.place c.requires.later c.args.ps.now c.any_static.result c.any_static.ensures c.if-any_static.false _

pub returns-then-any_static-clause-says : goal.returns-then-any_static-clause-says
returns-then-any_static-clause-says g c = λ f d s.
    changed_says f c.args.self.now d s c.args.place c.requires.later c.args.ps.now c.any_static.result c.any_static.ensures _ _ (λ t. refl) (λ t. absurd (false≢true (sym t ∙ c.if-any_static.true)))

pub returns-in-Ok-clause-says : goal.returns-in-Ok-clause-says
returns-in-Ok-clause-says g c = λ f d s.
    changed_says f c.args.self.now d s c.args.place c.requires.later c.args.ps.now c.any_static.result c.any_static.ensures _ _ (λ t. absurd (false≢true (sym c.if-any_static.false ∙ t)))
    (λ t. dynamic_says f c.args.self.now d s c.args.place c.requires.later c.make_dynamic.new.self c.args.ps.now c.in-Ok.ensures.ok)

pub returns-in-Err-clause-says : goal.returns-in-Err-clause-says
returns-in-Err-clause-says g c = λ f d s.
    changed_says f c.args.self.now d s c.args.place c.requires.later c.args.ps.now c.any_static.result c.any_static.ensures _ _ (λ t. absurd (false≢true (sym c.if-any_static.false ∙ t))) (λ t. refl)

pub returns-in-Ok-clause-weighs : goal.returns-in-Ok-clause-weighs
returns-in-Ok-clause-weighs g c = λ w. ap (weight w) c.in-Ok.ensures.ok ∙ dynamic_weight w c.args.place c.args.ps.now c.args.self.now
