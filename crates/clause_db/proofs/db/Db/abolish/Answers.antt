use Rattle.std.proofs.Common.{◌∷◌, [], refl, sym, subst, ap, ◌∙◌}
use Rattle.pl_model.specs.laws.Shown.{proc_of}
use Rattle.pl_model.specs.Database.{without_procedure}
use Rattle.clause_db.specs.Stands.{StandsFor, then_at}
use Rattle.clause_db.proofs.Closing.{or_none, stands_closed}
use Rattle.clause_db.proofs.MadeDynamic.{without_fault}
use Rattle.std.proofs.lemmas.Bool.{false≢true}
use Rattle.clause_db.proofs.Says.{changed_says, closed_says}
use Rattle.clause_db.specs.Weights.{weight}
use Rattle.clause_db.proofs.Weighing.{abolished_weight}
use Rattle.clause_db.proofs.db.Db.abolish.Goals as goal

pub returns-in-Ok-clause-abolished : goal.returns-in-Ok-clause-abolished
returns-in-Ok-clause-abolished g c = λ d s.
    without_fault g.C.Kept.size c.args.self.now d s c.args.place c.requires.later (c.args.p.now ∷ []) c.is_static.result (c.is_static.ensures ∙ or_none _) c.if-is_static.false _
    (subst (λ n. StandsFor g.C.Kept.size n (then_at c.args.place (without_procedure (proc_of c.args.p.now) c.args.place) d)) (sym c.in-Ok.ensures.ok)
    (stands_closed g.C.Kept.size c.args.self.now d s c.args.place c.requires.later (proc_of c.args.p.now)))

pub returns-then-is_static-clause-says : goal.returns-then-is_static-clause-says
returns-then-is_static-clause-says g c = λ f d costs s.
    changed_says f c.args.self.now d s c.args.place c.requires.later (c.args.p.now ∷ []) c.is_static.result (c.is_static.ensures ∙ or_none _) _ _ (λ t. refl) (λ t. absurd (false≢true (sym t ∙ c.if-is_static.true)))

pub returns-in-Ok-clause-says : goal.returns-in-Ok-clause-says
returns-in-Ok-clause-says g c = λ f d costs s.
    changed_says f c.args.self.now d s c.args.place c.requires.later (c.args.p.now ∷ []) c.is_static.result (c.is_static.ensures ∙ or_none _) _ _ (λ t. absurd (false≢true (sym c.if-is_static.false ∙ t)))
    (λ t. closed_says f c.args.self.now d s c.args.place c.requires.later g.C.Kept.size costs c.close.new.self (proc_of c.args.p.now) c.in-Ok.ensures.ok)

pub returns-in-Err-clause-says : goal.returns-in-Err-clause-says
returns-in-Err-clause-says g c = λ f d costs s.
    changed_says f c.args.self.now d s c.args.place c.requires.later (c.args.p.now ∷ []) c.is_static.result (c.is_static.ensures ∙ or_none _) _ _ (λ t. absurd (false≢true (sym c.if-is_static.false ∙ t))) (λ t. refl)

pub returns-in-Ok-clause-weighs : goal.returns-in-Ok-clause-weighs
returns-in-Ok-clause-weighs g c = λ w. ap (weight w) c.in-Ok.ensures.ok ∙ abolished_weight w g.C.Kept.size c.args.place (proc_of c.args.p.now) c.args.self.now
