use Rattle.std.proofs.Common.{[], map, ap, sym, subst, ◌∙◌}
use Rattle.clause_db.specs.Listed.{listed_from}
use Rattle.clause_db.specs.Parts.{piece}
use Rattle.clause_db.specs.Sound.{Apart, names}
use Rattle.clause_db.proofs.Erasing.{if_ok}
use Rattle.clause_db.proofs.InOrder.{listed_is}
use Rattle.clause_db.proofs.Says.{listed_says}
use Rattle.clause_db.proofs.db.Db.current_procedures.Goals as goal

pub returns-clause-stands : goal.returns-clause-stands
returns-clause-stands g c = λ d s.
    if_ok c.listed.result _ _
    (λ ps e. e
    ∙ ap (λ l. listed_from c.args.g [] (map piece l)) c.as_slice.ensures.value
    ∙ ap (λ h. listed_from c.args.g [] h.parts) c.self.view_is
    ∙ listed_is g.C.Kept.size c.args.self.now d s (subst (λ h. Apart (names h.parts)) c.self.view_is c.self.invariant.sound.apart) c.args.g c.requires)
    c.listed.ensures

pub returns-clause-says : goal.returns-clause-says
returns-clause-says g c = λ f d s.
    if_ok c.listed.result _ _
    (λ ps e. e
    ∙ ap (λ l. listed_from c.args.g [] (map piece l)) c.as_slice.ensures.value
    ∙ ap (λ h. listed_from c.args.g [] h.parts) c.self.view_is
    ∙ listed_says f c.args.self.now d s c.args.g c.requires (subst (λ h. Apart (names h.parts)) c.self.view_is c.self.invariant.sound.apart))
    c.listed.ensures

pub listed-requires : goal.listed-requires
listed-requires g c = subst (λ l. Apart (names (map piece l))) (sym c.as_slice.ensures.value) c.self.invariant.sound.apart
