use Rattle.std.proofs.Common.{◌≡◌, true, false, refl, sym, subst, ◌∙◌}
use Rattle.std.specs.List.{slice_get}
use Rattle.std.specs.Option.{option_map_or}
use Rattle.pl_model.specs.Database.{is_there, without_clause}
use Rattle.clause_db.specs.Parts.{has_live, erased_held}
use Rattle.clause_db.specs.Sound.{Homed, Apart, names}
use Rattle.clause_db.specs.Stands.{StandsFor, then_at}
use Rattle.clause_db.proofs.Erasing.{if_ok, if_both}
use Rattle.clause_db.proofs.Erased.{there_is, none_there, erased_stands}
use Rattle.clause_db.specs.Reading.{SaysFor}
use Rattle.clause_db.proofs.Says.{erased_says, none_says}
use Rattle.clause_db.specs.Weights.{weight}
use Rattle.clause_db.proofs.Weighing.{either_weight}
use Rattle.clause_db.proofs.db.Db.erase.Goals as goal

pub returns-in-Some-clause-was : goal.returns-in-Some-clause-was
returns-in-Some-clause-was g c = λ d s.
    let homed = subst (λ h. Homed g.C.Kept.size c.self.inside.homes 0 h.parts) c.self.view_is c.self.invariant.sound.homed in
    let apart = subst (λ h. Apart (names h.parts)) c.self.view_is c.self.invariant.sound.apart in
    if_ok c.erase_at.result
    (λ b. b ≡ option_map_or (λ x. has_live c.args.clause x.clauses) (slice_get c.args.self.now.parts c.in-Some.home.now.part) false)
    (λ b. b ≡ is_there c.args.clause (d c.args.place))
    (λ b e. e ∙ there_is c.args.clause c.args.place g.C.Kept.size c.args.self.now d s c.requires.later c.self.inside.homes homed apart c.in-Some.home.now (sym c.in-Some.ensures.value))
    c.erase_at.ensures.was

pub returns-in-Some-clause-erased : goal.returns-in-Some-clause-erased
returns-in-Some-clause-erased g c = λ d s.
    let homed = subst (λ h. Homed g.C.Kept.size c.self.inside.homes 0 h.parts) c.self.view_is c.self.invariant.sound.homed in
    let apart = subst (λ h. Apart (names h.parts)) c.self.view_is c.self.invariant.sound.apart in
    if_both c.erase_at.result
    (λ b. b ≡ option_map_or (λ x. has_live c.args.clause x.clauses) (slice_get c.args.self.now.parts c.in-Some.home.now.part) false)
    (λ b. b ≡ true → c.erase_at.new.self ≡ erased_held c.in-Some.home.now.part c.args.clause c.args.place c.in-Some.home.now.cells c.args.self.now)
    (λ b. b ≡ true → StandsFor g.C.Kept.size c.erase_at.new.self (then_at c.args.place (without_clause c.args.clause c.args.place) d))
    (λ b was is. erased_stands c.args.clause c.args.place g.C.Kept.size c.args.self.now d s c.requires.later c.self.inside.homes homed apart c.in-Some.home.now (sym c.in-Some.ensures.value) c.erase_at.new.self b was is)
    c.erase_at.ensures.was
    c.erase_at.ensures.erased

pub returns-in-None-clause-was : goal.returns-in-None-clause-was
returns-in-None-clause-was g c = λ d s.
    none_there c.args.clause c.args.place g.C.Kept.size c.args.self.now d s c.requires.later c.self.inside.homes (subst (λ h. Homed g.C.Kept.size c.self.inside.homes 0 h.parts) c.self.view_is c.self.invariant.sound.homed) (sym c.in-None.ensures.value)

pub returns-in-Some-clause-says : goal.returns-in-Some-clause-says
returns-in-Some-clause-says g c = λ f d costs s.
    let homed = subst (λ h. Homed g.C.Kept.size c.self.inside.homes 0 h.parts) c.self.view_is c.self.invariant.sound.homed in
    let apart = subst (λ h. Apart (names h.parts)) c.self.view_is c.self.invariant.sound.apart in
    if_both c.erase_at.result
    (λ b. b ≡ option_map_or (λ x. has_live c.args.clause x.clauses) (slice_get c.args.self.now.parts c.in-Some.home.now.part) false)
    (λ b. b ≡ true → c.erase_at.new.self ≡ erased_held c.in-Some.home.now.part c.args.clause c.args.place c.in-Some.home.now.cells c.args.self.now)
    (λ b. (b ≡ is_there c.args.clause (d c.args.place)) × (b ≡ true → SaysFor f c.erase_at.new.self (then_at c.args.place (without_clause c.args.clause c.args.place) d)))
    (λ b was is. erased_says c.args.clause c.args.place g.C.Kept.size f costs c.args.self.now d s c.requires.later c.self.inside.homes homed apart c.in-Some.home.now (sym c.in-Some.ensures.value) c.erase_at.new.self b was is)
    c.erase_at.ensures.was
    c.erase_at.ensures.erased

pub returns-in-None-clause-says : goal.returns-in-None-clause-says
returns-in-None-clause-says g c = λ f d costs s.
    none_says c.args.clause c.args.place g.C.Kept.size f costs c.args.self.now d s c.requires.later c.self.inside.homes (subst (λ h. Homed g.C.Kept.size c.self.inside.homes 0 h.parts) c.self.view_is c.self.invariant.sound.homed) false (sym c.in-None.ensures.value) refl c.args.self.now

pub returns-in-Some-clause-weighs : goal.returns-in-Some-clause-weighs
returns-in-Some-clause-weighs g c =
    if_both c.erase_at.result
    (λ b. b ≡ true → c.erase_at.new.self ≡ erased_held c.in-Some.home.now.part c.args.clause c.args.place c.in-Some.home.now.cells c.args.self.now)
    (λ b. b ≡ false → c.erase_at.new.self ≡ c.args.self.now)
    (λ b. (w : _) → weight w c.erase_at.new.self ≡ weight w c.args.self.now)
    (λ b hit miss. λ w. either_weight w c.in-Some.home.now.part c.args.clause c.args.place c.in-Some.home.now.cells c.args.self.now c.erase_at.new.self b hit miss)
    c.erase_at.ensures.erased
    c.erase_at.ensures.gone
