use Rattle.std.proofs.Common.{◌≡◌, ◌≤◌, false, map, refl, sym, ap, subst, ◌∙◌, arith}
use Rattle.std.specs.List.{slice_get}
use Rattle.std.specs.Option.{option_map_or}
use Rattle.clause_db.specs.Parts.{has_live, piece}
use Rattle.clause_db.specs.Sound.{Homed, Apart, names}
use Rattle.clause_db.proofs.Says.{none_says, there_says}
use Rattle.clause_db.proofs.db.Db.has_clause.Goals as goal

pub returns-in-Some : goal.returns-in-Some
returns-in-Some g c = λ f d costs s.
    let h = c.args.self.now in
    let le : h.next ≤ h.next = omega arith in
    let homed = subst (λ h. Homed g.C.Kept.size c.self.inside.homes 0 h.parts) c.self.view_is c.self.invariant.sound.homed in
    let apart = subst (λ h. Apart (names h.parts)) c.self.view_is c.self.invariant.sound.apart in
    subst (λ l. c.has_live_in.result ≡ option_map_or (λ x. has_live c.args.clause x.clauses) (slice_get (map piece l) c.in-Some.home.now.part) false) c.as_slice.ensures.value c.has_live_in.ensures
    ∙ ap (λ v. option_map_or (λ x. has_live c.args.clause x.clauses) (slice_get v.parts c.in-Some.home.now.part) false) c.self.view_is
    ∙ there_says c.args.clause h.next g.C.Kept.size f costs h d s le c.self.inside.homes homed apart c.in-Some.home.now (sym c.in-Some.ensures.value)

pub returns-in-None : goal.returns-in-None
returns-in-None g c = λ f d costs s.
    let h = c.args.self.now in
    let le : h.next ≤ h.next = omega arith in
    (none_says c.args.clause h.next g.C.Kept.size f costs h d s le c.self.inside.homes (subst (λ h. Homed g.C.Kept.size c.self.inside.homes 0 h.parts) c.self.view_is c.self.invariant.sound.homed) false (sym c.in-None.ensures.value) refl h).0
