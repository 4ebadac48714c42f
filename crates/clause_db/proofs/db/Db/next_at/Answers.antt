use Rattle.std.proofs.Common.{refl, sym, subst}
use Rattle.pl_model.specs.FirstArguments.{are_apart}
use Rattle.gen_core.specs.Hits.{hit_of}
use Rattle.std.specs.List.{slice_get}
use Rattle.gen_core.specs.Visible.{is_choice}
use Rattle.clause_db.specs.Sound.{Apart, Homed, names}
use Rattle.clause_db.proofs.Says.{next_held, next_says, nowhere_says}
use Rattle.clause_db.proofs.db.Db.next_at.Goals as goal

pub returns-in-Some-clause-says : goal.returns-in-Some-clause-says
returns-in-Some-clause-says g c = λ f d t p costs s each any.
    next_says f c.args.self.now d s c.args.g c.requires (λ x. are_apart g.C.Key.Ord.cmp g.C.Kept.any c.args.goal.now (g.C.Kept.key_of x)) t each g.C.Kept.size costs c.args.place p any c.self.inside.homes
    (subst (λ h. Homed g.C.Kept.size c.self.inside.homes 0 h.parts) c.self.view_is c.self.invariant.sound.homed) c.in-Some.home.now (sym c.in-Some.ensures.value) (hit_of c.next_in.result) c.next_in.ensures.found

pub returns-in-None-clause-says : goal.returns-in-None-clause-says
returns-in-None-clause-says g c = λ f d t p costs s each any.
    nowhere_says f c.args.self.now d s c.args.g c.requires (λ x. are_apart g.C.Key.Ord.cmp g.C.Kept.any c.args.goal.now (g.C.Kept.key_of x)) t each g.C.Kept.size costs c.args.place p any c.self.inside.homes
    (subst (λ h. Homed g.C.Kept.size c.self.inside.homes 0 h.parts) c.self.view_is c.self.invariant.sound.homed) (sym c.in-None.ensures.value)

pub returns-in-Some-clause-held : goal.returns-in-Some-clause-held
returns-in-Some-clause-held g c =
    next_held c.next_in.result (is_choice g.C.Key.Ord.cmp g.C.Kept.any g.C.Kept.key_of c.args.g c.args.goal.now) c.args.place c.args.self.now (subst (λ h. Apart (names h.parts)) c.self.view_is c.self.invariant.sound.apart) c.in-Some.home.now.part (slice_get c.args.self.now.parts c.in-Some.home.now.part) refl c.next_in.ensures.found c.next_in.ensures.past
