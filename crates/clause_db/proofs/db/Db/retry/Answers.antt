use Rattle.std.proofs.Common.{None, sym, subst, ◌∙◌}
use Rattle.pl_model.specs.FirstArguments.{are_apart}
use Rattle.gen_core.specs.Hits.{hit_of}
use Rattle.clause_db.specs.Sound.{Homed}
use Rattle.clause_db.proofs.Named.{any_named, after_named}
use Rattle.clause_db.proofs.Retries.{retry_is, retry_none}
use Rattle.clause_db.proofs.db.Db.retry.Goals as goal

pub returns-in-Some : goal.returns-in-Some
returns-in-Some g c = λ d p s a.
    let view = s.views c.args.g c.requires p in
    retry_is g.C.Kept.size c.args.self.now (d c.args.self.now.next) s.newest p c.args.g c.args.place c.requires (sym (any_named c.args.place _ _ view) ∙ a) c.self.inside.homes
    (subst (λ h. Homed g.C.Kept.size c.self.inside.homes 0 h.parts) c.self.view_is c.self.invariant.sound.homed)
    c.in-Some.home.now (sym c.in-Some.ensures.value) (λ x. are_apart g.C.Key.Ord.cmp g.C.Kept.any c.args.goal.now (g.C.Kept.key_of x)) (hit_of c.next_in.result) c.next_in.ensures.found
    ∙ sym (after_named (λ x. are_apart g.C.Key.Ord.cmp g.C.Kept.any c.args.goal.now (g.C.Kept.key_of x)) c.args.place _ _ view)

pub returns-in-None : goal.returns-in-None
returns-in-None g c = λ d p s a.
    let view = s.views c.args.g c.requires p in
    retry_none g.C.Kept.size c.args.self.now (d c.args.self.now.next) s.newest p c.args.g c.args.place c.requires (sym (any_named c.args.place _ _ view) ∙ a) c.self.inside.homes
    (subst (λ h. Homed g.C.Kept.size c.self.inside.homes 0 h.parts) c.self.view_is c.self.invariant.sound.homed)
    (sym c.in-None.ensures.value) (λ x. are_apart g.C.Key.Ord.cmp g.C.Kept.any c.args.goal.now (g.C.Kept.key_of x)) None
    ∙ sym (after_named (λ x. are_apart g.C.Key.Ord.cmp g.C.Kept.any c.args.goal.now (g.C.Kept.key_of x)) c.args.place _ _ view)
