use Rattle.std.proofs.Common.{◌≡◌, ◌<◌, Some, length, ap, sym, subst, ◌∙◌}
use Rattle.std.specs.Prelude.{IfSome}
use Rattle.std.specs.List.{slice_get}
use Rattle.pl_model.specs.Database.{choices}
use Rattle.pl_model.specs.FirstArguments.{are_apart}
use Rattle.pl_model.specs.laws.Shown.{proc_of}
use Rattle.gen_core.specs.Hits.{hit_of}
use Rattle.gen_core.specs.Visible.{is_choice}
use Rattle.clause_db.specs.Parts.{piece}
use Rattle.clause_db.specs.Reading.{read_hit}
use Rattle.clause_db.specs.Sound.{Apart, names}
use Rattle.clause_db.specs.Stands.{first_named}
use Rattle.clause_db.proofs.Erasing.{get_piece}
use Rattle.clause_db.proofs.Says.{first_held, first_says, within}
use Rattle.clause_db.proofs.db.Db.alone_at.Goals as goal

pub returns-in-Some-clause-says : goal.returns-in-Some-clause-says
returns-in-Some-clause-says g c = λ f d t s each.
    let inside = c.self.inside.parts.items in
    let lt = within inside c.args.i (subst (λ h. c.args.i < length h.parts) (sym c.self.view_is) c.requires.there) in
    let at = sym (ap (λ h. slice_get h.parts c.args.i) c.self.view_is) ∙ get_piece 0 0 inside c.args.i _ lt ∙ sym (ap (λ x. Some (piece x)) c.index.ensures) in
    let apart = subst (λ h. Apart (names h.parts)) c.self.view_is c.self.invariant.sound.apart in
    subst (λ o. IfSome o (λ x. read_hit f (hit_of (Some c.in-Some.hit)) ≡ first_named (choices t c.args.g (proc_of x.name) (d c.args.g)))) (sym at)
    (ap (read_hit f) c.in-Some.ensures ∙ first_says f c.args.self.now d s c.args.g c.requires.floor (λ x. are_apart g.C.Key.Ord.cmp g.C.Kept.any c.args.goal.now (g.C.Kept.key_of x)) t each apart c.args.i (piece c.index.result.now) at)

pub returns-in-Some-clause-held : goal.returns-in-Some-clause-held
returns-in-Some-clause-held g c =
    let inside = c.self.inside.parts.items in
    let lt = within inside c.args.i (subst (λ h. c.args.i < length h.parts) (sym c.self.view_is) c.requires.there) in
    let at = sym (ap (λ h. slice_get h.parts c.args.i) c.self.view_is) ∙ get_piece 0 0 inside c.args.i _ lt ∙ sym (ap (λ x. Some (piece x)) c.index.ensures) in
    let apart = subst (λ h. Apart (names h.parts)) c.self.view_is c.self.invariant.sound.apart in
    first_held (Some c.in-Some.hit) (is_choice g.C.Key.Ord.cmp g.C.Kept.any g.C.Kept.key_of c.args.g c.args.goal.now) c.args.self.now apart c.args.i (piece c.index.result.now) at c.in-Some.ensures
