use Rattle.std.proofs.Common.{◌≡◌, ◌<◌, Some, length, ap, sym, subst, ◌∙◌}
use Rattle.std.specs.Prelude.{IfSome}
use Rattle.std.specs.List.{slice_get}
use Rattle.std.specs.Option.{option_map}
use Rattle.pl_model.specs.laws.Shown.{proc_of}
use Rattle.clause_db.specs.Access.{access_of}
use Rattle.clause_db.specs.Parts.{piece}
use Rattle.clause_db.specs.Sound.{Apart, names}
use Rattle.clause_db.specs.Stands.{program_access}
use Rattle.clause_db.proofs.Erasing.{get_piece}
use Rattle.clause_db.proofs.Says.{access_says, within}
use Rattle.clause_db.proofs.db.Db.access_at.Goals as goal

pub returns : goal.returns
returns g c = λ f d s.
    let inside = c.self.inside.parts.items in
    let lt = within inside c.args.i (subst (λ h. c.args.i < length h.parts) (sym c.self.view_is) c.requires.there) in
    let at = sym (ap (λ h. slice_get h.parts c.args.i) c.self.view_is) ∙ get_piece 0 0 inside c.args.i _ lt ∙ sym (ap (λ x. Some (piece x)) c.index.ensures) in
    let apart = subst (λ h. Apart (names h.parts)) c.self.view_is c.self.invariant.sound.apart in
    subst (λ o. IfSome o (λ x. option_map access_of c.access_in.result ≡ program_access (d c.args.g) (proc_of x.name))) (sym at)
    (ap (option_map access_of) c.access_in.ensures ∙ access_says f c.args.self.now d s c.args.g c.requires.floor apart c.args.i (piece c.index.result.now) at)
