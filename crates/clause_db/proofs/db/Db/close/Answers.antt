use Rattle.std.proofs.Common.{◌+◌, ◌≤◌, map, refl, sym, subst}
use Rattle.pl_model.specs.laws.Shown.{proc_of}
use Rattle.clause_db.specs.Abolished.{closed}
use Rattle.clause_db.specs.Index.{Indexed}
use Rattle.clause_db.specs.Parts.{piece, changed_in}
use Rattle.clause_db.specs.Sound.{IsWhole}
use Rattle.clause_db.proofs.Changing.{names_changed}
use Rattle.clause_db.proofs.Closing.{sound_closed}
use Rattle.clause_db.proofs.Housing.{has_closed, housed_same}
use Rattle.clause_db.proofs.db.Db.close.Goals as goal

pub invariant_of-self : goal.invariant_of-self
invariant_of-self g c =
    let p = proc_of c.args.p.now in
    let old = map piece c.self.inside.parts.items in
    subst (λ l. IsWhole g.C.Kept.size l c.self.inside.homes c.self.inside.index (c.args.place + 1) c.self.inside.floor) (sym c.in-Ok.ensures.ok)
    (record {
      sound =
          sound_closed g.C.Kept.size c.self.inside.homes c.self.inside.next c.self.inside.floor c.args.place p old c.self.invariant.sound
          (subst (λ h. h.next ≤ c.args.place) (sym c.self.view_is) c.requires.later);
      indexed = subst (Indexed c.self.inside.index) (sym (names_changed (closed c.args.place) (λ x. refl) p old)) c.self.invariant.indexed;
      housed = housed_same c.self.inside.homes old (changed_in (closed c.args.place) p old) (λ k. has_closed k c.args.place p old) c.self.invariant.housed;
    })
