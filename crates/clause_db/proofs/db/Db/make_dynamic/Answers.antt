use Rattle.std.proofs.Common.{◌+◌, ◌≤◌, map, ap, sym, subst, ◌∙◌}
use Rattle.clause_db.specs.Dynamic.{with_blanks, opened_all}
use Rattle.clause_db.specs.Index.{Indexed}
use Rattle.clause_db.specs.Parts.{piece}
use Rattle.clause_db.specs.Sound.{IsWhole, names}
use Rattle.clause_db.proofs.Housing.{has_blanks, has_opened, housed_same}
use Rattle.clause_db.proofs.MadeDynamic.{sound_dynamic, names_opened}
use Rattle.clause_db.proofs.db.Db.make_dynamic.Goals as goal

pub invariant_of-self : goal.invariant_of-self
invariant_of-self g c =
    let old = map piece c.self.inside.parts.items in
    let blanks = with_blanks c.args.ps.now old in
    let index = c.add_blanks.new.index in
    subst (λ l. IsWhole g.C.Kept.size l c.self.inside.homes index (c.args.place + 1) c.self.inside.floor)
    (sym (c.open_all.ensures ∙ ap (opened_all c.args.place c.args.ps.now) c.in-Ok.ensures.ok))
    (record {
      sound =
          sound_dynamic g.C.Kept.size c.self.inside.homes c.self.inside.next c.self.inside.floor c.args.place c.args.ps.now old c.self.invariant.sound
          (subst (λ h. h.next ≤ c.args.place) (sym c.self.view_is) c.requires.later);
      indexed = subst (Indexed index) (sym (names_opened c.args.place c.args.ps.now blanks)) (subst (λ l. Indexed index (names l)) c.in-Ok.ensures.ok c.add_blanks.ensures.indexed);
      housed = housed_same c.self.inside.homes old (opened_all c.args.place c.args.ps.now blanks) (λ k. has_opened k c.args.place c.args.ps.now blanks ∙ has_blanks k c.args.ps.now old) c.self.invariant.housed;
    })

pub invariant_of-self-in-Err : goal.invariant_of-self-in-Err
invariant_of-self-in-Err g c =
    let index = c.add_blanks.new.index in
    subst (λ l. IsWhole g.C.Kept.size l c.self.inside.homes index c.self.inside.next c.self.inside.floor) (sym c.in-Err.ensures.err)
    (record {
      sound = c.self.invariant.sound;
      indexed = subst (λ l. Indexed index (names l)) c.in-Err.ensures.err c.add_blanks.ensures.indexed;
      housed = c.self.invariant.housed;
    })
