use Rattle.std.proofs.Common.{◌+◌, ◌≤◌, map, ap, sym, subst, ◌∙◌}
use Rattle.clause_db.specs.Flags.{flags_as}
use Rattle.std.specs.Arc.{arc_value}
use Rattle.clause_db.specs.Index.{Indexed}
use Rattle.clause_db.specs.Parts.{piece, without_at}
use Rattle.clause_db.specs.Sound.{IsWhole}
use Rattle.clause_db.proofs.Erasing.{sound_without, unchanged_at}
use Rattle.clause_db.proofs.Housing.{has_without, housed_same}
use Rattle.clause_db.proofs.Standing.{names_without}
use Rattle.clause_db.proofs.db.Db.erase_at.Goals as goal

pub invariant_of-self : goal.invariant_of-self
invariant_of-self g c =
    let old = map piece c.self.inside.parts.items in
    let new = without_at c.args.home.part c.args.clause c.args.place old in
    subst (λ l. IsWhole g.C.Kept.size l c.self.inside.homes c.self.inside.index (c.args.place + 1) c.self.inside.floor) (sym c.in-Ok-true.ensures.ok)
    (record {
      sound =
          sound_without g.C.Kept.size c.args.clause c.args.place c.self.inside.homes c.self.inside.next c.self.inside.floor c.args.home.part old c.self.invariant.sound
          (subst (λ h. h.next ≤ c.args.place) (sym c.self.view_is) c.requires.later);
      indexed = subst (Indexed c.self.inside.index) (sym (names_without c.args.home.part c.args.clause c.args.place old)) c.self.invariant.indexed;
      housed = housed_same c.self.inside.homes old new (λ k. has_without k c.args.home.part c.args.clause c.args.place old) c.self.invariant.housed;
    })

pub invariant_of-self-in-Ok-false : goal.invariant_of-self-in-Ok-false
invariant_of-self-in-Ok-false g c =
    subst (λ l. IsWhole g.C.Kept.size l c.self.inside.homes c.self.inside.index c.self.inside.next c.self.inside.floor)
    (sym (c.in-Ok-false.ensures.ok ∙ unchanged_at g.C.Kept.size c.args.clause c.args.place c.args.home.part (map piece c.self.inside.parts.items) (sym c.in-Ok-false.ensures.was ∙ c.in-Ok-false.field-0-test)))
    c.self.invariant

pub returns-in-Ok-false-clause-gone : goal.returns-in-Ok-false-clause-gone
returns-in-Ok-false-clause-gone g c = λ _.
    ap (λ l. record { parts = l; used = c.self.inside.used; flags = flags_as c.self.inside.flags; operators = arc_value c.self.inside.operators; next = c.self.inside.next; floor = c.self.inside.floor })
    (c.in-Ok-false.ensures.ok ∙ unchanged_at g.C.Kept.size c.args.clause c.args.place c.args.home.part (map piece c.self.inside.parts.items) (sym c.in-Ok-false.ensures.was ∙ c.in-Ok-false.field-0-test))
    ∙ c.self.view_is
