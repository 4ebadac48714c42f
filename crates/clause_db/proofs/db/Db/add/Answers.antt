use Rattle.std.proofs.Common.{◌≡◌, ◌+◌, ◌≤◌, ℕ, false, Some, map, length, ap, ap₂, sym, subst, ◌∙◌, arith}
use Rattle.std.specs.Prelude.{unwrap_or}
use Rattle.std.specs.Map.{lookup}
use Rattle.std.specs.BTreeMap as tree
use Rattle.std.specs.BTreeMap.{is_at}
use Rattle.std.specs.Ordering.{nat_cmp}
use Rattle.pl_model.specs.laws.Shown.{proc_of}
use Rattle.clause_db.specs.Index.{Indexed}
use Rattle.clause_db.specs.Located.{Locates}
use Rattle.clause_db.specs.Parts.{piece}
use Rattle.clause_db.specs.Sound.{IsWhole, names}
use Rattle.clause_db.proofs.Homes.{index_is, sound_with, sound_stays}
use Rattle.clause_db.proofs.Housing.{housed_equal, housed_gone, housed_with}
use Rattle.clause_db.proofs.Pieces.{test}
use Rattle.clause_db.proofs.Faults.{room_left}
use Rattle.clause_db.proofs.db.Db.add.Goals as goal

pub add_to-requires-clause-located : goal.add_to-requires-clause-located
add_to-requires-clause-located g c = subst (λ l. Locates (test (proc_of c.args.p.now)) l c.locate-found.result) c.as_slice.ensures.value c.locate-found.ensures

pub overflow_add-self : goal.overflow_add-self
overflow_add-self g c =
    let room = room_left c.args.by.place c.args.self.now (proc_of c.args.p.now) c.args.by.origin c.cells-need.result (sym c.in_default.ensures) in
    omega (arith, room, ap (λ h. h.used) c.self.view_is)

pub invariant_of-self : goal.invariant_of-self
invariant_of-self g c =
    let same : (k : ℕ) → tree.get nat_cmp c.settle.new.homes k ≡ tree.get nat_cmp c.self.inside.homes k = λ k. ap (λ es. lookup (is_at (nat_cmp k)) es) c.in-Err.ensures.err in
    record {
      sound =
          sound_stays g.C.Kept.size c.self.inside.homes c.settle.new.homes c.self.inside.next c.self.inside.floor c.args.by.place _ c.self.invariant.sound
          (subst (λ h. h.next ≤ c.args.by.place) (sym c.self.view_is) c.requires.later)
          (λ k n. same k);
      indexed = c.self.invariant.indexed;
      housed = housed_equal c.self.inside.homes c.settle.new.homes (map piece c.self.inside.parts.items) same c.self.invariant.housed;
    }

pub invariant_of-self-in-Ok : goal.invariant_of-self-in-Ok
invariant_of-self-in-Ok g c =
    let written = c.in_default-settle.ensures.ok in
    let old = map piece c.self.inside.parts.items in
    let located = subst (λ l. Locates (test (proc_of c.args.p.now)) l c.locate-found.result) c.as_slice.ensures.value c.locate-found.ensures in
    let part = c.unwrap_or-part.ensures ∙ ap (unwrap_or c.locate-found.result) (c.len.ensures ∙ sym c.as_slice.ensures.len ∙ ap length c.as_slice.ensures.value) ∙ sym (index_is c.args.p.now c.self.inside.parts.items c.locate-found.result located) in
    subst (λ l. IsWhole g.C.Kept.size l c.settle.new.homes c.add_to.new.index (c.args.by.place + 1) c.self.inside.floor) (sym c.in-Ok.ensures.ok)
    (record {
      sound =
          sound_with g.C.Kept.size c.self.inside.homes c.settle.new.homes c.self.inside.next c.self.inside.floor c.args.by c.args.p.now c.args.clause old c.self.invariant.sound
          (subst (λ h. h.next ≤ c.args.by.place) (sym c.self.view_is) c.requires.later)
          (λ k n. written.2 k n)
          (written.1 ∙ ap₂ (λ i n. Some (record { part = i; cells = n })) part c.cells-need.ensures);
      indexed = subst (λ l. Indexed c.add_to.new.index (names l)) c.in-Ok.ensures.ok c.add_to.ensures.indexed;
      housed = housed_with c.self.inside.homes c.settle.new.homes c.args.by c.args.p.now c.args.clause old (λ k n. written.2 k n) c.self.invariant.housed;
    })

pub invariant_of-self-in-Err-add_to : goal.invariant_of-self-in-Err-add_to
invariant_of-self-in-Err-add_to g c =
    let written = c.in_default-settle.ensures.ok in
    let forgotten = c.unsettle.ensures in
    let same : (k : ℕ) → is_at (nat_cmp c.args.by.place) k ≡ false → tree.get nat_cmp c.unsettle.new.homes k ≡ tree.get nat_cmp c.self.inside.homes k = λ k n. forgotten.2 k n ∙ written.2 k n in
    subst (λ l. IsWhole g.C.Kept.size (map piece l) c.unsettle.new.homes c.add_to.new.index c.self.inside.next c.self.inside.floor) (sym c.in-Err-add_to.ensures.err.1)
    (record {
      sound =
          sound_stays g.C.Kept.size c.self.inside.homes c.unsettle.new.homes c.self.inside.next c.self.inside.floor c.args.by.place (map piece c.self.inside.parts.items) c.self.invariant.sound
          (subst (λ h. h.next ≤ c.args.by.place) (sym c.self.view_is) c.requires.later)
          same;
      indexed = subst (λ l. Indexed c.add_to.new.index (names (map piece l))) c.in-Err-add_to.ensures.err.1 c.add_to.ensures.indexed;
      housed = housed_gone c.self.inside.homes c.unsettle.new.homes c.args.by.place (map piece c.self.inside.parts.items) forgotten.1 same c.self.invariant.housed;
    })
