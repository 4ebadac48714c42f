use Rattle.std.proofs.Common.{◌≡◌, ◌<◌, ℕ, None, false, true, map, max, length, sym, subst}
use Rattle.std.specs.Prelude.{◌==◌}
use Rattle.std.specs.List.{list_any}
use Rattle.std.specs.Ordering.{nat_cmp}
use Rattle.std.specs.BTreeMap as tree
use Rattle.clause_db.specs.Index.{Indexed}
use Rattle.clause_db.specs.Parts.{piece}
use Rattle.clause_db.specs.Reclaimed.{reclaimed_at}
use Rattle.clause_db.specs.Sound.{IsWhole}
use Rattle.clause_db.proofs.Housing.{housed_dropped}
use Rattle.clause_db.proofs.Reclaiming.{names_reclaimed, sound_dropped}
use Rattle.clause_db.proofs.db.Db.reclaim_in.Goals as goal

pub invariant_of-self : goal.invariant_of-self
invariant_of-self g c =
    let old = map piece c.self.inside.parts.items in
    let new = reclaimed_at c.args.i c.args.floor old in
    let homes = c.unsettle_all.new.homes in
    let index = c.self.inside.index in
    let within = subst (λ h. c.args.i < length h.parts) (sym c.self.view_is) c.requires in
    let stay = subst (λ ps. (k : ℕ) → list_any (λ q. q == k) ps ≡ false → tree.get nat_cmp homes k ≡ tree.get nat_cmp c.self.inside.homes k) c.as_slice.ensures.value c.unsettle_all.ensures.stay in
    let gone = subst (λ ps. (k : ℕ) → list_any (λ q. q == k) ps ≡ true → tree.get nat_cmp homes k ≡ None) c.as_slice.ensures.value c.unsettle_all.ensures.gone in
    let places = c.in-Ok.dropped.places.items in
    let clauses = c.in-Ok.dropped.clauses.items in
    subst (λ l. IsWhole g.C.Kept.size l homes index c.max-self-inside.result c.max-self-inside-in-Ok.result) (sym c.in-Ok.ensures.ok)
    (subst (λ n. IsWhole g.C.Kept.size new homes index n c.max-self-inside-in-Ok.result) (sym c.max-self-inside.ensures)
    (subst (λ n. IsWhole g.C.Kept.size new homes index (max c.self.inside.next c.args.floor) n) (sym c.max-self-inside-in-Ok.ensures)
    (record {
      sound = sound_dropped g.C.Kept.size c.self.inside.homes homes c.self.inside.next c.self.inside.floor c.args.floor c.args.i old places clauses within c.in-Ok.ensures.dropped stay c.self.invariant.sound;
      indexed = subst (Indexed index) (sym (names_reclaimed c.args.i c.args.floor old)) c.self.invariant.indexed;
      housed = housed_dropped c.self.inside.homes homes c.args.floor c.args.i old places clauses within c.in-Ok.ensures.dropped stay gone c.self.invariant.housed;
    })))
