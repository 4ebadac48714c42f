-- What an erasure answers, beside what it would answer in the databases of the definitions.
use Rattle.std.proofs.Common.{◌≡◌, ◌+◌, ◌-◌, ◌≤◌, ℕ, map, None, Some, Bool, true, false, ap, sym, subst, ◌∙◌, arith}
use Rattle.std.specs.List.{slice_get}
use Rattle.std.specs.Option.{option_map_or}
use Rattle.std.specs.Ordering.{nat_cmp}
use Rattle.std.specs.BTreeMap as tree
use Rattle.std.specs.BTreeMap.{BTreeMap}
use Rattle.std.proofs.lemmas.List.Elements.{All-map, All-weaker}
use Rattle.pl_model.specs.Database.{Database, is_at, is_there, without_clause}
use Rattle.clause_db.specs.declared.db.Home.{Home}
use Rattle.clause_db.specs.Parts.{Held, Piece, without_place, has_live, erased_held}
use Rattle.clause_db.specs.Sound.{Homed, Apart, names}
use Rattle.clause_db.specs.Stands.{StandsFor, LivedBelow, then_at}
use Rattle.clause_db.proofs.Erasing.{at_without, no_home_there, was_there, all_without, stands_erased}
use Rattle.clause_db.proofs.Lives.{lived_more}
use Rattle.clause_db.proofs.Updating.{view_erased, updated}

module _ {C : Type 0} (j k : ℕ) (need : C → ℕ) (h : Held C) (d : ℕ → Database C) (s : StandsFor need h d) (l : h.next ≤ k) (homes : BTreeMap ℕ Home) (homed : Homed need homes 0 h.parts) where
  pub none_there : tree.get nat_cmp homes j ≡ None → false ≡ is_there j (d k)
  none_there none = no_home_there j k need h (d h.next) s.newest homes homed none ∙ ap (is_there j) (sym (s.rests k l))

  module _ (apart : Apart (names h.parts)) (home : Home) (at : tree.get nat_cmp homes j ≡ Some home) where
    pub there_is : option_map_or (λ (x : Piece C). has_live j x.clauses) (slice_get h.parts home.part) false ≡ is_there j (d k)
    there_is = was_there j k need h (d h.next) s.newest homes homed apart home at ∙ ap (is_there j) (sym (s.rests k l))

    low : h.floor ≤ k
    low = let m = s.low in omega (arith, m, l)

    pub erased_stands : (new : Held C) (b : Bool) → b ≡ option_map_or (λ (x : Piece C). has_live j x.clauses) (slice_get h.parts home.part) false
        → (b ≡ true → new ≡ erased_held home.part j k home.cells h) → b ≡ true → StandsFor need new (then_at k (without_clause j k) d)
    erased_stands new b was is hit =
        subst (λ n. StandsFor need n (then_at k (without_clause j k) d))
        (sym (is hit ∙ ap (λ l. record h { parts = l; used = h.used - home.cells; next = k + 1 }) (all_without j k need h (d h.next) s.newest homes homed apart home at)))
        (updated need h d s k l (without_clause j k) (map (without_place j k) h.parts) (h.used - home.cells) h.flags h.operators
        (stands_erased j k need h (d h.next) s.newest homes homed home at (sym (was_there j k need h (d h.next) s.newest homes homed apart home at) ∙ sym was ∙ hit) l low)
        (λ g m q. at_without j k g h.parts q)
        (λ g m q. view_erased (is_at j) k g q (d h.next).clauses m)
        (All-map (LivedBelow (k + 1)) (without_place j k) h.parts (All-weaker (LivedBelow h.next) (λ (x : Piece C). LivedBelow (k + 1) (without_place j k x)) (λ x m. lived_more h.next k l x m) h.parts s.lived)))
