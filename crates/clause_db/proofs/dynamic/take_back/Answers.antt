use Rattle.std.proofs.Common.{◌≡◌, ◌≤◌, ◌∷◌, [], ◌++◌, ◌+◌, ◌&&◌, ℕ, not, length, map, take, ap, sym, subst, ◌∙◌, arith, length-append}
use Rattle.std.specs.Prelude.{◌==◌}
use Rattle.clause_db.specs.Index.{Indexed, is_listed}
use Rattle.clause_db.specs.Parts.{piece}
use Rattle.clause_db.specs.Sound.{names}
use Rattle.clause_db.proofs.Indexing.{parts_pop, take_last, take_whole}
use Rattle.clause_db.proofs.dynamic.take_back.Goals as goal

pub loop-parts-preserved-in-Some : goal.loop-parts-preserved-in-Some
loop-parts-preserved-in-Some g c =
    let x = c.in-Some.part in
    let here = c.loop-parts.parts.items in
    let rest = c.pop.new.self.items in
    let e : here ≡ rest ++ x ∷ [] = c.in-Some.ensures.items in
    let longer : length here ≡ length rest + 1 = ap length e ∙ length-append rest (x ∷ []) in
    let within : c.args.stood ≤ length rest = omega (arith, c.loop-parts-test.true, c.len.ensures, c.loop-parts.parts.ok.0, longer) in
    let Taken : ℕ → Type 0 = λ n. (k q : ℕ) → is_listed c.remove.new.self k q ≡ (not ((k == c.hash_of.result) && (q == n)) && is_listed c.loop-parts.index k q) in
    record {
      left = sym (ap (λ l. take c.args.stood (map piece l)) e ∙ take_last c.args.stood rest x within) ∙ c.loop-parts.invariant.left;
      indexed =
          parts_pop c.loop-parts.index c.remove.new.self rest x c.hash_of.result c.hash_of.ensures (subst Taken (c.len-in-Some.ensures ∙ c.pop.new.self.ok.0) c.remove.ensures)
          (subst (λ l. Indexed c.loop-parts.index (names (map piece l))) e c.loop-parts.invariant.indexed);
    }

pub returns-clause-left : goal.returns-clause-left
returns-clause-left g c =
    sym (take_whole c.args.stood c.loop-parts.parts.items (omega (arith, c.loop-parts-test.false, c.len.ensures, c.loop-parts.parts.ok.0))) ∙ c.loop-parts.invariant.left
