use Rattle.std.proofs.Common.{◌≡◌, ◌<◌, ◌+◌, [], ◌∷◌, ◌++◌, length, set, None, Some, sym, ap, subst, ◌∙◌, arith, length-append}
use Rattle.std.specs.List.{All}
use Rattle.std.proofs.Math.ListN.{length-set}
use Rattle.std.proofs.lemmas.List.Elements.{All-pop, All-weaker}
use Rattle.term_store.specs.Fit.{Cached, OnceFrom}
use Rattle.term_store.specs.Shorts.{last_bond}
use Rattle.term_store.proofs.Unbinding.{OnceFrom-last, Cached-popped, taken_popped}
use Rattle.term_store.proofs.undo.unbind.Goals as goal

pub loop-bonds-preserved : goal.loop-bonds-preserved
loop-bonds-preserved c =
    let inv = c.loop-bonds.invariant in
    let bs = c.loop-bonds.bonds.items in
    let cs = c.undo_last.new.self.items in
    let b = last_bond bs in
    let values = c.loop-bonds.bonds.values in
    let e : bs ≡ cs ++ b ∷ [] = c.undo_last.ensures.split in
    let longer : length bs ≡ length cs + 1 = ap length e ∙ length-append cs (b ∷ []) in
    let last = OnceFrom-last [] cs b (subst (λ l. OnceFrom [] l) e inv.once) in
    let all = All-pop (λ d. d.slot < length values) bs cs (Some b) e inv.slots in
    let kept = inv.keeps in
    let within = inv.within in
    record {
      keeps = omega (arith, c.loop-bonds-test.true, c.len.ensures);
      within = omega arith;
      taken = taken_popped c.args.bonds.now.items bs cs b e inv.taken;
      long = ap length c.undo_last.ensures.values ∙ length-set values b.slot None ∙ inv.long;
      slots =
          subst (λ vs. All (λ d. d.slot < length vs) cs) (sym c.undo_last.ensures.values)
          (All-weaker (λ d. d.slot < length values) (λ d. d.slot < length (set values b.slot None)) (λ d lt. subst (λ n. d.slot < n) (sym (length-set values b.slot None)) lt) cs all.0);
      once = last.1;
      cached = subst (λ vs. Cached vs cs) (sym c.undo_last.ensures.values) (Cached-popped values cs b (subst (λ l. Cached values l) e inv.cached) last.0);
    }
