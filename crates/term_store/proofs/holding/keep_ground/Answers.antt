use Rattle.std.proofs.Common.{◌≡◌, ◌<◌, ℕ, [], ◌∷◌, ◌++◌, false, length, sym, ap, ap₂, subst, ◌∙◌}
use Rattle.pl_term.specs.Variables.{has}
use Rattle.term_store.specs.declared.words.Word.TheVariants.{Comp}
use Rattle.term_store.specs.Cells.{heap_of}
use Rattle.term_store.specs.Fit.{IsIn}
use Rattle.term_store.specs.GroundTerms.{AreGroundTerms}
use Rattle.term_store.specs.Heap.{meaning}
use Rattle.term_store.proofs.Settling.{settled_added}
use Rattle.term_store.proofs.holding.keep_ground.Goals as goal

pub returns-in_err-add-clause-fit : goal.returns-in_err-add-clause-fit
returns-in_err-add-clause-fit c =
    let r = c.requires in
    record {
      fit = r.fit.fit;
      cache = r.fit.cache;
      marks = r.fit.marks;
      settled = subst (λ gs. AreGroundTerms gs (heap_of c.args.cells.now)) (sym c.in_err-add.ensures.kept) r.fit.settled;
      closed = r.fit.closed;
    }

pub returns-clause-fit : goal.returns-clause-fit
returns-clause-fit c =
    let h = heap_of c.args.cells.now in
    let r = c.requires in
    let k = c.in-Comp.k in
    let gs = c.args.cells.now.settled.list.items in
    let absent : (x : ℕ) → has x (meaning h (Comp k)) ≡ false =
    λ x. ap (λ w. has x (meaning h w)) (sym c.in-Comp.is) ∙ ap (has x) c.deref.ensures.means ∙ r.ground x in
    let inside : k < length h.heads = subst (IsIn h) c.in-Comp.is c.deref.ensures.inside in
    let e : c.add.new.self.list.items ≡ gs ++ record { term = k; heads = length h.heads; bindings = length h.trail } ∷ [] =
    c.in_ok-add.ensures.ok
    ∙ ap₂ (λ (m n : ℕ). gs ++ record { term = k; heads = m; bindings = n } ∷ []) (c.len-heads.ensures ∙ c.args.cells.now.heads.ok.0) c.len-bindings.ensures in
    record { fit = r.fit.fit; cache = r.fit.cache; marks = r.fit.marks; settled = settled_added gs c.add.new.self.list.items h k r.fit.settled e inside absent; closed = r.fit.closed }
