use Rattle.std.proofs.Common.{◌++◌, ◌∷◌, [], sym, subst, ◌∙◌}
use Rattle.std.specs.List.{All}
use Rattle.builtin_term.specs.Pending.{IsCompared, IsPairAt, pending_order}
use Rattle.builtin_term.proofs.Comparing.{course_leaves}
use Rattle.builtin_term.proofs.Seeing.{equal_from_not_ne}
use Rattle.builtin_term.proofs.Stacking.{goes_on, settled, turned}
use Rattle.builtin_term.proofs.order.compare_pending.Goals as goal

pub compare_here-requires-clause-course : goal.compare_here-requires-clause-course
compare_here-requires-clause-course g c =
    let m = g.A.Atoms.held c.args.atoms.now in
    let s = c.args.store.now in
    let old = c.loop.pending in
    let new = record old { course = c.leave.new.self } in
    subst (λ k. IsCompared k s (c.pop.new.self.items ++ c.in-Some.pair ∷ []) (record new { pairs = c.pop.new.self })) (sym c.loop.invariant.same)
    (subst (λ ps. IsCompared m s ps (record new { pairs = c.pop.new.self })) c.in-Some.ensures.items
    (course_leaves m s c.len.result old new c.len.ensures.value c.in_ok-leave.ensures c.loop.invariant.course))

pub returns-then-is_ne-clause-order : goal.returns-then-is_ne-clause-order
returns-then-is_ne-clause-order g c =
    let m = g.A.Atoms.held c.args.atoms.now in
    let s = c.args.store.now in
    settled c.in_ok-here.here (pending_order m s c.compare_here.new.pending.pairs.items) (pending_order m s c.args.pending.now.pairs.items)
    (sym c.if-is_ne.ensures)
    (turned m (g.A.Atoms.held c.loop.atoms) s c.loop.pending.pairs.items c.pop.new.self.items c.compare_here.new.pending.pairs.items c.in-Some.pair
    c.in_ok-here.here (pending_order m s c.args.pending.now.pairs.items) c.loop.invariant.same c.in-Some.ensures.items c.loop.invariant.order
    c.in_ok-here.ensures.order)

pub loop-preserved : goal.loop-preserved
loop-preserved g c =
    let m = g.A.Atoms.held c.args.atoms.now in
    let s = c.args.store.now in
    let new = c.compare_here.new.pending in
    record {
      pairs = subst (λ k. All (IsPairAt k s) new.pairs.items) c.loop.invariant.same c.in_ok-here.ensures.pairs;
      order =
          goes_on c.in_ok-here.here (pending_order m s new.pairs.items) (pending_order m s c.args.pending.now.pairs.items) (sym c.if-is_ne.ensures)
          (turned m (g.A.Atoms.held c.loop.atoms) s c.loop.pending.pairs.items c.pop.new.self.items new.pairs.items c.in-Some.pair
          c.in_ok-here.here (pending_order m s c.args.pending.now.pairs.items) c.loop.invariant.same c.in-Some.ensures.items c.loop.invariant.order
          c.in_ok-here.ensures.order);
      course =
          subst (λ k. IsCompared k s new.pairs.items new) c.loop.invariant.same
          (c.in_ok-here.ensures.course (equal_from_not_ne c.in_ok-here.here (sym c.if-is_ne.ensures)));
      same = c.in_ok-here.ensures.same ∙ c.loop.invariant.same;
      refusals = c.in_ok-here.ensures.refusals ∙ c.loop.invariant.refusals;
      asked = c.in_ok-here.ensures.asked ∙ c.loop.invariant.asked;
    }
