use Rattle.std.proofs.Common.{◌≡◌, ◌<◌, set, Some, sym, subst, ◌∙◌}
use Rattle.term_store.specs.Heap.{pushed}
use Rattle.term_store.specs.Fit.{Fit, IsCache}
use Rattle.term_store.specs.Cells.{heap_of}
use Rattle.term_store.specs.Frontiers.{IsClosed}
use Rattle.term_store.specs.GroundTerms.{AreGroundTerms}
use Rattle.term_store.specs.Shorts.{BondList}
use Rattle.term_store.proofs.Binding.{fit_pushed, cache_pushed}
use Rattle.term_store.proofs.Closing.{closed_passed}
use Rattle.term_store.proofs.Settling.{settled_pushed}
use Rattle.term_store.proofs.bind.bind.Goals as goal

pub bind-requires-clause-slot : goal.bind-requires-clause-slot
bind-requires-clause-slot c = subst (λ n. c.args.slot < n) (sym c.requires.fit.cache.long) c.requires.slot

pub returns-in_err-bind-clause-fit : goal.returns-in_err-bind-clause-fit
returns-in_err-bind-clause-fit c =
    let h = heap_of c.args.cells.now in
    let r = c.requires in
    let e : c.bind.new.self ≡ c.args.cells.now.bonds = c.in_err-bind.ensures.kept in
    record {
      fit = subst (λ (b : BondList). Fit (record h { trail = b.items })) (sym e) r.fit.fit;
      cache = subst (λ (b : BondList). IsCache b.values (record h { trail = b.items })) (sym e) r.fit.cache;
      marks = record { long = r.fit.marks.long; parts = r.fit.marks.parts };
      settled = subst (λ (b : BondList). AreGroundTerms c.args.cells.now.settled.list.items (record h { trail = b.items })) (sym e) r.fit.settled;
      closed = subst (λ (b : BondList). IsClosed c.args.cells.now.frontier (record h { trail = b.items })) (sym e) r.fit.closed;
    }

pub returns-clause-fit : goal.returns-clause-fit
returns-clause-fit c =
    let h = heap_of c.args.cells.now in
    let old = c.args.cells.now.bonds in
    let new = c.bind.new.self in
    let e : new.items ≡ (pushed h c.args.slot c.args.word).trail = c.in_ok-bind.ensures.items in
    let r = c.requires in
    record {
      fit = subst (λ t. Fit (record h { trail = t })) (sym e) (fit_pushed h c.args.slot c.args.word r.fit.fit r.slot r.free r.below r.inside r.absent);
      cache =
          subst (λ vs. IsCache vs (record h { trail = new.items })) (sym c.in_ok-bind.ensures.values)
          (subst (λ t. IsCache (set old.values c.args.slot (Some c.args.word)) (record h { trail = t })) (sym e)
          (cache_pushed old.values h c.args.slot c.args.word r.fit.cache r.slot r.free));
      marks = record { long = r.fit.marks.long; parts = r.fit.marks.parts };
      settled =
          subst (λ t. AreGroundTerms c.args.cells.now.settled.list.items (record h { trail = t })) (sym e)
          (settled_pushed c.args.cells.now.settled.list.items h c.args.slot c.args.word r.fit.settled);
      closed =
          subst (λ t. IsClosed c.pass_word.new.self (record h { trail = t })) (sym e)
          (closed_passed c.args.cells.now.frontier c.pass_word.new.self h c.args.slot c.args.word c.len-slots.result c.len-heads.result
          (c.len-slots.ensures ∙ c.args.cells.now.numbers.ok.0) (c.len-heads.ensures ∙ c.args.cells.now.heads.ok.0)
          (fit_pushed h c.args.slot c.args.word r.fit.fit r.slot r.free r.below r.inside r.absent) c.pass_word.ensures r.fit.closed);
    }
