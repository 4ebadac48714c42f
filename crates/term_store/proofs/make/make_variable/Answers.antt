use Rattle.std.proofs.Common.{◌<◌, ◌++◌, ◌∷◌, [], length, refl, sym, subst, ◌∙◌}
use Rattle.std.specs.List.{All}
use Rattle.std.proofs.lemmas.List.Elements.{All-weaker}
use Rattle.term_store.specs.Cells.{heap_of}
use Rattle.term_store.specs.Fit.{Fit, IsBond, IsCache}
use Rattle.term_store.specs.Frontiers.{IsClosed}
use Rattle.term_store.specs.GroundTerms.{AreGroundTerms}
use Rattle.term_store.specs.Making.{with_number}
use Rattle.term_store.proofs.Closing.{closed_longer}
use Rattle.term_store.proofs.Growing.{fit_number, cache_number}
use Rattle.term_store.proofs.Loading.{longer_numbers}
use Rattle.term_store.proofs.Settling.{settled_longer}
use Rattle.term_store.proofs.make.make_variable.Goals as goal

pub returns-in_err-add-clause-fit : goal.returns-in_err-add-clause-fit
returns-in_err-add-clause-fit c =
    let h = heap_of c.args.cells.now in
    let r = c.requires in
    record {
      fit = subst (λ bs. Fit (record h { trail = bs })) (sym c.add.ensures.items) r.fit.fit;
      cache =
          subst (λ bs. IsCache c.add.new.self.values (record h { trail = bs })) (sym c.add.ensures.items)
          (subst (λ vs. IsCache vs h) (sym c.in_err-add.ensures.kept) r.fit.cache);
      marks = record { long = r.fit.marks.long; parts = r.fit.marks.parts };
      settled = subst (λ bs. AreGroundTerms c.args.cells.now.settled.list.items (record h { trail = bs })) (sym c.add.ensures.items) r.fit.settled;
      closed = subst (λ bs. IsClosed c.args.cells.now.frontier (record h { trail = bs })) (sym c.add.ensures.items) r.fit.closed;
    }

pub keep_first-requires : goal.keep_first-requires
keep_first-requires c =
    let h = heap_of c.args.cells.now in
    subst (λ n. All (λ b. b.slot < n) c.add.new.self.items) (sym (c.len-slot.ensures ∙ c.args.cells.now.numbers.ok.0))
    (subst (All (λ b. b.slot < length h.numbers)) (sym c.add.ensures.items)
    (All-weaker (IsBond (length h.numbers) (length h.heads)) (λ b. b.slot < length h.numbers) (λ b fits. fits.slot) h.trail c.requires.fit.fit.bonds))

pub returns-in-Ok-clause-fit : goal.returns-in-Ok-clause-fit
returns-in-Ok-clause-fit c =
    let h = heap_of c.args.cells.now in
    let r = c.requires in
    record {
      fit =
          subst (λ bs. Fit (record h { numbers = c.push_one.new.list.items; trail = bs })) (sym c.add.ensures.items)
          (subst (λ ns. Fit (record h { numbers = ns })) (sym c.in-Ok.ensures.items) (fit_number h c.args.number r.fit.fit r.above));
      cache =
          subst (λ bs. IsCache c.add.new.self.values (record h { numbers = c.push_one.new.list.items; trail = bs })) (sym c.add.ensures.items)
          (subst (λ ns. IsCache c.add.new.self.values (record h { numbers = ns })) (sym c.in-Ok.ensures.items)
          (subst (λ vs. IsCache vs (record h { numbers = h.numbers ++ c.args.number ∷ [] })) (sym c.in_ok-add.ensures.values)
          (cache_number c.args.cells.now.bonds.values h c.args.number r.fit.cache r.fit.fit)));
      marks = record { long = r.fit.marks.long; parts = r.fit.marks.parts };
      settled =
          subst (λ bs. AreGroundTerms c.args.cells.now.settled.list.items (record h { numbers = c.push_one.new.list.items; trail = bs })) (sym c.add.ensures.items)
          (subst (λ ns. AreGroundTerms c.args.cells.now.settled.list.items (record h { numbers = ns })) (sym c.in-Ok.ensures.items)
          (settled_longer c.args.cells.now.settled.list.items h (with_number h c.args.number) r.fit.fit
          (longer_numbers h (with_number h c.args.number) (c.args.number ∷ []) refl) r.fit.settled));
      closed =
          subst (λ bs. IsClosed c.args.cells.now.frontier (record h { numbers = c.push_one.new.list.items; trail = bs })) (sym c.add.ensures.items)
          (subst (λ ns. IsClosed c.args.cells.now.frontier (record h { numbers = ns })) (sym c.in-Ok.ensures.items)
          (closed_longer c.args.cells.now.frontier h (with_number h c.args.number) r.fit.fit
          (longer_numbers h (with_number h c.args.number) (c.args.number ∷ []) refl) r.fit.closed));
    }
