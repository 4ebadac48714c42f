use Rattle.std.proofs.Common.{◌≡◌, ℕ, sym, ap, ◌∙◌, subst, inr, arith, Some, replicate}
use Rattle.atom_words.specs.Views.{uncounted, first_view, without_collector}
use Rattle.atom_words.specs.Seats.{seen}
use Rattle.atom_words.specs.declared.size.Size.{Size}
use Rattle.atom_words.specs.declared.view.View.{View}
use Rattle.atom_words.specs.declared.words.Words.{Words}
use Rattle.atom_words.specs.declared.words.AtomSeat.{AtomSeat}
use Rattle.atom_table.specs.Opening.{Low, Source}
use Rattle.atom_table.proofs.Settling.{first_left, collector_sits, source_raised, source_left, part_sits}
use Rattle.atom_table.proofs.table.AtomTable.new_at.Goals as goal

-- THE FIXED ATOMS ARE PLACED
pub place_all-requires-clause-sits : goal.place_all-requires-clause-sits
place_all-requires-clause-sits c = let p = c.part_collector-collector in let o = c.in_ok-words in first_left o.words o.first p.new.seat c.table_size-size.result o.ensures.0 o.ensures.1 o.ensures.2 p.ensures.same p.ensures.left

pub place_all-requires-clause-none : goal.place_all-requires-clause-none
place_all-requires-clause-none c = ap (λ (y : View). y.held) c.part_collector-collector.ensures.left ∙ ap (λ (y : View). y.held) c.in_ok-words.ensures.2

pub place_all-requires-clause-walking : goal.place_all-requires-clause-walking
place_all-requires-clause-walking c = let l = c.part_collector-collector.ensures.left in
    let undealt : (seen c.part_collector-collector.new.seat).undealt ≡ c.args.engines = ap (λ (y : View). y.undealt) l ∙ (ap (λ (y : View). y.undealt) c.in_ok-words.ensures.2 ∙ c.table_size-size.ensures.size.1) in let some_ = c.requires.engines.0 in
    (inr (omega arith), ap (λ (y : View). y.sweep) l)

-- THE VERSIONS ARE RAISED
pub raise_all-requires-clause-fits : goal.raise_all-requires-clause-fits
raise_all-requires-clause-fits c = c.in_ok-place_all.ensures.sits.0

pub raise_all-requires-clause-first : goal.raise_all-requires-clause-first
raise_all-requires-clause-first c = let undealt : (seen c.place_all.new.seat).undealt ≡ c.args.engines = c.in_ok-place_all.ensures.stays.undealt ∙ (ap (λ (y : View). y.undealt) c.part_collector-collector.ensures.left ∙ (ap (λ (y : View). y.undealt) c.in_ok-words.ensures.2 ∙ c.table_size-size.ensures.size.1)) in let some_ = c.requires.engines.0 in omega arith

pub raise_all-requires-clause-none : goal.raise_all-requires-clause-none
raise_all-requires-clause-none c = c.in_ok-place_all.ensures.stays.risen ∙ (ap (λ (y : View). y.risen) c.part_collector-collector.ensures.left ∙ ap (λ (y : View). y.risen) c.in_ok-words.ensures.2)

pub fix-requires-clause-fits : goal.fix-requires-clause-fits
fix-requires-clause-fits c = let sits = c.in_ok-place_all.ensures.sits in let u = c.raise_all.ensures.unchanged.2 in (c.raise_all.ensures.same.0 ∙ sits.0.0, ap (λ (y : View). y.size) u ∙ sits.0.1, ap (λ (y : View). y.gone) u ∙ sits.0.2)

pub fix-requires-clause-low : goal.fix-requires-clause-low
fix-requires-clause-low c = subst Low (sym c.raise_all.ensures.unchanged.2) c.in_ok-place_all.ensures.held.1

-- THE SEATS ARE CUT OFF
pub deal_all-requires : goal.deal_all-requires
deal_all-requires c = let words : Words = c.in_ok-words.words in let n : ℕ = c.args.engines in let h : AtomSeat = c.part_collector-collector.new.seat in let p : AtomSeat = c.place_all.new.seat in let x : AtomSeat = c.raise_all.new.seat in let f : AtomSeat = c.fix.new.seat in let g : AtomSeat = c.part_keeper-keeper.new.seat in
    let e : seen h ≡ without_collector (first_view c.table_size-size.result) = c.part_collector-collector.ensures.left ∙ ap without_collector c.in_ok-words.ensures.2 in let q = c.in_ok-place_all.ensures in
    let src : Source words n f = source_raised words n p x f c.raise_all.ensures.same c.raise_all.ensures.unchanged c.in_ok-raise_all.ensures.risen c.fix.ensures.same c.fix.ensures.steps q.sits (q.stays.fixed ∙ ap (λ (y : View). y.fixed) e) q.held.0
    (q.stays.undealt ∙ (ap (λ (y : View). y.undealt) e ∙ c.table_size-size.ensures.size.1)) (q.stays.sweep ∙ ap (λ (y : View). y.sweep) e) in
    source_left words n f g c.part_keeper-keeper.ensures.same c.part_keeper-keeper.ensures.left src

pub returns-clause-keeper : goal.returns-clause-keeper
returns-clause-keeper c = let words : Words = c.in_ok-words.words in let n : ℕ = c.args.engines in let h : AtomSeat = c.part_collector-collector.new.seat in let p : AtomSeat = c.place_all.new.seat in let x : AtomSeat = c.raise_all.new.seat in let f : AtomSeat = c.fix.new.seat in let k : AtomSeat = c.part_keeper-keeper.result in
    let e : seen h ≡ without_collector (first_view c.table_size-size.result) = c.part_collector-collector.ensures.left ∙ ap without_collector c.in_ok-words.ensures.2 in let q = c.in_ok-place_all.ensures in let u = c.raise_all.ensures.unchanged.2 in
    let src : Source words n f = source_raised words n p x f c.raise_all.ensures.same c.raise_all.ensures.unchanged c.in_ok-raise_all.ensures.risen c.fix.ensures.same c.fix.ensures.steps q.sits (q.stays.fixed ∙ ap (λ (y : View). y.fixed) e) q.held.0
    (q.stays.undealt ∙ (ap (λ (y : View). y.undealt) e ∙ c.table_size-size.ensures.size.1)) (q.stays.sweep ∙ ap (λ (y : View). y.sweep) e) in
    let r = c.part_keeper-keeper.ensures.right in
    let counts : (seen k).counts ≡ Some (replicate c.table_size-size.result.slots uncounted) = ap (λ (y : View). y.counts) r.1 ∙ (ap (λ (y : View). y.counts) c.fix.ensures.steps ∙ (ap (λ (y : View). y.counts) u ∙ (q.stays.counts ∙ ap (λ (y : View). y.counts) e))) in
    let slots : (seen k).size ≡ c.table_size-size.result = ap (λ (y : View). y.size) r.1 ∙ (ap (λ (y : View). y.size) c.fix.ensures.steps ∙ (ap (λ (y : View). y.size) u ∙ (q.stays.size ∙ ap (λ (y : View). y.size) e))) in (
      part_sits words n f k r.0 (ap (λ (y : View). y.size) r.1) (ap (λ (y : View). y.gone) r.1) (ap (λ (y : View). y.own) r.1) (ap (λ (y : View). y.held) r.1) (ap (λ (y : View). y.fixed) r.1) (λ cs is. sym (ap (λ (y : View). y.counts) r.1) ∙ is) src,
      (
        counts ∙ ap (λ (z : Size). Some (replicate z.slots uncounted)) (sym slots),
        ap (λ (y : View). y.held) r.1,
        ap (λ (y : View). y.fixed) r.1 ∙ src.fixed,
      ),
    )

pub returns-clause-collector : goal.returns-clause-collector
returns-clause-collector c = let o = c.in_ok-words in let r = c.part_collector-collector.ensures.right in collector_sits o.words o.first c.part_collector-collector.result c.table_size-size.result o.ensures.0 r.0 o.ensures.2 r.1

pub returns-clause-versions : goal.returns-clause-versions
returns-clause-versions c = ap (λ (y : View). y.risen) c.part_keeper-keeper.ensures.right.1 ∙ (ap (λ (y : View). y.risen) c.fix.ensures.steps ∙ c.in_ok-raise_all.ensures.risen)
