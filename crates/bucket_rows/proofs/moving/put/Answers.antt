use Rattle.std.proofs.Common.{◌≡◌, ◌+◌, ℕ, List, [], ◌∷◌, refl, sym, ap, ◌∙◌, subst, inl, inr, None}
use Rattle.atom_words.specs.Kinds.{starting, after}
use Rattle.atom_words.specs.Seats.{seen}
use Rattle.atom_words.specs.declared.view.Growing.{Growing}
use Rattle.atom_words.specs.declared.view.View.{View}
use Rattle.atom_words.specs.declared.kind.Kind.{Kind}
use Rattle.atom_words.specs.declared.kind.Kind.TheVariants.{Start, MoveHead, MoveLink}
use Rattle.atom_words.proofs.Tied.{same_owns, same_passes}
use Rattle.bucket_rows.specs.Treads.{nexts}
use Rattle.bucket_rows.proofs.RowLaws.{kinds_join}
use Rattle.bucket_rows.proofs.RowViews.{paces_start, put_rows, nexts_rows}
use Rattle.bucket_rows.proofs.RowMoves.{moving_same, picked_same}
use Rattle.bucket_rows.proofs.Treading.{nexts_keep, nexts_tied}
use Rattle.bucket_rows.proofs.Removing.{then_steps}
use Rattle.bucket_rows.proofs.moving.put.Goals as goal

pub trace_into-word-requires-clause-moves : goal.trace_into-word-requires-clause-moves
trace_into-word-requires-clause-moves c = c.requires.moves

-- THE NEW CHAIN IS EMPTY
pub put_first-requires-clause-fits : goal.put_first-requires-clause-fits
put_first-requires-clause-fits c = let t = c.trace_into-word.ensures in let f = c.requires.fits in (t.same.0 ∙ f.0, ap (λ (y : View). y.size) t.steps ∙ f.1, ap (λ (y : View). y.gone) t.steps ∙ f.2)

pub put_first-requires-clause-moves : goal.put_first-requires-clause-moves
put_first-requires-clause-moves c = let t = c.trace_into-word.ensures.steps in moving_same (seen c.args.seat.now) (seen c.trace_into-word.new.seat) (ap (λ (y : View). y.sweep) t) (ap (λ (y : View). y.growing) t) c.requires.moves

pub put_first-requires-clause-walk : goal.put_first-requires-clause-walk
put_first-requires-clause-walk c = let t = c.trace_into-word.ensures in (starting c.args.head c.trace_into-word.result, ap (λ (y : View). y.walk) t.steps, refl, refl, c.if-first-eq0.true, t.closed)

pub put_first-requires-clause-picked : goal.put_first-requires-clause-picked
put_first-requires-clause-picked c = picked_same c.args.slot c.args.head (seen c.args.seat.now) (seen c.trace_into-word.new.seat) (ap (λ (y : View). y.growing) c.trace_into-word.ensures.steps) c.requires.picked

pub returns-then-first-eq0-clause-same : goal.returns-then-first-eq0-clause-same
returns-then-first-eq0-clause-same c = let t = c.trace_into-word.ensures.same in let e = c.put_first.ensures.same in (e.0 ∙ t.0, e.1 ∙ t.1)

pub returns-then-first-eq0-clause-fits : goal.returns-then-first-eq0-clause-fits
returns-then-first-eq0-clause-fits c = let t = c.trace_into-word.ensures in let e = c.put_first.ensures in let f = c.requires.fits in
    (e.same.0 ∙ (t.same.0 ∙ f.0), ap (λ (y : View). y.size) e.steps ∙ (ap (λ (y : View). y.size) t.steps ∙ f.1), ap (λ (y : View). y.gone) e.steps ∙ (ap (λ (y : View). y.gone) t.steps ∙ f.2))

pub returns-then-first-eq0-clause-steps : goal.returns-then-first-eq0-clause-steps
returns-then-first-eq0-clause-steps c = let v : View = seen c.args.seat.now in let u : View = seen c.trace_into-word.new.seat in let w : View = seen c.put_first.new.seat in let x : ℕ = c.trace_into-word.result in
    (Start c.args.head x ∷ [], MoveHead c.args.head, then_steps v u w (Start c.args.head x ∷ []) (MoveHead c.args.head ∷ []) c.trace_into-word.ensures.steps c.put_first.ensures.steps, (tt, (tt, tt)))

pub returns-then-first-eq0-clause-rows : goal.returns-then-first-eq0-clause-rows
returns-then-first-eq0-clause-rows c = let u : View = seen c.trace_into-word.new.seat in let w : View = seen c.put_first.new.seat in let t = c.trace_into-word.ensures.steps in let p = c.requires.picked in
    (put_rows (MoveHead c.args.head) p.0 u w (inl (c.args.head, refl)) (ap (λ (y : View). y.growing.picked) t ∙ p.1) c.put_first.ensures.steps).0 ∙ ((λ i. record (t i).growing { picked = None; moving = p.2 i + 1 }))

-- THE NEW CHAIN HAS SLOTS
pub walk_out-last-requires-clause-fits : goal.walk_out-last-requires-clause-fits
walk_out-last-requires-clause-fits c = let t = c.trace_into-word.ensures in let f = c.requires.fits in (t.same.0 ∙ f.0, ap (λ (y : View). y.size) t.steps ∙ f.1, ap (λ (y : View). y.gone) t.steps ∙ f.2)

pub walk_out-last-requires-clause-moves : goal.walk_out-last-requires-clause-moves
walk_out-last-requires-clause-moves c = let t = c.trace_into-word.ensures.steps in moving_same (seen c.args.seat.now) (seen c.trace_into-word.new.seat) (ap (λ (y : View). y.sweep) t) (ap (λ (y : View). y.growing) t) c.requires.moves

pub walk_out-last-requires-clause-start : goal.walk_out-last-requires-clause-start
walk_out-last-requires-clause-start c = (paces_start c.args.head c.trace_into-word.result (seen c.args.seat.now) (seen c.trace_into-word.new.seat) c.trace_into-word.ensures.steps, c.if-first-eq0.false)

pub walk_out-last-requires-clause-inside : goal.walk_out-last-requires-clause-inside
walk_out-last-requires-clause-inside c = c.trace_into-word.ensures.inside

pub invariant_of-seat : goal.invariant_of-seat
invariant_of-seat c = let s = c.trace_into-word.new.seat in let v : View = s.seat.me.0 in let w : View = c.walk_out-last.new.seat.me.0 in let e = c.walk_out-last.ensures in let xs : List ℕ = e.steps.0 in let is : w ≡ after v (nexts xs) = e.steps.1 in record {
  slotless = e.same.2 ∙ s.slotless;
  numbered = ap (λ (y : View). y.cycle.engine) is ∙ (nexts_keep (λ (y : View). y.cycle.engine) (λ _ _. refl) v xs ∙ s.numbered);
  acknowledged = ap (λ (y : View). y.cycle.acked) is ∙ (nexts_keep (λ (y : View). y.cycle.acked) (λ _ _. refl) v xs ∙ s.acknowledged);
  owns = same_owns v w s.own (ap (λ (y : View). y.own) is ∙ nexts_keep (λ (y : View). y.own) (λ _ _. refl) v xs) (ap (λ (y : View). y.size) is ∙ nexts_keep (λ (y : View). y.size) (λ _ _. refl) v xs) s.owns;
  walks = subst (λ (y : View). Rattle.atom_words.specs.Ties.WalkTied y s.head s.word) (sym is) (nexts_tied v s.head s.word xs s.walks);
  passes = same_passes v w s.began s.first s.counted (ap (λ (y : View). y.pass) is ∙ nexts_keep (λ (y : View). y.pass) (λ _ _. refl) v xs) s.passes;
}

pub put_behind-requires-clause-fits : goal.put_behind-requires-clause-fits
put_behind-requires-clause-fits c = let t = c.trace_into-word.ensures in let e = c.walk_out-last.ensures in let f = c.requires.fits in let v : View = seen c.trace_into-word.new.seat in let xs : List ℕ = e.steps.0 in (
  e.same.0 ∙ (t.same.0 ∙ f.0),
  ap (λ (y : View). y.size) e.steps.1 ∙ (nexts_keep (λ (y : View). y.size) (λ _ _. refl) v xs ∙ (ap (λ (y : View). y.size) t.steps ∙ f.1)),
  ap (λ (y : View). y.gone) e.steps.1 ∙ (nexts_keep (λ (y : View). y.gone) (λ _ _. refl) v xs ∙ (ap (λ (y : View). y.gone) t.steps ∙ f.2)),
)

pub put_behind-requires-clause-slot : goal.put_behind-requires-clause-slot
put_behind-requires-clause-slot c = (c.requires.slot, c.walk_out-last.ensures.low)

pub put_behind-requires-clause-moves : goal.put_behind-requires-clause-moves
put_behind-requires-clause-moves c = let t = c.trace_into-word.ensures.steps in let v : View = seen c.args.seat.now in let u : View = seen c.trace_into-word.new.seat in let w : View = c.walk_out-last.new.seat.me.0 in let e = c.walk_out-last.ensures.steps in
    moving_same v w (ap (λ (y : View). y.sweep) e.1 ∙ (nexts_keep (λ (y : View). y.sweep) (λ _ _. refl) u e.0 ∙ ap (λ (y : View). y.sweep) t)) (ap (λ (y : View). y.growing) e.1 ∙ (nexts_keep (λ (y : View). y.growing) (λ _ _. refl) u e.0 ∙ ap (λ (y : View). y.growing) t)) c.requires.moves

pub put_behind-requires-clause-picked : goal.put_behind-requires-clause-picked
put_behind-requires-clause-picked c = let t = c.trace_into-word.ensures.steps in let v : View = seen c.args.seat.now in let u : View = seen c.trace_into-word.new.seat in let w : View = c.walk_out-last.new.seat.me.0 in let e = c.walk_out-last.ensures.steps in let k = c.walk_out-last.ensures.stands.1 in
    let q = picked_same c.args.slot c.args.head v w (ap (λ (y : View). y.growing) e.1 ∙ (nexts_keep (λ (y : View). y.growing) (λ _ _. refl) u e.0 ∙ ap (λ (y : View). y.growing) t)) c.requires.picked in
    (q.0, k.walk, q.1, q.2, k.at, q.3 ∙ sym k.head, k.place, k.last_seen)

pub returns-else-first-eq0-clause-same : goal.returns-else-first-eq0-clause-same
returns-else-first-eq0-clause-same c = let t = c.trace_into-word.ensures.same in let w = c.walk_out-last.ensures.same in let e = c.put_behind.ensures.same in (e.0 ∙ (w.0 ∙ t.0), e.1 ∙ (w.1 ∙ t.1))

pub returns-else-first-eq0-clause-fits : goal.returns-else-first-eq0-clause-fits
returns-else-first-eq0-clause-fits c = let t = c.trace_into-word.ensures in let e = c.walk_out-last.ensures in let p = c.put_behind.ensures in let f = c.requires.fits in let v : View = seen c.trace_into-word.new.seat in let xs : List ℕ = e.steps.0 in (
  p.same.0 ∙ (e.same.0 ∙ (t.same.0 ∙ f.0)),
  ap (λ (y : View). y.size) p.steps ∙ (ap (λ (y : View). y.size) e.steps.1 ∙ (nexts_keep (λ (y : View). y.size) (λ _ _. refl) v xs ∙ (ap (λ (y : View). y.size) t.steps ∙ f.1))),
  ap (λ (y : View). y.gone) p.steps ∙ (ap (λ (y : View). y.gone) e.steps.1 ∙ (nexts_keep (λ (y : View). y.gone) (λ _ _. refl) v xs ∙ (ap (λ (y : View). y.gone) t.steps ∙ f.2))),
)

pub returns-else-first-eq0-clause-steps : goal.returns-else-first-eq0-clause-steps
returns-else-first-eq0-clause-steps c = let v : View = seen c.args.seat.now in let u : View = seen c.trace_into-word.new.seat in let t : View = c.walk_out-last.new.seat.me.0 in let w : View = seen c.put_behind.new.seat in let x : ℕ = c.trace_into-word.result in let e = c.walk_out-last.ensures.steps in
    let ks : List Kind = Start c.args.head x ∷ nexts e.0 in let last : ℕ = c.walk_out-last.result in (
      ks,
      MoveLink last,
      then_steps v t w ks (MoveLink last ∷ []) (then_steps v u t (Start c.args.head x ∷ []) (nexts e.0) c.trace_into-word.ensures.steps e.1) c.put_behind.ensures.steps,
      kinds_join ks (MoveLink last ∷ []) (tt, nexts_rows e.0) (tt, tt),
    )

pub returns-else-first-eq0-clause-rows : goal.returns-else-first-eq0-clause-rows
returns-else-first-eq0-clause-rows c = let u : View = seen c.trace_into-word.new.seat in let t : View = c.walk_out-last.new.seat.me.0 in let w : View = seen c.put_behind.new.seat in let e = c.walk_out-last.ensures.steps in let p = c.requires.picked in
    let g : t.growing ≡ (seen c.args.seat.now).growing = ap (λ (y : View). y.growing) e.1 ∙ (nexts_keep (λ (y : View). y.growing) (λ _ _. refl) u e.0 ∙ ap (λ (y : View). y.growing) c.trace_into-word.ensures.steps) in
    (put_rows (MoveLink c.walk_out-last.result) p.0 t w (inr (c.walk_out-last.result, refl)) (ap (λ (x : Growing). x.picked) g ∙ p.1) c.put_behind.ensures.steps).0 ∙ (λ i. record (g i) { picked = None; moving = p.2 i + 1 })
