use Rattle.std.proofs.Common.{◌≡◌, ◌≢◌, ◌+◌, ◌^◌, ℕ, List, [], ◌∷◌, ◌++◌, refl, sym, ap, ◌∙◌, subst, arith}
use Rattle.atom_words.specs.Layout.{row_first}
use Rattle.atom_words.specs.Texts.{bucket}
use Rattle.atom_words.specs.Kinds.{MovesChains, old_head}
use Rattle.atom_words.specs.Seats.{seen}
use Rattle.atom_words.specs.declared.view.Held.{Held}
use Rattle.atom_words.specs.declared.view.Growing.{Growing}
use Rattle.atom_words.specs.declared.view.View.{View}
use Rattle.atom_words.specs.declared.kind.Kind.{Kind}
use Rattle.atom_words.specs.declared.kind.Kind.TheVariants.{Pick}
use Rattle.atom_words.proofs.Tied.{same_owns, same_passes}
use Rattle.bucket_rows.specs.RowChanges.{RowSteps, Rowing, AtEnd}
use Rattle.bucket_rows.proofs.RowLaws.{rows_both, rows_one, settled_by}
use Rattle.bucket_rows.proofs.RowViews.{rowing_same, moves_of, old_of, more_of}
use Rattle.bucket_rows.proofs.RowMoves.{moving_same, pick_moves, put_leaves, left_rows}
use Rattle.bucket_rows.proofs.moving.move_last.Goals as goal

pub row_start-requires : goal.row_start-requires
row_start-requires c = let ok = c.args.words.now.allowed in let row = c.requires.row in (row.0.0, omega (arith, row.0.1, ok))

pub overflow_add-head : goal.overflow_add-head
overflow_add-head c = let row = c.requires.row in let at = c.row_start.ensures in let ok = c.args.words.now.allowed in omega (arith, row.0.0, row.0.1, row.2, at, ok)

pub find_last-requires-clause-moves : goal.find_last-requires-clause-moves
find_last-requires-clause-moves c = let q = c.requires.rows in (moves_of c.args.row c.args.aim q.0 c.args.moved (seen c.args.seat.now) c.requires.row.3 q.1, q.1.still)

pub find_last-requires-clause-start : goal.find_last-requires-clause-start
find_last-requires-clause-start c = subst (λ (h : ℕ). Rattle.bucket_rows.specs.RowChanges.Paces h c.args.word 0 0 (Rattle.atom_words.specs.Layout.first_of c.args.word) [] (seen c.args.seat.now) × (Rattle.atom_words.specs.Layout.first_of c.args.word ≢ 0)) (λ i. sym c.row_start.ensures i + c.args.moved) c.requires.start

pub invariant_of-seat : goal.invariant_of-seat
invariant_of-seat c = let s = c.args.seat.now in let v : View = s.seat.me.0 in let w : View = c.find_last.new.seat.me.0 in let e = c.find_last.ensures in let t = settled_by v w e.steps in record {
  slotless = e.same.2 ∙ s.slotless;
  numbered = ap (λ (y : Rattle.atom_words.specs.declared.view.Cycling.Cycling). y.engine) t.cycle ∙ s.numbered;
  acknowledged = ap (λ (y : Rattle.atom_words.specs.declared.view.Cycling.Cycling). y.acked) t.cycle ∙ s.acknowledged;
  owns = same_owns v w s.own t.own t.size s.owns;
  walks = e.tied s.head s.word s.walks;
  passes = same_passes v w s.began s.first s.counted t.pass s.passes;
}

-- NO SLOT WAS FOUND
pub returns-in-None-clause-steps : goal.returns-in-None-clause-steps
returns-in-None-clause-steps c = c.find_last.ensures.steps

pub returns-in-None-clause-rows : goal.returns-in-None-clause-rows
returns-in-None-clause-rows c = λ shut sound r. rowing_same c.args.row c.args.aim shut sound c.args.moved (seen c.args.seat.now) c.find_last.new.seat.me.0 (settled_by (seen c.args.seat.now) c.find_last.new.seat.me.0 c.find_last.ensures.steps).sweep c.find_last.ensures.rows r

-- THE LAST SLOT IS KNOWN
pub pick-requires-clause-fits : goal.pick-requires-clause-fits
pick-requires-clause-fits c = let t = settled_by (seen c.args.seat.now) c.find_last.new.seat.me.0 c.find_last.ensures.steps in let f = c.requires.fits in (c.find_last.ensures.same.0 ∙ f.0, t.size ∙ f.1, t.gone ∙ f.2)

pub pick-requires-clause-moves : goal.pick-requires-clause-moves
pick-requires-clause-moves c = let v : View = seen c.args.seat.now in let w : View = c.find_last.new.seat.me.0 in let t = settled_by v w c.find_last.ensures.steps in let g = c.find_last.ensures.rows in let q = c.requires.rows in
    let m = moving_same v w t.sweep g (moves_of c.args.row c.args.aim q.0 c.args.moved v c.requires.row.3 q.1, q.1.still) in
    (m.0, m.1, more_of c.args.row c.args.aim (2 ^ c.args.row) q.0 c.args.moved w c.requires.row.2 (rowing_same c.args.row c.args.aim (2 ^ c.args.row) q.0 c.args.moved v w t.sweep g q.1))

pub pick-requires-clause-ended : goal.pick-requires-clause-ended
pick-requires-clause-ended c = let v : View = seen c.args.seat.now in let w : View = c.find_last.new.seat.me.0 in let t = settled_by v w c.find_last.ensures.steps in let q = c.requires.rows in let l = c.in-Some.last in let e = c.in-Some.ensures.ended in
    let old = old_of c.args.row c.args.aim (2 ^ c.args.row) q.0 c.args.moved w (rowing_same c.args.row c.args.aim (2 ^ c.args.row) q.0 c.args.moved v w t.sweep c.find_last.ensures.rows q.1) in
    (subst (λ (h : ℕ). AtEnd h l.slot l.before l.row w) ((λ i. c.row_start.ensures i + c.args.moved) ∙ sym old) e.0, e.3)

pub row_bucket-requires : goal.row_bucket-requires
row_bucket-requires c = let aim = c.requires.row.1 in let ok = c.args.words.now.allowed in (aim.0, omega (arith, aim.1, ok))

-- IT IS PUT
pub put-requires-clause-fits : goal.put-requires-clause-fits
put-requires-clause-fits c = let t = settled_by (seen c.args.seat.now) c.find_last.new.seat.me.0 c.find_last.ensures.steps in let f = c.requires.fits in let p = c.pick.ensures in (p.same.0 ∙ (c.find_last.ensures.same.0 ∙ f.0), ap (λ (y : View). y.size) p.steps ∙ (t.size ∙ f.1), ap (λ (y : View). y.gone) p.steps ∙ (t.gone ∙ f.2))

pub put-requires-clause-slot : goal.put-requires-clause-slot
put-requires-clause-slot c = c.in-Some.ensures.ended.1

pub put-requires-clause-head : goal.put-requires-clause-head
put-requires-clause-head c = let aim = c.requires.row.1 in let b = c.row_bucket.ensures.inside in omega (arith, aim.0, aim.1, b)

pub put-requires-clause-moves : goal.put-requires-clause-moves
put-requires-clause-moves c = let v : View = seen c.args.seat.now in let w : View = c.find_last.new.seat.me.0 in let t = settled_by v w c.find_last.ensures.steps in let q = c.requires.rows in let l = c.in-Some.last in
    pick_moves (record { slot = l.slot; text = l.row }) l.before w (seen c.pick.new.seat) c.pick.ensures.steps (moving_same v w t.sweep c.find_last.ensures.rows (moves_of c.args.row c.args.aim q.0 c.args.moved v c.requires.row.3 q.1, q.1.still))

pub put-requires-clause-picked : goal.put-requires-clause-picked
put-requires-clause-picked c = let is = c.pick.ensures.steps in let l = c.in-Some.last in let a : Held = record { slot = l.slot; text = l.row } in
    let aim : (seen c.pick.new.seat).growing.aim ≡ c.args.aim = ap (λ (y : View). y.growing.aim) is ∙ (ap (λ (g : Growing). g.aim) c.find_last.ensures.rows ∙ c.requires.rows.1.aim_is) in
    (a, ap (λ (y : View). y.growing.picked) is, refl, ap (λ (n : ℕ). bucket n l.row) aim ∙ sym c.row_bucket.ensures.bucket)

-- IT LEAVES
pub leave-requires-clause-head : goal.leave-requires-clause-head
leave-requires-clause-head c = let row = c.requires.row in let at = c.row_start.ensures in omega (arith, row.0.0, row.0.1, row.2, at)

pub leave-requires-clause-low : goal.leave-requires-clause-low
leave-requires-clause-low c = c.in-Some.ensures.ended.2

-- the steps of the put
putting : (v w : View) → (ks : List Kind) × (k : Kind) × (w ≡ Rattle.atom_words.specs.Kinds.after v (ks ++ k ∷ [])) × Rattle.bucket_rows.specs.RowChanges.RowKinds (ks ++ k ∷ []) → RowSteps v w
putting v w p = (p.0 ++ p.1 ∷ [], p.2, p.3)

pub leave-requires-clause-moves : goal.leave-requires-clause-moves
leave-requires-clause-moves c = let v : View = seen c.args.seat.now in let u : View = c.find_last.new.seat.me.0 in let t : View = seen c.pick.new.seat in let w : View = seen c.put.new.seat in let s = settled_by v u c.find_last.ensures.steps in let q = c.requires.rows in let l = c.in-Some.last in
    let a : Held = record { slot = l.slot; text = l.row } in let m = pick_moves a l.before u t c.pick.ensures.steps (moving_same v u s.sweep c.find_last.ensures.rows (moves_of c.args.row c.args.aim q.0 c.args.moved v c.requires.row.3 q.1, q.1.still)) in
    put_leaves c.args.row c.args.aim q.0 c.args.moved l.slot l.before (c.row_start.result + c.args.moved) a v u t w q.1 c.find_last.ensures.rows c.pick.ensures.steps m.0 (c.put.ensures.rows, (settled_by t w (putting t w c.put.ensures.steps)).sweep) (λ i. c.row_start.ensures i + c.args.moved)

pub returns-in-Some-clause-same : goal.returns-in-Some-clause-same
returns-in-Some-clause-same c = let f = c.find_last.ensures.same in let p = c.pick.ensures.same in let q = c.put.ensures.same in let l = c.leave.ensures.same in (l.0 ∙ (q.0 ∙ (p.0 ∙ f.0)), l.1 ∙ (q.1 ∙ (p.1 ∙ f.1)))

pub returns-in-Some-clause-steps : goal.returns-in-Some-clause-steps
returns-in-Some-clause-steps c = let v : View = seen c.args.seat.now in let u : View = c.find_last.new.seat.me.0 in let t : View = seen c.pick.new.seat in let w : View = seen c.put.new.seat in let z : View = seen c.leave.new.seat in let l = c.in-Some.last in
    rows_both v w z (rows_both v t w (rows_both v u t c.find_last.ensures.steps (rows_one u t (Pick (record { slot = l.slot; text = l.row }) l.before) tt c.pick.ensures.steps)) (putting t w c.put.ensures.steps)) c.leave.ensures.steps

pub returns-in-Some-clause-rows : goal.returns-in-Some-clause-rows
returns-in-Some-clause-rows c = λ shut sound r. let v : View = seen c.args.seat.now in let u : View = c.find_last.new.seat.me.0 in let t : View = seen c.pick.new.seat in let w : View = seen c.put.new.seat in let z : View = seen c.leave.new.seat in let l = c.in-Some.last in
    left_rows c.args.row c.args.aim shut sound c.args.moved l.slot l.before (record { slot = l.slot; text = l.row }) v u t w z c.find_last.ensures.rows (settled_by v u c.find_last.ensures.steps).sweep c.pick.ensures.steps
    (c.put.ensures.rows, (settled_by t w (putting t w c.put.ensures.steps)).sweep) c.leave.ensures.rows (settled_by w z c.leave.ensures.steps).sweep r

pub returns-in-None-clause-fits : goal.returns-in-None-clause-fits
returns-in-None-clause-fits c = let t = settled_by (seen c.args.seat.now) c.find_last.new.seat.me.0 c.find_last.ensures.steps in let f = c.requires.fits in (c.find_last.ensures.same.0 ∙ f.0, t.size ∙ f.1, t.gone ∙ f.2)
