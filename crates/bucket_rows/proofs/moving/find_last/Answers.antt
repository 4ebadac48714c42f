use Rattle.std.proofs.Common.{◌≡◌, ◌≢◌, ◌+◌, ◌-◌, ◌<◌, ◌≤◌, ℕ, [], ◌∷◌, refl, ap, ◌∙◌, subst, arith}
use Rattle.atom_words.specs.Board.{link_at}
use Rattle.atom_words.specs.Kinds.{after}
use Rattle.atom_words.specs.Layout.{first_of}
use Rattle.atom_words.specs.declared.size.Size.{Size}
use Rattle.atom_words.specs.declared.view.Growing.{Growing}
use Rattle.atom_words.specs.declared.view.View.{View}
use Rattle.atom_words.specs.declared.kind.Kind.TheVariants.{Next}
use Rattle.bucket_rows.specs.RowPlays.{Inside}
use Rattle.bucket_rows.specs.RowChanges.{Paces}
use Rattle.bucket_rows.proofs.RowLaws.{rows_refl, rows_both, rows_one, settled_by}
use Rattle.bucket_rows.proofs.RowViews.{moves_same, paces_in, paces_next, looked_by, tied_paces}
use Rattle.bucket_rows.proofs.RowMoves.{last_ended}
use Rattle.bucket_rows.proofs.moving.find_last.Goals as goal

-- the walk stands at a slot of the table
standing : (h x n before p m : ℕ) (v : View) → Paces h x n before p [] v → Inside v → p ≢ 0 → v.size.slots ≡ m → (p ≤ m) × (n < m)
standing h x n before p m v t inside ne size = let i = paces_in h x n before p m [] v t inside size in (i.0, i.1 ne)

pub loop-i-init : goal.loop-i-init
loop-i-init c = record { same = (refl, refl, refl); steps = rows_refl c.args.seat.now.me.0; rows = refl; paces = c.requires.start.0; inside = c.requires.inside; more = c.requires.start.1; low = omega arith }

pub overflow_sub-slot : goal.overflow_sub-slot
overflow_sub-slot c = let some_ = c.loop-i.invariant.more in omega (arith, some_)

pub overflow_cast-slot : goal.overflow_cast-slot
overflow_cast-slot c = let inv = c.loop-i.invariant in let u : View = c.loop-i.seat.me.0 in let size : u.size ≡ c.args.words.now.size = (settled_by c.args.seat.now.me.0 u inv.steps).size ∙ c.requires.fits.1 in
    let on = standing c.args.head c.args.word c.loop-i._i c.loop-i.before c.loop-i.place c.args.words.now.size.slots u inv.paces inv.inside inv.more (ap (λ (z : Size). z.slots) size) in omega (arith, on.0, c.args.words.now.allowed)

pub read_last-text-requires-clause-fits : goal.read_last-text-requires-clause-fits
read_last-text-requires-clause-fits c = let inv = c.loop-i.invariant in let t = settled_by c.args.seat.now.me.0 c.loop-i.seat.me.0 inv.steps in (inv.same.0 ∙ c.requires.fits.0, t.size ∙ c.requires.fits.1, t.gone ∙ c.requires.fits.2)

pub read_last-text-requires-clause-slot : goal.read_last-text-requires-clause-slot
read_last-text-requires-clause-slot c = let inv = c.loop-i.invariant in let u : View = c.loop-i.seat.me.0 in let size : u.size ≡ c.args.words.now.size = (settled_by c.args.seat.now.me.0 u inv.steps).size ∙ c.requires.fits.1 in
    let on = standing c.args.head c.args.word c.loop-i._i c.loop-i.before c.loop-i.place c.args.words.now.size.slots u inv.paces inv.inside inv.more (ap (λ (z : Size). z.slots) size) in let some_ = inv.more in omega (arith, on.0, some_)

pub read_last-text-requires-clause-walk : goal.read_last-text-requires-clause-walk
read_last-text-requires-clause-walk c = let inv = c.loop-i.invariant in let t = inv.paces in let at = t.place in let some_ = inv.more in (t.walk, t.at, omega (arith, at, some_), t.part)

pub pace-next-requires-clause-fits : goal.pace-next-requires-clause-fits
pace-next-requires-clause-fits c = let inv = c.loop-i.invariant in let t = settled_by c.args.seat.now.me.0 c.loop-i.seat.me.0 inv.steps in let u : View = c.loop-i.seat.me.0 in let e = c.read_last-text.ensures in
    let l = looked_by c.args.head c.args.word c.loop-i._i c.loop-i.before c.loop-i.place (link_at u.size (c.loop-i.place - 1)) e.steps.0 c.read_last-text.result u c.read_last-text.new.seat.me.0 e.steps.1 inv.paces in
    (e.same.0 ∙ (inv.same.0 ∙ c.requires.fits.0), l.2 ∙ (t.size ∙ c.requires.fits.1), l.3 ∙ (t.gone ∙ c.requires.fits.2))

pub pace-next-requires-clause-slot : goal.pace-next-requires-clause-slot
pace-next-requires-clause-slot c = let inv = c.loop-i.invariant in let u : View = c.loop-i.seat.me.0 in let size : u.size ≡ c.args.words.now.size = (settled_by c.args.seat.now.me.0 u inv.steps).size ∙ c.requires.fits.1 in
    let on = standing c.args.head c.args.word c.loop-i._i c.loop-i.before c.loop-i.place c.args.words.now.size.slots u inv.paces inv.inside inv.more (ap (λ (z : Size). z.slots) size) in let some_ = inv.more in omega (arith, on.0, some_)

pub pace-next-requires-clause-moves : goal.pace-next-requires-clause-moves
pace-next-requires-clause-moves c = let inv = c.loop-i.invariant in let v : View = c.args.seat.now.me.0 in let u : View = c.loop-i.seat.me.0 in let r : View = c.read_last-text.new.seat.me.0 in let e = c.read_last-text.ensures in
    let l = looked_by c.args.head c.args.word c.loop-i._i c.loop-i.before c.loop-i.place (link_at u.size (c.loop-i.place - 1)) e.steps.0 c.read_last-text.result u r e.steps.1 inv.paces in let rows = l.0 ∙ inv.rows in
    (moves_same v r (l.1 ∙ (settled_by v u inv.steps).sweep) rows c.requires.moves.0, ap (λ (g : Growing). g.moving) rows ∙ c.requires.moves.1)

pub pace-next-requires-clause-walk : goal.pace-next-requires-clause-walk
pace-next-requires-clause-walk c = let inv = c.loop-i.invariant in let u : View = c.loop-i.seat.me.0 in let e = c.read_last-text.ensures in
    let l = looked_by c.args.head c.args.word c.loop-i._i c.loop-i.before c.loop-i.place (link_at u.size (c.loop-i.place - 1)) e.steps.0 c.read_last-text.result u c.read_last-text.new.seat.me.0 e.steps.1 inv.paces in
    let t = l.5.1 in let at = t.place in let some_ = inv.more in (t.walk, t.at, omega (arith, at, some_))

pub loop-i-preserved : goal.loop-i-preserved
loop-i-preserved c = let inv = c.loop-i.invariant in let v : View = c.args.seat.now.me.0 in let u : View = c.loop-i.seat.me.0 in let r : View = c.read_last-text.new.seat.me.0 in let w : View = c.pace-next.new.seat.me.0 in let x : ℕ = c.pace-next.result in
    let e = c.read_last-text.ensures in let p = c.pace-next.ensures in
    let l = looked_by c.args.head c.args.word c.loop-i._i c.loop-i.before c.loop-i.place (link_at u.size (c.loop-i.place - 1)) e.steps.0 c.read_last-text.result u r e.steps.1 inv.paces in
    let size : u.size ≡ c.args.words.now.size = (settled_by v u inv.steps).size ∙ c.requires.fits.1 in let on = standing c.args.head c.args.word c.loop-i._i c.loop-i.before c.loop-i.place c.args.words.now.size.slots u inv.paces inv.inside inv.more (ap (λ (z : Size). z.slots) size) in record {
      same = (p.same.0 ∙ (e.same.0 ∙ inv.same.0), p.same.1 ∙ (e.same.1 ∙ inv.same.1), p.same.2 ∙ (e.same.2 ∙ inv.same.2));
      steps = rows_both v r w (rows_both v u r inv.steps l.4) (rows_one r w (Next x) tt p.steps);
      rows = ap (λ (y : View). y.growing) p.steps ∙ (l.0 ∙ inv.rows);
      paces = paces_next c.args.head c.args.word c.loop-i._i c.loop-i.before c.loop-i.place x l.5.0 r w inv.more p.steps l.5.1;
      inside = p.inside;
      more = c.if-next-eq0.false;
      low = on.0;
    }

pub returns-then-next-eq0-clause-same : goal.returns-then-next-eq0-clause-same
returns-then-next-eq0-clause-same c = let inv = c.loop-i.invariant in let e = c.read_last-text.ensures in let p = c.pace-next.ensures in (p.same.0 ∙ (e.same.0 ∙ inv.same.0), p.same.1 ∙ (e.same.1 ∙ inv.same.1), p.same.2 ∙ (e.same.2 ∙ inv.same.2))

pub returns-then-next-eq0-clause-steps : goal.returns-then-next-eq0-clause-steps
returns-then-next-eq0-clause-steps c = let inv = c.loop-i.invariant in let v : View = c.args.seat.now.me.0 in let u : View = c.loop-i.seat.me.0 in let r : View = c.read_last-text.new.seat.me.0 in let w : View = c.pace-next.new.seat.me.0 in let e = c.read_last-text.ensures in
    let l = looked_by c.args.head c.args.word c.loop-i._i c.loop-i.before c.loop-i.place (link_at u.size (c.loop-i.place - 1)) e.steps.0 c.read_last-text.result u r e.steps.1 inv.paces in
    rows_both v r w (rows_both v u r inv.steps l.4) (rows_one r w (Next c.pace-next.result) tt c.pace-next.ensures.steps)

pub returns-then-next-eq0-clause-rows : goal.returns-then-next-eq0-clause-rows
returns-then-next-eq0-clause-rows c = let inv = c.loop-i.invariant in let u : View = c.loop-i.seat.me.0 in let r : View = c.read_last-text.new.seat.me.0 in let e = c.read_last-text.ensures in
    let l = looked_by c.args.head c.args.word c.loop-i._i c.loop-i.before c.loop-i.place (link_at u.size (c.loop-i.place - 1)) e.steps.0 c.read_last-text.result u r e.steps.1 inv.paces in ap (λ (y : View). y.growing) c.pace-next.ensures.steps ∙ (l.0 ∙ inv.rows)

pub returns-then-next-eq0-clause-ended : goal.returns-then-next-eq0-clause-ended
returns-then-next-eq0-clause-ended c = let inv = c.loop-i.invariant in let v : View = c.args.seat.now.me.0 in let u : View = c.loop-i.seat.me.0 in let r : View = c.read_last-text.new.seat.me.0 in let w : View = c.pace-next.new.seat.me.0 in let e = c.read_last-text.ensures in let some_ = inv.more in
    let size : u.size ≡ c.args.words.now.size = (settled_by v u inv.steps).size ∙ c.requires.fits.1 in let on = standing c.args.head c.args.word c.loop-i._i c.loop-i.before c.loop-i.place c.args.words.now.size.slots u inv.paces inv.inside inv.more (ap (λ (z : Size). z.slots) size) in
    last_ended c.as_last.result c.read_last-text.result c.args.head c.args.word c.loop-i._i c.loop-i.before c.loop-i.place (link_at u.size (c.loop-i.place - 1)) e.steps.0 (c.loop-i.place - 1) c.args.words.now.size.slots u r w c.as_last.ensures e.steps.1 inv.more refl
    (subst (λ (n : ℕ). w ≡ after r (Next n ∷ [])) c.if-next-eq0.true c.pace-next.ensures.steps) inv.paces (omega (arith, on.0, some_)) inv.low

pub returns-then-next-eq0-clause-tied : goal.returns-then-next-eq0-clause-tied
returns-then-next-eq0-clause-tied c = λ h x tie. let inv = c.loop-i.invariant in let v : View = c.args.seat.now.me.0 in let u : View = c.loop-i.seat.me.0 in let r : View = c.read_last-text.new.seat.me.0 in let w : View = c.pace-next.new.seat.me.0 in let e = c.read_last-text.ensures in
    let l = looked_by c.args.head c.args.word c.loop-i._i c.loop-i.before c.loop-i.place (link_at u.size (c.loop-i.place - 1)) e.steps.0 c.read_last-text.result u r e.steps.1 inv.paces in
    let on = paces_next c.args.head c.args.word c.loop-i._i c.loop-i.before c.loop-i.place c.pace-next.result l.5.0 r w inv.more c.pace-next.ensures.steps l.5.1 in
    let size : w.size ≡ v.size = ap (λ (y : View). y.size) c.pace-next.ensures.steps ∙ (l.2 ∙ (settled_by v u inv.steps).size) in
    tied_paces c.args.head c.args.word 0 (c.loop-i._i + 1) 0 c.loop-i.place (first_of c.args.word) c.pace-next.result [] [] v w h x c.requires.start.0 on size tie

pub returns-clause-tied : goal.returns-clause-tied
returns-clause-tied c = λ h x tie. let inv = c.loop-i.invariant in let v : View = c.args.seat.now.me.0 in let u : View = c.loop-i.seat.me.0 in
    tied_paces c.args.head c.args.word 0 c.loop-i._i 0 c.loop-i.before (first_of c.args.word) c.loop-i.place [] [] v u h x c.requires.start.0 inv.paces (settled_by v u inv.steps).size tie
