use Rattle.std.proofs.Common.{◌≡◌, ◌≢◌, ◌+◌, ◌-◌, ◌<◌, ◌≤◌, ℕ, [], ◌∷◌, ◌++◌, refl, sym, ap, ◌∙◌, subst, arith}
use Rattle.atom_words.specs.Kinds.{view_after}
use Rattle.atom_words.specs.declared.size.Size.{Size}
use Rattle.atom_words.specs.declared.view.View.{View}
use Rattle.atom_words.specs.declared.kind.Kind.TheVariants.{Next}
use Rattle.bucket_rows.specs.RowChanges.{Paces}
use Rattle.bucket_rows.proofs.Treading.{nexts_keep, nexts_more}
use Rattle.bucket_rows.proofs.RowViews.{moves_same, paces_in, paces_next}
use Rattle.bucket_rows.proofs.moving.walk_out.Goals as goal

pub loop-i-init : goal.loop-i-init
loop-i-init c = record { same = (refl, refl, refl); steps = ([], refl); paces = (0, c.requires.start.0); inside = c.requires.inside; more = c.requires.start.1 }

-- where the walk stands
at_slot : (m : ℕ) (h x n before p : ℕ) (v : View) → Paces h x n before p [] v → Rattle.bucket_rows.specs.RowPlays.Inside v → p ≢ 0 → v.size.slots ≡ m → (p ≤ m) × (n < m)
at_slot m h x n before p v t inside ne size = let i = paces_in h x n before p m [] v t inside size in (i.0, i.1 ne)

pub overflow_sub-slot : goal.overflow_sub-slot
overflow_sub-slot c = let some_ = c.loop-i.invariant.more in omega (arith, some_)

pub overflow_cast-slot : goal.overflow_cast-slot
overflow_cast-slot c = let inv = c.loop-i.invariant in let v : View = c.args.seat.now.me.0 in let u : View = c.loop-i.seat.me.0 in
    let size : u.size ≡ c.args.words.now.size = ap (λ (x : View). x.size) inv.steps.1 ∙ (nexts_keep (λ (x : View). x.size) (λ _ _. refl) v inv.steps.0 ∙ c.requires.fits.1) in
    let on = at_slot c.args.words.now.size.slots c.args.head c.args.word c.loop-i._i inv.paces.0 c.loop-i.place u inv.paces.1 inv.inside inv.more (ap (λ (z : Size). z.slots) size) in omega (arith, on.0, c.args.words.now.allowed)

pub pace-next-requires-clause-fits : goal.pace-next-requires-clause-fits
pace-next-requires-clause-fits c = let inv = c.loop-i.invariant in let v : View = c.args.seat.now.me.0 in
    (inv.same.0 ∙ c.requires.fits.0, ap (λ (x : View). x.size) inv.steps.1 ∙ (nexts_keep (λ (x : View). x.size) (λ _ _. refl) v inv.steps.0 ∙ c.requires.fits.1), ap (λ (x : View). x.gone) inv.steps.1 ∙ (nexts_keep (λ (x : View). x.gone) (λ _ _. refl) v inv.steps.0 ∙ c.requires.fits.2))

pub pace-next-requires-clause-slot : goal.pace-next-requires-clause-slot
pace-next-requires-clause-slot c = let inv = c.loop-i.invariant in let v : View = c.args.seat.now.me.0 in let u : View = c.loop-i.seat.me.0 in
    let size : u.size ≡ c.args.words.now.size = ap (λ (x : View). x.size) inv.steps.1 ∙ (nexts_keep (λ (x : View). x.size) (λ _ _. refl) v inv.steps.0 ∙ c.requires.fits.1) in
    let on = at_slot c.args.words.now.size.slots c.args.head c.args.word c.loop-i._i inv.paces.0 c.loop-i.place u inv.paces.1 inv.inside inv.more (ap (λ (z : Size). z.slots) size) in let some_ = inv.more in omega (arith, on.0, some_)

pub pace-next-requires-clause-moves : goal.pace-next-requires-clause-moves
pace-next-requires-clause-moves c = let inv = c.loop-i.invariant in let v : View = c.args.seat.now.me.0 in let u : View = c.loop-i.seat.me.0 in
    let rows = ap (λ (x : View). x.growing) inv.steps.1 ∙ nexts_keep (λ (x : View). x.growing) (λ _ _. refl) v inv.steps.0 in
    (moves_same v u (ap (λ (x : View). x.sweep) inv.steps.1 ∙ nexts_keep (λ (x : View). x.sweep) (λ _ _. refl) v inv.steps.0) rows c.requires.moves.0, (λ i. (rows i).moving) ∙ c.requires.moves.1)

pub pace-next-requires-clause-walk : goal.pace-next-requires-clause-walk
pace-next-requires-clause-walk c = let inv = c.loop-i.invariant in let t = inv.paces.1 in let at = t.place in let some_ = inv.more in (t.walk, t.at, omega (arith, at, some_))

pub loop-i-preserved : goal.loop-i-preserved
loop-i-preserved c = let inv = c.loop-i.invariant in let v : View = c.args.seat.now.me.0 in let u : View = c.loop-i.seat.me.0 in let w : View = c.pace-next.new.seat.me.0 in let x : ℕ = c.pace-next.result in let e = c.pace-next.ensures in record {
  same = (e.same.0 ∙ inv.same.0, e.same.1 ∙ inv.same.1, e.same.2 ∙ inv.same.2);
  steps = (inv.steps.0 ++ x ∷ [], e.steps ∙ (ap (λ (y : View). view_after y (Next x)) inv.steps.1 ∙ sym (nexts_more v inv.steps.0 x)));
  paces = (c.loop-i.place, paces_next c.args.head c.args.word c.loop-i._i inv.paces.0 c.loop-i.place x [] u w inv.more e.steps inv.paces.1);
  inside = e.inside;
  more = c.if-next-eq0.false;
}

pub returns-then-next-eq0-clause-same : goal.returns-then-next-eq0-clause-same
returns-then-next-eq0-clause-same c = let inv = c.loop-i.invariant in let e = c.pace-next.ensures.same in (e.0 ∙ inv.same.0, e.1 ∙ inv.same.1, e.2 ∙ inv.same.2)

pub returns-then-next-eq0-clause-steps : goal.returns-then-next-eq0-clause-steps
returns-then-next-eq0-clause-steps c = let inv = c.loop-i.invariant in let v : View = c.args.seat.now.me.0 in let x : ℕ = c.pace-next.result in
    (inv.steps.0 ++ x ∷ [], c.pace-next.ensures.steps ∙ (ap (λ (y : View). view_after y (Next x)) inv.steps.1 ∙ sym (nexts_more v inv.steps.0 x)))

pub returns-then-next-eq0-clause-stands : goal.returns-then-next-eq0-clause-stands
returns-then-next-eq0-clause-stands c = let inv = c.loop-i.invariant in let u : View = c.loop-i.seat.me.0 in let w : View = c.pace-next.new.seat.me.0 in let some_ = inv.more in let one : c.loop-i.place ≡ c.loop-i.place - 1 + 1 = omega (arith, some_) in
    (c.loop-i._i + 1, subst (λ (p : ℕ × ℕ). Paces c.args.head c.args.word (c.loop-i._i + 1) p.0 p.1 [] w) (λ i. (one i, c.if-next-eq0.true i)) (paces_next c.args.head c.args.word c.loop-i._i inv.paces.0 c.loop-i.place c.pace-next.result [] u w inv.more c.pace-next.ensures.steps inv.paces.1))

pub returns-then-next-eq0-clause-low : goal.returns-then-next-eq0-clause-low
returns-then-next-eq0-clause-low c = let inv = c.loop-i.invariant in let v : View = c.args.seat.now.me.0 in let u : View = c.loop-i.seat.me.0 in
    let size : u.size ≡ c.args.words.now.size = ap (λ (x : View). x.size) inv.steps.1 ∙ (nexts_keep (λ (x : View). x.size) (λ _ _. refl) v inv.steps.0 ∙ c.requires.fits.1) in
    let on = at_slot c.args.words.now.size.slots c.args.head c.args.word c.loop-i._i inv.paces.0 c.loop-i.place u inv.paces.1 inv.inside inv.more (ap (λ (z : Size). z.slots) size) in let some_ = inv.more in omega (arith, on.0, some_)

-- the walk comes to the end before
over : (m h x n before p : ℕ) (v : View) → Paces h x n before p [] v → Rattle.bucket_rows.specs.RowPlays.Inside v → p ≢ 0 → v.size.slots ≡ m → m ≤ n → ⊥
over m h x n before p v t inside ne size le = let i = at_slot m h x n before p v t inside ne size in omega (arith, le, i.1)

pub overflow_sub-result : goal.overflow_sub-result
overflow_sub-result c = let some_ = c.loop-i.invariant.more in omega (arith, some_)

pub overflow_cast-result : goal.overflow_cast-result
overflow_cast-result c = let inv = c.loop-i.invariant in let v : View = c.args.seat.now.me.0 in let u : View = c.loop-i.seat.me.0 in
    let size : u.size ≡ c.args.words.now.size = ap (λ (x : View). x.size) inv.steps.1 ∙ (nexts_keep (λ (x : View). x.size) (λ _ _. refl) v inv.steps.0 ∙ c.requires.fits.1) in
    let on = at_slot c.args.words.now.size.slots c.args.head c.args.word c.loop-i._i inv.paces.0 c.loop-i.place u inv.paces.1 inv.inside inv.more (ap (λ (z : Size). z.slots) size) in omega (arith, on.0, c.args.words.now.allowed)

pub returns-clause-stands : goal.returns-clause-stands
returns-clause-stands c = let inv = c.loop-i.invariant in let v : View = c.args.seat.now.me.0 in let u : View = c.loop-i.seat.me.0 in
    let size : u.size ≡ c.args.words.now.size = ap (λ (x : View). x.size) inv.steps.1 ∙ (nexts_keep (λ (x : View). x.size) (λ _ _. refl) v inv.steps.0 ∙ c.requires.fits.1) in let test = c.loop-i-test.false in
    absurd (over c.args.words.now.size.slots c.args.head c.args.word c.loop-i._i inv.paces.0 c.loop-i.place u inv.paces.1 inv.inside inv.more (ap (λ (z : Size). z.slots) size) (omega (arith, test)))

pub returns-clause-low : goal.returns-clause-low
returns-clause-low c = let inv = c.loop-i.invariant in let v : View = c.args.seat.now.me.0 in let u : View = c.loop-i.seat.me.0 in
    let size : u.size ≡ c.args.words.now.size = ap (λ (x : View). x.size) inv.steps.1 ∙ (nexts_keep (λ (x : View). x.size) (λ _ _. refl) v inv.steps.0 ∙ c.requires.fits.1) in
    let on = at_slot c.args.words.now.size.slots c.args.head c.args.word c.loop-i._i inv.paces.0 c.loop-i.place u inv.paces.1 inv.inside inv.more (ap (λ (z : Size). z.slots) size) in let some_ = inv.more in omega (arith, on.0, some_)
