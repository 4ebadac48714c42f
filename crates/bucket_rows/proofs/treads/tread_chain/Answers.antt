use Rattle.std.proofs.Common.{◌≡◌, ◌≢◌, ◌<◌, ◌≤◌, ◌-◌, ◌+◌, ◌++◌, ℕ, false, [], ◌∷◌, length, refl, sym, ap, ◌∙◌, subst, ⊎_elim, arith, length-append}
use Rattle.atom_words.specs.Board.{link_at}
use Rattle.atom_words.specs.Chains.{In}
use Rattle.atom_words.specs.Kept.{slots}
use Rattle.atom_words.specs.Kinds.{view_after}
use Rattle.atom_words.specs.declared.size.Size.{Size}
use Rattle.atom_words.specs.declared.view.View.{View}
use Rattle.atom_words.specs.declared.kind.Kind.TheVariants.{Next}
use Rattle.bucket_rows.specs.Treads.{Ahead, Treads}
use Rattle.bucket_rows.proofs.SweepSteps.{treading}
use Rattle.bucket_rows.proofs.Treading.{nexts_keep, nexts_more, treads_next}
use Rattle.bucket_rows.proofs.treads.tread_chain.Goals as goal

-- the walk stands at a slot
not_missed : (k x n before p m : ℕ) (v : View) → Treads k x n before p v → Ahead v → v.size.slots ≡ m → (p ≢ 0) × (p ≤ m) × (n < m)
not_missed k x n before p m v t ahead size = let at = t.place in let many = t.count in ⊎_elim
    (λ (seen : In t.sweep.cursor (slots t.walk.seen)). absurd (t.unseen (subst (λ (i : ℕ). In i (slots t.walk.seen)) t.cursor seen)))
    (λ (on : (t.walk.place ≢ 0) × (t.walk.place ≤ v.size.slots) × (length t.walk.seen < v.size.slots)). let some_ = on.0 in let inside = on.1 in let few = on.2 in ((λ none. some_ (at ∙ none)), omega arith, omega arith))
    (ahead t.sweep t.walk t.sweeps.0 t.at t.sweeps.1 t.sure t.whole t.linked t.head)

pub loop-i-init : goal.loop-i-init
loop-i-init c = record { same = (refl, refl, refl); steps = ([], refl, refl); stands = c.requires.start; ahead = c.requires.ahead; low = omega arith }

pub overflow_sub-place : goal.overflow_sub-place
overflow_sub-place c = let inv = c.loop-i.invariant in let v : View = c.args.seat.now.me.0 in let u : View = c.loop-i.seat.me.0 in
    let size : u.size ≡ c.args.words.now.size = ap (λ (x : View). x.size) inv.steps.1 ∙ (nexts_keep (λ (x : View). x.size) (λ _ _. refl) v inv.steps.0 ∙ c.requires.fits.1) in
    let on = not_missed c.args.slot c.args.word c.loop-i._i c.loop-i.before c.loop-i.place c.args.words.now.size.slots u inv.stands inv.ahead (ap (λ (z : Size). z.slots) size) in let some_ = on.0 in omega arith

pub overflow_cast-place : goal.overflow_cast-place
overflow_cast-place c = let inv = c.loop-i.invariant in let v : View = c.args.seat.now.me.0 in let u : View = c.loop-i.seat.me.0 in
    let size : u.size ≡ c.args.words.now.size = ap (λ (x : View). x.size) inv.steps.1 ∙ (nexts_keep (λ (x : View). x.size) (λ _ _. refl) v inv.steps.0 ∙ c.requires.fits.1) in
    let on = not_missed c.args.slot c.args.word c.loop-i._i c.loop-i.before c.loop-i.place c.args.words.now.size.slots u inv.stands inv.ahead (ap (λ (z : Size). z.slots) size) in let inside = on.1 in omega (arith, c.args.words.now.allowed)

pub link_place-link-requires : goal.link_place-link-requires
link_place-link-requires c = let inv = c.loop-i.invariant in let v : View = c.args.seat.now.me.0 in let u : View = c.loop-i.seat.me.0 in
    let size : u.size ≡ c.args.words.now.size = ap (λ (x : View). x.size) inv.steps.1 ∙ (nexts_keep (λ (x : View). x.size) (λ _ _. refl) v inv.steps.0 ∙ c.requires.fits.1) in
    let on = not_missed c.args.slot c.args.word c.loop-i._i c.loop-i.before c.loop-i.place c.args.words.now.size.slots u inv.stands inv.ahead (ap (λ (z : Size). z.slots) size) in let some_ = on.0 in let inside = on.1 in omega arith

pub load-place-requires : goal.load-place-requires
load-place-requires c = let inv = c.loop-i.invariant in let v : View = c.args.seat.now.me.0 in let u : View = c.loop-i.seat.me.0 in let words = c.args.words.now in
    let keep : u.size ≡ v.size = ap (λ (x : View). x.size) inv.steps.1 ∙ nexts_keep (λ (x : View). x.size) (λ _ _. refl) v inv.steps.0 in let same : words.size ≡ u.size = sym c.requires.fits.1 ∙ sym keep in
    let gone : u.gone ≡ false = ap (λ (x : View). x.gone) inv.steps.1 ∙ (nexts_keep (λ (x : View). x.gone) (λ _ _. refl) v inv.steps.0 ∙ c.requires.fits.2) in
    let on = not_missed c.args.slot c.args.word c.loop-i._i c.loop-i.before c.loop-i.place words.size.slots u inv.stands inv.ahead (ap (λ (z : Size). z.slots) (sym same)) in let some_ = on.0 in let inside = on.1 in let at = inv.stands.place in
    let low : c.loop-i.place - 1 < words.size.slots = omega arith in (
      inv.same.0 ∙ c.requires.fits.0,
      c.link_place-link.ensures.inside,
      treading words.table.shared.key words.table.shared.table_id.slots c.loop-i.seat.id c.loop-i.seat.me (words.keyed ∙ same) gone c.link_place-link.result (c.loop-i.place - 1) inv.stands.walk inv.stands.at (omega arith)
          (subst (λ (z : Size). c.loop-i.place - 1 < z.slots) same low) (c.link_place-link.ensures.place ∙ ap (λ (z : Size). link_at z (c.loop-i.place - 1)) same),
    )

pub loop-i-preserved : goal.loop-i-preserved
loop-i-preserved c = let inv = c.loop-i.invariant in let v : View = c.args.seat.now.me.0 in let u : View = c.loop-i.seat.me.0 in let w : View = c.load-place.new.seat.me.0 in let x : ℕ = c.load-place.result in
    let size : u.size ≡ c.args.words.now.size = ap (λ (y : View). y.size) inv.steps.1 ∙ (nexts_keep (λ (y : View). y.size) (λ _ _. refl) v inv.steps.0 ∙ c.requires.fits.1) in
    let on = not_missed c.args.slot c.args.word c.loop-i._i c.loop-i.before c.loop-i.place c.args.words.now.size.slots u inv.stands inv.ahead (ap (λ (z : Size). z.slots) size) in
    let is : w ≡ view_after u (Next x) = c.load-place.ensures.2.1 in record {
      same = (c.load-place.ensures.0 ∙ inv.same.0, c.load-place.ensures.1 ∙ inv.same.1, c.load-place.ensures.2.0 ∙ inv.same.2);
      steps = (inv.steps.0 ++ x ∷ [], is ∙ (ap (λ (y : View). view_after y (Next x)) inv.steps.1 ∙ sym (nexts_more v inv.steps.0 x)), length-append inv.steps.0 (x ∷ []) ∙ ap (λ (n : ℕ). n + 1) inv.steps.2);
      stands = subst (Treads c.args.slot c.args.word (c.loop-i._i + 1) c.loop-i.place x) (sym is) (treads_next c.args.slot c.args.word c.loop-i._i c.loop-i.before c.loop-i.place x u inv.stands on.0 c.if-place-slot.false);
      ahead = c.load-place.ensures.2.2;
      low = on.1;
    }

pub returns-then-place-slot-clause-steps : goal.returns-then-place-slot-clause-steps
returns-then-place-slot-clause-steps c = let inv = c.loop-i.invariant in (inv.steps.0, inv.steps.1, (let many = inv.steps.2 in let below = c.loop-i-test.true in omega arith))

pub returns-clause-steps : goal.returns-clause-steps
returns-clause-steps c = let inv = c.loop-i.invariant in (inv.steps.0, inv.steps.1, (let many = inv.steps.2 in let all = c.loop-i.auto._i-end in omega arith))

pub returns-then-place-slot-clause-stands : goal.returns-then-place-slot-clause-stands
returns-then-place-slot-clause-stands c = (c.loop-i._i, subst (λ (p : ℕ). Treads c.args.slot c.args.word c.loop-i._i c.loop-i.before p c.loop-i.seat.me.0) c.if-place-slot.true c.loop-i.invariant.stands)

-- the walk does not come to the end
pub returns-clause-stands : goal.returns-clause-stands
returns-clause-stands c = let inv = c.loop-i.invariant in let v : View = c.args.seat.now.me.0 in let u : View = c.loop-i.seat.me.0 in
    let size : u.size ≡ c.args.words.now.size = ap (λ (y : View). y.size) inv.steps.1 ∙ (nexts_keep (λ (y : View). y.size) (λ _ _. refl) v inv.steps.0 ∙ c.requires.fits.1) in
    let on = not_missed c.args.slot c.args.word c.loop-i._i c.loop-i.before c.loop-i.place c.args.words.now.size.slots u inv.stands inv.ahead (ap (λ (z : Size). z.slots) size) in
    absurd (let few = on.2 in let over = c.loop-i-test.false in omega arith)
