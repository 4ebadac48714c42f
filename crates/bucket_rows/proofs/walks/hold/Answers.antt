use Rattle.std.proofs.Common.{◌≡◌, ◌≢◌, ◌<◌, ◌-◌, ◌+◌, ◌++◌, ℕ, [], ◌∷◌, refl, sym, ap, ◌∙◌, subst, inl, arith, Option, Some, None, Err, option_map}
use Rattle.atom_words.specs.Layout.{state_of, version_of}
use Rattle.atom_words.specs.Board.{link_at, head_at}
use Rattle.atom_words.specs.Texts.{padded}
use Rattle.atom_words.specs.Plays.{Alone}
use Rattle.atom_words.specs.Kinds.{guarding, view_after, after}
use Rattle.atom_words.specs.declared.size.Size.{Size}
use Rattle.atom_words.specs.declared.view.Walk.{Walk}
use Rattle.atom_words.specs.declared.view.Cause.TheVariants.{Moved, Pending}
use Rattle.atom_words.specs.declared.view.Refusal.TheVariants.{Again}
use Rattle.atom_words.specs.declared.view.View.{View}
use Rattle.atom_words.specs.declared.kind.Kind.TheVariants.{Skip, Hold, Refuse}
use Rattle.atom_words.specs.Seats.{Walking}
use Rattle.atom_words.proofs.WalkSteps.{showing_pending, skipping_past, holding}
use Rattle.bucket_rows.specs.Walks.{guards}
use Rattle.bucket_rows.specs.Standing.{Ends}
use Rattle.bucket_rows.proofs.Reading.{after_both, guard_set, guarded_as, walking_as, alone_as}
use Rattle.bucket_rows.proofs.walks.hold.Goals as goal

-- WHERE THE SLOT IS RESERVED
pub load-requires : goal.load-requires
load-requires c = let same : c.args.words.now.size ≡ c.args.seat.now.me.0.size = sym c.requires.fits.1 in let v : View = c.args.seat.now.me.0 in let u : View = c.guard-found.new.seat.me.0 in let x : ℕ = c.guard-found.result in let w : Walk = c.requires.walk.0 in
    let g = guarded_as v u c.guard-found.ensures.steps.0 c.args.slot x c.guard-found.ensures.steps.1 in
    let size : c.args.words.now.size ≡ u.size = same ∙ sym g.aside.size in let none : u.own ≡ None = g.aside.own ∙ c.requires.none in (
      c.guard-found.ensures.same.0 ∙ c.requires.fits.0,
      omega (arith, c.args.words.now.counted),
      showing_pending c.args.words.now.table.shared.key c.args.words.now.table.shared.table_id.slots c.guard-found.new.seat.id c.guard-found.new.seat.me (c.args.words.now.keyed ∙ size) (g.aside.gone ∙ c.requires.fits.2)
          c.args.slot x (guarding c.args.slot x w) g.made.0 (g.walk ∙ ap (option_map (guarding c.args.slot x)) c.requires.walk.1) c.requires.walk.2 (subst (λ (y : Size). c.args.slot < y.slots) size c.requires.slot)
          c.if-found-eq1.true (λ o e. let no : Some o ≡ None = sym e ∙ none in cc) g.made.1,
    )

pub returns-then-found-eq1-clause-steps : goal.returns-then-found-eq1-clause-steps
returns-then-found-eq1-clause-steps c = let v : View = c.args.seat.now.me.0 in let u : View = c.guard-found.new.seat.me.0 in let x : ℕ = c.guard-found.result in let o = c.guard-found.ensures.steps.0 in
    let g = guarded_as v u o c.args.slot x c.guard-found.ensures.steps.1 in let k : ℕ = c.args.slot in (
      refl,
      c.if-found-eq1.true,
      (o, c.load.ensures.2.1 k x g.made.0 g.made.1 ∙ (ap (λ (y : View). view_after y (Refuse (Again (Pending k x)))) c.guard-found.ensures.steps.1 ∙ sym (after_both v (guards o k x) (Refuse (Again (Pending k x)) ∷ [])))),
    )

-- WHERE IT IS DYING
pub load-requires-then-found-eq2 : goal.load-requires-then-found-eq2
load-requires-then-found-eq2 c = let same : c.args.words.now.size ≡ c.args.seat.now.me.0.size = sym c.requires.fits.1 in let v : View = c.args.seat.now.me.0 in let u : View = c.guard-found.new.seat.me.0 in let x : ℕ = c.guard-found.result in let w : Walk = c.requires.walk.0 in
    let g = guarded_as v u c.guard-found.ensures.steps.0 c.args.slot x c.guard-found.ensures.steps.1 in
    let size : c.args.words.now.size ≡ u.size = same ∙ sym g.aside.size in let walking : Walking u = walking_as v u g.aside c.requires.walking in (
      c.guard-found.ensures.same.0 ∙ c.requires.fits.0,
      c.link_place-link.ensures.inside,
      skipping_past c.args.words.now.table.shared.key c.args.words.now.table.shared.table_id.slots c.guard-found.new.seat.id c.guard-found.new.seat.me (c.args.words.now.keyed ∙ size) (g.aside.gone ∙ c.requires.fits.2)
          c.link_place-link.result c.args.slot (guarding c.args.slot x w) (g.walk ∙ ap (option_map (guarding c.args.slot x)) c.requires.walk.1) walking.1 c.requires.walk.2
          (guard_set w.dead w.place (c.args.slot + 1) (state_of x) 2 c.requires.walk.2 c.if-found-eq2.true) (subst (λ (y : Size). c.args.slot < y.slots) size c.requires.slot) (c.link_place-link.ensures.place ∙ ap (λ (y : Size). link_at y c.args.slot) size),
    )

pub returns-then-found-eq2-clause-steps : goal.returns-then-found-eq2-clause-steps
returns-then-found-eq2-clause-steps c = let v : View = c.args.seat.now.me.0 in let x : ℕ = c.guard-found.result in let o = c.guard-found.ensures.steps.0 in let k : ℕ = c.args.slot in let l : ℕ = c.load-then-found-eq2.result in
    (x, o, c.if-found-eq2.true, c.load-then-found-eq2.ensures.2.1 ∙ (ap (λ (y : View). view_after y (Skip l)) c.guard-found.ensures.steps.1 ∙ sym (after_both v (guards o k x) (Skip l ∷ []))))

-- WHERE IT IS FREE
pub moved-requires-clause-fits : goal.moved-requires-clause-fits
moved-requires-clause-fits c = let v : View = c.args.seat.now.me.0 in let u : View = c.guard-found.new.seat.me.0 in let x : ℕ = c.guard-found.result in
    let g = guarded_as v u c.guard-found.ensures.steps.0 c.args.slot x c.guard-found.ensures.steps.1 in
    (c.guard-found.ensures.same.0 ∙ c.requires.fits.0, g.aside.size ∙ c.requires.fits.1, g.aside.gone ∙ c.requires.fits.2)

pub moved-requires-clause-stale : goal.moved-requires-clause-stale
moved-requires-clause-stale c = let v : View = c.args.seat.now.me.0 in let u : View = c.guard-found.new.seat.me.0 in let x : ℕ = c.guard-found.result in let w : Walk = c.requires.walk.0 in
    let g = guarded_as v u c.guard-found.ensures.steps.0 c.args.slot x c.guard-found.ensures.steps.1 in (
      guarding c.args.slot x w,
      g.walk ∙ ap (option_map (guarding c.args.slot x)) c.requires.walk.1,
      inl (guard_set w.lost w.place (c.args.slot + 1) (state_of x) 0 c.requires.walk.2 c.if-found-eq0.true),
      c.requires.walk.4,
      c.requires.walk.5,
    )

pub returns-then-found-eq0-clause-steps : goal.returns-then-found-eq0-clause-steps
returns-then-found-eq0-clause-steps c = let v : View = c.args.seat.now.me.0 in let x : ℕ = c.guard-found.result in let o = c.guard-found.ensures.steps.0 in let k : ℕ = c.args.slot in let m = c.moved.ensures.steps in let old : ℕ = c.args.word in let new : ℕ = m.0 in
    subst (λ r. Ends k old v (Err r) c.moved.new.seat.me.0) (sym m.1) (
      refl,
      m.2,
      (x, o, m.3 ∙ (ap (λ (y : View). after y (Refuse (Again (Moved old new)) ∷ [])) c.guard-found.ensures.steps.1 ∙ sym (after_both v (guards o k x) (Refuse (Again (Moved old new)) ∷ [])))),
    )

-- WHERE IT IS VALID
pub load-new-requires : goal.load-new-requires
load-new-requires c = let same : c.args.words.now.size ≡ c.args.seat.now.me.0.size = sym c.requires.fits.1 in let v : View = c.args.seat.now.me.0 in let u : View = c.guard-found.new.seat.me.0 in let x : ℕ = c.guard-found.result in let w : Walk = c.requires.walk.0 in
    let g = guarded_as v u c.guard-found.ensures.steps.0 c.args.slot x c.guard-found.ensures.steps.1 in
    let size : c.args.words.now.size ≡ u.size = same ∙ sym g.aside.size in let head : c.args.head ≡ w.head = sym c.requires.walk.4 in (
      c.guard-found.ensures.same.0 ∙ c.requires.fits.0,
      c.head_place-top.ensures.inside,
      holding c.args.words.now.table.shared.key c.args.words.now.table.shared.table_id.slots c.guard-found.new.seat.id c.guard-found.new.seat.me (c.args.words.now.keyed ∙ size) (g.aside.gone ∙ c.requires.fits.2)
          c.head_place-top.result c.args.slot (guarding c.args.slot x w) (g.walk ∙ ap (option_map (guarding c.args.slot x)) c.requires.walk.1) c.requires.walk.2
          (guard_set w.guarded w.place (c.args.slot + 1) (state_of x) 3 c.requires.walk.2 (let one = c.if-found-eq1.false in let two = c.if-found-eq2.false in let zero = c.if-found-eq0.false in omega arith)) (walking_as v u g.aside c.requires.walking).0 c.requires.walk.3 (subst (λ (h : ℕ). h < u.size.heads) head (subst (λ (y : Size). c.args.head < y.heads) size c.requires.head))
          (c.head_place-top.ensures.place ∙ (λ i. head_at (size i) (head i))),
    )

-- what the load of the head then tells
told : (v u : View) (o : Option (ℕ × ℕ)) (k x : ℕ) (w : Walk) → u ≡ after v (guards o k x) → v.walk ≡ Some w → u.walk ≡ Some (guarding k x w)
told v u o k x w is walk = (guarded_as v u o k x is).walk ∙ ap (option_map (guarding k x)) walk

pub returns-then-new-word-clause-steps : goal.returns-then-new-word-clause-steps
returns-then-new-word-clause-steps c = let v : View = c.args.seat.now.me.0 in let u : View = c.guard-found.new.seat.me.0 in let x : ℕ = c.guard-found.result in let o = c.guard-found.ensures.steps.0 in let k : ℕ = c.args.slot in let w : Walk = c.requires.walk.0 in
    let is = (c.load-new.ensures.2.1 (guarding k x w) (told v u o k x w c.guard-found.ensures.steps.1 c.requires.walk.1)).0 (c.if-new-word.true ∙ ap version_of (sym c.requires.walk.5)) in (
      x,
      o,
      (let one = c.if-found-eq1.false in let two = c.if-found-eq2.false in let zero = c.if-found-eq0.false in omega arith),
      is.0 ∙ (ap (λ (y : View). view_after y Hold) c.guard-found.ensures.steps.1 ∙ sym (after_both v (guards o k x) (Hold ∷ []))),
    )

pub returns-then-new-word-clause-alone : goal.returns-then-new-word-clause-alone
returns-then-new-word-clause-alone c = λ w walk. let v : View = c.args.seat.now.me.0 in let u : View = c.guard-found.new.seat.me.0 in let x : ℕ = c.guard-found.result in let o = c.guard-found.ensures.steps.0 in let k : ℕ = c.args.slot in
    let g = guarded_as v u o k x c.guard-found.ensures.steps.1 in
    let first : Walk = c.requires.walk.0 in let one : Some first ≡ Some w = sym c.requires.walk.1 ∙ walk in let w_is : first ≡ w = cc in let place : w.place ≡ k + 1 = ap (λ (y : Walk). y.place) (sym w_is) ∙ c.requires.walk.2 in let word : w.word ≡ c.args.word = ap (λ (y : Walk). y.word) (sym w_is) ∙ c.requires.walk.5 in
    let slot : w.place - 1 ≡ k = omega arith in
    let is = (c.load-new.ensures.2.1 (guarding k x w) (told v u o k x w c.guard-found.ensures.steps.1 walk)).0 (c.if-new-word.true ∙ ap version_of (sym word)) in
    alone_as v u k (padded w.part) g.held g.aside.fixed (subst (λ (n : ℕ). Alone u n (padded w.part)) slot is.1)

pub returns-else-new-word-clause-steps : goal.returns-else-new-word-clause-steps
returns-else-new-word-clause-steps c = let v : View = c.args.seat.now.me.0 in let u : View = c.guard-found.new.seat.me.0 in let x : ℕ = c.guard-found.result in let o = c.guard-found.ensures.steps.0 in let k : ℕ = c.args.slot in let w : Walk = c.requires.walk.0 in let new : ℕ = c.load-new.result in let old : ℕ = c.args.word in
    let other : version_of new ≢ version_of w.word = (λ e. c.if-new-word.false (e ∙ ap version_of c.requires.walk.5)) in
    let is = (c.load-new.ensures.2.1 (guarding k x w) (told v u o k x w c.guard-found.ensures.steps.1 c.requires.walk.1)).1 other in (
      refl,
      (λ e. other (e ∙ ap version_of (sym c.requires.walk.5))),
      (x, o, (is ∙ ap (λ (n : ℕ). view_after u (Refuse (Again (Moved n new)))) c.requires.walk.5) ∙ (ap (λ (y : View). view_after y (Refuse (Again (Moved old new)))) c.guard-found.ensures.steps.1 ∙ sym (after_both v (guards o k x) (Refuse (Again (Moved old new)) ∷ [])))),
    )
