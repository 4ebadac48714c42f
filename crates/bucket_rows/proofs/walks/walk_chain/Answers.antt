use Rattle.std.proofs.Common.{◌≡◌, ◌≢◌, ◌<◌, ◌≤◌, ◌-◌, ◌+◌, ◌++◌, ℕ, List, [], ◌∷◌, sym, ap, ◌∙◌, subst, arith, Option, Some, Ok, MatchOption, length-append}
use Rattle.atom_words.specs.Kinds.{after}
use Rattle.atom_words.specs.Plays.{Alone}
use Rattle.atom_words.specs.declared.size.Size.{Size}
use Rattle.atom_words.specs.declared.view.Held.{Held}
use Rattle.atom_words.specs.declared.view.View.{View}
use Rattle.bucket_rows.specs.Walks.{Passed, passes, Goes}
use Rattle.bucket_rows.specs.Standing.{Standing, Meets}
use Rattle.bucket_rows.proofs.Reading.{passes_more, passes_keep, keeps_held, others_more, standing_pass, standing_hold, passed_aside, walking_as, alone_as, goes_ok, goes_err, goes_moved}
use Rattle.bucket_rows.proofs.walks.walk_chain.Goals as goal

pub moved-requires-clause-fits : goal.moved-requires-clause-fits
moved-requires-clause-fits c = let p = c.loop-i.invariant.passed in let a = passed_aside c.args.seat.now.me.0 c.loop-i.seat.me.0 p.0 p.3 in (c.loop-i.invariant.same.0 ∙ c.requires.fits.0, a.size ∙ c.requires.fits.1, a.gone ∙ c.requires.fits.2)

pub moved-requires-else-place-eq0-2-clause-fits : goal.moved-requires-else-place-eq0-2-clause-fits
moved-requires-else-place-eq0-2-clause-fits c = let p = c.loop-i.invariant.passed in let a = passed_aside c.args.seat.now.me.0 c.loop-i.seat.me.0 p.0 p.3 in (c.loop-i.invariant.same.0 ∙ c.requires.fits.0, a.size ∙ c.requires.fits.1, a.gone ∙ c.requires.fits.2)

pub meet-requires-clause-fits : goal.meet-requires-clause-fits
meet-requires-clause-fits c = let p = c.loop-i.invariant.passed in let a = passed_aside c.args.seat.now.me.0 c.loop-i.seat.me.0 p.0 p.3 in (c.loop-i.invariant.same.0 ∙ c.requires.fits.0, a.size ∙ c.requires.fits.1, a.gone ∙ c.requires.fits.2)

pub meet-requires-clause-none : goal.meet-requires-clause-none
meet-requires-clause-none c = let p = c.loop-i.invariant.passed in (passed_aside c.args.seat.now.me.0 c.loop-i.seat.me.0 p.0 p.3).own ∙ c.requires.none

pub meet-requires-clause-walking : goal.meet-requires-clause-walking
meet-requires-clause-walking c = let v : View = c.args.seat.now.me.0 in let u : View = c.loop-i.seat.me.0 in let p = c.loop-i.invariant.passed in walking_as v u (passed_aside v u p.0 p.3) c.requires.walking

pub returns-then-place-words-clause-steps : goal.returns-then-place-words-clause-steps
returns-then-place-words-clause-steps c = let v : View = c.args.seat.now.me.0 in let p = c.loop-i.invariant.passed in let size = c.requires.fits.1 in
    goes_moved c.args.row.now v c.loop-i.seat.me.0 p.0 (let m : v.size.slots ≡ c.args.words.now.size.slots = ap (λ (y : Size). y.slots) size in let below = c.loop-i-test.true in let n = p.1 in omega arith) p.2 p.3 c.args.word c.moved.new.seat.me.0 c.moved.result c.moved.ensures.steps

pub returns-else-place-eq0-2-clause-steps : goal.returns-else-place-eq0-2-clause-steps
returns-else-place-eq0-2-clause-steps c = let v : View = c.args.seat.now.me.0 in let p = c.loop-i.invariant.passed in let size = c.requires.fits.1 in
    goes_moved c.args.row.now v c.loop-i.seat.me.0 p.0 (let m : v.size.slots ≡ c.args.words.now.size.slots = ap (λ (y : Size). y.slots) size in let below = c.loop-i.auto._i-end in let n = p.1 in omega arith) p.2 p.3 c.args.word c.moved-else-place-eq0-2.new.seat.me.0 c.moved-else-place-eq0-2.result c.moved-else-place-eq0-2.ensures.steps

pub returns-in-None-clause-steps : goal.returns-in-None-clause-steps
returns-in-None-clause-steps c = let v : View = c.args.seat.now.me.0 in let u : View = c.loop-i.seat.me.0 in let w : View = c.meet.new.seat.me.0 in let p = c.loop-i.invariant.passed in let size = c.requires.fits.1 in
    subst (λ (n : ℕ). Goes c.args.row.now v (Ok (Some n)) w) (sym c.at.ensures)
    (goes_ok c.args.row.now v u p.0 (let m : v.size.slots ≡ c.args.words.now.size.slots = ap (λ (y : Size). y.slots) size in let below = c.loop-i-test.true in let n = p.1 in omega arith) p.2 p.3 (c.loop-i.place - 1) c.args.word w (subst (λ (o : Option ℕ). Meets c.args.row.now (c.loop-i.place - 1) c.args.word u (Ok o) w) c.in-None.is c.in-Ok.ensures.steps))

pub returns-in-Err-clause-steps : goal.returns-in-Err-clause-steps
returns-in-Err-clause-steps c = let v : View = c.args.seat.now.me.0 in let u : View = c.loop-i.seat.me.0 in let w : View = c.meet.new.seat.me.0 in let p = c.loop-i.invariant.passed in let size = c.requires.fits.1 in
    goes_err c.args.row.now v u p.0 (let m : v.size.slots ≡ c.args.words.now.size.slots = ap (λ (y : Size). y.slots) size in let below = c.loop-i-test.true in let n = p.1 in omega arith) p.2 p.3 (c.loop-i.place - 1) c.args.word w c.in-Err.missed c.in-Err.ensures.steps

pub returns-in-None-clause-last : goal.returns-in-None-clause-last
returns-in-None-clause-last c = let row : List ℕ = c.args.row.now in let v : View = c.args.seat.now.me.0 in let u : View = c.loop-i.seat.me.0 in let w : View = c.meet.new.seat.me.0 in let p = c.loop-i.invariant.passed in
    let some_ : c.loop-i.place ≢ 0 = c.if-place-eq0.false in let inside : c.loop-i.place ≤ c.args.words.now.size.slots = c.if-place-words.false in
    let m = subst (λ (o : Option ℕ). Meets row (c.loop-i.place - 1) c.args.word u (Ok o) w) c.in-None.is c.in-Ok.ensures.steps in
    let held : u.held ≡ v.held = ap (λ (y : View). y.held) p.3 ∙ passes_keep (λ (y : View). y.held) keeps_held v p.0 in
    let stands : Standing row c.args.head c.args.word c.loop-i._i (c.loop-i.place - 1 + 1) [] u = subst (λ (n : ℕ). Standing row c.args.head c.args.word c.loop-i._i n [] u) (omega arith) c.loop-i.invariant.stands in
    subst (λ (k : ℕ). (k < c.args.words.now.size.slots) × Alone v k row × (w.held ≡ v.held ++ record { slot = k; text = row } ∷ [])) (sym c.at.ensures) (
      omega arith,
      alone_as v u (c.loop-i.place - 1) row held (passed_aside v u p.0 p.3).fixed (subst (λ (o : Option ℕ). MatchOption o (Alone u (c.loop-i.place - 1) row) (λ _. Unit {0})) c.in-None.is c.in-Ok.ensures.alone),
      standing_hold row c.args.head c.args.word c.loop-i._i (c.loop-i.place - 1) m.0 m.1 u w c.requires.row stands m.3 ∙ ap (λ (l : List Held). l ++ record { slot = c.loop-i.place - 1; text = row } ∷ []) held,
    )

pub loop-i-preserved : goal.loop-i-preserved
loop-i-preserved c = let row : List ℕ = c.args.row.now in let v : View = c.args.seat.now.me.0 in let u : View = c.loop-i.seat.me.0 in let w : View = c.meet.new.seat.me.0 in let p = c.loop-i.invariant.passed in
    let m = subst (λ (o : Option ℕ). Meets row (c.loop-i.place - 1) c.args.word u (Ok o) w) c.in-Some.is c.in-Ok.ensures.steps in let q : Passed = m.0 in record {
      same = (c.meet.ensures.same.0 ∙ c.loop-i.invariant.same.0, c.meet.ensures.same.1 ∙ c.loop-i.invariant.same.1, c.meet.ensures.same.2 ∙ c.loop-i.invariant.same.2);
      passed = (
        p.0 ++ q ∷ [],
        length-append p.0 (q ∷ []) ∙ ap (λ (n : ℕ). n + 1) p.1,
        others_more row p.0 q p.2 m.2,
        m.3 ∙ (ap (λ (y : View). after y (passes (q ∷ []))) p.3 ∙ sym (passes_more v p.0 q)),
      );
      stands = subst (λ (n : ℕ). Standing row c.args.head c.args.word (c.loop-i._i + 1) n [] w) m.1
          (subst (Standing row c.args.head c.args.word (c.loop-i._i + 1) q.link []) (sym m.3) (standing_pass row c.args.head c.args.word c.loop-i._i c.loop-i.place q u c.loop-i.invariant.stands m.2));
    }
