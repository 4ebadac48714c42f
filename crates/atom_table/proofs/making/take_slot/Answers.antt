use Rattle.std.proofs.Common.{◌≡◌, ℕ, suc, ◌+◌, ◌%◌, ◌<◌, ◌≤◌, [], ◌∷◌, refl, sym, ap, ◌∙◌, subst, arith, add-one, Some, None, IsSome, is_some}
use Rattle.atom_words.specs.Kinds.{full_pass}
use Rattle.atom_words.specs.Seats.{seen, FindsTaken}
use Rattle.atom_words.specs.declared.size.Size.{Size}
use Rattle.atom_words.specs.declared.view.Pass.{Pass}
use Rattle.atom_words.specs.declared.view.View.{View}
use Rattle.atom_table.specs.Interning.{Tries}
use Rattle.atom_table.proofs.Tries.{tried_refl, tried_trans, tried_start, tried_taken, passed_start, passed_more, full_is, answered_some}
use Rattle.atom_table.proofs.making.take_slot.Goals as goal

pub loop-i-init : goal.loop-i-init
loop-i-init c = record { same = (refl, refl); tries = refl; tried = tried_refl (seen c.start_pass.new.seat); passed = λ x p. p }

pub reserve-requires-clause-fits : goal.reserve-requires-clause-fits
reserve-requires-clause-fits c = let s = tried_start (seen c.args.seat.now) c.start_pass.ensures.steps.0 (seen c.start_pass.new.seat) c.start_pass.ensures.steps.1 in let t = c.loop-i.invariant.tried in
    (c.loop-i.invariant.same.0 ∙ (c.start_pass.ensures.same.0 ∙ c.requires.fits.0), t.beside.size ∙ (s.beside.size ∙ c.requires.fits.1), t.beside.gone ∙ (s.beside.gone ∙ c.requires.fits.2))

pub loop-i-preserved : goal.loop-i-preserved
loop-i-preserved c = let st : View = seen c.start_pass.new.seat in let u : View = seen c.loop-i.seat in let w : View = seen c.reserve.new.seat in let i : ℕ = c.loop-i.i in let from : ℕ = c.args.from in let x : ℕ = c.in-Err.field-0 in
    let s = tried_start (seen c.args.seat.now) c.start_pass.ensures.steps.0 st c.start_pass.ensures.steps.1 in let t = c.loop-i.invariant.tried in
    let m : c.args.words.now.size.slots ≡ st.size.slots = sym (ap (λ (y : Size). y.slots) (s.beside.size ∙ c.requires.fits.1)) in let n : c.args.words.now.size.slots ≡ u.size.slots = m ∙ sym (ap (λ (y : Size). y.slots) t.beside.size) in
    let found : FindsTaken u ((from + i) % c.args.words.now.size.slots) x w = subst (λ (j : ℕ). FindsTaken u j x w) c.in_circle-slot.ensures c.in-Err.ensures.steps in record {
      same = (c.reserve.ensures.same.0 ∙ c.loop-i.invariant.same.0, c.reserve.ensures.same.1 ∙ c.loop-i.invariant.same.1);
      tries = subst (λ (j : ℕ). Tries j from st w) (sym (add-one i)) (u, c.loop-i.invariant.tries, (x, subst (λ (j : ℕ). FindsTaken u ((from + i) % j) x w) m found));
      tried = tried_trans st u w t (tried_taken u ((from + i) % c.args.words.now.size.slots) x w found);
      passed = λ y p. passed_more y from i ((from + i) % c.args.words.now.size.slots) x u w (c.loop-i.invariant.passed y p) (subst (λ (j : ℕ). from < j) n c.requires.from) (subst (λ (j : ℕ). i < j) n c.loop-i-test.true)
          (ap (λ (j : ℕ). (from + i) % j) n) found;
    }

pub end_pass-requires-clause-at_hand : goal.end_pass-requires-clause-at_hand
end_pass-requires-clause-at_hand c = let x : ℕ = c.start_pass.ensures.steps.0 in let p = c.loop-i.invariant.passed x (passed_start (seen c.args.seat.now) x c.args.from (seen c.start_pass.new.seat) c.start_pass.ensures.steps.1) in (p.passing, p.at)

pub unwrap-requires : goal.unwrap-requires
unwrap-requires c = let st : View = seen c.start_pass.new.seat in let u : View = seen c.loop-i.seat in let x : ℕ = c.start_pass.ensures.steps.0 in let y : ℕ = c.end_pass.ensures.steps.0 in
    let p = c.loop-i.invariant.passed x (passed_start (seen c.args.seat.now) x c.args.from st c.start_pass.ensures.steps.1) in
    let s = tried_start (seen c.args.seat.now) x st c.start_pass.ensures.steps.1 in let t = c.loop-i.invariant.tried in let n : u.size.slots ≡ c.args.words.now.size.slots = ap (λ (z : Size). z.slots) (t.beside.size ∙ (s.beside.size ∙ c.requires.fits.1)) in
    let all : c.loop-i.i ≡ c.args.words.now.size.slots = let le = c.loop-i.auto.i-end in let ge = c.loop-i-test.false in omega arith in
    let is : c.end_pass.result ≡ Some (full_pass u y p.passing) = answered_some c.end_pass.result (full_pass u y p.passing) (c.end_pass.ensures.steps.2 ∙ full_is u y p.passing p.at (p.counted ∙ (all ∙ sym n))) in
    ap (λ (o : Rattle.std.proofs.Common.Option Pass). is_some o) is

pub returns-clause-steps : goal.returns-clause-steps
returns-clause-steps c = let v : View = seen c.args.seat.now in let st : View = seen c.start_pass.new.seat in let u : View = seen c.loop-i.seat in let w : View = seen c.end_pass.new.seat in let x : ℕ = c.start_pass.ensures.steps.0 in let y : ℕ = c.end_pass.ensures.steps.0 in
    let p = c.loop-i.invariant.passed x (passed_start v x c.args.from st c.start_pass.ensures.steps.1) in
    let s = tried_start v x st c.start_pass.ensures.steps.1 in let t = c.loop-i.invariant.tried in let n : u.size.slots ≡ v.size.slots = ap (λ (z : Size). z.slots) (t.beside.size ∙ s.beside.size) in
    let all : c.loop-i.i ≡ v.size.slots = (let le = c.loop-i.auto.i-end in let ge = c.loop-i-test.false in let both : c.loop-i.i ≡ c.args.words.now.size.slots = omega arith in both) ∙ sym (ap (λ (z : Size). z.slots) c.requires.fits.1) in
    let is : c.end_pass.result ≡ Some (full_pass u y p.passing) = answered_some c.end_pass.result (full_pass u y p.passing) (c.end_pass.ensures.steps.2 ∙ full_is u y p.passing p.at (p.counted ∙ (all ∙ sym n))) in
    let both : Some c.unwrap.result ≡ Some (full_pass u y p.passing) = sym c.unwrap.ensures ∙ is in let same : c.unwrap.result ≡ full_pass u y p.passing = cc in
    let P : ℕ × View → Type 0 = λ q. Tries q.0 c.args.from q.1 u in
    let engine : u.cycle.engine ≡ v.cycle.engine = ap (λ z. z.engine) (t.beside.cycle ∙ s.beside.cycle) in let counted : p.passing.counted ≡ v.size.slots = p.counted ∙ all in
    (x, y, (u, subst P (λ i. (all i, c.start_pass.ensures.steps.1 i)) c.loop-i.invariant.tries, c.end_pass.ensures.steps.1), same ∙ (λ i. record { counted = counted i; seat = engine i; began = p.began i; ended = y }))
