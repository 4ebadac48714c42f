-- A pass for a slot, and what it leaves of the view.
use Rattle.std.proofs.Common.{◌≡◌, ◌≢◌, ◌==◌, ◌&&◌, nat_lt, ℕ, ◌+◌, ◌%◌, ◌<◌, true, if◌then◌else◌, eq-eqb, ne_eqb, [], ◌∷◌, refl, sym, ap, ◌∙◌, subst, ⊎_elim, arith, Option, Some, None, option_map}
use Rattle.std.proofs.lemmas.Bool.Decides.{nat_tests}
use Rattle.std.proofs.Math.Nat.{mod-eq_of_lt}
use mathlib.Core.Logic.{dite}
use native.Mathlib.Decide.{ℕ_discrete}
use Rattle.atom_words.specs.Layout.{state_of}
use Rattle.atom_words.specs.Board.{atom_at}
use Rattle.atom_words.specs.Kinds.{next_first, next_counted, counting, full, full_pass, after}
use Rattle.atom_words.specs.Seats.{FindsTaken, answered}
use Rattle.atom_words.specs.declared.view.Pass.{Pass}
use Rattle.atom_words.specs.declared.view.Passing.{Passing}
use Rattle.atom_words.specs.declared.view.Refusal.TheVariants.{Full}
use Rattle.atom_words.specs.declared.view.View.{View}
use Rattle.atom_words.specs.declared.kind.Kind.TheVariants.{Load, Refused, StartPass}
use Rattle.bucket_rows.proofs.Making.{Beside, beside_refl, beside_trans}

-- the pass, and the steps made aside, the view u is v
pub record Tried (v u : View) : Type 0 where
  pub beside : Beside v u
  pub own : u.own ≡ v.own
  pub walk : u.walk ≡ v.walk
  pub refusals : u.refusals ≡ v.refusals

pub tried_refl : (v : View) → Tried v v
tried_refl v = record { beside = beside_refl v; own = refl; walk = refl; refusals = refl }

pub tried_trans : (u v w : View) → Tried u v → Tried v w → Tried u w
tried_trans u v w a b = record { beside = beside_trans u v w a.beside b.beside; own = b.own ∙ a.own; walk = b.walk ∙ a.walk; refusals = b.refusals ∙ a.refusals }

pub tried_start : (v : View) (x : ℕ) (w : View) → w ≡ after v (StartPass x ∷ []) → Tried v w
tried_start v x w e = subst (Tried v) (sym e) (record { beside = record { gone = refl; size = refl; held = refl; fixed = refl; counts = refl; asked = refl; undealt = refl; cycle = refl; sweep = refl; risen = refl }; own = refl; walk = refl; refusals = refl })

pub tried_taken : (v : View) (k x : ℕ) (w : View) → FindsTaken v k x w → Tried v w
tried_taken v k x w f = ⊎_elim
    (λ (t : (state_of x ≢ 0) × (w ≡ after v (Refused k 0 x ∷ []))). subst (Tried v) (sym t.1) (record { beside = record { gone = refl; size = refl; held = refl; fixed = refl; counts = refl; asked = refl; undealt = refl; cycle = refl; sweep = refl; risen = refl }; own = refl; walk = refl; refusals = refl }))
    (λ (t : (free : ℕ) × (x ≢ free) × (w ≡ after v (Load (atom_at v.size k) free ∷ Refused k free x ∷ []))). subst (Tried v) (sym t.2) (record { beside = record { gone = refl; size = refl; held = refl; fixed = refl; counts = refl; asked = refl; undealt = refl; cycle = refl; sweep = refl; risen = refl }; own = refl; walk = refl; refusals = refl })) f

-- The pass at hand began at the epoch word x, and has counted n slots from `from` on
pub record Passed (x from n : ℕ) (v : View) : Type 0 where
  pub passing : Passing
  pub at : v.pass ≡ Some passing
  pub began : passing.began ≡ x
  pub counted : passing.counted ≡ n
  pub first : 0 < n → passing.first ≡ from

pub passed_start : (v : View) (x from : ℕ) (w : View) → w ≡ after v (StartPass x ∷ []) → Passed x from 0 w
passed_start v x from w e = subst (Passed x from 0) (sym e) (record { passing = record { began = x; first = 0; counted = 0 }; at = refl; began = refl; counted = refl; first = λ h. absurd (omega arith) })

pass_after : (v : View) (k x : ℕ) (w : View) → FindsTaken v k x w → w.pass ≡ option_map (counting v.size.slots k) v.pass
pass_after v k x w f = ⊎_elim
    (λ (t : (state_of x ≢ 0) × (w ≡ after v (Refused k 0 x ∷ []))). ap (λ (y : View). y.pass) t.1)
    (λ (t : (free : ℕ) × (x ≢ free) × (w ≡ after v (Load (atom_at v.size k) free ∷ Refused k free x ∷ []))). ap (λ (y : View). y.pass) t.2) f

counts_on : (slots k first n : ℕ) → n < slots → (0 < n → k ≡ (first + n) % slots) → next_counted slots k first n ≡ n + 1
counts_on slots k first n low same = dite (ℕ_discrete n 0)
    (λ (e : n ≡ 0). ap (λ b. if b then 1 else (if nat_lt n slots && (k == (first + n) % slots) then n + 1 else n)) (eq-eqb n 0 e) ∙ omega arith)
    (λ (ne : n ≢ 0). ap (λ b. if b then 1 else (if nat_lt n slots && (k == (first + n) % slots) then n + 1 else n)) (ne_eqb n 0 ne)
    ∙ (let lt : nat_lt n slots ≡ true = grind (arith, nat_tests) in let is : (k == (first + n) % slots) ≡ true = eq-eqb k ((first + n) % slots) (same (omega arith)) in
    λ i. if lt i && is i then n + 1 else n))

first_stays : (k from first n : ℕ) → (0 < n → first ≡ from) → (n ≡ 0 → k ≡ from) → next_first k first n ≡ from
first_stays k from first n stays new = dite (ℕ_discrete n 0)
    (λ (e : n ≡ 0). ap (λ b. if b then k else first) (eq-eqb n 0 e) ∙ new e)
    (λ (ne : n ≢ 0). ap (λ b. if b then k else first) (ne_eqb n 0 ne) ∙ stays (omega arith))

pub passed_more : (x from n k y : ℕ) (v w : View) → Passed x from n v → from < v.size.slots → n < v.size.slots → k ≡ (from + n) % v.size.slots → FindsTaken v k y w → Passed x from (n + 1) w
passed_more x from n k y v w p low more is f = let q : Passing = p.passing in record {
  passing = counting v.size.slots k q;
  at = pass_after v k y w f ∙ ap (option_map (counting v.size.slots k)) p.at;
  began = p.began;
  counted = ap (next_counted v.size.slots k q.first) p.counted ∙ counts_on v.size.slots k q.first n more (λ h. is ∙ ap (λ (m : ℕ). (m + n) % v.size.slots) (sym (p.first h)));
  first = λ _. ap (next_first k q.first) p.counted ∙ first_stays k from q.first n p.first (λ e. is ∙ (let zero_ : (from + n) % v.size.slots ≡ from = first_slot from n v.size.slots e low in zero_));
}
  where
    first_slot : (a m s : ℕ) → m ≡ 0 → a < s → (a + m) % s ≡ a
    first_slot a m s e h = ap (λ (i : ℕ). i % s) (let z : a + m ≡ a = omega arith in z) ∙ mod-eq_of_lt h

-- THE END OF A PASS that counted all slots
pub full_is : (v : View) (y : ℕ) (p : Passing) → v.pass ≡ Some p → p.counted ≡ v.size.slots → full v y v.pass ≡ Full (full_pass v y p) ∷ []
full_is v y p at all = ap (full v y) at ∙ ap (λ b. if b then Full (full_pass v y p) ∷ [] else []) (eq-eqb p.counted v.size.slots all)

pub answered_some : (o : Option Pass) (q : Pass) → answered o ≡ Full q ∷ [] → o ≡ Some q
answered_some None q e = cc
answered_some (Some p) q e = cc
