-- The view over the checks of engines.
use Rattle.std.proofs.Common.{◌≡◌, ℕ, zero, suc, ◌+◌, ◌-◌, ◌≤◌, List, [], ◌∷◌, ◌++◌, refl, ap, ◌∙◌, arith, option_map}
use Rattle.atom_words.specs.Layout.{phase_of}
use Rattle.atom_words.specs.Kinds.{checking, view_after, after}
use Rattle.atom_words.specs.declared.view.Sweeping.{Sweeping}
use Rattle.atom_words.specs.declared.view.View.{View}
use Rattle.atom_words.specs.declared.kind.Kind.{Kind}
use Rattle.atom_words.specs.declared.kind.Kind.TheVariants.{Check}
use Rattle.bucket_rows.specs.Cycles.{Knows, checks}

pub after_append : (v : View) (ks js : List Kind) → after v (ks ++ js) ≡ after (after v ks) js
after_append v [] js = refl
after_append v (k ∷ ks) js = after_append (view_after v k) ks js

pub checks_keep : {A : Type 0} (f : View → A) → ((v : View) (e : ℕ) → f (view_after v (Check e)) ≡ f v) → (v : View) (e n : ℕ) → f (after v (checks e n)) ≡ f v
checks_keep f same v e zero = refl
checks_keep f same v e (suc n) = checks_keep f same (view_after v (Check e)) (e + 1) n ∙ same v e

pub checks_more : (v : View) (e n : ℕ) → after v (checks e (suc n)) ≡ view_after (after v (checks e n)) (Check (e + n))
checks_more v e zero = let at : e ≡ e + 0 = omega arith in ap (λ (i : ℕ). view_after v (Check i)) at
checks_more v e (suc n) = checks_more (view_after v (Check e)) (e + 1) n ∙ (let at : e + 1 + n ≡ e + suc n = omega arith in ap (λ (i : ℕ). view_after (after (view_after v (Check e)) (checks (e + 1) n)) (Check i)) at)

-- the collector knows the same word, and counts on
pub checks_know : (v : View) (e n : ℕ) (y : Sweeping) → Knows v y → (t : Sweeping) × Knows (after v (checks e n)) t × (t.word ≡ y.word) × (t.checked ≡ y.checked + n) × (t.cursor ≡ y.cursor) × (t.dying ≡ y.dying) × (t.unlinked ≡ y.unlinked)
checks_know v e zero y k = (y, k, refl, omega arith, refl, refl, refl)
checks_know v e (suc n) y k = let r = checks_know (view_after v (Check e)) (e + 1) n (checking y) (ap (option_map checking) k) in (r.0, r.1, r.2, (let c = r.3 in omega arith), r.4, r.5, r.6)

-- the collector's view at the engine e, where it checks from `from` on
pub known_at : (u v : View) (from e word : ℕ) → from ≤ e → u ≡ after v (checks from (e - from)) → (y : Sweeping) × Knows v y × (phase_of y.word ≡ 1) × (y.word ≡ word) × (y.checked ≡ from)
    → (t : Sweeping) × Knows u t × (phase_of t.word ≡ 1) × (t.word ≡ word) × (t.checked ≡ e)
known_at u v from e word past is q = let r = checks_know v from (e - from) q.0 q.1 in (r.0, ap (λ (x : View). x.sweep) is ∙ r.1, ap phase_of r.2 ∙ q.2, r.2 ∙ q.3, (let c = r.3 in let f = q.4 in omega arith))
