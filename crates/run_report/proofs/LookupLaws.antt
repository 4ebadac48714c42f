-- Engines and refused goals by their numbers.
use Rattle.std.proofs.Common.{◌≡◌, ◌==◌, ℕ, Bool, true, false, List, [], ◌∷◌, Some, refl, sym, ◌∙◌, ap, subst, eqb-true}
use Rattle.std.specs.Prelude.{if◌then◌else◌}
use Rattle.run_model.specs.Execution.{Word}
use Rattle.run_model.specs.Lawful.{Program, Told}
use Rattle.run_model.specs.Report.{Finals, refusal_of as refusal_with}
use Rattle.pl_consult.specs.declared.goal_words.RefusedGoal.{RefusedGoal}
use Rattle.pl_consult.specs.GoalWords.{refusal_of, refusals_of}
use Rattle.run_report.specs.declared.parts.Part.{Part}
use Rattle.run_report.specs.Parts.{AreEngines, IsEngine, part_in}

-- One step of a look-up.
pub part_here : (k : Part) (ks : List Part) (n : ℕ) → k.number == n ≡ true → part_in (k ∷ ks) n ≡ Some k
part_here k ks n is = ap (λ b. if b then Some k else part_in ks n) is

pub part_later : (k : Part) (ks : List Part) (n : ℕ) → k.number == n ≡ false → part_in (k ∷ ks) n ≡ part_in ks n
part_later k ks n is = ap (λ b. if b then Some k else part_in ks n) is

pub refused_here : (r : RefusedGoal) (rs : List RefusedGoal) (n : ℕ) → r.number == n ≡ true → refusal_with (refusals_of (r ∷ rs)) n ≡ Some (refusal_of r)
refused_here r rs n is = ap (λ b. if b then Some (refusal_of r) else refusal_with (refusals_of rs) n) is

pub refused_later : (r : RefusedGoal) (rs : List RefusedGoal) (n : ℕ) → r.number == n ≡ false → refusal_with (refusals_of (r ∷ rs)) n ≡ refusal_with (refusals_of rs) n
refused_later r rs n is = ap (λ b. if b then Some (refusal_of r) else refusal_with (refusals_of rs) n) is

-- What is found is one of these, and has the number.
pub found_part : (p : Program) (told : Told) (finals : Finals) (ws : List Word) (ks : List Part) (n : ℕ) (k : Part)
    → AreEngines p told finals ws ks
    → part_in ks n ≡ Some k
    → (k.number ≡ n) × IsEngine p told finals ws k
found_part p told finals ws [] n k each is = absurd (let no : ⊥ = cc in no)
found_part p told finals ws (m ∷ ks) n k each is = go (found_part p told finals ws ks n k each.1) (m.number == n) refl
  where
    go : (part_in ks n ≡ Some k → (k.number ≡ n) × IsEngine p told finals ws k)
        → (b : Bool)
        → m.number == n ≡ b
        → (k.number ≡ n) × IsEngine p told finals ws k
    go rest true here =
        let same : m ≡ k = (let e : Some m ≡ Some k = sym (part_here m ks n here) ∙ is in cc) in
        subst (λ (j : Part). (j.number ≡ n) × IsEngine p told finals ws j) same (eqb-true m.number n here, each.0)
    go rest false other = rest (sym (part_later m ks n other) ∙ is)
