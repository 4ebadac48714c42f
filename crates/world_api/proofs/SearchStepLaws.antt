-- How the steps of a search go on.
use Rattle.std.proofs.Common.{◌≡◌, ℕ, suc, ◌+◌, [], ◌∷◌, ◌++◌, length, Option, refl, arith, subst}
use Rattle.pl_model.specs.History.{Kind, History}
use Rattle.pl_model.specs.Requests.{Request, Reply}
use Rattle.pl_model.specs.Service.{answers, entry_by, served_now}
use Rattle.pl_model.specs.Resolution.{Limits, State, goes, asks}
use Rattle.pl_model.specs.Control.{step}
use Rattle.world_api.specs.Told.{Told, Follows}
use Rattle.world_api.specs.Answers.{seen_as}
use Rattle.world_api.specs.SearchSteps.{SearchSteps, stays, goes_to, sees, asked}

pub steps_stay : (l : Limits) (s : State) (t : Told) → SearchSteps l s t 0 s t
steps_stay l s t = stays

-- A step of the search's own.
pub steps_go : (l : Limits) (s r₁ r : State) (t u : Told) (n : ℕ)
    → SearchSteps l s t n r₁ u
    → step l r₁ ≡ goes r
    → SearchSteps l s t (suc n) r u
steps_go l s r₁ r t u n c is = goes_to n r₁ r u c is

-- Others made entries.
pub steps_follow : (l : Limits) (s r : State) (t u : Told) (n : ℕ) (before : History)
    → SearchSteps l s t n r u
    → Follows u.engine u.history before
    → SearchSteps l s t n r (seen_as u before u.gens)
steps_follow l s r t u n before c f = sees n r u before c f

-- A request of the search that is answered after all entries.
pub steps_ask : (l : Limits) (s r : State) (t u : Told) (n : ℕ) (before : History) (q : Request) (next : Reply → State) (reply : Reply) (update : Option Kind)
    → SearchSteps l s t n r u
    → Follows u.engine u.history before
    → step l r ≡ asks q next
    → served_now u.engine u.goals before q ≡ answers reply update
    → SearchSteps l s t (suc n) (next reply) (seen_as u (before ++ entry_by u.engine update) (u.gens ++ length before ∷ []))
steps_ask l s r t u n before q next reply update c f is served = asked n r u before q next reply update c f is served

-- Some steps after others.
numbered : (l : Limits) (s : State) (t : Told) (n k : ℕ) (r : State) (u : Told) → n ≡ k → SearchSteps l s t n r u → SearchSteps l s t k r u
numbered l s t n k r u e c = subst (λ (i : ℕ). SearchSteps l s t i r u) e c

behind : (l : Limits) (s r : State) (t u : Told) (n : ℕ)
    → SearchSteps l s t n r u
    → (k : ℕ) (v : State) (w : Told)
    → SearchSteps l r u k v w
    → SearchSteps l s t (k + n) v w
behind l s r t u n c k v w stays = numbered l s t n (0 + n) r u (omega arith) c
behind l s r t u n c k v w (goes_to i x y z d is) =
    numbered l s t (suc (i + n)) (suc i + n) y z (omega arith) (goes_to (i + n) x y z (behind l s r t u n c i x z d) is)
behind l s r t u n c k v w (sees i x z before d f) = sees (i + n) x z before (behind l s r t u n c i x z d) f
behind l s r t u n c k v w (asked i x z before q next reply update d f is served) =
    numbered l s t (suc (i + n)) (suc i + n) (next reply) (seen_as z (before ++ entry_by z.engine update) (z.gens ++ length before ∷ [])) (omega arith)
    (asked (i + n) x z before q next reply update (behind l s r t u n c i x z d) f is served)

pub steps_join : (l : Limits) (s r v : State) (t u w : Told) (n k : ℕ)
    → SearchSteps l s t n r u
    → SearchSteps l r u k v w
    → SearchSteps l s t (k + n) v w
steps_join l s r v t u w n k c d = behind l s r t u n c k v w d

-- The engine and the goals of the command stay.
pub course_engine : (l : Limits) (s : State) (t : Told) (n : ℕ) (r : State) (u : Told) → SearchSteps l s t n r u → u.engine ≡ t.engine
course_engine l s t n r u stays = refl
course_engine l s t n r u (goes_to i x y z d is) = course_engine l s t i x z d
course_engine l s t n r u (sees i x z before d f) = course_engine l s t i x z d
course_engine l s t n r u (asked i x z before q next reply update d f is served) = course_engine l s t i x z d

pub course_goals : (l : Limits) (s : State) (t : Told) (n : ℕ) (r : State) (u : Told) → SearchSteps l s t n r u → u.goals ≡ t.goals
course_goals l s t n r u stays = refl
course_goals l s t n r u (goes_to i x y z d is) = course_goals l s t i x z d
course_goals l s t n r u (sees i x z before d f) = course_goals l s t i x z d
course_goals l s t n r u (asked i x z before q next reply update d f is served) = course_goals l s t i x z d
