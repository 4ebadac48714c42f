-- The steps of a search are a way of each execution that they are a part of.
use Rattle.std.proofs.Common.{◌≡◌, ℕ, suc, ◌+◌, [], ◌∷◌, ◌++◌, length, refl, ap, sym, ◌∙◌, arith, subst}
use Rattle.pl_model.specs.History.{History}
use Rattle.pl_model.specs.Requests.{Request, Reply}
use Rattle.pl_model.specs.Service.{entry_by}
use Rattle.pl_model.specs.Resolution.{Limits, State, Next, goes, asks}
use Rattle.pl_model.specs.Control.{step}
use Rattle.run_model.specs.Execution.{Job, Execution, Move, moves, requests, move, directed, searched}
use Rattle.run_model.specs.Progress.{Reached}
use Rattle.run_model.proofs.Progress.{reached_later}
use Rattle.world_api.specs.Told.{Told, Follows}
use Rattle.world_api.specs.Answers.{seen_as}
use Rattle.world_api.specs.SearchSteps.{SearchSteps, stays, goes_to, sees, asked}
use Rattle.script_api.specs.Parts.{Part, of_goal, of_directive, limits_of, with_search, seen_in}
use Rattle.script_api.specs.Comes.{ComesIn}
use Rattle.script_api.proofs.ComesLaws.{comes_same, comes_by_move, comes_by_request, comes_then}

-- The move of an execution that a step of its search is.
abbrev moved : Execution → Part → State → Next → Move
moved x of_goal s n = searched (with_search x of_goal s) s n
moved x (of_directive place rest) s n = directed (with_search x (of_directive place rest) s) place rest s n

moves_by : (job : Job) (x : Execution) (part : Part) (s : State) → move job (with_search x part s) ≡ moved x part s (step (limits_of job part) s)
unfolding move
moves_by job x of_goal s = refl
moves_by job x (of_directive place rest) s = refl

moved_goes : (x : Execution) (part : Part) (s r : State) → moved x part s (goes r) ≡ moves (with_search x part r)
moved_goes x of_goal s r = refl
moved_goes x (of_directive place rest) s r = refl

moved_asks : (x : Execution) (part : Part) (s : State) (q : Request) (next : Reply → State)
    → moved x part s (asks q next) ≡ requests q (λ r. with_search x part (next r))
moved_asks x of_goal s q next = refl
moved_asks x (of_directive place rest) s q next = refl

-- Others made entries.
sees_others : (job : Job) (x : Execution) (t : Told) (before : History) → Follows t.engine t.history before → ComesIn job 0 x t x (seen_as t before t.gens)
sees_others job x t before f =
    record {
      engine = refl;
      goals = refl;
      comes =
          λ low m r.
          subst
          (λ (h : History). Reached t.engine t.goals job low (record { execution = x; history = h; gens = t.gens }) (0 + m))
          (sym f.grown)
          (subst
          (λ (k : ℕ). Reached t.engine t.goals job low (record { execution = x; history = t.history ++ f.later; gens = t.gens }) k)
          (let e : m ≡ 0 + m = omega arith in e)
          (reached_later t.engine t.goals job low (seen_in t x) m f.later f.others r));
    }

module _ (l : Limits) (job : Job) (x : Execution) (part : Part) (same : limits_of job part ≡ l) where
  move_goes : (s r : State) → step l s ≡ goes r → move job (with_search x part s) ≡ moves (with_search x part r)
  move_goes s r is = moves_by job x part s ∙ ap (λ k. moved x part s (step k s)) same ∙ ap (moved x part s) is ∙ moved_goes x part s r

  move_asks : (s : State) (q : Request) (next : Reply → State)
      → step l s ≡ asks q next
      → move job (with_search x part s) ≡ requests q (λ r. with_search x part (next r))
  move_asks s q next is = moves_by job x part s ∙ ap (λ k. moved x part s (step k s)) same ∙ ap (moved x part s) is ∙ moved_asks x part s q next

  numbered : (n k : ℕ) (s r : State) (t u : Told) → n ≡ k → ComesIn job n (with_search x part s) t (with_search x part r) u → ComesIn job k (with_search x part s) t (with_search x part r) u
  numbered n k s r t u e c = subst (λ (i : ℕ). ComesIn job i (with_search x part s) t (with_search x part r) u) e c

  comes : (s : State) (t : Told) (n : ℕ) (r : State) (u : Told) → SearchSteps l s t n r u → ComesIn job n (with_search x part s) t (with_search x part r) u
  comes s t n r u stays = comes_same job (with_search x part s) (with_search x part s) t refl
  comes s t n r u (goes_to i y v w c is) =
      numbered (1 + i) (suc i) s v t w (omega arith)
      (comes_then job (with_search x part s) (with_search x part y) (with_search x part v) t w w i 1 (comes s t i y w c)
      (comes_by_move job (with_search x part y) (with_search x part v) w (move_goes y v is)))
  comes s t n r u (sees i y w before c f) =
      numbered (0 + i) i s y t (seen_as w before w.gens) (omega arith)
      (comes_then job (with_search x part s) (with_search x part y) (with_search x part y) t w (seen_as w before w.gens) i 0 (comes s t i y w c)
      (sees_others job (with_search x part y) w before f))
  comes s t n r u (asked i y w before q next reply update c f is served) =
      let there : Told = seen_as w (before ++ entry_by w.engine update) (w.gens ++ length before ∷ [])
      in numbered (1 + i) (suc i) s (next reply) t there (omega arith)
      (comes_then job (with_search x part s) (with_search x part y) (with_search x part (next reply)) t w there i 1 (comes s t i y w c)
      (comes_by_request job (with_search x part y) q (λ a. with_search x part (next a)) w there before reply update (move_asks y q next is) f served refl))

pub steps_come : (l : Limits) (s r : State) (t u : Told) (n : ℕ) (job : Job) (x : Execution) (part : Part)
    → limits_of job part ≡ l
    → SearchSteps l s t n r u
    → ComesIn job n (with_search x part s) t (with_search x part r) u
steps_come l s r t u n job x part same c = comes l job x part same s t n r u c
