-- How an execution comes to a later one: by a move of its own, by a request that is answered, and by one way after another.
use Rattle.std.proofs.Common.{◌≡◌, ℕ, suc, ◌+◌, [], ◌∷◌, ◌++◌, length, Option, refl, sym, ◌∙◌, arith, subst}
use Rattle.pl_model.specs.History.{Kind, History}
use Rattle.pl_model.specs.Requests.{Request, Reply}
use Rattle.pl_model.specs.Service.{answers, entry_by, served_now}
use Rattle.run_model.specs.Execution.{Job, Execution, moves, requests, move}
use Rattle.run_model.specs.Progress.{Reached}
use Rattle.run_model.proofs.Progress.{reached_later, reached_goes, reached_asks}
use Rattle.world_api.specs.Told.{Told, Follows}
use Rattle.world_api.specs.Answers.{seen_as}
use Rattle.script_api.specs.Parts.{seen_in}
use Rattle.script_api.specs.Comes.{ComesIn, ComesBy}

pub comes_same : (job : Job) (x y : Execution) (t : Told) → x ≡ y → ComesIn job 0 x t y t
comes_same job x y t same =
    record {
      engine = refl;
      goals = refl;
      comes =
          λ low m r.
          subst
          (λ (z : Execution). Reached t.engine t.goals job low (seen_in t z) (0 + m))
          same
          (subst (λ (k : ℕ). Reached t.engine t.goals job low (seen_in t x) k) (let e : m ≡ 0 + m = omega arith in e) r);
    }

pub comes_by_move : (job : Job) (x y : Execution) (t : Told) → move job x ≡ moves y → ComesIn job 1 x t y t
comes_by_move job x y t is =
    record {
      engine = refl;
      goals = refl;
      comes =
          λ low m r.
          subst
          (λ (k : ℕ). Reached t.engine t.goals job low (seen_in t y) k)
          (let e : suc m ≡ 1 + m = omega arith in e)
          (reached_goes
          t.engine
          t.goals
          job
          low
          (seen_in t x)
          (seen_in t y)
          m
          (record { moves_is = is; history_is = refl; gens_is = refl })
          r);
    }

pub comes_by_request : (job : Job) (x : Execution) (q : Request) (next : Reply → Execution) (t u : Told) (before : History) (reply : Reply) (update : Option Kind)
    → move job x ≡ requests q next
    → Follows t.engine t.history before
    → served_now t.engine t.goals before q ≡ answers reply update
    → u ≡ seen_as t (before ++ entry_by t.engine update) (t.gens ++ length before ∷ [])
    → ComesIn job 1 x t (next reply) u
comes_by_request job x q next t u before reply update is follows served told =
    subst
    (λ (w : Told). ComesIn job 1 x t (next reply) w)
    (sym told)
    (record {
      engine = refl;
      goals = refl;
      comes =
          λ low m r.
          let later : Reached t.engine t.goals job low (record { execution = x; history = before; gens = t.gens }) m =
          subst
          (λ (h : History). Reached t.engine t.goals job low (record { execution = x; history = h; gens = t.gens }) m)
          (sym follows.grown)
          (reached_later t.engine t.goals job low (seen_in t x) m follows.later follows.others r)
          in subst
          (λ (k : ℕ). Reached t.engine t.goals job low (seen_in (seen_as t (before ++ entry_by t.engine update) (t.gens ++ length before ∷ [])) (next reply)) k)
          (let e : suc m ≡ 1 + m = omega arith in e)
          (reached_asks
          t.engine
          t.goals
          job
          low
          (record { execution = x; history = before; gens = t.gens })
          (seen_in (seen_as t (before ++ entry_by t.engine update) (t.gens ++ length before ∷ [])) (next reply))
          m
          (record {
            request = q;
            next = next;
            reply = reply;
            update = update;
            asks_is = is;
            served = served;
            execution_is = refl;
            history_is = refl;
            gens_is = refl;
          })
          later);
    })

-- One way after another.
pub comes_then : (job : Job) (x y z : Execution) (t u v : Told) (n k : ℕ) → ComesIn job n x t y u → ComesIn job k y u z v → ComesIn job (k + n) x t z v
comes_then job x y z t u v n k c d =
    record {
      engine = d.engine ∙ c.engine;
      goals = d.goals ∙ c.goals;
      comes =
          λ low m r.
          let there : Reached u.engine u.goals job low (seen_in u y) (n + m) =
          subst
          (λ (e : ℕ). Reached e u.goals job low (seen_in u y) (n + m))
          (sym c.engine)
          (subst
          (λ (g : ℕ). Reached t.engine g job low (seen_in u y) (n + m))
          (sym c.goals)
          (c.comes low m r))
          in let then : Reached u.engine u.goals job low (seen_in v z) (k + (n + m)) =
          d.comes low (n + m) there
          in subst
          (λ (e : ℕ). Reached e t.goals job low (seen_in v z) ((k + n) + m))
          c.engine
          (subst
          (λ (g : ℕ). Reached u.engine g job low (seen_in v z) ((k + n) + m))
          c.goals
          (subst
          (λ (i : ℕ). Reached u.engine u.goals job low (seen_in v z) i)
          (let e : k + (n + m) ≡ (k + n) + m = omega arith in e)
          then));
    }

-- The same, where the moves were counted.
pub by_same : (job : Job) (x y : Execution) (t : Told) (a : ℕ) → x ≡ y → ComesBy job x t a y t a
by_same job x y t a same = record { moves = 0; comes = comes_same job x y t same; counted = omega arith }

pub by_move : (job : Job) (x y : Execution) (t : Told) (a b : ℕ) → move job x ≡ moves y → 1 + a ≡ b → ComesBy job x t a y t b
by_move job x y t a b is counted = record { moves = 1; comes = comes_by_move job x y t is; counted = counted }

pub by_request : (job : Job) (x : Execution) (q : Request) (next : Reply → Execution) (t u : Told) (before : History) (reply : Reply) (update : Option Kind) (a b : ℕ)
    → move job x ≡ requests q next
    → Follows t.engine t.history before
    → served_now t.engine t.goals before q ≡ answers reply update
    → u ≡ seen_as t (before ++ entry_by t.engine update) (t.gens ++ length before ∷ [])
    → 1 + a ≡ b
    → ComesBy job x t a (next reply) u b
by_request job x q next t u before reply update a b is follows served told counted =
    record { moves = 1; comes = comes_by_request job x q next t u before reply update is follows served told; counted = counted }

pub by_then : (job : Job) (x y z : Execution) (t u v : Told) (a b c : ℕ) → ComesBy job x t a y u b → ComesBy job y u b z v c → ComesBy job x t a z v c
by_then job x y z t u v a b c first second =
    record {
      moves = second.moves + first.moves;
      comes = comes_then job x y z t u v first.moves second.moves first.comes second.comes;
      counted = (let p = first.counted in let q = second.counted in omega (arith, p, q));
    }
