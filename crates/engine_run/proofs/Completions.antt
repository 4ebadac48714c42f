-- A run of the first engine, as far as it has come, with its end.
use Rattle.std.proofs.Common.{◌≡◌, ℕ, ◌+◌, zero, length, sym, subst, ◌∙◌}
use Rattle.pl_term.specs.Tree.{Tree}
use Rattle.pl_model.specs.declared.ends.How.{How}
use Rattle.run_model.specs.Execution.{Execution, Job, over}
use Rattle.run_model.specs.Lawful.{EndsSo, IsComplete, Program, main_job}
use Rattle.pl_model.specs.History.{AllPlain}
use Rattle.run_model.specs.Progress.{Alone, Reached, WaitsNow, told_at_end, told_waiting}
use Rattle.pl_model.specs.Resolution.{Ending}
use Rattle.run_model.proofs.LawfulAlone.{alone_end, alone_wait}
use Rattle.script_api.specs.Parts.{seen_in}
use Rattle.script_api.specs.Comes.{ComesBy}
use Rattle.world_api.specs.Told.{Told}

-- The first engine is alone where it has come to.
alone_there : (goals : ℕ) (job : Job) (t u : Told) (x y : Execution) (n k : ℕ) → t.engine ≡ 1 → t.goals ≡ goals
    → Alone goals job (seen_in t x) n → ComesBy job x t n y u k → AllPlain 1 u.history → Alone goals job (seen_in u y) k
alone_there goals job t u x y n k engine all alone c plain =
    record {
      reached =
          subst (λ (i : ℕ). Reached 1 goals job zero (seen_in u y) i) c.counted
          (subst (λ (e : ℕ). Reached e goals job zero (seen_in u y) (c.moves + n)) engine
          (subst (λ (g : ℕ). Reached t.engine g job zero (seen_in u y) (c.moves + n)) all
          (c.comes.comes zero n
          (subst (λ (g : ℕ). Reached t.engine g job zero (seen_in t x) n) (sym all)
          (subst (λ (e : ℕ). Reached e goals job zero (seen_in t x) n) (sym engine) alone.reached)))));
      plain = plain;
    }

pub completes_ended : (p : Program) (t u : Told) (x y : Execution) (n k : ℕ) (ending : Ending) (how : How Tree)
    → t.engine ≡ 1
    → t.goals ≡ length p.words
    → Alone (length p.words) (main_job p) (seen_in t x) n
    → ComesBy (main_job p) x t n y u k
    → AllPlain 1 u.history
    → y.activity ≡ over ending
    → EndsSo ending how
    → IsComplete p (told_at_end (seen_in u y) how k)
completes_ended p t u x y n k ending how engine all alone c plain is so =
    alone_end p (seen_in u y) k ending how (alone_there (length p.words) (main_job p) t u x y n k engine all alone c plain) is so

pub completes_waiting : (p : Program) (t u : Told) (x y : Execution) (n k : ℕ)
    → t.engine ≡ 1
    → t.goals ≡ length p.words
    → Alone (length p.words) (main_job p) (seen_in t x) n
    → ComesBy (main_job p) x t n y u k
    → AllPlain 1 u.history
    → WaitsNow u.engine u.goals (main_job p) (seen_in u y)
    → IsComplete p (told_waiting (seen_in u y))
completes_waiting p t u x y n k engine all alone c plain waits =
    alone_wait p (seen_in u y) k (alone_there (length p.words) (main_job p) t u x y n k engine all alone c plain)
    (subst (λ (e : ℕ). WaitsNow e (length p.words) (main_job p) (seen_in u y)) (c.comes.engine ∙ engine)
    (subst (λ (g : ℕ). WaitsNow u.engine g (main_job p) (seen_in u y)) (c.comes.goals ∙ all) waits))
