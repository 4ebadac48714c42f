-- What is written of an engine stays what its number says.
use Rattle.std.proofs.Common.{◌≡◌, ℕ, ◌<◌, ◌==◌, ◌&&◌, ◌||◌, Bool, true, false, Option, Some, None, Result, Ok, Err, refl, sym, ap, subst, ◌∙◌, arith, ne_eqb}
use Rattle.std.specs.Prelude.{length, nat_le, if◌then◌else◌}
use Rattle.pl_term.specs.Tree.{Chars}
use Rattle.run_model.specs.Lawful.{Program, is_goal_number}
use Rattle.engine_run.specs.declared.runner.Lines.{Lines}
use Rattle.engine_run.specs.declared.runner.Lines.TheVariants.{Solutions, Texts}
use Rattle.engine_run.specs.declared.runner.Turn.{Turn}
use Rattle.engine_run.specs.declared.unfinished.Unfinished.{Unfinished}
use Rattle.engine_run.specs.declared.unfinished.Unfinished.TheVariants.{Memory, NeedsAtoms, Waits, Worn}
use Rattle.engine_run.specs.Runners.{Turned}
use Rattle.engine_run.specs.Searched.{UnlessMemory}
use Rattle.pl_sched.specs.Written.{Writing, WritesSo, word_on}

so_still : (p : Program) (file : Chars) (board e : ℕ) (l k : Lines) (f g : Chars) (v w : Option (ℕ × ℕ)) → k ≡ l → g ≡ f → w ≡ v
    → WritesSo p file board e (record { lines = l; file = f; word = v }) → WritesSo p file board e (record { lines = k; file = g; word = w })
so_still p file board e l k f g v w lines same word h = record { lines = lines ∙ h.lines; word_is = word ∙ h.word_is; file_is = λ one. same ∙ h.file_is one }

-- AFTER A TURN it is as it was
pub still : (p : Program) (file : Chars) (board e : ℕ) (l k : Lines) (f g : Chars) (v w : Option (ℕ × ℕ)) → WritesSo p file board e (record { lines = l; file = f; word = v })
    → (r : Turned) → UnlessMemory r (k ≡ l) → UnlessMemory r (g ≡ f) → UnlessMemory r (w ≡ v) → UnlessMemory r (WritesSo p file board e (record { lines = k; file = g; word = w }))
still p file board e l k f g v w h (Ok x) lines same word = so_still p file board e l k f g v w lines same word h
still p file board e l k f g v w h (Err (Waits on at)) lines same word = so_still p file board e l k f g v w lines same word h
still p file board e l k f g v w h (Err (NeedsAtoms q)) lines same word = so_still p file board e l k f g v w lines same word h
still p file board e l k f g v w h (Err (Worn x)) lines same word = so_still p file board e l k f g v w lines same word h
still p file board e l k f g v w h (Err Memory) lines same word = tt

-- what is said of an answer that is this one
pub at_answer : (P : Type 0) (r s : Turned) → r ≡ s → UnlessMemory r P → UnlessMemory s P
at_answer P r s is h = subst (λ (y : Turned). UnlessMemory y P) is h

pub at_stop : (P : Type 0) (r s : Unfinished) → r ≡ s → UnlessMemory {E = Turn} (Err r) P → UnlessMemory {E = Turn} (Err s) P
at_stop P r s is h = subst (λ (y : Unfinished). UnlessMemory {E = Turn} (Err y) P) is h

-- whether it is a goal of the command, for a number above the first engine's
of_goals : (p : Program) (e goals : ℕ) → 1 < e → length p.words ≡ goals → (nat_le 2 e && nat_le e goals) ≡ ((e == 1) || is_goal_number p e)
of_goals p e goals above are =
    ap (λ (n : ℕ). nat_le 2 e && nat_le e n) (sym are)
    ∙ ap (λ (b : Bool). b || is_goal_number p e) (sym (ne_eqb e 1 (λ one. absurd (omega (arith, one, above)))))

-- IT BEGINS so where its number is above the first engine's
pub begins : (p : Program) (file : Chars) (board e goals : ℕ) (l : Lines) (f : Chars) (w : Option (ℕ × ℕ)) → 1 < e → length p.words ≡ goals
    → l ≡ (if (nat_le 2 e && nat_le e goals) then Solutions else Texts)
    → w ≡ (if (nat_le 2 e && nat_le e goals) then Some (board, e) else None)
    → WritesSo p file board e (record { lines = l; file = f; word = w })
begins p file board e goals l f w above are is word =
    record {
      lines = is ∙ ap (λ (b : Bool). if b then Solutions else Texts) (of_goals p e goals above are);
      word_is = word ∙ ap (λ (b : Bool). if b then Some (board, e) else None) (of_goals p e goals above are);
      file_is = λ one. absurd (omega (arith, one, above));
    }

-- the word of a goal of the command, and none of a thread's
pub on_board : (board n : ℕ) (c : Bool) → word_on board (if c then Some n else None) ≡ (if c then Some (board, n) else None)
on_board board n true = refl
on_board board n false = refl
