-- What is kept of an engine of a further goal, or of a thread.
use Rattle.std.proofs.Common.{◌≡◌, ◌≤◌, ◌<◌, ◌==◌, ◌&&◌, ℕ, Bool, true, false, List, [], ◌∷◌, Option, refl, sym, ◌∙◌, ap, subst, arith, ne_eqb}
use Rattle.std.specs.Prelude.{◌||◌, encode_utf8_all, if◌then◌else◌, length, nat_le}
use Rattle.std.proofs.lemmas.Bool.{and_parts, leb-true}
use Rattle.pl_term.specs.Tree.{Chars, Tree}
use Rattle.pl_model.specs.History.{History}
use Rattle.pl_model.specs.Resolution.{Output}
use Rattle.run_model.specs.Execution.{Word}
use Rattle.run_model.specs.Lawful.{Program, is_goal_number}
use Rattle.run_model.specs.Report.{output_of}
use Rattle.script_api.specs.declared.either.Either.TheVariants.{First, Second}
use Rattle.script_api.specs.declared.named_once.NamedOnce.{NamedOnce}
use Rattle.script_api.specs.WordNames.{names_told}
use Rattle.engine_run.specs.declared.runner.Lines.{Lines}
use Rattle.engine_run.specs.declared.runner.Lines.TheVariants.{Solutions, Texts}
use Rattle.engine_run.specs.Runners.{put_by}
use Rattle.pl_sched.specs.Written.{lines_of}
use Rattle.run_report.specs.Parts.{names_at}
use Rattle.toplevel.specs.declared.opened.OpenedEngine.{OpenedEngine}
use Rattle.toplevel.specs.Opened.{IsOpened, stood_of}
use Rattle.toplevel.specs.Others.{HasGiven, IsNamedSo, IsOther}
use Rattle.toplevel.specs.Scripts.{Scripts, variables_at}
use Rattle.toplevel.proofs.StandingLaws.{given_by}

-- The names of the variables of a thread's goal are not written.
put_texts : (l : Lines) (names others : List (Chars × ℕ)) (os : List Output) → l ≡ Texts → put_by l names [] os ≡ put_by l others [] os
put_texts l names others os is = ap (λ (k : Lines). put_by k names [] os) is ∙ ap (λ (k : Lines). put_by k others [] os) (sym is)

of_lines : (p : Program) (e : ℕ) (b : Bool) → 1 < e → is_goal_number p e ≡ b → lines_of p e ≡ (if b then Solutions else Texts)
of_lines p e b above is =
    ap (λ (c : Bool). if c || is_goal_number p e then Solutions else Texts) (ne_eqb e 1 (λ one. absurd (omega (arith, one, above))))
    ∙ ap (λ (c : Bool). if c then Solutions else Texts) is

-- The script is a goal with these names, or any where it is a thread's.
abbrev NamesFit : Program → ℕ → List (Chars × ℕ) → List (Chars × ℕ) → Type 0
NamesFit p e names own = e ≤ length p.words → names ≡ own

put_so : (p : Program) (e : ℕ) (names own : List (Chars × ℕ)) (os : List Output) → 1 < e → NamesFit p e names own → put_by (lines_of p e) names [] os ≡ put_by (lines_of p e) own [] os
put_so p e names own os above fit = go (is_goal_number p e) refl
  where
    go : (b : Bool) → is_goal_number p e ≡ b → put_by (lines_of p e) names [] os ≡ put_by (lines_of p e) own [] os
    go true is = ap (λ (ns : List (Chars × ℕ)). put_by (lines_of p e) ns [] os) (fit (within is))
      where
        within : is_goal_number p e ≡ true → e ≤ length p.words
        within passed = let both = and_parts (nat_le 2 e) (nat_le e (length p.words)) passed in leb-true e (length p.words) both.1
    go false is = put_texts (lines_of p e) names own os (of_lines p e false above is)

pub other_so : (p : Program) (file : Chars) (board : ℕ) (h : History) (o : OpenedEngine) (op : IsOpened p file board h o) (ws : List Word) (goals : ℕ)
    → goals ≡ length p.words
    → 1 < op.carried.number
    → IsNamedSo o.script op.carried.number ws goals
    → IsOther p h ws op.carried o.front o.part
other_so p file board h o op ws goals counted above named =
    record { left = op.left; front = op.front; given = given }
  where
    by_script : (s : Scripts) → op.runner.script ≡ s → IsNamedSo s op.carried.number ws goals → NamesFit p op.carried.number (variables_at op.runner.script) (names_at op.carried.number ws)
    by_script (First a) is fits within = absurd fits
    by_script (Second b) is fits within =
        ap variables_at is ∙ fits (subst (λ (g : ℕ). op.carried.number ≤ g) (sym counted) within)

    given : HasGiven p ws o.part op.carried.number (stood_of op.carried)
    given =
        op.output
        ∙ given_by op.held op.told op.runner.script op.carried.job op.stands.consulted op.runner.lines op.runner.output.items op.runner.stage (stood_of op.carried) op.stands.stands
        ∙ ap (λ (l : Lines). encode_utf8_all (put_by l (variables_at op.runner.script) [] (output_of (stood_of op.carried)))) op.writes.lines
        ∙ ap encode_utf8_all
        (put_so p op.carried.number (variables_at op.runner.script) (names_at op.carried.number ws) (output_of (stood_of op.carried)) above
        (by_script o.script (sym op.script) named))
