-- Where an engine stands that is done, and what it has given.
use Rattle.std.proofs.Common.{◌≡◌, ℕ, Bool, true, false, List, [], ◌∷◌, ◌++◌, Option, Some, None, refl, sym, ◌∙◌, ap, arith, eqb-true}
use Rattle.std.specs.Prelude.{◌==◌, encode_utf8_all, length}
use Rattle.std.proofs.lemmas.Bool.{true≢false}
use Rattle.pl_term.specs.Tree.{Chars, Tree, atom}
use Rattle.pl_model.specs.Resolution.{Output, State}
use Rattle.run_model.specs.Execution.{Consulted, Execution, Job, Word}
use Rattle.run_model.specs.Report.{output_of, with_output}
use Rattle.run_model.specs.Execution as executions
use Rattle.atom_api.specs.Names.{Names}
use Rattle.world_api.specs.Texts.{text_of}
use Rattle.world_api.specs.Told.{Told}
use Rattle.script_api.specs.declared.either.Either.TheVariants.{First, Second}
use Rattle.script_api.specs.declared.named_once.NamedOnce.{NamedOnce}
use Rattle.script_api.specs.declared.once.Stage as once_stages
use Rattle.script_api.specs.declared.once.Stage.TheVariants.{Fresh, AtHand, Over as OnceOver}
use Rattle.script_api.specs.Parts.{Part, of_goal, of_directive, with_search}
use Rattle.word_board.specs.declared.word.GoalWord.{GoalWord}
use Rattle.pl_consult.specs.declared.consult.Place.{Place}
use Rattle.pl_consult.specs.declared.consult.Place.TheVariants.{Item, Initialization}
use Rattle.pl_consult.specs.declared.file_script.FileScript.{FileScript}
use Rattle.pl_consult.specs.declared.stage.Stage.{Stage}
use Rattle.pl_consult.specs.declared.stage.Stage.TheVariants.{Items, Clause, Directive, AtDirective, Report, Words, Starts, Goal, AtGoal, Over, Lost}
use Rattle.pl_consult.specs.FileScripts.{execution_of, is_over as is_done, part_in}
use Rattle.pl_consult.specs.GoalWords.{read_of, refusals_of, words_of}
use Rattle.pl_consult.specs.Hands.{StandsThere, between, at_item, at_end}
use Rattle.pl_consult.specs.Steps.{activity_in, part_of}
use Rattle.pl_consult.specs.TextLaws.{start_output}
use Rattle.engine_run.specs.declared.runner.Lines.{Lines}
use Rattle.engine_run.specs.declared.runner.Lines.TheVariants.{Solutions, Texts}
use Rattle.engine_run.specs.declared.runner.Stage.{Stage as RunnerStage}
use Rattle.engine_run.specs.declared.runner.Stage.TheVariants as stages
use Rattle.engine_run.specs.Runners.{OutIs, StageIs, StageStands, is_over, put_by}
use Rattle.toplevel.specs.Scripts.{Scripts, executed, over_at, part_at, variables_at}

-- Where nothing is put, nothing is written.
none_put : (l : Lines) (names : List (Chars × ℕ)) → encode_utf8_all (put_by l names [] []) ≡ []
none_put Texts names = refl
none_put Solutions names = refl

-- A script by itself has given nothing.
file_silent : (job : Job) (place : Place) (g : Stage) → executions.texts_of [] ≡ [] → output_of (record { activity = activity_in job place g; consulted = []; later = []; words = []; refusals = []; output = [] }) ≡ []
file_silent job (Item at) Items e = refl
file_silent job Initialization Items e = refl
file_silent job place (Clause t at ops) e = refl
file_silent job place (Directive goal at) e = refl
file_silent job place (AtDirective at) e = refl
file_silent job place (Report at how) e = refl
file_silent job place Words e = refl
file_silent job place (Starts ops first goals at) e = refl
file_silent job place (Goal goal) e = start_output job.limits goal
file_silent job place AtGoal e = refl
file_silent job place Over e = refl
file_silent job place Lost e = refl

file_quiet : (s : FileScript) (job : Job) (cs : List Consulted) → output_of (execution_of s job cs) ≡ []
file_quiet s job cs = file_silent job s.consult.place s.stage refl

once_quiet : (text : ℕ → Chars) (g : once_stages.Stage Tree) (b : NamedOnce Tree) (job : Job) (cs : List Consulted) → b.once.stage ≡ g → output_of (executed text (Second b) job cs) ≡ []
once_quiet text (Fresh t) b job cs is = rw is refl
once_quiet text AtHand b job cs is = rw is refl
once_quiet text OnceOver b job cs is = rw is refl

once_empty : (text : ℕ → Chars) (g : once_stages.Stage Tree) (b : NamedOnce Tree) (job : Job) (cs : List Consulted) → b.once.stage ≡ g → (executed text (Second b) job cs).output ≡ []
once_empty text (Fresh t) b job cs is = rw is refl
once_empty text AtHand b job cs is = rw is refl
once_empty text OnceOver b job cs is = rw is refl

quiet : (text : ℕ → Chars) (s : Scripts) (job : Job) (cs : List Consulted) → output_of (executed text s job cs) ≡ []
quiet text (First a) job cs = file_quiet a job cs
quiet text (Second b) job cs = once_quiet text b.once.stage b job cs refl

empty : (text : ℕ → Chars) (s : Scripts) (job : Job) (cs : List Consulted) → (executed text s job cs).output ≡ []
empty text (First a) job cs = refl
empty text (Second b) job cs = once_empty text b.once.stage b job cs refl

-- What a search has given.
out_there : (l : Lines) (names : List (Chars × ℕ)) (p : Part) (os : List Output) (bytes : List ℕ) (x : Execution) (s : State) → s.output ≡ os → x.output ≡ []
    → OutIs l names p os bytes
    → bytes ≡ encode_utf8_all (put_by l names [] (output_of (with_search x p s)))
out_there l names of_goal os bytes x s is none h = h ∙ ap (λ (zs : List Output). encode_utf8_all (put_by l names [] zs)) (sym is)
out_there l names (of_directive place rest) os bytes x s is none h =
    h ∙ sym (none_put l names) ∙ ap (λ (zs : List Output). encode_utf8_all (put_by l names [] zs)) (sym none)

-- What the engine has given is what is written of its execution.
pub given_by : (m : Names) (t : Told) (s : Scripts) (job : Job) (cs : List Consulted) (l : Lines) (out : List ℕ) (g : RunnerStage) (x : Execution)
    → StageStands executed part_at m t s job cs l (variables_at s) out g x
    → out ≡ encode_utf8_all (put_by l (variables_at s) [] (output_of x))
given_by m t s job cs l out stages.Asks x h =
    h.1
    ∙ sym (none_put l (variables_at s))
    ∙ ap (λ (zs : List Output). encode_utf8_all (put_by l (variables_at s) [] zs)) (sym (quiet (text_of m) s job cs))
    ∙ ap (λ (y : Execution). encode_utf8_all (put_by l (variables_at s) [] (output_of y))) (sym h.0)
given_by m t s job cs l out (stages.Directs e) x h =
    out_there l (variables_at s) h.item h.written out (executed (text_of m) s job cs) _ refl (empty (text_of m) s job cs) h.out_is
    ∙ ap (λ (y : Execution). encode_utf8_all (put_by l (variables_at s) [] (output_of y))) (sym h.is)
given_by m t s job cs l out (stages.Searches e) x h =
    out_there l (variables_at s) h.item h.written out (executed (text_of m) s job cs) _ refl (empty (text_of m) s job cs) h.out_is
    ∙ ap (λ (y : Execution). encode_utf8_all (put_by l (variables_at s) [] (output_of y))) (sym h.is)
given_by m t s job cs l out stages.Over x h =
    h.out_is ∙ ap (λ (y : Execution). encode_utf8_all (put_by l (variables_at s) [] (output_of y))) (sym h.is)

-- The first engine stands where its script does.
pub there_at : (m : Names) (t : Told) (s : FileScript) (job : Job) (cs : List Consulted) (l : Lines) (out : List ℕ) (g : RunnerStage) (x : Execution)
    → StageIs part_at m t (First s) g
    → is_done s.stage ≡ is_over g
    → StageStands executed part_at m t (First s) job cs l (variables_at (First s)) out g x
    → StandsThere s job cs x
there_at m t s job cs l out stages.Asks x none over h = between none over h.0
there_at m t s job cs l out (stages.Directs e) x at over h = at_item h.item _ h.at_hand h.is
there_at m t s job cs l out (stages.Searches e) x at over h = at_item h.item _ h.at_hand h.is
there_at m t s job cs l out stages.Over x at over h = at_end h.ending h.written over h.is

-- What it has read and refused is what the script has.
search_words : (x : Execution) (item : Part) (s : State) → (with_search x item s).words ≡ x.words
search_words x of_goal s = refl
search_words x (of_directive place rest) s = refl

search_refusals : (x : Execution) (item : Part) (s : State) → (with_search x item s).refusals ≡ x.refusals
search_refusals x of_goal s = refl
search_refusals x (of_directive place rest) s = refl

pub words_there : (s : FileScript) (job : Job) (cs : List Consulted) (x : Execution) → StandsThere s job cs x → x.words ≡ words_of (read_of s.read)
words_there s job cs x (between none over is) = ap (λ (y : Execution). y.words) is
words_there s job cs x (at_item p state at is) = ap (λ (y : Execution). y.words) is ∙ search_words (execution_of s job cs) p state
words_there s job cs x (at_end ending os over is) = ap (λ (y : Execution). y.words) is

pub refusals_there : (s : FileScript) (job : Job) (cs : List Consulted) (x : Execution) → StandsThere s job cs x → x.refusals ≡ refusals_of s.refused.items
refusals_there s job cs x (between none over is) = ap (λ (y : Execution). y.refusals) is
refusals_there s job cs x (at_item p state at is) = ap (λ (y : Execution). y.refusals) is ∙ search_refusals (execution_of s job cs) p state
refusals_there s job cs x (at_end ending os over is) = ap (λ (y : Execution). y.refusals) is

-- A script that is over has no item at hand.
pub over_no_part : (place : Place) (g : Stage) → is_done g ≡ true → part_of place g ≡ None
over_no_part place Over over_is = refl
over_no_part place Items over_is = refl
over_no_part place (Clause t at ops) over_is = refl
over_no_part place (Directive goal at) over_is = refl
over_no_part place (AtDirective at) over_is = absurd (true≢false (sym over_is))
over_no_part place (Report at how) over_is = refl
over_no_part place Words over_is = refl
over_no_part place (Starts ops first goals at) over_is = refl
over_no_part place (Goal goal) over_is = refl
over_no_part place AtGoal over_is = absurd (true≢false (sym over_is))
over_no_part place Lost over_is = refl

-- What a script tells of its words, whatever its job.
pub no_job : Job
no_job = record { script = executions.runs (atom []); limits = record { inferences = 0; cells = 0; choices = 0; solutions = 0; stays = None } }

pub none_read : (ws : List GoalWord) → words_of ws ≡ [] → ws ≡ []
none_read [] is = refl
none_read (w ∷ ws) is = absurd (let no : ⊥ = cc in no)

-- A list of no length is empty.
no_length : {X : Type 0} (xs : List X) → length xs ≡ 0 → xs ≡ []
no_length [] none = refl
no_length (x ∷ xs) none = absurd (omega (arith, none))

pub empty_length : {X : Type 0} {b : Bool} (xs : List X) → b ≡ (length xs == 0) → b ≡ true → xs ≡ []
empty_length xs is passed = no_length xs (eqb-true (length xs) 0 (sym is ∙ passed))

pub length_none : {X : Type 0} (n : ℕ) (xs : List X) → n ≡ length xs → n ≡ 0 → xs ≡ []
length_none n xs is none = no_length xs (sym is ∙ none)
