-- What is written of the file, and what is at hand, from one turn to the next.
use Rattle.std.proofs.Common.{◌≡◌, ℕ, List, [], ◌∷◌, ◌++◌, Bool, true, false, Option, None, Some, refl, sym, ap, ◌∙◌, append-nil, append_assoc}
use Rattle.std.specs.Prelude.{encode_utf8_all, ◌||◌}
use Rattle.std.specs.List.{All, AllByRecursion}
use Rattle.std.proofs.lemmas.List.Elements.{All-from_recursion, recursion_from_All}
use Rattle.std.proofs.lemmas.Bool.{true≢false}
use Rattle.pl_term.specs.Tree.{Chars, Tree}
use Rattle.pl_model.specs.Resolution.{Ending, Output, solution, State}
use Rattle.pl_model.specs.Resolution.{text as text_out}
use Rattle.run_model.specs.Execution.{Job, Consulted, wrote, Execution, texts_of}
use Rattle.run_model.specs.Report.{all_consulted, texts, with_consulted}
use Rattle.pl_model.specs.declared.ends.How.{How}
use Rattle.script_api.specs.Parts.{Part, of_goal, of_directive, limits_of, with_search}
use Rattle.script_api.specs.Scripts.{LeavesOff, is_directive, is_fault, some_fault, written_at}
use Rattle.engine_run.specs.declared.runner.Lines.{Lines}
use Rattle.engine_run.specs.Items.{IsDirectiveAsked, IsText}
use Rattle.engine_run.specs.Runners.{OutIs, put_by}
use Rattle.engine_run.proofs.Outputs.{put-append}

or_false : (b : Bool) → (b || false) ≡ b
or_false true = refl
or_false false = refl

or_assoc : (b c d : Bool) → ((b || c) || d) ≡ (b || (c || d))
or_assoc true c d = refl
or_assoc false c d = refl

-- What is written of the file

consulted-append : (name : Chars) (xs : List Consulted) (t : Chars) (ys : List Consulted) → all_consulted name t (xs ++ ys) ≡ all_consulted name (all_consulted name t xs) ys
consulted-append name [] t ys = refl
consulted-append name (x ∷ xs) t ys = consulted-append name xs (with_consulted name t x) ys

texts_consulted : (name t : Chars) (os : List Output) → texts t os ≡ all_consulted name t (texts_of os)
texts_consulted name t [] = refl
texts_consulted name t (text_out u ∷ os) = texts_consulted name (t ++ u) os
texts_consulted name t (solution ops ts ∷ os) = texts_consulted name t os

abbrev pub bytes_of : Chars → List Consulted → List ℕ
bytes_of name cs = encode_utf8_all (all_consulted name [] cs)

-- After what a directive has written.
bytes_behind : (name : Chars) (cs : List Consulted) (os : List Output) (bytes : List ℕ) → bytes ≡ encode_utf8_all (texts (all_consulted name [] cs) os)
    → bytes ≡ bytes_of name (cs ++ texts_of os)
bytes_behind name cs os bytes is =
    is
    ∙ ap encode_utf8_all
    (texts_consulted name (all_consulted name [] cs) os ∙ sym (consulted-append name cs [] (texts_of os)))

fault-append : (xs ys : List Consulted) → some_fault (xs ++ ys) ≡ (some_fault xs || some_fault ys)
fault-append [] ys = refl
fault-append (x ∷ xs) ys = ap (λ b. is_fault x || b) (fault-append xs ys) ∙ sym (or_assoc (is_fault x) (some_fault xs) (some_fault ys))

no_fault : (os : List Output) → some_fault (texts_of os) ≡ false
no_fault [] = refl
no_fault (text_out u ∷ os) = no_fault os
no_fault (solution ops ts ∷ os) = no_fault os

-- What a directive writes is no fault.
fault_same : (cs : List Consulted) (os : List Output) → some_fault (cs ++ texts_of os) ≡ some_fault cs
fault_same cs os = fault-append cs (texts_of os) ∙ ap (λ b. some_fault cs || b) (no_fault os) ∙ or_false (some_fault cs)

written-append : (xs ys : List Output) → texts_of (xs ++ ys) ≡ texts_of xs ++ texts_of ys
written-append [] ys = refl
written-append (text_out u ∷ xs) ys = ap (λ l. wrote u ∷ l) (written-append xs ys)
written-append (solution ops ts ∷ xs) ys = written-append xs ys

-- What is written of a file where a directive is searched, and where the goal is.
written_in : (x : Execution) (p : Part) (s : State) (cs : List Consulted) → is_directive p ≡ true → x.consulted ≡ cs
    → written_at (with_search x p s) ≡ cs ++ texts_of s.output
written_in x of_goal s cs is lines = absurd (true≢false (sym is))
written_in x (of_directive place rest) s cs is lines = ap (λ ds. ds ++ texts_of s.output) lines

pub written_goal : (x : Execution) (p : Part) (s : State) (cs : List Consulted) → is_directive p ≡ false → x.consulted ≡ cs → written_at (with_search x p s) ≡ cs
written_goal x of_goal s cs is lines = ap (λ ds. ds ++ []) lines ∙ append-nil cs
written_goal x (of_directive place rest) s cs is lines = absurd (true≢false is)

-- The text where the same is written.
pub text_same : (name : Chars) (kept : Bool) (x y : Execution) (bytes : List ℕ) → written_at y ≡ written_at x → IsText name kept x bytes → IsText name kept y bytes
text_same name kept x y bytes same w = (w.0 ∙ ap (bytes_of name) (sym same), ap some_fault same ∙ w.1)

-- The text where these lines are.
pub text_of_lines : (name : Chars) (kept : Bool) (y : Execution) (cs : List Consulted) (bytes : List ℕ) → written_at y ≡ cs → bytes ≡ bytes_of name cs → some_fault cs ≡ kept
    → IsText name kept y bytes
text_of_lines name kept y cs bytes is w faults = (w ∙ ap (bytes_of name) (sym is), ap some_fault is ∙ faults)

-- The text after more that a directive has written.
pub text_on : (name : Chars) (kept : Bool) (x y z v : Execution) (p : Part) (r s : State) (cs : List Consulted) (more : List Output) (bytes new : List ℕ)
    → is_directive p ≡ true
    → z.consulted ≡ cs
    → v.consulted ≡ cs
    → x ≡ with_search z p r
    → y ≡ with_search v p s
    → s.output ≡ r.output ++ more
    → IsText name kept x bytes
    → ((front : Chars) → bytes ≡ encode_utf8_all front → new ≡ encode_utf8_all (texts front more))
    → IsText name kept y new
text_on name kept x y z v p r s cs more bytes new directive lines lines' at there grown w out =
    let before : written_at x ≡ cs ++ texts_of r.output = ap written_at at ∙ written_in z p r cs directive lines
    in let after : written_at y ≡ cs ++ texts_of s.output = ap written_at there ∙ written_in v p s cs directive lines'
    in let grew : written_at y ≡ written_at x ++ texts_of more =
    after
    ∙ ap (λ os. cs ++ texts_of os) grown
    ∙ ap (λ l. cs ++ l) (written-append r.output more)
    ∙ sym (append_assoc cs (texts_of r.output) (texts_of more))
    ∙ ap (λ l. l ++ texts_of more) (sym before)
    in (
      bytes_behind name (written_at x) more new (out (all_consulted name [] (written_at x)) w.0) ∙ ap (bytes_of name) (sym grew),
      ap some_fault grew ∙ fault_same (written_at x) more ∙ w.1,
    )

-- What stands in the output

pub out_directive : (l : Lines) (names : List (Chars × ℕ)) (p : Part) (os ps : List Output) (bytes : List ℕ) → is_directive p ≡ true → OutIs l names p os bytes → OutIs l names p ps bytes
out_directive l names of_goal os ps bytes is h = absurd (true≢false (sym is))
out_directive l names (of_directive place rest) os ps bytes is h = h

pub out_none : (l : Lines) (names : List (Chars × ℕ)) (p : Part) (os : List Output) (bytes : List ℕ) → is_directive p ≡ true → OutIs l names p os bytes → bytes ≡ []
out_none l names of_goal os bytes is h = absurd (true≢false (sym is))
out_none l names (of_directive place rest) os bytes is h = h

pub out_at_goal : (l : Lines) (names : List (Chars × ℕ)) (p : Part) (os : List Output) (bytes : List ℕ) → is_directive p ≡ false → OutIs l names p os bytes → bytes ≡ encode_utf8_all (put_by l names [] os)
out_at_goal l names of_goal os bytes is h = h
out_at_goal l names (of_directive place rest) os bytes is h = absurd (true≢false is)

pub out_on : (l : Lines) (names : List (Chars × ℕ)) (p : Part) (os more : List Output) (bytes new : List ℕ) → is_directive p ≡ false → OutIs l names p os bytes
    → ((front : Chars) → bytes ≡ encode_utf8_all front → new ≡ encode_utf8_all (put_by l names front more))
    → OutIs l names p (os ++ more) new
out_on l names of_goal os more bytes new is h out = out (put_by l names [] os) h ∙ ap encode_utf8_all (sym (put-append l names [] os more))
out_on l names (of_directive place rest) os more bytes new is h out = absurd (true≢false is)

-- Parts

pub one_wanted : (job : Job) (p : Part) → is_directive p ≡ true → (limits_of job p).solutions ≡ 1
one_wanted job of_goal is = absurd (true≢false (sym is))
one_wanted job (of_directive place rest) is = refl

pub goal_wanted : (job : Job) (p : Part) → is_directive p ≡ false → (limits_of job p).solutions ≡ job.limits.solutions
goal_wanted job of_goal is = refl
goal_wanted job (of_directive place rest) is = absurd (true≢false is)

pub same_part : (p q : Part) (o : Option Part) → o ≡ Some p → o ≡ Some q → p ≡ q
same_part p q o is at = cc

pub goal_part : (p : Part) → is_directive p ≡ false → p ≡ of_goal
goal_part of_goal is = refl
goal_part (of_directive place rest) is = absurd (true≢false is)

-- Where no goal was at hand, the engine ends by what its directives say alone.
pub left_by : (h : Option ℕ) (o : Option Part) (how : Option (How Tree)) (searched : Option State) (ending : Ending) (os : List Output) → IsDirectiveAsked o how
    → LeavesOff h o searched ending os → LeavesOff h None None ending os
left_by (Some n) o how searched ending os asked l = l
left_by None None None searched ending os asked l = l
left_by None None (Some how) searched ending os asked l = absurd asked
left_by None (Some p) None searched ending os asked l = absurd asked
left_by None (Some of_goal) (Some how) searched ending os asked l = absurd (true≢false (sym asked))
left_by None (Some (of_directive place rest)) (Some how) searched ending os asked l = l

-- Then it has given nothing.
pub none_given : (h : Option ℕ) (ending : Ending) (os : List Output) → LeavesOff h None None ending os → os ≡ []
none_given None ending os l = l.1
none_given (Some n) ending os l = l.1

-- What holds of all in two lists holds of all in each.
front_by : {X : Type 0} (P : X → Type 0) (xs ys : List X) → AllByRecursion P (xs ++ ys) → AllByRecursion P xs
front_by P [] ys h = tt
front_by P (x ∷ xs) ys h = (h.0, front_by P xs ys h.1)

back_by : {X : Type 0} (P : X → Type 0) (xs ys : List X) → AllByRecursion P (xs ++ ys) → AllByRecursion P ys
back_by P [] ys h = h
back_by P (x ∷ xs) ys h = back_by P xs ys h.1

pub front_of : {X : Type 0} (P : X → Type 0) (xs ys : List X) → All P (xs ++ ys) → All P xs
front_of P xs ys h = All-from_recursion P xs (front_by P xs ys (recursion_from_All P (xs ++ ys) h))

pub back_of : {X : Type 0} (P : X → Type 0) (xs ys : List X) → All P (xs ++ ys) → All P ys
back_of P xs ys h = All-from_recursion P ys (back_by P xs ys (recursion_from_All P (xs ++ ys) h))
