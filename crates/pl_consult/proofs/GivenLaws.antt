-- How the script comes from the end of an item to the next.
use Rattle.std.proofs.Common.{◌≡◌, ◌+◌, ◌||◌, ℕ, length, List, [], ◌++◌, Option, Some, None, Bool, true, false, refl, sym, ap, ◌∙◌, subst, append-nil}
use Rattle.std.specs.Prelude.{encode_utf8_all, nat_lt, if◌then◌else◌}
use Rattle.pl_term.specs.Tree.{Chars, Tree}
use Rattle.pl_model.specs.Resolution.{Ending, solved, no_more, threw, exited, halted, ended, State}
use Rattle.pl_model.specs.Control.{step, step_by}
use Rattle.run_model.specs.Execution.{Script, consults, runs, first_execution, at_start, most_bytes, Job, Consulted, bytes_in, directive_limits, Rest, Activity, directing, reporting, searching, over, Execution, texts_of, directed, searched, Word, Refusal, move, moves}
use Rattle.run_model.specs.Lawful.{EndsSo}
use Rattle.run_model.specs.Report.{all_consulted}
use Rattle.pl_consult.specs.declared.consult.Place.{Place}
use Rattle.pl_consult.specs.Consults.{rest_of, activity_of, Stands}
use Rattle.term_store.specs.NumberedNames.{term_by}
use Rattle.pl_model.specs.declared.ends.How.{How}
use Rattle.pl_model.specs.declared.ends.How.TheVariants.{Solved, False, Threw, Exited, Halted, AtomSpace}
use Rattle.script_api.specs.declared.script.Next.{Next}
use Rattle.script_api.specs.declared.script.Next.TheVariants.{Item, Done, NeedsAtoms, Retry, Worn, Memory}
use Rattle.world_api.specs.Told.{Told}
use Rattle.script_api.specs.Parts.{Part, of_goal, of_directive, with_search}
use Rattle.script_api.specs.Comes.{ComesBy}
use Rattle.script_api.specs.Scripts.{CameBy, StandsBefore, StandsAfter, LeavesOff, IsWritten, IsKept, IsLast, Given, some_fault, texts_at, written_at}
use Rattle.script_api.proofs.ComesLaws.{comes_same, comes_then, by_move, by_then}
use Rattle.pl_consult.specs.declared.stage.Stage.{Stage}
use Rattle.pl_consult.specs.declared.stage.Stage.TheVariants.{Items, Clause, Directive, AtDirective, Report, Words, Starts, Goal, AtGoal, Over, Lost}
use Rattle.pl_consult.specs.declared.stage.Step.TheVariants.{Gives}
use Rattle.pl_consult.specs.declared.file_script.FileScript.{FileScript}
use Rattle.pl_consult.specs.Steps.{ending_of, IsTold, activity_in, part_of, can_step, at_hand, Fits, searching_in, Grows}
use Rattle.pl_consult.specs.GoalWords.{words_of, refusals_of, read_of}
use Rattle.pl_consult.specs.TextLaws.{texts_none}
use Rattle.pl_consult.proofs.GrowLaws.{fault_grown, first_grows}
use Rattle.pl_consult.specs.FileScripts.{Begins, is_lost, execution_of, part_in, IsOf, Plays, Whole, Runs, IsGiven, AfterFile, FileRan, is_memory}

-- Where a step is to be made, no item is at hand.
part_none : (p : Place) (stage : Stage) → can_step stage ≡ true → part_of p stage ≡ None
part_none p Items can = refl
part_none p (Clause c place ops) can = refl
part_none p (Directive g place) can = refl
part_none p (AtDirective place) can = absurd (let no : ⊥ = cc in no)
part_none p (Report place how) can = refl
part_none p Words can = refl
part_none p (Starts ops first goals at) can = refl
part_none p (Goal g) can = refl
part_none p AtGoal can = absurd (let no : ⊥ = cc in no)
part_none p Over can = absurd (let no : ⊥ = cc in no)
part_none p Lost can = absurd (let no : ⊥ = cc in no)

not_lost : (stage : Stage) → can_step stage ≡ true → is_lost stage ≡ false
not_lost Items can = refl
not_lost (Clause c place ops) can = refl
not_lost (Directive g place) can = refl
not_lost (AtDirective place) can = absurd (let no : ⊥ = cc in no)
not_lost (Report place how) can = refl
not_lost Words can = refl
not_lost (Starts ops first goals at) can = refl
not_lost (Goal g) can = refl
not_lost AtGoal can = absurd (let no : ⊥ = cc in no)
not_lost Over can = absurd (let no : ⊥ = cc in no)
not_lost Lost can = absurd (let no : ⊥ = cc in no)

fits_at_hand : (stage : Stage) (d : Bool) (p : Place) (ws : List Word) → at_hand stage ≡ Some d → Fits stage p ws
fits_at_hand Items d p ws is = absurd (let no : ⊥ = cc in no)
fits_at_hand (Clause c place ops) d p ws is = absurd (let no : ⊥ = cc in no)
fits_at_hand (Directive g place) d p ws is = absurd (let no : ⊥ = cc in no)
fits_at_hand (AtDirective place) d p ws is = tt
fits_at_hand (Report place how) d p ws is = absurd (let no : ⊥ = cc in no)
fits_at_hand Words d p ws is = absurd (let no : ⊥ = cc in no)
fits_at_hand (Starts ops first goals at) d p ws is = absurd (let no : ⊥ = cc in no)
fits_at_hand (Goal g) d p ws is = absurd (let no : ⊥ = cc in no)
fits_at_hand AtGoal d p ws is = tt
fits_at_hand Over d p ws is = absurd (let no : ⊥ = cc in no)
fits_at_hand Lost d p ws is = absurd (let no : ⊥ = cc in no)

-- The end of a search is the one that is told.
ending_is : (h : How Tree) (ending : Ending) → EndsSo ending h → ending ≡ ending_of h
ending_is Solved solved e = refl
ending_is Solved no_more e = absurd e
ending_is Solved (threw b) e = absurd e
ending_is Solved (exited u) e = absurd e
ending_is Solved (halted n) e = absurd e
ending_is False solved e = absurd e
ending_is False no_more e = refl
ending_is False (threw b) e = absurd e
ending_is False (exited u) e = absurd e
ending_is False (halted n) e = absurd e
ending_is (Threw t) solved e = absurd e
ending_is (Threw t) no_more e = absurd e
ending_is (Threw t) (threw b) e = ap threw e
ending_is (Threw t) (exited u) e = absurd e
ending_is (Threw t) (halted n) e = absurd e
ending_is (Exited t) solved e = absurd e
ending_is (Exited t) no_more e = absurd e
ending_is (Exited t) (threw b) e = absurd e
ending_is (Exited t) (exited u) e = ap exited e
ending_is (Exited t) (halted n) e = absurd e
ending_is (Halted k) solved e = absurd e
ending_is (Halted k) no_more e = absurd e
ending_is (Halted k) (threw b) e = absurd e
ending_is (Halted k) (exited u) e = absurd e
ending_is (Halted k) (halted n) e = ap halted e
ending_is (AtomSpace r) solved e = absurd e
ending_is (AtomSpace r) no_more e = absurd e
ending_is (AtomSpace r) (threw b) e = absurd e
ending_is (AtomSpace r) (exited u) e = absurd e
ending_is (AtomSpace r) (halted n) e = absurd e

ending_told : (h : How Tree) (ending : Ending) → EndsSo ending h → IsTold h
ending_told Solved solved e = tt
ending_told Solved no_more e = absurd e
ending_told Solved (threw b) e = absurd e
ending_told Solved (exited u) e = absurd e
ending_told Solved (halted n) e = absurd e
ending_told False solved e = absurd e
ending_told False no_more e = tt
ending_told False (threw b) e = absurd e
ending_told False (exited u) e = absurd e
ending_told False (halted n) e = absurd e
ending_told (Threw t) solved e = absurd e
ending_told (Threw t) no_more e = absurd e
ending_told (Threw t) (threw b) e = tt
ending_told (Threw t) (exited u) e = absurd e
ending_told (Threw t) (halted n) e = absurd e
ending_told (Exited t) solved e = absurd e
ending_told (Exited t) no_more e = absurd e
ending_told (Exited t) (threw b) e = absurd e
ending_told (Exited t) (exited u) e = tt
ending_told (Exited t) (halted n) e = absurd e
ending_told (Halted k) solved e = absurd e
ending_told (Halted k) no_more e = absurd e
ending_told (Halted k) (threw b) e = absurd e
ending_told (Halted k) (exited u) e = absurd e
ending_told (Halted k) (halted n) e = tt
ending_told (AtomSpace r) solved e = absurd e
ending_told (AtomSpace r) no_more e = absurd e
ending_told (AtomSpace r) (threw b) e = absurd e
ending_told (AtomSpace r) (exited u) e = absurd e
ending_told (AtomSpace r) (halted n) e = absurd e

-- An execution by its parts.
by_parts : (y : Execution) (a : Activity) (ls : List (ℕ × Tree)) (ws : List Word) (rs : List Refusal)
    → y.activity ≡ a
    → y.later ≡ ls
    → y.words ≡ ws
    → y.refusals ≡ rs
    → y.output ≡ []
    → y ≡ record { activity = a; consulted = y.consulted; later = ls; words = ws; refusals = rs; output = [] }
by_parts y a ls ws rs is later words refusals output =
    ap (λ (b : Activity). let z : Execution = record y { activity = b } in z) is
    ∙ ap (λ (k : List (ℕ × Tree)). let z : Execution = record y { activity = a; later = k } in z) later
    ∙ ap (λ (k : List Word). let z : Execution = record y { activity = a; later = ls; words = k } in z) words
    ∙ ap (λ (k : List Refusal). let z : Execution = record y { activity = a; later = ls; words = ws; refusals = k } in z) refusals
    ∙ ap (λ k. let z : Execution = record y { activity = a; later = ls; words = ws; refusals = rs; output = k } in z) output

stands_as : (job : Job) (name : Chars) (r : FileScript) (y : Execution) (more : List ℕ) (a : Activity)
    → Whole job name r y
    → Stands r.consult job y more
    → y.activity ≡ a
    → y ≡ record (execution_of r job y.consulted) { activity = a }
stands_as job name r y more a w s is =
    by_parts y a r.consult.later.items (words_of (read_of r.read)) (refusals_of r.refused.items) is s.later w.words_are w.refusals w.output

searches_as : (x : Execution) (p : Part) (s : State) → record x { activity = searching_in p s } ≡ with_search x p s
searches_as x of_goal s = refl
searches_as x (of_directive place rest) s = refl

leaves : (was : Option Part) (searched : Option State) → (was ≡ Some of_goal → ⊥) → LeavesOff None was searched solved []
leaves None searched other = (refl, refl)
leaves (Some of_goal) (Some r) other = absurd (other refl)
leaves (Some of_goal) None other = absurd (other refl)
leaves (Some (of_directive place rest)) searched other = (refl, refl)

lines_as : (job : Job) (name : Chars) (r : FileScript) (y : Execution) (more : List ℕ)
    → Whole job name r y
    → Stands r.consult job y more
    → more ≡ encode_utf8_all (all_consulted name [] y.consulted)
lines_as job name r y more w s = s.lines ∙ ap (λ n. encode_utf8_all (all_consulted n [] y.consulted)) w.name_is

-- What is given.
pub record IsHandedOut (text : ℕ → Chars) (job : Job) (name : Chars) (was : Option Part) (searched : Option State) (next : Next Tree) (r : FileScript) (y : Execution) (more : List ℕ) : Type 0 where
  pub stands : StandsAfter (λ (z : ℕ → Chars). execution_of) part_in term_by text r job was searched next y.consulted y
  pub plays : Plays r job.script
  pub lines : IsWritten next name y.consulted more

handed_out : (text : ℕ → Chars) (job : Job) (name : Chars) (was : Option Part) (searched : Option State) (next : Next Tree) (r : FileScript) (y : Execution) (more : List ℕ)
    → AfterFile (term_by text) (Gives next) job name r r.stage y more
    → IsGiven next r.stage
    → (was ≡ Some of_goal → ⊥)
    → IsHandedOut text job name was searched next r y more
handed_out text job name was searched (Item t d) r y more a given other =
    record {
      stands = (
        a.1.0,
        a.1.1,
        a.1.2,
        stands_as job name r y more _ a.0 a.1.4 a.1.3 ∙ searches_as (execution_of r job y.consulted) a.1.0 _,
      );
      plays = λ runs. record { script = a.0.script; fits = fits_at_hand r.stage d r.consult.place (words_of (read_of r.read)) given };
      lines = lines_as job name r y more a.0 a.1.4;
    }
handed_out text job name was searched (Done None) r y more a given other =
    record {
      stands = (solved, [], leaves was searched other, stands_as job name r y more (over solved) a.0 a.1.2 a.1.0);
      plays = λ runs. record { script = a.0.script; fits = subst (λ (k : Stage). Fits k r.consult.place (words_of (read_of r.read))) (sym a.1.1) tt };
      lines = lines_as job name r y more a.0 a.1.2;
    }
handed_out text job name was searched (Done (Some n)) r y more a given other =
    record {
      stands = (halted n, [], (refl, refl), stands_as job name r y more (over (halted n)) a.0 a.1.2 a.1.0);
      plays = λ runs. record { script = a.0.script; fits = subst (λ (k : Stage). Fits k r.consult.place (words_of (read_of r.read))) (sym a.1.1) tt };
      lines = lines_as job name r y more a.0 a.1.2;
    }
handed_out text job name was searched Memory r y more a given other =
    record {
      stands = tt;
      plays = λ runs. absurd (let e : is_lost r.stage ≡ true = ap is_lost given in let no : ⊥ = cc in no);
      lines = tt;
    }
handed_out text job name was searched (NeedsAtoms pass) r y more a given other =
    record {
      stands = (a.1.1, stands_as job name r y more _ a.0 a.1.0.stands a.1.0.does);
      plays = λ runs. record { script = a.0.script; fits = subst (λ (ws : List Word). Fits r.stage r.consult.place ws) a.0.words_are a.1.0.fits };
      lines = lines_as job name r y more a.0 a.1.0.stands;
    }
handed_out text job name was searched (Retry cause) r y more a given other =
    record {
      stands = (a.1.1, stands_as job name r y more _ a.0 a.1.0.stands a.1.0.does);
      plays = λ runs. record { script = a.0.script; fits = subst (λ (ws : List Word). Fits r.stage r.consult.place ws) a.0.words_are a.1.0.fits };
      lines = lines_as job name r y more a.0 a.1.0.stands;
    }
handed_out text job name was searched (Worn word) r y more a given other =
    record {
      stands = (a.1.1, stands_as job name r y more _ a.0 a.1.0.stands a.1.0.does);
      plays = λ runs. record { script = a.0.script; fits = subst (λ (ws : List Word). Fits r.stage r.consult.place ws) a.0.words_are a.1.0.fits };
      lines = lines_as job name r y more a.0 a.1.0.stands;
    }

-- Whether a fault was kept.
kept_out : (next : Next Tree) (name : Chars) (xs ys : List Consulted) (bytes more : List ℕ) (old new : Bool)
    → Grows xs ys
    → bytes ≡ encode_utf8_all (all_consulted name [] xs)
    → IsWritten next name ys more
    → some_fault xs ≡ old
    → (is_memory next ≡ false → new ≡ (old || nat_lt (length bytes) (length more)))
    → IsKept next new ys
kept_out Memory name xs ys bytes more old new g is written faulty grew = tt
kept_out (Item i d) name xs ys bytes more old new g is written faulty grew =
    fault_grown name xs ys bytes more g is written ∙ ap (λ b. b || nat_lt (length bytes) (length more)) faulty ∙ sym (grew refl)
kept_out (Done h) name xs ys bytes more old new g is written faulty grew =
    fault_grown name xs ys bytes more g is written ∙ ap (λ b. b || nat_lt (length bytes) (length more)) faulty ∙ sym (grew refl)
kept_out (NeedsAtoms p) name xs ys bytes more old new g is written faulty grew =
    fault_grown name xs ys bytes more g is written ∙ ap (λ b. b || nat_lt (length bytes) (length more)) faulty ∙ sym (grew refl)
kept_out (Retry c) name xs ys bytes more old new g is written faulty grew =
    fault_grown name xs ys bytes more g is written ∙ ap (λ b. b || nat_lt (length bytes) (length more)) faulty ∙ sym (grew refl)
kept_out (Worn w) name xs ys bytes more old new g is written faulty grew =
    fault_grown name xs ys bytes more g is written ∙ ap (λ b. b || nat_lt (length bytes) (length more)) faulty ∙ sym (grew refl)

-- The execution at a stage at which a step is to be made.
before_none : (old_text : ℕ → Chars) (s : FileScript) (job : Job) (how : Option (How Tree)) (searched : Option State) (cs : List Consulted) (x : Execution)
    → StandsBefore (λ (z : ℕ → Chars). execution_of) part_in term_by old_text s job None how searched cs x
    → x ≡ execution_of s job cs
before_none old_text s job None searched cs x b = b
before_none old_text s job (Some h) searched cs x b = absurd b

lines_are : (s : FileScript) (job : Job) (cs : List Consulted) (x : Execution) → x ≡ execution_of s job cs → written_at x ≡ x.consulted
lines_are s job cs x is =
    ap (λ ts. x.consulted ++ ts) (ap (λ (z : Execution). texts_at z.activity) is ∙ texts_none job s.consult.place s.stage) ∙ append-nil x.consulted

runs_at : (s : FileScript) (job : Job) (cs : List Consulted) (x : Execution) (bytes : List ℕ)
    → can_step s.stage ≡ true
    → IsOf s job.script
    → x ≡ execution_of s job cs
    → bytes ≡ encode_utf8_all (all_consulted s.consult.name [] (written_at x))
    → Runs job s.consult.name s s.stage x bytes
runs_at s job cs x bytes can of is written =
    record {
      whole =
          record {
            script = of.script;
            name_is = refl;
            words_are = ap (λ (z : Execution). z.words) is;
            refusals = ap (λ (z : Execution). z.refusals) is;
            output = ap (λ (z : Execution). z.output) is;
          };
      at =
          record {
            stands =
                record {
                  bytes = ap bytes_in of.script;
                  later = ap (λ (z : Execution). z.later) is;
                  lines = written ∙ ap (λ ds. encode_utf8_all (all_consulted s.consult.name [] ds)) (lines_are s job cs x is);
                };
            does = ap (λ (z : Execution). z.activity) is;
            fits = subst (λ (ws : List Word). Fits s.stage s.consult.place ws) (sym (ap (λ (z : Execution). z.words) is)) of.fits;
          };
    }

-- From a stage at which a step is to be made.
pub given_open : (old_text text : ℕ → Chars) (s r : FileScript) (how : Option (How Tree)) (t u : Told) (before after : ℕ) (bytes more : List ℕ) (next : Next Tree)
    → can_step s.stage ≡ true
    → (is_memory next ≡ false → r.faulty ≡ (s.faulty || nat_lt (length bytes) (length more)))
    → FileRan (term_by text) s.consult.name s s.stage t before bytes (Gives next) r r.stage u after more
    → IsGiven next r.stage
    → Given (λ (z : ℕ → Chars). execution_of) part_in term_by (λ (z : ℕ → Chars). Plays) (λ (q : FileScript). q.faulty) s.consult.name old_text text s how t before bytes next r u after more
given_open old_text text s r how t u before after bytes more next can grew moved given job cs searched x plays stood written faulty =
    let none : part_in s ≡ None = part_none s.consult.place s.stage can in
    let is : x ≡ execution_of s job cs =
    before_none old_text s job how searched cs x
    (subst (λ (o : Option Part). StandsBefore (λ (z : ℕ → Chars). execution_of) part_in term_by old_text s job o how searched cs x) none stood) in
    let there = runs_at s job cs x bytes can (plays (not_lost s.stage can)) is written in
    let k = moved job x there in
    let h : IsHandedOut text job s.consult.name (part_in s) searched next r k.0 more =
    handed_out text job s.consult.name (part_in s) searched next r k.0 more k.3 given (λ e. let no : ⊥ = cc in no) in (
      k.0.consulted,
      k.0,
      k.1,
      h.stands,
      h.plays,
      h.lines,
      kept_out next s.consult.name x.consulted k.0.consulted bytes more s.faulty r.faulty k.2 there.at.stands.lines h.lines
          (sym (ap some_fault (lines_are s job cs x is)) ∙ faulty) grew,
    )

-- The search of an item has ended.
before_some : (old_text : ℕ → Chars) (s : FileScript) (job : Job) (p : Part) (h : How Tree) (searched : Option State) (cs : List Consulted) (x : Execution)
    → StandsBefore (λ (z : ℕ → Chars). execution_of) part_in term_by old_text s job (Some p) (Some h) searched cs x
    → (st : State) × (searched ≡ Some st) × (ending : Ending) × (st.doing ≡ ended ending) × EndsSo ending h × (x ≡ with_search (execution_of s job cs) p st)
before_some old_text s job p h None cs x b = absurd b
before_some old_text s job p h (Some st) cs x b = (st, refl, b.0, b.1, b.2, b.3)

directive_move : (job : Job) (x : Execution) (place : ℕ) (rest : Rest) (st : State) (ending : Ending)
    → st.doing ≡ ended ending
    → move job (record x { activity = directing place rest st })
    ≡ moves (record x { activity = reporting place rest ending; consulted = x.consulted ++ texts_of st.output })
unfolding move step
directive_move job x place rest st ending is =
    ap (λ d. directed (record x { activity = directing place rest st }) place rest st (step_by (directive_limits job) st d)) is

goal_move : (job : Job) (x : Execution) (st : State) (ending : Ending)
    → st.doing ≡ ended ending
    → move job (record x { activity = searching st }) ≡ moves (record x { activity = over ending; output = st.output })
unfolding move step
goal_move job x st ending is = ap (λ d. searched (record x { activity = searching st }) st (step_by job.limits st d)) is

-- One way after another, the last of which gives this.
came_behind : (next : Next Tree) (job : Job) (x y z : Execution) (t u v : Told) (before middle after : ℕ)
    → ComesBy job x t before y u middle
    → CameBy next job y u middle z v after
    → CameBy next job x t before z v after
came_behind Memory job x y z t u v before middle after c d = (d.0 + c.moves, comes_then job x y z t u v c.moves d.0 c.comes d.1)
came_behind (Item g e) job x y z t u v before middle after c d = by_then job x y z t u v before middle after c d
came_behind (Done h) job x y z t u v before middle after c d = by_then job x y z t u v before middle after c d
came_behind (NeedsAtoms p) job x y z t u v before middle after c d = by_then job x y z t u v before middle after c d
came_behind (Retry q) job x y z t u v before middle after c d = by_then job x y z t u v before middle after c d
came_behind (Worn w) job x y z t u v before middle after c d = by_then job x y z t u v before middle after c d

-- From the end of a directive, which is to be reported.
reported_runs : (s : FileScript) (job : Job) (cs : List Consulted) (place : ℕ) (h : How Tree) (st : State) (ending : Ending) (bytes : List ℕ)
    → IsOf s job.script
    → EndsSo ending h
    → bytes ≡ encode_utf8_all (all_consulted s.consult.name [] (cs ++ texts_of st.output))
    → Runs job s.consult.name s (Report place h) (record (execution_of s job cs) { activity = reporting place (rest_of s.consult.place) ending; consulted = cs ++ texts_of st.output }) bytes
reported_runs s job cs place h st ending bytes of ends written =
    record {
      whole = record { script = of.script; name_is = refl; words_are = refl; refusals = refl; output = refl };
      at =
          record {
            stands = record { bytes = ap bytes_in of.script; later = refl; lines = written };
            does = ap (reporting place (rest_of s.consult.place)) (ending_is h ending ends);
            fits = ending_told h ending ends;
          };
    }

pub given_behind : (old_text text : ℕ → Chars) (s r : FileScript) (how : Option (How Tree)) (h : How Tree) (place : ℕ) (t u : Told) (before middle after : ℕ) (bytes more : List ℕ) (next : Next Tree)
    → s.stage ≡ AtDirective place
    → how ≡ Some h
    → 1 + before ≡ middle
    → (is_memory next ≡ false → r.faulty ≡ (s.faulty || nat_lt (length bytes) (length more)))
    → FileRan (term_by text) s.consult.name s (Report place h) t middle bytes (Gives next) r r.stage u after more
    → IsGiven next r.stage
    → Given (λ (z : ℕ → Chars). execution_of) part_in term_by (λ (z : ℕ → Chars). Plays) (λ (q : FileScript). q.faulty) s.consult.name old_text text s how t before bytes next r u after more
given_behind old_text text s r how h place t u before middle after bytes more next at told count grew moved given job cs searched x plays stood written faulty =
    let rest : Rest = rest_of s.consult.place in
    let base : Execution = execution_of s job cs in
    let part : part_in s ≡ Some (of_directive place rest) = ap (part_of s.consult.place) at in
    let b =
    before_some old_text s job (of_directive place rest) h searched cs x
    (subst (λ (o : Option (How Tree)). StandsBefore (λ (z : ℕ → Chars). execution_of) part_in term_by old_text s job (Some (of_directive place rest)) o searched cs x) told
    (subst (λ (o : Option Part). StandsBefore (λ (z : ℕ → Chars). execution_of) part_in term_by old_text s job o how searched cs x) part stood)) in
    let st : State = b.0 in
    let ending : Ending = b.2 in
    let z : Execution = record base { activity = reporting place rest ending; consulted = cs ++ texts_of st.output } in
    let of : IsOf s job.script = plays (ap is_lost at) in
    let lines : bytes ≡ encode_utf8_all (all_consulted s.consult.name [] (cs ++ texts_of st.output)) =
    written ∙ ap (λ (y : Execution). encode_utf8_all (all_consulted s.consult.name [] (written_at y))) b.5 in
    let there : ComesBy job x t before z t middle =
    subst (λ (y : Execution). ComesBy job y t before z t middle) (sym b.5)
    (by_move job (record base { activity = directing place rest st }) z t before middle (directive_move job base place rest st ending b.3) count) in
    let k = moved job z (reported_runs s job cs place h st ending bytes of b.4 lines) in
    let out : IsHandedOut text job s.consult.name (part_in s) searched next r k.0 more =
    handed_out text job s.consult.name (part_in s) searched next r k.0 more k.3 given (λ e. let no : ⊥ = cc in no) in (
      k.0.consulted,
      k.0,
      came_behind next job x z k.0 t t u before middle after there k.1,
      out.stands,
      out.plays,
      out.lines,
      kept_out next s.consult.name z.consulted k.0.consulted bytes more s.faulty r.faulty k.2 lines out.lines
          (sym (ap (λ (y : Execution). some_fault (written_at y)) b.5) ∙ faulty) grew,
    )

-- From the end of the goal.
goal_ends : (old_text text : ℕ → Chars) (s r : FileScript) (how : Option (How Tree)) (h : How Tree) (t : Told) (before after : ℕ) (bytes : List ℕ)
    → s.stage ≡ AtGoal
    → how ≡ Some h
    → r ≡ record s { stage = Over }
    → 1 + before ≡ after
    → Given (λ (z : ℕ → Chars). execution_of) part_in term_by (λ (z : ℕ → Chars). Plays) (λ (q : FileScript). q.faulty) s.consult.name old_text text s how t before bytes (Done None) r t after bytes
goal_ends old_text text s r how h t before after bytes at told over_is count job cs searched x plays stood written faulty =
    let base : Execution = execution_of s job cs in
    let part : part_in s ≡ Some of_goal = ap (part_of s.consult.place) at in
    let b =
    before_some old_text s job of_goal h searched cs x
    (subst (λ (o : Option (How Tree)). StandsBefore (λ (z : ℕ → Chars). execution_of) part_in term_by old_text s job (Some of_goal) o searched cs x) told
    (subst (λ (o : Option Part). StandsBefore (λ (z : ℕ → Chars). execution_of) part_in term_by old_text s job o how searched cs x) part stood)) in
    let st : State = b.0 in
    let ending : Ending = b.2 in
    let y : Execution = record base { activity = over ending; output = st.output } in
    let of : IsOf s job.script = plays (ap is_lost at) in (
      cs,
      y,
      subst (λ (z : Execution). ComesBy job z t before y t after) (sym b.5)
          (by_move job (record base { activity = searching st }) y t before after (goal_move job base st ending b.3) count),
      (
        ending,
        st.output,
        subst (λ (o : Option Part). LeavesOff None o searched ending st.output) (sym part)
            (subst (λ (o : Option State). LeavesOff None (Some of_goal) o ending st.output) (sym b.1) (b.3, refl)),
        subst (λ (q : FileScript). y ≡ record (execution_of q job cs) { activity = over ending; output = st.output }) (sym over_is) refl,
      ),
      subst (λ (q : FileScript). Plays q job.script) (sym over_is) (λ runs. record { script = of.script; fits = tt }),
      written
          ∙ ap (λ (z : Execution). encode_utf8_all (all_consulted s.consult.name [] (written_at z))) b.5
          ∙ ap (λ ds. encode_utf8_all (all_consulted s.consult.name [] ds)) (append-nil cs),
      sym (ap (λ (z : Execution). some_fault (written_at z)) b.5 ∙ ap some_fault (append-nil cs)) ∙ faulty ∙ sym (ap (λ (q : FileScript). q.faulty) over_is),
    )

no_end : (old_text text : ℕ → Chars) (s r : FileScript) (t : Told) (before after : ℕ) (bytes : List ℕ)
    → s.stage ≡ AtGoal
    → Given (λ (z : ℕ → Chars). execution_of) part_in term_by (λ (z : ℕ → Chars). Plays) (λ (q : FileScript). q.faulty) s.consult.name old_text text s None t before bytes (Done None) r t after bytes
no_end old_text text s r t before after bytes at job cs searched x plays stood written faulty =
    let part : part_in s ≡ Some of_goal = ap (part_of s.consult.place) at in
    absurd
    (subst (λ (o : Option Part). StandsBefore (λ (z : ℕ → Chars). execution_of) part_in term_by old_text s job o None searched cs x) part stood)

pub given_end : (old_text text : ℕ → Chars) (s r : FileScript) (how : Option (How Tree)) (t : Told) (before after : ℕ) (bytes : List ℕ)
    → s.stage ≡ AtGoal
    → r ≡ record s { stage = Over }
    → 1 + before ≡ after
    → Given (λ (z : ℕ → Chars). execution_of) part_in term_by (λ (z : ℕ → Chars). Plays) (λ (q : FileScript). q.faulty) s.consult.name old_text text s how t before bytes (Done None) r t after bytes
given_end old_text text s r None t before after bytes at over_is count = no_end old_text text s r t before after bytes at
given_end old_text text s r (Some h) t before after bytes at over_is count = goal_ends old_text text s r (Some h) h t before after bytes at refl over_is count

-- The script is lost because memory ran out.
pub lost_last : (p : Option Part) → IsLast {T = Tree} p Memory
lost_last None = tt
lost_last (Some of_goal) = tt
lost_last (Some (of_directive place rest)) = tt

pub given_lost : (old_text text : ℕ → Chars) (s r : FileScript) (how : Option (How Tree)) (t : Told) (before after : ℕ) (bytes : List ℕ)
    → r.stage ≡ Lost
    → Given (λ (z : ℕ → Chars). execution_of) part_in term_by (λ (z : ℕ → Chars). Plays) (λ (q : FileScript). q.faulty) s.consult.name old_text text s how t before bytes Memory r t after bytes
given_lost old_text text s r how t before after bytes lost job cs searched x plays stood written faulty = (
  cs,
  x,
  (0, comes_same job x x t refl),
  tt,
  λ runs. absurd (let e : is_lost r.stage ≡ true = ap is_lost lost in let no : ⊥ = cc in no),
  tt,
  tt,
)

-- Before the first step.
no_words : (b : Bool) (x y : Execution) → x.words ≡ [] → y.words ≡ [] → (if b then x else y).words ≡ []
no_words true x y is also = is
no_words false x y is also = also

no_refusals : (b : Bool) (x y : Execution) → x.refusals ≡ [] → y.refusals ≡ [] → (if b then x else y).refusals ≡ []
no_refusals true x y is also = is
no_refusals false x y is also = also

no_output : (b : Bool) (x y : Execution) → x.output ≡ [] → y.output ≡ [] → (if b then x else y).output ≡ []
no_output true x y is also = is
no_output false x y is also = also

first_words : (script : Script) → (first_execution script).words ≡ []
first_words (consults bytes words) = no_words (nat_lt most_bytes (length bytes)) _ _ refl refl
first_words (runs t) = refl

first_refusals : (script : Script) → (first_execution script).refusals ≡ []
first_refusals (consults bytes words) = no_refusals (nat_lt most_bytes (length bytes)) _ _ refl refl
first_refusals (runs t) = refl

first_output : (script : Script) → (first_execution script).output ≡ []
first_output (consults bytes words) = no_output (nat_lt most_bytes (length bytes)) _ _ refl refl
first_output (runs t) = refl

pub file_begins : (s : FileScript) (job : Job) (bytes : List ℕ) (words : List Chars) (name : Chars) (out : List ℕ)
    → s.stage ≡ Items
    → read_of s.read ≡ []
    → s.refused.items ≡ []
    → s.words.items ≡ words
    → s.faulty ≡ nat_lt 0 (length out)
    → job.script ≡ consults bytes words
    → s.consult.name ≡ name
    → s.consult.text.items ≡ bytes
    → Stands s.consult job (at_start job) out
    → (at_start job).activity ≡ activity_of s.consult.place
    → Begins s job name out
file_begins s job bytes words name out at unread none same grew script named text stands starts =
    record {
      execution =
          sym
          (by_parts (at_start job) (activity_in job s.consult.place s.stage) s.consult.later.items (words_of (read_of s.read)) (refusals_of s.refused.items)
          (starts ∙ sym (ap (activity_in job s.consult.place) at)) stands.later (first_words job.script ∙ sym (ap words_of unread))
          (first_refusals job.script ∙ sym (ap refusals_of none)) (first_output job.script));
      plays =
          λ kept.
          record {
            script = script ∙ ap (λ bs. consults bs words) (sym text) ∙ ap (λ ws. consults s.consult.text.items ws) (sym same);
            fits = subst (λ (k : Stage). Fits k s.consult.place (words_of (read_of s.read))) (sym at) tt;
          };
      lines = stands.lines ∙ ap (λ n. encode_utf8_all (all_consulted n [] (at_start job).consulted)) named;
      kept =
          fault_grown name [] (at_start job).consulted [] out (first_grows job.script) refl
          (stands.lines ∙ ap (λ n. encode_utf8_all (all_consulted n [] (at_start job).consulted)) named)
          ∙ sym grew;
    }
