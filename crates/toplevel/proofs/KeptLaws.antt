-- What is kept of a whole run.
use Rattle.std.proofs.Common.{◌≡◌, ◌⊎◌, ◌==◌, ◌≤◌, ◌<◌, ◌&&◌, inl, inr, ℕ, zero, suc, List, [], ◌∷◌, ◌++◌, map, Bool, true, false, Option, Some, None, refl, sym, ap, ◌∙◌, subst, arith, eq-eqb, ne_eqb, eqb-true, append-nil, append_assoc}
use Rattle.std.specs.Prelude.{encode_utf8_all, if◌then◌else◌, length, nat_le, option_to_list, slice_get}
use Rattle.std.specs.Arc.{arc_value}
use Rattle.std.specs.List.{All, Contains}
use Rattle.std.proofs.lemmas.Bool.{le-leb}
use Rattle.std.proofs.lemmas.List.{map-append}
use Rattle.std.proofs.lemmas.List.Elements.{All-pop, Contains-append_cases}
use Rattle.pl_term.specs.Tree.{Chars, Tree}
use Rattle.pl_model.specs.declared.threads.On.{On}
use Rattle.pl_model.specs.History.{History}
use Rattle.run_model.specs.Execution.{Execution, Job, Refusal, Word, move}
use Rattle.run_model.specs.Lawful.{Beginning, IsComplete, Program, Told, beginnings, engine_numbers, is_goal_number}
use Rattle.run_model.specs.Report.{AreFinal, Finals, end_in, end_operators, final_of, output_of, with_output}
use Rattle.run_model.specs.Ends.{awaited_by, goal_numbers, job_of}
use Rattle.run_model.specs.WholeRuns.{AreWhole as AllCarried, Carried, Once, finals_in, generations_in, numbers_of, told_in}
use Rattle.engine_run.specs.Runners.{put_by}
use Rattle.engine_run.specs.declared.runner.Lines.{Lines}
use Rattle.engine_run.specs.declared.runner.Lines.TheVariants.{Solutions, Texts}
use Rattle.pl_history.specs.Fronts.{own_generations}
use Rattle.pl_consult.specs.GoalWords.{refusals_of, words_of}
use Rattle.pl_sched.specs.Ledger.{AreOnly, IsBegun}
use Rattle.pl_sched.specs.Written.{lines_of}
use Rattle.run_report.specs.declared.parts.Part.{Part}
use Rattle.run_report.specs.Parts as reports
use Rattle.run_report.specs.Parts.{AreEngines, AreThreads, HasWaited, IsAwaited, IsEngine, IsKeptOf, IsWhole, names_at, part_in}
use Rattle.toplevel.specs.declared.front.EngineFront.{EngineFront}
use Rattle.toplevel.specs.declared.front.Front.{Front}
use Rattle.toplevel.specs.declared.kept.Kept.{Kept}
use Rattle.toplevel.specs.declared.main_engine.Main.{Main}
use Rattle.toplevel.specs.declared.opened.OpenedEngine.{OpenedEngine}
use Rattle.toplevel.specs.Fronts.{generations_by, seen_by, told_by}
use Rattle.toplevel.specs.Kept.{AreEngines as AllEngines, AreOpened, Covers, EachKept, IsKept, IsKeptOther, highest}
use Rattle.toplevel.specs.Mains.{IsMain, told_at, words_kept}
use Rattle.toplevel.specs.Opened.{IsFrontOf, IsLeft, IsOpened, opened_numbers, stood_of}
use Rattle.toplevel.specs.Others.{AreOthers, HasGiven, IsOther, IsPut}
use Rattle.toplevel.specs.Pairs.{TakesGoals}
use Rattle.toplevel.proofs.Members.{here, nowhere, split, there}
use Rattle.toplevel.proofs.OrderLaws.{job_is}

-- One more engine

numbers_more : {p : Program} {h : History} (cs : List (Carried p h)) (c : Carried p h) → numbers_of (cs ++ c ∷ []) ≡ numbers_of cs ++ c.number ∷ []
numbers_more [] c = refl
numbers_more (d ∷ ds) c = ap (λ (ns : List ℕ). d.number ∷ ns) (numbers_more ds c)

others_more : (p : Program) (h : History) (ws : List Word) (low last : ℕ) (cs : List (Carried p h)) (fs : List EngineFront) (ks : List Part) (c : Carried p h) (f : EngineFront) (k : Part)
    → AreOthers p h ws low cs fs ks
    → highest low cs ≡ last
    → last < c.number
    → IsOther p h ws c f k
    → AreOthers p h ws low (cs ++ c ∷ []) (fs ++ f ∷ []) (ks ++ k ∷ []) × (highest low (cs ++ c ∷ []) ≡ c.number)
others_more p h ws low last [] [] [] c f k are is above o = ((subst (λ (n : ℕ). n < c.number) (sym is) above, o, tt), refl)
others_more p h ws low last [] [] (x ∷ ks) c f k are is above o = absurd are
others_more p h ws low last [] (g ∷ fs) ks c f k are is above o = absurd are
others_more p h ws low last (d ∷ cs) [] ks c f k are is above o = absurd are
others_more p h ws low last (d ∷ cs) (g ∷ fs) [] c f k are is above o = absurd are
others_more p h ws low last (d ∷ cs) (g ∷ fs) (x ∷ ks) c f k are is above o =
    let more = others_more p h ws d.number last cs fs ks c f k are.2 is above o in ((are.0, are.1, more.0), more.1)

-- What is in a list with one more.
behind : (ns : List ℕ) (n : ℕ) → Contains (ns ++ n ∷ []) n
behind [] n = here n []
behind (m ∷ ms) n = there m (ms ++ n ∷ []) n (behind ms n)

earlier : (ns : List ℕ) (n e : ℕ) → Contains ns e → Contains (ns ++ n ∷ []) e
earlier [] n e q = absurd (nowhere e q)
earlier (m ∷ ms) n e q = by (earlier ms n e) (split m ms e q)
  where
    by : (Contains ms e → Contains (ms ++ n ∷ []) e) → (e ≡ m) ⊎ Contains ms e → Contains (m ∷ (ms ++ n ∷ [])) e
    by rest (inl same) = subst (λ (k : ℕ). Contains (m ∷ (ms ++ n ∷ [])) k) (sym same) (here m (ms ++ n ∷ []))
    by rest (inr r) = there m (ms ++ n ∷ []) e (rest r)

last_one : (ns : List ℕ) (m n e : ℕ) → m ≡ n → Contains (m ∷ []) e → Contains (ns ++ n ∷ []) e
last_one ns m n e is q = by (split m [] e q)
  where
    by : (e ≡ m) ⊎ Contains [] e → Contains (ns ++ n ∷ []) e
    by (inl same) = subst (λ (k : ℕ). Contains (ns ++ n ∷ []) k) (sym (same ∙ is)) (behind ns n)
    by (inr none) = absurd (nowhere e none)

below_first : (k : ℕ) (ns ms : List ℕ) (e : ℕ) → (Contains ns e → Contains ms e) → Contains (k ∷ ns) e → Contains (k ∷ ms) e
below_first k ns ms e more q = by (split k ns e q)
  where
    by : (e ≡ k) ⊎ Contains ns e → Contains (k ∷ ms) e
    by (inl same) = subst (λ (n : ℕ). Contains (k ∷ ms) n) (sym same) (here k ms)
    by (inr r) = there k ms e (more r)

covers_more : (p : Program) (h : History) (first : Carried p h) (left : List OpenedEngine) (d : OpenedEngine) (cs : List (Carried p h)) (c : Carried p h)
    → Covers (left ++ d ∷ []) (first ∷ cs)
    → d.part.number ≡ c.number
    → Covers left (first ∷ (cs ++ c ∷ []))
covers_more p h first left d cs c cover own e begun = go (cover e begun)
  where
    later : Contains (numbers_of cs ++ c.number ∷ []) e → Contains (numbers_of (cs ++ c ∷ [])) e
    later q = subst (λ (ns : List ℕ). Contains ns e) (sym (numbers_more cs c)) q

    left_or : Contains (opened_numbers left) e ⊎ Contains (d.part.number ∷ []) e → Contains (opened_numbers left) e ⊎ Contains (first.number ∷ numbers_of (cs ++ c ∷ [])) e
    left_or (inl q) = inl q
    left_or (inr q) = inr (there first.number (numbers_of (cs ++ c ∷ [])) e (later (last_one (numbers_of cs) d.part.number c.number e own q)))

    go : Contains (opened_numbers (left ++ d ∷ [])) e ⊎ Contains (first.number ∷ numbers_of cs) e → Contains (opened_numbers left) e ⊎ Contains (first.number ∷ numbers_of (cs ++ c ∷ [])) e
    go (inl q) =
        left_or
        (Contains-append_cases (opened_numbers left) (d.part.number ∷ []) e
        (subst (λ (ns : List ℕ). Contains ns e) (map-append (λ (x : OpenedEngine). x.part.number) left (d ∷ [])) q))
    go (inr q) = inr (below_first first.number (numbers_of cs) (numbers_of (cs ++ c ∷ [])) e (λ r. later (earlier (numbers_of cs) c.number e r)) q)

pub opened_more : (p : Program) (h : History) (ws : List Word) (first : Carried p h) (left : List OpenedEngine) (d : OpenedEngine) (last number : ℕ) (fs : List EngineFront) (ks : List Part) (c : Carried p h) (f : EngineFront) (k : Part)
    → AreOpened p h ws first (left ++ d ∷ []) last fs ks
    → d.part.number ≡ c.number
    → number ≡ c.number
    → last < c.number
    → IsOther p h ws c f k
    → AreOpened p h ws first left number (fs ++ f ∷ []) (ks ++ k ∷ [])
opened_more p h ws first left d last number fs ks c f k so own is above o =
    let more = others_more p h ws 1 last so.others fs ks c f k so.are so.highest_is above o in
    record {
      others = so.others ++ c ∷ [];
      are = more.0;
      highest_is = more.1 ∙ sym is;
      cover = covers_more p h first left d so.others c so.cover own;
    }

pub opened_none : (p : Program) (h : History) (ws : List Word) (first : Carried p h) (left : List OpenedEngine) (ks : List Part) → ks ≡ [] → Covers left (first ∷ []) → AreOpened p h ws first left 1 [] ks
opened_none p h ws first left ks none cover =
    subst (λ (l : List Part). AreOpened p h ws first left 1 [] l) (sym none) (record { others = []; are = tt; highest_is = refl; cover = cover })

pub opened_all : (p : Program) (h : History) (ws : List Word) (first : Carried p h) (left : List OpenedEngine) (last : ℕ) (fs : List EngineFront) (ks : List Part)
    → left ≡ []
    → AreOpened p h ws first left last fs ks
    → AllEngines p h ws first fs ks
opened_all p h ws first left last fs ks none so =
    record {
      others = so.others;
      are = so.are;
      whole = λ n among. go n (so.cover n among);
    }
  where
    go : (n : ℕ) → Contains (opened_numbers left) n ⊎ Contains (first.number ∷ numbers_of so.others) n → Contains (first.number ∷ numbers_of so.others) n
    go n (inl q) = absurd (nowhere n (subst (λ (l : List OpenedEngine). Contains (opened_numbers l) n) none q))
    go n (inr q) = q

pub opened_next : (p : Program) (file : Chars) (board : ℕ) (h : History) (ws : List Word) (first : Carried p h) (old left : List OpenedEngine) (r : Option OpenedEngine) (d : OpenedEngine) (last number : ℕ) (before fronts new_fronts fs : List EngineFront) (ks new_ks : List Part)
    → old ≡ left ++ option_to_list r
    → r ≡ Some d
    → All (IsOpened p file board h) old
    → AreOpened p h ws first old last fs ks
    → fronts ≡ before ++ fs
    → ((o : IsOpened p file board h d) → IsPut p h ws last o.carried number fronts new_fronts ks new_ks)
    → (gs : List EngineFront) × (new_fronts ≡ before ++ gs) × AreOpened p h ws first left number gs new_ks × All (IsOpened p file board h) left
opened_next p file board h ws first old left r d last number before fronts new_fronts fs ks new_ks popped some_ all so front_is puts =
    let is : old ≡ left ++ d ∷ [] = popped ∙ ap (λ (s : Option OpenedEngine). left ++ option_to_list s) some_ in
    let both = All-pop (IsOpened p file board h) old left (Some d) is all in
    let o = both.1 in
    let put = puts o in
    let more =
    opened_more p h ws first left d last number fs ks o.carried put.front put.part (subst (λ (l : List OpenedEngine). AreOpened p h ws first l last fs ks) is so) o.left.number put.number_is put.above put.is in (
      fs ++ put.front ∷ [],
      put.fronts ∙ ap (λ (l : List EngineFront). l ++ put.front ∷ []) front_is ∙ append_assoc before fs (put.front ∷ []),
      subst (λ (l : List Part). AreOpened p h ws first left number (fs ++ put.front ∷ []) l) (sym put.parts) more,
      both.0,
    )

-- What is kept is of the state in which the engine stands

-- What is told of a run with this history.
abbrev told_so : History → List (ℕ × List ℕ) → Told
told_so h gens = record { history = h; generations = gens }

kept_of_left : (p : Program) (h : History) (gens : List (ℕ × List ℕ)) (finals : Finals) (c : Carried p h) (k : Part)
    → IsLeft p h c k
    → final_of finals c.number ≡ Some (stood_of c)
    → c.job ≡ job_of p (beginnings h) c.number
    → IsKeptOf p (told_so h gens) finals k (stood_of c)
kept_of_left p h gens finals c k left final job =
    record {
      final = subst (λ (n : ℕ). final_of finals n ≡ Some (stood_of c)) (sym left.number) final;
      end = ap (end_in h) left.number ∙ left.end;
      operators = ap (end_operators p (told_so h gens)) left.number ∙ sym left.operators;
      waited = left.waited;
      awaits =
          subst (λ (n : ℕ). IsAwaited k.end k.awaits (awaited_by n (move (job_of p (beginnings h) n) (stood_of c)))) (sym left.number)
          (subst (λ (j : Job). IsAwaited k.end k.awaits (awaited_by c.number (move j (stood_of c)))) job left.awaits);
    }

-- Of the engines, those with lower numbers come before.
abbrev final_by : ℕ → Bool → Execution → Finals → Option Execution
final_by n b x rest = if b then Some x else final_of rest n

others_kept : (p : Program) (h : History) (gens : List (ℕ × List ℕ)) (finals : Finals) (ws : List Word) (low : ℕ) (cs : List (Carried p h)) (fs : List EngineFront) (ks : List Part)
    → Once (engine_numbers (beginnings h))
    → 1 ≤ low
    → ((n : ℕ) → low < n → final_of finals n ≡ final_of (finals_in cs) n)
    → AreOthers p h ws low cs fs ks
    → EachKept p (told_so h gens) finals ws ks
others_kept p h gens finals ws low [] [] [] once one skip are = tt
others_kept p h gens finals ws low [] [] (k ∷ ks) once one skip are = absurd are
others_kept p h gens finals ws low [] (f ∷ fs) ks once one skip are = absurd are
others_kept p h gens finals ws low (c ∷ cs) [] ks once one skip are = absurd are
others_kept p h gens finals ws low (c ∷ cs) (f ∷ fs) [] once one skip are = absurd are
others_kept p h gens finals ws low (c ∷ cs) (f ∷ fs) (k ∷ ks) once one skip are =
    let above = are.0 in
    let o = are.1 in
    let own : final_of finals c.number ≡ Some (stood_of c) =
    skip c.number above ∙ ap (λ (b : Bool). final_by c.number b (stood_of c) (finals_in cs)) (eq-eqb c.number c.number refl) in (
      record {
        execution = stood_of c;
        kept = kept_of_left p h gens finals c k o.left own (job_is p c.number h c.job c.low once c.is_job);
        given = subst (λ (n : ℕ). HasGiven p ws k n (stood_of c)) (sym o.left.number) o.given;
        above = subst (λ (n : ℕ). 1 < n) (sym o.left.number) (omega (arith, one, above));
      },
      others_kept p h gens finals ws c.number cs fs ks once (omega (arith, one, above))
          (λ n higher. skip n (omega (arith, above, higher)) ∙ ap (λ (b : Bool). final_by n b (stood_of c) (finals_in cs)) (ne_eqb c.number n (λ same. absurd (omega (arith, same, higher)))))
          are.2,
    )

-- What the fronts tell.
generations_so : (p : Program) (h : History) (ws : List Word) (low : ℕ) (cs : List (Carried p h)) (fs : List EngineFront) (ks : List Part) → AreOthers p h ws low cs fs ks → generations_by fs ≡ generations_in cs
generations_so p h ws low [] [] [] are = refl
generations_so p h ws low [] [] (k ∷ ks) are = absurd are
generations_so p h ws low [] (f ∷ fs) ks are = absurd are
generations_so p h ws low (c ∷ cs) [] ks are = absurd are
generations_so p h ws low (c ∷ cs) (f ∷ fs) [] are = absurd are
generations_so p h ws low (c ∷ cs) (f ∷ fs) (k ∷ ks) are =
    ap (λ (n : ℕ). (n, own_generations f.front.lives) ∷ generations_by fs) are.1.front.number
    ∙ ap (λ (gs : List ℕ). (c.number, gs) ∷ generations_by fs) are.1.front.generations
    ∙ ap (λ (rest : List (ℕ × List ℕ)). (c.number, c.gens) ∷ rest) (generations_so p h ws c.number cs fs ks are.2)

pub told_is : (p : Program) (h : History) (ws : List Word) (first : Carried p h) (f : EngineFront) (fs : List EngineFront) (ks : List Part) (front : Front) (all : AllEngines p h ws first fs ks)
    → IsFrontOf p h first f
    → front.engines.items ≡ f ∷ fs
    → told_by front ≡ told_in h (first ∷ all.others)
told_is p h ws first f fs ks front all own are =
    ap (λ (es : List EngineFront). let t : Told = record { history = seen_by es; generations = generations_by es } in t) are
    ∙ ap (λ (k : History). told_so k (generations_by (f ∷ fs))) own.seen
    ∙ ap (λ (n : ℕ). told_so h ((n, own_generations f.front.lives) ∷ generations_by fs)) own.number
    ∙ ap (λ (gs : List ℕ). told_so h ((first.number, gs) ∷ generations_by fs)) own.generations
    ∙ ap (λ (rest : List (ℕ × List ℕ)). told_so h ((first.number, first.gens) ∷ rest)) (generations_so p h ws 1 all.others fs ks all.are)

-- The whole run

-- A goal to which no engine came has no final state.
absent_at : (ks : List Part) (n : ℕ) → part_in ks n ≡ None → Contains (reports.numbers_of ks) n → ⊥
absent_at [] n none p = nowhere n p
absent_at (k ∷ ks) n none p = go (absent_at ks n) (k.number == n) refl
  where
    go : (part_in ks n ≡ None → Contains (reports.numbers_of ks) n → ⊥) → (b : Bool) → k.number == n ≡ b → ⊥
    go rest true is = absurd (let e : Some k ≡ None = sym (ap (λ (b : Bool). if b then Some k else part_in ks n) is) ∙ none in let no : ⊥ = cc in no)
    go rest false is = by (split k.number (reports.numbers_of ks) n p)
      where
        by : (n ≡ k.number) ⊎ Contains (reports.numbers_of ks) n → ⊥
        by (inl same) = absurd (let passed : k.number == n ≡ true = eq-eqb k.number n (sym same) in let no : ⊥ = cc in no)
        by (inr q) = rest (sym (ap (λ (b : Bool). if b then Some k else part_in ks n) is) ∙ none) q

goal_among : (p : Program) (bs : List Beginning) (n : ℕ) → is_goal_number p n ≡ true → Contains (map (λ (b : Beginning). b.engine) bs) n → Contains (goal_numbers p bs) n
goal_among p [] n passed q = absurd (nowhere n q)
goal_among p (b ∷ bs) n passed q = go (goal_among p bs n passed) (split b.engine (map (λ (c : Beginning). c.engine) bs) n q) (is_goal_number p b.engine) refl
  where
    go : (Contains (map (λ (c : Beginning). c.engine) bs) n → Contains (goal_numbers p bs) n)
        → (n ≡ b.engine) ⊎ Contains (map (λ (c : Beginning). c.engine) bs) n
        → (t : Bool)
        → is_goal_number p b.engine ≡ t
        → Contains (goal_numbers p (b ∷ bs)) n
    go rest (inl same) true is = subst (λ (t : Bool). Contains (if t then b.engine ∷ goal_numbers p bs else goal_numbers p bs) n) (sym is) (subst (λ (m : ℕ). Contains (b.engine ∷ goal_numbers p bs) m) (sym same) (here b.engine (goal_numbers p bs)))
    go rest (inl same) false is = absurd (let no : true ≡ false = sym passed ∙ (ap (is_goal_number p) same ∙ is) in let never : ⊥ = cc in never)
    go rest (inr r) true is = subst (λ (t : Bool). Contains (if t then b.engine ∷ goal_numbers p bs else goal_numbers p bs) n) (sym is) (there b.engine (goal_numbers p bs) n (rest r))
    go rest (inr r) false is = subst (λ (t : Bool). Contains (if t then b.engine ∷ goal_numbers p bs else goal_numbers p bs) n) (sym is) (rest r)

and_true : {a b : Bool} → a ≡ true → b ≡ true → (a && b) ≡ true
and_true {a} {b} e f = ap (λ (t : Bool). t && b) e ∙ f

le_true : (a b : ℕ) → a ≤ b → nat_le a b ≡ true
le_true a b le = le-leb a b le

above_one : (n : ℕ) → 1 ≤ n → (n ≡ 1 → ⊥) → 2 ≤ n
above_one zero one other = absurd (omega (arith, one))
above_one (suc zero) one other = absurd (other refl)
above_one (suc (suc n)) one other = omega arith

word_among : (p : Program) (bs : List Beginning) (n : ℕ) → 1 ≤ n → n ≤ length p.words → Contains (engine_numbers bs) n → Contains (1 ∷ goal_numbers p bs) n
word_among p bs n one most q = go (split 1 (map (λ (c : Beginning). c.engine) bs) n q)
  where
    go : (n ≡ 1) ⊎ Contains (map (λ (c : Beginning). c.engine) bs) n → Contains (1 ∷ goal_numbers p bs) n
    go (inl same) = subst (λ (m : ℕ). Contains (1 ∷ goal_numbers p bs) m) (sym same) (here 1 (goal_numbers p bs))
    go (inr r) = by (n == 1) refl
      where
        by : (t : Bool) → n == 1 ≡ t → Contains (1 ∷ goal_numbers p bs) n
        by true is = subst (λ (m : ℕ). Contains (1 ∷ goal_numbers p bs) m) (sym (eqb-true n 1 is)) (here 1 (goal_numbers p bs))
        by false is =
            there 1 (goal_numbers p bs) n
            (goal_among p bs n
            (and_true (le_true 2 n (above_one n one (λ same. absurd (let passed : n == 1 ≡ true = eq-eqb n 1 same in let no : ⊥ = cc in no)))) (le_true n (length p.words) most)) r)

no_final : (finals : Finals) (p : Program) (told : Told) (ks : List Part) (n : ℕ) → AreFinal p told finals → 1 ≤ n → n ≤ length p.words
    → reports.numbers_of ks ≡ 1 ∷ goal_numbers p (beginnings told.history)
    → part_in ks n ≡ None
    → final_of finals n ≡ None
no_final finals p told ks n final one most are none = go (final_of finals n) refl
  where
    go : (o : Option Execution) → final_of finals n ≡ o → final_of finals n ≡ None
    go None is = is
    go (Some x) is =
        absurd
        (absent_at ks n none
        (subst (λ (ns : List ℕ). Contains ns n) (sym are) (word_among p (beginnings told.history) n one most (final.only n x is))))

module _ (p : Program) (file : Chars) (h : History) (first : Carried p h) (m : Main) (f : EngineFront) (k : Part) (fs : List EngineFront) (ks : List Part)
    (main : IsMain p file h first m f k) (all : AllEngines p h (words_of (words_kept m)) first fs ks) (once : Once (engine_numbers (beginnings h))) where
  abbrev carried : List (Carried p h)
  carried = first ∷ all.others

  abbrev told : Told
  told = told_in h carried

  abbrev pub finals_all : Finals
  finals_all = finals_in carried

  abbrev ws : List Word
  ws = words_of (words_kept m)

  first_final : final_of finals_all first.number ≡ Some (stood_of first)
  first_final = ap (λ (b : Bool). final_by first.number b (stood_of first) (finals_in all.others)) (eq-eqb first.number first.number refl)

  first_kept : IsKeptOf p told finals_all k (stood_of first)
  first_kept = kept_of_left p h (generations_in carried) finals_all first k main.left first_final (job_is p first.number h first.job first.low once first.is_job)

  number_one : k.number ≡ 1
  number_one = main.left.number ∙ main.one

  first_engine : IsEngine p told finals_all ws k
  first_engine =
      (stood_of first, first_kept, subst (λ (n : ℕ). k.output.items ≡ encode_utf8_all (with_output (names_at n ws) [] (output_of (stood_of first)))) (sym number_one) main.output)

  pub each_kept : EachKept p told finals_all ws ks
  each_kept =
      others_kept p h (generations_in carried) finals_all ws 1 all.others fs ks once (omega arith)
      (λ n higher. ap (λ (b : Bool). final_by n b (stood_of first) (finals_in all.others)) (ne_eqb first.number n (λ same. absurd (let one = main.one in omega (arith, same, one, higher)))))
      all.are

  pub whole_so : (engines threads : List Part) → (goals : TakesGoals p told finals_all ws (beginnings h) (k ∷ []) engines) → AreThreads p told finals_all (beginnings h) threads → length ws ≤ length p.words → AreFinal p told finals_all
      → IsWhole file p told finals_all (stood_of first) m.text.items m.script.faulty ws (refusals_of m.script.refused.items) engines threads
  whole_so engines threads goals others few final =
      let numbers : reports.numbers_of engines ≡ 1 ∷ goal_numbers p (beginnings h) =
      ap reports.numbers_of goals.put
      ∙ ap (λ (n : ℕ). n ∷ reports.numbers_of goals.more) number_one
      ∙ ap (λ (ns : List ℕ). 1 ∷ ns) goals.numbers in
      record {
        main = subst (λ (n : ℕ). final_of finals_all n ≡ Some (stood_of first)) main.one first_final;
        text_is = main.text;
        faults = main.faults;
        words = main.words;
        refusals = main.refusals;
        numbers = numbers;
        kept =
            record {
              each = subst (λ (es : List Part). AreEngines p told finals_all ws es) (sym goals.put) (first_engine, goals.each);
              absent = λ i low none. no_final finals_all p told engines (suc i) final (omega arith) (omega (arith, low, few)) numbers none;
            };
        others = others;
      }

  pub kept_so : (kept : Kept) → (goals : TakesGoals p told finals_all ws (beginnings h) (k ∷ []) kept.engines.items) → AreThreads p told finals_all (beginnings h) kept.threads.items → length ws ≤ length p.words
      → IsComplete p told
      → AreFinal p told finals_all
      → kept.main ≡ m
      → kept.front.engines.items ≡ f ∷ fs
      → IsKept file p kept
  kept_so kept goals others few complete final same fronts =
      let is : told_by kept.front ≡ told = told_is p h ws first f fs ks kept.front all main.front fronts in
      record {
        finals = finals_all;
        complete = subst (λ (t : Told). IsComplete p t) (sym is) complete;
        final = subst (λ (t : Told). AreFinal p t finals_all) (sym is) final;
        main = stood_of first;
        whole =
            subst
            (λ (t : Told). IsWhole file p t finals_all (stood_of first) kept.main.text.items kept.main.script.faulty (words_of (words_kept kept.main)) (refusals_of kept.main.script.refused.items) kept.engines.items kept.threads.items)
            (sym is)
            (subst
            (λ (n : Main). IsWhole file p told finals_all (stood_of first) n.text.items n.script.faulty (words_of (words_kept n)) (refusals_of n.script.refused.items) kept.engines.items kept.threads.items)
            (sym same)
            (whole_so kept.engines.items kept.threads.items goals others few final));
      }
