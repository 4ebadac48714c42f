-- An engine that is done, opened.
use Rattle.std.proofs.Common.{◌≡◌, ◌⊎◌, inl, inr, ℕ, List, [], ◌∷◌, ◌++◌, Option, Some, None, refl, sym, ◌∙◌, ap, subst}
use Rattle.std.specs.List.{All, Contains}
use Rattle.std.proofs.lemmas.List.{map-append}
use Rattle.std.proofs.lemmas.List.Elements.{All-append, All-cons, All-nil, Contains-append_cases, Contains-append_left, Contains-append_right}
use Rattle.std.specs.Prelude.{IsSome, length}
use Rattle.std.specs.Arc.{arc_value}
use Rattle.std.specs.declared.alloc.Global.{Global}
use Rattle.std.specs.declared.sync.Arc.{Arc}
use Rattle.pl_term.specs.Tree.{Chars, Tree}
use Rattle.atomic_table.specs.Seated.{TableId}
use Rattle.pl_model.specs.declared.ends.How.{How}
use Rattle.pl_model.specs.declared.grammar.Quotes.{Quotes}
use Rattle.pl_model.specs.declared.threads.On.{On}
use Rattle.pl_model.specs.History.{History}
use Rattle.pl_model.specs.OperatorTable.{OperatorTable}
use Rattle.run_model.specs.Execution.{Execution, move}
use Rattle.run_model.specs.Lawful.{Program}
use Rattle.run_model.specs.Report.{stood}
use Rattle.run_model.specs.Ends.{awaited_by}
use Rattle.run_model.specs.WholeRuns.{Carried}
use Rattle.pl_history.specs.Fronts.{FrontState, own_engine, own_generations}
use Rattle.engine_run.specs.declared.runner.Runner.{Runner}
use Rattle.pl_sched.specs.Homes.{IsFinal}
use Rattle.pl_sched.specs.Ledger.{carried_by}
use Rattle.pl_sched.specs.Written.{WritesSo}
use Rattle.run_report.specs.Parts.{HasWaited, IsAwaited}
use Rattle.toplevel.specs.declared.opened.OpenedEngine.{OpenedEngine}
use Rattle.toplevel.specs.Opened.{IsOpened, opened_numbers, state_of}
use Rattle.toplevel.specs.Scripts.{IsReady, Scripts, Stands, moves_of, writing_of}

abbrev pub IsFinalRunner : Program → TableId → ℕ → ℕ → Option (How Tree) → Option On → Arc OperatorTable Global → Quotes → FrontState → Runner Scripts → Type 0
IsFinalRunner p table goals e end on ops quotes f r = IsFinal Stands IsReady moves_of p table goals e end on ops quotes f r

waited_so : (end : Option (How Tree)) (on : Option On) → (end ≡ None → IsSome on) → HasWaited end on
waited_so None on some_ = some_ refl
waited_so (Some how) on some_ = tt

awaits_so : (end : Option (How Tree)) (on wanted : Option On) → (end ≡ None → wanted ≡ on) → IsAwaited end on wanted
awaits_so None on wanted is = is refl
awaits_so (Some how) on wanted is = tt

-- What the opened engine has of the parts of the one that is done.
pub record IsMadeOf (o : OpenedEngine) (e : ℕ) (end : Option (How Tree)) (on : Option On) (ops : Arc OperatorTable Global) (quotes : Quotes) (f : FrontState) (r : Runner Scripts) : Type 0 where
  pub script : o.script ≡ r.script
  pub text : o.text.items ≡ r.text.items
  pub front_number : o.front.number ≡ e
  pub front : o.front.front ≡ f
  pub number : o.part.number ≡ e
  pub end_is : o.part.end ≡ end
  pub awaits : o.part.awaits ≡ on
  pub operators : o.part.operators ≡ ops
  pub output : o.part.output.items ≡ r.output.items
  pub quotes_are : o.quotes ≡ quotes

opened_at : (p : Program) (table : TableId) (file : Chars) (board e : ℕ) (end : Option (How Tree)) (on : Option On) (ops : Arc OperatorTable Global) (quotes : Quotes) (f : FrontState) (r : Runner Scripts) (o : OpenedEngine)
    → IsFinalRunner p table (length p.words) e end on ops quotes f r
    → WritesSo p file board e (writing_of r)
    → IsMadeOf o e end on ops quotes f r
    → IsOpened p file board f.seen o
opened_at p table file board e end on ops quotes f r o fin writes made =
    let c : Carried p f.seen = record { number = e; gens = own_generations f.lives; job = fin.way.job; low = fin.way.low; is_job = fin.is_job; done = fin.done } in
    record {
      carried = c;
      left =
          record {
            number = made.number;
            end = fin.end_is ∙ sym made.end_is;
            operators = ap (λ (a : Arc OperatorTable Global). arc_value a) made.operators ∙ fin.standing.operators;
            waited =
                subst (λ (n : Option (How Tree)). HasWaited n o.part.awaits) (sym made.end_is)
                (subst (λ (a : Option On). HasWaited end a) (sym made.awaits) (waited_so end on fin.waits));
            awaits =
                subst (λ (n : Option (How Tree)). IsAwaited n o.part.awaits (awaited_by e (move fin.way.job (stood fin.done)))) (sym made.end_is)
                (subst (λ (a : Option On). IsAwaited end a (awaited_by e (move fin.way.job (stood fin.done)))) (sym made.awaits)
                (subst (λ (y : Execution). IsAwaited end on (awaited_by e (move fin.way.job y))) (sym fin.stood_is) (awaits_so end on (awaited_by e (move fin.way.job fin.way.execution)) fin.awaits)));
          };
      front =
          record {
            number = made.front_number;
            own = ap (λ (g : FrontState). own_engine g.lives) made.front ∙ fin.carried;
            generations = ap (λ (g : FrontState). own_generations g.lives) made.front;
            seen = ap (λ (g : FrontState). g.seen) made.front;
          };
      quotes = made.quotes_are ∙ fin.standing.quotes_are;
      held = fin.held;
      told = fin.before;
      runner = r;
      ready = fin.way.is_ready;
      stands = subst (λ (y : Execution). Stands fin.held fin.before r fin.way.job y) (sym fin.stood_is) fin.way.stands_for;
      writes = writes;
      script = made.script;
      text = made.text;
      output = made.output;
    }

pub opened_so : (p : Program) (table : TableId) (file : Chars) (board goals e : ℕ) (end : Option (How Tree)) (on : Option On) (ops : Arc OperatorTable Global) (quotes : Quotes) (f : FrontState) (r : Runner Scripts) (o : OpenedEngine) (h : History)
    → goals ≡ length p.words
    → f.seen ≡ h
    → IsFinalRunner p table goals e end on ops quotes f r
    → WritesSo p file board e (writing_of r)
    → IsMadeOf o e end on ops quotes f r
    → IsOpened p file board h o
opened_so p table file board goals e end on ops quotes f r o h counted seen fin writes made =
    subst (λ (k : History). IsOpened p file board k o) seen
    (opened_at p table file board e end on ops quotes f r o (subst (λ (g : ℕ). IsFinalRunner p table g e end on ops quotes f r) counted fin) writes made)

-- One more is opened.
pub all_more : (p : Program) (file : Chars) (board : ℕ) (h : History) (dones : List FrontState) (d : FrontState) (os : List OpenedEngine) (o : OpenedEngine) (whole : List FrontState)
    → IsOpened p file board h o
    → o.part.number ≡ own_engine d.lives
    → All (IsOpened p file board h) os
    → ((e : ℕ) → Contains (carried_by whole) e → Contains (carried_by (dones ++ d ∷ [])) e ⊎ Contains (opened_numbers os) e)
    → All (IsOpened p file board h) (os ++ o ∷ []) × ((e : ℕ) → Contains (carried_by whole) e → Contains (carried_by dones) e ⊎ Contains (opened_numbers (os ++ o ∷ [])) e)
all_more p file board h dones d os o whole is number all cover =
    (All-append (IsOpened p file board h) os (o ∷ []) all (All-cons (IsOpened p file board h) o [] is (All-nil (IsOpened p file board h))), λ e q. go e (cover e q))
  where
    same : opened_numbers (os ++ o ∷ []) ≡ opened_numbers os ++ o.part.number ∷ []
    same = map-append (λ (x : OpenedEngine). x.part.number) os (o ∷ [])

    into : (e : ℕ) → Contains (opened_numbers os ++ o.part.number ∷ []) e → Contains (opened_numbers (os ++ o ∷ [])) e
    into e q = subst (λ (ns : List ℕ). Contains ns e) (sym same) q

    by : (e : ℕ) → Contains (carried_by dones) e ⊎ Contains (own_engine d.lives ∷ []) e → Contains (carried_by dones) e ⊎ Contains (opened_numbers (os ++ o ∷ [])) e
    by e (inl q) = inl q
    by e (inr q) = inr (into e (Contains-append_right (opened_numbers os) (o.part.number ∷ []) e (subst (λ (n : ℕ). Contains (n ∷ []) e) (sym number) q)))

    go : (e : ℕ) → Contains (carried_by (dones ++ d ∷ [])) e ⊎ Contains (opened_numbers os) e → Contains (carried_by dones) e ⊎ Contains (opened_numbers (os ++ o ∷ [])) e
    go e (inl q) =
        by e
        (Contains-append_cases (carried_by dones) (own_engine d.lives ∷ []) e
        (subst (λ (ns : List ℕ). Contains ns e) (map-append (λ (f : FrontState). own_engine f.lives) dones (d ∷ [])) q))
    go e (inr q) = inr (into e (Contains-append_left (opened_numbers os) (o.part.number ∷ []) e q))
