-- A lone engine's run is the whole of what a command did.
use Rattle.std.proofs.Common.{◌≡◌, ◌<◌, ℕ, zero, suc, List, [], ◌∷◌, ◌++◌, length, Option, Some, None, refl, ap, sym, ◌∙◌, arith, subst, ◌⊎◌, inl, inr, get_or, Bool, true, false}
use Rattle.std.specs.Prelude.{◌==◌, if◌then◌else◌}
use Rattle.std.specs.List.{Contains}
use Rattle.std.proofs.lemmas.List.Elements.{Contains-append_cases}
use Rattle.pl_term.specs.Tree.{Tree}
use Rattle.pl_model.specs.declared.ends.AtomRecord.{AtomRecord}
use Rattle.pl_model.specs.declared.ends.How.{How}
use Rattle.pl_model.specs.declared.ends.How.TheVariants.{AtomSpace}
use Rattle.pl_model.specs.History.{Kind, Entry, History, start, finish, IsPlain, IsPlainUpdate, AllPlain}
use Rattle.pl_model.specs.Resolution.{Ending}
use Rattle.run_model.specs.Execution.{Job, over, at_start}
use Rattle.run_model.specs.AtomRecords.{IsTrue}
use Rattle.run_model.specs.Lawful.{EndsSo, IsRunning, IsDone, Program, Told, Beginning, beginnings_from, beginnings, engine_numbers, generations_of, main_job, IsComplete}
use Rattle.run_model.specs.Progress.{Seen, MovesTo, AsksTo, WaitsNow, Alone, told_at_end, told_waiting}
use Rattle.pl_model.specs.Service.{entry_by}
use Rattle.run_model.specs.Report.{end_in}
use Rattle.run_model.proofs.Progress.{reached_start, reached_goes, reached_asks, reached_end, reached_wait, reached_atoms}

pub alone_start : (goals : ℕ) (job : Job) → Alone goals job (record { execution = at_start job; history = []; gens = [] }) 0
alone_start goals job = record { reached = reached_start 1 goals job zero [] refl (omega arith); plain = tt }

pub alone_moves : (goals : ℕ) (job : Job) (old new : Seen) (n : ℕ)
    → MovesTo job old new
    → Alone goals job old n
    → Alone goals job new (suc n)
alone_moves goals job old new n g a =
    record {
      reached = reached_goes 1 goals job zero old new n g a.reached;
      plain = subst (λ (h : History). AllPlain 1 h) (sym g.history_is) a.plain;
    }

plain_entry : (k : Option Kind) → IsPlainUpdate k → AllPlain 1 (entry_by 1 k)
plain_entry None p = tt
plain_entry (Some k) p = (refl, p, tt)

plain_append : (xs ys : History) → AllPlain 1 xs → AllPlain 1 ys → AllPlain 1 (xs ++ ys)
plain_append [] ys p q = q
plain_append (x ∷ xs) ys p q = (p.0, p.1, plain_append xs ys p.2 q)

pub alone_asks : (goals : ℕ) (job : Job) (old new : Seen) (n : ℕ)
    → (g : AsksTo 1 goals job old new)
    → IsPlainUpdate g.update
    → Alone goals job old n
    → Alone goals job new (suc n)
alone_asks goals job old new n g plain a =
    record {
      reached = reached_asks 1 goals job zero old new n g a.reached;
      plain =
          subst
          (λ (h : History). AllPlain 1 h)
          (sym g.history_is)
          (plain_append old.history (entry_by 1 g.update) a.plain (plain_entry g.update plain));
    }

-- The entries of a lone engine are its own.
plain_engine : (h : History) (k : ℕ) (x : Entry) → AllPlain 1 h → k < length h → get_or h k x ≡ x → x.engine ≡ 1
plain_engine [] k x p below e = absurd (omega (arith, below))
plain_engine (y ∷ h) zero x p below e = ap (λ z. z.engine) (sym e) ∙ p.0
plain_engine (y ∷ h) (suc k) x p below e = plain_engine h k x p.2 (omega (arith, below)) e

own_entry : (h : History) (x : Entry) → AllPlain 1 h → Contains h x → x.engine ≡ 1
own_entry h x p c = plain_engine h c.0 x p c.1 c.2

own_end : (how : How Tree) (n : ℕ) (x : Entry)
    → Contains (let y : Entry = record { engine = 1; kind = finish how n } in y ∷ []) x
    → x.engine ≡ 1
own_end how n x (zero, below, e) = ap (λ z. z.engine) (sym e)
own_end how n x (suc k, below, e) = absurd (omega (arith, below))

own_either : (h : History) (how : How Tree) (n : ℕ) (x : Entry)
    → AllPlain 1 h
    → Contains h x ⊎ Contains (let y : Entry = record { engine = 1; kind = finish how n } in y ∷ []) x
    → x.engine ≡ 1
own_either h how n x p (inl c) = own_entry h x p c
own_either h how n x p (inr c) = own_end how n x c

-- No entry begins an engine.
begun_one : (k : Kind) (p : ℕ) (bs : List Beginning)
    → IsPlain k
    → (elim k [ start n t a ↦ record { engine = n; goal = t; alias = a; low = suc p } ∷ bs | _ ↦ bs ]) ≡ bs
begun_one (start n t a) p bs plain = absurd plain
begun_one _ p bs plain = refl

pub begun_none : (place : ℕ) (h : History) → AllPlain 1 h → beginnings_from place h ≡ []
begun_none place [] p = refl
begun_none place (x ∷ h) p =
    begun_one x.kind place (beginnings_from (suc place) h) p.1 ∙ begun_none (suc place) h p.2

pub begun_none_at_end : (place : ℕ) (h : History) (how : How Tree) (n : ℕ)
    → AllPlain 1 h
    → beginnings_from place (h ++ record { engine = 1; kind = finish how n } ∷ []) ≡ []
begun_none_at_end place [] how n p = refl
begun_none_at_end place (x ∷ h) how n p =
    begun_one x.kind place (beginnings_from (suc place) (h ++ record { engine = 1; kind = finish how n } ∷ [])) p.1
    ∙ begun_none_at_end (suc place) h how n p.2

in_one : (e : ℕ) → e ≡ 1 → Contains (1 ∷ []) e
in_one e own = subst (λ (i : ℕ). Contains (1 ∷ []) i) (sym own) (0, omega arith, refl)

-- No engine but the first one is asked for.
complete_alone : (p : Program) (told : Told)
    → beginnings told.history ≡ []
    → ((x : Entry) → Contains told.history x → x.engine ≡ 1)
    → IsDone 1 (length p.words) p.slots (main_job p) zero told.history (generations_of told.generations 1)
    → IsComplete p told
complete_alone p told none own done =
    record {
      only =
          λ x c.
          subst (λ (bs : List Beginning). Contains (engine_numbers bs) x.engine) (sym none) (in_one x.engine (own x c));
      main = done;
      started =
          λ b c.
          let impossible : Contains (let bs : List Beginning = [] in bs) b =
          subst (λ (bs : List Beginning). Contains bs b) none c
          in absurd (omega (arith, impossible.1));
    }

-- The entries and the ends of an engine that was alone to its own end, whatever this is.
alone_done : (p : Program) (seen : Seen) (n : ℕ) (how : How Tree)
    → AllPlain 1 seen.history
    → IsDone 1 (length p.words) p.slots (main_job p) zero (told_at_end seen how n).history seen.gens
    → IsComplete p (told_at_end seen how n)
alone_done p seen n how plain done =
    complete_alone
    p
    (told_at_end seen how n)
    (begun_none_at_end zero seen.history how n plain)
    (λ x c.
    own_either
    seen.history
    how
    n
    x
    plain
    (Contains-append_cases seen.history (record { engine = 1; kind = finish how n } ∷ []) x c))
    done

pub alone_end : (p : Program) (seen : Seen) (n : ℕ) (ending : Ending) (how : How Tree)
    → Alone (length p.words) (main_job p) seen n
    → seen.execution.activity ≡ over ending
    → EndsSo ending how
    → IsComplete p (told_at_end seen how n)
alone_end p seen n ending how a is_ended so =
    alone_done
    p
    seen
    n
    how
    a.plain
    (inl (reached_end 1 (length p.words) (main_job p) zero seen n ending how a.reached is_ended so))

pub alone_wait : (p : Program) (seen : Seen) (n : ℕ)
    → Alone (length p.words) (main_job p) seen n
    → WaitsNow 1 (length p.words) (main_job p) seen
    → IsComplete p (told_waiting seen)
alone_wait p seen n a w =
    complete_alone
    p
    (told_waiting seen)
    (begun_none zero seen.history a.plain)
    (λ x c. own_entry seen.history x a.plain c)
    (inr (inl (reached_wait 1 (length p.words) (main_job p) zero seen n a.reached w)))

pub alone_atoms : (p : Program) (seen : Seen) (n : ℕ) (found : AtomRecord)
    → Alone (length p.words) (main_job p) seen n
    → IsRunning seen.execution
    → IsTrue p.slots found
    → IsComplete p (told_at_end seen (AtomSpace found) n)
alone_atoms p seen n found a runs true_of =
    alone_done
    p
    seen
    n
    (AtomSpace found)
    a.plain
    (inr (inr (reached_atoms 1 (length p.words) p.slots (main_job p) zero seen n found a.reached runs true_of)))

-- The end that the history has of an engine that was alone.
skips_end : (b : Bool) (k : Kind) (end : Option (How Tree))
    → IsPlain k
    → (if b then (elim k [ finish how n ↦ Some how | _ ↦ end ]) else end) ≡ end
skips_end false k end plain = refl
skips_end true (finish how n) end plain = absurd plain
skips_end true _ end plain = refl

pub alone_end_in : (h : History) (how : How Tree) (n : ℕ)
    → AllPlain 1 h
    → end_in (h ++ record { engine = 1; kind = finish how n } ∷ []) 1 ≡ Some how
alone_end_in [] how n p = refl
alone_end_in (x ∷ h) how n p =
    skips_end (x.engine == 1) x.kind (end_in (h ++ record { engine = 1; kind = finish how n } ∷ []) 1) p.1
    ∙ alone_end_in h how n p.2

pub alone_no_end : (h : History) → AllPlain 1 h → end_in h 1 ≡ None
alone_no_end [] p = refl
alone_no_end (x ∷ h) p = skips_end (x.engine == 1) x.kind (end_in h 1) p.1 ∙ alone_no_end h p.2
