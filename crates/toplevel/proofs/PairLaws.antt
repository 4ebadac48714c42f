-- The engines of further goals and the threads, set apart as they began.
use Rattle.std.proofs.Common.{◌≡◌, ◌<◌, ◌==◌, ◌++◌, ℕ, zero, suc, Bool, true, false, List, [], ◌∷◌, length, drop, Option, refl, sym, ◌∙◌, ap, subst, arith, append_assoc, append-nil, eqb-true}
use Rattle.std.specs.Prelude.{◌&&◌, ◌||◌, if◌then◌else◌, nat_le, encode_utf8_all}
use Rattle.std.specs.List.{AllZip}
use Rattle.pl_term.specs.Tree.{Chars}
use Rattle.run_model.specs.Execution.{Word}
use Rattle.run_model.specs.Lawful.{Beginning, Program, Told, is_goal_number}
use Rattle.run_model.specs.Report.{Finals, output_of}
use Rattle.run_model.specs.Ends.{goal_numbers}
use Rattle.engine_run.specs.Runners.{put_by}
use Rattle.engine_run.specs.declared.runner.Lines.{Lines}
use Rattle.engine_run.specs.declared.runner.Lines.TheVariants.{Solutions, Texts}
use Rattle.pl_sched.specs.Written.{lines_of}
use Rattle.run_report.specs.declared.parts.Part.{Part}
use Rattle.run_report.specs.Parts.{AreEngines, AreThreads, IsEngine, IsThread, names_at, numbers_of, threads_in}
use Rattle.toplevel.specs.Kept.{EachKept, IsKeptOther}
use Rattle.toplevel.specs.Pairs.{IsNext, TakesGoals, named_by}

-- One of the beginnings, with its number and its alias.
pub record BegunAt (bs : List Beginning) (i n : ℕ) (a : Option Chars) : Type 0 where
  pub beginning : Beginning
  pub here : drop i bs ≡ beginning ∷ drop (suc i) bs
  pub number : beginning.engine ≡ n
  pub alias : beginning.alias ≡ a

begun_in : (bs : List Beginning) (i : ℕ) (x : ℕ × Option Chars) (rest : List (ℕ × Option Chars)) → drop i (named_by bs) ≡ x ∷ rest → BegunAt bs i x.0 x.1
begun_in [] zero x rest at = absurd (let no : ⊥ = cc in no)
begun_in [] (suc i) x rest at = absurd (let no : ⊥ = cc in no)
begun_in (b ∷ bs) zero x rest at =
    let same : (b.engine, b.alias) ≡ x = cc in
    record { beginning = b; here = refl; number = ap (λ (p : ℕ × Option Chars). p.0) same; alias = ap (λ (p : ℕ × Option Chars). p.1) same }
begun_in (b ∷ bs) (suc i) x rest at =
    let r = begun_in bs i x rest at in
    record { beginning = r.beginning; here = r.here; number = r.number; alias = r.alias }

pub begun_at : (bs : List Beginning) (all : List (ℕ × Option Chars)) (i : ℕ) (x : ℕ × Option Chars) (rest : List (ℕ × Option Chars))
    → all ≡ named_by bs
    → drop i all ≡ x ∷ rest
    → BegunAt bs i x.0 x.1
begun_at bs all i x rest are at = begun_in bs i x rest (sym (ap (drop i) are) ∙ at)

none_in : (bs : List Beginning) (i : ℕ) → drop i (named_by bs) ≡ [] → drop i bs ≡ []
none_in [] zero at = refl
none_in [] (suc i) at = refl
none_in (b ∷ bs) zero at = absurd (let no : ⊥ = cc in no)
none_in (b ∷ bs) (suc i) at = none_in bs i at

pub none_at : (bs : List Beginning) (all : List (ℕ × Option Chars)) (i : ℕ) → all ≡ named_by bs → drop i all ≡ [] → drop i bs ≡ []
none_at bs all i are at = none_in bs i (sym (ap (drop i) are) ∙ at)

-- Whether it is the number of a further goal.
pub goal_told : (p : Program) (m n goals : ℕ) (b t : Bool) → m ≡ n → goals ≡ length p.words → b ≡ (nat_le 2 n && nat_le n goals) → b ≡ t → is_goal_number p m ≡ t
goal_told p m n goals b t is counted told so =
    ap (is_goal_number p) is ∙ ap (λ (g : ℕ). nat_le 2 n && nat_le n g) (sym counted) ∙ sym told ∙ so

-- What is written of an engine.
or_so : (b : Bool) → (if b || true then Solutions else Texts) ≡ Solutions
or_so true = refl
or_so false = refl

goal_lines : (p : Program) (e : ℕ) → is_goal_number p e ≡ true → lines_of p e ≡ Solutions
goal_lines p e is = ap (λ (b : Bool). if (e == 1) || b then Solutions else Texts) is ∙ or_so (e == 1)

thread_lines : (p : Program) (e : ℕ) → is_goal_number p e ≡ false → 1 < e → lines_of p e ≡ Texts
thread_lines p e is above = ap (λ (b : Bool). if (e == 1) || b then Solutions else Texts) is ∙ go (e == 1) refl
  where
    go : (b : Bool) → e == 1 ≡ b → (if (e == 1) || false then Solutions else Texts) ≡ Texts
    go true one = let same : e ≡ 1 = eqb-true e 1 one in absurd (omega arith)
    go false other = ap (λ (b : Bool). if b || false then Solutions else Texts) other

engine_of : (p : Program) (told : Told) (finals : Finals) (ws : List Word) (k : Part)
    → IsKeptOther p told finals ws k
    → is_goal_number p k.number ≡ true
    → IsEngine p told finals ws k
engine_of p told finals ws k o is =
    (o.execution, o.kept, o.given ∙ ap (λ (l : Lines). encode_utf8_all (put_by l (names_at k.number ws) [] (output_of o.execution))) (goal_lines p k.number is))

thread_of : (p : Program) (told : Told) (finals : Finals) (ws : List Word) (b : Beginning) (k : Part) (a : Option Chars)
    → IsKeptOther p told finals ws k
    → is_goal_number p k.number ≡ false
    → b.engine ≡ k.number
    → b.alias ≡ a
    → IsThread p told finals b (record k { alias = a })
thread_of p told finals ws b k a o is number alias =
    record {
      execution = o.execution;
      number = number;
      alias = alias;
      kept =
          record {
            final = o.kept.final;
            end = o.kept.end;
            operators = o.kept.operators;
            waited = o.kept.waited;
            awaits = o.kept.awaits;
          };
      output = o.given ∙ ap (λ (l : Lines). encode_utf8_all (put_by l (names_at k.number ws) [] (output_of o.execution))) (thread_lines p k.number is o.above);
    }

-- The loop over the beginnings that takes the goals.
pub record Taking (p : Program) (told : Told) (finals : Finals) (ws : List Word) (i : ℕ) (bs : List Beginning) (old new rest : List Part) : Type 0 where
  pub more : List Part
  pub put : new ≡ old ++ more
  pub numbers : numbers_of more ++ goal_numbers p (drop i bs) ≡ goal_numbers p bs
  pub each : AreEngines p told finals ws more
  pub left : EachKept p told finals ws rest

pub taking_none : (p : Program) (told : Told) (finals : Finals) (ws : List Word) (bs : List Beginning) (old rest : List Part)
    → EachKept p told finals ws rest
    → Taking p told finals ws 0 bs old old rest
taking_none p told finals ws bs old rest left = record { more = []; put = sym (append-nil old); numbers = refl; each = tt; left = left }

numbers_append : (ks ls : List Part) → numbers_of (ks ++ ls) ≡ numbers_of ks ++ numbers_of ls
numbers_append [] ls = refl
numbers_append (k ∷ ks) ls = ap (λ (ns : List ℕ). k.number ∷ ns) (numbers_append ks ls)

engines_more : (p : Program) (told : Told) (finals : Finals) (ws : List Word) (ks : List Part) (k : Part)
    → AreEngines p told finals ws ks
    → IsEngine p told finals ws k
    → AreEngines p told finals ws (ks ++ k ∷ [])
engines_more p told finals ws [] k are is = (is, tt)
engines_more p told finals ws (j ∷ ks) k are is = (are.0, engines_more p told finals ws ks k are.1 is)

goal_first : (p : Program) (b : Beginning) (bs all : List Beginning) → all ≡ b ∷ bs → is_goal_number p b.engine ≡ true → goal_numbers p all ≡ b.engine ∷ goal_numbers p bs
goal_first p b bs all at is = ap (goal_numbers p) at ∙ ap (λ (t : Bool). if t then b.engine ∷ goal_numbers p bs else goal_numbers p bs) is

no_goal : (p : Program) (b : Beginning) (bs all : List Beginning) → all ≡ b ∷ bs → is_goal_number p b.engine ≡ false → goal_numbers p all ≡ goal_numbers p bs
no_goal p b bs all at is = ap (goal_numbers p) at ∙ ap (λ (t : Bool). if t then b.engine ∷ goal_numbers p bs else goal_numbers p bs) is

pub taking_goal : (p : Program) (told : Told) (finals : Finals) (ws : List Word) (i : ℕ) (bs : List Beginning) (n : ℕ) (a : Option Chars) (old now new rest left : List Part) (k : Part)
    → (b : BegunAt bs i n a)
    → is_goal_number p b.beginning.engine ≡ true
    → IsNext n rest left k
    → new ≡ now ++ k ∷ []
    → Taking p told finals ws i bs old now rest
    → Taking p told finals ws (suc i) bs old new left
taking_goal p told finals ws i bs n a old now new rest left k b is next put t =
    let there : EachKept p told finals ws (k ∷ left) = subst (EachKept p told finals ws) next.was t.left in
    let same : b.beginning.engine ≡ k.number = b.number ∙ sym next.number_is in
    record {
      more = t.more ++ k ∷ [];
      put = put ∙ ap (λ (ks : List Part). ks ++ k ∷ []) t.put ∙ append_assoc old t.more (k ∷ []);
      numbers =
          ap (λ (ns : List ℕ). ns ++ goal_numbers p (drop (suc i) bs)) (numbers_append t.more (k ∷ []))
          ∙ append_assoc (numbers_of t.more) (k.number ∷ []) (goal_numbers p (drop (suc i) bs))
          ∙ ap (λ (m : ℕ). numbers_of t.more ++ m ∷ goal_numbers p (drop (suc i) bs)) (sym same)
          ∙ ap (λ (ns : List ℕ). numbers_of t.more ++ ns) (sym (goal_first p b.beginning (drop (suc i) bs) (drop i bs) b.here is))
          ∙ t.numbers;
      each = engines_more p told finals ws t.more k t.each (engine_of p told finals ws k there.0 (sym (ap (is_goal_number p) same) ∙ is));
      left = there.1;
    }

pub taking_other : (p : Program) (told : Told) (finals : Finals) (ws : List Word) (i : ℕ) (bs : List Beginning) (n : ℕ) (a : Option Chars) (old now rest : List Part)
    → (b : BegunAt bs i n a)
    → is_goal_number p b.beginning.engine ≡ false
    → Taking p told finals ws i bs old now rest
    → Taking p told finals ws (suc i) bs old now rest
taking_other p told finals ws i bs n a old now rest b is t =
    record {
      more = t.more;
      put = t.put;
      numbers = ap (λ (ns : List ℕ). numbers_of t.more ++ ns) (sym (no_goal p b.beginning (drop (suc i) bs) (drop i bs) b.here is)) ∙ t.numbers;
      each = t.each;
      left = t.left;
    }

pub all_taken : (p : Program) (told : Told) (finals : Finals) (ws : List Word) (i : ℕ) (bs : List Beginning) (old new rest : List Part)
    → drop i bs ≡ []
    → Taking p told finals ws i bs old new rest
    → TakesGoals p told finals ws bs old new × EachKept p told finals ws rest
all_taken p told finals ws i bs old new rest none t = (
  record {
    more = t.more;
    put = t.put;
    numbers =
        sym (append-nil (numbers_of t.more)) ∙ ap (λ (ds : List Beginning). numbers_of t.more ++ goal_numbers p ds) (sym none) ∙ t.numbers;
    each = t.each;
  },
  t.left,
)

-- The loop over the beginnings that takes the threads.
pub record Threading (p : Program) (told : Told) (finals : Finals) (ws : List Word) (i : ℕ) (bs : List Beginning) (ks rest : List Part) : Type 0 where
  pub done : List Beginning
  pub each : AllZip (IsThread p told finals) done ks
  pub whole : done ++ threads_in p (drop i bs) ≡ threads_in p bs
  pub left : EachKept p told finals ws rest

pub threading_none : (p : Program) (told : Told) (finals : Finals) (ws : List Word) (bs : List Beginning) (ks rest : List Part)
    → ks ≡ []
    → EachKept p told finals ws rest
    → Threading p told finals ws 0 bs ks rest
threading_none p told finals ws bs ks rest none left =
    record { done = []; each = subst (AllZip (IsThread p told finals) []) (sym none) tt; whole = refl; left = left }

zip_more : (p : Program) (told : Told) (finals : Finals) (bs : List Beginning) (ks : List Part) (b : Beginning) (k : Part)
    → AllZip (IsThread p told finals) bs ks
    → IsThread p told finals b k
    → AllZip (IsThread p told finals) (bs ++ b ∷ []) (ks ++ k ∷ [])
zip_more p told finals [] [] b k each is = (is, tt)
zip_more p told finals [] (j ∷ ks) b k each is = absurd each
zip_more p told finals (c ∷ bs) [] b k each is = absurd each
zip_more p told finals (c ∷ bs) (j ∷ ks) b k each is = (each.0, zip_more p told finals bs ks b k each.1 is)

thread_first : (p : Program) (b : Beginning) (bs all : List Beginning) → all ≡ b ∷ bs → is_goal_number p b.engine ≡ false → threads_in p all ≡ b ∷ threads_in p bs
thread_first p b bs all at is = ap (threads_in p) at ∙ ap (λ (t : Bool). if t then threads_in p bs else b ∷ threads_in p bs) is

no_thread : (p : Program) (b : Beginning) (bs all : List Beginning) → all ≡ b ∷ bs → is_goal_number p b.engine ≡ true → threads_in p all ≡ threads_in p bs
no_thread p b bs all at is = ap (threads_in p) at ∙ ap (λ (t : Bool). if t then threads_in p bs else b ∷ threads_in p bs) is

pub threading_thread : (p : Program) (told : Told) (finals : Finals) (ws : List Word) (i : ℕ) (bs : List Beginning) (n : ℕ) (a : Option Chars) (now new rest left : List Part) (k named : Part)
    → (b : BegunAt bs i n a)
    → is_goal_number p b.beginning.engine ≡ false
    → IsNext n rest left k
    → named ≡ record k { alias = a }
    → new ≡ now ++ named ∷ []
    → Threading p told finals ws i bs now rest
    → Threading p told finals ws (suc i) bs new left
threading_thread p told finals ws i bs n a now new rest left k named b is next so put t =
    let there : EachKept p told finals ws (k ∷ left) = subst (EachKept p told finals ws) next.was t.left in
    let same : b.beginning.engine ≡ k.number = b.number ∙ sym next.number_is in
    let one : IsThread p told finals b.beginning named =
    subst (IsThread p told finals b.beginning) (sym so)
    (thread_of p told finals ws b.beginning k a there.0 (sym (ap (is_goal_number p) same) ∙ is) same b.alias) in
    record {
      done = t.done ++ b.beginning ∷ [];
      each = subst (AllZip (IsThread p told finals) (t.done ++ b.beginning ∷ [])) (sym put) (zip_more p told finals t.done now b.beginning named t.each one);
      whole =
          append_assoc t.done (b.beginning ∷ []) (threads_in p (drop (suc i) bs))
          ∙ ap (λ (cs : List Beginning). t.done ++ cs) (sym (thread_first p b.beginning (drop (suc i) bs) (drop i bs) b.here is))
          ∙ t.whole;
      left = there.1;
    }

pub threading_goal : (p : Program) (told : Told) (finals : Finals) (ws : List Word) (i : ℕ) (bs : List Beginning) (n : ℕ) (a : Option Chars) (now rest : List Part)
    → (b : BegunAt bs i n a)
    → is_goal_number p b.beginning.engine ≡ true
    → Threading p told finals ws i bs now rest
    → Threading p told finals ws (suc i) bs now rest
threading_goal p told finals ws i bs n a now rest b is t =
    record {
      done = t.done;
      each = t.each;
      whole = ap (λ (cs : List Beginning). t.done ++ cs) (sym (no_thread p b.beginning (drop (suc i) bs) (drop i bs) b.here is)) ∙ t.whole;
      left = t.left;
    }

pub all_threads : (p : Program) (told : Told) (finals : Finals) (ws : List Word) (i : ℕ) (bs : List Beginning) (ks rest : List Part)
    → drop i bs ≡ []
    → Threading p told finals ws i bs ks rest
    → AreThreads p told finals bs ks
all_threads p told finals ws i bs ks rest none t =
    subst (λ (ds : List Beginning). AllZip (IsThread p told finals) ds ks)
    (sym (append-nil t.done) ∙ ap (λ (ds : List Beginning). t.done ++ threads_in p ds) (sym none) ∙ t.whole)
    t.each
