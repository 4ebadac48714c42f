-- What an engine's front tells of it, as its lists gain.
use Rattle.std.proofs.Common.{◌≡◌, ◌⊎◌, inl, inr, ◌≤◌, ◌<◌, ℕ, zero, suc, ◌+◌, ◌==◌, List, [], ◌∷◌, ◌++◌, Bool, true, false, length, Some, refl, sym, ap, subst, ◌∙◌, arith, eq-eqb, append-nil}
use Rattle.std.specs.Prelude.{if◌then◌else◌, slice_index_or}
use Rattle.std.specs.List.{Contains}
use Rattle.std.proofs.lemmas.List.{length-append}
use Rattle.std.proofs.lemmas.List.Elements.{Contains-append_cases}
use Rattle.atomic_table.specs.Seated.{TableId}
use Rattle.pl_model.specs.History.{Entry, History, Kind, is_end, mine}
use Rattle.pl_model.specs.Service.{entry_by}
use Rattle.pl_history.specs.Fronts.{FrontState, Life, gains, own_engine, own_generations, own_runs, own_updates, visited, with_generation}
use Rattle.pl_history.proofs.Lives.{mine_own, own_engine-gains, own_runs_on, own_updates-gains, told_own}
use Rattle.world_api.specs.Told.{Follows, Told}
use Rattle.world_api.specs.Answers.{seen_as}
use Rattle.counted_terms.specs.declared.row.Row.{Row}
use Rattle.counted_terms.specs.declared.row.Row.TheVariants.{Reads, Makes, Waits, NeedsAtoms, Retry, Worn, Memory}
use Rattle.pl_hub.specs.Fronts.{IsOwn, told_of}
use Rattle.pl_hub.specs.Settling.{CanSettle, IsBehind, Sees, entry, front_after}

-- A VISIT
visited_engine : (g : ℕ) (ls : List Life) → own_engine (visited g ls) ≡ own_engine ls
visited_engine g [] = refl
visited_engine g (l ∷ ls) = refl

visited_runs : (g : ℕ) (ls : List Life) → own_runs (visited g ls) ≡ own_runs ls
visited_runs g [] = refl
visited_runs g (l ∷ ls) = refl

visited_updates : (g : ℕ) (ls : List Life) → own_updates (visited g ls) ≡ own_updates ls
visited_updates g [] = refl
visited_updates g (l ∷ ls) = refl

visited_generations : (g : ℕ) (ls : List Life) → own_runs ls ≡ true → own_generations (visited g ls) ≡ own_generations ls ++ g ∷ []
visited_generations g [] runs = absurd (cc)
visited_generations g (l ∷ ls) runs = refl

-- AN UPDATE that is no end
gained_by : (b c : Bool) (x : Entry) (g : ℕ) (l : Life) → (l.engine == x.engine) ≡ b → b ≡ true → is_end x.kind ≡ c → c ≡ false
    → (if b then record { engine = l.engine; updates = l.updates ++ x.kind ∷ []; generations = with_generation x.kind g l.generations } else l).generations ≡ l.generations ++ g ∷ []
gained_by true c x g l is hit kind plain = ap (λ (d : Bool). if d then l.generations else l.generations ++ g ∷ []) (kind ∙ plain)
gained_by false c x g l is hit kind plain = absurd (cc)

gains_generations : (x : Entry) (g : ℕ) (ls : List Life) → own_engine ls ≡ x.engine → is_end x.kind ≡ false → own_runs ls ≡ true → own_generations (gains x g ls) ≡ own_generations ls ++ g ∷ []
gains_generations x g [] same plain runs = absurd (cc)
gains_generations x g (l ∷ ls) same plain runs = gained_by (l.engine == x.engine) (is_end x.kind) x g l refl (eq-eqb l.engine x.engine same) refl plain

-- UPDATES OF ONE ENGINE
mine_by : (b : Bool) (k : Kind) (ms ns : List Kind) → (if b then k ∷ (ms ++ ns) else ms ++ ns) ≡ (if b then k ∷ ms else ms) ++ ns
mine_by true k ms ns = refl
mine_by false k ms ns = refl

mine_append : (xs ys : History) (e : ℕ) → mine (xs ++ ys) e ≡ mine xs e ++ mine ys e
mine_append [] ys e = refl
mine_append (x ∷ xs) ys e = ap (λ (ks : List Kind). if x.engine == e then x.kind ∷ ks else ks) (mine_append xs ys e) ∙ mine_by (x.engine == e) x.kind (mine xs e) (mine ys e)

no_more : {A : Type 0} (xs ys : List A) → xs ++ ys ≡ xs → ys ≡ []
no_more [] ys e = e
no_more (x ∷ xs) ys e = no_more xs ys (tail_is e)
  where
    tail_is : x ∷ (xs ++ ys) ≡ x ∷ xs → xs ++ ys ≡ xs
    tail_is h = cc

-- What came since the front saw the history is no update of its engine.
pub follows : (f : FrontState) (h : History) → own_runs f.lives ≡ true → own_updates f.lives ≡ mine f.seen (own_engine f.lives) → IsBehind h f → Follows (own_engine f.lives) f.seen h
follows f h runs updates behind =
    let e = own_engine f.lives in
    let later = behind.seen.0 in
    let grown : f.seen ++ later ≡ h = behind.seen.1 in
    let own : own_updates f.lives ≡ mine h e = told_own h f.lives behind.told runs in
    let both : mine f.seen e ++ mine later e ≡ mine f.seen e =
    sym (mine_append f.seen later e) ∙ ap (λ (l : History). mine l e) grown ∙ sym own ∙ updates in
    record { later = later; grown = sym grown; others = no_more (mine f.seen e) (mine later e) both }

-- WHAT IS TOLD
told_as : (goals : ℕ) (d e : ℕ) (h i : History) (gs ks : List ℕ) → d ≡ e → h ≡ i → gs ≡ ks
    → ◌≡◌ {A = Told} (record { engine = d; goals = goals; history = h; gens = gs }) (record { engine = e; goals = goals; history = i; gens = ks })
told_as goals d e h i gs ks a b c = (λ j. record { engine = a j; goals = goals; history = b j; gens = c j })

pub told_visited : (goals : ℕ) (f : FrontState) (h : History) → own_runs f.lives ≡ true
    → told_of goals (record f { seen = h; lives = visited (length h) f.lives }) ≡ seen_as (told_of goals f) (h ++ []) (own_generations f.lives ++ length h ∷ [])
told_visited goals f h runs = told_as goals _ _ _ _ _ _ (visited_engine (length h) f.lives) (sym (append-nil h)) (visited_generations (length h) f.lives runs)

pub told_gained : (goals : ℕ) (f : FrontState) (h : History) (k : Kind) → own_runs f.lives ≡ true → is_end k ≡ false
    → told_of goals (record f { seen = h ++ entry (own_engine f.lives) k ∷ []; lives = gains (entry (own_engine f.lives) k) (length h) f.lives })
    ≡ seen_as (told_of goals f) (h ++ entry_by (own_engine f.lives) (Some k)) (own_generations f.lives ++ length h ∷ [])
told_gained goals f h k runs plain =
    let x = entry (own_engine f.lives) k in
    told_as goals _ _ _ _ _ _ (own_engine-gains x (length h) f.lives) refl (gains_generations x (length h) f.lives refl plain runs)

-- THE FRONT STAYS ONE OF AN ENGINE THAT RUNS
longer : (n m : ℕ) (gs : List ℕ) → ((g : ℕ) → Contains gs g → g ≤ n) → n ≤ m → (g : ℕ) → Contains (gs ++ m ∷ []) g → g ≤ m
longer n m gs within le g in_list = go (Contains-append_cases gs (m ∷ []) g in_list)
  where
    one : (k : ℕ) → k < 1 → slice_index_or (m ∷ []) k g ≡ g → g ≤ m
    one zero lt is = let e = is in omega (arith, e)
    one (suc k) lt is = absurd (omega arith)

    go : Contains gs g ⊎ Contains (m ∷ []) g → g ≤ m
    go (inl c) = let l = within g c in omega arith
    go (inr c) = one c.0 c.1 c.2

module _ (t : TableId) (e : ℕ) (f : FrontState) (own : IsOwn t e f) (h : History) where
  -- of an update by another name of the engine
  gains_updates : (k : Kind) → own_updates (gains (entry e k) (length h) f.lives) ≡ own_updates f.lives ++ k ∷ []
  gains_updates k = own_updates-gains (entry e k) (length h) f.lives own.engine own.runs

  told_updates : IsBehind h f → own_updates f.lives ≡ mine h e
  told_updates behind = told_own h f.lives behind.told own.runs ∙ ap (mine h) own.engine

  seen_le : IsBehind h f → length f.seen ≤ length h
  seen_le behind =
      let n = length-append f.seen behind.seen.0 in
      let m : length (f.seen ++ behind.seen.0) ≡ length h = ap (λ (l : History). length l) behind.seen.1 in omega (arith, n, m)

  pub own_after : (k : Kind) (row : Row) → CanSettle k h row → Sees h f row → IsOwn t e (front_after e k row h f)
  own_after k (Reads r) can behind = record {
    table = own.table;
    engine = visited_engine (length h) f.lives ∙ own.engine;
    runs = visited_runs (length h) f.lives ∙ own.runs;
    updates = visited_updates (length h) f.lives ∙ told_updates behind;
    within = λ g c. longer (length f.seen) (length h) (own_generations f.lives) own.within (seen_le behind) g (subst (λ (gs : List ℕ). Contains gs g) (visited_generations (length h) f.lives own.runs) c);
  }
  own_after k (Makes r) can behind =
      let x = entry e k in
      let more : length (h ++ x ∷ []) ≡ length h + 1 = length-append h (x ∷ []) in
      record {
        table = own.table;
        engine = own_engine-gains x (length h) f.lives ∙ own.engine;
        runs = own_runs_on x (length h) f.lives can.plain ∙ own.runs;
        updates = gains_updates k ∙ ap (λ (ks : List Kind). ks ++ k ∷ []) (told_updates behind) ∙ sym (mine_own h x e refl);
        within = λ g c.
            let le = longer (length f.seen) (length h) (own_generations f.lives) own.within (seen_le behind) g
            (subst (λ (gs : List ℕ). Contains gs g) (gains_generations x (length h) f.lives own.engine can.plain own.runs) c) in omega (arith, le, more);
      }
  own_after k (Waits on) can behind = record {
    table = own.table;
    engine = own.engine;
    runs = own.runs;
    updates = told_updates behind;
    within = λ g c. let a = own.within g c in let b = seen_le behind in omega (arith, a, b);
  }
  own_after k (NeedsAtoms p) can behind = own
  own_after k (Retry c) can behind = own
  own_after k (Worn w) can behind = own
  own_after k Memory can behind = own

  -- after a look
  pub told_updates_of : IsBehind h f → IsOwn t e (record f { seen = h })
  told_updates_of behind = record {
    table = own.table;
    engine = own.engine;
    runs = own.runs;
    updates = told_updates behind;
    within = λ g c. let a = own.within g c in let b = seen_le behind in omega (arith, a, b);
  }
