-- Engines begin in the order of their numbers: no two have one number, and each has the job with which it began.
use Rattle.std.proofs.Common.{◌≡◌, ◌⊎◌, ◌==◌, ◌≤◌, ◌<◌, inl, inr, ℕ, zero, suc, List, [], ◌∷◌, map, Bool, true, false, not, refl, sym, ap, ◌∙◌, subst, arith, eq-eqb, ne_eqb}
use Rattle.std.specs.Prelude.{filter, if◌then◌else◌}
use Rattle.std.specs.List.{Contains}
use Rattle.pl_model.specs.History.{History, Kind, abolish, add_first, add_last, drop_queue, erase, finish, join, make_queue, send, set_dynamic, set_flag, set_op, start}
use Rattle.pl_model.specs.History as entries
use Rattle.pl_model.specs.Threads.{opening_count}
use Rattle.run_model.specs.Execution.{Job}
use Rattle.run_model.specs.Lawful.{Beginning, Program, beginnings, beginnings_from, engine_numbers, main_job, started_job}
use Rattle.run_model.specs.Ends.{job_of}
use Rattle.run_model.specs.WholeRuns.{IsJob, Once}
use Rattle.pl_history.specs.Fronts.{Life}
use Rattle.pl_hub.specs.Fronts.{begun_in}
use Rattle.pl_hub.specs.Order.{IsInOrder, Rises, is_goal, numbers_of}
use Rattle.toplevel.proofs.Members.{here, nowhere, passes, split, there}

-- The numbers of the beginnings are those of the engines that the entries begin.
by_kind : (place e : ℕ) (k : Kind) (xs : History) → map (λ (b : Beginning). b.engine) (beginnings_from (suc place) xs) ≡ map (λ (l : Life). l.engine) (begun_in xs)
    → map (λ (b : Beginning). b.engine) (beginnings_from place (record { engine = e; kind = k } ∷ xs)) ≡ map (λ (l : Life). l.engine) (begun_in (record { engine = e; kind = k } ∷ xs))
by_kind place e (start b u a) xs same = ap (λ (ns : List ℕ). b ∷ ns) same
by_kind place e (add_first p c o) xs same = same
by_kind place e (add_last p c o) xs same = same
by_kind place e (erase j) xs same = same
by_kind place e (abolish p) xs same = same
by_kind place e (set_dynamic ps) xs same = same
by_kind place e (set_flag f v) xs same = same
by_kind place e (set_op os) xs same = same
by_kind place e (make_queue i a) xs same = same
by_kind place e (drop_queue i) xs same = same
by_kind place e (send i u) xs same = same
by_kind place e (entries.take j) xs same = same
by_kind place e (finish how steps) xs same = same
by_kind place e (join i) xs same = same

same_from : (place : ℕ) (h : History) → map (λ (b : Beginning). b.engine) (beginnings_from place h) ≡ map (λ (l : Life). l.engine) (begun_in h)
same_from place [] = refl
same_from place (x ∷ xs) = by_kind place x.engine x.kind xs (same_from (suc place) xs)

-- A list that rises has no number below its first, and none twice.
above_all : (low high : ℕ) (ns : List ℕ) (n : ℕ) → Rises low high ns → Contains ns n → low ≤ n
above_all low high [] n r p = absurd (nowhere n p)
above_all low high (m ∷ ms) n r p = go (above_all (suc m) high ms n r.2) (split m ms n p)
  where
    go : (Contains ms n → suc m ≤ n) → (n ≡ m) ⊎ Contains ms n → low ≤ n
    go rest (inl e) = subst (λ (k : ℕ). low ≤ k) (sym e) r.0
    go rest (inr q) = let le = rest q in let first = r.0 in omega (arith, le, first)

-- A list is made of numbers that pass a test and of others, and both rise.
module _ (f : ℕ → Bool) (high other : ℕ) where
  abbrev kept : ℕ → Bool → List ℕ → List ℕ
  kept n b ns = if b then n ∷ filter f ns else filter f ns

  abbrev left : ℕ → Bool → List ℕ → List ℕ
  left n b ns = if not b then n ∷ filter (λ k. not (f k)) ns else filter (λ k. not (f k)) ns

  abbrev OnceRest : List ℕ → Type 0
  OnceRest ns = (low lower : ℕ) → Rises low high (filter f ns) → Rises lower other (filter (λ k. not (f k)) ns) → Once ns

  once_here : (low lower n : ℕ) (ns : List ℕ) → OnceRest ns → (b : Bool) → f n ≡ b → Rises low high (kept n b ns) → Rises lower other (left n b ns) → Once (n ∷ ns)
  once_here low lower n ns rest true is r s =
      (λ p. (let le = above_all (suc n) high (filter f ns) n r.2 (passes f ns n is p) in omega (arith, le)), rest (suc n) lower r.2 s)
  once_here low lower n ns rest false is r s =
      (λ p. (let le = above_all (suc n) other (filter (λ k. not (f k)) ns) n s.2 (passes (λ k. not (f k)) ns n (ap not is) p) in omega (arith, le)), rest low (suc n) r s.2)

  once_by : (low lower : ℕ) (ns : List ℕ) → Rises low high (filter f ns) → Rises lower other (filter (λ k. not (f k)) ns) → Once ns
  once_by low lower [] r s = tt
  once_by low lower (n ∷ ns) r s =
      once_here low lower n ns (λ a b. once_by a b ns) (f n) refl r s

  none_below : (low lower : ℕ) (ns : List ℕ) → Rises low high (filter f ns) → Rises lower other (filter (λ k. not (f k)) ns) → (n : ℕ) → n < low → n < lower → Contains ns n → ⊥
  none_below low lower ns r s n below lesser p = go (f n) refl
    where
      go : (b : Bool) → f n ≡ b → ⊥
      go true is = let le = above_all low high (filter f ns) n r (passes f ns n is p) in omega (arith, le, below)
      go false is = let le = above_all lower other (filter (λ k. not (f k)) ns) n s (passes (λ k. not (f k)) ns n (ap not is) p) in omega (arith, le, lesser)

opening_high : (goals : ℕ) → 1 < opening_count goals
opening_high zero = omega arith
opening_high (suc n) =
    subst (λ (b : Bool). 1 < (if b then 2 else suc (suc n))) (sym (ne_eqb (suc n) 0 (λ same. absurd (omega (arith, same))))) (omega arith)

-- No two engines have one number.
pub once_in : (goals : ℕ) (h : History) → IsInOrder goals h → Once (engine_numbers (beginnings h))
once_in goals h order =
    subst (λ (ns : List ℕ). Once (1 ∷ ns)) (sym (same_from zero h)) (
      none_below (is_goal goals) _ _ 2 (opening_count goals) (numbers_of (begun_in h)) order.goals_rise order.threads_rise 1 (omega arith) (opening_high goals),
      once_by (is_goal goals) _ _ 2 (opening_count goals) (numbers_of (begun_in h)) order.goals_rise order.threads_rise,
    )

-- Each engine has the job of its beginning.
numbered : (bs : List Beginning) (b : Beginning) → Contains bs b → Contains (map (λ (c : Beginning). c.engine) bs) b.engine
numbered [] b p = absurd (nowhere b p)
numbered (c ∷ cs) b p = go (numbered cs b) (split c cs b p)
  where
    go : (Contains cs b → Contains (map (λ (d : Beginning). d.engine) cs) b.engine)
        → (b ≡ c) ⊎ Contains cs b
        → Contains (c.engine ∷ map (λ (d : Beginning). d.engine) cs) b.engine
    go rest (inl e) = subst (λ (n : ℕ). Contains (c.engine ∷ map (λ (d : Beginning). d.engine) cs) n) (sym (ap (λ (d : Beginning). d.engine) e)) (here c.engine (map (λ (d : Beginning). d.engine) cs))
    go rest (inr q) = there c.engine (map (λ (d : Beginning). d.engine) cs) b.engine (rest q)

abbrev job_by : Program → Beginning → Bool → List Beginning → ℕ → Job
job_by p b t bs e = if t then started_job p b else job_of p bs e

pub begun_job : (p : Program) (bs : List Beginning) (b : Beginning) → Once (map (λ (c : Beginning). c.engine) bs) → Contains bs b → job_of p bs b.engine ≡ started_job p b
begun_job p [] b once among = absurd (nowhere b among)
begun_job p (c ∷ cs) b once among = go (begun_job p cs b once.1) (split c cs b among)
  where
    go : (Contains cs b → job_of p cs b.engine ≡ started_job p b) → (b ≡ c) ⊎ Contains cs b → job_of p (c ∷ cs) b.engine ≡ started_job p b
    go rest (inl e) =
        ap (λ (t : Bool). job_by p c t cs b.engine) (eq-eqb c.engine b.engine (ap (λ (d : Beginning). d.engine) (sym e)))
        ∙ ap (started_job p) (sym e)
    go rest (inr q) =
        ap (λ (t : Bool). job_by p c t cs b.engine)
        (ne_eqb c.engine b.engine (λ same. once.0 (subst (λ (n : ℕ). Contains (map (λ (d : Beginning). d.engine) cs) n) (sym same) (numbered cs b q))))
        ∙ rest q

first_job : (p : Program) (bs : List Beginning) → (Contains (map (λ (c : Beginning). c.engine) bs) 1 → ⊥) → job_of p bs 1 ≡ main_job p
first_job p [] none = refl
first_job p (c ∷ cs) none =
    ap (λ (t : Bool). job_by p c t cs 1)
    (ne_eqb c.engine 1 (λ same. none (subst (λ (n : ℕ). Contains (c.engine ∷ map (λ (d : Beginning). d.engine) cs) n) same (here c.engine (map (λ (d : Beginning). d.engine) cs)))))
    ∙ first_job p cs (λ q. none (there c.engine (map (λ (d : Beginning). d.engine) cs) 1 q))

pub job_is : (p : Program) (e : ℕ) (h : History) (job : Job) (low : ℕ) → Once (engine_numbers (beginnings h)) → IsJob p e h job low → job ≡ job_of p (beginnings h) e
job_is p e h job low once (inl is) =
    is.1 ∙ sym (first_job p (beginnings h) once.0) ∙ ap (job_of p (beginnings h)) (sym is.0)
job_is p e h job low once (inr b) =
    b.3 ∙ sym (begun_job p (beginnings h) b.0 once.1 b.1) ∙ ap (job_of p (beginnings h)) b.2

-- The first engine consults the file.
pub main_job_is : (p : Program) (e : ℕ) (h : History) (job : Job) (low : ℕ) → Once (engine_numbers (beginnings h)) → e ≡ 1 → IsJob p e h job low → job ≡ main_job p
main_job_is p e h job low once one is = job_is p e h job low once is ∙ ap (job_of p (beginnings h)) one ∙ first_job p (beginnings h) once.0
