-- What is known of each engine at the end makes the whole run complete, and its final states are those of the definition.
use Rattle.std.proofs.Common.{◌≡◌, ◌⊎◌, ◌==◌, inl, inr, ℕ, zero, List, [], ◌∷◌, map, length, Bool, true, false, Some, refl, sym, ap, ◌∙◌, subst, arith, eq-eqb, eqb-true}
use Rattle.std.specs.Prelude.{if◌then◌else◌}
use Rattle.std.specs.List.{Contains}
use Rattle.std.proofs.lemmas.List.Elements.{Contains-append_left, Contains-append_right, Contains-append_cases, Contains-push, Contains-push_cases}
use Rattle.pl_model.specs.History.{History}
use Rattle.run_model.specs.Execution.{Execution, Job}
use Rattle.run_model.specs.Lawful.{Beginning, IsComplete, IsDone, Program, beginnings, engine_numbers, generations_of, main_job, started_job}
use Rattle.run_model.specs.Report.{AreFinal, Finals, final_of, stood}
use Rattle.run_model.specs.WholeRuns.{AreBegun, AreWhole, Carried, IsJob, Once, finals_in, generations_in, numbers_of, told_in}

-- A list contains its first element, and what the rest contains, and no more.
nowhere : {X : Type 0} (x : X) → Contains [] x → ⊥
nowhere x p = let low = p.1 in omega (arith, low)

here : {X : Type 0} (x : X) (xs : List X) → Contains (x ∷ xs) x
here x xs = Contains-append_left (x ∷ []) xs x (Contains-push [] x)

there : {X : Type 0} (y : X) (xs : List X) (x : X) → Contains xs x → Contains (y ∷ xs) x
there y xs x p = Contains-append_right (y ∷ []) xs x p

split : {X : Type 0} (y : X) (xs : List X) (x : X) → Contains (y ∷ xs) x → (x ≡ y) ⊎ Contains xs x
split y xs x p = go (Contains-append_cases (y ∷ []) xs x p)
  where
    only : Contains [] x ⊎ (y ≡ x) → (x ≡ y) ⊎ Contains xs x
    only (inl q) = absurd (nowhere x q)
    only (inr e) = inl (sym e)

    go : Contains (y ∷ []) x ⊎ Contains xs x → (x ≡ y) ⊎ Contains xs x
    go (inl q) = only (Contains-push_cases [] y x q)
    go (inr q) = inr q

numbered : (bs : List Beginning) (b : Beginning) → Contains bs b → Contains (map (λ (c : Beginning). c.engine) bs) b.engine
numbered [] b p = absurd (nowhere b p)
numbered (c ∷ cs) b p = go (numbered cs b) (split c cs b p)
  where
    go : (Contains cs b → Contains (map (λ (d : Beginning). d.engine) cs) b.engine)
        → (b ≡ c) ⊎ Contains cs b
        → Contains (c.engine ∷ map (λ (d : Beginning). d.engine) cs) b.engine
    go rest (inl e) = subst (λ (n : ℕ). Contains (c.engine ∷ map (λ (d : Beginning). d.engine) cs) n) (sym (ap (λ (d : Beginning). d.engine) e)) (here c.engine (map (λ (d : Beginning). d.engine) cs))
    go rest (inr q) = there c.engine (map (λ (d : Beginning). d.engine) cs) b.engine (rest q)

-- No two beginnings have one number.
same_by_number : (bs : List Beginning) (a b : Beginning)
    → Once (map (λ (c : Beginning). c.engine) bs)
    → Contains bs a
    → Contains bs b
    → a.engine ≡ b.engine
    → a ≡ b
same_by_number [] a b once p q e = absurd (nowhere a p)
same_by_number (c ∷ cs) a b once p q e = go (λ f g. same_by_number cs a b once.1 f g e) (split c cs a p) (split c cs b q)
  where
    go : (Contains cs a → Contains cs b → a ≡ b) → (a ≡ c) ⊎ Contains cs a → (b ≡ c) ⊎ Contains cs b → a ≡ b
    go rest (inl f) (inl g) = f ∙ sym g
    go rest (inl f) (inr g) =
        absurd (once.0 (subst (λ (n : ℕ). Contains (map (λ (d : Beginning). d.engine) cs) n) (sym e ∙ ap (λ (d : Beginning). d.engine) f) (numbered cs b g)))
    go rest (inr f) (inl g) =
        absurd (once.0 (subst (λ (n : ℕ). Contains (map (λ (d : Beginning). d.engine) cs) n) (e ∙ ap (λ (d : Beginning). d.engine) g) (numbered cs a f)))
    go rest (inr f) (inr g) = rest f g

-- The first of these engines with a number, and what is told of the number is of it.
record Found (p : Program) (h : History) (cs : List (Carried p h)) (n : ℕ) : Type 0 where
  pub carried : Carried p h
  pub number_is : carried.number ≡ n
  pub gens_are : generations_of (generations_in cs) n ≡ carried.gens
  pub final_is : final_of (finals_in cs) n ≡ Some (stood carried.done)

found_first : (p : Program) (h : History) (c : Carried p h) (cs : List (Carried p h)) (n : ℕ) → c.number == n ≡ true → Found p h (c ∷ cs) n
found_first p h c cs n is =
    record {
      carried = c;
      number_is = eqb-true c.number n is;
      gens_are = ap (λ b. if b then c.gens else generations_of (generations_in cs) n) is;
      final_is = ap (λ b. if b then Some (stood c.done) else final_of (finals_in cs) n) is;
    }

found_later : (p : Program) (h : History) (c : Carried p h) (cs : List (Carried p h)) (n : ℕ) → c.number == n ≡ false → Found p h cs n → Found p h (c ∷ cs) n
found_later p h c cs n is f =
    record {
      carried = f.carried;
      number_is = f.number_is;
      gens_are = ap (λ b. if b then c.gens else generations_of (generations_in cs) n) is ∙ f.gens_are;
      final_is = ap (λ b. if b then Some (stood c.done) else final_of (finals_in cs) n) is ∙ f.final_is;
    }

found : (p : Program) (h : History) (cs : List (Carried p h)) (n : ℕ) → Contains (numbers_of cs) n → Found p h cs n
found p h [] n among = absurd (nowhere n among)
found p h (c ∷ cs) n among = go (found p h cs n) (c.number == n) refl
  where
    rest : (Contains (numbers_of cs) n → Found p h cs n) → c.number == n ≡ false → (n ≡ c.number) ⊎ Contains (numbers_of cs) n → Found p h (c ∷ cs) n
    rest later other (inl e) = absurd (let same : c.number == n ≡ true = eq-eqb c.number n (sym e) in let no : ⊥ = cc in no)
    rest later other (inr q) = found_later p h c cs n other (later q)

    go : (Contains (numbers_of cs) n → Found p h cs n) → (b : Bool) → c.number == n ≡ b → Found p h (c ∷ cs) n
    go later true is = found_first p h c cs n is
    go later false other = rest later other (split c.number (numbers_of cs) n among)

-- The same engine under other words for its number, its job and its generations.
carried_as : (p : Program) (h : History) (n m : ℕ) (job other : Job) (low first : ℕ) (gens gs : List ℕ) (x : Execution)
    → n ≡ m
    → job ≡ other
    → low ≡ first
    → gens ≡ gs
    → (d : IsDone n (length p.words) p.slots job low h gens) × (x ≡ stood d)
    → (d : IsDone m (length p.words) p.slots other first h gs) × (x ≡ stood d)
carried_as p h n m job other low first gens gs x number jobs lows generations done =
    subst (λ (k : List ℕ). (d : IsDone m (length p.words) p.slots other first h k) × (x ≡ stood d)) generations
    (subst (λ (k : ℕ). (d : IsDone m (length p.words) p.slots other k h gens) × (x ≡ stood d)) lows
    (subst (λ (k : Job). (d : IsDone m (length p.words) p.slots k low h gens) × (x ≡ stood d)) jobs
    (subst (λ (k : ℕ). (d : IsDone k (length p.words) p.slots job low h gens) × (x ≡ stood d)) number done)))

final_as : (fs : Finals) (n : ℕ) (x y : Execution) → final_of fs n ≡ Some x → x ≡ y → final_of fs n ≡ Some y
final_as fs n x y is same = is ∙ ap Some same

module _ (p : Program) (h : History) (cs : List (Carried p h)) (begun : AreBegun h) (once : Once (engine_numbers (beginnings h))) (all : AreWhole h cs) where
  found_at : (n : ℕ) → Contains (engine_numbers (beginnings h)) n → Found p h cs n
  found_at n among = found p h cs n (all n among)

  -- The first engine.
  main_by : (c : Carried p h)
      → c.number ≡ 1
      → IsJob p c.number h c.job c.low
      → (c.job ≡ main_job p) × (c.low ≡ zero)
  main_by c one (inl is) = (is.1, is.2)
  main_by c one (inr b) =
      absurd
      (once.0 (subst (λ (n : ℕ). Contains (map (λ (d : Beginning). d.engine) (beginnings h)) n) (b.2 ∙ one) (numbered (beginnings h) b.0 b.1)))

  main_done : (d : IsDone 1 (length p.words) p.slots (main_job p) zero h (generations_of (generations_in cs) 1)) × (final_of (finals_in cs) 1 ≡ Some (stood d))
  main_done =
      let f = found_at 1 (here 1 (map (λ (d : Beginning). d.engine) (beginnings h))) in
      let c = f.carried in
      let j = main_by c f.number_is c.is_job in
      let s = carried_as p h c.number 1 c.job (main_job p) c.low zero c.gens (generations_of (generations_in cs) 1) (stood c.done) f.number_is j.0 j.1 (sym f.gens_are) (c.done, refl) in
      (s.0, final_as (finals_in cs) 1 (stood c.done) (stood s.0) f.final_is s.1)

  -- One that an update started.
  started_by : (c : Carried p h) (b : Beginning)
      → Contains (beginnings h) b
      → c.number ≡ b.engine
      → IsJob p c.number h c.job c.low
      → (c.job ≡ started_job p b) × (c.low ≡ b.low)
  started_by c b among number (inl is) =
      absurd
      (once.0 (subst (λ (n : ℕ). Contains (map (λ (d : Beginning). d.engine) (beginnings h)) n) (sym number ∙ is.0) (numbered (beginnings h) b among)))
  started_by c b among number (inr a) =
      let same : a.0 ≡ b = same_by_number (beginnings h) a.0 b once.1 a.1 among (a.2 ∙ number) in
      (a.3 ∙ ap (started_job p) same, a.4 ∙ ap (λ (d : Beginning). d.low) same)

  started_done : (b : Beginning)
      → Contains (beginnings h) b
      → (d : IsDone b.engine (length p.words) p.slots (started_job p b) b.low h (generations_of (generations_in cs) b.engine))
      × (final_of (finals_in cs) b.engine ≡ Some (stood d))
  started_done b among =
      let f = found_at b.engine (there 1 (map (λ (d : Beginning). d.engine) (beginnings h)) b.engine (numbered (beginnings h) b among)) in
      let c = f.carried in
      let j = started_by c b among f.number_is c.is_job in
      let s =
      carried_as p h c.number b.engine c.job (started_job p b) c.low b.low c.gens (generations_of (generations_in cs) b.engine) (stood c.done) f.number_is j.0 j.1
      (sym f.gens_are) (c.done, refl) in
      (s.0, final_as (finals_in cs) b.engine (stood c.done) (stood s.0) f.final_is s.1)

  -- No other engine has a final state.
  among_begun : (e : ℕ) (job : Job) (low : ℕ) → IsJob p e h job low → Contains (engine_numbers (beginnings h)) e
  among_begun e job low (inl is) =
      subst (λ (n : ℕ). Contains (engine_numbers (beginnings h)) n) (sym is.0) (here 1 (map (λ (d : Beginning). d.engine) (beginnings h)))
  among_begun e job low (inr b) =
      subst (λ (n : ℕ). Contains (engine_numbers (beginnings h)) n) b.2
      (there 1 (map (λ (d : Beginning). d.engine) (beginnings h)) b.0.engine (numbered (beginnings h) b.0 b.1))

  final_among : (ds : List (Carried p h)) (e : ℕ) (x : Execution) → final_of (finals_in ds) e ≡ Some x → Contains (engine_numbers (beginnings h)) e
  final_among [] e x is = absurd (let no : ⊥ = cc in no)
  final_among (c ∷ ds) e x is = go (final_among ds e x) (c.number == e) refl
    where
      go : (final_of (finals_in ds) e ≡ Some x → Contains (engine_numbers (beginnings h)) e) → (b : Bool) → c.number == e ≡ b → Contains (engine_numbers (beginnings h)) e
      go rest true same = subst (λ (n : ℕ). Contains (engine_numbers (beginnings h)) n) (eqb-true c.number e same) (among_begun c.number c.job c.low c.is_job)
      go rest false other = rest (sym (ap (λ b. if b then Some (stood c.done) else final_of (finals_in ds) e) other) ∙ is)

  pub whole_final : AreFinal p (told_in h cs) (finals_in cs)
  whole_final = record { only = final_among cs; main = main_done; started = started_done }

  pub whole_complete : IsComplete p (told_in h cs)
  whole_complete = record { only = begun; main = main_done.0; started = λ b among. (started_done b among).0 }
