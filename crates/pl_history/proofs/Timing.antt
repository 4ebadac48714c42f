-- What is told of an engine, as its lists and the history grow.
use Rattle.std.proofs.Common.{◌≡◌, ◌≤◌, ◌<◌, ◌≢◌, ◌==◌, ◌⊎◌, ℕ, zero, suc, List, [], ◌∷◌, ◌++◌, length, Some, Bool, true, false, refl, ap, sym, ◌∙◌, arith, inl, inr, eq-eqb, length-append, subst}
use Rattle.std.specs.Prelude.{if◌then◌else◌}
use Rattle.std.specs.List.{slice_get}
use Rattle.std.proofs.lemmas.Option.{slice_get_within}
use Rattle.pl_model.specs.History.{Kind, Entry, History, mine, is_end}
use Rattle.pl_history.specs.Fronts.{Life, Stands, IsTold, with_generation}

-- Members

pub get_more : {X : Type 0} (xs ys : List X) (i : ℕ) (x : X) → slice_get xs i ≡ Some x → slice_get (xs ++ ys) i ≡ Some x
get_more [] ys i x e = absurd (cc)
get_more (y ∷ xs) ys zero x e = e
get_more (y ∷ xs) ys (suc i) x e = get_more xs ys i x e

pub get_seam : {X : Type 0} (xs : List X) (y : X) → slice_get (xs ++ y ∷ []) (length xs) ≡ Some y
get_seam [] y = refl
get_seam (x ∷ xs) y = get_seam xs y

-- A member of a list that gained one is a member from before, or the new one.
pub get_last : {X : Type 0} (xs : List X) (y : X) (i : ℕ) (x : X)
    → slice_get (xs ++ y ∷ []) i ≡ Some x
    → (slice_get xs i ≡ Some x) ⊎ ((i ≡ length xs) × (y ≡ x))
get_last [] y zero x e = inr (refl, cc)
get_last [] y (suc i) x e = absurd (cc)
get_last (z ∷ xs) y zero x e = inl e
get_last (z ∷ xs) y (suc i) x e = elim (get_last xs y i x e) [ inl f ↦ inl f | inr f ↦ inr (ap suc f.0, f.1) ]

-- Generations

abbrev Within : List ℕ → ℕ → Type 0
Within gens high = (i g : ℕ) → slice_get gens i ≡ Some g → g ≤ high

abbrev Rising : List ℕ → Type 0
Rising gens = (i g later : ℕ) → slice_get gens i ≡ Some g → slice_get gens (suc i) ≡ Some later → g ≤ later

within_more : (gens : List ℕ) (n high : ℕ) → n ≤ high → Within gens n → Within (gens ++ n ∷ []) high
within_more gens n high le all i g e =
    elim (get_last gens n i g e) [ inl f ↦ let here : g ≤ n = all i g f in omega (arith, here, le) | inr f ↦ omega (arith, f.1, le) ]

rising_last : (gens : List ℕ) (n i g later : ℕ)
    → Within gens n
    → Rising gens
    → (slice_get gens i ≡ Some g) ⊎ ((i ≡ length gens) × (n ≡ g))
    → (slice_get gens (suc i) ≡ Some later) ⊎ ((suc i ≡ length gens) × (n ≡ later))
    → g ≤ later
rising_last gens n i g later all up (inl e) (inl f) = up i g later e f
rising_last gens n i g later all up (inl e) (inr f) = let here : g ≤ n = all i g e in omega (arith, here, f.1)
rising_last gens n i g later all up (inr e) (inl f) =
    let below : suc i < length gens = slice_get_within gens (suc i) later f in absurd (omega (arith, below, e.0))
rising_last gens n i g later all up (inr e) (inr f) = absurd (omega (arith, e.0, f.0))

rising_more : (gens : List ℕ) (n : ℕ) → Within gens n → Rising gens → Rising (gens ++ n ∷ [])
rising_more gens n all up i g later e f =
    rising_last gens n i g later all up (get_last gens n i g e) (get_last gens n (suc i) later f)

stands_more : (gens : List ℕ) (n place : ℕ) → place < n → Stands gens place → Stands (gens ++ n ∷ []) place
stands_more gens n place below s =
    record {
      request = s.request;
      own = get_more gens (n ∷ []) s.request place s.own;
      next = λ g e. elim (get_last gens n (suc s.request) g e) [ inl f ↦ s.next g f | inr f ↦ omega (arith, below, f.1) ];
    }

stands_last : (gens : List ℕ) (n : ℕ) → Stands (gens ++ n ∷ []) n
stands_last gens n =
    record {
      request = length gens;
      own = get_seam gens n;
      next =
          λ g e.
          let past : suc (length gens) < length (gens ++ n ∷ []) = slice_get_within (gens ++ n ∷ []) (suc (length gens)) g e
          in absurd (omega (arith, past, length-append gens (n ∷ [])));
    }

-- The history gains an entry.

longer : (h : History) (x : Entry) → length h ≤ length (h ++ x ∷ [])
longer h x = omega (arith, length-append h (x ∷ []))

within_longer : (h : History) (x : Entry) (gens : List ℕ) → Within gens (length h) → Within gens (length (h ++ x ∷ []))
within_longer h x gens all i g e = let here : g ≤ length h = all i g e in omega (arith, here, longer h x)

-- An entry of another engine.
pub told_beside : (h : History) (x : Entry) (l : Life)
    → x.engine ≢ l.engine
    → l.updates ≡ mine (h ++ x ∷ []) l.engine
    → IsTold h l
    → IsTold (h ++ x ∷ []) l
told_beside h x l other updates t =
    record {
      updates = updates;
      within = within_longer h x l.generations t.within;
      rises = t.rises;
      stands =
          λ place y e own live.
          elim (get_last h x place y e) [
            | inl f ↦ t.stands place y f own live
            | inr f ↦ absurd (other (ap (λ (z : Entry). z.engine) f.1 ∙ own))
          ];
    }

-- The engine's own entry, which is its end or not.
own_stands : (c : Bool) (h : History) (x : Entry) (l : Life)
    → is_end x.kind ≡ c
    → IsTold h l
    → (place : ℕ) (y : Entry)
    → (slice_get h place ≡ Some y) ⊎ ((place ≡ length h) × (x ≡ y))
    → y.engine ≡ l.engine
    → is_end y.kind ≡ false
    → Stands (if c then l.generations else l.generations ++ length h ∷ []) place
own_stands true h x l is t place y (inl f) own live = t.stands place y f own live
own_stands true h x l is t place y (inr f) own live =
    let no : true ≡ false = sym is ∙ ap (λ (z : Entry). is_end z.kind) f.1 ∙ live in absurd (cc)
own_stands false h x l is t place y (inl f) own live =
    stands_more l.generations (length h) place (slice_get_within h place y f) (t.stands place y f own live)
own_stands false h x l is t place y (inr f) own live =
    subst (λ (n : ℕ). Stands (l.generations ++ length h ∷ []) n) (sym f.0) (stands_last l.generations (length h))

own_within : (c : Bool) (h : History) (x : Entry) (l : Life)
    → IsTold h l
    → Within (if c then l.generations else l.generations ++ length h ∷ []) (length (h ++ x ∷ []))
own_within true h x l t = within_longer h x l.generations t.within
own_within false h x l t = within_more l.generations (length h) (length (h ++ x ∷ [])) (longer h x) t.within

own_rising : (c : Bool) (h : History) (l : Life)
    → IsTold h l
    → Rising (if c then l.generations else l.generations ++ length h ∷ [])
own_rising true h l t = t.rises
own_rising false h l t = rising_more l.generations (length h) t.within t.rises

pub told_appended : (h : History) (x : Entry) (g : ℕ) (l : Life)
    → g ≡ length h
    → l.updates ++ x.kind ∷ [] ≡ mine (h ++ x ∷ []) l.engine
    → IsTold h l
    → IsTold (h ++ x ∷ []) (record { engine = l.engine; updates = l.updates ++ x.kind ∷ []; generations = with_generation x.kind g l.generations })
told_appended h x g l at updates t =
    subst
    (λ (n : ℕ).
    IsTold (h ++ x ∷ []) (record { engine = l.engine; updates = l.updates ++ x.kind ∷ []; generations = with_generation x.kind n l.generations }))
    (sym at)
    (record {
      updates = updates;
      within = own_within (is_end x.kind) h x l t;
      rises = own_rising (is_end x.kind) h l t;
      stands = λ place y e own live. own_stands (is_end x.kind) h x l refl t place y (get_last h x place y e) own live;
    })

-- A visit.
pub told_seen : (h : History) (g : ℕ) (l : Life)
    → g ≡ length h
    → IsTold h l
    → IsTold h (record { engine = l.engine; updates = l.updates; generations = l.generations ++ g ∷ [] })
told_seen h g l at t =
    subst
    (λ (n : ℕ). IsTold h (record { engine = l.engine; updates = l.updates; generations = l.generations ++ n ∷ [] }))
    (sym at)
    (record {
      updates = t.updates;
      within = within_more l.generations (length h) (length h) (omega arith) t.within;
      rises = rising_more l.generations (length h) t.within t.rises;
      stands =
          λ place y e own live.
          stands_more l.generations (length h) place (slice_get_within h place y e) (t.stands place y e own live);
    })

-- An engine with no entry.
none_of : (b : Bool) (k : Kind) (ks : List Kind) → b ≡ true → [] ≡ (if b then k ∷ ks else ks) → ⊥
none_of true k ks is e = absurd (cc)
none_of false k ks is e = absurd (cc)

rest_of : (b : Bool) (k : Kind) (ks : List Kind) → [] ≡ (if b then k ∷ ks else ks) → [] ≡ ks
rest_of true k ks e = absurd (cc)
rest_of false k ks e = e

no_entry : (h : History) (e place : ℕ) (x : Entry) → [] ≡ mine h e → slice_get h place ≡ Some x → x.engine ≡ e → ⊥
no_entry [] e place x none at own = absurd (cc)
no_entry (y ∷ h) e zero x none at own =
    let same : y ≡ x = cc in
    none_of (y.engine == e) y.kind (mine h e) (eq-eqb y.engine e (ap (λ (z : Entry). z.engine) same ∙ own)) none
no_entry (y ∷ h) e (suc place) x none at own = no_entry h e place x (rest_of (y.engine == e) y.kind (mine h e) none) at own

pub told_new : (h : History) (e : ℕ) → [] ≡ mine h e → IsTold h (record { engine = e; updates = []; generations = [] })
told_new h e none =
    record {
      updates = none;
      within = λ i g f. absurd (cc);
      rises = λ i g later f. absurd (cc);
      stands = λ place x at own live. absurd (no_entry h e place x none at own);
    }
