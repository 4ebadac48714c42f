-- What histories and generations keep when they gain members at their ends.
use Rattle.std.proofs.Common.{◌≡◌, ◌≤◌, ◌<◌, ◌==◌, ℕ, zero, suc, List, [], ◌∷◌, ◌++◌, length, map, Option, Some, None, Bool, true, false, refl, ap, sym, ◌∙◌, arith, length-append, inl, inr, ◌⊎◌, eq-eqb}
use Rattle.std.specs.Prelude.{if◌then◌else◌}
use Rattle.std.specs.List.{slice_get}
use Rattle.std.proofs.lemmas.List.{map-append}
use Rattle.std.proofs.lemmas.Option.{slice_get_within}
use Rattle.pl_model.specs.History.{Kind, History, mine}
use Rattle.run_model.specs.Lawful.{Made, made_by, Rises, Stands, AllStand}
use Rattle.pl_model.specs.Service.{entry_by}

-- Members

pub slice_get_more : {X : Type 0} (xs ys : List X) (i : ℕ) (x : X) → slice_get xs i ≡ Some x → slice_get (xs ++ ys) i ≡ Some x
slice_get_more [] ys i x e = absurd (cc)
slice_get_more (y ∷ xs) ys zero x e = e
slice_get_more (y ∷ xs) ys (suc i) x e = slice_get_more xs ys i x e

pub slice_get_seam : {X : Type 0} (xs : List X) (y : X) (ys : List X) → slice_get (xs ++ y ∷ ys) (length xs) ≡ Some y
slice_get_seam [] y ys = refl
slice_get_seam (x ∷ xs) y ys = slice_get_seam xs y ys

-- A member of a list that gained one is a member from before, or the new one at its end.
pub slice_get_last : {X : Type 0} (xs : List X) (y : X) (i : ℕ) (x : X)
    → slice_get (xs ++ y ∷ []) i ≡ Some x
    → (slice_get xs i ≡ Some x) ⊎ (y ≡ x)
slice_get_last [] y zero x e = inr (cc)
slice_get_last [] y (suc i) x e = absurd (cc)
slice_get_last (z ∷ xs) y zero x e = inl e
slice_get_last (z ∷ xs) y (suc i) x e = slice_get_last xs y i x e

-- Updates

mine_by : (b : Bool) (k : Kind) (ms ns : List Kind)
    → (if b then k ∷ (ms ++ ns) else ms ++ ns) ≡ (if b then k ∷ ms else ms) ++ ns
mine_by true k ms ns = refl
mine_by false k ms ns = refl

pub mine-append : (h later : History) (e : ℕ) → mine (h ++ later) e ≡ mine h e ++ mine later e
mine-append [] later e = refl
mine-append (x ∷ h) later e =
    ap (λ ks. if x.engine == e then x.kind ∷ ks else ks) (mine-append h later e)
    ∙ mine_by (x.engine == e) x.kind (mine h e) (mine later e)

eq_same : (e : ℕ) → (e == e) ≡ true
eq_same e = eq-eqb e e refl

-- The entries by which an engine's update came are its own.
pub mine-entry_by : (e q g : ℕ) (k : Option Kind)
    → mine (entry_by e k) e ≡ map (λ m. m.kind) (made_by q g k)
mine-entry_by e q g None = refl
mine-entry_by e q g (Some k) = ap (λ b. if b then k ∷ [] else []) (eq_same e)

pub mine-more : (h : History) (e q g : ℕ) (k : Option Kind) (ms : List Made)
    → mine h e ≡ map (λ m. m.kind) ms
    → mine (h ++ entry_by e k) e ≡ map (λ m. m.kind) (ms ++ made_by q g k)
mine-more h e q g k ms own =
    mine-append h (entry_by e k) e
    ∙ ap (λ ks. ks ++ mine (entry_by e k) e) own
    ∙ ap (λ ks. map (λ m. m.kind) ms ++ ks) (mine-entry_by e q g k)
    ∙ sym (map-append (λ m. m.kind) ms (made_by q g k))

-- Generations

pub rises_more : (low : ℕ) (gens : List ℕ) (g high : ℕ)
    → Rises low gens g
    → g ≤ high
    → Rises low (gens ++ g ∷ []) high
rises_more low [] g high r le = (r, le)
rises_more low (x ∷ gens) g high r le = (r.0, rises_more x gens g high r.1 le)

pub rises_higher : (low : ℕ) (gens : List ℕ) (g high : ℕ) → Rises low gens g → g ≤ high → Rises low gens high
rises_higher low [] g high r le = omega (arith, r)
rises_higher low (x ∷ gens) g high r le = (r.0, rises_higher x gens g high r.1 le)

-- Updates that stand

stands_entries : (e : ℕ) (h later : History) (gens : List ℕ) (m : Made)
    → Stands e h gens m
    → Stands e (h ++ later) gens m
stands_entries e h later gens m s = record { entry = slice_get_more h later m.generation _ s.entry; own = s.own; next = s.next }

pub stand_entries : (e : ℕ) (h later : History) (gens : List ℕ) (ms : List Made)
    → AllStand e h gens ms
    → AllStand e (h ++ later) gens ms
stand_entries e h later gens [] s = tt
stand_entries e h later gens (m ∷ ms) s =
    (stands_entries e h later gens m s.0, stand_entries e h later gens ms s.1)

stands_next : (e : ℕ) (h : History) (gens : List ℕ) (g : ℕ) (m : Made) (x : ℕ)
    → Stands e h gens m
    → length h ≤ g
    → (slice_get gens (suc m.request) ≡ Some x) ⊎ (g ≡ x)
    → m.generation < x
stands_next e h gens g m x s above (inl f) = s.next x f
stands_next e h gens g m x s above (inr f) =
    let below : m.generation < length h = slice_get_within h m.generation _ s.entry in omega arith

stands_generation : (e : ℕ) (h : History) (gens : List ℕ) (g : ℕ) (m : Made)
    → length h ≤ g
    → Stands e h gens m
    → Stands e h (gens ++ g ∷ []) m
stands_generation e h gens g m above s =
    record {
      entry = s.entry;
      own = slice_get_more gens (g ∷ []) m.request _ s.own;
      next = λ x f. stands_next e h gens g m x s above (slice_get_last gens g (suc m.request) x f);
    }

pub stand_generation : (e : ℕ) (h : History) (gens : List ℕ) (g : ℕ) (ms : List Made)
    → length h ≤ g
    → AllStand e h gens ms
    → AllStand e h (gens ++ g ∷ []) ms
stand_generation e h gens g [] above s = tt
stand_generation e h gens g (m ∷ ms) above s =
    (stands_generation e h gens g m above s.0, stand_generation e h gens g ms above s.1)

pub stand_append : (e : ℕ) (h : History) (gens : List ℕ) (ms ns : List Made)
    → AllStand e h gens ms
    → AllStand e h gens ns
    → AllStand e h gens (ms ++ ns)
stand_append e h gens [] ns s t = t
stand_append e h gens (m ∷ ms) ns s t = (s.0, stand_append e h gens ms ns s.1 t)

-- The update of a request after all entries stands.
pub stand_made : (e : ℕ) (h : History) (gens : List ℕ) (k : Option Kind)
    → AllStand e (h ++ entry_by e k) (gens ++ length h ∷ []) (made_by (length gens) (length h) k)
stand_made e h gens None = tt
stand_made e h gens (Some k) = (
  record {
    entry = slice_get_seam h _ [];
    own = slice_get_seam gens (length h) [];
    next =
        λ x f.
        let below : suc (length gens) < length (gens ++ length h ∷ []) = slice_get_within _ _ x f
        in absurd (omega (arith, length-append gens (length h ∷ [])));
  },
  tt,
)

-- All updates stand after a request after all entries.
pub stand_more : (e : ℕ) (h : History) (gens : List ℕ) (k : Option Kind) (ms : List Made)
    → AllStand e h gens ms
    → AllStand e (h ++ entry_by e k) (gens ++ length h ∷ []) (ms ++ made_by (length gens) (length h) k)
stand_more e h gens k ms s =
    let le : length h ≤ length h = omega arith
    in stand_append
    e
    (h ++ entry_by e k)
    (gens ++ length h ∷ [])
    ms
    (made_by (length gens) (length h) k)
    (stand_entries e h (entry_by e k) (gens ++ length h ∷ []) ms (stand_generation e h gens (length h) ms le s))
    (stand_made e h gens k)
