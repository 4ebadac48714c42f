-- Engines that have begun stay begun whatever entries follow, and the later ones begin after them.
use Rattle.std.proofs.Common.{◌≡◌, ◌+◌, ℕ, zero, suc, List, [], ◌∷◌, ◌++◌, length, Bool, true, false, refl, ap, sym, ◌∙◌, arith, subst}
use Rattle.std.specs.Prelude.{◌==◌, ◌||◌}
use Rattle.std.specs.List.{Contains}
use Rattle.std.proofs.lemmas.List.Elements.{Contains-append_left}
use Rattle.pl_model.specs.History.{Kind, History, start, begins, has_begun}
use Rattle.run_model.specs.Lawful.{Beginning, beginnings_from, beginnings}

-- The beginning that an entry at this place is, before these.
begun_by : ℕ → Kind → List Beginning → List Beginning
begun_by p k bs = elim k [ start n t a ↦ record { engine = n; goal = t; alias = a; low = suc p } ∷ bs | _ ↦ bs ]

begun_append : (p : ℕ) (k : Kind) (bs cs : List Beginning) → begun_by p k (bs ++ cs) ≡ begun_by p k bs ++ cs
unfolding begun_by
begun_append p (start n t a) bs cs = refl
begun_append p _ bs cs = refl

pub beginnings_append : (p : ℕ) (h later : History)
    → beginnings_from p (h ++ later) ≡ beginnings_from p h ++ beginnings_from (p + length h) later
unfolding begun_by
beginnings_append p [] later = let e : p ≡ p + zero = omega arith in ap (λ i. beginnings_from i later) e
beginnings_append p (x ∷ h) later =
    let e : suc p + length h ≡ p + suc (length h) = omega arith
    in ap (begun_by p x.kind) (beginnings_append (suc p) h later)
    ∙ begun_append p x.kind (beginnings_from (suc p) h) (beginnings_from (suc p + length h) later)
    ∙ ap (λ i. begun_by p x.kind (beginnings_from (suc p) h) ++ beginnings_from i later) e

pub beginnings_stay : (h later : History) → beginnings (h ++ later) ≡ beginnings h ++ beginnings_from (length h) later
beginnings_stay h later =
    let e : zero + length h ≡ length h = omega arith
    in beginnings_append zero h later ∙ ap (λ i. beginnings h ++ beginnings_from i later) e

pub beginning_stays : (h later : History) (b : Beginning) → Contains (beginnings h) b → Contains (beginnings (h ++ later)) b
beginning_stays h later b c =
    subst
    (λ (bs : List Beginning). Contains bs b)
    (sym (beginnings_stay h later))
    (Contains-append_left (beginnings h) (beginnings_from (length h) later) b c)

or_last : (b : Bool) → (b || true) ≡ true
or_last true = refl
or_last false = refl

or_next : (b c d : Bool) → (c ≡ true → d ≡ true) → (b || c) ≡ true → (b || d) ≡ true
or_next true c d next e = refl
or_next false c d next e = next e

first_begun : (later : History) (e : ℕ) → (e == 1) ≡ true → has_begun later e ≡ true
first_begun [] e own = own
first_begun (x ∷ later) e own = ap (λ b. begins e x.kind || b) (first_begun later e own) ∙ or_last (begins e x.kind)

pub begun_stays : (h later : History) (e : ℕ) → has_begun h e ≡ true → has_begun (h ++ later) e ≡ true
begun_stays [] later e begun = first_begun later e begun
begun_stays (x ∷ h) later e begun =
    or_next (begins e x.kind) (has_begun h e) (has_begun (h ++ later) e) (begun_stays h later e) begun
