-- One procedure among others is changed.
use Rattle.std.proofs.Common.{◌≡◌, ℕ, suc, List, [], ◌∷◌, ◌++◌, find, map, Option, Some, None, Bool, true, false, cond, refl, ap, sym, ◌∙◌}
use Rattle.std.specs.Prelude.{All, is_some, slice_set}
use Rattle.std.specs.Option.{option_map}
use Rattle.std.specs.BTreeMap.{BTreeMap}
use Rattle.std.proofs.lemmas.Bool.{false≢true}
use Rattle.std.proofs.lemmas.List.Elements.{All-head, All-tail, All-cons}
use Rattle.pl_model.specs.History as entries
use Rattle.pl_model.specs.Predicates.{same_proc}
use Rattle.pl_model.specs.laws.Shown.{proc_of}
use Rattle.clause_db.specs.declared.db.Home.{Home}
use Rattle.clause_db.specs.declared.parts.ProcedureClauses.{ProcedureClauses}
use Rattle.clause_db.specs.Located.{IsAt}
use Rattle.clause_db.specs.Parts.{Piece, piece, is_part_of, changed_in}
use Rattle.clause_db.specs.Sound.{Homed, names}
use Rattle.clause_db.proofs.Homes.{IsHome}
use Rattle.clause_db.proofs.Pieces.{test}
use Rattle.clause_db.proofs.Procs.{is_same}
use Rattle.clause_db.proofs.Searched.{located_set}

module _ {C : Type 0} (f : Piece C → Piece C) (named : (x : Piece C) → (f x).name ≡ x.name) where
  abbrev pub changed_if : Bool → Piece C → Piece C
  changed_if b x = cond b (f x) x

  pub left_so : (o : Option (Piece C)) → option_map (changed_if false) o ≡ o
  left_so None = refl
  left_so (Some x) = refl

  pub find_changed : (p q : entries.Proc) (xs : List (Piece C)) → find (is_part_of q) (changed_in f p xs) ≡ option_map (changed_if (same_proc p q)) (find (is_part_of q) xs)
  find_changed p q [] = refl
  find_changed p q (x ∷ xs) = go (is_part_of p x) refl (is_part_of q x) refl (find_changed p q xs)
    where
      rest : Option (Piece C)
      rest = find (is_part_of q) xs

      go : (b : Bool) → is_part_of p x ≡ b → (m : Bool) → is_part_of q x ≡ m → find (is_part_of q) (changed_in f p xs) ≡ option_map (changed_if (same_proc p q)) rest
          → find (is_part_of q) (cond b (f x ∷ xs) (x ∷ changed_in f p xs)) ≡ option_map (changed_if (same_proc p q)) (cond (is_part_of q x) (Some x) rest)
      go true e m u ih =
          ap (λ r. cond r (Some (f x)) rest) (ap (λ n. same_proc (proc_of n) q) (named x) ∙ u)
          ∙ own m
          ∙ sym (ap (λ r. option_map (changed_if (same_proc p q)) (cond r (Some x) rest)) u
          ∙ ap (λ r. option_map (changed_if r) (cond m (Some x) rest)) (ap (λ r. same_proc r q) (sym (is_same (proc_of x.name) p e)) ∙ u))
        where
          own : (m : Bool) → cond m (Some (f x)) rest ≡ option_map (changed_if m) (cond m (Some x) rest)
          own true = refl
          own false = sym (left_so rest)
      go false e true u ih =
          ap (λ r. cond r (Some x) (find (is_part_of q) (changed_in f p xs))) u
          ∙ sym (ap (λ r. option_map (changed_if (same_proc p q)) (cond r (Some x) rest)) u ∙ ap (λ r. Some (changed_if r x)) (other (same_proc p q) refl))
        where
          other : (r : Bool) → same_proc p q ≡ r → same_proc p q ≡ false
          other false w = w
          other true w = absurd (false≢true (sym e ∙ ap (λ r. same_proc (proc_of x.name) r) (is_same p q w) ∙ u))
      go false e false u ih =
          ap (λ r. cond r (Some x) (find (is_part_of q) (changed_in f p xs))) u
          ∙ ih
          ∙ sym (ap (λ r. option_map (changed_if (same_proc p q)) (cond r (Some x) rest)) u)

  -- What the change leaves.
  pub told_changed : {Y : Type 0} (F : Option (Piece C) → Y) → ((x : Piece C) → F (Some (f x)) ≡ F (Some x)) → (p q : entries.Proc) (xs : List (Piece C)) → F (find (is_part_of q) (changed_in f p xs)) ≡ F (find (is_part_of q) xs)
  told_changed {Y} F same p q xs = ap F (find_changed p q xs) ∙ go (same_proc p q) (find (is_part_of q) xs)
    where
      go : (b : Bool) (o : Option (Piece C)) → F (option_map (changed_if b) o) ≡ F o
      go b None = refl
      go true (Some x) = same x
      go false (Some x) = refl

  pub has_changed : (p q : entries.Proc) (xs : List (Piece C)) → is_some (find (is_part_of q) (changed_in f p xs)) ≡ is_some (find (is_part_of q) xs)
  has_changed p q xs = told_changed is_some (λ x. refl) p q xs

  pub all_changed : (P : Piece C → Type 0) → ((x : Piece C) → P x → P (f x)) → (p : entries.Proc) (xs : List (Piece C)) → All P xs → All P (changed_in f p xs)
  all_changed P keeps p [] h = h
  all_changed P keeps p (x ∷ xs) h = go (is_part_of p x) (all_changed P keeps p xs (All-tail P x xs h))
    where
      go : (b : Bool) → All P (changed_in f p xs) → All P (cond b (f x ∷ xs) (x ∷ changed_in f p xs))
      go true ih = All-cons P (f x) xs (keeps x (All-head P x xs h)) (All-tail P x xs h)
      go false ih = All-cons P x (changed_in f p xs) (All-head P x xs h) ih

  pub names_changed : (p : entries.Proc) (xs : List (Piece C)) → names (changed_in f p xs) ≡ names xs
  names_changed p [] = refl
  names_changed p (x ∷ xs) = go (is_part_of p x) (names_changed p xs)
    where
      go : (b : Bool) → names (changed_in f p xs) ≡ names xs → names (cond b (f x ∷ xs) (x ∷ changed_in f p xs)) ≡ names (x ∷ xs)
      go true ih = ap (λ n. proc_of n ∷ names xs) (named x)
      go false ih = ap (λ l. proc_of x.name ∷ l) ih

  pub homed_changed : (need : C → ℕ) (homes : BTreeMap ℕ Home) → ((n : ℕ) (x : Piece C) → All (IsHome need homes n) x.clauses → All (IsHome need homes n) (f x).clauses)
      → (n : ℕ) (p : entries.Proc) (xs : List (Piece C)) → Homed need homes n xs → Homed need homes n (changed_in f p xs)
  homed_changed need homes keeps n p [] h = tt
  homed_changed need homes keeps n p (x ∷ xs) h = go (is_part_of p x) (homed_changed need homes keeps (suc n) p xs h.1)
    where
      go : (b : Bool) → Homed need homes (suc n) (changed_in f p xs) → Homed need homes n (cond b (f x ∷ xs) (x ∷ changed_in f p xs))
      go true ih = (keeps n x h.0, h.1)
      go false ih = (h.0, ih)

  module _ {K : Type 0} (p : entries.Proc) where
    changed_at : (before : List (ProcedureClauses C K)) (x z : ProcedureClauses C K) (after : List (ProcedureClauses C K)) → find (test p) before ≡ None → test p x ≡ true → piece z ≡ f (piece x)
        → map piece (before ++ z ∷ after) ≡ changed_in f p (map piece (before ++ x ∷ after))
    changed_at [] x z after miss hit is =
        ap (λ w. w ∷ map piece after) is
        ∙ sym (ap (λ b. cond b (f (piece x) ∷ map piece after) (piece x ∷ changed_in f p (map piece after))) hit)
    changed_at (y ∷ before) x z after miss hit is = go (test p y) refl miss (λ m. changed_at before x z after m hit is)
      where
        rest : List (Piece C)
        rest = map piece (before ++ x ∷ after)

        go : (b : Bool) → test p y ≡ b → cond b (Some y) (find (test p) before) ≡ None
            → (find (test p) before ≡ None → map piece (before ++ z ∷ after) ≡ changed_in f p rest)
            → piece y ∷ map piece (before ++ z ∷ after) ≡ cond (test p y) (f (piece y) ∷ rest) (piece y ∷ changed_in f p rest)
        go true e m ih = absurd (cc)
        go false e m ih =
            ap (λ l. piece y ∷ l) (ih m)
            ∙ sym (ap (λ b. cond b (f (piece y) ∷ rest) (piece y ∷ changed_in f p rest)) e)

    pub changed_found : (xs : List (ProcedureClauses C K)) (i : ℕ) (z : ProcedureClauses C K) (at : IsAt (test p) xs i) → piece z ≡ f (piece at.item)
        → map piece (slice_set xs i z) ≡ changed_in f p (map piece xs)
    changed_found xs i z at is =
        ap (map piece) (located_set (test p) xs i z at)
        ∙ changed_at at.before at.item z at.after at.missed at.hits is
        ∙ sym (ap (λ l. changed_in f p (map piece l)) at.whole)

    pub changed_missed : (xs : List (ProcedureClauses C K)) → find (test p) xs ≡ None → map piece xs ≡ changed_in f p (map piece xs)
    changed_missed [] e = refl
    changed_missed (y ∷ xs) e = go (test p y) refl e (changed_missed xs)
      where
        go : (b : Bool) → test p y ≡ b → cond b (Some y) (find (test p) xs) ≡ None → (find (test p) xs ≡ None → map piece xs ≡ changed_in f p (map piece xs))
            → piece y ∷ map piece xs ≡ cond (test p y) (f (piece y) ∷ map piece xs) (piece y ∷ changed_in f p (map piece xs))
        go true u m ih = absurd (cc)
        go false u m ih =
            ap (λ l. piece y ∷ l) (ih m)
            ∙ sym (ap (λ b. cond b (f (piece y) ∷ map piece xs) (piece y ∷ changed_in f p (map piece xs))) u)
