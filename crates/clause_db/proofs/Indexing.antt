-- Procedures are found by the hashes of their predicates.
use Rattle.std.proofs.Common.{◌≡◌, ◌<◌, ◌≤◌, ◌||◌, ◌&&◌, ℕ, zero, suc, Bool, true, false, cond, not, find, List, [], ◌∷◌, ◌++◌, map, take, length, Option, Some, None, refl, sym, ap, ap₂, ◌∙◌, arith, eq-eqb}
use Rattle.std.specs.Prelude.{◌==◌, nat_eq, filter, slice_index_or, slice_set, IfSome, IfNone}
use Rattle.std.specs.HashMap as table
use Rattle.std.specs.Result.{OnOk, OnErr, is_err}
use Rattle.std.specs.declared.result.Result.{Result}
use Rattle.std.specs.declared.result.Result.TheVariants.{Ok, Err}
use Rattle.std.specs.Option.{option_map_or}
use Rattle.std.specs.List.{list_any}
use Rattle.std.proofs.lemmas.Bool.{false≢true}
use borrow.Author.Tests.{eqb-true}
use Rattle.pl_model.specs.History.{Proc}
use Rattle.pl_model.specs.laws.Shown.{proc_of}
use Rattle.clause_db.specs.declared.index.Index.{Index}
use Rattle.clause_db.specs.declared.parts.ProcedureClauses.{ProcedureClauses}
use Rattle.clause_db.specs.declared.index.Places.{Places}
use Rattle.clause_db.specs.Index.{hash_of, is_in, is_listed, stands_under, Indexed}
use Rattle.clause_db.specs.Located.{Locates, stands_at}
use Rattle.clause_db.specs.Parts.{piece}
use Rattle.clause_db.specs.Sound.{Apart, names}
use Rattle.clause_db.proofs.Hinted.{member_found}
use Rattle.clause_db.proofs.Pieces.{test}
use Rattle.clause_db.proofs.Procs.{is_same}

-- Numbers that are put to others, and that are taken out.
abbrev pub has : ℕ → List ℕ → Bool
has q rs = list_any (λ r. q == r) rs

or_swap : (a b c : Bool) → (a || (b || c)) ≡ (b || (a || c))
or_swap true true c = refl
or_swap true false c = refl
or_swap false b c = refl

pub has_pushed : (q x : ℕ) (rs : List ℕ) → has q (rs ++ x ∷ []) ≡ ((q == x) || has q rs)
has_pushed q x [] = refl
has_pushed q x (r ∷ rs) = ap (λ b. (q == r) || b) (has_pushed q x rs) ∙ or_swap (q == r) (q == x) (has q rs)

pub has_left : (q x : ℕ) (rs : List ℕ) → has q (filter (λ r. not (r == x)) rs) ≡ (not (q == x) && has q rs)
has_left q x [] = go (q == x)
  where
    go : (b : Bool) → false ≡ (not b && false)
    go true = refl
    go false = refl
has_left q x (r ∷ rs) = go (r == x) refl (q == x) refl (q == r) refl (has_left q x rs)
  where
    others : List ℕ
    others = filter (λ r. not (r == x)) rs

    go : (b : Bool) → (r == x) ≡ b → (d : Bool) → (q == x) ≡ d → (e : Bool) → (q == r) ≡ e → has q others ≡ (not d && has q rs)
        → has q (cond (not b) (r ∷ others) others) ≡ (not d && (e || has q rs))
    go true u true v e w ih = ih
    go true u false v true w ih = absurd (let i : q ≡ r = eqb-true q r w in let j : r ≡ x = eqb-true r x u in false≢true (sym v ∙ eq-eqb q x (i ∙ j)))
    go true u false v false w ih = ih
    go false u true v true w ih = absurd (let i : q ≡ r = eqb-true q r w in let j : q ≡ x = eqb-true q x v in false≢true (sym u ∙ eq-eqb r x (sym i ∙ j)))
    go false u true v false w ih = ap (λ b. b || has q others) w ∙ ih
    go false u false v true w ih = ap (λ b. b || has q others) w
    go false u false v false w ih = ap (λ b. b || has q others) w ∙ ih

-- What is left of a number and others, one of which is taken out.
pub left_others : (q x one : ℕ) (rs ls : List ℕ) → (one ≡ x → ⊥) → ls ≡ filter (λ r. not (r == x)) rs → ((q == one) || has q ls) ≡ (not (q == x) && ((q == one) || has q rs))
left_others q x one rs ls apart is = go (q == x) refl (q == one) refl (ap (has q) is ∙ has_left q x rs)
  where
    go : (d : Bool) → (q == x) ≡ d → (e : Bool) → (q == one) ≡ e → has q ls ≡ (not d && has q rs) → (e || has q ls) ≡ (not d && (e || has q rs))
    go true v true w h = absurd (let i : q ≡ x = eqb-true q x v in let j : q ≡ one = eqb-true q one w in apart (sym j ∙ i))
    go true v false w h = h
    go false v true w h = refl
    go false v false w h = h

left_one : (q x one : ℕ) (rs ls : List ℕ) → one ≡ x → ls ≡ filter (λ r. not (r == x)) rs → has q ls ≡ (not (q == x) && ((q == one) || has q rs))
left_one q x one rs ls same is = go (q == x) refl (q == one) refl (ap (has q) is ∙ has_left q x rs)
  where
    go : (d : Bool) → (q == x) ≡ d → (e : Bool) → (q == one) ≡ e → has q ls ≡ (not d && has q rs) → has q ls ≡ (not d && (e || has q rs))
    go true v e w h = h
    go false v true w h = absurd (let j : q ≡ one = eqb-true q one w in false≢true (sym v ∙ eq-eqb q x (j ∙ same)))
    go false v false w h = h

pub left_next : (q x one next : ℕ) (rs ls more : List ℕ) → one ≡ x → ls ≡ filter (λ r. not (r == x)) rs → ls ≡ more ++ next ∷ [] → ((q == next) || has q more) ≡ (not (q == x) && ((q == one) || has q rs))
left_next q x one next rs ls more same is last = sym (has_pushed q next more) ∙ ap (has q) (sym last) ∙ left_one q x one rs ls same is

has_none : (q : ℕ) (rs : List ℕ) → length rs ≡ 0 → has q rs ≡ false
has_none q [] e = refl
has_none q (r ∷ rs) e = absurd (omega (arith, e))

pub left_none : (q x one : ℕ) (rs ls : List ℕ) → one ≡ x → ls ≡ filter (λ r. not (r == x)) rs → length ls ≡ 0 → (not (q == x) && ((q == one) || has q rs)) ≡ false
left_none q x one rs ls same is e = sym (left_one q x one rs ls same is) ∙ has_none q ls e

-- What holds of none of these numbers holds of no number that is one of them.
pub none_of : (P : ℕ → Bool) (rs : List ℕ) → list_any P rs ≡ false → (q : ℕ) → has q rs ≡ true → P q ≡ false
none_of P [] none q h = absurd (false≢true h)
none_of P (r ∷ rs) none q h = go (P r) refl none (q == r) refl h (none_of P rs)
  where
    go : (b : Bool) → P r ≡ b → (b || list_any P rs) ≡ false → (e : Bool) → (q == r) ≡ e → (e || has q rs) ≡ true → (list_any P rs ≡ false → (q : ℕ) → has q rs ≡ true → P q ≡ false) → P q ≡ false
    go true u n e w m ih = absurd (false≢true (sym n))
    go false u n true w m ih = ap P (eqb-true q r w) ∙ u
    go false u n false w m ih = ih n q m

-- The same of a number and others.
pub none_of_one : (P : ℕ → Bool) (one : ℕ) (rs : List ℕ) → P one ≡ false → list_any P rs ≡ false → (q : ℕ) → ((q == one) || has q rs) ≡ true → P q ≡ false
none_of_one P one rs miss none q h = go (q == one) refl h
  where
    go : (e : Bool) → (q == one) ≡ e → (e || has q rs) ≡ true → P q ≡ false
    go true w m = ap P (eqb-true q one w) ∙ miss
    go false w m = none_of P rs none q m

pub none_under : (P : ℕ → Bool) (one : ℕ) (rs : List ℕ) (r : Option ℕ) → P one ≡ false → IfNone r (list_any P rs ≡ false) → IfNone r ((q : ℕ) → ((q == one) || has q rs) ≡ true → P q ≡ false)
none_under P one rs None miss none = none_of_one P one rs miss none
none_under P one rs (Some i) miss none = none

same_suc : (a b : ℕ) → (a == b) ≡ (suc a == suc b)
same_suc a b = go (a == b) refl (suc a == suc b) refl
  where
    go : (x : Bool) → (a == b) ≡ x → (y : Bool) → (suc a == suc b) ≡ y → x ≡ y
    go true u true v = refl
    go true u false v = absurd (false≢true (sym v ∙ eq-eqb (suc a) (suc b) (ap suc (eqb-true a b u))))
    go false u true v = absurd (let i : suc a ≡ suc b = eqb-true (suc a) (suc b) v in false≢true (sym u ∙ eq-eqb a b (omega (arith, i))))
    go false u false v = refl

apart_so : (a b : ℕ) → (a ≡ b → ⊥) → (a == b) ≡ false
apart_so a b none = go (a == b) refl
  where
    go : (x : Bool) → (a == b) ≡ x → x ≡ false
    go true e = absurd (none (eqb-true a b e))
    go false e = refl

skipped : (a d b : Bool) → d ≡ false → ((a && d) || b) ≡ b
skipped true true b e = absurd (false≢true (sym e))
skipped true false b e = refl
skipped false d b e = refl

taken : (a d : Bool) → d ≡ true → a ≡ ((a && d) || false)
taken true true e = refl
taken true false e = absurd (false≢true e)
taken false d e = refl

-- Under which hash a place stands, with one predicate more.
under_push : (k q : ℕ) (ps : List Proc) (p : Proc) → stands_under k q (ps ++ p ∷ []) ≡ (((k == hash_of p) && (q == length ps)) || stands_under k q ps)
under_push k zero [] p = taken (k == hash_of p) (zero == zero) (eq-eqb zero zero refl)
under_push k (suc q) [] p = sym (skipped (k == hash_of p) (suc q == zero) false (apart_so (suc q) zero (λ i. omega (arith, i))))
under_push k zero (r ∷ ps) p = sym (skipped (k == hash_of p) (zero == suc (length ps)) (k == hash_of r) (apart_so zero (suc (length ps)) (λ i. omega (arith, i))))
under_push k (suc q) (r ∷ ps) p = under_push k q ps p ∙ ap (λ d. ((k == hash_of p) && d) || stands_under k q ps) (same_suc q (length ps))

under_end : (k : ℕ) (ps : List Proc) → stands_under k (length ps) ps ≡ false
under_end k [] = refl
under_end k (p ∷ ps) = under_end k ps

listed_in : (ix : Index) (h k : ℕ) (o : Option Places) → o ≡ table.get nat_eq ix.by_hash h → h ≡ k → (q : ℕ) → is_listed ix k q ≡ option_map_or (λ s. is_in s q) o false
listed_in ix h k o at e q = ap (λ n. is_listed ix n q) (sym e) ∙ ap (λ o. option_map_or (λ s. is_in s q) o false) (sym at)

module _ {C K : Type 0} (p : Proc) where
  -- No procedure of the predicate is there, where none stands at a place under its hash.
  none_found : (xs : List (ProcedureClauses C K)) → ((q : ℕ) → stands_under (hash_of p) q (names (map piece xs)) ≡ true → stands_at (test p) xs q ≡ false) → find (test p) xs ≡ None
  none_found [] none = refl
  none_found (x ∷ xs) none = go (test p x) refl (none zero) (none_found xs (λ q l. none (suc q) l))
    where
      go : (b : Bool) → test p x ≡ b → ((hash_of p == hash_of (proc_of x.name)) ≡ true → test p x ≡ false) → find (test p) xs ≡ None → cond b (Some x) (find (test p) xs) ≡ None
      go true e here ih = absurd (false≢true (sym (here (eq-eqb (hash_of p) (hash_of (proc_of x.name)) (ap hash_of (sym (is_same (proc_of x.name) p e))))) ∙ e))
      go false e here ih = ih

  pub found_under : (ix : Index) (xs : List (ProcedureClauses C K)) (r : Option ℕ) (h : ℕ) (s : Places) → Apart (names (map piece xs)) → Indexed ix (names (map piece xs))
      → Some s ≡ table.get nat_eq ix.by_hash h → h ≡ hash_of p
      → IfSome r (λ i. stands_at (test p) xs i ≡ true)
      → IfNone r ((q : ℕ) → is_in s q ≡ true → stands_at (test p) xs q ≡ false)
      → Locates (test p) xs r
  found_under ix xs None h s apart all at e some none =
      none_found xs (λ q l. none q (sym (listed_in ix h (hash_of p) (Some s) at e q) ∙ all.exactly (hash_of p) q ∙ l))
  found_under ix xs (Some i) h s apart all at e some none = member_found p xs i apart some

  pub found_nowhere : (ix : Index) (xs : List (ProcedureClauses C K)) (h : ℕ) → Indexed ix (names (map piece xs)) → None ≡ table.get nat_eq ix.by_hash h → h ≡ hash_of p → find (test p) xs ≡ None
  found_nowhere ix xs h all at e = none_found xs (λ q l. absurd (false≢true (sym (listed_in ix h (hash_of p) None at e q) ∙ all.exactly (hash_of p) q ∙ l)))

left_out : (b o s : Bool) → (b ≡ true → s ≡ false) → o ≡ s → (not b && (b || o)) ≡ s
left_out true o s none e = sym (none refl)
left_out false o s none e = e

module _ {C K : Type 0} where
  names_push : (xs : List (ProcedureClauses C K)) (x : ProcedureClauses C K) → names (map piece (xs ++ x ∷ [])) ≡ names (map piece xs) ++ proc_of x.name ∷ []
  names_push [] x = refl
  names_push (y ∷ xs) x = ap (λ l. proc_of y.name ∷ l) (names_push xs x)

  names_length : (xs : List (ProcedureClauses C K)) → length (names (map piece xs)) ≡ length xs
  names_length [] = refl
  names_length (y ∷ xs) = ap suc (names_length xs)

  -- A procedure is changed in its place.
  pub names_set : (xs : List (ProcedureClauses C K)) (i : ℕ) (z d : ProcedureClauses C K) → i < length xs → z.name ≡ (slice_index_or xs i d).name → names (map piece (slice_set xs i z)) ≡ names (map piece xs)
  names_set [] i z d lt e = absurd (omega (arith, lt))
  names_set (y ∷ xs) zero z d lt e = ap (λ n. proc_of n ∷ names (map piece xs)) e
  names_set (y ∷ xs) (suc i) z d lt e = ap (λ l. proc_of y.name ∷ l) (names_set xs i z d (omega (arith, lt)) e)

  pub parts_stay : (old new : Index) (xs : List (ProcedureClauses C K)) → ((k q : ℕ) → is_listed new k q ≡ is_listed old k q) → Indexed old (names (map piece xs)) → Indexed new (names (map piece xs))
  parts_stay old new xs same all = record { exactly = λ k q. same k q ∙ all.exactly k q }

  parts_under : (k q : ℕ) (xs : List (ProcedureClauses C K)) (x : ProcedureClauses C K) (h : ℕ) → hash_of (proc_of x.name) ≡ h
      → stands_under k q (names (map piece (xs ++ x ∷ []))) ≡ (((k == h) && (q == length xs)) || stands_under k q (names (map piece xs)))
  parts_under k q xs x h is =
      ap (stands_under k q) (names_push xs x)
      ∙ under_push k q (names (map piece xs)) (proc_of x.name)
      ∙ ap₂ (λ g n. ((k == g) && (q == n)) || stands_under k q (names (map piece xs))) is (names_length xs)

  none_at_end : (k h q : ℕ) (xs : List (ProcedureClauses C K)) → ((k == h) && (q == length xs)) ≡ true → stands_under k q (names (map piece xs)) ≡ false
  none_at_end k h q xs = go (k == h) (q == length xs) refl
    where
      go : (a d : Bool) → (q == length xs) ≡ d → (a && d) ≡ true → stands_under k q (names (map piece xs)) ≡ false
      go true true u e = ap (λ n. stands_under k n (names (map piece xs))) (eqb-true q (length xs) u ∙ sym (names_length xs)) ∙ under_end k (names (map piece xs))
      go true false u e = absurd (false≢true e)
      go false d u e = absurd (false≢true e)

  -- One more procedure is listed.
  pub parts_push : (old new : Index) (xs : List (ProcedureClauses C K)) (x : ProcedureClauses C K) (h : ℕ) → hash_of (proc_of x.name) ≡ h
      → ((k q : ℕ) → is_listed new k q ≡ (((k == h) && (q == length xs)) || is_listed old k q))
      → Indexed old (names (map piece xs)) → Indexed new (names (map piece (xs ++ x ∷ [])))
  parts_push old new xs x h is grown all = record {
    exactly = λ k q. grown k q ∙ ap (λ b. ((k == h) && (q == length xs)) || b) (all.exactly k q) ∙ sym (parts_under k q xs x h is);
  }

  -- The place after the last one is listed, and taken back.
  pub parts_back : (old more new : Index) (xs : List (ProcedureClauses C K)) (h : ℕ)
      → ((k q : ℕ) → is_listed more k q ≡ (((k == h) && (q == length xs)) || is_listed old k q))
      → ((k q : ℕ) → is_listed new k q ≡ (not ((k == h) && (q == length xs)) && is_listed more k q))
      → Indexed old (names (map piece xs)) → Indexed new (names (map piece xs))
  parts_back old more new xs h grown back all = record {
    exactly = λ k q.
        back k q
        ∙ ap (λ b. not ((k == h) && (q == length xs)) && b) (grown k q)
        ∙ left_out ((k == h) && (q == length xs)) (is_listed old k q) (stands_under k q (names (map piece xs))) (none_at_end k h q xs) (all.exactly k q);
  }

  -- The last procedure is listed no longer.
  pub parts_pop : (old new : Index) (xs : List (ProcedureClauses C K)) (x : ProcedureClauses C K) (h : ℕ) → h ≡ hash_of (proc_of x.name)
      → ((k q : ℕ) → is_listed new k q ≡ (not ((k == h) && (q == length xs)) && is_listed old k q))
      → Indexed old (names (map piece (xs ++ x ∷ []))) → Indexed new (names (map piece xs))
  parts_pop old new xs x h is back all = record {
    exactly = λ k q.
        back k q
        ∙ ap (λ b. not ((k == h) && (q == length xs)) && b) (all.exactly k q ∙ parts_under k q xs x h (sym is))
        ∙ left_out ((k == h) && (q == length xs)) (stands_under k q (names (map piece xs))) (stands_under k q (names (map piece xs))) (none_at_end k h q xs) refl;
  }

  -- The first procedures without the last one, which is none of them.
  pub take_last : (n : ℕ) (xs : List (ProcedureClauses C K)) (x : ProcedureClauses C K) → n ≤ length xs → take n (map piece (xs ++ x ∷ [])) ≡ take n (map piece xs)
  take_last zero [] x l = refl
  take_last (suc n) [] x l = absurd (omega (arith, l))
  take_last zero (y ∷ xs) x l = refl
  take_last (suc n) (y ∷ xs) x l = ap (λ r. piece y ∷ r) (take_last n xs x (omega (arith, l)))

  pub take_whole : (n : ℕ) (xs : List (ProcedureClauses C K)) → length xs ≤ n → take n (map piece xs) ≡ map piece xs
  take_whole zero [] l = refl
  take_whole (suc n) [] l = refl
  take_whole zero (y ∷ xs) l = absurd (omega (arith, l))
  take_whole (suc n) (y ∷ xs) l = ap (λ r. piece y ∷ r) (take_whole n xs (omega (arith, l)))

pub is_ok_so : {T E : Type 0} (r : Result T E) (P : Type 0) → is_err r ≡ false → OnOk r P → P
is_ok_so (Ok x) P e h = h
is_ok_so (Err x) P e h = absurd (false≢true (sym e))

pub is_err_so : {T E : Type 0} (r : Result T E) (P : Type 0) → is_err r ≡ true → OnErr r P → P
is_err_so (Ok x) P e h = absurd (false≢true e)
is_err_so (Err x) P e h = h
