-- How procedures may be used at each generation.
use Rattle.std.proofs.Common.{◌≡◌, ◌+◌, ◌<◌, ◌≤◌, ℕ, List, [], ◌∷◌, find, Option, Some, None, Bool, true, false, cond, refl, ap, ◌∙◌, arith, le-ltb, lt-ltb}
use Rattle.std.specs.Prelude.{All, nat_lt, nat_le, ◌&&◌}
use Rattle.std.specs.Option.{option_map_or, option_and_then, unwrap_or}
use Rattle.std.proofs.lemmas.Bool.{leb-true}
use Rattle.std.proofs.lemmas.List.Elements.{All-head, All-tail, All-cons, All-nil, All-weaker}
use Rattle.pl_model.specs.History as entries
use Rattle.pl_model.specs.Predicates.{same_proc}
use Rattle.pl_model.specs.laws.Shown.{proc_of}
use Rattle.pl_model.specs.declared.shows.Proc.{Proc}
use Rattle.clause_db.specs.declared.access.Access.{Access}
use Rattle.clause_db.specs.declared.access.Life.{Life}
use Rattle.clause_db.specs.declared.parts.Addition.{Addition}
use Rattle.clause_db.specs.Access.{access_by, life_at}
use Rattle.clause_db.specs.Parts.{Piece, blank, is_part_of, access_when, piece_access, access_now, access_at, opened, opened_since, added_to, with_clause}
use Rattle.clause_db.specs.Stands.{LivedBelow}
use Rattle.clause_db.proofs.Procs.{is_same}
use Rattle.clause_db.proofs.Pieces.{find_with}

pub over : (g u : ℕ) (f : Bool) → u < g → (f && nat_le g u) ≡ false
over g u false l = refl
over g u true l = go (nat_le g u) refl
  where
    go : (b : Bool) → nat_le g u ≡ b → nat_le g u ≡ false
    go true e = absurd (let m = leb-true g u e in omega (arith, l, m))
    go false e = e

-- A procedure that was abolished below a generation is not there at it.
pub no_life : (n g : ℕ) → n ≤ g → (ls : List Life) → All (λ l. l.until < n) ls → life_at None g ls ≡ None
no_life n g le [] h = refl
no_life n g le (l ∷ ls) h =
    let m = All-head (λ (x : Life). x.until < n) l ls h in
    ap (λ b. life_at (cond b (Some l.access) None) g ls) (over g l.until (nat_lt l.from g) (omega (arith, m, le)))
    ∙ no_life n g le ls (All-tail (λ (x : Life). x.until < n) l ls h)

pub blank_lived : (C : Type 0) (k : ℕ) (p : Proc) → LivedBelow {C = C} (k + 1) (blank p)
blank_lived C k p = ((omega arith), All-nil (λ (l : Life). l.until < k + 1))

module _ {C : Type 0} where
  pub piece_now : (n g : ℕ) → n ≤ g → (x : Piece C) → LivedBelow n x → piece_access g x ≡ x.access
  piece_now n g le x h = go x.access
    where
      go : (o : Option Access) → access_when o x.since g x.lives ≡ o
      go None = no_life n g le x.lives h.1
      go (Some a) = let m = h.0 in ap (λ b. cond b (Some a) (life_at None g x.lives)) (lt-ltb x.since g (omega (arith, m, le)))

  -- From a bound on all changes on, procedures may be used as they are now.
  pub now_at : (n g : ℕ) → n ≤ g → (xs : List (Piece C)) → All (LivedBelow n) xs → (p : entries.Proc) → access_at g xs p ≡ access_now xs p
  now_at n g le [] h p = refl
  now_at n g le (x ∷ xs) h p = go (is_part_of p x) (now_at n g le xs (All-tail (LivedBelow n) x xs h) p)
    where
      go : (b : Bool) → access_at g xs p ≡ access_now xs p
          → option_and_then (piece_access g) (cond b (Some x) (find (is_part_of p) xs)) ≡ option_and_then (λ (y : Piece C). y.access) (cond b (Some x) (find (is_part_of p) xs))
      go true ih = piece_now n g le x (All-head (LivedBelow n) x xs h)
      go false ih = ih

  -- At the generations up to an update's place the procedure that it makes is as before.
  pub opened_before : (g k : ℕ) (a : Access) (x : Piece C) → g ≤ k → piece_access g (opened k a x) ≡ piece_access g x
  opened_before g k a x le = go x.access
    where
      go : (o : Option Access) → access_when (Some (unwrap_or o a)) (opened_since o k x.since) g x.lives ≡ access_when o x.since g x.lives
      go None = ap (λ b. cond b (Some a) (life_at None g x.lives)) (le-ltb k g le)
      go (Some b) = refl

  pub lived_more : (n k : ℕ) → n ≤ k → (x : Piece C) → LivedBelow n x → LivedBelow (k + 1) x
  lived_more n k le x h =
      let m = h.0 in
      ((omega (arith, m, le)), All-weaker (λ (l : Life). l.until < n) (λ (l : Life). l.until < k + 1) (λ l u. omega (arith, u, le)) x.lives h.1)

  pub opened_keeps : (n k : ℕ) (a : Access) → k < n → (x : Piece C) → LivedBelow n x → LivedBelow n (opened k a x)
  opened_keeps n k a lt x h = (go x.access, h.1)
    where
      go : (o : Option Access) → opened_since o k x.since < n
      go None = lt
      go (Some b) = h.0

  pub lived_all : (n k : ℕ) → n ≤ k → (xs : List (Piece C)) → All (LivedBelow n) xs → All (LivedBelow (k + 1)) xs
  lived_all n k le xs h = All-weaker (LivedBelow n) (LivedBelow (k + 1)) (λ x m. lived_more n k le x m) xs h

  -- A clause more.
  pub at_with : (a : Addition) (p : Proc) (c : C) (xs : List (Piece C)) (g : ℕ) → g ≤ a.place → (q : entries.Proc) → access_at g (with_clause a p c xs) q ≡ access_at g xs q
  at_with a p c xs g le q =
      ap (option_and_then (piece_access g)) (find_with a p c xs q) ∙ go (same_proc (proc_of p) q) refl
    where
      of : (o : Option (Piece C)) → option_and_then (piece_access g) (Some (option_map_or (added_to a c) o (added_to a c (blank p)))) ≡ option_and_then (piece_access g) o
      of None = opened_before g a.place (access_by a.origin) (blank p) le
      of (Some x) = opened_before g a.place (access_by a.origin) x le

      go : (b : Bool) → same_proc (proc_of p) q ≡ b
          → option_and_then (piece_access g) (cond b (Some (option_map_or (added_to a c) (find (is_part_of (proc_of p)) xs) (added_to a c (blank p)))) (find (is_part_of q) xs)) ≡ access_at g xs q
      go true e = of (find (is_part_of (proc_of p)) xs) ∙ ap (access_at g xs) (is_same (proc_of p) q e)
      go false e = refl

  pub lived_with : (n : ℕ) (a : Addition) (p : Proc) (c : C) → n ≤ a.place → (xs : List (Piece C)) → All (LivedBelow n) xs → All (LivedBelow (a.place + 1)) (with_clause a p c xs)
  lived_with n a p c le [] h =
      All-cons (LivedBelow (a.place + 1)) (added_to a c (blank p)) [] ((omega arith), All-nil (λ (l : Life). l.until < a.place + 1)) (All-nil (LivedBelow (a.place + 1)))
  lived_with n a p c le (x ∷ xs) h = go (is_part_of (proc_of p) x) (lived_with n a p c le xs (All-tail (LivedBelow n) x xs h))
    where
      here : LivedBelow n x
      here = All-head (LivedBelow n) x xs h

      go : (b : Bool) → All (LivedBelow (a.place + 1)) (with_clause a p c xs) → All (LivedBelow (a.place + 1)) (cond b (added_to a c x ∷ xs) (x ∷ with_clause a p c xs))
      go true ih =
          All-cons (LivedBelow (a.place + 1)) (added_to a c x) xs (opened_keeps (a.place + 1) a.place (access_by a.origin) (omega arith) x (lived_more n a.place le x here))
          (lived_all n a.place le xs (All-tail (LivedBelow n) x xs h))
      go false ih = All-cons (LivedBelow (a.place + 1)) x (with_clause a p c xs) (lived_more n a.place le x here) ih
