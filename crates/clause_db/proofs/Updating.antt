-- An update changes the last of the databases, and no view of an earlier generation.
use Rattle.std.proofs.Common.{◌≡◌, ◌+◌, ◌≤◌, ℕ, List, [], ◌∷◌, ◌++◌, filter, map, Option, Some, None, Bool, true, false, cond, not, ◌&&◌, refl, ap, sym, subst, ◌∙◌, arith, le-ltb, le-leb, append-nil}
use Rattle.std.specs.Prelude.{All, nat_lt, nat_le}
use Rattle.std.specs.Option.{option_map}
use Rattle.std.proofs.lemmas.Bool.{leb-true, leb-false}
use Rattle.std.proofs.lemmas.List.Elements.{filter-append}
use Rattle.pl_model.specs.History.{Proc}
use Rattle.pl_model.specs.Predicates.{same_proc}
use Rattle.pl_model.specs.Database.{Database, Stored, is_of, is_visible, is_erased, seen, named_clauses, added_clause, erased_where}
use Rattle.pl_model.specs.Flags.{Flags}
use Rattle.pl_model.specs.OperatorTable.{OperatorTable}
use Rattle.clause_db.specs.Access.{access_of}
use Rattle.clause_db.specs.Parts.{Held, Piece, access_at}
use Rattle.clause_db.specs.Stands.{StandsNow, StandsFor, LivedBelow, program_access, then_at}
use Rattle.clause_db.proofs.Lives.{now_at}

abbrev is_seen : {C : Type 0} → ℕ → Proc → Stored C → Bool
is_seen g p s = is_of p s && is_visible g s

abbrev pub view : {C : Type 0} → ℕ → Proc → List (Stored C) → List (ℕ × C)
view g p ss = named_clauses (filter (is_seen g p) ss)

-- A clause that is added at the generation or later is not seen.
hidden : (a t : Bool) → t ≡ false → (a && (t && true)) ≡ false
hidden true t e = ap (λ x. x && true) e
hidden false t e = refl

unseen : {C : Type 0} (k g : ℕ) (q p : Proc) (c : C) → g ≤ k → is_seen g p (added_clause k q c) ≡ false
unseen k g q p c le = hidden (same_proc q p) (nat_lt k g) (le-ltb k g le)

pub view_first : {C : Type 0} (k g : ℕ) (q p : Proc) (c : C) (ss : List (Stored C)) → g ≤ k → view g p (added_clause k q c ∷ ss) ≡ view g p ss
view_first k g q p c ss le =
    ap (λ x. named_clauses (cond x (added_clause k q c ∷ filter (is_seen g p) ss) (filter (is_seen g p) ss))) (unseen k g q p c le)

pub view_last : {C : Type 0} (k g : ℕ) (q p : Proc) (c : C) (ss : List (Stored C)) → g ≤ k → view g p (ss ++ added_clause k q c ∷ []) ≡ view g p ss
view_last k g q p c ss le =
    ap named_clauses (filter-append (is_seen g p) ss (added_clause k q c ∷ []))
    ∙ ap (λ x. named_clauses (filter (is_seen g p) ss ++ cond x (added_clause k q c ∷ []) [])) (unseen k g q p c le)
    ∙ ap named_clauses (append-nil (filter (is_seen g p) ss))

-- A clause that is erased at the generation or later is seen as before.
abbrev erased_if : {C : Type 0} → Bool → ℕ → Stored C → Stored C
erased_if w k s = cond (w && not (is_erased s)) (record s { erased = Some k }) s

picked : {C : Type 0} (v : Bool) (s u : Stored C) (ss us : List (Stored C)) → s.place ≡ u.place → s.clause ≡ u.clause
    → named_clauses ss ≡ named_clauses us → named_clauses (cond v (s ∷ ss) ss) ≡ named_clauses (cond v (u ∷ us) us)
picked true s u ss us at is rest = ap (λ n. (n, s.clause) ∷ named_clauses ss) at ∙ ap (λ c. (u.place, c) ∷ named_clauses ss) is ∙ ap (λ l. (u.place, u.clause) ∷ l) rest
picked false s u ss us at is rest = rest

kept_seen : {C : Type 0} (w : Bool) (k g n : ℕ) (q p : Proc) (c : C) (o : Option ℕ) (ss us : List (Stored C)) → g ≤ k → named_clauses ss ≡ named_clauses us
    → let s : Stored C = record { place = n; procedure = q; clause = c; erased = o }
    in named_clauses (cond (is_seen g p (erased_if w k s)) (erased_if w k s ∷ ss) ss) ≡ named_clauses (cond (is_seen g p s) (s ∷ us) us)
kept_seen false k g n q p c o ss us le rest = picked _ _ _ ss us refl refl rest
kept_seen true k g n q p c None ss us le rest =
    ap (λ x. named_clauses (cond (same_proc q p && (nat_lt n g && x)) (record { place = n; procedure = q; clause = c; erased = Some k } ∷ ss) ss)) (le-leb g k le)
    ∙ picked _ _ (record { place = n; procedure = q; clause = c; erased = None }) ss us refl refl rest
kept_seen true k g n q p c (Some j) ss us le rest = picked _ _ _ ss us refl refl rest

pub view_erased : {C : Type 0} (test : Stored C → Bool) (k g : ℕ) (p : Proc) (ss : List (Stored C)) → g ≤ k → view g p (map (erased_where test k) ss) ≡ view g p ss
view_erased test k g p [] le = refl
view_erased test k g p (s ∷ ss) le =
    kept_seen (test s) k g s.place s.procedure p s.clause s.erased _ _ le (view_erased test k g p ss le)

module _ {C : Type 0} (need : C → ℕ) (h : Held C) (d : ℕ → Database C) (s : StandsFor need h d) (k : ℕ) (l : h.next ≤ k) (change : Database C → Database C) where
  -- What is held after the update at the place.
  abbrev pub updated_held : List (Piece C) → ℕ → Flags → OperatorTable → Held C
  updated_held parts used fs os = record { parts = parts; used = used; flags = fs; operators = os; next = k + 1; floor = h.floor }

  early : (g : ℕ) → g ≤ k → then_at k change d g ≡ d g
  early g le = ap (λ b. cond b (d g) (change (d k))) (le-leb g k le)

  late : (g : ℕ) → k + 1 ≤ g → then_at k change d g ≡ change (d h.next)
  late g le = go (nat_le g k) refl
    where
      go : (b : Bool) → nat_le g k ≡ b → cond (nat_le g k) (d g) (change (d k)) ≡ change (d h.next)
      go true e = absurd (let m = leb-true g k e in omega (arith, m, le))
      go false e = ap (λ b. cond b (d g) (change (d k))) e ∙ ap change (s.rests k l)

  after : then_at k change d (k + 1) ≡ change (d h.next)
  after = late (k + 1) (omega arith)

  pub updated : (parts : List (Piece C)) (used : ℕ) (fs : Flags) (os : OperatorTable)
      → StandsNow need (updated_held parts used fs os) (change (d h.next))
      → ((g : ℕ) → g ≤ k → (p : Proc) → access_at g parts p ≡ access_at g h.parts p)
      → ((g : ℕ) → g ≤ k → (p : Proc) → named_clauses (seen g p (change (d h.next))) ≡ named_clauses (seen g p (d h.next)))
      → All (LivedBelow (k + 1)) parts
      → StandsFor need (updated_held parts used fs os) (then_at k change d)
  updated parts used fs os newest same views lived = record {
    newest = subst (StandsNow need (updated_held parts used fs os)) (sym after) newest;
    low = let m = s.low in omega (arith, m, l);
    rests = λ g m. late g m ∙ sym after;
    access = λ g low p. accessed g low p (nat_le g k) refl;
    views = λ g low p. viewed g low p (nat_le g k) refl;
    lived = lived;
  }
    where
      accessed : (g : ℕ) → h.floor ≤ g → (p : Proc) → (b : Bool) → nat_le g k ≡ b → option_map access_of (access_at g parts p) ≡ program_access (then_at k change d g) p
      accessed g low p true e =
          let m = leb-true g k e in
          ap (option_map access_of) (same g m p) ∙ s.access g low p ∙ sym (ap (λ x. program_access x p) (early g m))
      accessed g low p false e =
          let m = leb-false g k e in
          ap (option_map access_of) (now_at (k + 1) g (omega (arith, m)) parts lived p) ∙ newest.access p ∙ sym (ap (λ x. program_access x p) (late g (omega (arith, m))))

      viewed : (g : ℕ) → h.floor ≤ g → (p : Proc) → (b : Bool) → nat_le g k ≡ b
          → named_clauses (seen g p (then_at k change d g)) ≡ named_clauses (seen g p (then_at k change d (k + 1)))
      viewed g low p true e =
          let m = leb-true g k e in
          ap (λ x. named_clauses (seen g p x)) (early g m)
          ∙ s.views g low p
          ∙ sym (views g m p)
          ∙ sym (ap (λ x. named_clauses (seen g p x)) after)
      viewed g low p false e =
          let m = leb-false g k e in
          ap (λ x. named_clauses (seen g p x)) (late g (omega (arith, m)) ∙ sym after)
