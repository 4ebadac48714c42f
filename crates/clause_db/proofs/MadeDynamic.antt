-- Procedures that are made dynamic, beside the same in the databases of the definitions.
use Rattle.std.proofs.Common.{◌≡◌, ◌+◌, ◌<◌, ◌≤◌, ℕ, suc, List, [], ◌∷◌, ◌++◌, find, map, length, take, drop, Option, Some, None, Bool, true, false, cond, ◌||◌, refl, ap, ap₂, sym, subst, ◌∙◌, arith}
use Rattle.std.specs.Prelude.{All, is_some, unwrap_or, slice_index_or, IfSome, IfNone}
use Rattle.std.specs.List.{list_any}
use Rattle.std.specs.Option.{option_map, option_map_or, option_and_then}
use Rattle.std.specs.BTreeMap.{BTreeMap}
use Rattle.std.proofs.lemmas.Bool.{false≢true}
use Rattle.std.proofs.lemmas.List.{at_drop_more, length-take, take-append-le}
use Rattle.std.proofs.lemmas.List.Elements.{All-nil, All-push, All-weaker}
use Rattle.pl_model.specs.History as entries
use Rattle.pl_model.specs.Predicates.{same_proc}
use Rattle.pl_model.specs.laws.Shown.{proc_of}
use Rattle.pl_model.specs.Database as database
use Rattle.pl_model.specs.Database.{Database, Procedure, Stored, is_static, with_procedure, with_dynamic, with_dynamic_procedures}
use Rattle.pl_model.specs.declared.shows.Proc.{Proc}
use Rattle.gen_core.specs.declared.dated_clause.DatedClause.{DatedClause}
use Rattle.clause_db.specs.declared.access.Access.TheVariants.{Dynamic}
use Rattle.clause_db.specs.declared.db.Home.{Home}
use Rattle.clause_db.specs.declared.fault.DbFault.{DbFault}
use Rattle.clause_db.specs.declared.fault.DbFault.TheVariants.{Static as StaticFault}
use Rattle.clause_db.specs.declared.parts.ProcedureClauses.{ProcedureClauses}
use Rattle.clause_db.specs.Located.{IsAt}
use Rattle.clause_db.specs.Faults.{change_fault, is_static_access}
use Rattle.clause_db.specs.Access.{access_of}
use Rattle.clause_db.specs.Parts.{Held, Piece, piece, held_access, blank, is_part_of, clauses_at, piece_access, access_now, access_at, opened, changed_in}
use Rattle.clause_db.specs.Sound.{Homed, IsSound, Apart, names}
use Rattle.clause_db.specs.Stands.{StandsNow, StandsFor, LivedBelow, then_at}
use Rattle.clause_db.specs.Dynamic.{with_blank, with_blanks, opened_all, dynamic_held}
use Rattle.clause_db.proofs.Procs.{is_same, same_self}
use Rattle.clause_db.proofs.Faults.{static_same}
use Rattle.clause_db.proofs.Added.{low_at}
use Rattle.clause_db.proofs.Pieces.{test, piece_found, piece_missed}
use Rattle.clause_db.proofs.Adding.{listed_access, access_with, opened_same}
use Rattle.clause_db.proofs.Changing.{changed_if, left_so, find_changed, told_changed, has_changed, all_changed, names_changed, homed_changed}
use Rattle.clause_db.proofs.Lives.{opened_before, opened_keeps, blank_lived, lived_all}
use Rattle.clause_db.proofs.Settings.{sound_set}
use Rattle.clause_db.proofs.Updating.{updated}

module _ {C : Type 0} where
  -- What tells no predicate without a procedure from one that is not among them.
  module _ {Y : Type 0} (F : Option (Piece C) → Y) (same : (p : Proc) → F (Some (blank p)) ≡ F None) (q : entries.Proc) where
    told_append : (p : Proc) (xs : List (Piece C)) → F (find (is_part_of q) (xs ++ blank p ∷ [])) ≡ F (find (is_part_of q) xs)
    told_append p [] = go (same_proc (proc_of p) q)
      where
        go : (b : Bool) → F (cond b (Some (blank p)) None) ≡ F None
        go true = same p
        go false = refl
    told_append p (x ∷ xs) = go (is_part_of q x) (told_append p xs)
      where
        go : (b : Bool) → F (find (is_part_of q) (xs ++ blank p ∷ [])) ≡ F (find (is_part_of q) xs)
            → F (cond b (Some x) (find (is_part_of q) (xs ++ blank p ∷ []))) ≡ F (cond b (Some x) (find (is_part_of q) xs))
        go true ih = refl
        go false ih = ih

    told_blank : (p : Proc) (xs : List (Piece C)) → F (find (is_part_of q) (with_blank p xs)) ≡ F (find (is_part_of q) xs)
    told_blank p xs = go (find (is_part_of (proc_of p)) xs)
      where
        go : (o : Option (Piece C)) → F (find (is_part_of q) (option_map_or (λ x. xs) o (xs ++ blank p ∷ []))) ≡ F (find (is_part_of q) xs)
        go None = told_append p xs
        go (Some x) = refl

    pub told_blanks : (ps : List Proc) (xs : List (Piece C)) → F (find (is_part_of q) (with_blanks ps xs)) ≡ F (find (is_part_of q) xs)
    told_blanks [] xs = refl
    told_blanks (p ∷ ps) xs = told_blanks ps (with_blank p xs) ∙ told_blank p xs

  abbrev has : entries.Proc → List (Piece C) → Bool
  has q xs = is_some (find (is_part_of q) xs)

  has_append : (q : entries.Proc) (p : Proc) (xs : List (Piece C)) → has q xs ≡ true → has q (xs ++ blank p ∷ []) ≡ true
  has_append q p [] h = absurd (false≢true h)
  has_append q p (x ∷ xs) h = go (is_part_of q x) h (has_append q p xs)
    where
      go : (b : Bool) → is_some (cond b (Some x) (find (is_part_of q) xs)) ≡ true → (has q xs ≡ true → has q (xs ++ blank p ∷ []) ≡ true)
          → is_some (cond b (Some x) (find (is_part_of q) (xs ++ blank p ∷ []))) ≡ true
      go true m ih = refl
      go false m ih = ih m

  has_end : (p : Proc) (xs : List (Piece C)) → has (proc_of p) (xs ++ blank p ∷ []) ≡ true
  has_end p [] = ap (λ b. is_some (cond b (Some (blank {C = C} p)) None)) (same_self (proc_of p))
  has_end p (x ∷ xs) = go (is_part_of (proc_of p) x) (has_end p xs)
    where
      go : (b : Bool) → has (proc_of p) (xs ++ blank p ∷ []) ≡ true → is_some (cond b (Some x) (find (is_part_of (proc_of p)) (xs ++ blank p ∷ []))) ≡ true
      go true ih = refl
      go false ih = ih

  has_more : (q : entries.Proc) (p : Proc) (xs : List (Piece C)) → has q xs ≡ true → has q (with_blank p xs) ≡ true
  has_more q p xs h = go (find (is_part_of (proc_of p)) xs)
    where
      go : (o : Option (Piece C)) → has q (option_map_or (λ x. xs) o (xs ++ blank p ∷ [])) ≡ true
      go None = has_append q p xs h
      go (Some x) = h

  has_own : (p : Proc) (xs : List (Piece C)) → has (proc_of p) (with_blank p xs) ≡ true
  has_own p xs = go (find (is_part_of (proc_of p)) xs) refl
    where
      go : (o : Option (Piece C)) → find (is_part_of (proc_of p)) xs ≡ o → has (proc_of p) (option_map_or (λ x. xs) o (xs ++ blank p ∷ [])) ≡ true
      go None e = has_end p xs
      go (Some x) e = ap is_some e

  has_later : (q : entries.Proc) (ps : List Proc) (xs : List (Piece C)) → has q xs ≡ true → has q (with_blanks ps xs) ≡ true
  has_later q [] xs h = h
  has_later q (p ∷ ps) xs h = has_later q ps (with_blank p xs) (has_more q p xs h)

  abbrev Stand : List Proc → List (Piece C) → Type 0
  Stand [] xs = Unit
  Stand (p ∷ ps) xs = (has (proc_of p) xs ≡ true) × Stand ps xs

  blanks_stand : (ps : List Proc) (xs : List (Piece C)) → Stand ps (with_blanks ps xs)
  blanks_stand [] xs = tt
  blanks_stand (p ∷ ps) xs = (has_later (proc_of p) ps (with_blank p xs) (has_own p xs), blanks_stand ps (with_blank p xs))

  stand_opened : (k : ℕ) (r : entries.Proc) (ps : List Proc) (xs : List (Piece C)) → Stand ps xs → Stand ps (changed_in (opened k Dynamic) r xs)
  stand_opened k r [] xs h = tt
  stand_opened k r (p ∷ ps) xs h = (has_changed (opened k Dynamic) (λ x. refl) r (proc_of p) xs ∙ h.0, stand_opened k r ps xs h.1)

  -- As the definitions have it.
  abbrev Agrees : List (Piece C) → List Procedure → Type 0
  Agrees xs rs = (q : entries.Proc) → option_map access_of (access_now xs q) ≡ listed_access rs q

  agrees_opened : (k : ℕ) (p : entries.Proc) (xs : List (Piece C)) (rs : List Procedure) → has p xs ≡ true → Agrees xs rs → Agrees (changed_in (opened k Dynamic) p xs) (with_procedure p database.dynamic rs)
  agrees_opened k p xs rs f h q =
      ap of (find_changed (opened k Dynamic) (λ x. refl) p q xs) ∙ go (same_proc p q) refl ∙ sym (access_with p database.dynamic rs q)
    where
      of : Option (Piece C) → Option database.Access
      of o = option_map access_of (option_and_then (λ (x : Piece C). x.access) o)

      by : (o : Option (Piece C)) → is_some o ≡ true → of o ≡ listed_access rs p → of (option_map (changed_if (opened k Dynamic) (λ x. refl) true) o) ≡ Some (unwrap_or (listed_access rs p) database.dynamic)
      by None e m = absurd (false≢true e)
      by (Some x) e m = ap (λ z. Some z) (opened_same x.access Dynamic ∙ ap (λ o. unwrap_or o database.dynamic) m)

      go : (b : Bool) → same_proc p q ≡ b → of (option_map (changed_if (opened k Dynamic) (λ x. refl) b) (find (is_part_of q) xs)) ≡ cond b (Some (unwrap_or (listed_access rs p) database.dynamic)) (listed_access rs q)
      go true e = ap (λ r. of (option_map (changed_if (opened k Dynamic) (λ x. refl) true) (find (is_part_of r) xs))) (sym (is_same p q e)) ∙ by (find (is_part_of p) xs) f (h p)
      go false e = ap of (left_so (opened k Dynamic) (λ x. refl) (find (is_part_of q) xs)) ∙ h q

  agrees_all : (k : ℕ) (ps : List Proc) (xs : List (Piece C)) (rs : List Procedure) → Stand ps xs → Agrees xs rs → Agrees (opened_all k ps xs) (with_dynamic (map proc_of ps) rs)
  agrees_all k [] xs rs f h = h
  agrees_all k (p ∷ ps) xs rs f h =
      agrees_all k ps (changed_in (opened k Dynamic) (proc_of p) xs) (with_procedure (proc_of p) database.dynamic rs) (stand_opened k (proc_of p) ps xs f.1) (agrees_opened k (proc_of p) xs rs f.0 h)

  at_opened : (g k : ℕ) → g ≤ k → (ps : List Proc) (xs : List (Piece C)) (q : entries.Proc) → access_at g (opened_all k ps xs) q ≡ access_at g xs q
  at_opened g k le [] xs q = refl
  at_opened g k le (p ∷ ps) xs q =
      at_opened g k le ps (changed_in (opened k Dynamic) (proc_of p) xs) q
      ∙ told_changed (opened k Dynamic) (λ x. refl) (option_and_then (piece_access g)) (λ x. opened_before g k Dynamic x le) (proc_of p) q xs

  clauses_opened : (k : ℕ) (ps : List Proc) (xs : List (Piece C)) (q : entries.Proc) → clauses_at (opened_all k ps xs) q ≡ clauses_at xs q
  clauses_opened k [] xs q = refl
  clauses_opened k (p ∷ ps) xs q =
      clauses_opened k ps (changed_in (opened k Dynamic) (proc_of p) xs) q
      ∙ told_changed (opened k Dynamic) (λ x. refl) (λ o. option_map_or (λ (x : Piece C). x.clauses) o []) (λ x. refl) (proc_of p) q xs

  -- What holds of each of them stays true.
  all_opened : (P : Piece C → Type 0) (k : ℕ) → ((x : Piece C) → P x → P (opened k Dynamic x)) → (ps : List Proc) (xs : List (Piece C)) → All P xs → All P (opened_all k ps xs)
  all_opened P k keeps [] xs h = h
  all_opened P k keeps (p ∷ ps) xs h = all_opened P k keeps ps (changed_in (opened k Dynamic) (proc_of p) xs) (all_changed (opened k Dynamic) (λ x. refl) P keeps (proc_of p) xs h)

  all_blank : (P : Piece C → Type 0) → ((p : Proc) → P (blank p)) → (p : Proc) (xs : List (Piece C)) → All P xs → All P (with_blank p xs)
  all_blank P new p xs h = go (find (is_part_of (proc_of p)) xs)
    where
      go : (o : Option (Piece C)) → All P (option_map_or (λ x. xs) o (xs ++ blank p ∷ []))
      go None = All-push P xs (blank p) h (new p)
      go (Some x) = h

  all_blanks : (P : Piece C → Type 0) → ((p : Proc) → P (blank p)) → (ps : List Proc) (xs : List (Piece C)) → All P xs → All P (with_blanks ps xs)
  all_blanks P new [] xs h = h
  all_blanks P new (p ∷ ps) xs h = all_blanks P new ps (with_blank p xs) (all_blank P new p xs h)

  pub names_opened : (k : ℕ) (ps : List Proc) (xs : List (Piece C)) → names (opened_all k ps xs) ≡ names xs
  names_opened k [] xs = refl
  names_opened k (p ∷ ps) xs = names_opened k ps (changed_in (opened k Dynamic) (proc_of p) xs) ∙ names_changed (opened k Dynamic) (λ x. refl) (proc_of p) xs

  any_append : (q : entries.Proc) (p : Proc) (xs : List (Piece C)) → same_proc q (proc_of p) ≡ false → list_any (same_proc q) (names xs) ≡ false → list_any (same_proc q) (names (xs ++ blank p ∷ [])) ≡ false
  any_append q p [] e h = ap (λ b. b || false) e
  any_append q p (x ∷ xs) e h = go (same_proc q (proc_of x.name)) h (any_append q p xs e)
    where
      go : (b : Bool) → (b || list_any (same_proc q) (names xs)) ≡ false → (list_any (same_proc q) (names xs) ≡ false → list_any (same_proc q) (names (xs ++ blank p ∷ [])) ≡ false)
          → (b || list_any (same_proc q) (names (xs ++ blank p ∷ []))) ≡ false
      go true m ih = m
      go false m ih = ih m

  pub apart_append : (p : Proc) (xs : List (Piece C)) → find (is_part_of (proc_of p)) xs ≡ None → Apart (names xs) → Apart (names (xs ++ blank p ∷ []))
  apart_append p [] e h = (refl, tt)
  apart_append p (x ∷ xs) e h = go (is_part_of (proc_of p) x) refl e (apart_append p xs)
    where
      go : (b : Bool) → is_part_of (proc_of p) x ≡ b → cond b (Some x) (find (is_part_of (proc_of p)) xs) ≡ None
          → (find (is_part_of (proc_of p)) xs ≡ None → Apart (names xs) → Apart (names (xs ++ blank p ∷ []))) → Apart (names (x ∷ (xs ++ blank p ∷ [])))
      go true u m ih = absurd (cc)
      go false u m ih = (any_append (proc_of x.name) p xs u h.0, ih m h.1)

  pub apart_blank : (p : Proc) (xs : List (Piece C)) → Apart (names xs) → Apart (names (with_blank p xs))
  apart_blank p xs h = go (find (is_part_of (proc_of p)) xs) refl
    where
      go : (o : Option (Piece C)) → find (is_part_of (proc_of p)) xs ≡ o → Apart (names (option_map_or (λ x. xs) o (xs ++ blank p ∷ [])))
      go None e = apart_append p xs e h
      go (Some x) e = h

  apart_blanks : (ps : List Proc) (xs : List (Piece C)) → Apart (names xs) → Apart (names (with_blanks ps xs))
  apart_blanks [] xs h = h
  apart_blanks (p ∷ ps) xs h = apart_blanks ps (with_blank p xs) (apart_blank p xs h)

  module _ (need : C → ℕ) (homes : BTreeMap ℕ Home) where
    homed_append : (n : ℕ) (p : Proc) (xs : List (Piece C)) → Homed need homes n xs → Homed need homes n (xs ++ blank p ∷ [])
    homed_append n p [] h = (All-nil _, tt)
    homed_append n p (x ∷ xs) h = (h.0, homed_append (suc n) p xs h.1)

    homed_blank : (p : Proc) (xs : List (Piece C)) → Homed need homes 0 xs → Homed need homes 0 (with_blank p xs)
    homed_blank p xs h = go (find (is_part_of (proc_of p)) xs)
      where
        go : (o : Option (Piece C)) → Homed need homes 0 (option_map_or (λ x. xs) o (xs ++ blank p ∷ []))
        go None = homed_append 0 p xs h
        go (Some x) = h

    homed_blanks : (ps : List Proc) (xs : List (Piece C)) → Homed need homes 0 xs → Homed need homes 0 (with_blanks ps xs)
    homed_blanks [] xs h = h
    homed_blanks (p ∷ ps) xs h = homed_blanks ps (with_blank p xs) (homed_blank p xs h)

    homed_opened : (k : ℕ) (ps : List Proc) (xs : List (Piece C)) → Homed need homes 0 xs → Homed need homes 0 (opened_all k ps xs)
    homed_opened k [] xs h = h
    homed_opened k (p ∷ ps) xs h =
        homed_opened k ps (changed_in (opened k Dynamic) (proc_of p) xs) (homed_changed (opened k Dynamic) (λ x. refl) need homes (λ n x m. m) 0 (proc_of p) xs h)

    pub sound_dynamic : (next floor k : ℕ) (ps : List Proc) (xs : List (Piece C)) → IsSound need xs homes next floor → next ≤ k → IsSound need (opened_all k ps (with_blanks ps xs)) homes (k + 1) floor
    sound_dynamic next floor k ps xs s l =
        let t = sound_set need homes next floor k xs s l in
        record {
          homed = homed_opened k ps (with_blanks ps xs) (homed_blanks ps xs t.homed);
          later = all_opened Later k (λ x m. m) ps (with_blanks ps xs) (all_blanks Later (λ p. All-nil (λ (d : DatedClause C). d.place < k + 1)) ps xs t.later);
          low = t.low;
          apart = subst Apart (sym (names_opened k ps (with_blanks ps xs))) (apart_blanks ps xs t.apart);
        }
      where
        Later : Piece C → Type 0
        Later x = All (λ d. d.place < k + 1) x.clauses

  module _ (need : C → ℕ) (h : Held C) (d : ℕ → Database C) (s : StandsFor need h d) (k : ℕ) (l : h.next ≤ k) (ps : List Proc) where
    abbrev parts : List (Piece C)
    parts = opened_all k ps (with_blanks ps h.parts)

    clauses_stay : (q : entries.Proc) → clauses_at parts q ≡ clauses_at h.parts q
    clauses_stay q =
        clauses_opened k ps (with_blanks ps h.parts) q
        ∙ told_blanks (λ o. option_map_or (λ (x : Piece C). x.clauses) o []) (λ p. refl) q ps h.parts

    now : StandsNow need (dynamic_held k ps h) (with_dynamic_procedures (map proc_of ps) (d h.next))
    now = record {
      access =
          agrees_all k ps (with_blanks ps h.parts) (d h.next).procedures (blanks_stand ps h.parts)
          (λ q. ap (option_map access_of) (told_blanks (λ o. option_and_then (λ (x : Piece C). x.access) o) (λ p. refl) q ps h.parts) ∙ s.newest.access q);
      clauses = λ q. record {
        from = (s.newest.clauses q).from;
        low = (s.newest.clauses q).low;
        are = clauses_stay q ∙ (s.newest.clauses q).are;
      };
      used = s.newest.used;
      before = All-weaker (λ (x : Stored C). x.place < h.next) (λ (x : Stored C). x.place < k + 1) (λ x m. omega (arith, l, m)) (d h.next).clauses s.newest.before;
      once = s.newest.once;
    }

    pub stands_dynamic : StandsFor need (dynamic_held k ps h) (then_at k (with_dynamic_procedures (map proc_of ps)) d)
    stands_dynamic =
        updated need h d s k l (with_dynamic_procedures (map proc_of ps)) parts h.used h.flags h.operators now
        (λ g m q. at_opened g k m ps (with_blanks ps h.parts) q ∙ told_blanks (option_and_then (piece_access g)) (λ p. refl) q ps h.parts)
        (λ g m q. refl)
        (all_opened (LivedBelow (k + 1)) k (λ x m. opened_keeps (k + 1) k Dynamic (omega arith) x m) ps (with_blanks ps h.parts)
        (all_blanks (LivedBelow (k + 1)) (λ p. blank_lived C k p) ps h.parts (lived_all h.next k l h.parts s.lived)))

-- Where one of them is static.
module _ {C : Type 0} (need : C → ℕ) (h : Held C) (d : ℕ → Database C) (s : StandsFor need h d) (k : ℕ) (l : h.next ≤ k) where
  static_any : (ps : List Proc) → list_any (λ p. is_static_access (held_access k h (proc_of p))) ps ≡ list_any (is_static (d k)) (map proc_of ps)
  static_any [] = refl
  static_any (p ∷ ps) = ap₂ (λ b c. b || c) (static_same need h d s k (low_at need h d s k l) (proc_of p)) (static_any ps)

  module _ (ps : List Proc) (b : Bool) (is : b ≡ list_any (λ p. is_static_access (held_access k h (proc_of p))) ps) where
    pub fault_is : change_fault (d k) (map proc_of ps) ≡ cond b (Some StaticFault) None
    fault_is = ap (λ x. cond x (Some StaticFault) None) (sym (static_any ps) ∙ sym is)

    pub some_fault : b ≡ true → (P : Type 0) → IfNone (change_fault (d k) (map proc_of ps)) P
    some_fault e P = subst (λ o. IfNone o P) (sym (fault_is ∙ ap (λ x. cond x (Some StaticFault) None) e)) tt

    pub no_fault : b ≡ false → (P : DbFault → Type 0) → IfSome (change_fault (d k) (map proc_of ps)) P
    no_fault e P = subst (λ o. IfSome o P) (sym (fault_is ∙ ap (λ x. cond x (Some StaticFault) None) e)) tt

    pub without_fault : b ≡ false → (P : Type 0) → P → IfNone (change_fault (d k) (map proc_of ps)) P
    without_fault e P h = subst (λ o. IfNone o P) (sym (fault_is ∙ ap (λ x. cond x (Some StaticFault) None) e)) h

-- The loops.
module _ {C : Type 0} where
  pub blanks_step : (ps : List Proc) (i : ℕ) (p : Proc) (xs ys zs : List (Piece C)) → i < length ps → p ≡ slice_index_or ps i p → ys ≡ with_blank p xs
      → with_blanks (drop i ps) xs ≡ zs → with_blanks (drop (i + 1) ps) ys ≡ zs
  blanks_step ps i p xs ys zs lt at is h =
      ap (with_blanks (drop (i + 1) ps)) is
      ∙ ap (λ r. with_blanks (drop (i + 1) ps) (with_blank r xs)) at
      ∙ sym (at_drop_more (λ l. with_blanks l xs) ps i p lt)
      ∙ h

  pub opens_step : (k : ℕ) (ps : List Proc) (i : ℕ) (p : Proc) (xs ys zs : List (Piece C)) → i < length ps → p ≡ slice_index_or ps i p → ys ≡ changed_in (opened k Dynamic) (proc_of p) xs
      → opened_all k (drop i ps) xs ≡ zs → opened_all k (drop (i + 1) ps) ys ≡ zs
  opens_step k ps i p xs ys zs lt at is h =
      ap (opened_all k (drop (i + 1) ps)) is
      ∙ ap (λ r. opened_all k (drop (i + 1) ps) (changed_in (opened k Dynamic) (proc_of r) xs)) at
      ∙ sym (at_drop_more (λ l. opened_all k l xs) ps i p lt)
      ∙ h

  pub take_blank : (n : ℕ) (p : Proc) (xs zs : List (Piece C)) → n ≡ length zs → take n xs ≡ zs → take n (with_blank p xs) ≡ zs
  take_blank n p xs zs len h = go (find (is_part_of (proc_of p)) xs)
    where
      within : n ≤ length xs
      within = let e = ap length h in let m = length-take n xs in omega (arith, e, m, len)

      go : (o : Option (Piece C)) → take n (option_map_or (λ x. xs) o (xs ++ blank p ∷ [])) ≡ zs
      go None = take-append-le n xs (blank p ∷ []) within ∙ h
      go (Some x) = h

  module _ {K : Type 0} (p : Proc) (xs : List (ProcedureClauses C K)) where
    pub blank_found : (i : ℕ) → IsAt (test (proc_of p)) xs i → map piece xs ≡ with_blank p (map piece xs)
    blank_found i at = sym (ap (λ o. option_map_or (λ x. map piece xs) o (map piece xs ++ blank p ∷ [])) (piece_found (proc_of p) xs i at))

    pub blank_missed : find (test (proc_of p)) xs ≡ None → map piece xs ++ blank p ∷ [] ≡ with_blank p (map piece xs)
    blank_missed e = sym (ap (λ o. option_map_or (λ x. map piece xs) o (map piece xs ++ blank p ∷ [])) (piece_missed (proc_of p) xs e))
