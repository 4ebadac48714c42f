-- What is read of the database after a change is the change of what was read.
use Rattle.std.proofs.Common.{◌≡◌, ◌+◌, ◌-◌, ℕ, zero, suc, List, [], ◌∷◌, ◌++◌, find, filter, map, Option, Some, None, Bool, true, false, cond, not, ◌&&◌, ◌||◌, refl, ap, ap₂, sym, ◌∙◌}
use Rattle.std.specs.Prelude.{◌==◌, ◌^◌, nat_lt, All}
use Rattle.std.specs.List.{list_any, slice_get}
use Rattle.std.specs.Option.{option_map, option_map_or, option_and_then}
use Rattle.std.specs.BTreeMap.{BTreeMap}
use Rattle.std.proofs.lemmas.List.{map-append}
use Rattle.std.proofs.lemmas.List.Sums.{sum_by-cons}
use Rattle.std.proofs.lemmas.List.Elements.{All-head, All-tail, All-nil, All-cons}
use Rattle.pl_model.specs.History as entries
use Rattle.pl_model.specs.Database.{is_system, put_among}
use Rattle.pl_model.specs.laws.Shown.{proc_of}
use Rattle.pl_model.specs.declared.shows.Proc.{Proc}
use Rattle.pl_model.specs.declared.shows.Origin.{Origin}
use Rattle.pl_model.specs.declared.shows.Origin.TheVariants.{Consult, Assert}
use Rattle.gen_core.specs.declared.dated_clause.DatedClause.{DatedClause}
use Rattle.gen_core.specs.Visible.{is_live, fresh, erased_by, erased_all, live_size, is_visible, behind, first_choice, has_any}
use Rattle.clause_db.specs.declared.access.Access.TheVariants.{Static, Dynamic}
use Rattle.clause_db.specs.declared.fault.DbFault.TheVariants.{Static as StaticFault, CellsFull}
use Rattle.clause_db.specs.declared.db.Home.{Home}
use Rattle.clause_db.specs.declared.parts.Addition.{Addition}
use Rattle.clause_db.specs.declared.parts.End.{End}
use Rattle.clause_db.specs.declared.parts.End.TheVariants.{First, Last}
use Rattle.clause_db.specs.Parts.{Held, Piece, blank, is_part_of, clauses_at, piece_access, access_at, held_access, placed, opened, changed_in, added_to, with_clause, with_added, has_live, without_at, erased_held}
use Rattle.clause_db.specs.Access.{access_by}
use Rattle.clause_db.specs.Faults.{held_addition_fault, is_held_closed, is_static_access}
use Rattle.clause_db.specs.Dynamic.{with_blank, with_blanks, opened_all, dynamic_held}
use Rattle.clause_db.specs.Abolished.{closed, live_cells, abolished_held}
use Rattle.clause_db.specs.Listed.{has_visible, listed_from}
use Rattle.clause_db.specs.Sound.{Homed, names}
use Rattle.clause_db.specs.Reading.{read_dated, read_piece, read_held, read_hit}
use Rattle.clause_db.proofs.Homes.{IsHome}
use Rattle.clause_db.proofs.Searched.{find_map}

module _ {C B : Type 0} (f : C → B) where
  abbrev rd : DatedClause C → DatedClause B
  rd = read_dated f

  abbrev rp : Piece C → Piece B
  rp = read_piece f

  pub names_read : (xs : List (Piece C)) → names (map rp xs) ≡ names xs
  names_read [] = refl
  names_read (x ∷ xs) = ap (λ l. proc_of x.name ∷ l) (names_read xs)

  find_read : (p : entries.Proc) (xs : List (Piece C)) → find (is_part_of p) (map rp xs) ≡ option_map rp (find (is_part_of p) xs)
  find_read p xs = find_map rp (is_part_of p) xs

  pub clauses_read : (p : entries.Proc) (xs : List (Piece C)) → clauses_at (map rp xs) p ≡ map rd (clauses_at xs p)
  clauses_read p xs = ap (λ o. option_map_or (λ (x : Piece B). x.clauses) o []) (find_read p xs) ∙ go (find (is_part_of p) xs)
    where
      go : (o : Option (Piece C)) → option_map_or (λ (x : Piece B). x.clauses) (option_map rp o) [] ≡ map rd (option_map_or (λ (x : Piece C). x.clauses) o [])
      go None = refl
      go (Some x) = refl

  pub access_read : (g : ℕ) (p : entries.Proc) (xs : List (Piece C)) → access_at g (map rp xs) p ≡ access_at g xs p
  access_read g p xs = ap (λ o. option_and_then (λ (x : Piece B). piece_access g x) o) (find_read p xs) ∙ go (find (is_part_of p) xs)
    where
      go : (o : Option (Piece C)) → option_and_then (λ (x : Piece B). piece_access g x) (option_map rp o) ≡ option_and_then (λ (x : Piece C). piece_access g x) o
      go None = refl
      go (Some x) = refl

  pub held_access_read : (g : ℕ) (h : Held C) (p : entries.Proc) → held_access g (read_held f h) p ≡ held_access g h p
  held_access_read g h p = ap (λ a. cond (is_system p) (Some Static) a) (access_read g p h.parts)

  closed_read : (g : ℕ) (h : Held C) (p : entries.Proc) (o : Origin) → is_held_closed g (read_held f h) p o ≡ is_held_closed g h p o
  closed_read g h p Consult = refl
  closed_read g h p Assert = ap is_static_access (held_access_read g h p)

  pub addition_fault_read : (g : ℕ) (h : Held C) (p : entries.Proc) (o : Origin) (n : ℕ) → held_addition_fault g (read_held f h) p o n ≡ held_addition_fault g h p o n
  addition_fault_read g h p o n = ap (λ b. cond b (Some StaticFault) (cond (nat_lt (h.used + n) (2 ^ 40)) None (Some (CellsFull h.used n)))) (closed_read g h p o)

  pub statics_read : (g : ℕ) (h : Held C) (ps : List Proc) → list_any (λ p. is_static_access (held_access g (read_held f h) (proc_of p))) ps ≡ list_any (λ p. is_static_access (held_access g h (proc_of p))) ps
  statics_read g h [] = refl
  statics_read g h (p ∷ ps) = ap₂ (λ b c. b || c) (ap is_static_access (held_access_read g h (proc_of p))) (statics_read g h ps)

  -- ADDITIONS
  placed_read : (e : End) (d : DatedClause C) (ds : List (DatedClause C)) → map rd (placed e d ds) ≡ placed e (rd d) (map rd ds)
  placed_read First d ds = refl
  placed_read Last d ds = map-append rd ds (d ∷ [])

  added_to_read : (a : Addition) (c : C) (x : Piece C) → rp (added_to a c x) ≡ added_to a (f c) (rp x)
  added_to_read a c x = ap (λ l. record (opened a.place (access_by a.origin) (rp x)) { clauses = l }) (placed_read a.end (fresh a.place c) x.clauses)

  with_clause_read : (a : Addition) (p : Proc) (c : C) (xs : List (Piece C)) → map rp (with_clause a p c xs) ≡ with_clause a p (f c) (map rp xs)
  with_clause_read a p c [] = ap (λ x. x ∷ []) (added_to_read a c (blank p))
  with_clause_read a p c (x ∷ xs) = go (is_part_of (proc_of p) x) (with_clause_read a p c xs)
    where
      go : (b : Bool) → map rp (with_clause a p c xs) ≡ with_clause a p (f c) (map rp xs)
          → map rp (cond b (added_to a c x ∷ xs) (x ∷ with_clause a p c xs)) ≡ cond b (added_to a (f c) (rp x) ∷ map rp xs) (rp x ∷ with_clause a p (f c) (map rp xs))
      go true ih = ap (λ y. y ∷ map rp xs) (added_to_read a c x)
      go false ih = ap (λ l. rp x ∷ l) ih

  pub added_read : (a : Addition) (p : Proc) (c : C) (n : ℕ) (h : Held C) → read_held f (with_added a p c n h) ≡ with_added a p (f c) n (read_held f h)
  added_read a p c n h = ap (λ l. record (read_held f h) { parts = l; used = h.used + n; next = a.place + 1 }) (with_clause_read a p c h.parts)

  -- ERASURES
  erased_by_read : (j k : ℕ) (d : DatedClause C) → rd (erased_by j k d) ≡ erased_by j k (rd d)
  erased_by_read j k d = go ((d.place == j) && is_live d)
    where
      go : (b : Bool) → rd (cond b (record d { erased = Some k }) d) ≡ cond b (record (rd d) { erased = Some k }) (rd d)
      go true = refl
      go false = refl

  all_erased_by_read : (j k : ℕ) (ds : List (DatedClause C)) → map rd (map (erased_by j k) ds) ≡ map (erased_by j k) (map rd ds)
  all_erased_by_read j k [] = refl
  all_erased_by_read j k (d ∷ ds) = ap₂ (λ x l. x ∷ l) (erased_by_read j k d) (all_erased_by_read j k ds)

  without_at_read : (i j k : ℕ) (xs : List (Piece C)) → map rp (without_at i j k xs) ≡ without_at i j k (map rp xs)
  without_at_read i j k [] = refl
  without_at_read zero j k (x ∷ xs) = ap (λ l. record (rp x) { clauses = l } ∷ map rp xs) (all_erased_by_read j k x.clauses)
  without_at_read (suc i) j k (x ∷ xs) = ap (λ l. rp x ∷ l) (without_at_read i j k xs)

  pub erased_read : (i j k n : ℕ) (h : Held C) → read_held f (erased_held i j k n h) ≡ erased_held i j k n (read_held f h)
  erased_read i j k n h = ap (λ l. record (read_held f h) { parts = l; used = h.used - n; next = k + 1 }) (without_at_read i j k h.parts)

  live_read : (j : ℕ) (ds : List (DatedClause C)) → has_live j (map rd ds) ≡ has_live j ds
  live_read j [] = refl
  live_read j (d ∷ ds) = ap (λ b. ((d.place == j) && is_live d) || b) (live_read j ds)

  pub get_read : (i : ℕ) (xs : List (Piece C)) → slice_get (map rp xs) i ≡ option_map rp (slice_get xs i)
  get_read i [] = refl
  get_read zero (x ∷ xs) = refl
  get_read (suc i) (x ∷ xs) = get_read i xs

  pub any_live_read : (i j : ℕ) (xs : List (Piece C)) → option_map_or (λ (x : Piece B). has_live j x.clauses) (slice_get (map rp xs) i) false ≡ option_map_or (λ (x : Piece C). has_live j x.clauses) (slice_get xs i) false
  any_live_read i j xs = ap (λ o. option_map_or (λ (x : Piece B). has_live j x.clauses) o false) (get_read i xs) ∙ go (slice_get xs i)
    where
      go : (o : Option (Piece C)) → option_map_or (λ (x : Piece B). has_live j x.clauses) (option_map rp o) false ≡ option_map_or (λ (x : Piece C). has_live j x.clauses) o false
      go None = refl
      go (Some x) = live_read j x.clauses

  -- PROCEDURES THAT ARE ABOLISHED OR MADE DYNAMIC
  erased_all_read : (k : ℕ) (ds : List (DatedClause C)) → map rd (map (erased_all k) ds) ≡ map (erased_all k) (map rd ds)
  erased_all_read k [] = refl
  erased_all_read k (d ∷ ds) = ap₂ (λ x l. x ∷ l) (go (is_live d)) (erased_all_read k ds)
    where
      go : (b : Bool) → rd (cond b (record d { erased = Some k }) d) ≡ cond b (record (rd d) { erased = Some k }) (rd d)
      go true = refl
      go false = refl

  module _ (c : Piece C → Piece C) (b : Piece B → Piece B) (same : (x : Piece C) → rp (c x) ≡ b (rp x)) where
    changed_read : (p : entries.Proc) (xs : List (Piece C)) → map rp (changed_in c p xs) ≡ changed_in b p (map rp xs)
    changed_read p [] = refl
    changed_read p (x ∷ xs) = go (is_part_of p x) (changed_read p xs)
      where
        go : (t : Bool) → map rp (changed_in c p xs) ≡ changed_in b p (map rp xs) → map rp (cond t (c x ∷ xs) (x ∷ changed_in c p xs)) ≡ cond t (b (rp x) ∷ map rp xs) (rp x ∷ changed_in b p (map rp xs))
        go true ih = ap (λ y. y ∷ map rp xs) (same x)
        go false ih = ap (λ l. rp x ∷ l) ih

  close_read : (k : ℕ) (x : Piece C) → rp (closed k x) ≡ closed k (rp x)
  close_read k x = ap (λ l. record (closed k (rp x)) { clauses = l }) (erased_all_read k x.clauses)

  module _ (need : C → ℕ) (cost : B → ℕ) (costs : (c : C) → need c ≡ cost (f c)) where
    live_size_read : (d : DatedClause C) → live_size cost (rd d) ≡ live_size need d
    live_size_read d = ap (λ n. cond (is_live d) n 0) (sym (costs d.clause))

    live_cells_read : (ds : List (DatedClause C)) → live_cells cost (map rd ds) ≡ live_cells need ds
    live_cells_read [] = refl
    live_cells_read (d ∷ ds) = sum_by-cons (live_size cost) (rd d) (map rd ds) ∙ ap₂ (λ m n. m + n) (live_size_read d) (live_cells_read ds) ∙ sym (sum_by-cons (live_size need) d ds)

    pub abolished_read : (k : ℕ) (p : entries.Proc) (h : Held C) → read_held f (abolished_held need k p h) ≡ abolished_held cost k p (read_held f h)
    abolished_read k p h = ap₂ (λ l n. record (read_held f h) { parts = l; used = h.used - n; next = k + 1 }) (changed_read (closed k) (closed k) (close_read k) p h.parts)
        (sym (ap (live_cells cost) (clauses_read p h.parts) ∙ live_cells_read (clauses_at h.parts p)))

    pub homed_read : (homes : BTreeMap ℕ Home) (n : ℕ) (xs : List (Piece C)) → Homed need homes n xs → Homed cost homes n (map rp xs)
    homed_read homes n [] h = tt
    homed_read homes n (x ∷ xs) h = (go x.clauses h.0, homed_read homes (suc n) xs h.1)
      where
        go : (ds : List (DatedClause C)) → All (IsHome need homes n) ds → All (IsHome cost homes n) (map rd ds)
        go [] a = All-nil (IsHome cost homes n)
        go (d ∷ ds) a = All-cons (IsHome cost homes n) (rd d) (map rd ds) (All-head (IsHome need homes n) d ds a ∙ ap (λ m. Some (record { part = n; cells = m })) (costs d.clause)) (go ds (All-tail (IsHome need homes n) d ds a))

  blank_read : (p : Proc) (xs : List (Piece C)) → map rp (with_blank p xs) ≡ with_blank p (map rp xs)
  blank_read p xs = go (find (is_part_of (proc_of p)) xs) ∙ sym (ap (λ o. option_map_or (λ (x : Piece B). map rp xs) o (map rp xs ++ blank p ∷ [])) (find_read (proc_of p) xs))
    where
      go : (o : Option (Piece C)) → map rp (option_map_or (λ (x : Piece C). xs) o (xs ++ blank p ∷ [])) ≡ option_map_or (λ (x : Piece B). map rp xs) (option_map rp o) (map rp xs ++ blank p ∷ [])
      go None = map-append rp xs (blank p ∷ [])
      go (Some x) = refl

  blanks_read : (ps : List Proc) (xs : List (Piece C)) → map rp (with_blanks ps xs) ≡ with_blanks ps (map rp xs)
  blanks_read [] xs = refl
  blanks_read (p ∷ ps) xs = blanks_read ps (with_blank p xs) ∙ ap (with_blanks ps) (blank_read p xs)

  opened_read : (k : ℕ) (ps : List Proc) (xs : List (Piece C)) → map rp (opened_all k ps xs) ≡ opened_all k ps (map rp xs)
  opened_read k [] xs = refl
  opened_read k (p ∷ ps) xs = opened_read k ps (changed_in (opened k Dynamic) (proc_of p) xs) ∙ ap (opened_all k ps) (changed_read (opened k Dynamic) (opened k Dynamic) (λ x. refl) (proc_of p) xs)

  pub dynamic_read : (k : ℕ) (ps : List Proc) (h : Held C) → read_held f (dynamic_held k ps h) ≡ dynamic_held k ps (read_held f h)
  dynamic_read k ps h = ap (λ l. record (read_held f h) { parts = l; next = k + 1 }) (opened_read k ps (with_blanks ps h.parts) ∙ ap (opened_all k ps) (blanks_read ps h.parts))

  -- CALLS
  visible_read : (g : ℕ) (ds : List (DatedClause C)) → list_any (is_visible g) (map rd ds) ≡ list_any (is_visible g) ds
  visible_read g [] = refl
  visible_read g (d ∷ ds) = ap (λ b. is_visible g d || b) (visible_read g ds)

  pub listed_read : (g : ℕ) (ps : List entries.Proc) (xs : List (Piece C)) → listed_from g ps (map rp xs) ≡ listed_from g ps xs
  listed_read g ps [] = refl
  listed_read g ps (x ∷ xs) = ap (λ b. listed_from g (cond b (put_among (proc_of x.name) ps) ps) (map rp xs)) (visible_read g x.clauses) ∙ listed_read g (cond (has_visible g x) (put_among (proc_of x.name) ps) ps) xs

  any_read : {X Y : Type 0} (h : X → Y) (xs : List X) → has_any (map h xs) ≡ has_any xs
  any_read h [] = refl
  any_read h (x ∷ xs) = refl

  pub first_read : (ds : List (DatedClause C)) → first_choice (map rd ds) ≡ read_hit f (first_choice ds)
  first_read [] = refl
  first_read (d ∷ ds) = ap (λ b. Some (d.place, f d.clause, b)) (any_read rd ds)

  pub behind_read : (o : Option ℕ) (ds : List (DatedClause C)) → behind o (map rd ds) ≡ map rd (behind o ds)
  behind_read None ds = refl
  behind_read (Some j) [] = refl
  behind_read (Some j) (d ∷ ds) = go (d.place == j) (behind_read (Some j) ds)
    where
      go : (b : Bool) → behind (Some j) (map rd ds) ≡ map rd (behind (Some j) ds) → cond b (map rd ds) (behind (Some j) (map rd ds)) ≡ map rd (cond b ds (behind (Some j) ds))
      go true ih = refl
      go false ih = ih

  module _ (t : C → Bool) (u : B → Bool) (g : ℕ) where
    pub tried_read : (ds : List (DatedClause C)) → All (λ d. t d.clause ≡ u (f d.clause)) ds
        → filter (λ x. is_visible g x && not (u x.clause)) (map rd ds) ≡ map rd (filter (λ x. is_visible g x && not (t x.clause)) ds)
    tried_read [] a = refl
    tried_read (d ∷ ds) a = ap (λ b. cond (is_visible g d && not b) (rd d ∷ filter (λ x. is_visible g x && not (u x.clause)) (map rd ds)) (filter (λ x. is_visible g x && not (u x.clause)) (map rd ds))) (sym (All-head (λ (e : DatedClause C). t e.clause ≡ u (f e.clause)) d ds a))
        ∙ go (is_visible g d && not (t d.clause)) (tried_read ds (All-tail (λ (e : DatedClause C). t e.clause ≡ u (f e.clause)) d ds a))
      where
        go : (b : Bool) → filter (λ x. is_visible g x && not (u x.clause)) (map rd ds) ≡ map rd (filter (λ x. is_visible g x && not (t x.clause)) ds)
            → cond b (rd d ∷ filter (λ x. is_visible g x && not (u x.clause)) (map rd ds)) (filter (λ x. is_visible g x && not (u x.clause)) (map rd ds)) ≡ map rd (cond b (d ∷ filter (λ x. is_visible g x && not (t x.clause)) ds) (filter (λ x. is_visible g x && not (t x.clause)) ds))
        go true ih = ap (λ l. rd d ∷ l) ih
        go false ih = ih
