-- What the database stands for: the clause database of the definitions, of which clauses that no generation from the
-- floor on sees may be left out.
use Rattle.std.specs.Prelude.{◌≡◌, ℕ, ◌<◌, ◌≤◌, List, [], ◌∷◌, map, filter, find, length, Option, Some, None, Bool, false, not, nat_lt, nat_le, All, if◌then◌else◌}
use Rattle.std.specs.Option.{option_map, option_map_or}
use Rattle.pl_model.specs.History.{Proc}
use Rattle.pl_model.specs.Predicates.{same_proc}
use Rattle.pl_model.specs.Database as database
use Rattle.pl_model.specs.Database.{Database, Procedure, Stored, is_of, is_at, seen, named_clauses, used_cells}
use Rattle.gen_core.specs.declared.dated_clause.DatedClause.{DatedClause}
use Rattle.gen_core.specs.Visible.{has_any}
use Rattle.clause_db.specs.Access.{access_of}
use Rattle.clause_db.specs.Parts.{Held, Piece, clauses_at, access_now, access_at}

abbrev pub dated : {C : Type 0} → Stored C → DatedClause C
dated s = record { place = s.place; clause = s.clause; erased = s.erased }

-- Whether one of the first updates, as many as `from` says, erased the clause.
abbrev pub is_gone : {C : Type 0} → ℕ → Stored C → Bool
is_gone from s = option_map_or (λ k. nat_lt k from) s.erased false

-- How a procedure of the program may be used by the definitions.
abbrev pub program_access : {C : Type 0} → Database C → Proc → Option database.Access
program_access d p = option_map (λ (q : Procedure). q.access) (find (λ (q : Procedure). same_proc q.indicator p) d.procedures)

-- All clauses of the procedure are kept, but for those that were erased below a generation at or below the floor.
pub record Keeps {C : Type 0} (floor : ℕ) (p : Proc) (d : Database C) (kept : List (DatedClause C)) : Type 0 where
  pub from : ℕ
  pub low : from ≤ floor
  pub are : kept ≡ map dated (filter (λ s. not (is_gone from s)) (filter (is_of p) d.clauses))

-- What is held is the database as it stands.
pub record StandsNow {C : Type 0} (need : C → ℕ) (h : Held C) (d : Database C) : Type 0 where
  pub access : (p : Proc) → option_map access_of (access_now h.parts p) ≡ program_access d p
  pub clauses : (p : Proc) → Keeps h.floor p d (clauses_at h.parts p)
  pub used : h.used ≡ used_cells need d
  pub before : All (λ s. s.place < h.next) d.clauses
  pub once : (j : ℕ) → length (filter (is_at j) d.clauses) ≤ 1

-- The procedure was made by an update at a place below, and so it was abolished, where it was.
abbrev pub LivedBelow : {C : Type 0} → ℕ → Piece C → Type 0
LivedBelow n x = (x.since < n) × All (λ l. l.until < n) x.lives

-- What is held stands for the databases of all generations, of which `d g` is that of the generation `g`: from the floor
-- on, each finds its procedures and its clauses.
pub record StandsFor {C : Type 0} (need : C → ℕ) (h : Held C) (d : ℕ → Database C) : Type 0 where
  pub newest : StandsNow need h (d h.next)
  pub low : h.floor ≤ h.next
  pub rests : (g : ℕ) → h.next ≤ g → d g ≡ d h.next
  pub access : (g : ℕ) → h.floor ≤ g → (p : Proc) → option_map access_of (access_at g h.parts p) ≡ program_access (d g) p
  pub views : (g : ℕ) → h.floor ≤ g → (p : Proc) → named_clauses (seen g p (d g)) ≡ named_clauses (seen g p (d h.next))
  pub lived : All (LivedBelow h.next) h.parts

-- The databases, where the update at the place changes the last of them.
abbrev pub then_at : {C : Type 0} → ℕ → (Database C → Database C) → (ℕ → Database C) → ℕ → Database C
then_at k change d g = if nat_le g k then d g else change (d k)

-- The first of these clauses, with the place that names it and whether more follow.
abbrev pub first_named : {C : Type 0} → List (Stored C) → Option (ℕ × C × Bool)
first_named [] = None
first_named (s ∷ ss) = Some (s.place, s.clause, has_any ss)

-- The clauses after that which was added at the place.
abbrev pub after : {C : Type 0} → ℕ → List (Stored C) → List (Stored C)
after j [] = []
after j (s ∷ ss) = if is_at j s then ss else after j ss
