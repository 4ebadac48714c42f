-- What is stored says the same by other texts, as long as each clause does.
use Rattle.std.proofs.Common.{◌≡◌, ◌≤◌, ℕ, ◌+◌, List, [], ◌∷◌, map, refl, sym, ap, ap₂, subst, arith}
use Rattle.std.specs.Prelude.{All}
use Rattle.std.proofs.lemmas.List.Elements.{All-nil, All-cons, All-head, All-tail}
use Rattle.pl_term.specs.Tree.{Tree}
use Rattle.pl_model.specs.History.{Clause}
use Rattle.pl_model.specs.Database as model
use Rattle.gen_core.specs.declared.dated_clause.DatedClause.{DatedClause}
use Rattle.atom_words.specs.declared.view.View.{View}
use Rattle.clause_db.specs.Parts.{Held, Piece}
use Rattle.clause_db.specs.Reading.{EachHeld, SaysFor, read_dated, read_held, read_piece}
use Rattle.clause_db.specs.Stands.{StandsFor}
use Rattle.clause_db.specs.Weights.{weight_in, weight_of}
use Rattle.pl_model.specs.Service.{clause_cells}
use Rattle.world_api.specs.Visits.{clause_in}
use Rattle.counted_terms.specs.CountedTerms.{IsCounted, naming, said}
use Rattle.counted_terms.specs.Keeping.{kept}
use Rattle.counted_terms.specs.Sharing.{Counts, IsWithin}
use Rattle.counted_terms.proofs.Sharing.{part_counted}
use Rattle.hub_database.specs.Clauses.{AllCounted, clause_by}
use Rattle.hub_database.specs.Database.{clause_counts}

-- TWO FUNCTIONS THAT READ EACH CLAUSE THE SAME
module _ {C B : Type 0} (f g : C → B) where
  dated_same : (ds : List (DatedClause C)) → All (λ d. f d.clause ≡ g d.clause) ds → map (read_dated f) ds ≡ map (read_dated g) ds
  dated_same [] a = refl
  dated_same (d ∷ ds) a =
      ap₂ (λ c l. record { place = d.place; clause = c; erased = d.erased } ∷ l) (All-head (λ (d : DatedClause C). f d.clause ≡ g d.clause) d ds a)
      (dated_same ds (All-tail (λ (d : DatedClause C). f d.clause ≡ g d.clause) d ds a))

  pieces_same : (xs : List (Piece C)) → All (λ x. All (λ d. f d.clause ≡ g d.clause) x.clauses) xs → map (read_piece f) xs ≡ map (read_piece g) xs
  pieces_same [] a = refl
  pieces_same (x ∷ xs) a =
      ap₂ (λ ds l. record { name = x.name; access = x.access; since = x.since; lives = x.lives; clauses = ds } ∷ l)
      (dated_same x.clauses (All-head (λ (x : Piece C). All (λ d. f d.clause ≡ g d.clause) x.clauses) x xs a))
      (pieces_same xs (All-tail (λ (x : Piece C). All (λ d. f d.clause ≡ g d.clause) x.clauses) x xs a))

  pub read_same : (h : Held C) → EachHeld (λ c. f c ≡ g c) h → read_held f h ≡ read_held g h
  read_same h a = ap (λ l. record { parts = l; used = h.used; flags = h.flags; operators = h.operators; next = h.next; floor = h.floor }) (pieces_same h.parts a)

le_here : (a b : ℕ) → a ≤ a + b
le_here a b = omega arith

le_there : (a b c : ℕ) → a ≤ c → a ≤ b + c
le_there a b c le = omega arith

le_more : (a b c : ℕ) → a ≤ b → a ≤ b + c
le_more a b c le = omega arith

-- EACH CLAUSE weighs no more than all of them
module _ {C : Type 0} (P : C → Type 0) where
  each_in : (ds : List (DatedClause C)) (ok : (c : C) → ((w : C → ℕ) → w c ≤ weight_in w ds) → P c) → All (λ d. P d.clause) ds
  each_in [] ok = All-nil (λ (d : DatedClause C). P d.clause)
  each_in (d ∷ ds) ok =
      All-cons (λ (d : DatedClause C). P d.clause) d ds (ok d.clause (λ w. le_here (w d.clause) (weight_in w ds)))
      (each_in ds (λ c le. ok c (λ w. le_there (w c) (w d.clause) (weight_in w ds) (le w))))

  each_of : (xs : List (Piece C)) (ok : (c : C) → ((w : C → ℕ) → w c ≤ weight_of w xs) → P c) → All (λ x. All (λ d. P d.clause) x.clauses) xs
  each_of [] ok = All-nil (λ (x : Piece C). All (λ d. P d.clause) x.clauses)
  each_of (x ∷ xs) ok =
      All-cons (λ (x : Piece C). All (λ d. P d.clause) x.clauses) x xs (each_in x.clauses (λ c le. ok c (λ w. le_more (w c) (weight_in w x.clauses) (weight_of w xs) (le w))))
      (each_of xs (λ c le. ok c (λ w. le_there (w c) (weight_in w x.clauses) (weight_of w xs) (le w))))

-- what holds of each clause whose atoms the stored clauses count
pub each_within : (P : Tree → Type 0) (db : Held Tree) → ((t : Tree) → IsWithin t (clause_counts db) → P t) → EachHeld P db
each_within P db ok = each_of P db.parts (λ c le. ok c (λ a. le (naming a)))

pub all_counted : (k : View) (db : Held Tree) (n : ℕ) → Counts (clause_counts db) k n → AllCounted k db
all_counted k db n counts = each_within (λ t. IsCounted t k) db (part_counted (clause_counts db) counts.rest k counts.exact)

-- WHAT IS STORED SAYS THE SAME by the texts of another keeper
pub says_carried : (k l : View) (db : Held Tree) (d : ℕ → model.Database Clause)
    → ((t : Tree) → IsWithin t (clause_counts db) → said (kept l) t ≡ said (kept k) t)
    → SaysFor (clause_by k) db d → SaysFor (clause_by l) db d
says_carried k l db d same says =
    subst (λ (h : Held Clause). StandsFor clause_cells h d) (read_same (clause_by k) (clause_by l) db (each_within (λ t. clause_by k t ≡ clause_by l t) db (λ t within. ap clause_in (sym (same t within))))) says
