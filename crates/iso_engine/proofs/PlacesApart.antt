-- The clauses of the shared state have places of their own.
use Rattle.std.proofs.Common.{◌≡◌, ℕ, zero, suc, ◌<◌, ◌≤◌, Bool, true, false, ◌==◌, ◌&&◌, ◌||◌, List, [], ◌∷◌, ◌++◌, map, take, Some, None, refl, sym, ap, ap₂, subst, ◌∙◌, arith}
use Rattle.std.specs.Prelude.{filter, not, if◌then◌else◌}
use Rattle.std.proofs.lemmas.Bool.{false≢true, ne_eqb}
use Rattle.std.proofs.lemmas.Bool.Decides.{Decides-eqb}
use Rattle.pl_term.specs.Tree.{Tree}
use Rattle.pl_model.specs.Predicates.{is_excluded, proc_of}
use Rattle.pl_model.specs.History.{Proc, Clause, Kind, History, add_first, add_last, erase, abolish, set_dynamic, set_flag, set_op, make_queue, drop_queue, send, start, finish, join}
use Rattle.pl_model.specs.History as entries
use Rattle.pl_model.specs.Database.{Stored, seen, is_of, is_visible, is_at, is_erased, erased_where}
use Rattle.pl_model.specs.SharedState.{SharedState, change, changes, state_at, opening_state}
use Rattle.world_api.specs.Told.{behind, clause_list, has_place}

-- All places are below a number.
abbrev Below : ℕ → List (Stored Clause) → Type 0
Below k [] = Unit {0}
Below k (s ∷ ss) = (s.place < k) × Below k ss

-- No place stands twice.
abbrev Apart : List (Stored Clause) → Type 0
Apart [] = Unit {0}
Apart (s ∷ ss) = (has_place s.place ss ≡ false) × Apart ss

below_more : (k j : ℕ) (ss : List (Stored Clause)) → k ≤ j → Below k ss → Below j ss
below_more k j [] le b = tt
below_more k j (s ∷ ss) le b = (omega (arith, b.0), below_more k j ss le b.1)

not_at : (k : ℕ) (ss : List (Stored Clause)) → Below k ss → has_place k ss ≡ false
not_at k [] b = refl
not_at k (s ∷ ss) b =
    ap (λ q. q || has_place k ss) (ne_eqb s.place k (λ e. let lt : s.place < k = b.0 in omega (arith, lt, e))) ∙ not_at k ss b.1

neither : (a b : Bool) → a ≡ false → b ≡ false → (a || b) ≡ false
neither true b e f = e
neither false b e f = f

first_not : (a b : Bool) → (a || b) ≡ false → a ≡ false
first_not true b e = e
first_not false b e = refl

second_not : (a b : Bool) → (a || b) ≡ false → b ≡ false
second_not true b e = absurd (false≢true (sym e))
second_not false b e = e

has_last : (p : ℕ) (ss : List (Stored Clause)) (s : Stored Clause) → has_place p ss ≡ false → (s.place == p) ≡ false → has_place p (ss ++ s ∷ []) ≡ false
has_last p [] s e f = neither (s.place == p) false f refl
has_last p (u ∷ ss) s e f =
    neither (u.place == p) (has_place p (ss ++ s ∷ [])) (first_not (u.place == p) (has_place p ss) e) (has_last p ss s (second_not (u.place == p) (has_place p ss) e) f)

apart_last : (k : ℕ) (ss : List (Stored Clause)) (s : Stored Clause) → Below k ss → s.place ≡ k → Apart ss → Apart (ss ++ s ∷ [])
apart_last k [] s b at a = (refl, tt)
apart_last k (u ∷ ss) s b at a = (
  has_last u.place ss s a.0 (ne_eqb s.place u.place (λ e. let lt : u.place < k = b.0 in omega (arith, lt, e, at))),
  apart_last k ss s b.1 at a.1,
)

below_last : (k : ℕ) (ss : List (Stored Clause)) (s : Stored Clause) → Below k ss → s.place ≡ k → Below (suc k) (ss ++ s ∷ [])
below_last k [] s b at = (omega (arith, at), tt)
below_last k (u ∷ ss) s b at = (let lt : u.place < k = b.0 in omega (arith, lt), below_last k ss s b.1 at)

-- What changes no place.
module _ (f : Stored Clause → Stored Clause) (keeps : (s : Stored Clause) → (f s).place ≡ s.place) where
  below_map : (k : ℕ) (ss : List (Stored Clause)) → Below k ss → Below k (map f ss)
  below_map k [] b = tt
  below_map k (s ∷ ss) b = (subst (λ p. p < k) (sym (keeps s)) b.0, below_map k ss b.1)

  has_map : (p : ℕ) (ss : List (Stored Clause)) → has_place p (map f ss) ≡ has_place p ss
  has_map p [] = refl
  has_map p (s ∷ ss) = ap₂ (λ a b. (a == p) || b) (keeps s) (has_map p ss)

  apart_map : (ss : List (Stored Clause)) → Apart ss → Apart (map f ss)
  apart_map [] a = tt
  apart_map (s ∷ ss) a = (ap (λ p. has_place p (map f ss)) (keeps s) ∙ has_map s.place ss ∙ a.0, apart_map ss a.1)

erased_place : (w : Bool) (k : ℕ) (s : Stored Clause) → (if w then record s { erased = Some k } else s).place ≡ s.place
erased_place true k s = refl
erased_place false k s = refl

-- The clauses that a test leaves.
module _ (test : Stored Clause → Bool) where
  has_kept : (b : Bool) (p : ℕ) (s : Stored Clause) (ss : List (Stored Clause)) → (s.place == p) ≡ false → has_place p ss ≡ false
      → has_place p (if b then s ∷ ss else ss) ≡ false
  has_kept true p s ss e f = neither (s.place == p) (has_place p ss) e f
  has_kept false p s ss e f = f

  has_filter : (p : ℕ) (ss : List (Stored Clause)) → has_place p ss ≡ false → has_place p (filter test ss) ≡ false
  has_filter p [] e = refl
  has_filter p (s ∷ ss) e =
      has_kept (test s) p s (filter test ss) (first_not (s.place == p) (has_place p ss) e) (has_filter p ss (second_not (s.place == p) (has_place p ss) e))

  apart_kept : (b : Bool) (s : Stored Clause) (ss : List (Stored Clause)) → has_place s.place ss ≡ false → Apart ss → Apart (if b then s ∷ ss else ss)
  apart_kept true s ss e a = (e, a)
  apart_kept false s ss e a = a

  apart_filter : (ss : List (Stored Clause)) → Apart ss → Apart (filter test ss)
  apart_filter [] a = tt
  apart_filter (s ∷ ss) a = apart_kept (test s) s (filter test ss) (has_filter s.place ss a.0) (apart_filter ss a.1)

-- So many updates were made, and each clause has the place of one of them, which is its own.
record IsFine (k : ℕ) (s : SharedState) : Type 0 where
  below : Below k s.database.clauses
  apart : Apart s.database.clauses

fine_changed : (k e : ℕ) (x : Kind) (s : SharedState) → IsFine k s → IsFine (suc k) (change k e x s)
fine_changed k e (add_first q c o) s f =
    record {
      below = (omega arith, below_more k (suc k) s.database.clauses (omega arith) f.below);
      apart = (not_at k s.database.clauses f.below, f.apart);
    }
fine_changed k e (add_last q c o) s f =
    let new : Stored Clause = record { place = k; procedure = q; clause = c; erased = None } in
    record {
      below = below_last k s.database.clauses new f.below refl;
      apart = apart_last k s.database.clauses new f.below refl f.apart;
    }
fine_changed k e (erase j) s f =
    record {
      below = below_map (erased_where (is_at j) k) (λ u. erased_place (is_at j u && not (is_erased u)) k u) (suc k) s.database.clauses (below_more k (suc k) s.database.clauses (omega arith) f.below);
      apart = apart_map (erased_where (is_at j) k) (λ u. erased_place (is_at j u && not (is_erased u)) k u) s.database.clauses f.apart;
    }
fine_changed k e (abolish q) s f =
    record {
      below = below_map (erased_where (is_of q) k) (λ u. erased_place (is_of q u && not (is_erased u)) k u) (suc k) s.database.clauses (below_more k (suc k) s.database.clauses (omega arith) f.below);
      apart = apart_map (erased_where (is_of q) k) (λ u. erased_place (is_of q u && not (is_erased u)) k u) s.database.clauses f.apart;
    }
fine_changed k e (set_dynamic ps) s f = record { below = below_more k (suc k) s.database.clauses (omega arith) f.below; apart = f.apart }
fine_changed k e (set_flag g v) s f = record { below = below_more k (suc k) s.database.clauses (omega arith) f.below; apart = f.apart }
fine_changed k e (set_op os) s f = record { below = below_more k (suc k) s.database.clauses (omega arith) f.below; apart = f.apart }
fine_changed k e (make_queue n a) s f = record { below = below_more k (suc k) s.database.clauses (omega arith) f.below; apart = f.apart }
fine_changed k e (drop_queue n) s f = record { below = below_more k (suc k) s.database.clauses (omega arith) f.below; apart = f.apart }
fine_changed k e (send n t) s f = record { below = below_more k (suc k) s.database.clauses (omega arith) f.below; apart = f.apart }
fine_changed k e (entries.take j) s f = record { below = below_more k (suc k) s.database.clauses (omega arith) f.below; apart = f.apart }
fine_changed k e (start n t a) s f = record { below = below_more k (suc k) s.database.clauses (omega arith) f.below; apart = f.apart }
fine_changed k e (finish how steps) s f = record { below = below_more k (suc k) s.database.clauses (omega arith) f.below; apart = f.apart }
fine_changed k e (join n) s f = record { below = below_more k (suc k) s.database.clauses (omega arith) f.below; apart = f.apart }

apart_changes : (k : ℕ) (xs : History) (s : SharedState) → IsFine k s → Apart (changes k xs s).database.clauses
apart_changes k [] s f = f.apart
apart_changes k (x ∷ xs) s f = apart_changes (suc k) xs (change k x.engine x.kind s) (fine_changed k x.engine x.kind s f)

apart_at : (goals : ℕ) (h : History) (g : ℕ) → Apart (state_at goals h g).database.clauses
unfolding state_at
apart_at goals h g = apart_changes zero (take g h) (opening_state goals) (record { below = tt; apart = tt })

listed_apart : (goals : ℕ) (h : History) (g : ℕ) (goal : Tree) → Apart (clause_list goals h g goal)
listed_apart goals h g goal =
    apart_filter (λ s. not (is_excluded goal s.clause.head)) (seen g (proc_of goal) (state_at goals h g).database)
    (apart_filter (λ s. is_of (proc_of goal) s && is_visible g s) (state_at goals h g).database.clauses (apart_at goals h g))

-- What is left after a clause that was left after another

itself : (p : ℕ) → (p == p) ≡ true
itself p = (Decides-eqb p p).1 refl

other_way : (p q : ℕ) → (p == q) ≡ false → (q == p) ≡ false
other_way p q e = ne_eqb q p (λ s. false≢true (sym e ∙ (Decides-eqb p q).1 (sym s)))

either : (a b : Bool) → b ≡ true → (a || b) ≡ true
either true b e = refl
either false b e = e

pub first_among : (c : Stored Clause) (cs ss : List (Stored Clause)) → ss ≡ c ∷ cs → has_place c.place ss ≡ true
first_among c cs [] e = absurd (cc)
first_among c cs (s ∷ ss) e = ap (λ (l : List (Stored Clause)). has_place c.place l) e ∙ ap (λ q. q || has_place c.place cs) (itself c.place)

among_by : (b : Bool) (p : ℕ) (c s : Stored Clause) (cs ss : List (Stored Clause)) → (behind p ss ≡ c ∷ cs → has_place c.place ss ≡ true)
    → (elim b [ true ↦ ss | false ↦ behind p ss ]) ≡ c ∷ cs → has_place c.place (s ∷ ss) ≡ true
among_by true p c s cs ss ih e = either (s.place == c.place) (has_place c.place ss) (first_among c cs ss e)
among_by false p c s cs ss ih e = either (s.place == c.place) (has_place c.place ss) (ih e)

pub behind_among : (p : ℕ) (c : Stored Clause) (cs ss : List (Stored Clause)) → behind p ss ≡ c ∷ cs → has_place c.place ss ≡ true
behind_among p c cs [] e = absurd (cc)
behind_among p c cs (s ∷ ss) e = among_by (s.place == p) p c s cs ss (λ f. behind_among p c cs ss f) e

pub behind_first : (c : Stored Clause) (cs ss : List (Stored Clause)) → ss ≡ c ∷ cs → behind c.place ss ≡ cs
behind_first c cs [] e = absurd (cc)
behind_first c cs (s ∷ ss) e =
    ap (behind c.place) e ∙ ap (λ b. elim b as (λ _. List (Stored Clause)) [ true ↦ cs | false ↦ behind c.place cs ]) (itself c.place)

unlike : (s c : Stored Clause) (ss : List (Stored Clause)) → has_place s.place ss ≡ false → has_place c.place ss ≡ true → (s.place == c.place) ≡ false
unlike s c ss e f =
    ne_eqb s.place c.place (λ same. false≢true (sym e ∙ ap (λ p. has_place p ss) same ∙ f))

skipped : (c s : Stored Clause) (ss : List (Stored Clause)) → has_place s.place ss ≡ false → has_place c.place ss ≡ true
    → behind c.place (s ∷ ss) ≡ behind c.place ss
skipped c s ss e h = ap (λ b. elim b as (λ _. List (Stored Clause)) [ true ↦ ss | false ↦ behind c.place ss ]) (unlike s c ss e h)

next_by : (b : Bool) (p : ℕ) (c s : Stored Clause) (cs ss : List (Stored Clause)) → has_place s.place ss ≡ false
    → (behind p ss ≡ c ∷ cs → behind c.place ss ≡ cs)
    → (elim b [ true ↦ ss | false ↦ behind p ss ]) ≡ c ∷ cs → behind c.place (s ∷ ss) ≡ cs
next_by true p c s cs ss a ih e = skipped c s ss a (first_among c cs ss e) ∙ behind_first c cs ss e
next_by false p c s cs ss a ih e = skipped c s ss a (behind_among p c cs ss e) ∙ ih e

behind_next : (p : ℕ) (c : Stored Clause) (cs ss : List (Stored Clause)) → Apart ss → behind p ss ≡ c ∷ cs → behind c.place ss ≡ cs
behind_next p c cs [] a e = absurd (cc)
behind_next p c cs (s ∷ ss) a e = next_by (s.place == p) p c s cs ss a.0 (λ f. behind_next p c cs ss a.1 f) e

pub left_behind : (goals : ℕ) (h : History) (g : ℕ) (goal : Tree) (p : ℕ) (c : Stored Clause) (cs : List (Stored Clause))
    → behind p (clause_list goals h g goal) ≡ c ∷ cs → behind c.place (clause_list goals h g goal) ≡ cs
left_behind goals h g goal p c cs e = behind_next p c cs (clause_list goals h g goal) (listed_apart goals h g goal) e
