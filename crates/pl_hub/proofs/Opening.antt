-- The state at the start.
use Rattle.std.proofs.Common.{◌≡◌, ◌≤◌, ◌==◌, ℕ, zero, suc, ◌+◌, List, [], ◌∷◌, Bool, true, false, Option, refl, sym, ap, subst, ◌∙◌, arith, eqb-true, ne_eqb}
use Rattle.std.specs.Prelude.{◌||◌, if◌then◌else◌}
use Rattle.std.specs.List.{Contains}
use Rattle.std.proofs.Math.Path.{fun_ext}
use Rattle.atomic_table.specs.Seated.{TableId}
use Rattle.pl_term.specs.Tree.{Tree}
use Rattle.pl_model.specs.Database as model
use Rattle.pl_model.specs.Database.{opening_database}
use Rattle.pl_model.specs.Flags.{opening_flags}
use Rattle.pl_model.specs.OperatorTable.{opening_table}
use Rattle.pl_model.specs.History.{Clause}
use Rattle.pl_model.specs.SharedState.{state_at}
use Rattle.pl_model.specs.Threads.{opening_count}
use Rattle.atom_words.specs.declared.size.Size.{Size}
use Rattle.atom_words.specs.declared.view.View.{View}
use Rattle.atom_table.specs.declared.seats.Keeper.{Keeper}
use Rattle.clause_db.specs.Parts.{Held as HeldClauses}
use Rattle.clause_db.specs.Reading.{SaysFor}
use Rattle.clause_db.specs.Weights.{weight}
use Rattle.hub_threads.specs.Distinct.{has_number}
use Rattle.hub_threads.specs.Held.{Held as HeldThreads, opening_held}
use Rattle.hub_threads.specs.Weights.{IsBelow, weigh}
use Rattle.counted_terms.specs.CountedTerms.{naming}
use Rattle.counted_terms.specs.Keeping.{KeeperAt, keeper_view, tally}
use Rattle.hub_database.specs.Clauses.{clause_by}
use Rattle.hub_database.specs.Database.{AllOpen, IsDatabase, databases}
use Rattle.hub_threads.specs.Threads.{IsThreads}
use Rattle.pl_hub.specs.Called.{Called}
use Rattle.pl_hub.specs.Fronts.{is_begun}
use Rattle.pl_hub.specs.State.{IsShared}

-- THE DATABASE
opening_at : (goals g : ℕ) → databases goals [] g ≡ opening_database
unfolding state_at
opening_at goals zero = refl
opening_at goals (suc g) = refl

opens : (goals : ℕ) → databases goals [] ≡ (λ g. opening_database)
opens goals = fun_ext (opening_at goals)

flags_open : (goals : ℕ) → (state_at goals [] 0).flags ≡ opening_flags
unfolding state_at
flags_open goals = refl

operators_open : (goals : ℕ) → (state_at goals [] 0).operators ≡ opening_table
unfolding state_at
operators_open goals = refl

database_opens : (k : View) (db : HeldClauses Tree) (goals : ℕ)
    → SaysFor (clause_by k) db (λ g. opening_database)
    → db.flags ≡ opening_flags → db.operators ≡ opening_table
    → IsDatabase k db goals []
database_opens k db goals says flags operators = record {
  says = subst (SaysFor (clause_by k) db) (sym (opens goals)) says;
  flags = flags ∙ sym (flags_open goals);
  operators = operators ∙ sym (operators_open goals);
  open_only = λ g. subst (λ (d : model.Database Clause). AllOpen d.clauses) (sym (opening_at goals g)) tt;
}

-- QUEUES AND THREADS
same_test : (b c : Bool) (e : ℕ) → (e == 1) ≡ b → (1 == e) ≡ c → b ≡ ((c || false) || false)
same_test true true e is also = refl
same_test true false e is also = let one : e ≡ 1 = eqb-true e 1 is in let t : (1 == e) ≡ true = ap (λ n. 1 == n) one in absurd (cc)
same_test false true e is also = let one : 1 ≡ e = eqb-true 1 e also in let t : (e == 1) ≡ true = sym (ap (λ n. n == 1) one) in absurd (cc)
same_test false false e is also = refl

threads_open : (k : View) (goals : ℕ) → IsThreads k opening_held (opening_count goals) goals []
unfolding state_at
threads_open k goals = record {
  threads = refl;
  number = refl;
  begun = λ e. same_test (e == 1) (1 == e) e refl refl;
  waiting = λ n t e. absurd (cc);
}

new_number : (n : ℕ) → 2 ≤ n → has_number n (1 ∷ []) ≡ false
new_number n le = ap (λ (b : Bool). b || false) (ne_eqb 1 n (λ same. let e = same in absurd (omega (arith, e, le))))

some_goal : (n : ℕ) → (n == 0) ≡ false → 1 ≤ n
some_goal zero e = absurd (cc)
some_goal (suc n) e = omega arith

count_le : (goals : ℕ) → 2 ≤ opening_count goals
count_le goals = go (goals == 0) refl
  where
    go : (b : Bool) → (goals == 0) ≡ b → 2 ≤ (if b then 2 else suc goals)
    go true e = omega arith
    go false e = let some = some_goal goals e in omega (arith, some)

below_open : (count g : ℕ) → 2 ≤ count → IsBelow count g (opening_held {M = Tree})
below_open count g le = record {
  numbers = λ n high. record { no_queue = new_number n (omega (arith, high, le)); no_thread = new_number n (omega (arith, high, le)); no_alias = new_number n (omega (arith, high, le)); no_goal = refl };
  unjoined = λ n high. refl;
  places = λ p high. refl;
}

none_weigh : (w : Tree → ℕ) → weigh w opening_held ≡ 0
none_weigh w = refl

-- WHAT IS SHARED
pub shared_opens : (atoms : TableId) (size : Size) (table : TableId) (goals : ℕ) (keeper : Option Keeper) (db : HeldClauses Tree) (q : HeldThreads Tree) (count : ℕ) (begun : List Called)
    → KeeperAt atoms size keeper → ((a : ℕ) → tally (keeper_view keeper) a ≡ 0)
    → SaysFor (clause_by (keeper_view keeper)) db (λ g. opening_database)
    → db.flags ≡ opening_flags → db.operators ≡ opening_table → db.next ≡ 0 → db.floor ≡ 0
    → ((w : Tree → ℕ) → weight w db ≡ 0)
    → q ≡ opening_held → count ≡ opening_count goals → begun ≡ []
    → IsShared atoms size table goals (is_begun table) keeper db q count begun
shared_opens atoms size table goals keeper db q count begun at none says flags operators next floor weighs opened counted empty =
    subst (λ (x : HeldThreads Tree). IsShared atoms size table goals (is_begun table) keeper db x count begun) (sym opened)
    (subst (λ (n : ℕ). IsShared atoms size table goals (is_begun table) keeper db opening_held n begun) (sym counted) (record {
      table = refl;
      keeper_is = at;
      exact = λ a. none a ∙ sym (ap (λ n. n + weigh (naming a) opening_held) (weighs (naming a)) ∙ none_weigh (naming a));
      few = λ a. let n = none a in omega arith;
      database = database_opens (keeper_view keeper) db goals says flags operators;
      upto = record { next = let n = next in omega arith; floor = let n = floor in omega arith };
      floor = floor;
      threads = threads_open (keeper_view keeper) goals;
      below = below_open (opening_count goals) 0 (count_le goals);
      order = record { goals_rise = tt; threads_rise = tt };
      called = empty;
      waiting = refl;
    }))

-- nothing lies within what was seen of nothing
pub none_within : (n : ℕ) (gs : List ℕ) → gs ≡ [] → (g : ℕ) → Contains gs g → g ≤ n
none_within n gs empty g c = go (subst (λ (l : List ℕ). Contains l g) empty c)
  where
    go : Contains [] g → g ≤ n
    go d = absurd (omega (arith, d.1))
