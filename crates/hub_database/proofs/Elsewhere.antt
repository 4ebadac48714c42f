-- Updates that are none of the database's leave it as it is.
use Rattle.std.proofs.Common.{◌≡◌, ℕ, ◌++◌, length, Some, refl, sym, ap, subst, ◌∙◌}
use Rattle.pl_model.specs.History.{Clause, Entry, History, Kind, add_first, add_last, erase, abolish, set_dynamic, set_flag, set_op, make_queue, drop_queue, send, start, finish, join}
use Rattle.pl_model.specs.History as entries
use Rattle.pl_model.specs.Database as model
use Rattle.pl_model.specs.Service.{entry_by}
use Rattle.pl_model.specs.SharedState.{SharedState, change, state_at}
use Rattle.atom_words.specs.declared.view.View.{View}
use Rattle.clause_db.specs.Parts.{Held}
use Rattle.pl_term.specs.Tree.{Tree}
use Rattle.clause_db.specs.Reading.{SaysFor}
use Rattle.hub_database.specs.Clauses.{clause_by}
use Rattle.hub_database.specs.Database.{AllOpen, IsDatabase, IsElsewhere}
use Rattle.hub_database.proofs.Histories.{databases_same, newest_after}

module _ (n e : ℕ) (s : SharedState) where
  database_stays : (kind : Kind) → IsElsewhere kind → (change n e kind s).database ≡ s.database
  database_stays (add_first p c o) h = absurd h
  database_stays (add_last p c o) h = absurd h
  database_stays (erase j) h = absurd h
  database_stays (abolish p) h = absurd h
  database_stays (set_dynamic ps) h = absurd h
  database_stays (set_flag f v) h = absurd h
  database_stays (set_op os) h = absurd h
  database_stays (make_queue i a) h = refl
  database_stays (drop_queue i) h = refl
  database_stays (send i t) h = refl
  database_stays (entries.take j) h = refl
  database_stays (start i t a) h = refl
  database_stays (finish how steps) h = refl
  database_stays (join i) h = refl

  flags_stay : (kind : Kind) → IsElsewhere kind → (change n e kind s).flags ≡ s.flags
  flags_stay (add_first p c o) h = absurd h
  flags_stay (add_last p c o) h = absurd h
  flags_stay (erase j) h = absurd h
  flags_stay (abolish p) h = absurd h
  flags_stay (set_dynamic ps) h = absurd h
  flags_stay (set_flag f v) h = absurd h
  flags_stay (set_op os) h = absurd h
  flags_stay (make_queue i a) h = refl
  flags_stay (drop_queue i) h = refl
  flags_stay (send i t) h = refl
  flags_stay (entries.take j) h = refl
  flags_stay (start i t a) h = refl
  flags_stay (finish how steps) h = refl
  flags_stay (join i) h = refl

  operators_stay : (kind : Kind) → IsElsewhere kind → (change n e kind s).operators ≡ s.operators
  operators_stay (add_first p c o) h = absurd h
  operators_stay (add_last p c o) h = absurd h
  operators_stay (erase j) h = absurd h
  operators_stay (abolish p) h = absurd h
  operators_stay (set_dynamic ps) h = absurd h
  operators_stay (set_flag f v) h = absurd h
  operators_stay (set_op os) h = absurd h
  operators_stay (make_queue i a) h = refl
  operators_stay (drop_queue i) h = refl
  operators_stay (send i t) h = refl
  operators_stay (entries.take j) h = refl
  operators_stay (start i t a) h = refl
  operators_stay (finish how steps) h = refl
  operators_stay (join i) h = refl

pub database_elsewhere : (k : View) (db : Held Tree) (goals e : ℕ) (h : History) (kind : Kind) → IsElsewhere kind → IsDatabase k db goals h → IsDatabase k db goals (h ++ entry_by e (Some kind))
database_elsewhere k db goals e h kind other was =
    let s = state_at goals h (length h) in
    let x : Entry = record { engine = e; kind = kind } in
    let same = databases_same goals h x (database_stays (length h) e s kind other) in
    record {
      says = subst (SaysFor (clause_by k) db) same was.says;
      flags = was.flags ∙ sym (ap (λ (z : SharedState). z.flags) (newest_after goals h x) ∙ flags_stay (length h) e s kind other);
      operators = was.operators ∙ sym (ap (λ (z : SharedState). z.operators) (newest_after goals h x) ∙ operators_stay (length h) e s kind other);
      open_only = subst (λ (d : ℕ → model.Database Clause). (g : ℕ) → AllOpen (d g).clauses) same was.open_only;
    }
