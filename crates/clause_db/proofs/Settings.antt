-- The flags and operators stand beside the clauses.
use Rattle.std.proofs.Common.{◌≡◌, ◌+◌, ◌<◌, ◌≤◌, ℕ, List, ap, sym, subst, ◌∙◌, arith}
use Rattle.std.specs.Prelude.{All}
use Rattle.std.specs.BTreeMap.{BTreeMap}
use Rattle.std.proofs.lemmas.List.Elements.{All-weaker}
use Rattle.pl_model.specs.Database.{Database, Stored, seen, named_clauses}
use Rattle.pl_model.specs.Flags.{Flags}
use Rattle.pl_model.specs.OperatorTable.{OperatorTable}
use Rattle.gen_core.specs.declared.dated_clause.DatedClause.{DatedClause}
use Rattle.clause_db.specs.declared.db.Home.{Home}
use Rattle.clause_db.specs.Parts.{Piece, Held}
use Rattle.clause_db.specs.Sound.{IsSound}
use Rattle.clause_db.specs.Stands.{StandsNow, StandsFor}
use Rattle.clause_db.proofs.Lives.{lived_all}

module _ {C : Type 0} (need : C → ℕ) where
  pub stands_set : (h : Held C) (d : ℕ → Database C) (fs : Flags) (os : OperatorTable) (k : ℕ) → h.next ≤ k
      → StandsFor need h d → StandsFor need (record h { flags = fs; operators = os; next = k + 1 }) d
  stands_set h d fs os k l s = record {
    newest = subst (λ x. StandsNow need (record h { flags = fs; operators = os; next = k + 1 }) x) (sym last) (record {
      access = s.newest.access;
      clauses = s.newest.clauses;
      used = s.newest.used;
      before = All-weaker (λ (x : Stored C). x.place < h.next) (λ (x : Stored C). x.place < k + 1) (λ x m. omega (arith, l, m)) (d h.next).clauses s.newest.before;
      once = s.newest.once;
    });
    low = let m = s.low in omega (arith, m, l);
    rests = λ g m. s.rests g (omega (arith, l, m)) ∙ sym last;
    access = s.access;
    views = λ g low p. s.views g low p ∙ ap (λ x. named_clauses (seen g p x)) (sym last);
    lived = lived_all h.next k l h.parts s.lived;
  }
    where
      last : d (k + 1) ≡ d h.next
      last = s.rests (k + 1) (omega (arith, l))

  pub sound_set : (homes : BTreeMap ℕ Home) (next floor k : ℕ) (xs : List (Piece C)) → IsSound need xs homes next floor → next ≤ k → IsSound need xs homes (k + 1) floor
  sound_set homes next floor k xs s l = record {
    homed = s.homed;
    later =
        All-weaker (λ (x : Piece C). All (λ d. d.place < next) x.clauses) (λ (x : Piece C). All (λ d. d.place < k + 1) x.clauses)
        (λ x h. All-weaker (λ (d : DatedClause C). d.place < next) (λ (d : DatedClause C). d.place < k + 1) (λ d m. omega (arith, l, m)) x.clauses h) xs s.later;
    low = let m = s.low in omega (arith, l, m);
    apart = s.apart;
  }
