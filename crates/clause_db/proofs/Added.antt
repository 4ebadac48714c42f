-- What an addition answers, beside what it would answer in the database of the definitions.
use Rattle.std.proofs.Common.{◌≡◌, ◌+◌, ◌≤◌, ◌^◌, ℕ, cond, Option, Some, None, refl, ap, ap₂, sym, subst, ◌∙◌, arith}
use Rattle.std.specs.Prelude.{nat_lt, IfErr, IfNone, IfSome}
use Rattle.std.specs.Option.{MatchOption}
use Rattle.std.specs.Result.{MatchResult, OnOk}
use Rattle.std.specs.declared.result.Result.{Result}
use Rattle.std.specs.declared.result.Result.TheVariants.{Ok, Err}
use Rattle.pl_model.specs.History as entries
use Rattle.pl_model.specs.laws.Shown.{proc_of, origin_of}
use Rattle.pl_model.specs.Database.{Database, used_cells}
use Rattle.pl_model.specs.declared.shows.Proc.{Proc}
use Rattle.pl_model.specs.declared.shows.Origin.{Origin}
use Rattle.pl_model.specs.declared.shows.Origin.TheVariants.{Consult, Assert}
use Rattle.clause_db.specs.declared.parts.Addition.{Addition}
use Rattle.clause_db.specs.declared.parts.End.{End}
use Rattle.clause_db.specs.declared.parts.End.TheVariants.{First, Last}
use Rattle.clause_db.specs.declared.fault.DbFault.{DbFault}
use Rattle.clause_db.specs.declared.fault.DbFault.TheVariants.{Static as StaticFault, CellsFull, Memory as NoMemory}
use Rattle.clause_db.specs.Parts.{Held, with_clause, with_added}
use Rattle.clause_db.specs.Stands.{StandsFor, then_at}
use Rattle.clause_db.specs.Faults.{is_closed, is_held_closed, addition_fault, held_addition_fault}
use Rattle.clause_db.proofs.Faults.{static_same}
use Rattle.clause_db.proofs.Adding.{with_stored, stands_added}
use Rattle.clause_db.proofs.Lives.{at_with, lived_with}
use Rattle.clause_db.proofs.Updating.{view, view_first, view_last, updated}

pub match_some : {F : Type 0} (Q : Type 0) (P : F → Type 0) (o : Option F) (f : F) → Some f ≡ o → P f → MatchOption o Q P
match_some Q P o f e h = subst (λ x. MatchOption x Q P) e h

pub match_none : {F : Type 0} (Q : Type 0) (P : F → Type 0) (o : Option F) → None ≡ o → Q → MatchOption o Q P
match_none Q P o e h = subst (λ x. MatchOption x Q P) e h

pub on_ok : {T E : Type 0} (r : Result T E) (P Q : Type 0) → (P → Q) → OnOk r P → OnOk r Q
on_ok (Ok x) P Q f h = f h
on_ok (Err e) P Q f h = tt

-- what is not added is handed back
pub handed_back : {C T : Type 0} (o : Option DbFault) (r : Result T (C × DbFault)) (c : C) (Q : T → Type 0)
    → IfSome o (λ f. r ≡ Err (c, f)) → IfNone o (MatchResult r Q (λ e. e ≡ (c, NoMemory))) → IfErr r (λ e. e.0 ≡ c)
handed_back None (Ok x) c Q some none = tt
handed_back None (Err e) c Q some none = ap (λ p. p.0) none
handed_back (Some f) (Ok x) c Q some none = tt
handed_back {C} (Some f) (Err e) c Q some none = let same : e ≡ (c, f) = cc in ap (λ (p : C × DbFault). p.0) same

module _ {C : Type 0} (need : C → ℕ) (h : Held C) (d : ℕ → Database C) (s : StandsFor need h d) (k : ℕ) (l : h.next ≤ k) where
  pub low_at : h.floor ≤ k
  low_at = let m = s.low in omega (arith, m, l)

  closed_same : (p : entries.Proc) (o : Origin) → is_held_closed k h p o ≡ is_closed (d k) p o
  closed_same p Consult = refl
  closed_same p Assert = static_same need h d s k low_at p

  pub addition_fault_same : (p : entries.Proc) (o : Origin) (c : C) → held_addition_fault k h p o (need c) ≡ addition_fault need (d k) p o c
  addition_fault_same p o c =
      ap₂ (λ b u. cond b (Some StaticFault) (cond (nat_lt (u + need c) (2 ^ 40)) None (Some (CellsFull u (need c))))) (closed_same p o)
      (s.newest.used ∙ ap (used_cells need) (sym (s.rests k l)))

module _ {C : Type 0} (need : C → ℕ) (h new : Held C) (d : ℕ → Database C) (s : StandsFor need h d) (a : Addition) (p : Proc) (c : C) (l : h.next ≤ a.place) where
  abbrev change : Database C → Database C
  change = with_stored a.end a.place (proc_of p) c (origin_of a.origin)

  view_stored : (e : End) (g : ℕ) → g ≤ a.place → (q : entries.Proc) (x : Database C) → view g q (with_stored e a.place (proc_of p) c (origin_of a.origin) x).clauses ≡ view g q x.clauses
  view_stored First g m q x = view_first a.place g (proc_of p) q c x.clauses m
  view_stored Last g m q x = view_last a.place g (proc_of p) q c x.clauses m

  pub stands_then : StandsFor need (with_added a p c (need c) h) (then_at a.place change d)
  stands_then =
      updated need h d s a.place l change (with_clause a p c h.parts) (h.used + need c) h.flags h.operators
      (stands_added need h (d h.next) s.newest a p c l)
      (λ g m q. at_with a p c h.parts g m q)
      (λ g m q. view_stored a.end g m q (d h.next))
      (lived_with h.next a p c l h.parts s.lived)

  pub added_stands : {T E : Type 0} (r : Result T E) (B : E → Type 0)
      → IfNone (held_addition_fault a.place h (proc_of p) a.origin (need c)) (MatchResult r (λ _. new ≡ with_added a p c (need c) h) B)
      → IfNone (addition_fault need (d a.place) (proc_of p) a.origin c) (MatchResult r (λ _. StandsFor need new (then_at a.place change d)) B)
  added_stands r B m =
      subst (λ o. IfNone o (MatchResult r (λ _. StandsFor need new (then_at a.place change d)) B)) (addition_fault_same need h d s a.place l (proc_of p) a.origin c)
      (none (held_addition_fault a.place h (proc_of p) a.origin (need c)) m)
    where
      result : {T E : Type 0} (r : Result T E) (B : E → Type 0) → MatchResult r (λ _. new ≡ with_added a p c (need c) h) B → MatchResult r (λ _. StandsFor need new (then_at a.place change d)) B
      result (Ok x) B e = subst (λ n. StandsFor need n (then_at a.place change d)) (sym e) stands_then
      result (Err x) B e = e

      none : (o : Option DbFault) → IfNone o (MatchResult r (λ _. new ≡ with_added a p c (need c) h) B) → IfNone o (MatchResult r (λ _. StandsFor need new (then_at a.place change d)) B)
      none None e = result r B e
      none (Some f) e = tt
