-- What a call finds in what is kept, beside what it finds in the database of the definitions.
use Rattle.std.proofs.Common.{◌≡◌, ℕ, ◌<◌, ◌≤◌, Bool, true, false, cond, not, ◌&&◌, List, [], ◌∷◌, map, Option, Some, None, refl, sym, ap, ap₂, ◌∙◌, arith}
use Rattle.std.specs.Prelude.{filter, nat_lt, nat_le}
use Rattle.std.specs.Option.{option_map_or}
use Rattle.std.proofs.lemmas.Bool.{false≢true, leb-true}
use borrow.Author.Tests.{ltb-true}
use Rattle.pl_model.specs.History.{Proc}
use Rattle.pl_model.specs.Database.{Database, Stored, is_visible, is_of, choices}
use Rattle.gen_core.specs.declared.dated_clause.DatedClause.{DatedClause}
use Rattle.gen_core.specs.Visible.{has_any, first_choice}
use Rattle.gen_core.specs.Visible as list
use Rattle.clause_db.specs.Parts.{Held, clauses_at}
use Rattle.clause_db.specs.Stands.{dated, is_gone, StandsNow, first_named}

module _ {C : Type 0} where
  pub visible_same : (g : ℕ) (s : Stored C) → list.is_visible g (dated s) ≡ is_visible g s
  visible_same g s = go s.erased
    where
      go : (e : Option ℕ) → (nat_lt s.place g && option_map_or (λ k. nat_le g k) e true) ≡ (nat_lt s.place g && elim e [ None ↦ true | Some k ↦ nat_le g k ])
      go None = refl
      go (Some k) = refl

  -- What was erased below a generation is not seen from it on.
  pub gone_unseen : (from g : ℕ) (s : Stored C) → from ≤ g → is_gone from s ≡ true → is_visible g s ≡ false
  gone_unseen from g s l h = go s.erased h (nat_lt s.place g)
    where
      go : (e : Option ℕ) → option_map_or (λ k. nat_lt k from) e false ≡ true → (b : Bool) → (b && elim e [ None ↦ true | Some k ↦ nat_le g k ]) ≡ false
      go None n b = absurd (false≢true n)
      go (Some k) n false = refl
      go (Some k) n true = ends (nat_le g k) refl
        where
          ends : (c : Bool) → nat_le g k ≡ c → nat_le g k ≡ false
          ends true e = absurd (let a : k < from = ltb-true k from n in let b : g ≤ k = leb-true g k e in omega arith)
          ends false e = e

  -- The clauses that a generation sees of those that are kept.
  pub tried_same : (from g : ℕ) → from ≤ g → (t : C → Bool) (ss : List (Stored C))
      → filter (λ d. list.is_visible g d && not (t d.clause)) (map dated (filter (λ s. not (is_gone from s)) ss)) ≡ map dated (filter (λ s. not (t s.clause)) (filter (is_visible g) ss))
  tried_same from g l t [] = refl
  tried_same from g l t (s ∷ ss) = go (is_gone from s) refl (is_visible g s) refl (t s.clause) refl (tried_same from g l t ss)
    where
      kept : List (DatedClause C)
      kept = map dated (filter (λ s. not (is_gone from s)) ss)

      now : List (Stored C)
      now = filter (is_visible g) ss

      pass : DatedClause C → Bool
      pass d = list.is_visible g d && not (t d.clause)

      go : (b : Bool) → is_gone from s ≡ b → (v : Bool) → is_visible g s ≡ v → (u : Bool) → t s.clause ≡ u
          → filter pass kept ≡ map dated (filter (λ s. not (t s.clause)) now)
          → filter pass (map dated (filter (λ s. not (is_gone from s)) (s ∷ ss))) ≡ map dated (filter (λ s. not (t s.clause)) (filter (is_visible g) (s ∷ ss)))
      go true e v w u x ih =
          ap (λ b. filter pass (map dated (cond (not b) (s ∷ filter (λ s. not (is_gone from s)) ss) (filter (λ s. not (is_gone from s)) ss)))) e
          ∙ ih
          ∙ sym (ap (λ b. map dated (filter (λ s. not (t s.clause)) (cond b (s ∷ now) now))) (gone_unseen from g s l e))
      go false e true w true x ih =
          ap (λ b. filter pass (map dated (cond (not b) (s ∷ filter (λ s. not (is_gone from s)) ss) (filter (λ s. not (is_gone from s)) ss)))) e
          ∙ ap₂ (λ b c. cond (b && not c) (dated s ∷ filter pass kept) (filter pass kept)) (visible_same g s ∙ w) x
          ∙ ih
          ∙ sym (ap (λ b. map dated (filter (λ s. not (t s.clause)) (cond b (s ∷ now) now))) w
          ∙ ap (λ c. map dated (cond (not c) (s ∷ filter (λ s. not (t s.clause)) now) (filter (λ s. not (t s.clause)) now))) x)
      go false e true w false x ih =
          ap (λ b. filter pass (map dated (cond (not b) (s ∷ filter (λ s. not (is_gone from s)) ss) (filter (λ s. not (is_gone from s)) ss)))) e
          ∙ ap₂ (λ b c. cond (b && not c) (dated s ∷ filter pass kept) (filter pass kept)) (visible_same g s ∙ w) x
          ∙ ap (λ l. dated s ∷ l) ih
          ∙ sym (ap (λ b. map dated (filter (λ s. not (t s.clause)) (cond b (s ∷ now) now))) w
          ∙ ap (λ c. map dated (cond (not c) (s ∷ filter (λ s. not (t s.clause)) now) (filter (λ s. not (t s.clause)) now))) x)
      go false e false w u x ih =
          ap (λ b. filter pass (map dated (cond (not b) (s ∷ filter (λ s. not (is_gone from s)) ss) (filter (λ s. not (is_gone from s)) ss)))) e
          ∙ ap (λ b. cond (b && not (t s.clause)) (dated s ∷ filter pass kept) (filter pass kept)) (visible_same g s ∙ w)
          ∙ ih
          ∙ sym (ap (λ b. map dated (filter (λ s. not (t s.clause)) (cond b (s ∷ now) now))) w)

  -- Those of a procedure that a generation sees.
  pub seen_of : (g : ℕ) (p : Proc) (ss : List (Stored C)) → filter (λ s. is_of p s && is_visible g s) ss ≡ filter (is_visible g) (filter (is_of p) ss)
  seen_of g p [] = refl
  seen_of g p (s ∷ ss) = go (is_of p s) (is_visible g s) refl (seen_of g p ss)
    where
      ours : List (Stored C)
      ours = filter (is_of p) ss

      go : (a b : Bool) → is_visible g s ≡ b
          → filter (λ s. is_of p s && is_visible g s) ss ≡ filter (is_visible g) ours
          → cond (a && b) (s ∷ filter (λ s. is_of p s && is_visible g s) ss) (filter (λ s. is_of p s && is_visible g s) ss) ≡ filter (is_visible g) (cond a (s ∷ ours) ours)
      go true true e ih = ap (λ l. s ∷ l) ih ∙ sym (ap (λ b. cond b (s ∷ filter (is_visible g) ours) (filter (is_visible g) ours)) e)
      go true false e ih = ih ∙ sym (ap (λ b. cond b (s ∷ filter (is_visible g) ours) (filter (is_visible g) ours)) e)
      go false b e ih = ih

  has_any_dated : (ss : List (Stored C)) → has_any (map dated ss) ≡ has_any ss
  has_any_dated [] = refl
  has_any_dated (s ∷ ss) = refl

  pub first_same : (ss : List (Stored C)) → first_choice (map dated ss) ≡ first_named ss
  first_same [] = refl
  first_same (s ∷ ss) = ap (λ b. Some (s.place, s.clause, b)) (has_any_dated ss)

  pub call_same : (need : C → ℕ) (h : Held C) (d : Database C) → StandsNow need h d → (t : C → Bool) (g : ℕ) (p : Proc) → h.floor ≤ g
      → first_choice (filter (λ x. list.is_visible g x && not (t x.clause)) (clauses_at h.parts p)) ≡ first_named (choices t g p d)
  call_same need h d s t g p l =
      let k = s.clauses p in
      let low : k.from ≤ g = (let a = k.low in omega (arith, a, l)) in
      ap (λ ds. first_choice (filter (λ x. list.is_visible g x && not (t x.clause)) ds)) k.are
      ∙ ap first_choice (tried_same k.from g low t (filter (is_of p) d.clauses))
      ∙ first_same (filter (λ s. not (t s.clause)) (filter (is_visible g) (filter (is_of p) d.clauses)))
      ∙ sym (ap (λ ss. first_named (filter (λ s. not (t s.clause)) ss)) (seen_of g p d.clauses))
