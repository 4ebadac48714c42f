-- The first of a list of clauses, as it is found by numbers and handed out in texts.
use Rattle.std.proofs.Common.{◌≡◌, ◌<◌, ℕ, zero, suc, List, [], ◌∷◌, length, Option, Some, None, Bool, refl, sym, ap, ◌∙◌, subst, arith}
use Rattle.std.specs.List.{slice_get}
use Rattle.std.specs.Option.{option_map}
use Rattle.std.specs.Prelude.{All, IfSome}
use Rattle.std.proofs.lemmas.List.Elements.{All-cons, All-nil, All-weaker}
use Rattle.std.proofs.lemmas.Option.{same_Some}
use Rattle.pl_term.specs.Tree.{Chars, Tree, var, int, atom, comp, none, more}
use Rattle.pl_model.specs.History.{Clause, head_part}
use Rattle.pl_model.specs.Database.{Stored}
use Rattle.pl_model.specs.FirstArguments.{head_of}
use Rattle.gen_core.specs.declared.dated_clause.DatedClause.{DatedClause}
use Rattle.gen_core.specs.Visible.{has_any}
use Rattle.gen_core.specs.declared.hit.Hit.{Hit}
use Rattle.clause_db.specs.Parts.{Held, Piece}
use Rattle.clause_db.proofs.Says.{held_passes}
use Rattle.clause_db.specs.Reading.{EachHeld, IsHeld}
use Rattle.clause_db.specs.Stands.{first_named}
use Rattle.term_store.specs.NumberedNames.{term_by}
use Rattle.atom_words.specs.declared.view.View.{View}
use Rattle.counted_terms.specs.CountedTerms.{IsCounted, naming}
use Rattle.counted_terms.specs.Keeping.{tally}
use Rattle.hub_database.specs.Clauses.{AllCounted}
use Rattle.world_api.specs.Replies.{IsFront, follows_some}
use Rattle.world_api.specs.Visits.{clause_in}
use Rattle.world_api.specs.declared.reply.Found.{Found}

pub head_same : (t : Tree) → head_part t ≡ head_of t
head_same (var x) = refl
head_same (int i) = refl
head_same (atom a) = refl
head_same (comp f t none) = refl
head_same (comp f t (more u none)) = refl
head_same (comp f t (more u (more v ts))) = refl

follows_same : (ss : List (Stored Clause)) → has_any ss ≡ follows_some ss
follows_same [] = refl
follows_same (s ∷ ss) = refl

module _ (text : ℕ → Chars) where
  pub front_none : (ss : List (Stored Clause)) → None ≡ first_named ss → IsFront term_by text None ss
  front_none [] e = tt
  front_none (s ∷ ss) e = absurd (cc)

  pub front_some : (ss : List (Stored Clause)) (f : Found Tree) (c : Clause) → clause_in (term_by text f.clause) ≡ c → Some (f.place, c, f.more) ≡ first_named ss → IsFront term_by text (Some f) ss
  front_some [] f c is e = absurd (cc)
  front_some (s ∷ ss) f c is e =
      let same : (f.place, c, f.more) ≡ (s.place, s.clause, has_any ss) = same_Some _ _ e in
      record {
        clause = is ∙ ap (λ (t : ℕ × Clause × Bool). t.1) same;
        place = ap (λ (t : ℕ × Clause × Bool). t.0) same;
        more = ap (λ (t : ℕ × Clause × Bool). t.2) same ∙ follows_same ss;
      }

-- what holds of each clause that is held, where another thing does
pub each_weaker : (P Q : Tree → Type 0) → ((t : Tree) → P t → Q t) → (h : Held Tree) → EachHeld P h → EachHeld Q h
each_weaker P Q f h a =
    All-weaker (λ (x : Piece Tree). All (λ d. P d.clause) x.clauses) (λ (x : Piece Tree). All (λ d. Q d.clause) x.clauses)
    (λ x b. All-weaker (λ (d : DatedClause Tree). P d.clause) (λ (d : DatedClause Tree). Q d.clause) (λ d p. f d.clause p) x.clauses b) h.parts a

-- what holds of each term
all_always : {X : Type 0} (P : X → Type 0) → ((x : X) → P x) → (xs : List X) → All P xs
all_always P f [] = All-nil P
all_always P f (x ∷ xs) = All-cons P x xs (f x) (all_always P f xs)

pub each_always : (Q : Tree → Type 0) → ((t : Tree) → Q t) → (h : Held Tree) → EachHeld Q h
each_always Q f h =
    all_always (λ (x : Piece Tree). All (λ d. Q d.clause) x.clauses)
    (λ x. all_always (λ (d : DatedClause Tree). Q d.clause) (λ d. f d.clause) x.clauses) h.parts

pub some_weaker : {X : Type 0} {P Q : X → Type 0} (o : Option X) → ((x : X) → P x → Q x) → IfSome o P → IfSome o Q
some_weaker None f h = tt
some_weaker (Some x) f h = f x h

-- the atoms of a clause that is found are counted
pub found_counted : (k l : View) → tally l ≡ tally k → (h : Held Tree) → AllCounted k h → (r : Option (Hit Tree)) → IfSome r (λ x. IsHeld x.clause.now h) → IfSome r (λ x. IsCounted x.clause.now l)
found_counted k l same h all r held = some_weaker r (λ x m. subst (λ (t : ℕ → ℕ). (a : ℕ) → 0 < naming a x.clause.now → 0 < t a) (sym same) (held_passes (λ t. IsCounted t k) h x.clause.now all m)) held

-- a member that is found stands within the list
pub got_within : {X Y : Type 0} (xs : List X) (i : ℕ) (f : X → Y) (y : Y) → option_map f (slice_get xs i) ≡ Some y → i < length xs
got_within [] i f y e = absurd (cc)
got_within (x ∷ xs) zero f y e = omega arith
got_within (x ∷ xs) (suc i) f y e = let l = got_within xs i f y e in omega arith

pub some_at : {X Y : Type 0} (o : Option X) (f : X → Y) (y : Y) → option_map f o ≡ Some y → (Q : Y → Type 0) → IfSome o (λ x. Q (f x)) → Q y
some_at None f y e Q h = absurd (cc)
some_at (Some x) f y e Q h = subst Q (same_Some (f x) y e) h
