-- A walk through a term for its variables.
use Rattle.std.proofs.Common.{◌≡◌, ℕ, Bool, true, false, ◌||◌, ◌==◌, if◌then◌else◌, List, [], ◌∷◌, ◌++◌, map, reverse, refl, sym, ap, ap₂, subst, ◌∙◌, append_assoc, append-nil}
use Rattle.std.specs.List.{All}
use Rattle.std.proofs.lemmas.List.{map-append, reverse-append}
use Rattle.std.proofs.lemmas.List.Elements.{All-cons, All-head, All-nil, All-push, All-tail}
use Rattle.pl_term.specs.NodeLists.{with}
use Rattle.pl_term.specs.Tree.{Chars, Tree, var, compound, trees}
use Rattle.pl_term.specs.Variables.{distinct, has, is_in, occurrences, occurrences_all, variables}
use Rattle.pl_term.proofs.Distinct.{distinct-push}
use Rattle.pl_model.proofs.UnifyReplace.{eqb_same}
use Rattle.term_store.specs.declared.words.Place.{Place}
use Rattle.term_store.specs.Contents.{Contents, Holds, term_at}
use Rattle.builtin_term.specs.VariableWalks.{Visits, met_after, occurrences_in, pending}

-- What was met, as the distinct members of a list.
met_distinct : (ys xs : List ℕ) → met_after (distinct xs) ys ≡ distinct (xs ++ ys)
met_distinct [] xs = ap distinct (sym (append-nil xs))
met_distinct (y ∷ ys) xs =
    ap (λ zs. met_after zs ys) (sym (distinct-push xs y)) ∙ met_distinct ys (xs ++ y ∷ []) ∙ ap distinct (append_assoc xs (y ∷ []) ys)

occurrences_in-append : (ts us : List Tree) → occurrences_in (ts ++ us) ≡ occurrences_in ts ++ occurrences_in us
occurrences_in-append [] us = refl
occurrences_in-append (t ∷ ts) us =
    ap (λ xs. occurrences t ++ xs) (occurrences_in-append ts us) ∙ sym (append_assoc (occurrences t) (occurrences_in ts) (occurrences_in us))

occurrences_trees : (ts : List Tree) → occurrences_all (trees ts) ≡ occurrences_in ts
occurrences_trees [] = refl
occurrences_trees (t ∷ ts) = ap (λ xs. occurrences t ++ xs) (occurrences_trees ts)

occurrences_compound : (f : Chars) (ts : List Tree) → occurrences (compound f ts) ≡ occurrences_in ts
occurrences_compound f [] = refl
occurrences_compound f (t ∷ ts) = ap (λ xs. occurrences t ++ xs) (occurrences_trees ts)

pub pending-push : (s : Contents) (ps : List Place) (p : Place) → pending s (ps ++ p ∷ []) ≡ term_at s p ∷ pending s ps
pending-push s ps p = ap (map (term_at s)) (reverse-append ps (p ∷ []))

pub pending-append : (s : Contents) (ps qs : List Place) → pending s (ps ++ qs) ≡ pending s qs ++ pending s ps
pending-append s ps qs = ap (map (term_at s)) (reverse-append ps qs) ∙ map-append (term_at s) (reverse qs) (reverse ps)

-- The walk at its start, and at its end.
pub walk_begins : (s : Contents) (term : Place) (walk : List Place) (seen : List ℕ) → walk ≡ term ∷ [] → seen ≡ []
    → met_after seen (occurrences_in (pending s walk)) ≡ variables (term_at s term)
walk_begins s term walk seen e f =
    ap₂ (λ xs ws. met_after xs (occurrences_in (pending s ws))) f e ∙ ap (met_after []) (append-nil (occurrences (term_at s term)))
    ∙ met_distinct (occurrences (term_at s term)) []

pub walk_ends : (s : Contents) (walk : List Place) (seen xs : List ℕ) → walk ≡ [] → met_after seen (occurrences_in (pending s walk)) ≡ xs → seen ≡ xs
walk_ends s walk seen xs e f = ap (λ ws. met_after seen (occurrences_in (pending s ws))) (sym e) ∙ f

pub walk_pops : (s : Contents) (walk left : List Place) (p : Place) (seen xs : List ℕ) → walk ≡ left ++ p ∷ []
    → met_after seen (occurrences_in (pending s walk)) ≡ xs → met_after seen (occurrences (term_at s p) ++ occurrences_in (pending s left)) ≡ xs
walk_pops s walk left p seen xs e f =
    ap (λ ts. met_after seen (occurrences_in ts)) (sym (pending-push s left p)) ∙ ap (λ ws. met_after seen (occurrences_in (pending s ws))) (sym e) ∙ f

pub popped : (P : Place → Type 0) (walk left : List Place) (p : Place) → walk ≡ left ++ p ∷ [] → All P walk → All P left × P p
popped P walk left p e h = split left (subst (All P) e h)
  where
    split : (ws : List Place) → All P (ws ++ p ∷ []) → All P ws × P p
    split [] h = (All-nil P, All-head P p [] h)
    split (w ∷ ws) h =
        let r : All P ws × P p = split ws (All-tail P w (ws ++ p ∷ []) h) in (All-cons P w ws (All-head P w (ws ++ p ∷ []) h) r.0, r.1)

or_right : (a b : Bool) → b ≡ true → (a || b) ≡ true
or_right true b e = refl
or_right false b e = e

-- Variables that were met are not met again.
with_met : (x : ℕ) (xs : List ℕ) → is_in x xs ≡ true → with x xs ≡ xs
with_met x xs e = ap (λ b. if b then xs else xs ++ x ∷ []) e

met_again : (ys zs xs : List ℕ) → ((x : ℕ) → is_in x ys ≡ true → is_in x xs ≡ true) → met_after xs (ys ++ zs) ≡ met_after xs zs
met_again [] zs xs h = refl
met_again (y ∷ ys) zs xs h =
    ap (λ ws. met_after ws (ys ++ zs)) (with_met y xs (h y (ap (λ b. b || is_in y ys) (eqb_same y))))
    ∙ met_again ys zs xs (λ x e. h x (or_right (x == y) (is_in x ys) e))

-- A term was taken up.
module _ (s : Contents) (t : Tree) (old met : List Place) (before : List ℕ) (inside : All (Holds s) old) (places : All (Holds s) met)
    (stand : map (term_at s) met ≡ map var before) where
  pub visits_leaf : occurrences t ≡ [] → Visits s t old before old met before
  visits_leaf e =
      record { inside = inside; places = places; stand = stand; rest = ap (λ xs. met_after before (xs ++ occurrences_in (pending s old))) (sym e) }

  pub visits_compound : (f : Chars) (ts : List Tree) (walk : List Place) → t ≡ compound f ts → All (Holds s) walk → pending s walk ≡ ts ++ pending s old
      → Visits s t old before walk met before
  visits_compound f ts walk is all e =
      record {
        inside = all;
        places = places;
        stand = stand;
        rest =
            ap (met_after before)
            (ap occurrences_in e ∙ occurrences_in-append ts (pending s old)
            ∙ ap (λ xs. xs ++ occurrences_in (pending s old)) (sym (ap occurrences is ∙ occurrences_compound f ts)));
      }

  pub visits_again : (walk : List Place) (seen : List ℕ) → ((x : ℕ) → has x t ≡ true → is_in x before ≡ true) → walk ≡ old → seen ≡ before
      → Visits s t old before walk met seen
  visits_again walk seen h e f =
      record {
        inside = subst (All (Holds s)) (sym e) inside;
        places = places;
        stand = stand ∙ ap (map var) (sym f);
        rest =
            ap₂ (λ xs ws. met_after xs (occurrences_in (pending s ws))) f e
            ∙ sym (met_again (occurrences t) (occurrences_in (pending s old)) before h);
      }

  pub visits_variable : (x : ℕ) (p : Place) (more_met : List Place) (seen : List ℕ) → t ≡ var x → Holds s p → term_at s p ≡ t → seen ≡ with x before
      → more_met ≡ met ++ (if is_in x before then [] else p ∷ []) → Visits s t old before old more_met seen
  visits_variable x p more_met seen is holds at e f = go (is_in x before) refl
    where
      go : (b : Bool) → is_in x before ≡ b → Visits s t old before old more_met seen
      go true q =
          let same : more_met ≡ met = f ∙ ap (λ b. met ++ (if b then [] else p ∷ [])) q ∙ append-nil met in
          let none : seen ≡ before = e ∙ ap (λ b. if b then before else before ++ x ∷ []) q in
          record {
            inside = inside;
            places = subst (All (Holds s)) (sym same) places;
            stand = ap (map (term_at s)) same ∙ stand ∙ ap (map var) (sym none);
            rest =
                ap (λ xs. met_after xs (occurrences_in (pending s old))) e
                ∙ ap (λ u. met_after before (occurrences u ++ occurrences_in (pending s old))) (sym is);
          }
      go false q =
          let longer : more_met ≡ met ++ p ∷ [] = f ∙ ap (λ b. met ++ (if b then [] else p ∷ [])) q in
          let one : seen ≡ before ++ x ∷ [] = e ∙ ap (λ b. if b then before else before ++ x ∷ []) q in
          record {
            inside = inside;
            places = subst (All (Holds s)) (sym longer) (All-push (Holds s) met p places holds);
            stand =
                ap (map (term_at s)) longer ∙ map-append (term_at s) met (p ∷ []) ∙ ap₂ (λ ts u. ts ++ u ∷ []) stand (at ∙ is)
                ∙ sym (ap (map var) one ∙ map-append var before (x ∷ []));
            rest =
                ap (λ xs. met_after xs (occurrences_in (pending s old))) e
                ∙ ap (λ u. met_after before (occurrences u ++ occurrences_in (pending s old))) (sym is);
          }
