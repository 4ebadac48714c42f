-- A thread is created.
use Rattle.std.proofs.Common.{◌≡◌, ◌<◌, ℕ, ◌+◌, List, [], ◌∷◌, ◌++◌, map, find, get_or, length, take, drop, Option, Some, None, Bool, true, false, refl, sym, ap, subst, ◌∙◌, arith, codes, take_all}
use Rattle.std.specs.Prelude.{cond, if◌then◌else◌}
use Rattle.std.specs.List.{All}
use Rattle.std.specs.Option.{option_or}
use Rattle.std.proofs.lemmas.List.{map-append, take-append-drop, take_more}
use Rattle.std.proofs.lemmas.List.Folds.{find-append}
use Rattle.std.proofs.lemmas.Option.{same_Some}
use Rattle.pl_term.specs.Tree.{Chars, Tree, atom}
use Rattle.pl_model.specs.ErrorTerms.{permission_error}
use Rattle.pl_model.specs.History.{History}
use Rattle.pl_model.specs.Requests.{create_thread, named}
use Rattle.pl_model.specs.Service.{Served, alias_taken, created, name_term, refuses, serve, served_now, started as starts}
use Rattle.pl_model.specs.SharedState.{SharedState, state_at}
use Rattle.pl_model.specs.Threads.{is_alias}
use Rattle.atom_words.specs.declared.view.View.{View}
use Rattle.counted_terms.specs.CountedTerms.{said}
use Rattle.counted_terms.specs.Keeping.{kept}
use Rattle.hub_threads.specs.Aliases.{IsLast, first_taken, last_of}
use Rattle.hub_threads.specs.Held.{Held}
use Rattle.hub_threads.specs.Threads.{IsThreads}
use Rattle.hub_threads.proofs.Searched.{at_item, at_within}
use Rattle.hub_threads.proofs.Served.{alias_as, find_alike}

-- ONE ALIAS AFTER THE OTHER
module _ (s : SharedState) (g : ℕ) (goal : Tree) (error : Option Tree) where
  taken_step : (a b : Chars) (d : Bool) (rest : Option Chars) (next : Served) → is_alias s.threads b ≡ d → cond d (Some b) rest ≡ Some a → (rest ≡ Some a → next ≡ alias_taken (codes "thread") a)
      → (if is_alias s.threads b then alias_taken (codes "thread") b else next) ≡ alias_taken (codes "thread") a
  taken_step a b true rest next is e more = ap (λ c. if c then alias_taken (codes "thread") b else next) is ∙ ap (alias_taken (codes "thread")) (same_Some b a e)
  taken_step a b false rest next is e more = ap (λ c. if c then alias_taken (codes "thread") b else next) is ∙ more e

  pub created_taken : (last : Option Chars) (as₁ : List Chars) (a : Chars) → find (is_alias s.threads) as₁ ≡ Some a → created s g goal last as₁ error ≡ alias_taken (codes "thread") a
  created_taken last [] a e = absurd (cc)
  created_taken last (b ∷ as₁) a e =
      taken_step a b (is_alias s.threads b) (find (is_alias s.threads) as₁) (created s g goal (Some b) as₁ error) refl e (created_taken (Some b) as₁ a)

  free_step : (b : Chars) (d : Bool) (rest : Option Chars) (next end : Served) → is_alias s.threads b ≡ d → cond d (Some b) rest ≡ None → (rest ≡ None → next ≡ end)
      → (if is_alias s.threads b then alias_taken (codes "thread") b else next) ≡ end
  free_step b true rest next end is e more = absurd (let f : Some b ≡ None = e in cc)
  free_step b false rest next end is e more = ap (λ c. if c then alias_taken (codes "thread") b else next) is ∙ more e

  pub created_free : (last : Option Chars) (as₁ : List Chars) → find (is_alias s.threads) as₁ ≡ None → created s g goal last as₁ error ≡ created s g goal (last_of last as₁) [] error
  created_free last [] e = refl
  created_free last (b ∷ as₁) e =
      free_step b (is_alias s.threads b) (find (is_alias s.threads) as₁) (created s g goal (Some b) as₁ error) (created s g goal (last_of (Some b) as₁) [] error) refl e (created_free (Some b) as₁)

-- WHAT THE STATE ANSWERS
module _ (k : View) (q : Held Tree) (count goals : ℕ) (h : History) (stands : IsThreads k q count goals h) (e : ℕ) (goal : Tree) (texts : List Chars) where
  abbrev s : SharedState
  s = state_at goals h (length h)

  creates : (error : Option Tree) → served_now e goals h (create_thread goal texts error) ≡ created s (length h) goal None texts error
  unfolding serve
  creates error = refl

  as_held : find (is_alias s.threads) texts ≡ first_taken q.state texts
  as_held = find_alike (is_alias s.threads) (is_alias q.state) (λ a. alias_as (said (kept k)) q.state s.threads a stands.threads) texts

  pub create_taken : (error : Option Tree) (a : Chars) → first_taken q.state texts ≡ Some a → served_now e goals h (create_thread goal texts error) ≡ refuses (permission_error (codes "create") (codes "thread") (atom a))
  create_taken error a is = creates error ∙ created_taken s (length h) goal error None texts a (as_held ∙ is)

  module _ (free : first_taken q.state texts ≡ None) where
    pub create_wrong : (error : Tree) → served_now e goals h (create_thread goal texts (Some error)) ≡ refuses error
    create_wrong error = creates (Some error) ∙ created_free s (length h) goal (Some error) None texts (as_held ∙ free)

    pub create_starts : (last : Option Chars) → last_of None texts ≡ last
        → served_now e goals h (create_thread goal texts None) ≡ starts s (length h) count goal last (named (name_term count last))
    create_starts last is =
        creates None
        ∙ created_free s (length h) goal None None texts (as_held ∙ free)
        ∙ ap (λ (l : Option Chars). created s (length h) goal l [] None) is
        ∙ ap (λ (n : ℕ). starts s (length h) n goal last (named (name_term n last))) stands.number

-- THE LAST ALIAS
last_at : (text : ℕ → Chars) (l : Option Chars) (before : List ℕ) (a : ℕ) → last_of l (map text (before ++ a ∷ [])) ≡ Some (text a)
last_at text l [] a = refl
last_at text l (b ∷ before) a = last_at text (Some (text b)) before a

pub last_text : (text : ℕ → Chars) (as₁ : List ℕ) (a : ℕ) → IsLast as₁ (Some a) → last_of None (map text as₁) ≡ Some (text a)
last_text text as₁ a at = ap (λ (xs : List ℕ). last_of None (map text xs)) at.1 ∙ last_at text None at.0 a

pub no_last : (text : ℕ → Chars) (as₁ : List ℕ) → IsLast as₁ None → last_of None (map text as₁) ≡ None
no_last text as₁ is = ap (λ (xs : List ℕ). last_of None (map text xs)) is

pub last_held : (P : ℕ → Type 0) (as₁ : List ℕ) (a : ℕ) → IsLast as₁ (Some a) → All P as₁ → P a
last_held P as₁ a at all =
    subst P (at_item at.0 a [] 0)
    (subst (λ (xs : List ℕ). All P xs) at.1 all (length at.0) 0 (at_within at.0 a []))

or_none : {X : Type 0} (o p : Option X) → option_or o p ≡ None → p ≡ None
or_none None p e = e
or_none (Some x) p e = absurd (let f : Some x ≡ None = e in cc)

passes : (b : Bool) (x : Chars) → cond b (Some x) None ≡ None → b ≡ false
passes true x e = absurd (let f : Some x ≡ None = e in cc)
passes false x e = refl

pub last_free : (test : Chars → Bool) (text : ℕ → Chars) (as₁ : List ℕ) (a : ℕ) → IsLast as₁ (Some a) → find test (map text as₁) ≡ None → test (text a) ≡ false
last_free test text as₁ a at e =
    passes (test (text a)) (text a)
    (or_none (find test (map text at.0)) (find test (text a ∷ []))
    (sym (find-append test (map text at.0) (text a ∷ [])) ∙ ap (find test) (sym (map-append text at.0 (a ∷ []))) ∙ ap (λ (xs : List ℕ). find test (map text xs)) (sym at.1) ∙ e))

pub last_made : (xs : List ℕ) (i a : ℕ) → length xs ≡ i + 1 → a ≡ get_or xs i a → IsLast xs (Some a)
last_made xs i a long is =
    (take i xs, sym (take_all (i + 1) xs (let l = long in omega (arith, l))) ∙ take_more xs i a (let l = long in omega (arith, l)) ∙ ap (λ (x : ℕ). take i xs ++ x ∷ []) (sym is))

-- THE ALIASES BEFORE ONE
module _ (test : Chars → Bool) (text : ℕ → Chars) (xs : List ℕ) (i a : ℕ) (low : i < length xs) (is : a ≡ get_or xs i a) (free : find test (map text (take i xs)) ≡ None) where
  next : take (i + 1) xs ≡ take i xs ++ a ∷ []
  next = take_more xs i a low ∙ ap (λ (x : ℕ). take i xs ++ x ∷ []) (sym is)

  found_next : find test (map text (take (i + 1) xs)) ≡ find test (text a ∷ [])
  found_next =
      ap (λ (ys : List ℕ). find test (map text ys)) next
      ∙ ap (find test) (map-append text (take i xs) (a ∷ []))
      ∙ find-append test (map text (take i xs)) (text a ∷ [])
      ∙ ap (λ o. option_or o (find test (text a ∷ []))) free

  pub free_then : test (text a) ≡ false → find test (map text (take (i + 1) xs)) ≡ None
  free_then names_none = found_next ∙ ap (λ b. cond b (Some (text a)) None) names_none

  pub taken_then : test (text a) ≡ true → find test (map text xs) ≡ Some (text a)
  taken_then names_one =
      ap (λ (ys : List ℕ). find test (map text ys)) (sym (take-append-drop (i + 1) xs))
      ∙ ap (find test) (map-append text (take (i + 1) xs) (drop (i + 1) xs))
      ∙ find-append test (map text (take (i + 1) xs)) (map text (drop (i + 1) xs))
      ∙ ap (λ o. option_or o (find test (map text (drop (i + 1) xs)))) (found_next ∙ ap (λ b. cond b (Some (text a)) None) names_one)
