-- Terms over held and over kept atoms are compared by the numbers of their atoms.
use Rattle.std.proofs.Common.{◌≡◌, ℕ, ◌^◌, false, [], ◌∷◌, refl, sym, ap, ap₂, ◌∙◌, Option, Some, None}
use Rattle.std.specs.List.{All}
use Rattle.std.specs.Option.{IsSome}
use Rattle.std.specs.Str.{all_scalars}
use Rattle.std.proofs.lemmas.Bool.{false≢true}
use Rattle.pl_term.specs.Tree.{Chars, Tree}
use Rattle.pl_model.specs.FirstArguments.{are_apart, head_of, unify_apart}
use Rattle.pl_model.specs.Predicates.{is_excluded}
use Rattle.atom_words.specs.Seats.{seen}
use Rattle.atom_words.specs.declared.words.Words.{Words}
use Rattle.atom_words.specs.declared.words.AtomSeat.{AtomSeat}
use Rattle.term_store.specs.ArgumentKeys.{clause_key, is_any, key_order}
use Rattle.term_store.specs.NumberedNames.{names_of, unify_by_number}
use Rattle.term_store.specs.NameLaws.{names_are_told}
use Rattle.term_store.specs.KeptLaws.{keys_are_told, terms_are_told}
use Rattle.atom_api.specs.Names.{Names}
use Rattle.atom_table.specs.Naming.{names, Lawful}
use Rattle.world_api.specs.Texts.{or_no_text, text_of}
use Rattle.counted_terms.specs.Keeping.{Joins, both, kept}
use Rattle.counted_terms.specs.CountedTerms.{IsCounted, said}
use Rattle.counted_terms.proofs.Holding.{some_of}
use Rattle.counted_terms.proofs.OneMaps.{one_map, held_both, keeps_both}
use Rattle.counted_terms.proofs.Saying.{all_of, at_any, fixed_named, kept_fixed, kept_some, said_same}

-- TEXTS, and what stands for a number without one
no_text : (f : Chars) → all_scalars (2 ^ 32 ∷ f) ≡ false
no_text f = refl

tails : (f g : Chars) → (let l : Chars = 2 ^ 32 ∷ f in let r : Chars = 2 ^ 32 ∷ g in l ≡ r) → f ≡ g
tails f g e = cc

one_number : (a b : ℕ) → (let l : Chars = a ∷ [] in let r : Chars = b ∷ [] in l ≡ r) → a ≡ b
one_number a b e = cc

module _ (m : Names) (lawful : Lawful m) where
  differ : (a : ℕ) (t g : Chars) → m a ≡ Some t → (let r : Chars = 2 ^ 32 ∷ g in t ≡ r) → ⊥
  differ a t g held same = false≢true (sym (no_text g) ∙ ap all_scalars (sym same) ∙ (lawful.finite a t held).2)

  apart_by : (a b : ℕ) (o p : Option Chars) → m a ≡ o → m b ≡ p → or_no_text a o ≡ or_no_text b p → a ≡ b
  apart_by a b None None d e same = one_number a b (tails (a ∷ []) (b ∷ []) same)
  apart_by a b None (Some u) d e same = absurd (differ b u (a ∷ []) e (sym same))
  apart_by a b (Some t) None d e same = absurd (differ a t (b ∷ []) d same)
  apart_by a b (Some t) (Some u) d e same = lawful.unlike a b t d (e ∙ ap Some (sym same))

  pub texts_apart : (a b : ℕ) → text_of m a ≡ text_of m b → a ≡ b
  texts_apart a b same = apart_by a b (m a) (m b) refl refl same

-- A SEAT THAT CARRIES THE KEEPER'S COUNTS
module _ (w : Words) (s : AtomSeat) (j : Joins w s) where
  pub both_apart : (a b : ℕ) → text_of (both (seen s)) a ≡ text_of (both (seen s)) b → a ≡ b
  both_apart = texts_apart (both (seen s)) (one_map w s j)

  said_held : (t : Tree) → All (λ a. IsSome (names (seen s) a)) (names_of t) → said (both (seen s)) t ≡ said (names (seen s)) t
  said_held t held = names_are_told t (text_of (both (seen s))) (text_of (names (seen s))) (all_of (λ k. text_of (both (seen s)) k ≡ text_of (names (seen s)) k) (names_of t)
      (λ k e. let x = some_of (names (seen s) k) (at_any (λ a. IsSome (names (seen s) a)) (names_of t) k held e) in ap (or_no_text k) (held_both (seen s) k x.0 x.1 ∙ sym x.1)))

  pub said_kept : (u : Tree) → IsCounted u (seen s) → said (both (seen s)) u ≡ said (kept (seen s)) u
  said_kept u counted = said_same (both (seen s)) (kept (seen s)) u
      (λ k h. let x = some_of (kept (seen s) k) (kept_some (seen s) k (counted k h)) in keeps_both w s j k x.0 x.1 ∙ sym x.1)
      (λ k c e. let own = kept_fixed (seen s) k c j.fixed (fixed_named w s j.sits j.fixed k c e) in keeps_both w s j k c own ∙ sym own)

  pub unified : (t u : Tree) → All (λ a. IsSome (names (seen s) a)) (names_of t) → IsCounted u (seen s) → unify_by_number t u ≡ unify_apart (said (names (seen s)) t) (said (kept (seen s)) u)
  unified t u held counted = terms_are_told (text_of (both (seen s))) both_apart t u ∙ ap₂ unify_apart (said_held t held) (said_kept u counted)

  pub excluded : (t u : Tree) → All (λ a. IsSome (names (seen s) a)) (names_of t) → IsCounted u (seen s)
      → are_apart key_order is_any (clause_key t) (clause_key u) ≡ is_excluded (head_of (said (names (seen s)) t)) (head_of (said (kept (seen s)) u))
  excluded t u held counted = keys_are_told (text_of (both (seen s))) both_apart t u ∙ ap₂ (λ (x y : Tree). is_excluded (head_of x) (head_of y)) (said_held t held) (said_kept u counted)
