-- What a seat holds and keeps, before and after a step.
use Rattle.std.proofs.Common.{◌≡◌, ◌≢◌, ◌⊎◌, ℕ, ◌<◌, Bool, List, [], ◌∷◌, ◌++◌, length, refl, sym, ap, ◌∙◌, subst, inl, inr, ⊎_elim, arith, append_assoc, Option, Some, None, if◌then◌else◌}
use Rattle.std.specs.Option.{IsSome}
use Rattle.std.proofs.Math.Path.{fun_ext}
use Rattle.std.proofs.lemmas.Bool.{cases_eq, eq-eqb, ne_eqb}
use Rattle.std.proofs.lemmas.Option.{same_Some}
use mathlib.Core.Option.{some}
use lib.ListN.{get_elem?}
use Rattle.pl_term.specs.Tree.{Chars}
use Rattle.atom_words.specs.Chains.{In}
use Rattle.atom_words.specs.Kinds.{counted, held_counted, view_after}
use Rattle.atom_words.specs.Seats.{Has}
use Rattle.atom_words.specs.declared.view.Held.{Held}
use Rattle.atom_words.specs.declared.view.Counted.{Counted}
use Rattle.atom_words.specs.declared.view.View.{View}
use Rattle.atom_words.specs.declared.kind.Kind.TheVariants.{Fetch}
use Rattle.atom_words.proofs.Slices.{at_snoc}
use Rattle.bucket_rows.proofs.Reading.{alone_as}
use Rattle.atom_api.specs.Names.{Names, with_name}
use Rattle.atom_table.specs.Holding.{unspelled}
use Rattle.atom_table.specs.Naming.{named, names}
use Rattle.atom_table.proofs.Naming.{named_in, named_snoc, append_some, has_in}
use Rattle.counted_terms.specs.Keeping.{Agrees, Fetched, HoldsOn, kept, or_else, tally, text_in}
use Rattle.counted_terms.proofs.Times.{in_once, not_once}

-- MAPS
pub with_here : (m : Names) (a : ℕ) (t : Chars) (k : ℕ) → k ≡ a → with_name m a t k ≡ Some t
with_here m a t k e = ap (λ (b : Bool). if b then Some t else m k) (eq-eqb k a e)

pub with_else : (m : Names) (a : ℕ) (t : Chars) (k : ℕ) → k ≢ a → with_name m a t k ≡ m k
with_else m a t k e = ap (λ (b : Bool). if b then Some t else m k) (ne_eqb k a e)

-- one name more, that of a number that had this text or none
pub holds_with : (m : Names) (a : ℕ) (t : Chars) → ((u : Chars) → m a ≡ Some u → t ≡ u) → HoldsOn m (with_name m a t)
holds_with m a t own k u e = elim (cases_eq k a) [
  | inl is ↦ with_here m a t k is ∙ ap Some (own u (ap m (sym is) ∙ e))
  | inr ne ↦ with_else m a t k ne ∙ e
]

pub some_of : {A : Type 0} (o : Option A) → IsSome o → (x : A) × (o ≡ Some x)
some_of None s = cc
some_of (Some x) s = (x, refl)

pub else_some : (o p : Option Chars) (t : Chars) → o ≡ Some t → or_else o p ≡ Some t
else_some o p t e = ap (λ (q : Option Chars). or_else q p) e

pub else_none : (o p : Option Chars) → o ≡ None → or_else o p ≡ p
else_none o p e = ap (λ (q : Option Chars). or_else q p) e

-- COUNTED TEXTS
pub text_counted : (cs : List Counted) (k : ℕ) → 0 < (counted cs k).count → text_in (Some cs) k ≡ Some (unspelled (counted cs k).text)
text_counted cs k some_ = ap (λ (b : Bool). if b then None else Some (unspelled (counted cs k).text)) (ne_eqb (counted cs k).count 0 (λ none. omega arith))

pub counted_text : (cs : List Counted) (k : ℕ) (t : Chars) → text_in (Some cs) k ≡ Some t → (0 < (counted cs k).count) × (unspelled (counted cs k).text ≡ t)
counted_text cs k t e = elim (cases_eq (counted cs k).count 0) [
  | inl none ↦ absurd (let no : text_in (Some cs) k ≡ None = ap (λ (b : Bool). if b then None else Some (unspelled (counted cs k).text)) (eq-eqb (counted cs k).count 0 none) in let bad = sym no ∙ e in cc)
  | inr ne ↦ let some_ : 0 < (counted cs k).count = omega arith in (some_, same_Some (unspelled (counted cs k).text) t (sym (text_counted cs k some_) ∙ e))
]

-- WHAT IS HELD AND WHAT IS KEPT
module _ (v : View) (cs : List Counted) (at : v.counts ≡ Some cs) (agrees : Agrees v cs) where
  -- a counted atom that is held or fixed has the text that is counted
  held_is : (k : ℕ) (t : Chars) → 0 < (counted cs k).count → names v k ≡ Some t → t ≡ unspelled (counted cs k).text
  held_is k t some_ e = let p = named_in (v.fixed ++ v.held) k t e in sym p.3 ∙ ap unspelled ((agrees.alone k some_ p.0 (has_in v p.0 p.1)).0 p.2)

  pub kept_counted : (k : ℕ) → 0 < (counted cs k).count → kept v k ≡ Some (unspelled (counted cs k).text)
  kept_counted k some_ = by (named v.fixed k) refl
    where
      by : (o : Option Chars) → named v.fixed k ≡ o → kept v k ≡ Some (unspelled (counted cs k).text)
      by None e = else_none (named v.fixed k) (text_in v.counts k) e ∙ (ap (λ o. text_in o k) at ∙ text_counted cs k some_)
      by (Some u) e = else_some (named v.fixed k) (text_in v.counts k) u e ∙ ap Some (held_is k u some_ (append_some v.fixed v.held k u e))

  -- what is both held and kept has one text
  pub kept_held : (k : ℕ) (t u : Chars) → names v k ≡ Some t → kept v k ≡ Some u → t ≡ u
  kept_held k t u e f = by (named v.fixed k) refl
    where
      by : (o : Option Chars) → named v.fixed k ≡ o → t ≡ u
      by None none = let c = counted_text cs k u (ap (λ o. text_in o k) (sym at) ∙ (sym (else_none (named v.fixed k) (text_in v.counts k) none) ∙ f)) in held_is k t c.0 e ∙ c.1
      by (Some x) some_ = same_Some t u (sym e ∙ (append_some v.fixed v.held k x some_ ∙ (sym (else_some (named v.fixed k) (text_in v.counts k) x some_) ∙ f)))

-- THE SAME AGREEMENT
pub agrees_as : (v w : View) (cs : List Counted) → w.held ≡ v.held → w.fixed ≡ v.fixed → Agrees v cs → Agrees w cs
agrees_as v w cs held fixed a = record { alone = λ k some_. alone_as w v k (counted cs k).text (sym held) (sym fixed) (a.alone k some_); unlike = a.unlike }

-- A COUNTED ATOM IS HELD
module _ (v w : View) (cs : List Counted) (a : ℕ) (at : v.counts ≡ Some cs) (some_ : 0 < (counted cs a).count) (agrees : Agrees v cs) (e : w ≡ view_after v (Fetch a)) where
  abbrev row : List ℕ
  row = (counted cs a).text

  abbrev more : Held
  more = record { slot = a; text = row }

  held_now : w.held ≡ v.held ++ more ∷ []
  held_now = ap (λ (y : View). y.held) e ∙ ap (λ o. v.held ++ held_counted a o) at

  fixed_now : w.fixed ≡ v.fixed
  fixed_now = ap (λ (y : View). y.fixed) e

  fetched_names : names w ≡ with_name (names v) a (unspelled row)
  fetched_names = (λ i. named (fixed_now i ++ held_now i)) ∙ (ap named (sym (append_assoc v.fixed v.held (more ∷ []))) ∙ fun_ext (λ k. named_snoc (v.fixed ++ v.held) a row k (λ c j same. (agrees.alone a some_ c (has_in v c j)).0 same)))

  fetched_named : (k : ℕ) → k ≡ a → names w k ≡ kept v k
  fetched_named k is = ap (λ (m : Names). m k) fetched_names ∙ (with_here (names v) a (unspelled row) k is ∙ sym (ap (kept v) is ∙ kept_counted v cs at agrees a some_))

  fetched_others : (k : ℕ) → k ≢ a → names w k ≡ names v k
  fetched_others k ne = ap (λ (m : Names). m k) fetched_names ∙ with_else (names v) a (unspelled row) k ne

  fetched_holds : HoldsOn (names v) (names w)
  fetched_holds = subst (HoldsOn (names v)) (sym fetched_names) (holds_with (names v) a (unspelled row) (λ u h. sym (held_is v cs at agrees a u some_ h)))

  pub fetched_once : Fetched (a ∷ []) v w
  fetched_once = record {
    named = λ k h. fetched_named k (in_once a k h);
    others = λ k none. fetched_others k (not_once a k none);
    holds = fetched_holds;
    keeps = ap kept e;
    counts = λ k. ap (λ (y : View). tally y k) e;
    stays = record { size = ap (λ (y : View). y.size) e; own = ap (λ (y : View). y.own) e; fixed = ap (λ (y : View). y.fixed) e; cycle = ap (λ (y : View). y.cycle) e; sweep = ap (λ (y : View). y.sweep) e; undealt = ap (λ (y : View). y.undealt) e; risen = ap (λ (y : View). y.risen) e; refusals = ap (λ (y : View). y.refusals) e; asked = ap (λ (y : View). y.asked) e };
  }

  pub fetched_agrees : Agrees w cs
  fetched_agrees = record { alone = λ k other c ours. ⊎_elim (λ (h : Has v c). agrees.alone k other c h) (λ (is : more ≡ c). subst (λ (y : Held). (y.slot ≡ k → y.text ≡ (counted cs k).text) × (y.text ≡ (counted cs k).text → y.slot ≡ k)) is (self k other)) (cases c ours); unlike = agrees.unlike }
    where
      self : (k : ℕ) → 0 < (counted cs k).count → (a ≡ k → row ≡ (counted cs k).text) × (row ≡ (counted cs k).text → a ≡ k)
      self k other = ((λ same. ap (λ (i : ℕ). (counted cs i).text) same), λ same. agrees.unlike a k some_ other same)

      cases : (c : Held) → Has w c → Has v c ⊎ (more ≡ c)
      cases c h = ⊎_elim
          (λ (i : In c w.held). let j : In c (v.held ++ more ∷ []) = subst (In c) held_now i in ⊎_elim (λ (x : get_elem? v.held j.0 ≡ some c). inl (inl (j.0, x))) (λ (x : (j.0 ≡ length v.held) × (more ≡ c)). inr x.1) (at_snoc v.held more c j.0 j.1))
          (λ (i : In c w.fixed). inl (inr (subst (In c) fixed_now i))) h
