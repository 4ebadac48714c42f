-- What is kept after the count of one atom has changed.
use Rattle.std.proofs.Common.{◌≡◌, ◌≢◌, ◌⊎◌, ℕ, ◌+◌, ◌-◌, ◌<◌, List, [], ◌∷◌, length, get_or, set, refl, sym, ap, ◌∙◌, subst, inl, inr, ⊎_elim, arith, Option, Some, None, option_map, if◌then◌else◌, get_or-set_same, get_or-set_other}
use Rattle.std.specs.Prelude.{◌==◌}
use Rattle.std.specs.Option.{IsSome}
use Rattle.std.proofs.Math.Path.{fun_ext}
use Rattle.std.proofs.lemmas.Bool.{cases_eq}
use Rattle.std.proofs.lemmas.Option.{same_Some}
use Rattle.pl_term.specs.Tree.{Chars}
use Rattle.atom_words.specs.Plays.{Alone}
use Rattle.atom_words.specs.Views.{uncounted}
use Rattle.atom_words.specs.Kinds.{counted, once_more, once_less, view_after}
use Rattle.atom_words.specs.Seats.{Has}
use Rattle.atom_words.specs.declared.view.Held.{Held}
use Rattle.atom_words.specs.declared.view.Counted.{Counted}
use Rattle.atom_words.specs.declared.view.View.{View}
use Rattle.atom_words.specs.declared.kind.Kind.TheVariants.{Register, Unregister}
use Rattle.bucket_rows.proofs.Reading.{alone_as}
use Rattle.atom_api.specs.Names.{with_name}
use Rattle.atom_table.specs.Holding.{unspelled, Sound}
use Rattle.atom_table.specs.Naming.{named, names}
use Rattle.atom_table.specs.Opening.{fixed_slots}
use Rattle.atom_table.proofs.Naming.{append_some}
use Rattle.counted_terms.specs.Keeping.{Agrees, HoldsOn, Registered, Unregistered, kept, one_at, or_else, tally, text_in, times_in}
use Rattle.counted_terms.proofs.Showing.{counted_low}
use Rattle.counted_terms.proofs.Times.{one_here, one_else, once, in_once, not_once}
use Rattle.counted_terms.proofs.Holding.{with_here, with_else, holds_with, else_some, else_none, text_counted, kept_held}

-- the counts after a change at one place
pub set_here : (cs : List Counted) (k : ℕ) (c : Counted) (q : ℕ) → k < length cs → q ≡ k → counted (set cs k c) q ≡ c
set_here cs k c q low e = ap (λ (i : ℕ). get_or (set cs k c) i uncounted) e ∙ get_or-set_same cs k c uncounted low

pub set_else : (cs : List Counted) (k : ℕ) (c : Counted) (q : ℕ) → q ≢ k → counted (set cs k c) q ≡ counted cs q
set_else cs k c q ne = get_or-set_other cs k q c uncounted ne

module _ (v w : View) (cs : List Counted) (a : ℕ) (c : Counted) (at : v.counts ≡ Some cs) (low : a < length cs) (now : w.counts ≡ Some (set cs a c)) (held : w.held ≡ v.held) (fixed : w.fixed ≡ v.fixed) where
  pub set_agrees : Agrees v cs → (0 < c.count → Alone v a c.text) → ((j : ℕ) → 0 < (counted cs j).count → (counted cs j).text ≡ c.text → j ≡ a) → (ds : List Counted) → w.counts ≡ Some ds → Agrees w ds
  set_agrees agrees alone apart ds e = subst (Agrees w) (same_Some (set cs a c) ds (sym now ∙ e)) record {
    alone = λ q some_. alone_as w v q (counted (set cs a c) q).text (sym held) (sym fixed) (elim (cases_eq q a) [
      | inl is ↦ let here = set_here cs a c q low is in subst (λ (d : Counted). Alone v q d.text) (sym here) (subst (λ (i : ℕ). Alone v i c.text) (sym is) (alone (subst (λ (d : Counted). 0 < d.count) here some_)))
      | inr ne ↦ let there = set_else cs a c q ne in subst (λ (d : Counted). Alone v q d.text) (sym there) (agrees.alone q (subst (λ (d : Counted). 0 < d.count) there some_))
    ]);
    unlike = λ j q x y same. elim (cases_eq j a) [
      | inl is ↦ elim (cases_eq q a) [
        | inl too ↦ is ∙ sym too
        | inr ne ↦ let here = set_here cs a c j low is in let there = set_else cs a c q ne in is ∙ sym (apart q (subst (λ (d : Counted). 0 < d.count) there y) (ap (λ (d : Counted). d.text) (sym there) ∙ (sym same ∙ ap (λ (d : Counted). d.text) here)))
      ]
      | inr ne ↦ let there = set_else cs a c j ne in elim (cases_eq q a) [
        | inl is ↦ let here = set_here cs a c q low is in apart j (subst (λ (d : Counted). 0 < d.count) there x) (ap (λ (d : Counted). d.text) (sym there) ∙ (same ∙ ap (λ (d : Counted). d.text) here)) ∙ sym is
        | inr too ↦ let other = set_else cs a c q too in agrees.unlike j q (subst (λ (d : Counted). 0 < d.count) there x) (subst (λ (d : Counted). 0 < d.count) other y) (ap (λ (d : Counted). d.text) (sym there) ∙ (same ∙ ap (λ (d : Counted). d.text) other))
      ]
    ];
  }

  pub set_tally_here : (q : ℕ) → q ≡ a → tally w q ≡ c.count
  set_tally_here q is = ap (λ o. times_in o q) now ∙ ap (λ (d : Counted). d.count) (set_here cs a c q low is)

  pub set_tally_else : (q : ℕ) → q ≢ a → tally w q ≡ tally v q
  set_tally_else q ne = ap (λ o. times_in o q) now ∙ (ap (λ (d : Counted). d.count) (set_else cs a c q ne) ∙ sym (ap (λ o. times_in o q) at))

  pub set_kept_else : (q : ℕ) → q ≢ a → kept w q ≡ kept v q
  set_kept_else q ne = (λ i. or_else (named (fixed i) q) (text_in (now i) q))
      ∙ (ap (λ (d : Counted). or_else (named v.fixed q) (if d.count == 0 then None else Some (unspelled d.text))) (set_else cs a c q ne) ∙ sym (ap (λ o. or_else (named v.fixed q) (text_in o q)) at))

  -- where the atom is counted still
  pub set_kept_here : 0 < c.count → kept w a ≡ or_else (named v.fixed a) (Some (unspelled c.text))
  set_kept_here some_ = let here = set_here cs a c a low refl in (λ i. or_else (named (fixed i) a) (text_in (now i) a))
      ∙ ap (or_else (named v.fixed a)) (text_counted (set cs a c) a (subst (λ (d : Counted). 0 < d.count) (sym here) some_) ∙ ap (λ (d : Counted). Some (unspelled d.text)) here)

-- COUNTED ONCE MORE
module _ (v w : View) (cs : List Counted) (h : Held) (t : Chars) (at : v.counts ≡ Some cs) (agrees : Agrees v cs) (sound : Sound v) (ours : Has v h) (text : unspelled h.text ≡ t) (has : names v h.slot ≡ Some t) (e : w ≡ view_after v (Register h)) where
  abbrev new : Counted
  new = record { count = (counted cs h.slot).count + 1; text = h.text }

  low : h.slot < length cs
  low = let n = (sound.counts cs at).0 in let m = sound.inside h ours in omega arith

  now : w.counts ≡ Some (set cs h.slot new)
  now = ap (λ (y : View). y.counts) e ∙ ap (option_map (once_more h)) at

  held : w.held ≡ v.held
  held = ap (λ (y : View). y.held) e

  fixed : w.fixed ≡ v.fixed
  fixed = ap (λ (y : View). y.fixed) e

  pub more_agrees : (ds : List Counted) → w.counts ≡ Some ds → Agrees w ds
  more_agrees = set_agrees v w cs h.slot new at low now held fixed agrees (λ _ c has_. sound.alone h ours c has_) (λ j some_ same. sym ((agrees.alone j some_ h ours).1 (sym same)))

  more_tally : (k : ℕ) → tally w k ≡ one_at h.slot k + tally v k
  more_tally k = elim (cases_eq k h.slot) [
    | inl is ↦ let one = one_here h.slot k is in let here = set_tally_here v w cs h.slot new at low now held fixed k is in let was : tally v k ≡ (counted cs h.slot).count = ap (λ o. times_in o k) at ∙ ap (λ (i : ℕ). (counted cs i).count) is in omega arith
    | inr ne ↦ let none = one_else h.slot k ne in let there = set_tally_else v w cs h.slot new at low now held fixed k ne in omega arith
  ]

  here_is : kept w h.slot ≡ Some t
  here_is = by (named v.fixed h.slot) refl
    where
      first : kept w h.slot ≡ or_else (named v.fixed h.slot) (Some (unspelled h.text))
      first = set_kept_here v w cs h.slot new at low now held fixed (omega arith)

      by : (o : Option Chars) → named v.fixed h.slot ≡ o → kept w h.slot ≡ Some t
      by None none = first ∙ (else_none (named v.fixed h.slot) (Some (unspelled h.text)) none ∙ ap Some text)
      by (Some u) some_ = first ∙ (else_some (named v.fixed h.slot) (Some (unspelled h.text)) u some_ ∙ (sym (append_some v.fixed v.held h.slot u some_) ∙ has))

  more_kept : kept w ≡ with_name (kept v) h.slot t
  more_kept = fun_ext (λ k. elim (cases_eq k h.slot) [
    | inl is ↦ ap (kept w) is ∙ (here_is ∙ sym (with_here (kept v) h.slot t k is))
    | inr ne ↦ set_kept_else v w cs h.slot new at low now held fixed k ne ∙ sym (with_else (kept v) h.slot t k ne)
  ])

  more_holds : HoldsOn (kept v) (kept w)
  more_holds = subst (HoldsOn (kept v)) (sym more_kept) (holds_with (kept v) h.slot t (λ u k. kept_held v cs at agrees h.slot t u has k))

  pub more_once : Registered (h.slot ∷ []) v w
  more_once = record {
    named = λ k some_. let is = in_once h.slot k some_ in ap (kept w) is ∙ (here_is ∙ sym (ap (names v) is ∙ has));
    others = λ k none. set_kept_else v w cs h.slot new at low now held fixed k (not_once h.slot k none);
    holds = more_holds;
    held = ap names e;
    counts = λ k. let one = once h.slot k in let sum = more_tally k in omega arith;
    stays = record { size = ap (λ (y : View). y.size) e; own = ap (λ (y : View). y.own) e; fixed = ap (λ (y : View). y.fixed) e; cycle = ap (λ (y : View). y.cycle) e; sweep = ap (λ (y : View). y.sweep) e; undealt = ap (λ (y : View). y.undealt) e; risen = ap (λ (y : View). y.risen) e; refusals = ap (λ (y : View). y.refusals) e; asked = ap (λ (y : View). y.asked) e };
  }

not_some : (o : Option Chars) → o ≡ None → IsSome o → ⊥
not_some None e s = cc
not_some (Some x) e s = cc

-- COUNTED ONCE LESS
module _ (v w : View) (cs : List Counted) (a : ℕ) (at : v.counts ≡ Some cs) (agrees : Agrees v cs) (some_ : 0 < (counted cs a).count) (e : w ≡ view_after v (Unregister a)) where
  abbrev left : Counted
  left = record { count = (counted cs a).count - 1; text = (counted cs a).text }

  less_low : a < length cs
  less_low = counted_low cs a some_

  less_now : w.counts ≡ Some (set cs a left)
  less_now = ap (λ (y : View). y.counts) e ∙ ap (option_map (once_less a)) at

  less_held : w.held ≡ v.held
  less_held = ap (λ (y : View). y.held) e

  less_fixed : w.fixed ≡ v.fixed
  less_fixed = ap (λ (y : View). y.fixed) e

  pub less_agrees : (ds : List Counted) → w.counts ≡ Some ds → Agrees w ds
  less_agrees = set_agrees v w cs a left at less_low less_now less_held less_fixed agrees (λ _. agrees.alone a some_) (λ j other same. agrees.unlike j a other some_ same)

  less_tally : (k : ℕ) → one_at a k + tally w k ≡ tally v k
  less_tally k = elim (cases_eq k a) [
    | inl is ↦ let one = one_here a k is in let here = set_tally_here v w cs a left at less_low less_now less_held less_fixed k is in let was : tally v k ≡ (counted cs a).count = ap (λ o. times_in o k) at ∙ ap (λ (i : ℕ). (counted cs i).count) is in omega arith
    | inr ne ↦ let none = one_else a k ne in let there = set_tally_else v w cs a left at less_low less_now less_held less_fixed k ne in omega arith
  ]

  at_fixed : (u : Chars) → named v.fixed a ≡ Some u → kept w a ≡ kept v a
  at_fixed u f = ap (λ l. or_else (named l a) (text_in w.counts a)) less_fixed ∙ (else_some (named v.fixed a) (text_in w.counts a) u f ∙ sym (else_some (named v.fixed a) (text_in v.counts a) u f))

  less_kept : (k : ℕ) → (0 < tally w k) ⊎ IsSome (named v.fixed k) → kept w k ≡ kept v k
  less_kept k still = elim (cases_eq k a) [
    | inl is ↦ ap (kept w) is ∙ (by (named v.fixed a) refl (subst (λ (i : ℕ). (0 < tally w i) ⊎ IsSome (named v.fixed i)) is still) ∙ ap (kept v) (sym is))
    | inr ne ↦ set_kept_else v w cs a left at less_low less_now less_held less_fixed k ne
  ]
    where
      by : (o : Option Chars) → named v.fixed a ≡ o → (0 < tally w a) ⊎ IsSome (named v.fixed a) → kept w a ≡ kept v a
      by (Some u) f _ = at_fixed u f
      by None f s = ⊎_elim
          (λ (more : 0 < tally w a). set_kept_here v w cs a left at less_low less_now less_held less_fixed (subst (λ (n : ℕ). 0 < n) (set_tally_here v w cs a left at less_low less_now less_held less_fixed a refl) more)
          ∙ (ap (or_else (named v.fixed a)) (sym (text_counted cs a some_)) ∙ sym (ap (λ o. or_else (named v.fixed a) (text_in o a)) at)))
          (λ (no : IsSome (named v.fixed a)). absurd (not_some (named v.fixed a) f no)) s

  pub less_once : v.fixed ≡ fixed_slots → Unregistered (a ∷ []) v w
  less_once fixed_is = record {
    keeps = λ k still. less_kept k (⊎_elim (λ (h : 0 < tally w k). inl h) (λ (h : IsSome (named fixed_slots k)). inr (subst (λ (l : List Held). IsSome (named l k)) (sym fixed_is) h)) still);
    held = ap names e;
    counts = λ k. let one = once a k in let sum = less_tally k in omega arith;
    stays = record { size = ap (λ (y : View). y.size) e; own = ap (λ (y : View). y.own) e; fixed = ap (λ (y : View). y.fixed) e; cycle = ap (λ (y : View). y.cycle) e; sweep = ap (λ (y : View). y.sweep) e; undealt = ap (λ (y : View). y.undealt) e; risen = ap (λ (y : View). y.risen) e; refusals = ap (λ (y : View). y.refusals) e; asked = ap (λ (y : View). y.asked) e };
  }

-- the counts are the same
pub same_counts : (v w : View) (cs : List Counted) → v.counts ≡ Some cs → w.counts ≡ v.counts → Agrees w cs → (ds : List Counted) → w.counts ≡ Some ds → Agrees w ds
same_counts v w cs at same agrees ds e = subst (Agrees w) (same_Some cs ds (sym (same ∙ at) ∙ e)) agrees
