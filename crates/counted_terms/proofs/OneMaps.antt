-- What is held and what is kept are one map, in which a text has one atom.
use Rattle.std.proofs.Common.{◌≡◌, ◌⊎◌, ℕ, ◌+◌, ◌<◌, ◌≤◌, List, [], ◌∷◌, ◌++◌, refl, sym, ap, ◌∙◌, subst, inl, inr, ⊎_elim, arith, Option, Some, None}
use Rattle.std.proofs.lemmas.Option.{same_Some}
use Rattle.pl_term.specs.Tree.{Chars}
use Rattle.atom_words.specs.Kinds.{counted}
use Rattle.atom_words.specs.Seats.{seen, Has}
use Rattle.atom_words.specs.declared.size.Size.{Size}
use Rattle.atom_words.specs.declared.view.Held.{Held}
use Rattle.atom_words.specs.declared.view.Counted.{Counted}
use Rattle.atom_words.specs.declared.view.View.{View}
use Rattle.atom_words.specs.declared.words.Words.{Words}
use Rattle.atom_words.specs.declared.words.AtomSeat.{AtomSeat}
use Rattle.bucket_rows.specs.Walks.{spelled}
use Rattle.atom_table.specs.Holding.{Sound}
use Rattle.atom_table.specs.Naming.{named, names, Lawful}
use Rattle.atom_table.proofs.Counting.{counted_inside}
use Rattle.atom_table.proofs.Naming.{lawful, named_in, has_in, append_some, row_of_text}
use Rattle.counted_terms.specs.Keeping.{Agrees, HoldsOn, Joins, both, kept, text_in}
use Rattle.counted_terms.proofs.Holding.{some_of, else_some, else_none, counted_text, kept_held}

-- a seat that carries counts: they are there, and agree
pub counts_of : (w : Words) (s : AtomSeat) → Joins w s → (cs : List Counted) × ((seen s).counts ≡ Some cs) × Agrees (seen s) cs
counts_of w s j = let c = some_of (seen s).counts j.counts in (c.0, c.1, j.agrees c.0 c.1)

pub held_both : (v : View) → HoldsOn (names v) (both v)
held_both v k t e = else_some (names v k) (text_in v.counts k) t e

pub kept_both : (v : View) (cs : List Counted) → v.counts ≡ Some cs → Agrees v cs → HoldsOn (kept v) (both v)
kept_both v cs at agrees k t e = by (names v k) refl
  where
    by : (o : Option Chars) → names v k ≡ o → both v k ≡ Some t
    by (Some u) h = else_some (names v k) (text_in v.counts k) u h ∙ ap Some (kept_held v cs at agrees k u t h e)
    by None none = else_none (names v k) (text_in v.counts k) none ∙ fixed (named v.fixed k) refl
      where
        fixed : (o : Option Chars) → named v.fixed k ≡ o → text_in v.counts k ≡ Some t
        fixed None f = sym (else_none (named v.fixed k) (text_in v.counts k) f) ∙ e
        fixed (Some u) f = absurd (let no : None ≡ Some u = sym none ∙ append_some v.fixed v.held k u f in cc)

-- an atom of the map: it is held or fixed, or counted, with the words of the text
module _ (v : View) (sound : Sound v) (cs : List Counted) (at : v.counts ≡ Some cs) (agrees : Agrees v cs) where
  record Stands (k : ℕ) (t : Chars) : Type 0 where
    pub of : ((h : Held) × Has v h × (h.slot ≡ k) × (h.text ≡ spelled t)) ⊎ ((0 < (counted cs k).count) × ((counted cs k).text ≡ spelled t))
    pub inside : k < v.size.slots
    pub short : Rattle.pl_term.specs.Texts.size t ≤ 248
    pub scalars : Rattle.std.specs.Str.all_scalars t ≡ Rattle.std.proofs.Common.true

  stands : (k : ℕ) (t : Chars) → both v k ≡ Some t → Stands k t
  stands k t e = by (names v k) refl
    where
      by : (o : Option Chars) → names v k ≡ o → Stands k t
      by (Some u) h = let is : u ≡ t = same_Some u t (sym (else_some (names v k) (text_in v.counts k) u h) ∙ e) in let p = named_in (v.fixed ++ v.held) k t (h ∙ ap Some is) in let has = has_in v p.0 p.1 in let r = row_of_text v sound p.0 t has p.3 in
          record { of = inl (p.0, has, p.2, r.0); inside = subst (λ (i : ℕ). i < v.size.slots) p.2 (sound.inside p.0 has); short = r.1; scalars = r.2 }
      by None none = let c = counted_text cs k t (ap (λ o. text_in o k) (sym at) ∙ (sym (else_none (names v k) (text_in v.counts k) none) ∙ e)) in let s = (sound.counts cs at).1 k c.0 in record {
        of = inr (c.0, s.2 ∙ ap spelled c.1);
        inside = counted_inside v cs k at c.0 sound;
        short = subst (λ (x : Chars). Rattle.pl_term.specs.Texts.size x ≤ 248) c.1 s.0;
        scalars = subst (λ (x : Chars). Rattle.std.specs.Str.all_scalars x ≡ Rattle.std.proofs.Common.true) c.1 s.1;
      }

  one_slot : (a b : ℕ) (t : Chars) → Stands a t → Stands b t → a ≡ b
  one_slot a b t x y = ⊎_elim
      (λ (p : (h : Held) × Has v h × (h.slot ≡ a) × (h.text ≡ spelled t)). ⊎_elim
      (λ (q : (h : Held) × Has v h × (h.slot ≡ b) × (h.text ≡ spelled t)). sym p.2 ∙ (sym ((sound.alone p.0 p.1 q.0 q.1).1 (q.3 ∙ sym p.3)) ∙ q.2))
      (λ (q : (0 < (counted cs b).count) × ((counted cs b).text ≡ spelled t)). sym p.2 ∙ (agrees.alone b q.0 p.0 p.1).1 (p.3 ∙ sym q.1)) y.of)
      (λ (p : (0 < (counted cs a).count) × ((counted cs a).text ≡ spelled t)). ⊎_elim
      (λ (q : (h : Held) × Has v h × (h.slot ≡ b) × (h.text ≡ spelled t)). sym ((agrees.alone a p.0 q.0 q.1).1 (q.3 ∙ sym p.1)) ∙ q.2)
      (λ (q : (0 < (counted cs b).count) × ((counted cs b).text ≡ spelled t)). agrees.unlike a b p.0 q.0 (p.1 ∙ sym q.1)) y.of) x.of

  pub both_unlike : (a b : ℕ) (t : Chars) → both v a ≡ Some t → both v b ≡ Some t → a ≡ b
  both_unlike a b t x y = one_slot a b t (stands a t x) (stands b t y)

  pub both_finite : (a : ℕ) (t : Chars) → both v a ≡ Some t → (a < v.size.slots) × (Rattle.pl_term.specs.Texts.size t ≤ 248) × (Rattle.std.specs.Str.all_scalars t ≡ Rattle.std.proofs.Common.true)
  both_finite a t x = let s = stands a t x in (s.inside, s.short, s.scalars)

pub one_map : (w : Words) (s : AtomSeat) → Joins w s → Lawful (both (seen s))
one_map w s j = let v = seen s in let c = counts_of w s j in let held = lawful w s j.sits j.fixed in record {
  stand = λ a t e. held_both v a t (held.stand a t e);
  unlike = both_unlike v j.sits.2 c.0 c.1 c.2;
  finite = λ a t e. let f = both_finite v j.sits.2 c.0 c.1 c.2 a t e in let inside = subst (λ (z : Size). a < z.slots) j.sits.0.1 f.0 in let ok = w.allowed in (omega (arith, ok.1), f.1, f.2);
}

pub keeps_both : (w : Words) (s : AtomSeat) → Joins w s → HoldsOn (kept (seen s)) (both (seen s))
keeps_both w s j = let c = counts_of w s j in kept_both (seen s) c.0 c.1 c.2
