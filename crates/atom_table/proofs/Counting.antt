-- What the keeper's steps leave sound.
use Rattle.std.proofs.Common.{◌≡◌, ◌≢◌, ℕ, ◌+◌, ◌-◌, ◌<◌, ◌≤◌, List, [], ◌∷◌, ◌++◌, length, get_or, set, refl, sym, ap, ◌∙◌, subst, arith, Some, option_map, length-set, get_or-set_same, get_or-set_other}
use mathlib.Core.Logic.{dite}
use native.Mathlib.Decide.{ℕ_discrete, dec_le}
use Rattle.atom_words.specs.Plays.{Alone}
use Rattle.atom_words.specs.Views.{uncounted, with_keeper, without_keeper, keeper_of}
use Rattle.atom_words.specs.Kinds.{counted, once_more, once_less, held_counted, after}
use Rattle.atom_words.specs.Seats.{Has}
use Rattle.atom_words.specs.declared.size.Size.{Size}
use Rattle.atom_words.specs.declared.view.Held.{Held}
use Rattle.atom_words.specs.declared.view.Counted.{Counted}
use Rattle.atom_words.specs.declared.view.View.{View}
use Rattle.atom_words.specs.declared.kind.Kind.TheVariants.{Fetch, Register, Unregister}
use Rattle.atom_words.proofs.Slices.{some_same, or_beyond}
use Rattle.atom_table.specs.Holding.{Spelled, Sound}
use Rattle.atom_table.proofs.Telling.{has_as, sound_more}
use Rattle.atom_table.proofs.Settling.{sound_from, has_by_fixed}

-- a slot that is counted is one of the table
pub counted_inside : (v : View) (cs : List Counted) (k : ℕ) → v.counts ≡ Some cs → 0 < (counted cs k).count → Sound v → k < v.size.slots
counted_inside v cs k e some_ s = dite (dec_le (length cs) k)
    (λ (out : length cs ≤ k). absurd (let no : (counted cs k).count ≡ 0 = ap (λ (c : Counted). c.count) (or_beyond cs k uncounted out) in omega arith))
    (λ (inside : ¬ (length cs ≤ k)). let n = (s.counts cs e).0 in omega arith)

pub sound_joined : (v k : View) → v.size ≡ k.size → Sound v → Sound k → Sound (with_keeper v k)
sound_joined v k same s t = sound_from v k (with_keeper v k) (λ a h. h) refl same (λ cs e. e) s t

pub sound_parted : (v : View) → Sound v → Sound (without_keeper v) × Sound (keeper_of v)
sound_parted v s = (
  sound_from v v (without_keeper v) (λ a h. h) refl refl (λ cs e. cc) s s,
  sound_from v v (keeper_of v) (has_by_fixed v (keeper_of v) refl refl) refl refl (λ cs e. e) s s,
)

-- the counts change at one slot, whose text is a text where it is counted
recounted : (v w : View) (cs : List Counted) (k : ℕ) (c : Counted) → (0 < c.count → Spelled c.text) → k < v.size.slots → v.counts ≡ Some cs → w.counts ≡ Some (set cs k c) → w.held ≡ v.held → w.fixed ≡ v.fixed → w.size ≡ v.size → Sound v → Sound w
recounted v w cs k c spells low at now held fixed same s = record {
  inside = λ a h. subst (λ (y : Size). a.slot < y.slots) (sym same) (s.inside a (has_as v w a held fixed h));
  texts = λ a h. s.texts a (has_as v w a held fixed h);
  alone = λ a h b i. s.alone a (has_as v w a held fixed h) b (has_as v w b held fixed i);
  counts = λ ds e. let is : set cs k c ≡ ds = some_same (set cs k c) ds w.counts now e in let was = s.counts cs at in (
    ap length (sym is) ∙ (length-set cs k c ∙ (was.0 ∙ sym (ap (λ (y : Size). y.slots) same))),
    λ q some_. subst (λ (l : List Counted). Spelled (counted l q).text) is (at_slot was.0 q (subst (λ (l : List Counted). 0 < (counted l q).count) (sym is) some_)),
  );
}
  where
    at_slot : length cs ≡ v.size.slots → (q : ℕ) → 0 < (counted (set cs k c) q).count → Spelled (counted (set cs k c) q).text
    at_slot long q some_ = dite (ℕ_discrete q k)
        (λ (e : q ≡ k). let here : counted (set cs k c) q ≡ c = ap (λ (i : ℕ). get_or (set cs k c) i uncounted) e ∙ get_or-set_same cs k c uncounted (omega arith) in
        subst (λ (d : Counted). Spelled d.text) (sym here) (spells (subst (λ (d : Counted). 0 < d.count) here some_)))
        (λ (ne : q ≢ k). let there : counted (set cs k c) q ≡ counted cs q = get_or-set_other cs k q c uncounted ne in
        subst (λ (d : Counted). Spelled d.text) (sym there) ((s.counts cs at).1 q (subst (λ (d : Counted). 0 < d.count) there some_)))

pub sound_registered : (v w : View) (cs : List Counted) (h : Held) → Has v h → v.counts ≡ Some cs → w ≡ after v (Register h ∷ []) → Sound v → Sound w
sound_registered v w cs h ours at e s = recounted v w cs h.slot (record { count = (counted cs h.slot).count + 1; text = h.text }) (λ _. s.texts h ours) (s.inside h ours) at
    (ap (λ (y : View). y.counts) e ∙ ap (option_map (once_more h)) at) (ap (λ (y : View). y.held) e) (ap (λ (y : View). y.fixed) e) (ap (λ (y : View). y.size) e) s

pub sound_unregistered : (v w : View) (cs : List Counted) (k : ℕ) → 0 < (counted cs k).count → v.counts ≡ Some cs → w ≡ after v (Unregister k ∷ []) → Sound v → Sound w
sound_unregistered v w cs k some_ at e s = recounted v w cs k (record { count = (counted cs k).count - 1; text = (counted cs k).text }) (λ _. (s.counts cs at).1 k some_) (counted_inside v cs k at some_ s) at
    (ap (λ (y : View). y.counts) e ∙ ap (option_map (once_less k)) at) (ap (λ (y : View). y.held) e) (ap (λ (y : View). y.fixed) e) (ap (λ (y : View). y.size) e) s

pub sound_fetched : (v w : View) (cs : List Counted) (k : ℕ) → 0 < (counted cs k).count → v.counts ≡ Some cs → Alone v k (counted cs k).text → w ≡ after v (Fetch k ∷ []) → Sound v → Sound w
sound_fetched v w cs k some_ at alone e s = sound_more v w (record { slot = k; text = (counted cs k).text }) (ap (λ (y : View). y.held) e ∙ ap (λ o. v.held ++ held_counted k o) at)
    (ap (λ (y : View). y.fixed) e) (ap (λ (y : View). y.counts) e) (ap (λ (y : View). y.size) e) (counted_inside v cs k at some_ s) ((s.counts cs at).1 k some_) alone s
