-- The fixed atoms are made, and the seats of a new table dealt.
use Rattle.std.proofs.Common.{◌≡◌, ℕ, ◌+◌, ◌-◌, ◌<◌, ◌≤◌, true, false, List, [], ◌∷◌, ◌++◌, length, get_or, take, map, replicate, refl, sym, ap, ◌∙◌, subst, inl, inr, ⊎_elim, arith, Some, None, Ok, Err, Result, IfOk, insert, ◌≢◌, Bool, if◌then◌else◌, eq-eqb}
use Rattle.std.specs.Str.{all_scalars}
use Rattle.std.proofs.lemmas.List.{get_or-replicate, take_more}
use mathlib.Core.List.{map-append}
use mathlib.Core.Logic.{dite}
use native.Mathlib.Decide.{dec_le}
use mathlib.Core.Option.{some}
use lib.ListN.{get_elem?, length-replicate}
use Rattle.pl_term.specs.Tree.{Chars}
use Rattle.pl_term.specs.Texts.{size}
use Rattle.atom_words.specs.Chains.{In}
use Rattle.atom_words.specs.Plays.{Alone}
use Rattle.atom_words.specs.Views.{uncounted, first_view, without_keeper, collector_of, without_collector, engine_of, with_one_dealt}
use Rattle.atom_words.specs.Kinds.{Sitting, counted, rising, after}
use Rattle.atom_words.specs.Seats.{Unchanged, Walking, seen, Same, Has, AtTable}
use Rattle.atom_words.specs.declared.size.Size.{Size}
use Rattle.atom_words.specs.declared.view.Held.{Held}
use Rattle.atom_words.specs.declared.view.Counted.{Counted}
use Rattle.atom_words.specs.declared.view.Cycling.{Cycling}
use Rattle.atom_words.specs.declared.view.View.{View}
use Rattle.atom_words.specs.declared.kind.Kind.TheVariants.{Fix}
use Rattle.atom_words.specs.declared.words.Words.{Words}
use Rattle.atom_words.specs.declared.words.AtomSeat.{AtomSeat}
use Rattle.atom_words.proofs.Slices.{in_none, at_snoc, in_append, or_beyond}
use Rattle.bucket_rows.specs.Walks.{spelled, Aside}
use Rattle.bucket_rows.proofs.Reading.{alone_as}
use Rattle.bucket_rows.proofs.Making.{Beside}
use Rattle.atom_api.specs.declared.interned.Interned.{Interned}
use Rattle.atom_table.specs.Holding.{Sound, Sits, IsEngine, Rest, Told}
use Rattle.atom_table.specs.Opening.{fixed_slot, fixed_slots, Fresh, FreshFrom, Source, Stays, Carries, Placed, Low}
use Rattle.atom_table.proofs.Spelling.{spelled_is}
use Rattle.atom_table.proofs.Telling.{sound_more}

-- PLACING
pub stays_trans : (u v w : View) → Stays u v → Stays v w → Stays u w
stays_trans u v w a b = record { gone = b.gone ∙ a.gone; size = b.size ∙ a.size; own = b.own ∙ a.own; fixed = b.fixed ∙ a.fixed; counts = b.counts ∙ a.counts; undealt = b.undealt ∙ a.undealt; cycle = b.cycle ∙ a.cycle; sweep = b.sweep ∙ a.sweep; risen = b.risen ∙ a.risen }

pub stays_refl : (v : View) → Stays v v
stays_refl v = record { gone = refl; size = refl; own = refl; fixed = refl; counts = refl; undealt = refl; cycle = refl; sweep = refl; risen = refl }

pub stays_aside : (v w : View) → Aside v w → Stays v w
stays_aside v w a = record { gone = a.gone; size = a.size; own = a.own; fixed = a.fixed; counts = a.counts; undealt = a.undealt; cycle = a.cycle; sweep = a.sweep; risen = a.risen }

-- after a reserve, and the rest
pub placed_reserved : (row : List ℕ) (k : ℕ) (v u w : View) → Beside v u → v.own ≡ None → w.held ≡ u.held ++ record { slot = k; text = row } ∷ [] → Alone u k row → k < v.size.slots → w.own ≡ None → Carries u w → Placed row k v w
placed_reserved row k v u w b none held alone inside free c = record {
  held = held ∙ ap (λ l. l ++ record { slot = k; text = row } ∷ []) b.held;
  alone = alone_as v u k row b.held b.fixed alone;
  inside = inside;
  stays = record { gone = c.gone ∙ b.gone; size = c.size ∙ b.size; own = free ∙ sym none; fixed = c.fixed ∙ b.fixed; counts = c.counts ∙ b.counts; undealt = c.undealt ∙ b.undealt; cycle = c.cycle ∙ b.cycle; sweep = c.sweep ∙ b.sweep; risen = c.risen ∙ b.risen };
}

-- after a walk that held nothing
pub placed_walked : (row : List ℕ) (k : ℕ) (v u w : View) → Aside v u → u.held ≡ v.held → Placed row k u w → Placed row k v w
placed_walked row k v u w a held p = record {
  held = p.held ∙ ap (λ l. l ++ record { slot = k; text = row } ∷ []) held;
  alone = alone_as v u k row held a.fixed p.alone;
  inside = subst (λ (y : Size). k < y.slots) a.size p.inside;
  stays = stays_trans v u w (stays_aside v u a) p.stays;
}

pub sits_placed : (words : Words) (s r : AtomSeat) (k : ℕ) (t : Chars) → Same s r → Placed (spelled t) k (seen s) (seen r) → size t ≤ 248 → all_scalars t ≡ true → Sits words s → Sits words r
sits_placed words s r k t same p short scalars sits = (
  (same.0 ∙ sits.0.0, p.stays.size ∙ sits.0.1, p.stays.gone ∙ sits.0.2),
  p.stays.own ∙ sits.1,
  sound_more (seen s) (seen r) (record { slot = k; text = spelled t }) p.held p.stays.fixed p.stays.counts p.stays.size p.inside (spelled_is t short scalars) p.alone sits.2,
)

pub low_placed : (row : List ℕ) (k : ℕ) (v w : View) → Placed row k v w → k < 256 → Low v → Low w
low_placed row k v w p small low a i = let n : Held = record { slot = k; text = row } in let j : In a (v.held ++ n ∷ []) = subst (In a) p.held i in
    ⊎_elim (λ (e : get_elem? v.held j.0 ≡ some a). low a (j.0, e)) (λ (e : (j.0 ≡ length v.held) × (n ≡ a)). subst (λ (y : Held). y.slot < 256) e.1 small) (at_snoc v.held n a j.0 j.1)

-- SOUND VIEWS
pub sound_from : (v k w : View) → ((a : Held) → Has w a → Has v a) → w.size ≡ v.size → w.size ≡ k.size → ((cs : List Counted) → w.counts ≡ Some cs → k.counts ≡ Some cs) → Sound v → Sound k → Sound w
sound_from v k w has same same_too counts s t = record {
  inside = λ a h. subst (λ (y : Size). a.slot < y.slots) (sym same) (s.inside a (has a h));
  texts = λ a h. s.texts a (has a h);
  alone = λ a h b i. s.alone a (has a h) b (has b i);
  counts = λ cs e. let c = t.counts cs (counts cs e) in (c.0 ∙ sym (ap (λ (y : Size). y.slots) same_too), c.1);
}

pub counted_none : (n k : ℕ) → (counted (replicate n uncounted) k).count ≡ 0
counted_none n k = dite (dec_le n k)
    (λ (out : n ≤ k). ap (λ (c : Counted). c.count) (or_beyond (replicate n uncounted) k uncounted (let l = length-replicate {A = Counted} n uncounted in omega (arith, l))))
    (λ (inside : ¬ (n ≤ k)). ap (λ (c : Counted). c.count) (get_or-replicate n k uncounted uncounted (omega arith)))

pub sound_first : (z : Size) → Sound (first_view z)
sound_first z = record {
  inside = λ a h. absurd (none a h);
  texts = λ a h. absurd (none a h);
  alone = λ a h. absurd (none a h);
  counts = λ cs e. let is : replicate z.slots uncounted ≡ cs = cc in
      (ap length (sym is) ∙ length-replicate {A = Counted} z.slots uncounted, λ k some_. absurd (let no : (counted cs k).count ≡ 0 = ap (λ (l : List Counted). (counted l k).count) (sym is) ∙ counted_none z.slots k in omega arith));
}
  where
    none : (a : Held) → Has (first_view z) a → ⊥
    none a h = ⊎_elim (λ (i : In a []). in_none a i) (λ (i : In a []). in_none a i) h

-- the held slots become the fixed ones
pub has_fixed : (v w : View) → w ≡ after v (Fix ∷ []) → (a : Held) → Has w a → Has v a
has_fixed v w e a h = ⊎_elim
    (λ (i : In a w.held). absurd (in_none a (subst (In a) (ap (λ (y : View). y.held) e) i)))
    (λ (i : In a w.fixed). let j : In a (v.fixed ++ v.held) = subst (In a) (ap (λ (y : View). y.fixed) e) i in ⊎_elim (λ (x : get_elem? v.fixed j.0 ≡ some a). inr (j.0, x)) (λ (x : In a v.held). inl x) (in_append v.fixed v.held j.0 a j.1)) h

-- only fixed atoms are had
pub has_by_fixed : (v w : View) → w.held ≡ [] → w.fixed ≡ v.fixed → (a : Held) → Has w a → Has v a
has_by_fixed v w none same a h = ⊎_elim (λ (i : In a w.held). absurd (in_none a (subst (In a) none i))) (λ (i : In a w.fixed). inr (subst (In a) same i)) h

-- DEALING
pub source_dealt : (words : Words) (n : ℕ) (s r : AtomSeat) → Same s r → seen r ≡ with_one_dealt (seen s) → Source words n s → Source words (n - 1) r
source_dealt words n s r same e src = let v : View = seen s in let w : View = seen r in record {
  sits = (
    (same.0 ∙ src.sits.0.0, ap (λ (y : View). y.size) e ∙ src.sits.0.1, ap (λ (y : View). y.gone) e ∙ src.sits.0.2),
    ap (λ (y : View). y.own) e ∙ src.sits.1,
    sound_from v v w (λ a h. ⊎_elim (λ (i : In a w.held). inl (subst (In a) (ap (λ (y : View). y.held) e) i)) (λ (i : In a w.fixed). inr (subst (In a) (ap (λ (y : View). y.fixed) e) i)) h) (ap (λ (y : View). y.size) e) (ap (λ (y : View). y.size) e)
        (λ cs is. sym (ap (λ (y : View). y.counts) e) ∙ is) src.sits.2 src.sits.2,
  );
  held = ap (λ (y : View). y.held) e ∙ src.held;
  fixed = ap (λ (y : View). y.fixed) e ∙ src.fixed;
  undealt = ap (λ (y : View). y.undealt) e ∙ ap (λ (i : ℕ). i - 1) src.undealt;
  sweep = ap (λ (y : View). y.sweep) e ∙ src.sweep;
  risen = ap (λ (y : View). y.risen) e ∙ src.risen;
}

pub fresh_dealt : (words : Words) (n : ℕ) (s r : AtomSeat) → AtTable words r → seen r ≡ engine_of (seen s) → Source words n s → Fresh words n r
fresh_dealt words n s r at e src = let v : View = seen s in let w : View = seen r in record {
  sits = (
    (at, ap (λ (y : View). y.size) e ∙ src.sits.0.1, ap (λ (y : View). y.gone) e),
    ap (λ (y : View). y.own) e,
    sound_from v v w (has_by_fixed v w (ap (λ (y : View). y.held) e) (ap (λ (y : View). y.fixed) e)) (ap (λ (y : View). y.size) e) (ap (λ (y : View). y.size) e) (λ cs is. let no : None ≡ Some cs = sym (ap (λ (y : View). y.counts) e) ∙ is in cc) src.sits.2 src.sits.2,
  );
  held = ap (λ (y : View). y.held) e;
  fixed = ap (λ (y : View). y.fixed) e ∙ src.fixed;
  numbered = ap (λ (y : View). y.cycle.engine) e ∙ src.undealt;
  counts = ap (λ (y : View). y.counts) e;
  refusals = ap (λ (y : View). y.refusals) e;
  asked = ap (λ (y : View). y.asked) e;
  sweep = ap (λ (y : View). y.sweep) e;
  risen = ap (λ (y : View). y.risen) e ∙ src.risen;
}

-- a fact of an answer, by another
pub ok_map : {A E : Type 0} (F G : A → Type 0) (r : Result A E) → ((a : A) → F a → G a) → IfOk r F → IfOk r G
ok_map F G (Ok a) f x = f a x
ok_map F G (Err e) f x = tt

-- the first slots of a list of rows
pub slots_more : (rows : List (ℕ × Chars)) (i : ℕ) (r : ℕ × Chars) → i < length rows → r ≡ get_or rows i r → map fixed_slot (take (i + 1) rows) ≡ map fixed_slot (take i rows) ++ fixed_slot r ∷ []
slots_more rows i r low is = ap (map fixed_slot) (take_more rows i r low) ∙ (map-append fixed_slot (take i rows) (get_or rows i r ∷ []) ∙ ap (λ (x : ℕ × Chars). map fixed_slot (take i rows) ++ fixed_slot x ∷ []) (sym is))

pub insert_first : {A : Type 0} (xs : List A) (x : A) → insert xs 0 x ≡ x ∷ xs
insert_first xs x = refl

pub fresh_more : (words : Words) (n i : ℕ) (s : AtomSeat) (ss : List AtomSeat) → i < n → Fresh words (n - i) s → FreshFrom words (n - i + 1) ss → FreshFrom words (n - (i + 1) + 1) (s ∷ ss)
fresh_more words n i s ss low f rest = let e : n - i ≡ n - (i + 1) + 1 = omega arith in subst (λ (k : ℕ). FreshFrom words k (s ∷ ss)) e (f, rest)

-- THE FIRST SEAT, from which the collector's was cut off
pub first_left : (words : Words) (s r : AtomSeat) (z : Size) → words.size ≡ z → AtTable words s → seen s ≡ first_view z → Same s r → seen r ≡ without_collector (seen s) → Sits words r
first_left words s r z same at e keeps left = let is : seen r ≡ without_collector (first_view z) = left ∙ ap without_collector e in let q = sound_first z in (
  (keeps.0 ∙ at, ap (λ (y : View). y.size) is ∙ sym same, ap (λ (y : View). y.gone) is),
  ap (λ (y : View). y.own) is,
  subst Sound (sym is) (record { inside = q.inside; texts = q.texts; alone = q.alone; counts = q.counts }),
)

pub collector_sits : (words : Words) (s r : AtomSeat) (z : Size) → words.size ≡ z → AtTable words r → seen s ≡ first_view z → seen r ≡ collector_of (seen s) → Sits words r
collector_sits words s r z same at e right = let is : seen r ≡ collector_of (first_view z) = right ∙ ap collector_of e in let q = sound_first z in (
  (at, ap (λ (y : View). y.size) is ∙ sym same, ap (λ (y : View). y.gone) is),
  ap (λ (y : View). y.own) is,
  subst Sound (sym is) (record { inside = q.inside; texts = q.texts; alone = q.alone; counts = λ cs none. cc }),
)

-- a seat that may hold slots may so still, and one that walks
pub sitting_by : (v w : View) → w.cycle ≡ v.cycle → w.undealt ≡ v.undealt → Sitting v → Sitting w
sitting_by v w cycle undealt t = ⊎_elim (λ (e : v.cycle.engine ≢ 0). inl (λ none. e (ap (λ (y : Cycling). y.engine) (sym cycle) ∙ none))) (λ (e : 0 < v.undealt). inr (subst (λ (n : ℕ). 0 < n) (sym undealt) e)) t

pub walking_by : (v w : View) → w.cycle ≡ v.cycle → w.undealt ≡ v.undealt → w.sweep ≡ v.sweep → Walking v → Walking w
walking_by v w cycle undealt sweep t = (sitting_by v w cycle undealt t.0, sweep ∙ t.1)

-- an engine's seat stays one
pub engine_by : (v w : View) → w.cycle ≡ v.cycle → w.sweep ≡ v.sweep → IsEngine v → IsEngine w
engine_by v w cycle sweep t = (λ none. t.0 (ap (λ (y : Cycling). y.engine) (sym cycle) ∙ none), sweep ∙ t.1)

pub walking_rest : (v w : View) → Rest v w → Walking v → Walking w
walking_rest v w r = walking_by v w r.cycle r.undealt r.sweep

pub walking_stays : (v w : View) → Stays v w → Walking v → Walking w
walking_stays v w s = walking_by v w s.cycle s.undealt s.sweep

pub walking_told : (t : Chars) (h : ℕ) (v w : View) (r : Interned) → Told t h v r w → Walking v → Walking w
walking_told t h v w r told = walking_rest v w told.rest

-- the next head has risen
pub rising_next : (h n : ℕ) → n ≡ h → rising h n ≡ h + 1
rising_next h n e = ap (λ (t : Bool). if t then n + 1 else n) (eq-eqb h n (sym e)) ∙ ap (λ (i : ℕ). i + 1) e

pub source_fixed : (words : Words) (n : ℕ) (p f : AtomSeat) → Same p f → seen f ≡ after (seen p) (Fix ∷ []) → Sits words p → (seen p).fixed ≡ [] → (seen p).held ≡ fixed_slots → (seen p).undealt ≡ n → (seen p).sweep ≡ None → (seen p).risen ≡ 256 → Source words n f
source_fixed words n p f same e sits none held undealt sweep risen = let v : View = seen p in let w : View = seen f in record {
  sits = (
    (same.0 ∙ sits.0.0, ap (λ (y : View). y.size) e ∙ sits.0.1, ap (λ (y : View). y.gone) e ∙ sits.0.2),
    ap (λ (y : View). y.own) e ∙ sits.1,
    sound_from v v w (has_fixed v w e) (ap (λ (y : View). y.size) e) (ap (λ (y : View). y.size) e) (λ cs is. sym (ap (λ (y : View). y.counts) e) ∙ is) sits.2 sits.2,
  );
  held = ap (λ (y : View). y.held) e;
  fixed = ap (λ (y : View). y.fixed) e ∙ (λ i. none i ++ held i);
  undealt = ap (λ (y : View). y.undealt) e ∙ undealt;
  sweep = ap (λ (y : View). y.sweep) e ∙ sweep;
  risen = ap (λ (y : View). y.risen) e ∙ risen;
}

-- the keeper's part is cut off the source
pub source_left : (words : Words) (n : ℕ) (s r : AtomSeat) → Same s r → seen r ≡ without_keeper (seen s) → Source words n s → Source words n r
source_left words n s r same e src = record {
  sits = (
    (same.0 ∙ src.sits.0.0, ap (λ (y : View). y.size) e ∙ src.sits.0.1, ap (λ (y : View). y.gone) e ∙ src.sits.0.2),
    ap (λ (y : View). y.own) e ∙ src.sits.1,
    sound_from (seen s) (seen s) (seen r) (has_by_fixed (seen s) (seen r) (ap (λ (y : View). y.held) e ∙ src.held) (ap (λ (y : View). y.fixed) e)) (ap (λ (y : View). y.size) e) (ap (λ (y : View). y.size) e)
        (λ cs is. let no : None ≡ Some cs = sym (ap (λ (y : View). y.counts) e) ∙ is in cc) src.sits.2 src.sits.2,
  );
  held = ap (λ (y : View). y.held) e ∙ src.held;
  fixed = ap (λ (y : View). y.fixed) e ∙ src.fixed;
  undealt = ap (λ (y : View). y.undealt) e ∙ src.undealt;
  sweep = ap (λ (y : View). y.sweep) e ∙ src.sweep;
  risen = ap (λ (y : View). y.risen) e ∙ src.risen;
}

pub part_sits : (words : Words) (n : ℕ) (s r : AtomSeat) → AtTable words r → (seen r).size ≡ (seen s).size → (seen r).gone ≡ false → (seen r).own ≡ None → (seen r).held ≡ [] → (seen r).fixed ≡ (seen s).fixed
    → ((cs : List Counted) → (seen r).counts ≡ Some cs → (seen s).counts ≡ Some cs) → Source words n s → Sits words r
part_sits words n s r at size gone own held fixed counts src = (
  (at, size ∙ src.sits.0.1, gone),
  own,
  sound_from (seen s) (seen s) (seen r) (has_by_fixed (seen s) (seen r) held fixed) size size counts src.sits.2 src.sits.2,
)

-- THE STEPS MADE AND THE HEADS THAT HAVE RISEN ASIDE
pub unchanged_trans : (u v w : View) → Unchanged u v → Unchanged v w → Unchanged u w
unchanged_trans u v w a b = (b.0, b.1, b.2 ∙ ap (λ (y : View). record y { risen = b.1; made = b.0 }) a.2)

pub sits_unchanged : (words : Words) (s t : AtomSeat) → Same s t → Unchanged (seen s) (seen t) → Sits words s → Sits words t
sits_unchanged words s t same u sits = let v : View = seen s in let q = sits.2 in (
  (same.0 ∙ sits.0.0, ap (λ (y : View). y.size) u.2 ∙ sits.0.1, ap (λ (y : View). y.gone) u.2 ∙ sits.0.2),
  ap (λ (y : View). y.own) u.2 ∙ sits.1,
  subst Sound (sym u.2) (record { inside = q.inside; texts = q.texts; alone = q.alone; counts = q.counts }),
)

-- the versions are raised, and the held slots become the fixed ones
pub source_raised : (words : Words) (n : ℕ) (p x f : AtomSeat) → Same p x → Unchanged (seen p) (seen x) → (seen x).risen ≡ 256 → Same x f → seen f ≡ after (seen x) (Fix ∷ []) → Sits words p → (seen p).fixed ≡ [] → (seen p).held ≡ fixed_slots → (seen p).undealt ≡ n
    → (seen p).sweep ≡ None → Source words n f
source_raised words n p x f same u risen later e sits none held undealt sweep = source_fixed words n x f later e (sits_unchanged words p x same u sits) (ap (λ (y : View). y.fixed) u.2 ∙ none) (ap (λ (y : View). y.held) u.2 ∙ held) (ap (λ (y : View). y.undealt) u.2 ∙ undealt)
    (ap (λ (y : View). y.sweep) u.2 ∙ sweep) risen
