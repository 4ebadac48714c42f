-- What interning tells, from its parts.
use Rattle.std.proofs.Common.{◌≡◌, ◌⊎◌, ℕ, zero, suc, ◌+◌, ◌%◌, ◌<◌, ◌≤◌, true, [], ◌∷◌, ◌++◌, length, refl, sym, ap, ◌∙◌, subst, inl, inr, ⊎_elim, arith, add-one, append-nil, Some, None, Ok, Err, Result, IfOk}
use Rattle.std.specs.Str.{all_scalars}
use mathlib.Core.Option.{some}
use lib.ListN.{get_elem?}
use Rattle.pl_term.specs.Tree.{Chars}
use Rattle.pl_term.specs.Texts.{size}
use Rattle.atom_words.specs.Chains.{In}
use Rattle.atom_words.specs.Board.{atom_at}
use Rattle.atom_words.specs.Plays.{Alone}
use Rattle.atom_words.specs.Kinds.{fresh, full, full_pass, after}
use Rattle.atom_words.specs.Seats.{Reserves, Has}
use Rattle.atom_words.specs.declared.size.Size.{Size}
use Rattle.atom_words.specs.declared.view.Held.{Held}
use Rattle.atom_words.specs.declared.view.Walk.{Walk}
use Rattle.atom_words.specs.declared.view.Pass.{Pass}
use Rattle.atom_words.specs.declared.view.Refusal.TheVariants.{Full as RefusalFull}
use Rattle.atom_words.specs.declared.view.View.{View}
use Rattle.atom_words.specs.declared.kind.Kind.TheVariants.{Ask, Load, Reserve, StartPass, EndPass}
use Rattle.atom_words.proofs.Slices.{at_snoc}
use Rattle.bucket_rows.specs.declared.missed.Missed.{Missed}
use Rattle.bucket_rows.specs.Walks.{spelled, Aside}
use Rattle.bucket_rows.proofs.Reading.{alone_as, reserved_as}
use Rattle.bucket_rows.proofs.Making.{Beside, beside_trans, beside_reserve}
use Rattle.atom_api.specs.Interns.{refused}
use Rattle.atom_api.specs.declared.interned.Interned.{Interned}
use Rattle.atom_api.specs.declared.interned.Interned.TheVariants.{Is, Full, Again, TooLong, Worn, Memory}
use Rattle.atom_table.specs.Interning.{Tries, Takes, Adds, MakesBy, made_by}
use Rattle.atom_table.specs.Holding.{Spelled, Sound, Rest, Answers, Told}
use Rattle.atom_table.proofs.Spelling.{spelled_is}
use Rattle.atom_table.proofs.Tries.{Tried, tried_refl, tried_trans, tried_start, tried_taken, Passed, passed_start, passed_more, full_is}
use Rattle.atom_table.proofs.Adding.{carried_beside, added, told_added, makes_by}

-- A PASS FOR A SLOT
pub tried_tries : (n from : ℕ) (v u : View) → Tries n from v u → Tried v u
tried_tries zero from v u e = subst (Tried v) (sym e) (tried_refl v)
tried_tries (suc n) from v u t = tried_trans v t.0 u (tried_tries n from v t.0 t.1) (tried_taken t.0 ((from + n) % v.size.slots) t.2.0 u t.2.1)

passed_tries : (x from n : ℕ) (v u : View) → from < v.size.slots → n ≤ v.size.slots → Tries n from v u → Passed x from 0 v → Passed x from n u
passed_tries x from zero v u low few e p = subst (Passed x from 0) (sym e) p
passed_tries x from (suc n) v u low few t p = let s : t.0.size ≡ v.size = (tried_tries n from v t.0 t.1).beside.size in let m : v.size.slots ≡ t.0.size.slots = sym (ap (λ (y : Size). y.slots) s) in
    subst (λ (i : ℕ). Passed x from i u) (add-one n)
    (passed_more x from n ((from + n) % v.size.slots) t.2.0 t.0 u (passed_tries x from n v t.0 low (omega arith) t.1 p) (omega arith) (omega arith) (ap (λ (i : ℕ). (from + n) % i) m) t.2.1)

-- what a pass that reserves a slot leaves
pub record Took (v u : View) : Type 0 where
  pub slot : ℕ
  pub own : u.own ≡ Some (fresh slot)
  pub walk : u.walk ≡ v.walk
  pub beside : Beside v u
  pub refusals : u.refusals ≡ v.refusals

reserve_refusals : (v : View) (k : ℕ) (w : View) → Reserves v k w → w.refusals ≡ v.refusals
reserve_refusals v k w r = ap (λ (y : View). y.refusals) r.1

pub took : (from : ℕ) (v u : View) (a : Unit {0}) → Takes from v (Ok a) u → Took v u
took from v u a t = let st : View = after v (StartPass t.0 ∷ []) in let mid : View = t.3.0 in let slot : ℕ = (from + t.1) % v.size.slots in
    let s = tried_trans v st mid (tried_start v t.0 st refl) (tried_tries t.1 from st mid t.3.1) in let r = reserved_as mid slot u t.3.2 in record {
      slot = slot;
      own = r.own;
      walk = r.walk ∙ s.walk;
      beside = beside_trans v mid u s.beside (beside_reserve mid slot u t.3.2);
      refusals = reserve_refusals mid slot u t.3.2 ∙ s.refusals;
    }

module _ (t : Chars) (h : ℕ) (short : size t ≤ 248) (v : View) where
  -- all slots were found taken
  pub full_told : (from : ℕ) (w : View) (p : Pass) → from < v.size.slots → Takes from v (Err p) w → Told t h v (Full p) w × (w.asked ≡ v.asked)
  full_told from w p low k = let st : View = after v (StartPass k.0 ∷ []) in let u : View = k.2.0 in let s = tried_trans v st u (tried_start v k.0 st refl) (tried_tries v.size.slots from st u k.2.1) in
      let q = passed_tries k.0 from v.size.slots st u low (omega arith) k.2.1 (passed_start v k.0 from st refl) in let slots : v.size.slots ≡ u.size.slots = sym (ap (λ (y : Size). y.slots) s.beside.size) in
      let engine : u.cycle.engine ≡ v.cycle.engine = ap (λ y. y.engine) s.beside.cycle in let is : full_pass u k.1 q.passing ≡ p = (λ i. record { counted = q.counted i; seat = engine i; began = q.began i; ended = k.1 }) ∙ sym k.3 in
      let last : w ≡ after u (EndPass k.1 ∷ []) = k.2.2 in let adds : full u k.1 u.pass ≡ RefusalFull p ∷ [] = full_is u k.1 q.passing q.at (q.counted ∙ slots) ∙ ap (λ (y : Pass). RefusalFull y ∷ []) is in (
        record {
          answer = (short, ap (λ (y : View). y.held) last ∙ s.beside.held, ap (λ (y : Pass). y.counted) k.3, ap (λ (y : Pass). y.seat) k.3);
          rest = record {
            gone = ap (λ (y : View). y.gone) last ∙ s.beside.gone;
            size = ap (λ (y : View). y.size) last ∙ s.beside.size;
            own = ap (λ (y : View). y.own) last ∙ s.own;
            fixed = ap (λ (y : View). y.fixed) last ∙ s.beside.fixed;
            counts = ap (λ (y : View). y.counts) last ∙ s.beside.counts;
            undealt = ap (λ (y : View). y.undealt) last ∙ s.beside.undealt;
            cycle = ap (λ (y : View). y.cycle) last ∙ s.beside.cycle;
            sweep = ap (λ (y : View). y.sweep) last ∙ s.beside.sweep;
            risen = ap (λ (y : View). y.risen) last ∙ s.beside.risen;
          };
          refusal = ap (λ (y : View). y.refusals) last ∙ ((λ i. s.refusals i ++ adds i));
        },
        ap (λ (y : View). y.asked) last ∙ s.beside.asked,
      )

  if_ok : {F G : ℕ → Type 0} (r : Result ℕ Missed) → ((a : ℕ) → F a → G a) → IfOk r F → IfOk r G
  if_ok (Ok a) f x = f a x
  if_ok (Err m) f x = tt

  module _ (from : ℕ) (u w : View) (a : Unit {0}) (k : Takes from v (Ok a) u) (walk : Walk) (at : v.walk ≡ Some walk) (head : walk.head ≡ h) (none : v.own ≡ None) (r : Result ℕ Missed)
      (adds : (x : Walk) → u.walk ≡ Some x → Adds (spelled t) x u r w) where
    pub slot_told : IfOk r (λ n. (i : ℕ) → u.own ≡ Some (fresh i) → (n ≡ i) × (n < v.size.slots) × Alone u n (spelled t) × (w.held ≡ u.held ++ record { slot = n; text = spelled t } ∷ [])) → Told t h v (made_by r) w
    slot_told held = let s = took from v u a k in told_added t h short walk v u w s.slot r head (carried_beside v u s.beside) s.beside.held s.refusals none s.own (adds walk (s.walk ∙ at))
        (if_ok r (λ n y. let z = y s.slot s.own in (z.1, z.2, z.3)) held) s.beside.fixed

    pub slot_asked : w.asked ≡ v.asked
    slot_asked = let s = took from v u a k in (added (spelled t) walk u s.slot s.own r w (adds walk (s.walk ∙ at))).carried.asked ∙ s.beside.asked

    pub slot_steps : MakesBy (spelled t) v (made_by r) w
    slot_steps = let s = took from v u a k in makes_by t h short (spelled t) v w r (from, u, k, (walk, at, adds walk (s.walk ∙ at)))

-- FROM THE START
module _ (t : Chars) (h : ℕ) (short : size t ≤ 248) (v u x : View) (asked : u ≡ after v (Ask (spelled t) ∷ [])) (aside : Aside u x) where
  walked : Rest v x
  walked = record {
    gone = aside.gone ∙ ap (λ (y : View). y.gone) asked;
    size = aside.size ∙ ap (λ (y : View). y.size) asked;
    own = aside.own ∙ ap (λ (y : View). y.own) asked;
    fixed = aside.fixed ∙ ap (λ (y : View). y.fixed) asked;
    counts = aside.counts ∙ ap (λ (y : View). y.counts) asked;
    undealt = aside.undealt ∙ ap (λ (y : View). y.undealt) asked;
    cycle = aside.cycle ∙ ap (λ (y : View). y.cycle) asked;
    sweep = aside.sweep ∙ ap (λ (y : View). y.sweep) asked;
    risen = aside.risen ∙ ap (λ (y : View). y.risen) asked;
  }

  -- the walk found it
  pub found_told : (a : ℕ) → x.held ≡ u.held ++ record { slot = a; text = spelled t } ∷ [] → x.refusals ≡ u.refusals → (a < v.size.slots) → Alone u a (spelled t) → Told t h v (Is a) x
  found_told a held refusals inside alone = record {
    answer = (short, held ∙ ap (λ (y : View). y.held ++ record { slot = a; text = spelled t } ∷ []) asked, alone_as v u a (spelled t) (ap (λ (y : View). y.held) asked) (ap (λ (y : View). y.fixed) asked) alone, inside);
    rest = walked;
    refusal = refusals ∙ (ap (λ (y : View). y.refusals) asked ∙ sym (append-nil v.refusals));
  }

  -- it did not, and what follows tells of the view x
  pub later_told : x.held ≡ u.held → x.refusals ≡ u.refusals → (r : Interned) (w : View) → Told t h x r w → Told t h v r w
  later_told held refusals r w told = record {
    answer = answers r told.answer;
    rest = record {
      gone = told.rest.gone ∙ walked.gone;
      size = told.rest.size ∙ walked.size;
      own = told.rest.own ∙ walked.own;
      fixed = told.rest.fixed ∙ walked.fixed;
      counts = told.rest.counts ∙ walked.counts;
      undealt = told.rest.undealt ∙ walked.undealt;
      cycle = told.rest.cycle ∙ walked.cycle;
      sweep = told.rest.sweep ∙ walked.sweep;
      risen = told.rest.risen ∙ walked.risen;
    };
    refusal = told.refusal ∙ ap (λ l. l ++ refused r) (refusals ∙ ap (λ (y : View). y.refusals) asked);
  }
    where
      same_held : x.held ≡ v.held
      same_held = held ∙ ap (λ (y : View). y.held) asked

      slots : x.size.slots ≡ v.size.slots
      slots = ap (λ (y : Size). y.slots) walked.size

      answers : (q : Interned) → Answers t h x q w → Answers t h v q w
      answers (Is a) e = (e.0, e.1 ∙ ap (λ l. l ++ record { slot = a; text = spelled t } ∷ []) same_held, alone_as v x a (spelled t) same_held walked.fixed e.2, subst (λ (n : ℕ). a < n) slots e.3)
      answers (Full p) e = (e.0, e.1 ∙ same_held, e.2 ∙ slots, e.3 ∙ ap (λ y. y.engine) walked.cycle)
      answers (Again c) e = (e.0, e.1 ∙ same_held)
      answers (TooLong b) e = absurd (omega (arith, short, e.0))
      answers (Worn y) e = (e.0, e.1 ∙ same_held, e.2, e.3)
      answers Memory e = absurd e

-- WHAT A SEAT HOLDS STAYS SOUND
pub has_as : (v w : View) (a : Held) → w.held ≡ v.held → w.fixed ≡ v.fixed → Has w a → Has v a
has_as v w a held fixed h = ⊎_elim (λ (i : In a w.held). inl (subst (In a) held i)) (λ (i : In a w.fixed). inr (subst (In a) fixed i)) h

pub sound_same : (v w : View) → w.held ≡ v.held → w.fixed ≡ v.fixed → w.counts ≡ v.counts → w.size ≡ v.size → Sound v → Sound w
sound_same v w held fixed counts same s = record {
  inside = λ a h. subst (λ (y : Size). a.slot < y.slots) (sym same) (s.inside a (has_as v w a held fixed h));
  texts = λ a h. s.texts a (has_as v w a held fixed h);
  alone = λ a h b i. s.alone a (has_as v w a held fixed h) b (has_as v w b held fixed i);
  counts = λ cs e. let c = s.counts cs (sym counts ∙ e) in (c.0 ∙ sym (ap (λ (y : Size). y.slots) same), c.1);
}

-- one slot more is held
pub sound_more : (v w : View) (n : Held) → w.held ≡ v.held ++ n ∷ [] → w.fixed ≡ v.fixed → w.counts ≡ v.counts → w.size ≡ v.size → n.slot < v.size.slots → Spelled n.text → Alone v n.slot n.text → Sound v → Sound w
sound_more v w n held fixed counts same low text alone s = record {
  inside = λ a h. subst (λ (y : Size). a.slot < y.slots) (sym same) (⊎_elim (s.inside a) (λ (e : n ≡ a). subst (λ (y : Held). y.slot < v.size.slots) e low) (cases a h));
  texts = λ a h. ⊎_elim (s.texts a) (λ (e : n ≡ a). subst (λ (y : Held). Spelled y.text) e text) (cases a h);
  alone = λ a h b i. ⊎_elim
      (λ (x : Has v a). ⊎_elim (λ (y : Has v b). s.alone a x b y) (λ (e : n ≡ b). subst (λ (z : Held). (z.slot ≡ a.slot → z.text ≡ a.text) × (z.text ≡ a.text → z.slot ≡ a.slot)) e (let p = alone a x in ((λ q. sym (p.0 (sym q))), λ q. sym (p.1 (sym q))))) (cases b i))
      (λ (e : n ≡ a). ⊎_elim (λ (y : Has v b). subst (λ (z : Held). (b.slot ≡ z.slot → b.text ≡ z.text) × (b.text ≡ z.text → b.slot ≡ z.slot)) e (alone b y))
      (λ (f : n ≡ b). let same_ : b ≡ a = sym f ∙ e in ((λ _. ap (λ (z : Held). z.text) same_), λ _. ap (λ (z : Held). z.slot) same_)) (cases b i))
      (cases a h);
  counts = λ cs e. let c = s.counts cs (sym counts ∙ e) in (c.0 ∙ sym (ap (λ (y : Size). y.slots) same), c.1);
}
  where
    cases : (a : Held) → Has w a → Has v a ⊎ (n ≡ a)
    cases a h = ⊎_elim
        (λ (i : In a w.held). let j : In a (v.held ++ n ∷ []) = subst (In a) held i in ⊎_elim (λ (e : get_elem? v.held j.0 ≡ some a). inl (inl (j.0, e))) (λ (e : (j.0 ≡ length v.held) × (n ≡ a)). inr e.1) (at_snoc v.held n a j.0 j.1))
        (λ (i : In a w.fixed). inl (inr (subst (In a) fixed i))) h

pub sound_told : (t : Chars) (h : ℕ) (v w : View) (r : Interned) → all_scalars t ≡ true → Told t h v r w → Sound v → Sound w
sound_told t h v w (Is a) scalars told s = sound_more v w (record { slot = a; text = spelled t }) told.answer.1 told.rest.fixed told.rest.counts told.rest.size told.answer.3 (spelled_is t told.answer.0 scalars) told.answer.2 s
sound_told t h v w (Full p) scalars told s = sound_same v w told.answer.1 told.rest.fixed told.rest.counts told.rest.size s
sound_told t h v w (Again c) scalars told s = sound_same v w told.answer.1 told.rest.fixed told.rest.counts told.rest.size s
sound_told t h v w (TooLong b) scalars told s = subst Sound (sym told.answer.2) s
sound_told t h v w (Worn x) scalars told s = sound_same v w told.answer.1 told.rest.fixed told.rest.counts told.rest.size s
sound_told t h v w Memory scalars told s = absurd told.answer
