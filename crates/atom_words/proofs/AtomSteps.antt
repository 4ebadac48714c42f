-- Each step on an atom word keeps the rule.
use Rattle.std.proofs.Common.{◌≡◌, ◌≢◌, ◌⊎◌, ℕ, ◌+◌, ◌-◌, ◌<◌, ◌≤◌, ◌==◌, ◌&&◌, true, false, List, [], ◌∷◌, ◌++◌, length, get_or, set, refl, sym, ap, ◌∙◌, subst, inl, inr, ⊎_elim, arith, Option, Some, option_map, take_all, length-set, eqb-true, get_or-set_same}
use mathlib.Core.Option.{some}
use mathlib.Core.Logic.{dite}
use native.Mathlib.Decide.{dec_le, ℕ_discrete}
use lib.ListN.{get_elem?}
use Rattle.atomic_table.proofs.Lists.{at_set}
use Rattle.atom_words.specs.Layout.{state_of, mark_of, count_of, version_of, closed_of}
use Rattle.atom_words.specs.Texts.{bucket, Formed}
use Rattle.atom_words.specs.Board.{Board, text_of, with_atom}
use Rattle.atom_words.specs.Chains.{In, Chain, Linked}
use Rattle.atom_words.specs.Views.{uncounted}
use Rattle.atom_words.specs.Kinds.{marked, fresh, IsLeft, held_own, held_counted, counted, once_more, once_less, guarding, Sitting, view_after, Does}
use Rattle.atom_words.specs.Plays.{Alone}
use Rattle.atom_words.specs.Kept.{Left, Safe, OwnOk, HeldOk, CountsOk, WalkOk, MarksOk, SeatOk, Trail, Kept}
use Rattle.atom_words.specs.declared.size.Size.{Size}
use Rattle.atom_words.specs.declared.view.Held.{Held}
use Rattle.atom_words.specs.declared.view.Counted.{Counted}
use Rattle.atom_words.specs.declared.view.Own.{Own}
use Rattle.atom_words.specs.declared.view.Walk.{Walk}
use Rattle.atom_words.specs.declared.view.Sweeping.{Sweeping}
use Rattle.atom_words.specs.declared.view.View.{View}
use Rattle.atom_words.specs.declared.kind.Kind.TheVariants.{Reserve, Validate, Release, Protect, Fetch, Register, Unregister}
use Rattle.atom_words.proofs.Layouts.{state-marked, mark-marked, count-marked}
use Rattle.atom_words.proofs.Slices.{some_same, or_true, and_true, chain_at, at_snoc, or_at, word_after, text_short, or_beyond}
use Rattle.atom_words.proofs.Puts.{put, put_here, put_else, unmapped}
use Rattle.atom_words.proofs.Frames.{held_stays, own_stays, counts_stay, marks_stay, marks_now, Soft, soft_valid, soft_marked, soft_count, keep_atom}

module _ (z : Size) (b : Board) (vs : List View) (r : Kept z b vs) (id : ℕ) (v : View) (s : SeatOk z b r.plan id v) where
  in_atoms : (k : ℕ) → k < z.slots → k < length b.atoms
  in_atoms k h = omega (arith, r.sized.atoms)

  -- a linked slot is not free
  not_free : (k : ℕ) → Linked z.heads r.plan.chain k → state_of (get_or b.atoms k 0) ≡ 0 → ⊥
  not_free k l free = ⊎_elim
      (λ (t : (state_of (get_or b.atoms k 0) ≡ 1) ⊎ (state_of (get_or b.atoms k 0) ≡ 3)). ⊎_elim (λ (e : state_of (get_or b.atoms k 0) ≡ 1). omega arith) (λ (e : state_of (get_or b.atoms k 0) ≡ 3). omega arith) t)
      (λ (e : r.plan.fate.slot ≡ k + 1). let d = r.slots.dies k e in omega arith) (r.slots.live k l)

  -- a slot that is not dying
  not_dying : (k : ℕ) → state_of (get_or b.atoms k 0) ≢ 2 → k + 1 ≢ r.plan.fate.slot
  not_dying k ne e = ne (r.slots.dies k (sym e))

  -- what the seat knows, after the atom word k became x, beside its own slot, its counts and its walk
  pub knows : (k x : ℕ) (owner' : ℕ → ℕ) (w : View) → Soft z b.atoms r.plan owner' id k x → (state_of x ≢ 1 → Formed (text_of b.texts k)) → w.size ≡ v.size
      → ((o : Own) → w.own ≡ Some o → OwnOk z (set b.atoms k x) b.links b.texts r.plan.chain owner' id o)
      → ((i : ℕ) (a : Held) → get_elem? w.held i ≡ some a → HeldOk z (set b.atoms k x) b.texts r.plan.chain a)
      → w.fixed ≡ v.fixed
      → ((cs : List Counted) → w.counts ≡ Some cs → CountsOk z (set b.atoms k x) b.texts r.plan.chain r.plan.keeper id cs)
      → ((t : Walk) → w.walk ≡ Some t → WalkOk z b.links b.heads b.texts r.plan.chain r.plan.fate t)
      → MarksOk z b.epoch b.acks (set b.atoms k x) r.plan.engine r.plan.sweep.cursor id w.cycle w.undealt w.held w.walk
      → w.sweep ≡ v.sweep → w.risen ≡ v.risen
      → ((y : Sweeping) (t : Walk) → v.sweep ≡ Some y → w.walk ≡ Some t → Trail b.epoch b.row b.links b.heads r.plan.chain y t)
      → ((t : Walk) → w.walk ≡ Some t → (r.plan.collector ≡ id → ⊥) → closed_of t.word ≡ 0) → w.growing ≡ v.growing
      → Kept z (with_atom b k x) (set vs id w)
  knows k x owner' w soft formed size own held fixed counts walk marks sweep risen trail unclosed growing = keep_atom z b vs r owner' id k x w soft formed record {
    size = size ∙ s.size;
    own = own;
    held = held;
    fixed = λ i a e. held_stays z b.atoms (set b.atoms k x) b.texts r.plan.chain a (soft_valid z b.atoms r.plan owner' id k x soft) (s.fixed i a (sym (ap (λ l. get_elem? l i) fixed) ∙ e));
    low = λ i a e. s.low i a (sym (ap (λ l. get_elem? l i) fixed) ∙ e);
    counts = counts;
    walk = walk;
    marks = marks;
    sweeps = λ y e. s.sweeps y (sym sweep ∙ e);
    trail = λ y t e. trail y t (sym sweep ∙ e);
    risen = λ h below. s.risen h (subst (λ (n : ℕ). h < n) risen below);
    unclosed = unclosed;
    grows = λ y e. s.grows y (sym sweep ∙ e) ∙ sym growing;
  }

  pub held_as : (k x : ℕ) (owner' : ℕ → ℕ) → Soft z b.atoms r.plan owner' id k x → (i : ℕ) (a : Held) → get_elem? v.held i ≡ some a → HeldOk z (set b.atoms k x) b.texts r.plan.chain a
  held_as k x owner' soft i a e = held_stays z b.atoms (set b.atoms k x) b.texts r.plan.chain a (soft_valid z b.atoms r.plan owner' id k x soft) (s.held i a e)

  pub counts_as : (k x : ℕ) (owner' : ℕ → ℕ) → Soft z b.atoms r.plan owner' id k x → count_of x ≡ count_of (get_or b.atoms k 0) → (cs : List Counted) → v.counts ≡ Some cs
      → CountsOk z (set b.atoms k x) b.texts r.plan.chain r.plan.keeper id cs
  counts_as k x owner' soft same cs e = counts_stay z b.atoms (set b.atoms k x) b.texts r.plan.chain r.plan.keeper id cs (soft_valid z b.atoms r.plan owner' id k x soft) (soft_count z b.atoms r.plan owner' id k x soft same) (s.counts cs e)

  pub marks_as : (k x : ℕ) (owner' : ℕ → ℕ) → Soft z b.atoms r.plan owner' id k x → MarksOk z b.epoch b.acks (set b.atoms k x) r.plan.engine r.plan.sweep.cursor id v.cycle v.undealt v.held v.walk
  marks_as k x owner' soft = marks_stay z b.atoms (set b.atoms k x) b.epoch b.acks r.plan.engine r.plan.sweep.cursor id v.cycle v.undealt v.held v.walk
      (soft_valid z b.atoms r.plan owner' id k x soft) (soft_marked z b.atoms r.plan owner' id k x soft) s.marks

  -- one slot more is held, which is valid and marked
  marks_more : (k x : ℕ) (owner' : ℕ → ℕ) → Soft z b.atoms r.plan owner' id k x → state_of x ≡ 3 → mark_of x ≡ 1 → Sitting v → (a : Held) → a.slot ≡ k
      → MarksOk z b.epoch b.acks (set b.atoms k x) r.plan.engine r.plan.sweep.cursor id v.cycle v.undealt (v.held ++ a ∷ []) v.walk
  marks_more k x owner' soft valid mark sits a at = let m = marks_as k x owner' soft in
      let word : get_or (set b.atoms k x) a.slot 0 ≡ x = ap (λ (i : ℕ). get_or (set b.atoms k x) i 0) at ∙ get_or-set_same b.atoms k x 0 soft.inside in
      marks_now z b.epoch b.acks (set b.atoms k x) r.plan.engine r.plan.sweep.cursor id v.cycle v.undealt v.held v.walk m (v.held ++ a ∷ []) v.walk
      (λ acked y i. ⊎_elim (λ (t : get_elem? v.held i.0 ≡ some y). m.held acked y (i.0, t))
      (λ (t : (i.0 ≡ length v.held) × (a ≡ y)). subst (λ (q : Held). (state_of (get_or (set b.atoms k x) q.slot 0) ≡ 3) × Safe b.epoch (set b.atoms k x) r.plan.sweep.cursor q.slot) t.1 (ap state_of word ∙ valid, inl (ap mark_of word ∙ mark)))
      (at_snoc v.held a y i.0 i.1))
      (λ none dealt. absurd (⊎_elim (λ (t : v.cycle.engine ≢ 0). t none) (λ (t : 0 < v.undealt). omega arith) sits))
      m.guard

  -- a free slot is for the fixed atoms, or not among the first 256
  usable_slot : (k : ℕ) → k < z.slots → state_of (get_or b.atoms k 0) ≡ 0 → (k < z.fixed) ⊎ (256 ≤ k)
  usable_slot k inside free = dite (dec_le z.fixed k)
      (λ (f : z.fixed ≤ k). dite (dec_le 256 k) (λ (h : 256 ≤ k). inr h) (λ (l : ¬ (256 ≤ k)). absurd (let one = r.slots.shut k inside f (omega arith) in omega arith)))
      (λ (f : ¬ (z.fixed ≤ k)). inl (omega arith))

  -- RESERVE
  pub keep_reserve : (k : ℕ) (b' : Board) → Does z b v (Reserve k) b' → Kept z b' (set vs id (view_after v (Reserve k)))
  keep_reserve k b' d = let free = d.2 in let none_counted : count_of (get_or b.atoms k 0) ≡ 0 = r.slots.zero k (λ e. omega arith) in
      let soft : Soft z b.atoms r.plan (put r.plan.owner k id) id k 1 = record {
        inside = in_atoms k d.0;
        valid = λ e. absurd (omega arith);
        mark = λ e _. absurd (omega arith);
        mine = λ e. absurd (omega arith);
        others = λ q ne. put_else r.plan.owner k id q ne;
        count = inl (sym none_counted);
        live = λ l. absurd (not_free k l free);
        linked = λ e. absurd (omega arith);
        only = λ e. absurd (omega arith);
        dies = λ e. absurd (let dying = r.slots.dies k e in omega arith);
        zero = λ _. refl;
        shut = λ _ _ e. absurd (omega arith);
      } in
      subst (λ y. Kept z y (set vs id (view_after v (Reserve k)))) (sym d.3) (knows k 1 (put r.plan.owner k id) (view_after v (Reserve k)) soft (λ ne. absurd (ne refl)) refl
      (λ o e. let is : fresh k ≡ o = cc in subst (λ y. OwnOk z (set b.atoms k 1) b.links b.texts r.plan.chain (put r.plan.owner k id) id y) is record {
        inside = d.0;
        mine = put_here r.plan.owner k id;
        usable = usable_slot k d.0 free;
        state = ap state_of (get_or-set_same b.atoms k 1 0 (in_atoms k d.0));
        short = omega arith;
        text = refl;
        rest = λ _. ((λ i past _. let short = text_short b.texts k in or_beyond (text_of b.texts k) i 0 (omega arith)), λ _. r.blank k (λ one. omega arith));
        link = λ l no. cc;
        apart = λ _ l. not_free k l free;
        linked = λ no. cc;
      })
      (held_as k 1 (put r.plan.owner k id) soft) refl (counts_as k 1 (put r.plan.owner k id) soft (sym none_counted)) s.walk (marks_as k 1 (put r.plan.owner k id) soft) refl refl s.trail s.unclosed refl)

  -- VALIDATE AND RELEASE
  keep_validate_at : (o : Own) → v.own ≡ Some o → o.linked ≡ true → Sitting v → Kept z (with_atom b o.slot 7) (set vs id (view_after v Validate))
  keep_validate_at o own linked sits = let ok = s.own o own in let state = ok.state in let on = ok.linked linked in let none_counted : count_of (get_or b.atoms o.slot 0) ≡ 0 = r.slots.zero o.slot (λ e. omega arith) in
      let soft : Soft z b.atoms r.plan r.plan.owner id o.slot 7 = record {
        inside = in_atoms o.slot ok.inside;
        valid = λ _. refl;
        mark = λ _ _. refl;
        mine = λ _. inl ok.mine;
        others = λ q _. refl;
        count = inl (sym none_counted);
        live = λ _. inl (inr refl);
        linked = λ _. on.0;
        only = λ e. absurd (omega arith);
        dies = λ e. absurd (let dying = r.slots.dies o.slot e in omega arith);
        zero = λ n. absurd (n refl);
        shut = λ f l _. ⊎_elim (λ (t : o.slot < z.fixed). absurd (omega arith)) (λ (t : 256 ≤ o.slot). absurd (omega arith)) ok.usable;
      } in
      let short = text_short b.texts o.slot in let whole = on.1 in
      let held : HeldOk z (set b.atoms o.slot 7) b.texts r.plan.chain (record { slot = o.slot; text = o.text }) = record {
        inside = ok.inside;
        valid = ap state_of (get_or-set_same b.atoms o.slot 7 0 (in_atoms o.slot ok.inside));
        linked = on.0;
        text = sym (take_all (length o.text) (text_of b.texts o.slot) (omega arith)) ∙ ok.text;
      } in
      knows o.slot 7 r.plan.owner (view_after v Validate) soft (λ _. let t = on.0 in r.rows.formed t.0 o.slot t.1 t.2) refl
      (λ q e. cc)
      (λ i a e. ⊎_elim (held_as o.slot 7 r.plan.owner soft i a) (λ (t : (i ≡ length v.held) × (record { slot = o.slot; text = o.text } ≡ a)). subst (HeldOk z (set b.atoms o.slot 7) b.texts r.plan.chain) t.1 held)
      (at_snoc v.held (record { slot = o.slot; text = o.text }) a i (sym (ap (λ y. get_elem? (v.held ++ held_own y) i) own) ∙ e)))
      refl (counts_as o.slot 7 r.plan.owner soft (sym none_counted)) s.walk
      (subst (λ (y : Option Own). MarksOk z b.epoch b.acks (set b.atoms o.slot 7) r.plan.engine r.plan.sweep.cursor id v.cycle v.undealt (v.held ++ held_own y) v.walk) (sym own)
      (marks_more o.slot 7 r.plan.owner soft refl refl sits (record { slot = o.slot; text = o.text }) refl)) refl refl s.trail s.unclosed refl

  pub keep_validate : (b' : Board) → Does z b v Validate b' → Kept z b' (set vs id (view_after v Validate))
  keep_validate b' d = subst (λ y. Kept z y (set vs id (view_after v Validate))) (sym d.4) (keep_validate_at d.0 d.1 d.2 d.3)

  keep_release_at : (o : Own) → v.own ≡ Some o → o.linked ≡ false → IsLeft o.text → Kept z (with_atom b o.slot 0) (set vs id (view_after v Release))
  keep_release_at o own unlinked left = let ok = s.own o own in let state = ok.state in let none_counted : count_of (get_or b.atoms o.slot 0) ≡ 0 = r.slots.zero o.slot (λ e. omega arith) in
      let soft : Soft z b.atoms r.plan r.plan.owner id o.slot 0 = record {
        inside = in_atoms o.slot ok.inside;
        valid = λ e. absurd (omega arith);
        mark = λ e _. absurd (omega arith);
        mine = λ _. inl ok.mine;
        others = λ q _. refl;
        count = inl (sym none_counted);
        live = λ l. absurd (ok.apart unlinked l);
        linked = λ e. absurd (omega arith);
        only = λ e. absurd (omega arith);
        dies = λ e. absurd (let dying = r.slots.dies o.slot e in omega arith);
        zero = λ _. refl;
        shut = λ f l _. ⊎_elim (λ (t : o.slot < z.fixed). absurd (omega arith)) (λ (t : 256 ≤ o.slot). absurd (omega arith)) ok.usable;
      } in
      knows o.slot 0 r.plan.owner (view_after v Release) soft
      (λ _. ⊎_elim (λ (none : o.text ≡ []). (ok.rest unlinked).1 none) (λ (all : (length o.text ≡ 32) × Formed o.text). let short = text_short b.texts o.slot in subst Formed (sym (sym (take_all (length o.text) (text_of b.texts o.slot) (omega (arith, all.0, short))) ∙ ok.text)) all.1) left) refl (λ q e. cc) (held_as o.slot 0 r.plan.owner soft) refl (counts_as o.slot 0 r.plan.owner soft (sym none_counted)) s.walk (marks_as o.slot 0 r.plan.owner soft) refl refl s.trail s.unclosed refl

  pub keep_release : (b' : Board) → Does z b v Release b' → Kept z b' (set vs id (view_after v Release))
  keep_release b' d = subst (λ y. Kept z y (set vs id (view_after v Release))) (sym d.4) (keep_release_at d.0 d.1 d.2 d.3)

  -- A MARK IS SET
  pub mark_soft : (k : ℕ) → k < z.slots → Soft z b.atoms r.plan r.plan.owner id k (marked (get_or b.atoms k 0))
  mark_soft k inside = let n : ℕ = get_or b.atoms k 0 in record {
    inside = in_atoms k inside;
    valid = λ e. state-marked n ∙ e;
    mark = λ _ _. mark-marked n;
    mine = λ e. inr (state-marked n ∙ e, refl);
    others = λ q _. refl;
    count = inl (count-marked n);
    live = λ l. ⊎_elim
        (λ (t : (state_of (get_or b.atoms k 0) ≡ 1) ⊎ (state_of (get_or b.atoms k 0) ≡ 3)). inl (⊎_elim (λ (e : state_of (get_or b.atoms k 0) ≡ 1). inl (state-marked n ∙ e)) (λ (e : state_of (get_or b.atoms k 0) ≡ 3). inr (state-marked n ∙ e)) t))
        (λ (e : r.plan.fate.slot ≡ k + 1). inr e) (r.slots.live k l);
    linked = λ e. r.slots.valid k (sym (state-marked n) ∙ e);
    only = λ e. r.slots.only k (sym (state-marked n) ∙ e);
    dies = λ e. state-marked n ∙ r.slots.dies k e;
    zero = λ ne. count-marked n ∙ r.slots.zero k (λ e. ne (state-marked n ∙ e));
    shut = λ _ _ e. state-marked n ∙ e;
  }

  pub own_marked : (k : ℕ) → k < z.slots → (o : Own) → v.own ≡ Some o → OwnOk z (set b.atoms k (marked (get_or b.atoms k 0))) b.links b.texts r.plan.chain r.plan.owner id o
  own_marked k inside o e = own_stays z b.atoms (set b.atoms k (marked (get_or b.atoms k 0))) b.links b.texts r.plan.chain r.plan.owner r.plan.owner id o
      (λ mine reserved. (
        mine,
        word_after (λ n. state_of n ≡ 1) b.atoms k (marked (get_or b.atoms k 0)) o.slot (in_atoms k inside)
            (λ q. state-marked (get_or b.atoms k 0) ∙ subst (λ (i : ℕ). state_of (get_or b.atoms i 0) ≡ 1) q reserved) (λ _. reserved),
      )) (s.own o e)

  -- what the walk learns of the slot that it protected
  learnt : (w : Walk) (k n : ℕ) (x : ℕ) → ((w.place == k + 1) && (state_of x == n)) ≡ true → (w.place ≡ k + 1) × (state_of x ≡ n)
  learnt w k n x t = let both = and_true (w.place == k + 1) (state_of x == n) t in (eqb-true w.place (k + 1) both.0, eqb-true (state_of x) n both.1)

  -- a walk that stands at a free slot has another version than its head
  astray : (w : Walk) (k : ℕ) → WalkOk z b.links b.heads b.texts r.plan.chain r.plan.fate w → w.place ≡ k + 1 → state_of (get_or b.atoms k 0) ≡ 0 → version_of w.word < version_of (get_or b.heads w.head 0)
  astray w k ok place free = dite (ℕ_discrete (version_of (get_or b.heads w.head 0)) (version_of w.word))
      (λ same. absurd (let u = ok.claim same in let c = chain_at b.links k u.path (subst (λ (n : ℕ). Chain b.links n u.path) place u.reached) in
      ⊎_elim (λ (t : In k (r.plan.chain w.head)). not_free k (w.head, ok.inside, t) free) (λ (t : Left r.plan.fate w k). let d = r.slots.dies k t.0 in omega arith) (u.inside k (subst (In k) (sym c.1) (0, refl)))))
      (λ ne. let past = ok.past in omega arith)

  guard_ok : (k x : ℕ) → get_or b.atoms k 0 ≡ x → (w : Walk) → v.walk ≡ Some w → WalkOk z b.links b.heads b.texts r.plan.chain r.plan.fate (guarding k x w)
  guard_ok k x found w e = let ok = s.walk w e in record {
    inside = ok.inside;
    short = ok.short;
    past = ok.past;
    word = ok.word;
    claim = λ same. let u = ok.claim same in record {
      path = u.path;
      reached = u.reached;
      each = u.each;
      inside = u.inside;
      few = u.few;
      part = u.part;
      dead = λ q at g. ⊎_elim (u.dead q at)
          (λ (t : ((w.place == k + 1) && (state_of x == 2)) ≡ true). let l = learnt w k 2 x t in let there : k + 1 ≡ q + 1 = sym l.0 ∙ at in r.slots.only k (ap state_of found ∙ l.1) ∙ there)
          (or_true w.dead ((w.place == k + 1) && (state_of x == 2)) g);
    };
    lost = λ g. ⊎_elim ok.lost (λ (t : ((w.place == k + 1) && (state_of x == 0)) ≡ true). let l = learnt w k 0 x t in astray w k ok l.0 (ap state_of found ∙ l.1)) (or_true w.lost ((w.place == k + 1) && (state_of x == 0)) g);
  }

  guard_marks : (k x : ℕ) → k < z.slots → get_or b.atoms k 0 ≡ x
      → MarksOk z b.epoch b.acks (set b.atoms k (marked (get_or b.atoms k 0))) r.plan.engine r.plan.sweep.cursor id v.cycle v.undealt v.held (option_map (guarding k x) v.walk)
  guard_marks k x inside found = let n : ℕ = get_or b.atoms k 0 in let m = marks_as k (marked n) r.plan.owner (mark_soft k inside) in
      marks_now z b.epoch b.acks (set b.atoms k (marked n)) r.plan.engine r.plan.sweep.cursor id v.cycle v.undealt v.held v.walk m v.held (option_map (guarding k x) v.walk) m.held m.nothing
      (λ w q e g at sits. let was = unmapped (guarding k x) v.walk w e in let t : Walk = was.0 in
      let here : t.place ≡ q + 1 = ap (λ (y : Walk). y.place) was.2 ∙ at in
      ⊎_elim (λ (old : t.guarded ≡ true). m.guard t q was.1 old here sits)
      (λ (new : ((t.place == k + 1) && (state_of x == 3)) ≡ true). let l = learnt t k 3 x new in let there : k ≡ q = omega arith in
      let word : get_or (set b.atoms k (marked n)) q 0 ≡ marked n = ap (λ (i : ℕ). get_or (set b.atoms k (marked n)) i 0) (sym there) ∙ get_or-set_same b.atoms k (marked n) 0 (in_atoms k inside) in
      (ap state_of word ∙ (state-marked n ∙ (ap state_of found ∙ l.1)), λ _. inl (ap mark_of word ∙ mark-marked n)))
      (or_true t.guarded ((t.place == k + 1) && (state_of x == 3)) (ap (λ (y : Walk). y.guarded) was.2 ∙ g)))

  guard_trail : (k x : ℕ) (y : Sweeping) (w : Walk) → v.sweep ≡ Some y → option_map (guarding k x) v.walk ≡ Some w → Trail b.epoch b.row b.links b.heads r.plan.chain y w
  guard_trail k x y w sweep walk = let was = unmapped (guarding k x) v.walk w walk in let t = s.trail y was.0 sweep was.1 in
      subst (λ (q : Walk). Trail b.epoch b.row b.links b.heads r.plan.chain y q) was.2 record { news = t.news; path = t.path; whole = t.whole; reached = t.reached; fresh = t.fresh; ahead = t.ahead; still = t.still }

  pub keep_protect : (k x : ℕ) (b' : Board) → Does z b v (Protect k x) b' → Kept z b' (set vs id (view_after v (Protect k x)))
  keep_protect k x b' d = let n : ℕ = get_or b.atoms k 0 in let soft = mark_soft k d.0 in subst (λ y. Kept z y (set vs id (view_after v (Protect k x)))) (sym (d.2 ∙ ap (λ (i : ℕ). with_atom b k (marked i)) (sym d.1)))
      (knows k (marked n) r.plan.owner (view_after v (Protect k x)) soft (λ ne. r.blank k (λ e. ne (state-marked n ∙ e))) refl (own_marked k d.0) (held_as k (marked n) r.plan.owner soft) refl (counts_as k (marked n) r.plan.owner soft (count-marked n))
      (λ t e. let was = unmapped (guarding k x) v.walk t e in subst (λ y. WalkOk z b.links b.heads b.texts r.plan.chain r.plan.fate y) was.2 (guard_ok k x d.1 was.0 was.1))
      (guard_marks k x d.0 d.1) refl refl (guard_trail k x)
      (λ t e else. let was = unmapped (guarding k x) v.walk t e in ap (λ (q : Walk). closed_of q.word) (sym was.2) ∙ s.unclosed was.0 was.1 else) refl)

  pub keep_fetch : (k : ℕ) (b' : Board) → Does z b v (Fetch k) b' → Kept z b' (set vs id (view_after v (Fetch k)))
  keep_fetch k b' d = let n : ℕ = get_or b.atoms k 0 in let soft = mark_soft k d.2 in let ok = s.counts d.0 d.1 in let c : Counted = counted d.0 k in let a : Held = record { slot = k; text = c.text } in
      let ours : HeldOk z b.atoms b.texts r.plan.chain a = ok.live k c (or_at d.0 k uncounted (omega (arith, ok.each_slot, d.2))) d.3 in
      subst (λ y. Kept z y (set vs id (view_after v (Fetch k)))) (sym d.5) (knows k (marked n) r.plan.owner (view_after v (Fetch k)) soft (λ ne. r.blank k (λ e. ne (state-marked n ∙ e))) refl (own_marked k d.2)
      (λ i q e. ⊎_elim (held_as k (marked n) r.plan.owner soft i q)
      (λ (t : (i ≡ length v.held) × (a ≡ q)). subst (HeldOk z (set b.atoms k (marked n)) b.texts r.plan.chain) t.1 (held_stays z b.atoms (set b.atoms k (marked n)) b.texts r.plan.chain a (soft_valid z b.atoms r.plan r.plan.owner id k (marked n) soft) ours))
      (at_snoc v.held a q i (sym (ap (λ y. get_elem? (v.held ++ held_counted k y) i) d.1) ∙ e)))
      refl (counts_as k (marked n) r.plan.owner soft (count-marked n)) s.walk
      (subst (λ (y : Option (List Counted)). MarksOk z b.epoch b.acks (set b.atoms k (marked n)) r.plan.engine r.plan.sweep.cursor id v.cycle v.undealt (v.held ++ held_counted k y) v.walk) (sym d.1)
      (marks_more k (marked n) r.plan.owner soft (state-marked n ∙ ours.valid) (mark-marked n) d.4 a refl)) refl refl s.trail s.unclosed refl)

  -- THE KEEPER COUNTS
  pub has : (a : Held) → In a v.held ⊎ In a v.fixed → HeldOk z b.atoms b.texts r.plan.chain a
  has a h = ⊎_elim (λ (t : In a v.held). s.held t.0 a t.1) (λ (t : In a v.fixed). s.fixed t.0 a t.1) h

  -- linked slots with equal texts are one
  same_slot : (q k : ℕ) → Linked z.heads r.plan.chain q → Linked z.heads r.plan.chain k → q + 1 ≢ r.plan.fate.slot → k + 1 ≢ r.plan.fate.slot → text_of b.texts q ≡ text_of b.texts k → q ≡ k
  same_slot q k l m live live_too e = r.rows.unlike l.0 m.0 q k l.1 m.1 l.2 m.2 live live_too e

  pub alone_at : (k : ℕ) (t : List ℕ) → Linked z.heads r.plan.chain k → state_of (get_or b.atoms k 0) ≢ 2 → text_of b.texts k ≡ t → Alone v k t
  alone_at k t on alive is a ours = let ok = has a ours in let valid = ok.valid in
      ((λ e. sym ok.text ∙ (ap (text_of b.texts) e ∙ is)), λ e. same_slot a.slot k ok.linked on (not_dying a.slot (λ two. omega arith)) (not_dying k alive) (ok.text ∙ (e ∙ sym is)))

  count_soft : (k x : ℕ) → k < z.slots → state_of (get_or b.atoms k 0) ≡ 3 → state_of x ≡ 3 → mark_of x ≡ mark_of (get_or b.atoms k 0) → r.plan.keeper ≡ id → Soft z b.atoms r.plan r.plan.owner id k x
  count_soft k x inside was now mark mine = record {
    inside = in_atoms k inside;
    valid = λ _. now;
    mark = λ _ m. mark ∙ m;
    mine = λ e. absurd (omega arith);
    others = λ q _. refl;
    count = inr mine;
    live = λ _. inl (inr now);
    linked = λ _. r.slots.valid k was;
    only = λ e. absurd (omega arith);
    dies = λ e. absurd (let dying = r.slots.dies k e in omega arith);
    zero = λ ne. absurd (ne now);
    shut = λ _ _ e. absurd (omega arith);
  }

  -- after a count of the slot k has become c, and its word x
  counts_set : (k x : ℕ) (cs : List Counted) (c : Counted) → Soft z b.atoms r.plan r.plan.owner id k x → CountsOk z b.atoms b.texts r.plan.chain r.plan.keeper id cs → count_of x ≡ c.count
      → HeldOk z b.atoms b.texts r.plan.chain (record { slot = k; text = c.text }) → CountsOk z (set b.atoms k x) b.texts r.plan.chain r.plan.keeper id (set cs k c)
  counts_set k x cs c soft ok now held = record {
    mine = ok.mine;
    each_slot = length-set cs k c ∙ ok.each_slot;
    counts = λ q y e. ⊎_elim
        (λ (t : (q ≡ k) × (c ≡ y)). word_after (λ n. count_of n ≡ y.count) b.atoms k x q soft.inside (λ _. now ∙ ap (λ (i : Counted). i.count) t.1) (λ ne. absurd (ne t.0)))
        (λ (t : (q ≢ k) × (get_elem? cs q ≡ some y)). word_after (λ n. count_of n ≡ y.count) b.atoms k x q soft.inside (λ is. absurd (t.0 is)) (λ _. ok.counts q y t.1))
        (at_set cs k q c y e);
    live = λ q y e some_. let stays = soft_valid z b.atoms r.plan r.plan.owner id k x soft in ⊎_elim
        (λ (t : (q ≡ k) × (c ≡ y)). held_stays z b.atoms (set b.atoms k x) b.texts r.plan.chain (record { slot = q; text = y.text }) stays
        (subst (λ (i : ℕ × Counted). HeldOk z b.atoms b.texts r.plan.chain (record { slot = i.0; text = i.1.text })) (λ i. (sym t.0 i, t.1 i)) held))
        (λ (t : (q ≢ k) × (get_elem? cs q ≡ some y)). held_stays z b.atoms (set b.atoms k x) b.texts r.plan.chain (record { slot = q; text = y.text }) stays (ok.live q y t.1 some_))
        (at_set cs k q c y e);
  }

  own_counted : (k x : ℕ) → Soft z b.atoms r.plan r.plan.owner id k x → state_of (get_or b.atoms k 0) ≡ 3 → (o : Own) → v.own ≡ Some o → OwnOk z (set b.atoms k x) b.links b.texts r.plan.chain r.plan.owner id o
  own_counted k x soft valid o e = own_stays z b.atoms (set b.atoms k x) b.links b.texts r.plan.chain r.plan.owner r.plan.owner id o
      (λ mine reserved. (
        mine,
        word_after (λ n. state_of n ≡ 1) b.atoms k x o.slot soft.inside
            (λ q. let here : state_of (get_or b.atoms k 0) ≡ 1 = subst (λ (i : ℕ). state_of (get_or b.atoms i 0) ≡ 1) q reserved in absurd (omega arith)) (λ _. reserved),
      )) (s.own o e)

  pub keep_register : (a : Held) (b' : Board) → Does z b v (Register a) b' → Kept z b' (set vs id (view_after v (Register a)))
  keep_register a b' d = let cs : List Counted = d.0 in let ok = s.counts cs d.1 in let h = has a d.2 in let k : ℕ = a.slot in let n : ℕ = get_or b.atoms k 0 in let x : ℕ = n + 8 in let valid = h.valid in
      let c : Counted = record { count = (counted cs k).count + 1; text = a.text } in let was : count_of n ≡ (counted cs k).count = ok.counts k (counted cs k) (or_at cs k uncounted (omega (arith, ok.each_slot, h.inside))) in
      let soft = count_soft k x h.inside valid (omega arith) (omega arith) ok.mine in
      subst (λ y. Kept z y (set vs id (view_after v (Register a)))) (sym d.4) (knows k x r.plan.owner (view_after v (Register a)) soft (λ _. r.blank k (λ one. omega arith)) refl (own_counted k x soft valid) (held_as k x r.plan.owner soft) refl
      (λ y e. let is = unmapped (once_more a) v.counts y e in let same : cs ≡ is.0 = some_same cs is.0 v.counts d.1 is.1 in
      subst (λ i. CountsOk z (set b.atoms k x) b.texts r.plan.chain r.plan.keeper id i) (ap (once_more a) same ∙ is.2) (counts_set k x cs c soft ok (omega arith) h))
      s.walk (marks_as k x r.plan.owner soft) refl refl s.trail s.unclosed refl)

  pub keep_unregister : (k : ℕ) (b' : Board) → Does z b v (Unregister k) b' → Kept z b' (set vs id (view_after v (Unregister k)))
  keep_unregister k b' d = let cs : List Counted = d.0 in let ok = s.counts cs d.1 in let n : ℕ = get_or b.atoms k 0 in let x : ℕ = n - 8 in let at = or_at cs k uncounted (omega (arith, ok.each_slot, d.2)) in
      let h = ok.live k (counted cs k) at d.3 in let valid = h.valid in let some_ = d.3 in
      let c : Counted = record { count = (counted cs k).count - 1; text = (counted cs k).text } in let was : count_of n ≡ (counted cs k).count = ok.counts k (counted cs k) at in
      let soft = count_soft k x d.2 valid (omega arith) (omega arith) ok.mine in
      subst (λ y. Kept z y (set vs id (view_after v (Unregister k)))) (sym d.4) (knows k x r.plan.owner (view_after v (Unregister k)) soft (λ _. r.blank k (λ one. omega arith)) refl (own_counted k x soft valid) (held_as k x r.plan.owner soft) refl
      (λ y e. let is = unmapped (once_less k) v.counts y e in let same : cs ≡ is.0 = some_same cs is.0 v.counts d.1 is.1 in
      subst (λ i. CountsOk z (set b.atoms k x) b.texts r.plan.chain r.plan.keeper id i) (ap (once_less k) same ∙ is.2) (counts_set k x cs c soft ok (omega arith) h))
      s.walk (marks_as k x r.plan.owner soft) refl refl s.trail s.unclosed refl)
