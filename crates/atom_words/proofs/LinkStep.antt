-- Linking a slot in front of its bucket's chain keeps the rule.
use Rattle.std.proofs.Common.{◌≡◌, ◌≢◌, ◌⊎◌, ℕ, ◌+◌, ◌<◌, ◌≤◌, false, List, [], ◌∷◌, length, get_or, set, take, refl, sym, ap, ◌∙◌, subst, inl, inr, ⊎_elim, arith, Some, None, length-set, take_all, get_or-set_same, get_or-set_other, ◌^◌}
use native.Mathlib.Decide.{ℕ_discrete}
use Rattle.atom_words.specs.Layout.{state_of, first_of, version_of, head_word, worn, last, phase_of, closed_of}
use Rattle.atom_words.specs.Texts.{bucket, Formed}
use Rattle.atom_words.specs.Board.{Board, text_of, with_head}
use Rattle.atom_words.specs.Chains.{In, Chain, Linked}
use Rattle.atom_words.specs.Kinds.{linked_own, view_after, Ended, Does}
use Rattle.atom_words.specs.Kept.{Plan, Fate, OwnOk, HeldOk, CountsOk, Seen, Unwalked, WalkOk, SeatOk, Rows, Slots, Trail, DyingOk, Kept}
use Rattle.atom_words.specs.declared.size.Size.{Size}
use Rattle.atom_words.specs.declared.view.Held.{Held}
use Rattle.atom_words.specs.declared.view.Counted.{Counted}
use Rattle.atom_words.specs.declared.view.Own.{Own}
use Rattle.atom_words.specs.declared.view.Walk.{Walk}
use Rattle.atom_words.specs.declared.view.Sweeping.{Sweeping}
use Rattle.atom_words.specs.declared.view.View.{View}
use Rattle.atom_words.specs.declared.kind.Kind.TheVariants.{Link}
use Rattle.atom_words.proofs.Layouts.{first-head_word, closed-head_word, version-head_word}
use Rattle.atom_words.proofs.Slices.{some_same, in_none, in_later, in_cases, text_short, word_after}
use Rattle.atom_words.proofs.Puts.{put, put_here, put_else, unmapped}
use Rattle.atom_words.proofs.Rowing.{early_open, chains_still, stands_early, grow_early}
use Rattle.atom_words.proofs.Frames.{seats_stay, marks_walk}

-- THE SLOT k STANDS IN FRONT OF THE CHAIN OF h
module _ (z : Size) (chain : ℕ → List ℕ) (h k : ℕ) (inside : h < z.heads) where
  abbrev pub longer : ℕ → List ℕ
  longer = put chain h (k ∷ chain h)

  at_h : put chain h (k ∷ chain h) h ≡ k ∷ chain h
  at_h = put_here chain h (k ∷ chain h)

  at_else : (g : ℕ) → g ≢ h → put chain h (k ∷ chain h) g ≡ chain g
  at_else g ne = put_else chain h (k ∷ chain h) g ne

  pub still_linked : (q : ℕ) → Linked z.heads chain q → Linked z.heads (put chain h (k ∷ chain h)) q
  still_linked q l = (
    l.0,
    l.1,
    elim (ℕ_discrete l.0 h) as (λ _. In q (put chain h (k ∷ chain h) l.0)) [
      | yes e ↦ subst (λ (g : ℕ). In q (put chain h (k ∷ chain h) g)) (sym e) (subst (In q) (sym at_h) (in_later q k (chain h) (subst (λ (g : ℕ). In q (chain g)) e l.2)))
      | no ne ↦ subst (In q) (sym (at_else l.0 ne)) l.2
    ],
  )

  pub now_linked : Linked z.heads (put chain h (k ∷ chain h)) k
  now_linked = (h, inside, subst (In k) (sym at_h) (0, refl))

  pub was_linked : (q : ℕ) → Linked z.heads (put chain h (k ∷ chain h)) q → (k ≡ q) ⊎ Linked z.heads chain q
  was_linked q l = elim (ℕ_discrete l.0 h) as (λ _. (k ≡ q) ⊎ Linked z.heads chain q) [
    | yes e ↦ ⊎_elim (λ (t : k ≡ q). inl t) (λ (t : In q (chain h)). inr (h, inside, t)) (in_cases q k (chain h) (subst (In q) at_h (subst (λ (g : ℕ). In q (put chain h (k ∷ chain h) g)) e l.2)))
    | no ne ↦ inr (l.0, l.1, subst (In q) (at_else l.0 ne) l.2)
  ]

  held_linked : (atoms texts : List ℕ) (a : Held) → HeldOk z atoms texts chain a → HeldOk z atoms texts (put chain h (k ∷ chain h)) a
  held_linked atoms texts a ok = record { inside = ok.inside; valid = ok.valid; linked = still_linked a.slot ok.linked; text = ok.text }

  counts_linked : (atoms texts : List ℕ) (keeper j : ℕ) (cs : List Counted) → CountsOk z atoms texts chain keeper j cs → CountsOk z atoms texts (put chain h (k ∷ chain h)) keeper j cs
  counts_linked atoms texts keeper j cs ok = record { mine = ok.mine; each_slot = ok.each_slot; counts = ok.counts; live = λ q c at some_. held_linked atoms texts (record { slot = q; text = c.text }) (ok.live q c at some_) }

  -- a walk over that chain knows nothing any more, since the version has moved; the others are not concerned
  walk_linked : (links heads texts : List ℕ) (f : Fate) (n : ℕ) (w : Walk) → h < length heads → version_of n ≡ version_of (get_or heads h 0) + 1 → WalkOk z links heads texts chain f w
      → WalkOk z links (set heads h n) texts (put chain h (k ∷ chain h)) f w
  walk_linked links heads texts f n w there moved ok = let past = ok.past in record {
    inside = ok.inside;
    short = ok.short;
    past = word_after (λ y. version_of w.word ≤ version_of y) heads h n w.head there
        (λ e. let here : version_of w.word ≤ version_of (get_or heads h 0) = subst (λ (g : ℕ). version_of w.word ≤ version_of (get_or heads g 0)) e past in omega arith) (λ _. past);
    word = λ same. elim (ℕ_discrete w.head h) as (λ _. get_or (set heads h n) w.head 0 ≡ w.word) [
      | yes e ↦ absurd (let here : version_of w.word ≤ version_of (get_or heads h 0) = subst (λ (g : ℕ). version_of w.word ≤ version_of (get_or heads g 0)) e past in
          let now : version_of n ≡ version_of w.word = sym (ap version_of (get_or-set_same heads h n 0 there)) ∙ (ap (λ (g : ℕ). version_of (get_or (set heads h n) g 0)) (sym e) ∙ same) in omega arith)
      | no ne ↦ get_or-set_other heads h w.head n 0 ne ∙ ok.word (ap version_of (sym (get_or-set_other heads h w.head n 0 ne)) ∙ same)
    ];
    claim = λ same. elim (ℕ_discrete w.head h) as (λ _. Unwalked links texts f w (put chain h (k ∷ chain h) w.head)) [
      | yes e ↦ absurd (let here : version_of w.word ≤ version_of (get_or heads h 0) = subst (λ (g : ℕ). version_of w.word ≤ version_of (get_or heads g 0)) e past in
          let now : version_of n ≡ version_of w.word = sym (ap version_of (get_or-set_same heads h n 0 there)) ∙ (ap (λ (g : ℕ). version_of (get_or (set heads h n) g 0)) (sym e) ∙ same) in omega arith)
      | no ne ↦ subst (Unwalked links texts f w) (sym (at_else w.head ne)) (ok.claim (ap version_of (sym (get_or-set_other heads h w.head n 0 ne)) ∙ same))
    ];
    lost = λ g. word_after (λ y. version_of w.word < version_of y) heads h n w.head there
        (λ e. let here : version_of w.word < version_of (get_or heads h 0) = subst (λ (i : ℕ). version_of w.word < version_of (get_or heads i 0)) e (ok.lost g) in omega arith) (λ _. ok.lost g);
  }

  -- the collector's walk: one slot is new in front
  trail_linked : (epoch row : ℕ) (links heads : List ℕ) (n : ℕ) (y : Sweeping) (w : Walk) → h < length heads → version_of n < last → closed_of n ≡ 0 → Trail epoch row links heads chain y w → Trail epoch row links (set heads h n) (put chain h (k ∷ chain h)) y w
  trail_linked epoch row links heads n y w there early open_ t = let fresh : phase_of epoch ≡ 2 → version_of w.word < last → version_of (get_or (set heads h n) w.head 0) < last = (λ two first. word_after (λ m. version_of m < last) heads h n w.head there (λ _. early) (λ _. t.fresh two first)) in
      let still : closed_of (get_or (set heads h n) w.head 0) ≢ 0 → get_or (set heads h n) w.head 0 ≡ w.word = word_after (λ m. closed_of m ≢ 0 → m ≡ w.word) heads h n w.head there (λ _ c. absurd (c open_)) (λ _. t.still) in
      elim (ℕ_discrete w.head h) as (λ _. Trail epoch row links (set heads h n) (put chain h (k ∷ chain h)) y w) [
        | yes e ↦ record { news = k ∷ t.news; path = t.path; whole = ap (put chain h (k ∷ chain h)) e ∙ (at_h ∙ ap (λ (l : List ℕ). k ∷ l) (ap chain (sym e) ∙ t.whole)); reached = t.reached; fresh = fresh; ahead = t.ahead; still = still }
        | no ne ↦ record { news = t.news; path = t.path; whole = at_else w.head ne ∙ t.whole; reached = t.reached; fresh = fresh; ahead = t.ahead; still = still }
      ]

  -- the dying slot is another
  dying_linked : (epoch : ℕ) (links heads : List ℕ) (n : ℕ) (y : Sweeping) (f : Fate) → h < length heads → version_of n ≡ version_of (get_or heads h 0) + 1 → version_of n < last → f.slot ≢ k + 1 → DyingOk z epoch links heads chain y f
      → DyingOk z epoch links (set heads h n) (put chain h (k ∷ chain h)) y f
  unfolding still_linked
  dying_linked epoch links heads n y f there moved early other d = record {
    sweeping = d.sweeping;
    at = d.at;
    high = d.high;
    inside = d.inside;
    there = λ in_. let t = d.there in_ in ((still_linked y.cursor (f.head, d.inside, t.0)).2, word_after (λ m. version_of m < last) heads h n f.head there (λ _. early) (λ _. t.1));
    behind = d.behind;
    gone = λ out. let t = d.gone out in (
      (λ l. ⊎_elim (λ (e : k ≡ y.cursor). other (d.at ∙ ap (λ (i : ℕ). i + 1) (sym e))) t.0 (was_linked y.cursor l)),
      word_after (λ m. f.left ≤ version_of m) heads h n f.head there (λ e. let here : f.left ≤ version_of (get_or heads h 0) = subst (λ (g : ℕ). f.left ≤ version_of (get_or heads g 0)) e t.1 in omega arith) (λ _. t.1),
      λ not_past. word_after (λ m. version_of m < last) heads h n f.head there (λ _. early) (λ _. t.2 not_past),
    );
    noted = λ out x e. let t = d.noted out x e in let seen = t.1 in (
      t.0,
      word_after (λ m. version_of x ≤ version_of m) heads h n f.head there (λ same. let here : version_of x ≤ version_of (get_or heads h 0) = subst (λ (g : ℕ). version_of x ≤ version_of (get_or heads g 0)) same seen in omega arith) (λ _. seen),
      word_after (λ m. version_of m ≡ version_of x → m ≡ x) heads h n f.head there
          (λ same is. absurd (let here : version_of x ≤ version_of (get_or heads h 0) = subst (λ (g : ℕ). version_of x ≤ version_of (get_or heads g 0)) same seen in omega arith)) (λ _. t.2),
    );
    past = λ out p. let t = d.past out p in word_after (λ m. f.left < version_of m) heads h n f.head there (λ e. let here : f.left < version_of (get_or heads h 0) = subst (λ (g : ℕ). f.left < version_of (get_or heads g 0)) e t in omega arith) (λ _. t);
  }

module _ (z : Size) (b : Board) (vs : List View) (r : Kept z b vs) (id : ℕ) (v : View) (s : SeatOk z b r.plan id v) (o : Own) (w : Walk) (own : v.own ≡ Some o) (walk : v.walk ≡ Some w)
    (unlinked : o.linked ≡ false) (whole : length o.text ≡ 32) (formed_text : Formed o.text) (link : o.link ≡ Some (first_of w.word)) (ended : Ended b.row o w) (found : get_or b.heads w.head 0 ≡ w.word) (open_ : closed_of w.word ≡ 0) (fresh : version_of w.word < worn) where
  ok : OwnOk z b.atoms b.links b.texts r.plan.chain r.plan.owner id o
  ok = s.own o own

  walked : WalkOk z b.links b.heads b.texts r.plan.chain r.plan.fate w
  walked = s.walk w walk

  abbrev n : ℕ
  n = head_word (o.slot + 1) 0 (version_of w.word + 1)

  abbrev chain' : ℕ → List ℕ
  chain' = put r.plan.chain w.head (o.slot ∷ r.plan.chain w.head)

  abbrev place' : ℕ → ℕ
  place' = put r.plan.place o.slot w.head

  there : w.head < length b.heads
  there = let i = walked.inside in omega (arith, r.sized.heads)

  first_is : first_of (head_word (o.slot + 1) 0 (version_of w.word + 1)) ≡ o.slot + 1
  first_is = let i = ok.inside in let sm = r.sized.small in first-head_word (o.slot + 1) 0 (version_of w.word + 1) (omega arith) (omega arith)

  version_is : version_of (head_word (o.slot + 1) 0 (version_of w.word + 1)) ≡ version_of (get_or b.heads w.head 0) + 1
  version_is = let i = ok.inside in let sm = r.sized.small in version-head_word (o.slot + 1) 0 (version_of w.word + 1) (omega arith) (omega arith) ∙ ap (λ (y : ℕ). version_of y + 1) (sym found)

  early : version_of (head_word (o.slot + 1) 0 (version_of w.word + 1)) < last
  early = let v' = version_is in let same = ap version_of found in omega arith

  text_is : text_of b.texts o.slot ≡ o.text
  text_is = let short = text_short b.texts o.slot in sym (take_all (length o.text) (text_of b.texts o.slot) (omega arith)) ∙ ok.text

  apart : (q : ℕ) → Linked z.heads r.plan.chain q → q ≢ o.slot
  apart q l e = ok.apart unlinked (subst (Linked z.heads r.plan.chain) e l)

  -- the head is open, so that no chain is being moved
  open_head : closed_of (get_or b.heads w.head 0) ≡ 0
  open_head = ap closed_of found ∙ open_

  early_row : r.plan.grow.shut < 2 ^ b.row
  early_row = early_open z b.epoch b.row b.heads b.texts r.plan.chain r.plan.grow r.grow w.head walked.inside open_head

  closed_is : closed_of (head_word (o.slot + 1) 0 (version_of w.word + 1)) ≡ 0
  closed_is = let i = ok.inside in let sm = r.sized.small in closed-head_word (o.slot + 1) 0 (version_of w.word + 1) (omega arith) (omega arith)

  stood : (g q : ℕ) → g < z.heads → In q (r.plan.chain g) → bucket b.row (text_of b.texts q) ≡ g
  stood g q inside i = stands_early z b.row r.plan.grow b.links b.heads b.texts r.plan.chain r.plan.place r.plan.fate r.rows early_row g q inside i

  whole_chain : (g : ℕ) → g < z.heads → Chain b.links (first_of (get_or b.heads g 0)) (r.plan.chain g)
  whole_chain g inside = chains_still z b.row r.plan.grow b.links b.heads b.texts r.plan.chain r.plan.place r.plan.fate r.rows (r.grow.rest (inl early_row)).1 g inside

  -- no slot but the dying one has the text
  new_text : (q : ℕ) → In q (r.plan.chain w.head) → q + 1 ≢ r.plan.fate.slot → text_of b.texts q ≢ o.text
  new_text q i alive e = let u = walked.claim (ap version_of found) in ⊎_elim
      (λ (t : Seen b.texts w.seen q). ended.2 t.0 t.1 t.2 (sym t.4 ∙ ap (take (length t.1.text)) e))
      (λ (t : In q u.path). in_none q (subst (In q) (over u.path u.reached) t))
      (u.each q i alive)
    where
      over : (path : List ℕ) → Chain b.links w.place path → path ≡ []
      over [] c = refl
      over (k ∷ ks) c = absurd (let at : w.place ≡ k + 1 = c.0 in omega (arith, ended.1))

  new_anywhere : (g q : ℕ) → g < z.heads → In q (r.plan.chain g) → q + 1 ≢ r.plan.fate.slot → text_of b.texts q ≡ o.text → ⊥
  new_anywhere g q inside i alive e = let at : g ≡ w.head = sym (stood g q inside i) ∙ (ap (bucket b.row) e ∙ ended.0) in new_text q (subst (λ (h : ℕ). In q (r.plan.chain h)) at i) alive e

  -- facts of each slot of a chain, by whether it is the new one
  on_chain : (P : ℕ → ℕ → Type 0) → P w.head o.slot → ((g q : ℕ) → g < z.heads → In q (r.plan.chain g) → P g q) → (g q : ℕ) → g < z.heads → In q (put r.plan.chain w.head (o.slot ∷ r.plan.chain w.head) g) → P g q
  on_chain P new old g q inside i = elim (ℕ_discrete g w.head) as (λ _. P g q) [
    | yes e ↦ subst (λ (y : ℕ). P y q) (sym e) (⊎_elim (λ (t : o.slot ≡ q). subst (P w.head) t new) (λ (t : In q (r.plan.chain w.head)). old w.head q walked.inside t)
        (in_cases q o.slot (r.plan.chain w.head) (subst (In q) (put_here r.plan.chain w.head (o.slot ∷ r.plan.chain w.head)) (subst (λ (y : ℕ). In q (put r.plan.chain w.head (o.slot ∷ r.plan.chain w.head) y)) e i))))
    | no ne ↦ old g q inside (subst (In q) (put_else r.plan.chain w.head (o.slot ∷ r.plan.chain w.head) g ne) i)
  ]

  was_on : (g q : ℕ) → g < z.heads → In q (put r.plan.chain w.head (o.slot ∷ r.plan.chain w.head) g) → (o.slot ≡ q) ⊎ In q (r.plan.chain g)
  was_on g q inside i = on_chain (λ h k. (o.slot ≡ k) ⊎ In k (r.plan.chain h)) (inl refl) (λ h k _ j. inr j) g q inside i

  rows_linked : Rows z b.row r.plan.grow b.links (set b.heads w.head (head_word (o.slot + 1) 0 (version_of w.word + 1))) b.texts (put r.plan.chain w.head (o.slot ∷ r.plan.chain w.head)) (put r.plan.place o.slot w.head) r.plan.fate
  rows_linked = record {
    chains = λ g inside _. elim (ℕ_discrete g w.head) as (λ _. Chain b.links (first_of (get_or (set b.heads w.head n) g 0)) (put r.plan.chain w.head (o.slot ∷ r.plan.chain w.head) g)) [
      | yes e ↦ subst (λ (y : ℕ). Chain b.links (first_of (get_or (set b.heads w.head n) y 0)) (put r.plan.chain w.head (o.slot ∷ r.plan.chain w.head) y)) (sym e)
          (subst (Chain b.links (first_of (get_or (set b.heads w.head n) w.head 0))) (sym (put_here r.plan.chain w.head (o.slot ∷ r.plan.chain w.head))) (
            ap first_of (get_or-set_same b.heads w.head n 0 there) ∙ first_is,
            omega (arith, ok.inside, r.sized.links),
            subst (λ (y : ℕ). Chain b.links y (r.plan.chain w.head)) (ap first_of found ∙ sym (ok.link (first_of w.word) link unlinked)) (whole_chain w.head walked.inside),
          ))
      | no ne ↦ subst (Chain b.links (first_of (get_or (set b.heads w.head n) g 0))) (sym (put_else r.plan.chain w.head (o.slot ∷ r.plan.chain w.head) g ne))
          (subst (λ (y : ℕ). Chain b.links (first_of y) (r.plan.chain g)) (sym (get_or-set_other b.heads w.head g n 0 ne)) (whole_chain g inside))
    ];
    leaves = λ ne. absurd (ne (r.grow.rest (inl early_row)).1);
    once = on_chain (λ g q. put r.plan.place o.slot w.head q ≡ g) (put_here r.plan.place o.slot w.head)
        (λ g q inside i. put_else r.plan.place o.slot w.head q (apart q (g, inside, i)) ∙ r.rows.once g q inside i);
    stands = λ g q inside i. inl (on_chain (λ h k. bucket b.row (text_of b.texts k) ≡ h) (ap (bucket b.row) text_is ∙ ended.0) stood g q inside i);
    formed = on_chain (λ h k. Formed (text_of b.texts k)) (subst Formed (sym text_is) formed_text) r.rows.formed;
    unlike = λ g h k q inside inside_too i j alive too e. ⊎_elim
        (λ (a : o.slot ≡ k). ⊎_elim (λ (c : o.slot ≡ q). sym a ∙ c) (λ (c : In q (r.plan.chain h)). absurd (new_anywhere h q inside_too c too (sym e ∙ (ap (text_of b.texts) (sym a) ∙ text_is)))) (was_on h q inside_too j))
        (λ (a : In k (r.plan.chain g)). ⊎_elim (λ (c : o.slot ≡ q). absurd (new_anywhere g k inside a alive (e ∙ (ap (text_of b.texts) (sym c) ∙ text_is)))) (λ (c : In q (r.plan.chain h)). r.rows.unlike g h k q inside inside_too a c alive too e) (was_on h q inside_too j))
        (was_on g k inside i);
  }

  slots_linked : Slots z b.atoms (put r.plan.chain w.head (o.slot ∷ r.plan.chain w.head)) r.plan.fate
  slots_linked = record {
    live = λ q l. ⊎_elim (λ (t : o.slot ≡ q). subst (λ (y : ℕ). ((state_of (get_or b.atoms y 0) ≡ 1) ⊎ (state_of (get_or b.atoms y 0) ≡ 3)) ⊎ (r.plan.fate.slot ≡ y + 1)) t (inl (inl ok.state))) (r.slots.live q) (was_linked z r.plan.chain w.head o.slot walked.inside q l);
    valid = λ q e. still_linked z r.plan.chain w.head o.slot walked.inside q (r.slots.valid q e);
    only = r.slots.only;
    dies = r.slots.dies;
    zero = r.slots.zero;
    shut = r.slots.shut;
  }

  abbrev plan' : Plan
  plan' = record r.plan { chain = put r.plan.chain w.head (o.slot ∷ r.plan.chain w.head); place = put r.plan.place o.slot w.head }

  -- versions do not fall
  risen_linked : (h : ℕ) → z.start ≤ version_of (get_or b.heads h 0) → z.start ≤ version_of (get_or (set b.heads w.head n) h 0)
  risen_linked h high = word_after (λ y. z.start ≤ version_of y) b.heads w.head n h there
      (λ e. let here : z.start ≤ version_of (get_or b.heads w.head 0) = subst (λ (i : ℕ). z.start ≤ version_of (get_or b.heads i 0)) e high in let v' = version_is in omega arith) (λ _. high)

  others_linked : (j : ℕ) (y : View) → j ≢ id → SeatOk z b r.plan j y → SeatOk z (with_head b w.head n) plan' j y
  others_linked j y other sj = record {
    size = sj.size;
    own = λ m e. let k = sj.own m e in record {
      inside = k.inside;
      mine = k.mine;
      usable = k.usable;
      state = k.state;
      short = k.short;
      text = k.text;
      rest = k.rest;
      link = k.link;
      apart = λ un l. ⊎_elim (λ (t : o.slot ≡ m.slot). other (sym k.mine ∙ (ap r.plan.owner (sym t) ∙ ok.mine))) (k.apart un) (was_linked z r.plan.chain w.head o.slot walked.inside m.slot l);
      linked = λ on. let t = k.linked on in (still_linked z r.plan.chain w.head o.slot walked.inside m.slot t.0, t.1);
    };
    held = λ i a e. held_linked z r.plan.chain w.head o.slot walked.inside b.atoms b.texts a (sj.held i a e);
    fixed = λ i a e. held_linked z r.plan.chain w.head o.slot walked.inside b.atoms b.texts a (sj.fixed i a e);
    low = sj.low;
    counts = λ cs e. counts_linked z r.plan.chain w.head o.slot walked.inside b.atoms b.texts r.plan.keeper j cs (sj.counts cs e);
    walk = λ t e. walk_linked z r.plan.chain w.head o.slot walked.inside b.links b.heads b.texts r.plan.fate n t there version_is (sj.walk t e);
    marks = sj.marks;
    sweeps = sj.sweeps;
    trail = λ q t e f. trail_linked z r.plan.chain w.head o.slot walked.inside b.epoch b.row b.links b.heads n q t there early closed_is (sj.trail q t e f);
    risen = λ h below. let t = sj.risen h below in (t.0, risen_linked h t.1);
    unclosed = sj.unclosed;
    grows = sj.grows;
  }

  mine_linked : SeatOk z (with_head b w.head n) plan' id (view_after v Link)
  mine_linked = record {
    size = s.size;
    own = λ m e. let was = unmapped linked_own v.own m e in let same : o ≡ was.0 = some_same o was.0 v.own own was.1 in
        subst (λ y. OwnOk z b.atoms b.links b.texts (put r.plan.chain w.head (o.slot ∷ r.plan.chain w.head)) r.plan.owner id y) (ap linked_own same ∙ was.2) record {
          inside = ok.inside;
          mine = ok.mine;
          usable = ok.usable;
          state = ok.state;
          short = ok.short;
          text = ok.text;
          rest = λ no. cc;
          link = λ l is no. cc;
          apart = λ no. cc;
          linked = λ _. (now_linked z r.plan.chain w.head o.slot walked.inside, whole);
        };
    held = λ i a e. held_linked z r.plan.chain w.head o.slot walked.inside b.atoms b.texts a (s.held i a e);
    fixed = λ i a e. held_linked z r.plan.chain w.head o.slot walked.inside b.atoms b.texts a (s.fixed i a e);
    low = s.low;
    counts = λ cs e. counts_linked z r.plan.chain w.head o.slot walked.inside b.atoms b.texts r.plan.keeper id cs (s.counts cs e);
    walk = λ t e. cc;
    marks = marks_walk z b.epoch b.acks b.atoms r.plan.engine r.plan.sweep.cursor id v.cycle v.undealt v.held v.walk s.marks None (λ t k e. cc);
    sweeps = s.sweeps;
    trail = λ q t e none. cc;
    risen = λ h below. let t = s.risen h below in (t.0, risen_linked h t.1);
    unclosed = λ t none. cc;
    grows = s.grows;
  }

  pub link_at : Kept z (with_head b w.head (head_word (o.slot + 1) 0 (version_of w.word + 1))) (set vs id (view_after v Link))
  link_at = record {
    plan = plan';
    sized = record { small = r.sized.small; acks = r.sized.acks; atoms = r.sized.atoms; links = r.sized.links; heads = length-set b.heads w.head n ∙ r.sized.heads; texts = r.sized.texts };
    grow = grow_early z b.epoch b.row b.heads b.texts r.plan.chain r.plan.grow r.grow early_row (set b.heads w.head n) chain'
        (λ g inside. word_after (λ m. closed_of m ≡ closed_of (get_or b.heads g 0)) b.heads w.head n g there (λ e. closed_is ∙ sym (ap (λ (q : ℕ). closed_of (get_or b.heads q 0)) e ∙ open_head)) (λ _. refl))
        (λ _ g inside shut. get_or-set_other b.heads w.head g n 0 (λ e. shut (ap (λ (q : ℕ). closed_of (get_or b.heads q 0)) e ∙ open_head)));
    rows = rows_linked;
    slots = slots_linked;
    cycle = r.cycle;
    sure = r.sure;
    blank = r.blank;
    fate = record {
      slot = r.fate.slot;
      out = r.fate.out;
      head = r.fate.head;
      idle = r.fate.idle;
      dies = λ ne. dying_linked z r.plan.chain w.head o.slot walked.inside b.epoch b.links b.heads n r.plan.sweep r.plan.fate there version_is early (λ e. let dying = r.slots.dies o.slot e in let state = ok.state in omega arith) (r.fate.dies ne);
    };
    seats = seats_stay (SeatOk z (with_head b w.head n) plan') vs id (view_after v Link) (λ _. mine_linked) (λ j y other at here. others_linked j y other (r.seats j y at here));
  }

pub keep_link : (z : Size) (b : Board) (vs : List View) (r : Kept z b vs) (id : ℕ) (v : View) → SeatOk z b r.plan id v → (b' : Board) → Does z b v Link b' → Kept z b' (set vs id (view_after v Link))
keep_link z b vs r id v s b' d = subst (λ y. Kept z y (set vs id (view_after v Link))) (sym d.12) (link_at z b vs r id v s d.0 d.1 d.2 d.3 d.4 d.5 d.6 d.7 d.8 d.9 d.10 d.11)
