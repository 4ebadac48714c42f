-- A slot that is moved to its new chain keeps the rule: it is put behind the last slot of that one, and then taken off its old one.
use Rattle.std.proofs.Common.{◌≡◌, ◌≢◌, ◌⊎◌, ℕ, zero, suc, ◌+◌, ◌-◌, ◌^◌, ◌<◌, ◌≤◌, true, false, List, [], ◌∷◌, ◌++◌, length, get_or, set, take, refl, sym, ap, ◌∙◌, subst, inl, inr, ⊎_elim, arith, Option, Some, None, take_all, append_assoc, append-nil, length-set, get_or-set_same, get_or-set_other}
use mathlib.Core.List.{map-append}
use mathlib.Core.Option.{some, some-injective}
use mathlib.Core.Logic.{dite}
use native.Mathlib.Decide.{ℕ_discrete}
use lib.ListN.{get_elem?}
use Rattle.atomic_table.proofs.Lists.{at_longer, at_last}
use Rattle.atom_words.specs.Layout.{first_of, closed_of, version_of, head_word, worn, last, row_first}
use Rattle.atom_words.specs.Texts.{bucket}
use Rattle.atom_words.specs.Board.{Board, text_of, with_link, with_head}
use Rattle.atom_words.specs.Chains.{In, Chain, Linked}
use Rattle.atom_words.specs.Kinds.{MovesChains, Picks, picking, moving, leaving, old_head, view_after, Does}
use Rattle.atom_words.specs.Kept.{Seen, WalkOk, SeatOk, slots, Trail, Leaving, LastBefore, Rows, GrowOk, Kept}
use Rattle.atom_words.specs.declared.size.Size.{Size}
use Rattle.atom_words.specs.declared.view.Held.{Held}
use Rattle.atom_words.specs.declared.view.Walk.{Walk}
use Rattle.atom_words.specs.declared.view.Growing.{Growing}
use Rattle.atom_words.specs.declared.view.View.{View}
use Rattle.atom_words.specs.declared.kind.Kind.{Kind}
use Rattle.atom_words.specs.declared.kind.Kind.TheVariants.{Pick, MoveHead, MoveLink, LeaveHead, LeaveLink}
use Rattle.atom_words.proofs.Layouts.{first-head_word, closed-head_word, version-head_word}
use Rattle.atom_words.proofs.Slices.{in_none, in_front, in_back, in_either, in_cases, chain_at, chain_else, chain_once, chain_inside, text_short, word_after}
use Rattle.atom_words.proofs.Puts.{put, put_here, put_else}
use Rattle.atom_words.proofs.Rowing.{bucket_in, rows_apart, old_inside, chains_still}
use Rattle.atom_words.proofs.Grows.{grown_is, none_dies, told, shifted, all_shut, other_aim, not_early, none_open, row_is}

-- THE END OF A CHAIN
module _ (links : List ℕ) where
  no_slots : (p : ℕ) (ks : List ℕ) → p ≡ 0 → Chain links p ks → ks ≡ []
  no_slots p [] e c = refl
  no_slots p (k ∷ ks) e c = absurd (omega (arith, e, c.0))

  -- the last slot's link word is 0
  chain_last : (p : ℕ) (zs : List ℕ) (k : ℕ) → Chain links p (zs ++ k ∷ []) → (get_or links k 0 ≡ 0) × (k < length links)
  chain_last p [] k c = (c.2, c.1)
  chain_last p (x ∷ zs) k c = chain_last (get_or links x 0) zs k c.2

  -- the slot before the last is no other
  not_last : (p x : ℕ) (zs : List ℕ) (q : ℕ) (ks : List ℕ) → Chain links p (x ∷ ((zs ++ q ∷ []) ++ ks)) → x ≢ q
  not_last p x zs q ks c e = let twice = chain_once links p (x ∷ ((zs ++ q ∷ []) ++ ks)) 0 (suc (length zs)) q c (ap some e) (at_longer (zs ++ q ∷ []) ks (length zs) q (at_last zs q (length zs) refl)) in omega arith

  -- a slot is put behind the last one
  chain_append : (p : ℕ) (zs : List ℕ) (q k : ℕ) → Chain links p (zs ++ q ∷ []) → k < length links → get_or links k 0 ≡ 0 → k ≢ q → Chain (set links q (k + 1)) p ((zs ++ q ∷ []) ++ k ∷ [])
  chain_append p [] q k c inside zero_ ne = (
    c.0,
    omega (arith, c.1, length-set links q (k + 1)),
    (get_or-set_same links q (k + 1) 0 c.1, omega (arith, inside, length-set links q (k + 1)), get_or-set_other links q k (k + 1) 0 ne ∙ zero_),
  )
  chain_append p (x ∷ zs) q k c inside zero_ ne = let other : x ≢ q = not_last p x zs q [] (subst (λ (l : List ℕ). Chain links p (x ∷ l)) (sym (append-nil (zs ++ q ∷ []))) c) in (
    c.0,
    omega (arith, c.1, length-set links q (k + 1)),
    subst (λ (n : ℕ). Chain (set links q (k + 1)) n ((zs ++ q ∷ []) ++ k ∷ [])) (sym (get_or-set_other links q x (k + 1) 0 other)) (chain_append (get_or links x 0) zs q k c.2 inside zero_ ne),
  )

  -- the last slot is taken off behind the one before it
  chain_cut : (p : ℕ) (ys : List ℕ) (q k : ℕ) → Chain links p ((ys ++ q ∷ []) ++ k ∷ []) → Chain (set links q 0) p (ys ++ q ∷ [])
  chain_cut p [] q k c = (c.0, omega (arith, c.1, length-set links q 0), get_or-set_same links q 0 0 c.1)
  chain_cut p (x ∷ ys) q k c = (
    c.0,
    omega (arith, c.1, length-set links q 0),
    subst (λ (n : ℕ). Chain (set links q 0) n (ys ++ q ∷ [])) (sym (get_or-set_other links q x 0 0 (not_last p x ys q (k ∷ []) c))) (chain_cut (get_or links x 0) ys q k c.2),
  )

  -- where the last slot is the first, it is the only one
  only_one : (k : ℕ) (news : List ℕ) → Chain links (k + 1) (news ++ k ∷ []) → news ≡ []
  only_one k [] c = refl
  only_one k (n ∷ ns) c = absurd (let first : n ≡ k = omega (arith, c.0) in let twice = chain_once links (k + 1) (n ∷ (ns ++ k ∷ [])) 0 (suc (length ns)) k c (ap some first) (at_last ns k (length ns) refl) in omega arith)

-- WHERE AN ELEMENT STANDS
at_back : {A : Type 0} (xs ys : List A) (i : ℕ) (a : A) → get_elem? ys i ≡ some a → (j : ℕ) × (j ≡ length xs + i) × (get_elem? (xs ++ ys) j ≡ some a)
at_back [] ys i a e = (i, omega arith, e)
at_back (x ∷ xs) ys i a e = let t = at_back xs ys i a e in (suc t.0, (let n = t.1 in omega arith), t.2)

slots_at : (l : List Held) (i : ℕ) (a : Held) → get_elem? l i ≡ some a → get_elem? (slots l) i ≡ some a.slot
slots_at [] i a e = cc
slots_at (x ∷ xs) zero a e = ap (λ (o : mathlib.Core.Option.Option Held). mathlib.Core.Option.map (λ (h : Held). h.slot) o) e
slots_at (x ∷ xs) (suc i) a e = slots_at xs i a e

module _ (z : Size) (b : Board) (vs : List View) (r : Kept z b vs) (id : ℕ) (v : View) (s : SeatOk z b r.plan id v) (m : MovesChains v) where
  abbrev from : ℕ
  from = row_first b.row + r.plan.grow.moved

  is_grown : r.plan.grow ≡ v.growing
  is_grown = grown_is z b vs r id v s m.0

  -- THE LAST SLOT OF THE OLD CHAIN IS KNOWN
  module _ (a : Held) (before : ℕ) (w : Walk) (still : r.plan.grow.moving ≡ 0) (more : r.plan.grow.moved < 2 ^ b.row) (walk : v.walk ≡ Some w) (head : w.head ≡ row_first b.row + r.plan.grow.moved) (ended : w.place ≡ 0) (whole : length a.text ≡ 32) (last_ : Picks w a before) where
    inside : w.head < z.heads
    inside = subst (λ (n : ℕ). n < z.heads) (sym head) (old_inside z b.epoch b.row b.heads b.texts r.plan.chain r.plan.grow r.grow more)

    trailed : Trail b.epoch b.row b.links b.heads r.plan.chain m.0.0 w
    trailed = s.trail m.0.0 w m.0.1 walk

    unmoved : get_or b.heads w.head 0 ≡ w.word
    unmoved = trailed.still (none_open z b vs r id v s m w.head inside)

    path_none : trailed.path ≡ []
    path_none = no_slots b.links w.place trailed.path ended trailed.reached

    chain_is : r.plan.chain w.head ≡ trailed.news ++ slots w.seen
    chain_is = trailed.whole ∙ ap (λ (l : List ℕ). trailed.news ++ l) (ap (λ (l : List ℕ). slots w.seen ++ l) path_none ∙ append-nil (slots w.seen))

    chain_ok : Chain b.links (first_of w.word) (trailed.news ++ slots w.seen)
    chain_ok = subst (Chain b.links (first_of w.word)) chain_is (subst (λ (n : ℕ). Chain b.links (first_of n) (r.plan.chain w.head)) unmoved
        (chains_still z b.row r.plan.grow b.links b.heads b.texts r.plan.chain r.plan.place r.plan.fate r.rows still w.head inside))

    -- what stands before it
    ends : (xs : List ℕ) × (trailed.news ++ slots w.seen ≡ xs ++ a.slot ∷ []) × LastBefore before xs
    ends = ⊎_elim
        (λ (t : (w.seen ≡ a ∷ []) × (first_of w.word ≡ a.slot + 1) × (before ≡ 0)). let is : trailed.news ++ slots w.seen ≡ trailed.news ++ a.slot ∷ [] = ap (λ (l : List Held). trailed.news ++ slots l) t.0 in
        let none : trailed.news ≡ [] = only_one b.links a.slot trailed.news (subst (λ (n : ℕ). Chain b.links n (trailed.news ++ a.slot ∷ [])) t.1 (subst (Chain b.links (first_of w.word)) is chain_ok)) in
        (trailed.news, is, inl (t.2, none)))
        (λ (t : (front : List Held) × (c : Held) × (w.seen ≡ front ++ c ∷ a ∷ []) × (before ≡ c.slot + 1)).
        let is : trailed.news ++ slots w.seen ≡ ((trailed.news ++ slots t.0) ++ t.1.slot ∷ []) ++ a.slot ∷ [] =
        ap (λ (l : List Held). trailed.news ++ slots l) t.2 ∙ (ap (λ (l : List ℕ). trailed.news ++ l) (map-append (λ (x : Held). x.slot) t.0 (t.1 ∷ a ∷ []))
        ∙ (sym (append_assoc trailed.news (slots t.0) (t.1.slot ∷ a.slot ∷ [])) ∙ sym (append_assoc (trailed.news ++ slots t.0) (t.1.slot ∷ []) (a.slot ∷ [])))) in
        ((trailed.news ++ slots t.0) ++ t.1.slot ∷ [], is, inr (t.1.slot, trailed.news ++ slots t.0, t.3, refl)))
        last_

    -- where it was seen last
    seen_at : (j : ℕ) × (get_elem? w.seen j ≡ some a)
    seen_at = ⊎_elim (λ (t : (w.seen ≡ a ∷ []) × (first_of w.word ≡ a.slot + 1) × (before ≡ 0)). (0, ap (λ (l : List Held). get_elem? l 0) t.0))
        (λ (t : (front : List Held) × (c : Held) × (w.seen ≡ front ++ c ∷ a ∷ []) × (before ≡ c.slot + 1)). let p = at_back t.0 (t.1 ∷ a ∷ []) 1 a refl in (p.0, ap (λ (l : List Held). get_elem? l p.0) t.2 ∙ p.2)) last_

    text_is : text_of b.texts a.slot ≡ a.text
    text_is = let ok = s.walk w walk in let u = ok.claim (ap version_of unmoved) in let there : In a.slot (r.plan.chain w.head) = subst (In a.slot) (sym (chain_is ∙ ends.1)) (in_back a.slot ends.0 (a.slot ∷ []) (0, refl)) in
        let none = no_slots b.links w.place u.path ended u.reached in
        ⊎_elim
        (λ (t : Seen b.texts w.seen a.slot). let one : t.1 ≡ a = same t.0 t.1 t.2 t.3 in let short = text_short b.texts a.slot in
        sym (take_all (length t.1.text) (text_of b.texts a.slot) (let long : length t.1.text ≡ 32 = ap (λ (x : Held). length x.text) one ∙ whole in omega arith)) ∙ (t.4 ∙ ap (λ (x : Held). x.text) one))
        (λ (t : In a.slot u.path). absurd (in_none a.slot (subst (In a.slot) none t)))
        (u.each a.slot there (λ e. let idle = none_dies z b vs r id v s m.0 in omega arith))
      where
        same : (i : ℕ) (c : Held) → get_elem? w.seen i ≡ some c → c.slot ≡ a.slot → c ≡ a
        same i c at slot = let p = at_back trailed.news (slots w.seen) i c.slot (slots_at w.seen i c at) in let q = at_back trailed.news (slots w.seen) seen_at.0 a.slot (slots_at w.seen seen_at.0 a seen_at.1) in
            let once = chain_once b.links (first_of w.word) (trailed.news ++ slots w.seen) p.0 q.0 a.slot chain_ok (p.2 ∙ ap some slot) q.2 in let one : i ≡ seen_at.0 = (let x = p.1 in let y = q.1 in omega arith) in
            some-injective c a (sym at ∙ (ap (λ (n : ℕ). get_elem? w.seen n) one ∙ seen_at.1))

    pick_at : Kept z b (set vs id (view_after v (Pick a before)))
    pick_at = told z b vs r id v s m.0 (picking a before)
        record { chains = r.rows.chains; leaves = r.rows.leaves; once = r.rows.once; stands = r.rows.stands; formed = r.rows.formed; unlike = r.rows.unlike }
        record {
          known = r.grow.known;
          size = r.grow.size;
          aim = r.grow.aim;
          most = r.grow.most;
          closed = r.grow.closed;
          opened = r.grow.opened;
          idle = r.grow.idle;
          firm = r.grow.firm;
          begun = r.grow.begun;
          few = r.grow.few;
          sound = r.grow.sound;
          rest = λ t. absurd (not_early z b vs r id v s m t);
          emptied = r.grow.emptied;
          picked = λ c e. let is : a ≡ c = cc in subst (λ (x : Held). (r.plan.grow.moved < 2 ^ b.row) × (text_of b.texts x.slot ≡ x.text) × ((xs : List ℕ) × (r.plan.chain (row_first b.row + r.plan.grow.moved) ≡ xs ++ x.slot ∷ []) × LastBefore before xs)) is
              (more, text_is, (ends.0, ap r.plan.chain (sym head) ∙ (chain_is ∙ ends.1), ends.2));
          there = λ ne. absurd (ne still);
        }
        (v.made ++ Pick a before ∷ [])

  -- STEPS ON LINKS AND HEADS, whose versions stay: the walks of other seats know nothing, since all heads are closed
  module _ (links' heads' : List ℕ) (chain' : ℕ → List ℕ) (same : (h : ℕ) → version_of (get_or heads' h 0) ≡ version_of (get_or b.heads h 0)) where
    stale : (w : Walk) → closed_of w.word ≡ 0 → WalkOk z b.links b.heads b.texts r.plan.chain r.plan.fate w → WalkOk z links' heads' b.texts chain' r.plan.fate w
    stale w open_ ok = let other : version_of (get_or heads' w.head 0) ≡ version_of w.word → ⊥ = (λ e. none_open z b vs r id v s m w.head ok.inside (ap closed_of (ok.word (sym (same w.head) ∙ e)) ∙ open_)) in record {
      inside = ok.inside;
      short = ok.short;
      past = subst (λ (n : ℕ). version_of w.word ≤ n) (sym (same w.head)) ok.past;
      word = λ e. absurd (other e);
      claim = λ e. absurd (other e);
      lost = λ l. subst (λ (n : ℕ). version_of w.word < n) (sym (same w.head)) (ok.lost l);
    }

    -- heads that are closed as before, with their versions
    heads_grow : (g' : Growing) → (g'.row ≡ b.row) → (g'.shut ≡ r.plan.grow.shut) → (g'.aim ≡ r.plan.grow.aim) → (g'.sound ≡ r.plan.grow.sound) → (g'.moved ≡ r.plan.grow.moved) → ((h : ℕ) → h < z.heads → closed_of (get_or heads' h 0) ≡ 0 → ⊥)
        → ((h : ℕ) → row_first b.row ≤ h → h < row_first b.row + r.plan.grow.moved → chain' h ≡ [])
        → ((a : Held) → g'.picked ≡ Some a → (g'.moved < 2 ^ b.row) × (text_of b.texts a.slot ≡ a.text) × ((xs : List ℕ) × (chain' (row_first b.row + g'.moved) ≡ xs ++ a.slot ∷ []) × LastBefore g'.before xs))
        → (g'.moving ≢ 0 → (g'.moved < 2 ^ b.row) × Linked z.heads chain' (g'.moving - 1) × LastBefore g'.before (chain' (row_first b.row + g'.moved)))
        → GrowOk z b.epoch b.row heads' b.texts chain' g'
    heads_grow g' row shut aim sound moved none emptied picked there = let all = all_shut z b vs r id v s m in record {
      known = row;
      size = r.grow.size;
      aim = subst (Rattle.atom_words.specs.Kinds.RowOk z) (sym aim) r.grow.aim;
      most = subst (λ (n : ℕ). n ≤ 2 ^ b.row) (sym shut) r.grow.most;
      closed = λ h inside e. absurd (none h inside e);
      opened = λ h above below. absurd (omega (arith, above, below, shut, all));
      idle = λ some_. r.grow.idle (subst (λ (n : ℕ). 0 < n) shut some_);
      firm = λ h above below. subst (λ (n : ℕ). n < last) (sym (same h)) (r.grow.firm h above (subst (λ (n : ℕ). h < row_first b.row + n) shut below));
      begun = λ some_. subst (λ (n : ℕ). 0 < n) (sym shut) (r.grow.begun (subst (λ (n : ℕ). 0 < n) sound some_));
      few = subst (λ (t : ℕ × ℕ). t.0 ≤ 2 ^ t.1) (λ i. (sym sound i, sym aim i)) r.grow.few;
      sound = λ ne h above below. subst (λ (n : ℕ). n < worn) (sym (same h)) (r.grow.sound (λ e. ne (aim ∙ e)) h (subst (λ (n : ℕ). row_first n ≤ h) aim above) (subst (λ (t : ℕ × ℕ). h < row_first t.0 + t.1) (λ i. (aim i, sound i)) below));
      rest = λ t. absurd (not_early z b vs r id v s m (⊎_elim (λ (less : g'.shut < 2 ^ b.row). inl (subst (λ (n : ℕ). n < 2 ^ b.row) shut less)) (λ (e : g'.aim ≡ b.row). inr (sym aim ∙ e)) t));
      emptied = λ h above below. emptied h above (subst (λ (n : ℕ). h < row_first b.row + n) moved below);
      picked = picked;
      there = there;
    }

  -- THE SLOT PICKED IS PUT BEHIND the last slot of its new chain
  module _ (a : Held) (still : r.plan.grow.moving ≡ 0) (picked : r.plan.grow.picked ≡ Some a) where
    abbrev k : ℕ
    k = a.slot

    abbrev to : ℕ
    to = bucket r.plan.grow.aim a.text

    known_ : (r.plan.grow.moved < 2 ^ b.row) × (text_of b.texts a.slot ≡ a.text) × ((xs : List ℕ) × (r.plan.chain (row_first b.row + r.plan.grow.moved) ≡ xs ++ a.slot ∷ []) × LastBefore r.plan.grow.before xs)
    known_ = r.grow.picked a picked

    abbrev xs : List ℕ
    xs = known_.2.0

    from_in : row_first b.row + r.plan.grow.moved < z.heads
    from_in = old_inside z b.epoch b.row b.heads b.texts r.plan.chain r.plan.grow r.grow known_.0

    to_at : (row_first r.plan.grow.aim ≤ bucket r.plan.grow.aim a.text) × (bucket r.plan.grow.aim a.text < row_first r.plan.grow.aim + 2 ^ r.plan.grow.aim)
    to_at = bucket_in r.plan.grow.aim a.text r.grow.aim.0

    to_in : bucket r.plan.grow.aim a.text < z.heads
    to_in = let aim = r.grow.aim in let at = to_at in omega (arith, at.1, aim.0, aim.1)

    -- no head of the row in use is one of the other row
    apart_ : (h : ℕ) → row_first b.row ≤ h → h < row_first b.row + 2 ^ b.row → h ≢ bucket r.plan.grow.aim a.text
    apart_ h above below e = rows_apart b.row r.plan.grow.aim h r.grow.size.0 r.grow.aim.0 (λ same. other_aim z b vs r id v s m (sym same)) above below (subst (λ (n : ℕ). row_first r.plan.grow.aim ≤ n) (sym e) to_at.0) (subst (λ (n : ℕ). n < row_first r.plan.grow.aim + 2 ^ r.plan.grow.aim) (sym e) to_at.1)

    from_to : row_first b.row + r.plan.grow.moved ≢ bucket r.plan.grow.aim a.text
    from_to = let more = known_.0 in apart_ (row_first b.row + r.plan.grow.moved) (omega arith) (omega (arith, more))

    old_ok : (h : ℕ) → h < z.heads → Chain b.links (first_of (get_or b.heads h 0)) (r.plan.chain h)
    old_ok = chains_still z b.row r.plan.grow b.links b.heads b.texts r.plan.chain r.plan.place r.plan.fate r.rows still

    from_ok : Chain b.links (first_of (get_or b.heads (row_first b.row + r.plan.grow.moved) 0)) (known_.2.0 ++ a.slot ∷ [])
    from_ok = subst (Chain b.links (first_of (get_or b.heads (row_first b.row + r.plan.grow.moved) 0))) known_.2.1 (old_ok (row_first b.row + r.plan.grow.moved) from_in)

    pub tail_k : (get_or b.links a.slot 0 ≡ 0) × (a.slot < length b.links)
    tail_k = chain_last b.links (first_of (get_or b.heads (row_first b.row + r.plan.grow.moved) 0)) known_.2.0 a.slot from_ok

    k_from : In a.slot (r.plan.chain (row_first b.row + r.plan.grow.moved))
    k_from = subst (In a.slot) (sym known_.2.1) (in_back a.slot known_.2.0 (a.slot ∷ []) (0, refl))

    -- it stands in no other chain
    pub k_alone : (h : ℕ) → h < z.heads → In a.slot (r.plan.chain h) → h ≡ row_first b.row + r.plan.grow.moved
    k_alone h inside i = sym (r.rows.once h a.slot inside i) ∙ r.rows.once (row_first b.row + r.plan.grow.moved) a.slot from_in k_from

    -- and once in its own
    not_in_xs : In a.slot known_.2.0 → ⊥
    not_in_xs i = let twice = chain_once b.links (first_of (get_or b.heads (row_first b.row + r.plan.grow.moved) 0)) (known_.2.0 ++ a.slot ∷ []) i.0 (length known_.2.0) a.slot from_ok (at_longer known_.2.0 (a.slot ∷ []) i.0 a.slot i.1) (at_last known_.2.0 a.slot (length known_.2.0) refl) in
        let low = Rattle.atom_words.proofs.Slices.at_inside known_.2.0 i.0 a.slot i.1 in omega arith

    abbrev chain1 : ℕ → List ℕ
    chain1 = put r.plan.chain (row_first b.row + r.plan.grow.moved) known_.2.0

    abbrev chain2 : ℕ → List ℕ
    chain2 = put (put r.plan.chain (row_first b.row + r.plan.grow.moved) known_.2.0) (bucket r.plan.grow.aim a.text) (r.plan.chain (bucket r.plan.grow.aim a.text) ++ a.slot ∷ [])

    at_to : chain2 (bucket r.plan.grow.aim a.text) ≡ r.plan.chain (bucket r.plan.grow.aim a.text) ++ a.slot ∷ []
    at_to = put_here (put r.plan.chain (row_first b.row + r.plan.grow.moved) known_.2.0) (bucket r.plan.grow.aim a.text) (r.plan.chain (bucket r.plan.grow.aim a.text) ++ a.slot ∷ [])

    at_from : chain2 (row_first b.row + r.plan.grow.moved) ≡ known_.2.0
    at_from = put_else (put r.plan.chain (row_first b.row + r.plan.grow.moved) known_.2.0) (bucket r.plan.grow.aim a.text) (r.plan.chain (bucket r.plan.grow.aim a.text) ++ a.slot ∷ []) (row_first b.row + r.plan.grow.moved) from_to
        ∙ put_here r.plan.chain (row_first b.row + r.plan.grow.moved) known_.2.0

    at_else : (h : ℕ) → h ≢ bucket r.plan.grow.aim a.text → h ≢ row_first b.row + r.plan.grow.moved → chain2 h ≡ r.plan.chain h
    at_else h no_to no_from = put_else (put r.plan.chain (row_first b.row + r.plan.grow.moved) known_.2.0) (bucket r.plan.grow.aim a.text) (r.plan.chain (bucket r.plan.grow.aim a.text) ++ a.slot ∷ []) h no_to ∙ put_else r.plan.chain (row_first b.row + r.plan.grow.moved) known_.2.0 h no_from

    -- facts of each slot of a chain afterwards: it is the one moved, or stood in that chain before
    moved_cases : (P : ℕ → ℕ → Type 0) → P (bucket r.plan.grow.aim a.text) a.slot → ((h q : ℕ) → h < z.heads → q ≢ a.slot → In q (r.plan.chain h) → P h q) → (h q : ℕ) → h < z.heads → In q (chain2 h) → P h q
    moved_cases P new old h q inside i = elim (ℕ_discrete h (bucket r.plan.grow.aim a.text)) as (λ _. P h q) [
      | yes e ↦ subst (λ (n : ℕ). P n q) (sym e) (⊎_elim
          (λ (t : In q (r.plan.chain (bucket r.plan.grow.aim a.text))). old (bucket r.plan.grow.aim a.text) q to_in (λ same. from_to (sym (k_alone (bucket r.plan.grow.aim a.text) to_in (subst (λ (n : ℕ). In n (r.plan.chain (bucket r.plan.grow.aim a.text))) same t)))) t)
          (λ (t : In q (a.slot ∷ [])). ⊎_elim (λ (same : a.slot ≡ q). subst (P (bucket r.plan.grow.aim a.text)) same new) (λ (none : In q []). absurd (in_none q none)) (in_cases q a.slot [] t))
          (in_either q (r.plan.chain (bucket r.plan.grow.aim a.text)) (a.slot ∷ []) (subst (In q) (ap chain2 e ∙ at_to) i)))
      | no ne ↦ elim (ℕ_discrete h (row_first b.row + r.plan.grow.moved)) as (λ _. P h q) [
        | yes e ↦ let j : In q known_.2.0 = subst (In q) (ap chain2 e ∙ at_from) i in subst (λ (n : ℕ). P n q) (sym e) (old (row_first b.row + r.plan.grow.moved) q from_in (λ same. not_in_xs (subst (λ (n : ℕ). In n known_.2.0) same j)) (subst (In q) (sym known_.2.1) (in_front q known_.2.0 (a.slot ∷ []) j)))
        | no other ↦ let j : In q (r.plan.chain h) = subst (In q) (at_else h ne other) i in old h q inside (λ same. other (k_alone h inside (subst (λ (n : ℕ). In n (r.plan.chain h)) same j))) j
      ]
    ]

    -- a slot that stood in a chain stands in one
    stays_on : (h q : ℕ) → h < z.heads → In q (r.plan.chain h) → Linked z.heads chain2 q
    stays_on h q inside i = elim (ℕ_discrete q a.slot) as (λ _. Linked z.heads chain2 q) [
      | yes e ↦ (bucket r.plan.grow.aim a.text, to_in, subst (In q) (sym at_to) (in_back q (r.plan.chain (bucket r.plan.grow.aim a.text)) (a.slot ∷ []) (0, ap some (sym e))))
      | no ne ↦ elim (ℕ_discrete h (bucket r.plan.grow.aim a.text)) as (λ _. Linked z.heads chain2 q) [
        | yes e ↦ (bucket r.plan.grow.aim a.text, to_in, subst (In q) (sym at_to) (in_front q (r.plan.chain (bucket r.plan.grow.aim a.text)) (a.slot ∷ []) (subst (λ (n : ℕ). In q (r.plan.chain n)) e i)))
        | no other ↦ elim (ℕ_discrete h (row_first b.row + r.plan.grow.moved)) as (λ _. Linked z.heads chain2 q) [
          | yes e ↦ (
            row_first b.row + r.plan.grow.moved,
            from_in,
            subst (In q) (sym at_from) (⊎_elim (λ (t : In q known_.2.0). t) (λ (t : In q (a.slot ∷ [])). ⊎_elim (λ (same : a.slot ≡ q). absurd (ne (sym same))) (λ (none : In q []). absurd (in_none q none)) (in_cases q a.slot [] t))
                (in_either q known_.2.0 (a.slot ∷ []) (subst (In q) (ap r.plan.chain e ∙ known_.2.1) i))),
          )
          | no out ↦ (h, inside, subst (In q) (sym (at_else h other out)) i)
        ]
      ]
    ]

    was_on : (q : ℕ) → Linked z.heads chain2 q → Linked z.heads r.plan.chain q
    was_on q l = moved_cases (λ _ n. Linked z.heads r.plan.chain n) (row_first b.row + r.plan.grow.moved, from_in, k_from) (λ h n inside _ i. (h, inside, i)) l.0 q l.1 l.2

    module _ (links' heads' : List ℕ) (many_links : length links' ≡ length b.links) (many_heads : length heads' ≡ length b.heads) (same : (h : ℕ) → version_of (get_or heads' h 0) ≡ version_of (get_or b.heads h 0))
        (none : (h : ℕ) → h < z.heads → closed_of (get_or heads' h 0) ≡ 0 → ⊥) (own_link : (q : ℕ) → (Linked z.heads r.plan.chain q → ⊥) → get_or links' q 0 ≡ get_or b.links q 0)
        (here : Chain links' (first_of (get_or heads' (bucket r.plan.grow.aim a.text) 0)) (r.plan.chain (bucket r.plan.grow.aim a.text) ++ a.slot ∷ []))
        (elsewhere : (h : ℕ) → h < z.heads → h ≢ bucket r.plan.grow.aim a.text → Chain links' (first_of (get_or heads' h 0)) (r.plan.chain h)) where
      moved_rows : Rows z b.row (moving r.plan.grow) links' heads' b.texts chain2 (put r.plan.place a.slot (bucket r.plan.grow.aim a.text)) r.plan.fate
      moved_rows = record {
        chains = λ h inside not. elim (ℕ_discrete h (bucket r.plan.grow.aim a.text)) as (λ _. Chain links' (first_of (get_or heads' h 0)) (chain2 h)) [
          | yes e ↦ subst (λ (n : ℕ). Chain links' (first_of (get_or heads' n 0)) (chain2 n)) (sym e) (subst (Chain links' (first_of (get_or heads' (bucket r.plan.grow.aim a.text) 0))) (sym at_to) here)
          | no ne ↦ let out : h ≢ row_first b.row + r.plan.grow.moved = (λ e. not (is_moving, e)) in subst (Chain links' (first_of (get_or heads' h 0))) (sym (at_else h ne out)) (elsewhere h inside ne)
        ];
        leaves = λ _. subst (λ (l : List ℕ). Chain links' (first_of (get_or heads' (row_first b.row + r.plan.grow.moved) 0)) l) (known_.2.1 ∙ (λ i. sym at_from i ++ (sym less i) ∷ [])) (elsewhere (row_first b.row + r.plan.grow.moved) from_in from_to);
        once = moved_cases (λ h q. put r.plan.place a.slot (bucket r.plan.grow.aim a.text) q ≡ h) (put_here r.plan.place a.slot (bucket r.plan.grow.aim a.text)) (λ h q inside ne i. put_else r.plan.place a.slot (bucket r.plan.grow.aim a.text) q ne ∙ r.rows.once h q inside i);
        stands = moved_cases (λ h q. (bucket b.row (text_of b.texts q) ≡ h) ⊎ ((r.plan.grow.shut ≡ 2 ^ b.row) × (bucket r.plan.grow.aim (text_of b.texts q) ≡ h))) (inr (all_shut z b vs r id v s m, ap (bucket r.plan.grow.aim) known_.1)) (λ h q inside _ i. r.rows.stands h q inside i);
        formed = λ h q inside i. let one = was_on q (h, inside, i) in r.rows.formed one.0 q one.1 one.2;
        unlike = λ h g q n inside inside_too i j alive too e. let one = was_on q (h, inside, i) in let two = was_on n (g, inside_too, j) in r.rows.unlike one.0 two.0 q n one.1 two.1 one.2 two.2 alive too e;
      }
        where
          number : Rattle.atom_words.specs.Kinds.picked_slot r.plan.grow.picked ≡ a.slot + 1
          number = ap Rattle.atom_words.specs.Kinds.picked_slot picked

          is_moving : (moving r.plan.grow).moving ≢ 0
          is_moving e = let n = number in omega arith

          less : (moving r.plan.grow).moving - 1 ≡ a.slot
          less = let n = number in omega arith

      moved_to : (made : List Kind) → Kept z (record b { links = links'; heads = heads' }) (set vs id (record v { walk = None; growing = moving v.growing; made = made }))
      moved_to made = let number : (moving r.plan.grow).moving ≡ a.slot + 1 = ap Rattle.atom_words.specs.Kinds.picked_slot picked in let less : (moving r.plan.grow).moving - 1 ≡ a.slot = omega arith in
          shifted z b vs r id v s m.0 chain2 (put r.plan.place a.slot (bucket r.plan.grow.aim a.text)) links' heads' b.row moving
          record {
            on = λ q l. stays_on l.0 q l.1 l.2;
            was = was_on;
            many_links = many_links;
            many_heads = many_heads;
            own_link = own_link;
            later = λ h. let e = same h in omega arith;
            walk = stale links' heads' chain2 same;
            rows = moved_rows;
            grow = heads_grow links' heads' chain2 same (moving r.plan.grow) r.grow.known refl refl refl refl none
                (λ h above below. at_else h (apart_ h above (let more = known_.0 in omega (arith, below, more))) (λ e. omega (arith, e, below)) ∙ r.grow.emptied h above below)
                (λ c e. cc)
                (λ _. (known_.0, subst (Linked z.heads chain2) (sym less) (stays_on (row_first b.row + r.plan.grow.moved) a.slot from_in k_from), subst (LastBefore r.plan.grow.before) (sym at_from) known_.2.2));
          }
          made

    -- in front, where the chain is empty
    put_head : first_of (get_or b.heads (bucket r.plan.grow.aim a.text) 0) ≡ 0 → Kept z (with_head b (bucket r.plan.grow.aim a.text) (head_word (a.slot + 1) 1 (version_of (get_or b.heads (bucket r.plan.grow.aim a.text) 0)))) (set vs id (view_after v (MoveHead (bucket r.plan.grow.aim a.text))))
    put_head none = let n : ℕ = head_word (a.slot + 1) 1 (version_of (get_or b.heads (bucket r.plan.grow.aim a.text) 0)) in let t = tail_k in let small = r.sized.small in let low : a.slot + 1 < 2097152 = omega (arith, t.1, small, r.sized.links) in
        let there : bucket r.plan.grow.aim a.text < length b.heads = omega (arith, r.sized.heads, to_in) in let first_n : first_of n ≡ a.slot + 1 = first-head_word (a.slot + 1) 1 (version_of (get_or b.heads (bucket r.plan.grow.aim a.text) 0)) low (omega arith) in
        let closed_n : closed_of n ≡ 1 = closed-head_word (a.slot + 1) 1 (version_of (get_or b.heads (bucket r.plan.grow.aim a.text) 0)) low (omega arith) in let version_n : version_of n ≡ version_of (get_or b.heads (bucket r.plan.grow.aim a.text) 0) = version-head_word (a.slot + 1) 1 (version_of (get_or b.heads (bucket r.plan.grow.aim a.text) 0)) low (omega arith) in
        let empty : r.plan.chain (bucket r.plan.grow.aim a.text) ≡ [] = no_slots b.links (first_of (get_or b.heads (bucket r.plan.grow.aim a.text) 0)) (r.plan.chain (bucket r.plan.grow.aim a.text)) none (old_ok (bucket r.plan.grow.aim a.text) to_in) in
        moved_to b.links (set b.heads (bucket r.plan.grow.aim a.text) n) refl (length-set b.heads (bucket r.plan.grow.aim a.text) n)
        (λ h. word_after (λ x. version_of x ≡ version_of (get_or b.heads h 0)) b.heads (bucket r.plan.grow.aim a.text) n h there (λ e. version_n ∙ ap (λ (q : ℕ). version_of (get_or b.heads q 0)) (sym e)) (λ _. refl))
        (λ h inside. word_after (λ x. closed_of x ≡ 0 → ⊥) b.heads (bucket r.plan.grow.aim a.text) n h there (λ _ e. omega (arith, e, closed_n)) (λ _. none_open z b vs r id v s m h inside))
        (λ q _. refl)
        (subst (λ (l : List ℕ). Chain b.links (first_of (get_or (set b.heads (bucket r.plan.grow.aim a.text) n) (bucket r.plan.grow.aim a.text) 0)) (l ++ a.slot ∷ [])) (sym empty) (ap first_of (get_or-set_same b.heads (bucket r.plan.grow.aim a.text) n 0 there) ∙ first_n, t.1, t.0))
        (λ h inside ne. subst (λ (x : ℕ). Chain b.links (first_of x) (r.plan.chain h)) (sym (get_or-set_other b.heads (bucket r.plan.grow.aim a.text) h n 0 ne)) (old_ok h inside))
        (v.made ++ MoveHead (bucket r.plan.grow.aim a.text) ∷ [])

    -- behind the last slot
    put_link : (q : ℕ) (zs : List ℕ) → r.plan.chain (bucket r.plan.grow.aim a.text) ≡ zs ++ q ∷ [] → Kept z (with_link b q (a.slot + 1)) (set vs id (view_after v (MoveLink q)))
    put_link q zs is = let t = tail_k in let q_to : In q (r.plan.chain (bucket r.plan.grow.aim a.text)) = subst (In q) (sym is) (in_back q zs (q ∷ []) (0, refl)) in
        let other : a.slot ≢ q = (λ e. from_to (sym (k_alone (bucket r.plan.grow.aim a.text) to_in (subst (λ (n : ℕ). In n (r.plan.chain (bucket r.plan.grow.aim a.text))) (sym e) q_to)))) in
        moved_to (set b.links q (a.slot + 1)) b.heads (length-set b.links q (a.slot + 1)) refl (λ h. refl) (none_open z b vs r id v s m)
        (λ n un. get_or-set_other b.links q n (a.slot + 1) 0 (λ e. un (bucket r.plan.grow.aim a.text, to_in, subst (λ (x : ℕ). In x (r.plan.chain (bucket r.plan.grow.aim a.text))) (sym e) q_to)))
        (subst (λ (l : List ℕ). Chain (set b.links q (a.slot + 1)) (first_of (get_or b.heads (bucket r.plan.grow.aim a.text) 0)) (l ++ a.slot ∷ [])) (sym is)
        (chain_append b.links (first_of (get_or b.heads (bucket r.plan.grow.aim a.text) 0)) zs q a.slot (subst (Chain b.links (first_of (get_or b.heads (bucket r.plan.grow.aim a.text) 0))) is (old_ok (bucket r.plan.grow.aim a.text) to_in)) t.1 t.0 other))
        (λ h inside ne. chain_else b.links q (a.slot + 1) (first_of (get_or b.heads h 0)) (r.plan.chain h) (old_ok h inside) (λ i. ne (sym (r.rows.once h q inside i) ∙ r.rows.once (bucket r.plan.grow.aim a.text) q to_in q_to)))
        (v.made ++ MoveLink q ∷ [])

  -- IT IS TAKEN OFF its old chain
  module _ (on : r.plan.grow.moving ≢ 0) where
    there_ : (r.plan.grow.moved < 2 ^ b.row) × Linked z.heads r.plan.chain (r.plan.grow.moving - 1) × LastBefore r.plan.grow.before (r.plan.chain (row_first b.row + r.plan.grow.moved))
    there_ = r.grow.there on

    left_in : row_first b.row + r.plan.grow.moved < z.heads
    left_in = old_inside z b.epoch b.row b.heads b.texts r.plan.chain r.plan.grow r.grow there_.0

    module _ (links' heads' : List ℕ) (many_links : length links' ≡ length b.links) (many_heads : length heads' ≡ length b.heads) (same : (h : ℕ) → version_of (get_or heads' h 0) ≡ version_of (get_or b.heads h 0))
        (none : (h : ℕ) → h < z.heads → closed_of (get_or heads' h 0) ≡ 0 → ⊥) (own_link : (q : ℕ) → (Linked z.heads r.plan.chain q → ⊥) → get_or links' q 0 ≡ get_or b.links q 0)
        (here : Chain links' (first_of (get_or heads' (row_first b.row + r.plan.grow.moved) 0)) (r.plan.chain (row_first b.row + r.plan.grow.moved)))
        (elsewhere : (h : ℕ) → h < z.heads → h ≢ row_first b.row + r.plan.grow.moved → Chain links' (first_of (get_or heads' h 0)) (r.plan.chain h)) where
      left_off : (made : List Kind) → Kept z (record b { links = links'; heads = heads' }) (set vs id (record v { walk = None; growing = leaving v.growing; made = made }))
      left_off made = shifted z b vs r id v s m.0 r.plan.chain r.plan.place links' heads' b.row leaving
          record {
            on = λ q l. l;
            was = λ q l. l;
            many_links = many_links;
            many_heads = many_heads;
            own_link = own_link;
            later = λ h. let e = same h in omega arith;
            walk = stale links' heads' r.plan.chain same;
            rows = record {
              chains = λ h inside _. dite (ℕ_discrete h (row_first b.row + r.plan.grow.moved)) (λ (e : h ≡ row_first b.row + r.plan.grow.moved). subst (λ (n : ℕ). Chain links' (first_of (get_or heads' n 0)) (r.plan.chain n)) (sym e) here)
                  (λ (ne : h ≢ row_first b.row + r.plan.grow.moved). elsewhere h inside ne);
              leaves = λ ne. absurd (ne refl);
              once = r.rows.once;
              stands = r.rows.stands;
              formed = r.rows.formed;
              unlike = r.rows.unlike;
            };
            grow = heads_grow links' heads' r.plan.chain same (leaving r.plan.grow) r.grow.known refl refl refl refl none r.grow.emptied r.grow.picked (λ ne. absurd (ne refl));
          }
          made

    still_ok : (h : ℕ) → h < z.heads → h ≢ row_first b.row + r.plan.grow.moved → Chain b.links (first_of (get_or b.heads h 0)) (r.plan.chain h)
    still_ok h inside ne = r.rows.chains h inside (λ l. ne l.1)

    -- where it was the only one
    leave_head : r.plan.grow.before ≡ 0 → Kept z (with_head b (row_first b.row + r.plan.grow.moved) (head_word 0 1 (version_of (get_or b.heads (row_first b.row + r.plan.grow.moved) 0)))) (set vs id (view_after v (LeaveHead (row_first b.row + r.plan.grow.moved))))
    leave_head none = let h : ℕ = row_first b.row + r.plan.grow.moved in let n : ℕ = head_word 0 1 (version_of (get_or b.heads (row_first b.row + r.plan.grow.moved) 0)) in
        let there : row_first b.row + r.plan.grow.moved < length b.heads = omega (arith, r.sized.heads, left_in) in
        let first_n : first_of n ≡ 0 = first-head_word 0 1 (version_of (get_or b.heads (row_first b.row + r.plan.grow.moved) 0)) (omega arith) (omega arith) in
        let closed_n : closed_of n ≡ 1 = closed-head_word 0 1 (version_of (get_or b.heads (row_first b.row + r.plan.grow.moved) 0)) (omega arith) (omega arith) in
        let version_n : version_of n ≡ version_of (get_or b.heads (row_first b.row + r.plan.grow.moved) 0) = version-head_word 0 1 (version_of (get_or b.heads (row_first b.row + r.plan.grow.moved) 0)) (omega arith) (omega arith) in
        let empty : r.plan.chain (row_first b.row + r.plan.grow.moved) ≡ [] = ⊎_elim (λ (t : (r.plan.grow.before ≡ 0) × (r.plan.chain (row_first b.row + r.plan.grow.moved) ≡ [])). t.1)
        (λ (t : (q : ℕ) × (ys : List ℕ) × (r.plan.grow.before ≡ q + 1) × (r.plan.chain (row_first b.row + r.plan.grow.moved) ≡ ys ++ q ∷ [])). absurd (omega (arith, none, t.2))) there_.2 in
        left_off b.links (set b.heads (row_first b.row + r.plan.grow.moved) n) refl (length-set b.heads (row_first b.row + r.plan.grow.moved) n)
        (λ g. word_after (λ x. version_of x ≡ version_of (get_or b.heads g 0)) b.heads (row_first b.row + r.plan.grow.moved) n g there (λ e. version_n ∙ ap (λ (q : ℕ). version_of (get_or b.heads q 0)) (sym e)) (λ _. refl))
        (λ g inside. word_after (λ x. closed_of x ≡ 0 → ⊥) b.heads (row_first b.row + r.plan.grow.moved) n g there (λ _ e. omega (arith, e, closed_n)) (λ _. none_open z b vs r id v s m g inside))
        (λ q _. refl)
        (subst (Chain b.links (first_of (get_or (set b.heads (row_first b.row + r.plan.grow.moved) n) (row_first b.row + r.plan.grow.moved) 0))) (sym empty) (ap first_of (get_or-set_same b.heads (row_first b.row + r.plan.grow.moved) n 0 there) ∙ first_n))
        (λ g inside ne. subst (λ (x : ℕ). Chain b.links (first_of x) (r.plan.chain g)) (sym (get_or-set_other b.heads (row_first b.row + r.plan.grow.moved) g n 0 ne)) (still_ok g inside ne))
        (v.made ++ LeaveHead (row_first b.row + r.plan.grow.moved) ∷ [])

    -- where another slot stands before it
    leave_link : (q : ℕ) → r.plan.grow.before ≡ q + 1 → Kept z (with_link b q 0) (set vs id (view_after v (LeaveLink q)))
    leave_link q at = let from_ : ℕ = row_first b.row + r.plan.grow.moved in
        let ends : (ys : List ℕ) × (r.plan.chain (row_first b.row + r.plan.grow.moved) ≡ ys ++ q ∷ []) = ⊎_elim (λ (t : (r.plan.grow.before ≡ 0) × (r.plan.chain (row_first b.row + r.plan.grow.moved) ≡ [])). absurd (omega (arith, at, t.0)))
        (λ (t : (p : ℕ) × (ys : List ℕ) × (r.plan.grow.before ≡ p + 1) × (r.plan.chain (row_first b.row + r.plan.grow.moved) ≡ ys ++ p ∷ [])). let same : t.0 ≡ q = omega (arith, at, t.2) in (t.1, t.3 ∙ ap (λ (n : ℕ). t.1 ++ n ∷ []) same)) there_.2 in
        let q_from : In q (r.plan.chain (row_first b.row + r.plan.grow.moved)) = subst (In q) (sym ends.1) (in_back q ends.0 (q ∷ []) (0, refl)) in
        left_off (set b.links q 0) b.heads (length-set b.links q 0) refl (λ h. refl) (none_open z b vs r id v s m)
        (λ n un. get_or-set_other b.links q n 0 0 (λ e. un (row_first b.row + r.plan.grow.moved, left_in, subst (λ (x : ℕ). In x (r.plan.chain (row_first b.row + r.plan.grow.moved))) (sym e) q_from)))
        (subst (Chain (set b.links q 0) (first_of (get_or b.heads (row_first b.row + r.plan.grow.moved) 0))) (sym ends.1)
        (chain_cut b.links (first_of (get_or b.heads (row_first b.row + r.plan.grow.moved) 0)) ends.0 q (r.plan.grow.moving - 1) (subst (λ (l : List ℕ). Chain b.links (first_of (get_or b.heads (row_first b.row + r.plan.grow.moved) 0)) (l ++ (r.plan.grow.moving - 1) ∷ [])) ends.1 (r.rows.leaves on))))
        (λ h inside ne. chain_else b.links q 0 (first_of (get_or b.heads h 0)) (r.plan.chain h) (still_ok h inside ne) (λ i. ne (sym (r.rows.once h q inside i) ∙ r.rows.once (row_first b.row + r.plan.grow.moved) q left_in q_from)))
        (v.made ++ LeaveLink q ∷ [])

module _ (z : Size) (b : Board) (vs : List View) (r : Kept z b vs) (id : ℕ) (v : View) (s : SeatOk z b r.plan id v) where
  -- the old chain's head, by what the collector knows
  old_is : (m : MovesChains v) → old_head v.growing ≡ row_first b.row + r.plan.grow.moved
  old_is m = let is = grown_is z b vs r id v s m.0 in λ i. row_first (row_is z b vs r id v s m.0 i) + (sym is i).moved

  pub keep_pick : (a : Held) (before : ℕ) (b' : Board) → Does z b v (Pick a before) b' → Kept z b' (set vs id (view_after v (Pick a before)))
  keep_pick a before b' d = let is = grown_is z b vs r id v s d.0.0 in subst (λ t. Kept z t (set vs id (view_after v (Pick a before)))) (sym d.9)
      (pick_at z b vs r id v s d.0 a before d.1 (ap (λ (t : Growing). t.moving) is ∙ d.2) (subst (λ (n : ℕ). r.plan.grow.moved < 2 ^ n) (row_is z b vs r id v s d.0.0) (subst (λ (t : Growing). t.moved < 2 ^ v.growing.row) (sym is) d.3))
      d.4 (d.5 ∙ old_is d.0) d.6 d.7 d.8)

  pub keep_move_head : (h : ℕ) (b' : Board) → Does z b v (MoveHead h) b' → Kept z b' (set vs id (view_after v (MoveHead h)))
  keep_move_head h b' d = let is = grown_is z b vs r id v s d.0.0 in let a : Held = d.1 in let to_ : bucket r.plan.grow.aim a.text ≡ h = ap (λ (t : Growing). bucket t.aim a.text) is ∙ sym d.4 in
      subst (λ (t : Board × ℕ). Kept z t.0 (set vs id (view_after v (MoveHead t.1)))) (λ i. (((λ j. with_head b (to_ j) (head_word (a.slot + 1) 1 (version_of (get_or b.heads (to_ j) 0)))) ∙ sym d.6) i, to_ i))
      (put_head z b vs r id v s d.0 a (ap (λ (t : Growing). t.moving) is ∙ d.2) (ap (λ (t : Growing). t.picked) is ∙ d.3) (ap (λ (n : ℕ). first_of (get_or b.heads n 0)) to_ ∙ d.5))

  pub keep_move_link : (q : ℕ) (b' : Board) → Does z b v (MoveLink q) b' → Kept z b' (set vs id (view_after v (MoveLink q)))
  keep_move_link q b' d = let is = grown_is z b vs r id v s d.0.0 in let a : Held = d.1 in let w : Walk = d.2 in let t = s.trail d.0.0.0 w d.0.0.1 d.5 in
      let none = no_slots b.links w.place t.path d.7 t.reached in let to_ : w.head ≡ bucket r.plan.grow.aim a.text = d.6 ∙ ap (λ (g : Growing). bucket g.aim a.text) (sym is) in
      let ends : r.plan.chain w.head ≡ (t.news ++ slots d.8.0) ++ q ∷ [] = t.whole ∙ (ap (λ (l : List ℕ). t.news ++ l) (ap (λ (l : List ℕ). slots w.seen ++ l) none ∙ (append-nil (slots w.seen) ∙ (ap slots d.8.2 ∙ (map-append (λ (x : Held). x.slot) d.8.0 (d.8.1 ∷ []) ∙ ap (λ (n : ℕ). slots d.8.0 ++ n ∷ []) d.8.3))))
      ∙ sym (append_assoc t.news (slots d.8.0) (q ∷ []))) in
      subst (λ x. Kept z x (set vs id (view_after v (MoveLink q)))) (sym d.9)
      (put_link z b vs r id v s d.0 a (ap (λ (g : Growing). g.moving) is ∙ d.3) (ap (λ (g : Growing). g.picked) is ∙ d.4) q (t.news ++ slots d.8.0) (ap r.plan.chain (sym to_) ∙ ends))

  pub keep_leave_head : (h : ℕ) (b' : Board) → Does z b v (LeaveHead h) b' → Kept z b' (set vs id (view_after v (LeaveHead h)))
  keep_leave_head h b' d = let is = grown_is z b vs r id v s d.0.0 in let at : row_first b.row + r.plan.grow.moved ≡ h = sym (old_is d.0) ∙ sym d.3 in
      subst (λ (t : Board × ℕ). Kept z t.0 (set vs id (view_after v (LeaveHead t.1)))) (λ i. (((λ j. with_head b (at j) (head_word 0 1 (version_of (get_or b.heads (at j) 0)))) ∙ sym d.4) i, at i))
      (leave_head z b vs r id v s d.0 (λ e. d.1 (ap (λ (t : Growing). t.moving) (sym is) ∙ e)) (ap (λ (t : Growing). t.before) is ∙ d.2))

  pub keep_leave_link : (q : ℕ) (b' : Board) → Does z b v (LeaveLink q) b' → Kept z b' (set vs id (view_after v (LeaveLink q)))
  keep_leave_link q b' d = let is = grown_is z b vs r id v s d.0.0 in subst (λ t. Kept z t (set vs id (view_after v (LeaveLink q)))) (sym d.3)
      (leave_link z b vs r id v s d.0 (λ e. d.1 (ap (λ (t : Growing). t.moving) (sym is) ∙ e)) q (ap (λ (t : Growing). t.before) is ∙ d.2))
