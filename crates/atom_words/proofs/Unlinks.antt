-- Taking the dying slot out of its chain, and moving its head's version, keeps the rule.
use Rattle.std.proofs.Common.{◌≡◌, ◌≢◌, ◌⊎◌, ℕ, suc, ◌+◌, ◌<◌, ◌≤◌, Bool, true, false, cond, eqb, List, [], ◌∷◌, ◌++◌, length, get_or, set, drop, refl, sym, ap, ◌∙◌, subst, inl, inr, ⊎_elim, arith, Option, Some, None, option_map, append_assoc, length-set, eq-eqb, ne_eqb, get_or-set_same, get_or-set_other}
use mathlib.Core.List.{map-append}
use mathlib.Core.Option.{some}
use native.Mathlib.Decide.{ℕ_discrete}
use lib.ListN.{get_elem?}
use Rattle.atom_words.specs.Layout.{state_of, first_of, closed_of, version_of, head_word, last}
use Rattle.atom_words.specs.Board.{Board, with_link, with_head}
use Rattle.atom_words.specs.Chains.{In, Chain, Linked}
use Rattle.atom_words.specs.Kinds.{unlinking, moving_past, view_after, Does}
use Rattle.atom_words.specs.Kept.{Fate, HeldOk, Seen, Left, Unwalked, WalkOk, SeatOk, DyingOk, slots, Trail, Kept}
use Rattle.atom_words.specs.declared.size.Size.{Size}
use Rattle.atom_words.specs.declared.view.Held.{Held}
use Rattle.atom_words.specs.declared.view.Walk.{Walk}
use Rattle.atom_words.specs.declared.view.Sweeping.{Sweeping}
use Rattle.atom_words.specs.declared.view.View.{View}
use Rattle.atom_words.specs.declared.kind.Kind.{Kind}
use Rattle.atom_words.specs.declared.kind.Kind.TheVariants.{UnlinkAt, UnlinkHead, Bump}
use Rattle.atom_words.proofs.Layouts.{first-head_word, closed-head_word, version-head_word}
use Rattle.atom_words.proofs.Slices.{in_none, in_later, in_cases, in_back, chain_at, chain_else, chain_once, word_after}
use Rattle.atom_words.proofs.Puts.{put, put_here, put_else, unmapped}
use Rattle.atom_words.proofs.Frames.{seats_stay, marks_walk}
use Rattle.atom_words.proofs.Rowing.{early_sweep, chains_at_work, grow_at_work}
use Rattle.atom_words.proofs.RaiseStep.{walk_risen}
use Rattle.atom_words.proofs.Cycles.{sure_same}
use Rattle.atom_words.proofs.Sweeps.{known}

-- WHAT STANDS BEHIND q IS TAKEN OUT
abbrev pub skip : ℕ → List ℕ → List ℕ
skip q [] = []
skip q (k ∷ ks) = cond (eqb k q) (k ∷ drop 1 ks) (k ∷ skip q ks)

skip_here : (q k : ℕ) (ks : List ℕ) → k ≡ q → skip q (k ∷ ks) ≡ k ∷ drop 1 ks
skip_here q k ks e = ap (λ (t : Bool). cond t (k ∷ drop 1 ks) (k ∷ skip q ks)) (eq-eqb k q e)

skip_else : (q k : ℕ) (ks : List ℕ) → k ≢ q → skip q (k ∷ ks) ≡ k ∷ skip q ks
skip_else q k ks e = ap (λ (t : Bool). cond t (k ∷ drop 1 ks) (k ∷ skip q ks)) (ne_eqb k q e)

module _ (links : List ℕ) (q d : ℕ) (next : get_or links q 0 ≡ d + 1) where
  -- behind q stands d
  behind_q : (k : ℕ) (ks : List ℕ) → k ≡ q → Chain links (get_or links k 0) ks → (js : List ℕ) × (ks ≡ d ∷ js) × (d < length links) × Chain links (get_or links d 0) js
  behind_q k ks e c = chain_at links d ks (subst (λ (n : ℕ). Chain links n ks) (ap (λ (i : ℕ). get_or links i 0) e ∙ next) c)

  pub path_skip : (p : ℕ) (path : List ℕ) → Chain links p path → Chain (set links q (get_or links d 0)) p (skip q path)
  path_skip p [] c = c
  path_skip p (k ∷ ks) c = let x : ℕ = get_or links d 0 in let here : k < length (set links q x) = omega (arith, c.1, length-set links q x) in elim (ℕ_discrete k q) as (λ _. Chain (set links q x) p (skip q (k ∷ ks))) [
    | yes e ↦ let t = behind_q k ks e c.2 in let word : get_or (set links q x) k 0 ≡ x = ap (λ (i : ℕ). get_or (set links q x) i 0) e ∙ get_or-set_same links q x 0 (subst (λ (i : ℕ). i < length links) e c.1) in
        subst (Chain (set links q x) p) (sym (skip_here q k ks e ∙ ap (λ (l : List ℕ). k ∷ drop 1 l) t.1))
        (c.0, here, subst (λ (n : ℕ). Chain (set links q x) n t.0) (sym word) (chain_else links q x x t.0 t.3 (λ i. absurd (once k ks c t.0 e t.1 i))))
    | no ne ↦ subst (Chain (set links q x) p) (sym (skip_else q k ks ne)) (c.0, here, subst (λ (n : ℕ). Chain (set links q x) n (skip q ks)) (sym (get_or-set_other links q k x 0 ne)) (path_skip (get_or links k 0) ks c.2))
  ]
    where
      once : (k : ℕ) (ks : List ℕ) → Chain links p (k ∷ ks) → (js : List ℕ) → k ≡ q → ks ≡ d ∷ js → In q js → ⊥
      once k ks c js e is i = let twice = chain_once links p (k ∷ ks) 0 (suc (suc i.0)) q c (ap some e) (ap (λ (l : List ℕ). get_elem? l (suc i.0)) is ∙ i.1) in omega arith

  pub in_skip : (x : ℕ) (path : List ℕ) → In x (skip q path) → In x path
  in_skip x [] i = i
  in_skip x (k ∷ ks) i = elim (ℕ_discrete k q) as (λ _. In x (k ∷ ks)) [
    | yes e ↦ ⊎_elim (λ (t : k ≡ x). subst (λ (n : ℕ). In n (k ∷ ks)) t (0, refl)) (λ (j : In x (drop 1 ks)). in_later x k ks (dropped ks j)) (in_cases x k (drop 1 ks) (subst (In x) (skip_here q k ks e) i))
    | no ne ↦ ⊎_elim (λ (t : k ≡ x). subst (λ (n : ℕ). In n (k ∷ ks)) t (0, refl)) (λ (j : In x (skip q ks)). in_later x k ks (in_skip x ks j)) (in_cases x k (skip q ks) (subst (In x) (skip_else q k ks ne) i))
  ]
    where
      dropped : (ks : List ℕ) → In x (drop 1 ks) → In x ks
      dropped [] j = j
      dropped (n ∷ ns) j = in_later x n ns j

  pub skip_in : (x p : ℕ) (path : List ℕ) → Chain links p path → x ≢ d → In x path → In x (skip q path)
  skip_in x p [] c ne i = i
  skip_in x p (k ∷ ks) c ne i = elim (ℕ_discrete k q) as (λ _. In x (skip q (k ∷ ks))) [
    | yes e ↦ let t = behind_q k ks e c.2 in subst (In x) (sym (skip_here q k ks e ∙ ap (λ (l : List ℕ). k ∷ drop 1 l) t.1))
        (⊎_elim (λ (s : k ≡ x). subst (λ (n : ℕ). In n (k ∷ t.0)) s (0, refl))
        (λ (j : In x ks). in_later x k t.0 (⊎_elim (λ (s : d ≡ x). absurd (ne (sym s))) (λ (l : In x t.0). l) (in_cases x d t.0 (subst (In x) t.1 j)))) (in_cases x k ks i))
    | no other ↦ subst (In x) (sym (skip_else q k ks other)) (⊎_elim (λ (s : k ≡ x). subst (λ (n : ℕ). In n (k ∷ skip q ks)) s (0, refl)) (λ (j : In x ks). in_later x k (skip q ks) (skip_in x (get_or links k 0) ks c.2 ne j)) (in_cases x k ks i))
  ]

  -- and d stands nowhere else
  pub skip_out : (p : ℕ) (path : List ℕ) → Chain links p path → In q path → In d (skip q path) → ⊥
  skip_out p [] c i j = in_none d j
  skip_out p (k ∷ ks) c i j = elim (ℕ_discrete k q) as (λ _. ⊥) [
    | yes e ↦ let t = behind_q k ks e c.2 in let l : In d (k ∷ t.0) = subst (In d) (skip_here q k ks e ∙ ap (λ (l : List ℕ). k ∷ drop 1 l) t.1) j in
        ⊎_elim (λ (s : k ≡ d). let twice = chain_once links p (k ∷ ks) 0 1 d c (ap some s) (ap (λ (l : List ℕ). get_elem? l 0) t.1) in omega arith)
        (λ (m : In d t.0). let twice = chain_once links p (k ∷ ks) 1 (suc (suc m.0)) d c (ap (λ (l : List ℕ). get_elem? l 0) t.1) (ap (λ (l : List ℕ). get_elem? l (suc m.0)) t.1 ∙ m.1) in omega arith) (in_cases d k t.0 l)
    | no ne ↦ let i' : In q ks = ⊎_elim (λ (s : k ≡ q). absurd (ne s)) (λ (m : In q ks). m) (in_cases q k ks i) in
        ⊎_elim (λ (s : k ≡ d). let a = before_d ks (get_or links k 0) c.2 i' in let twice = chain_once links p (k ∷ ks) 0 (suc a.0) d c (ap some s) a.1 in omega arith)
        (λ (m : In d (skip q ks)). skip_out (get_or links k 0) ks c.2 i' m) (in_cases d k (skip q ks) (subst (In d) (skip_else q k ks ne) j))
  ]
    where
      -- after q stands d
      before_d : (ks : List ℕ) (p : ℕ) → Chain links p ks → In q ks → In d ks
      before_d [] p c i = absurd (in_none q i)
      before_d (n ∷ ns) p c i = ⊎_elim (λ (s : n ≡ q). let t = behind_q n ns s c.2 in in_later d n ns (subst (In d) (sym t.1) (0, refl))) (λ (m : In q ns). in_later d n ns (before_d ns (get_or links n 0) c.2 m)) (in_cases q n ns i)

  pub skip_length : (path : List ℕ) → length (skip q path) ≤ length path
  skip_length [] = omega arith
  skip_length (k ∷ ks) = elim (ℕ_discrete k q) as (λ _. length (skip q (k ∷ ks)) ≤ length (k ∷ ks)) [
    | yes e ↦ let same = ap length (skip_here q k ks e) in let short = shorter ks in omega arith
    | no ne ↦ let same = ap length (skip_else q k ks ne) in let short = skip_length ks in omega arith
  ]
    where
      shorter : (ks : List ℕ) → length (drop 1 ks) ≤ length ks
      shorter [] = omega arith
      shorter (n ∷ ns) = omega arith

-- one slot leads to the next in a chain
chain_next : (links : List ℕ) (p : ℕ) (xs : List ℕ) (k j : ℕ) (ys : List ℕ) → Chain links p (xs ++ k ∷ j ∷ ys) → get_or links k 0 ≡ j + 1
chain_next links p [] k j ys c = c.2.0
chain_next links p (x ∷ xs) k j ys c = chain_next links (get_or links x 0) xs k j ys c.2

-- a link word is the number of a slot and one
chain_small : (links : List ℕ) (p : ℕ) (ks : List ℕ) → Chain links p ks → p ≤ length links
chain_small links p [] c = omega (arith, c)
chain_small links p (k ∷ ks) c = omega (arith, c.0, c.1)

-- THE DYING SLOT LEAVES ITS CHAIN, by a link word or by the head's
module _ (z : Size) (b : Board) (vs : List View) (r : Kept z b vs) (id : ℕ) (v : View) (s : SeatOk z b r.plan id v) (y : Sweeping) (at : v.sweep ≡ Some y)
    (d : DyingOk z b.epoch b.links b.heads r.plan.chain r.plan.sweep r.plan.fate) (still : r.plan.fate.out ≡ false) where
  -- each chain is whole
  whole_ : (h : ℕ) → h < z.heads → Chain b.links (first_of (get_or b.heads h 0)) (r.plan.chain h)
  whole_ h inside = chains_at_work z b vs r d.sweeping h inside

  -- the fate of the slot that is out
  abbrev pub gone_out : Fate
  gone_out = record { slot = r.plan.fate.slot; out = true; head = r.plan.fate.head; left = version_of (get_or b.heads r.plan.fate.head 0) }

  module _ (chain' : ℕ → List ℕ) (links' heads' : List ℕ) (moved : Bool) where
    -- what has to be shown of the chains, the words and the walks afterwards
    pub record Out : Type 0 where
      pub subset : (h x : ℕ) → In x (chain' h) → In x (r.plan.chain h)
      pub most : (h x : ℕ) → h < z.heads → In x (r.plan.chain h) → x ≢ r.plan.sweep.cursor → In x (chain' h)
      pub lacks : (h : ℕ) → h < z.heads → In r.plan.sweep.cursor (chain' h) → ⊥
      pub chains : (h : ℕ) → h < z.heads → Chain links' (first_of (get_or heads' h 0)) (chain' h)
      pub many_links : length links' ≡ length b.links
      pub many_heads : length heads' ≡ length b.heads
      pub same_closed : (h : ℕ) → h < z.heads → closed_of (get_or heads' h 0) ≡ closed_of (get_or b.heads h 0)
      pub own_link : (k : ℕ) → (Linked z.heads r.plan.chain k → ⊥) → get_or links' k 0 ≡ get_or b.links k 0
      pub later : (h : ℕ) → version_of (get_or b.heads h 0) ≤ version_of (get_or heads' h 0)
      pub early : moved ≡ false → version_of (get_or heads' r.plan.fate.head 0) < last
      pub past : moved ≡ true → version_of (get_or b.heads r.plan.fate.head 0) < version_of (get_or heads' r.plan.fate.head 0)
      pub walk : (w : Walk) → WalkOk z b.links b.heads b.texts r.plan.chain r.plan.fate w → WalkOk z links' heads' b.texts chain' (record { slot = r.plan.fate.slot; out = true; head = r.plan.fate.head; left = version_of (get_or b.heads r.plan.fate.head 0) }) w

    module _ (o : Out) where
      still_on : (x : ℕ) → state_of (get_or b.atoms x 0) ≢ 2 → Linked z.heads r.plan.chain x → Linked z.heads chain' x
      still_on x ne l = (l.0, l.1, o.most l.0 x l.1 l.2 (λ e. ne (r.slots.dies x (d.at ∙ ap (λ (i : ℕ). i + 1) (sym e)))))

      was_on : (x : ℕ) → Linked z.heads chain' x → Linked z.heads r.plan.chain x
      was_on x l = (l.0, l.1, o.subset l.0 x l.2)

      held_out : (a : Held) → HeldOk z b.atoms b.texts r.plan.chain a → HeldOk z b.atoms b.texts chain' a
      held_out a h = let valid = h.valid in record { inside = h.inside; valid = h.valid; linked = still_on a.slot (λ two. omega arith) h.linked; text = h.text }

      seat_out : (j : ℕ) (x : View) → SeatOk z b r.plan j x → (walk : Option Walk) (sweep : Option Sweeping) (made : List Kind) → ((t : Walk) → walk ≡ Some t → x.walk ≡ Some t)
          → ((q : Sweeping) → sweep ≡ Some q → (r.plan.collector ≡ j) × (unlinking moved r.plan.sweep ≡ q))
          → ((q : Sweeping) (t : Walk) → sweep ≡ Some q → walk ≡ Some t → Trail b.epoch b.row links' heads' chain' q t)
          → ((q : Sweeping) → sweep ≡ Some q → r.plan.grow ≡ x.growing)
          → SeatOk z (record b { links = links'; heads = heads' }) (record r.plan { chain = chain'; sweep = unlinking moved r.plan.sweep; fate = gone_out }) j (record x { walk = walk; sweep = sweep; made = made })
      seat_out j x k walk sweep made same sweeps trail grows = record {
        size = k.size;
        own = λ n e. let h = k.own n e in let state = h.state in record {
          inside = h.inside;
          mine = h.mine;
          usable = h.usable;
          state = h.state;
          short = h.short;
          text = h.text;
          rest = h.rest;
          link = λ l is un. o.own_link n.slot (h.apart un) ∙ h.link l is un;
          apart = λ un l. h.apart un (was_on n.slot l);
          linked = λ on. let t = h.linked on in (still_on n.slot (λ two. omega arith) t.0, t.1);
        };
        held = λ i a e. held_out a (k.held i a e);
        fixed = λ i a e. held_out a (k.fixed i a e);
        low = k.low;
        counts = λ cs e. let h = k.counts cs e in record { mine = h.mine; each_slot = h.each_slot; counts = h.counts; live = λ q c is some_. held_out (record { slot = q; text = c.text }) (h.live q c is some_) };
        walk = λ t e. o.walk t (k.walk t (same t e));
        marks = marks_walk z b.epoch b.acks b.atoms r.plan.engine r.plan.sweep.cursor j x.cycle x.undealt x.held x.walk k.marks walk (λ t q e g place. (t, same t e, g, place));
        sweeps = sweeps;
        trail = trail;
        risen = λ h below. let t = k.risen h below in (t.0, (let l = o.later h in let low = t.1 in omega arith));
        unclosed = λ t e. k.unclosed t (same t e);
        grows = grows;
      }

      pub taken_out : (made : List Kind) → Kept z (record b { links = links'; heads = heads' }) (set vs id (record v { walk = None; sweep = option_map (unlinking moved) v.sweep; made = made }))
      taken_out made = record {
        plan = record r.plan { chain = chain'; sweep = unlinking moved r.plan.sweep; fate = gone_out };
        sized = record { small = r.sized.small; acks = r.sized.acks; atoms = r.sized.atoms; links = o.many_links ∙ r.sized.links; heads = o.many_heads ∙ r.sized.heads; texts = r.sized.texts };
        grow = grow_at_work z b vs r d.sweeping heads' chain' o.same_closed;
        rows = record {
          chains = λ h inside _. o.chains h inside;
          leaves = λ ne. absurd (ne (r.grow.rest (inl (early_sweep z b vs r d.sweeping))).1);
          once = λ h k inside i. r.rows.once h k inside (o.subset h k i);
          stands = λ h k inside i. r.rows.stands h k inside (o.subset h k i);
          formed = λ h k inside i. r.rows.formed h k inside (o.subset h k i);
          unlike = λ h g k q inside inside_too i j alive too e. r.rows.unlike h g k q inside inside_too (o.subset h k i) (o.subset g q j) alive too e;
        };
        slots = record {
          live = λ q l. r.slots.live q (was_on q l);
          valid = λ q e. still_on q (λ two. omega arith) (r.slots.valid q e);
          only = r.slots.only;
          dies = r.slots.dies;
          zero = r.slots.zero;
          shut = r.slots.shut;
        };
        cycle = record { word = r.cycle.word; phase = r.cycle.phase; begun = r.cycle.begun; few = r.cycle.few; checked = r.cycle.checked; swept = r.cycle.swept; cursor = r.cycle.cursor };
        sure = record { inside = r.sure.inside; state = r.sure.state; short = r.sure.short; text = r.sure.text };
        blank = r.blank;
        fate = record {
          slot = r.fate.slot;
          out = refl;
          head = r.fate.head;
          idle = λ none. absurd (let slot = d.at in omega arith);
          dies = λ _. record {
            sweeping = d.sweeping;
            at = d.at;
            high = d.high;
            inside = d.inside;
            there = λ e. cc;
            behind = λ e. cc;
            gone = λ _. ((λ l. o.lacks l.0 l.1 l.2), o.later r.plan.fate.head, o.early);
            noted = λ _ x e. cc;
            past = λ _. o.past;
          };
        };
        seats = seats_stay (SeatOk z (record b { links = links'; heads = heads' }) (record r.plan { chain = chain'; sweep = unlinking moved r.plan.sweep; fate = gone_out })) vs id (record v { walk = None; sweep = option_map (unlinking moved) v.sweep; made = made })
            (λ _. seat_out id v s None (option_map (unlinking moved) v.sweep) made (λ t none. cc) (λ q has_. let was = unmapped (unlinking moved) v.sweep q has_ in ((s.sweeps y at).0, ap (unlinking moved) (s.sweeps was.0 was.1).1 ∙ was.2)) (λ q t has_ none. cc) (λ q has_. let was = unmapped (unlinking moved) v.sweep q has_ in s.grows was.0 was.1))
            (λ j x other here alive. let k = r.seats j x here alive in seat_out j x k x.walk x.sweep x.made (λ t e. e)
            (λ q has_. absurd (other (sym (k.sweeps q has_).0 ∙ (s.sweeps y at).0))) (λ q t has_. absurd (other (sym (k.sweeps q has_).0 ∙ (s.sweeps y at).0))) (λ q has_. absurd (other (sym (k.sweeps q has_).0 ∙ (s.sweeps y at).0))));
      }

  -- no walk was to come to a slot that was out
  not_out : (w : Walk) (k : ℕ) → Left r.plan.fate w k → ⊥
  not_out w k l = let no : true ≡ false = sym l.1 ∙ still in cc

  -- BEHIND THE SLOT q, which the collector's walk saw last
  module _ (w : Walk) (walk : v.walk ≡ Some w) (place : w.place ≡ r.plan.sweep.cursor + 1) (before : List Held) (a : Held) (seen : w.seen ≡ before ++ a ∷ []) where
    abbrev dying : ℕ
    dying = r.plan.sweep.cursor

    trailed : Trail b.epoch b.row b.links b.heads r.plan.chain y w
    trailed = s.trail y w at walk

    ahead_ : (ks : List ℕ) × (trailed.path ≡ r.plan.sweep.cursor ∷ ks)
    ahead_ = let c = chain_at b.links r.plan.sweep.cursor trailed.path (subst (λ (n : ℕ). Chain b.links n trailed.path) place trailed.reached) in (c.0, c.1)

    split_at : r.plan.chain w.head ≡ (trailed.news ++ slots before) ++ (a.slot ∷ r.plan.sweep.cursor ∷ ahead_.0)
    split_at = trailed.whole ∙ (ap (λ (l : List ℕ). trailed.news ++ l) ((λ i. slots (seen i) ++ ahead_.1 i) ∙ (ap (λ (l : List ℕ). l ++ (r.plan.sweep.cursor ∷ ahead_.0)) (map-append (λ (x : Held). x.slot) before (a ∷ [])) ∙ append_assoc (slots before) (a.slot ∷ []) (r.plan.sweep.cursor ∷ ahead_.0)))
        ∙ sym (append_assoc trailed.news (slots before) (a.slot ∷ r.plan.sweep.cursor ∷ ahead_.0)))

    inside_w : w.head < z.heads
    inside_w = (s.walk w walk).inside

    next : get_or b.links a.slot 0 ≡ r.plan.sweep.cursor + 1
    next = chain_next b.links (first_of (get_or b.heads w.head 0)) (trailed.news ++ slots before) a.slot r.plan.sweep.cursor ahead_.0 (subst (Chain b.links (first_of (get_or b.heads w.head 0))) split_at (whole_ w.head inside_w))

    on_w : In a.slot (r.plan.chain w.head)
    on_w = subst (In a.slot) (sym split_at) (in_back a.slot (trailed.news ++ slots before) (a.slot ∷ r.plan.sweep.cursor ∷ ahead_.0) (0, refl))

    -- the dying slot stands in that chain alone
    here_alone : (h : ℕ) → h < z.heads → In r.plan.sweep.cursor (r.plan.chain h) → h ≡ w.head
    here_alone h inside i = sym (r.rows.once h r.plan.sweep.cursor inside i) ∙ r.rows.once w.head r.plan.sweep.cursor inside_w
        (subst (In r.plan.sweep.cursor) (sym split_at) (in_back r.plan.sweep.cursor (trailed.news ++ slots before) (a.slot ∷ r.plan.sweep.cursor ∷ ahead_.0) (1, refl)))

    walk_skip : (t : Walk) → WalkOk z b.links b.heads b.texts r.plan.chain r.plan.fate t
        → WalkOk z (set b.links a.slot (get_or b.links r.plan.sweep.cursor 0)) b.heads b.texts (λ h. skip a.slot (r.plan.chain h)) (record { slot = r.plan.fate.slot; out = true; head = r.plan.fate.head; left = version_of (get_or b.heads r.plan.fate.head 0) }) t
    walk_skip t ok = record {
      inside = ok.inside;
      short = ok.short;
      past = ok.past;
      word = ok.word;
      claim = λ same. let u = ok.claim same in record {
        path = skip a.slot u.path;
        reached = path_skip b.links a.slot r.plan.sweep.cursor next t.place u.path u.reached;
        each = λ k i alive. ⊎_elim (λ (e : Seen b.texts t.seen k). inl e)
            (λ (j : In k u.path). inr (skip_in b.links a.slot r.plan.sweep.cursor next k t.place u.path u.reached (λ e. alive (let slot = d.at in omega arith)) j)) (u.each k (in_skip b.links a.slot r.plan.sweep.cursor next k (r.plan.chain t.head) i) alive);
        inside = λ k i. ⊎_elim
            (λ (j : In k (r.plan.chain t.head)). elim (ℕ_discrete k r.plan.sweep.cursor) as (λ _. In k (skip a.slot (r.plan.chain t.head)) ⊎ Left (record { slot = r.plan.fate.slot; out = true; head = r.plan.fate.head; left = version_of (get_or b.heads r.plan.fate.head 0) }) t k) [
              | yes e ↦ let one : t.head ≡ w.head = here_alone t.head ok.inside (subst (λ (n : ℕ). In n (r.plan.chain t.head)) e j) in let two : r.plan.fate.head ≡ w.head = here_alone r.plan.fate.head d.inside (d.there still).0 in
                  inr (d.at ∙ ap (λ (n : ℕ). n + 1) (sym e), refl, two ∙ sym one, (let past = ok.past in let heads_ : version_of (get_or b.heads t.head 0) ≡ version_of (get_or b.heads r.plan.fate.head 0) = ap (λ (h : ℕ). version_of (get_or b.heads h 0)) (one ∙ sym two) in omega arith))
              | no ne ↦ inl (skip_in b.links a.slot r.plan.sweep.cursor next k (first_of (get_or b.heads t.head 0)) (r.plan.chain t.head) (whole_ t.head ok.inside) ne j)
            ])
            (λ (l : Left r.plan.fate t k). absurd (not_out t k l)) (u.inside k (in_skip b.links a.slot r.plan.sweep.cursor next k u.path i));
        few = let f = u.few in let l = skip_length b.links a.slot r.plan.sweep.cursor next u.path in omega (arith, f, l, length-set b.links a.slot (get_or b.links r.plan.sweep.cursor 0));
        part = u.part;
        dead = u.dead;
      };
      lost = ok.lost;
    }

    unlink_at_ : Kept z (with_link b a.slot (get_or b.links r.plan.sweep.cursor 0)) (set vs id (view_after v (UnlinkAt a.slot)))
    unlink_at_ = taken_out (λ h. skip a.slot (r.plan.chain h)) (set b.links a.slot (get_or b.links r.plan.sweep.cursor 0)) b.heads false
        record {
          subset = λ h x i. in_skip b.links a.slot r.plan.sweep.cursor next x (r.plan.chain h) i;
          most = λ h x inside i ne. skip_in b.links a.slot r.plan.sweep.cursor next x (first_of (get_or b.heads h 0)) (r.plan.chain h) (whole_ h inside) ne i;
          lacks = λ h inside i. let there = in_skip b.links a.slot r.plan.sweep.cursor next r.plan.sweep.cursor (r.plan.chain h) i in let one : h ≡ w.head = here_alone h inside there in
              skip_out b.links a.slot r.plan.sweep.cursor next (first_of (get_or b.heads h 0)) (r.plan.chain h) (whole_ h inside) (subst (λ (g : ℕ). In a.slot (r.plan.chain g)) (sym one) on_w) i;
          chains = λ h inside. path_skip b.links a.slot r.plan.sweep.cursor next (first_of (get_or b.heads h 0)) (r.plan.chain h) (whole_ h inside);
          many_links = length-set b.links a.slot (get_or b.links r.plan.sweep.cursor 0);
          many_heads = refl;
          same_closed = λ h inside. refl;
          own_link = λ k un. get_or-set_other b.links a.slot k (get_or b.links r.plan.sweep.cursor 0) 0 (λ e. un (w.head, inside_w, subst (λ (n : ℕ). In n (r.plan.chain w.head)) (sym e) on_w));
          later = λ h. omega arith;
          early = λ _. (d.there still).1;
          past = λ e. cc;
          walk = walk_skip;
        } (v.made ++ UnlinkAt a.slot ∷ [])

  -- AS THE FIRST
  module _ (w : Walk) (walk : v.walk ≡ Some w) (found : get_or b.heads w.head 0 ≡ w.word) (first : first_of w.word ≡ r.plan.sweep.cursor + 1) where
    abbrev x : ℕ
    x = get_or b.links r.plan.sweep.cursor 0

    abbrev n : ℕ
    n = head_word (get_or b.links r.plan.sweep.cursor 0) (closed_of w.word) (version_of w.word + 1)

    in_w : w.head < z.heads
    in_w = (s.walk w walk).inside

    heads_w : w.head < length b.heads
    heads_w = omega (arith, r.sized.heads, in_w)

    rest : (ks : List ℕ) × (r.plan.chain w.head ≡ r.plan.sweep.cursor ∷ ks) × (r.plan.sweep.cursor < length b.links) × Chain b.links (get_or b.links r.plan.sweep.cursor 0) ks
    rest = chain_at b.links r.plan.sweep.cursor (r.plan.chain w.head) (subst (λ (p : ℕ). Chain b.links p (r.plan.chain w.head)) (ap first_of found ∙ first) (whole_ w.head in_w))

    abbrev chain_ : ℕ → List ℕ
    chain_ = put r.plan.chain w.head rest.0

    at_w : put r.plan.chain w.head rest.0 w.head ≡ rest.0
    at_w = put_here r.plan.chain w.head rest.0

    same_head : r.plan.fate.head ≡ w.head
    same_head = sym (r.rows.once r.plan.fate.head r.plan.sweep.cursor d.inside (d.there still).0) ∙ r.rows.once w.head r.plan.sweep.cursor in_w (subst (In r.plan.sweep.cursor) (sym rest.1) (0, refl))

    first_n : first_of (head_word (get_or b.links r.plan.sweep.cursor 0) (closed_of w.word) (version_of w.word + 1)) ≡ get_or b.links r.plan.sweep.cursor 0
    first_n = let small = chain_small b.links (get_or b.links r.plan.sweep.cursor 0) rest.0 rest.3 in let sized = r.sized.small in first-head_word (get_or b.links r.plan.sweep.cursor 0) (closed_of w.word) (version_of w.word + 1) (omega (arith, small, sized, r.sized.links)) (omega arith)

    closed_n : closed_of (head_word (get_or b.links r.plan.sweep.cursor 0) (closed_of w.word) (version_of w.word + 1)) ≡ closed_of w.word
    closed_n = let small = chain_small b.links (get_or b.links r.plan.sweep.cursor 0) rest.0 rest.3 in let sized = r.sized.small in
        closed-head_word (get_or b.links r.plan.sweep.cursor 0) (closed_of w.word) (version_of w.word + 1) (omega (arith, small, sized, r.sized.links)) (omega arith)

    version_n : version_of (head_word (get_or b.links r.plan.sweep.cursor 0) (closed_of w.word) (version_of w.word + 1)) ≡ version_of (get_or b.heads w.head 0) + 1
    version_n = let small = chain_small b.links (get_or b.links r.plan.sweep.cursor 0) rest.0 rest.3 in let sized = r.sized.small in
        version-head_word (get_or b.links r.plan.sweep.cursor 0) (closed_of w.word) (version_of w.word + 1) (omega (arith, small, sized, r.sized.links)) (omega arith) ∙ ap (λ (m : ℕ). version_of m + 1) (sym found)

    -- facts of a slot of a chain afterwards
    only_rest : (h k : ℕ) → In k (put r.plan.chain w.head rest.0 h) → In k (r.plan.chain h)
    only_rest h k i = elim (ℕ_discrete h w.head) as (λ _. In k (r.plan.chain h)) [
      | yes e ↦ subst (λ (g : ℕ). In k (r.plan.chain g)) (sym e) (subst (In k) (sym rest.1) (in_later k r.plan.sweep.cursor rest.0 (subst (In k) (ap (put r.plan.chain w.head rest.0) e ∙ at_w) i)))
      | no ne ↦ subst (In k) (put_else r.plan.chain w.head rest.0 h ne) i
    ]

    but_first : (h k : ℕ) → h < z.heads → In k (r.plan.chain h) → k ≢ r.plan.sweep.cursor → In k (put r.plan.chain w.head rest.0 h)
    but_first h k inside i ne = elim (ℕ_discrete h w.head) as (λ _. In k (put r.plan.chain w.head rest.0 h)) [
      | yes e ↦ subst (In k) (sym (ap (put r.plan.chain w.head rest.0) e ∙ at_w)) (⊎_elim (λ (t : r.plan.sweep.cursor ≡ k). absurd (ne (sym t))) (λ (t : In k rest.0). t) (in_cases k r.plan.sweep.cursor rest.0 (subst (In k) (ap r.plan.chain e ∙ rest.1) i)))
      | no other ↦ subst (In k) (sym (put_else r.plan.chain w.head rest.0 h other)) i
    ]

    not_rest : (h : ℕ) → h < z.heads → In r.plan.sweep.cursor (put r.plan.chain w.head rest.0 h) → ⊥
    not_rest h inside i = elim (ℕ_discrete h w.head) as (λ _. ⊥) [
      | yes e ↦ let j : In r.plan.sweep.cursor rest.0 = subst (In r.plan.sweep.cursor) (ap (put r.plan.chain w.head rest.0) e ∙ at_w) i in
          let twice = chain_once b.links (first_of (get_or b.heads w.head 0)) (r.plan.chain w.head) 0 (suc j.0) r.plan.sweep.cursor (whole_ w.head in_w) (ap (λ (l : List ℕ). get_elem? l 0) rest.1) (ap (λ (l : List ℕ). get_elem? l (suc j.0)) rest.1 ∙ j.1) in omega arith
      | no ne ↦ ne (sym (r.rows.once h r.plan.sweep.cursor inside (subst (In r.plan.sweep.cursor) (put_else r.plan.chain w.head rest.0 h ne) i)) ∙ r.rows.once w.head r.plan.sweep.cursor in_w (subst (In r.plan.sweep.cursor) (sym rest.1) (0, refl)))
    ]

    -- walks over that chain know nothing any more; the others are not concerned
    walk_first : (t : Walk) → WalkOk z b.links b.heads b.texts r.plan.chain r.plan.fate t
        → WalkOk z b.links (set b.heads w.head n) b.texts (put r.plan.chain w.head rest.0) (record { slot = r.plan.fate.slot; out = true; head = r.plan.fate.head; left = version_of (get_or b.heads r.plan.fate.head 0) }) t
    walk_first t ok = let past = ok.past in let version = version_n in
        let stale : t.head ≡ w.head → version_of (get_or (set b.heads w.head n) t.head 0) ≡ version_of t.word → ⊥ =
        (λ e same. let was : version_of t.word ≤ version_of (get_or b.heads w.head 0) = subst (λ (g : ℕ). version_of t.word ≤ version_of (get_or b.heads g 0)) e past in
        let now : version_of n ≡ version_of t.word = sym (ap version_of (get_or-set_same b.heads w.head n 0 heads_w)) ∙ (ap (λ (g : ℕ). version_of (get_or (set b.heads w.head n) g 0)) (sym e) ∙ same) in omega arith) in record {
          inside = ok.inside;
          short = ok.short;
          past = word_after (λ m. version_of t.word ≤ version_of m) b.heads w.head n t.head heads_w
              (λ e. let was : version_of t.word ≤ version_of (get_or b.heads w.head 0) = subst (λ (g : ℕ). version_of t.word ≤ version_of (get_or b.heads g 0)) e past in omega arith) (λ _. past);
          word = λ same. elim (ℕ_discrete t.head w.head) as (λ _. get_or (set b.heads w.head n) t.head 0 ≡ t.word) [
            | yes e ↦ absurd (stale e same)
            | no ne ↦ get_or-set_other b.heads w.head t.head n 0 ne ∙ ok.word (ap version_of (sym (get_or-set_other b.heads w.head t.head n 0 ne)) ∙ same)
          ];
          claim = λ same. elim (ℕ_discrete t.head w.head) as (λ _. Unwalked b.links b.texts (record { slot = r.plan.fate.slot; out = true; head = r.plan.fate.head; left = version_of (get_or b.heads r.plan.fate.head 0) }) t (put r.plan.chain w.head rest.0 t.head)) [
            | yes e ↦ absurd (stale e same)
            | no ne ↦ let u = ok.claim (ap version_of (sym (get_or-set_other b.heads w.head t.head n 0 ne)) ∙ same) in subst (Unwalked b.links b.texts (record { slot = r.plan.fate.slot; out = true; head = r.plan.fate.head; left = version_of (get_or b.heads r.plan.fate.head 0) }) t)
                (sym (put_else r.plan.chain w.head rest.0 t.head ne)) record {
                  path = u.path;
                  reached = u.reached;
                  each = u.each;
                  inside = λ k i. ⊎_elim (λ (j : In k (r.plan.chain t.head)). inl j) (λ (l : Left r.plan.fate t k). absurd (not_out t k l)) (u.inside k i);
                  few = u.few;
                  part = u.part;
                  dead = u.dead;
                }
          ];
          lost = λ g. word_after (λ m. version_of t.word < version_of m) b.heads w.head n t.head heads_w
              (λ e. let was : version_of t.word < version_of (get_or b.heads w.head 0) = subst (λ (i : ℕ). version_of t.word < version_of (get_or b.heads i 0)) e (ok.lost g) in omega arith) (λ _. ok.lost g);
        }

    unlink_head_ : Kept z (with_head b w.head (head_word (get_or b.links r.plan.sweep.cursor 0) (closed_of w.word) (version_of w.word + 1))) (set vs id (view_after v UnlinkHead))
    unlink_head_ = let version = version_n in taken_out (put r.plan.chain w.head rest.0) b.links (set b.heads w.head n) true
        record {
          subset = only_rest;
          most = but_first;
          lacks = not_rest;
          chains = λ h inside. elim (ℕ_discrete h w.head) as (λ _. Chain b.links (first_of (get_or (set b.heads w.head n) h 0)) (put r.plan.chain w.head rest.0 h)) [
            | yes e ↦ subst (λ (g : ℕ). Chain b.links (first_of (get_or (set b.heads w.head n) g 0)) (put r.plan.chain w.head rest.0 g)) (sym e)
                (subst (Chain b.links (first_of (get_or (set b.heads w.head n) w.head 0))) (sym at_w) (subst (λ (p : ℕ). Chain b.links p rest.0) (sym (ap first_of (get_or-set_same b.heads w.head n 0 heads_w) ∙ first_n)) rest.3))
            | no ne ↦ subst (Chain b.links (first_of (get_or (set b.heads w.head n) h 0))) (sym (put_else r.plan.chain w.head rest.0 h ne)) (subst (λ (m : ℕ). Chain b.links (first_of m) (r.plan.chain h)) (sym (get_or-set_other b.heads w.head h n 0 ne)) (whole_ h inside))
          ];
          many_links = refl;
          many_heads = length-set b.heads w.head n;
          same_closed = λ h inside. word_after (λ m. closed_of m ≡ closed_of (get_or b.heads h 0)) b.heads w.head n h heads_w (λ e. closed_n ∙ (ap closed_of (sym found) ∙ ap (λ (g : ℕ). closed_of (get_or b.heads g 0)) (sym e))) (λ _. refl);
          own_link = λ k un. refl;
          later = λ h. word_after (λ m. version_of (get_or b.heads h 0) ≤ version_of m) b.heads w.head n h heads_w (λ e. let same = ap (λ (g : ℕ). version_of (get_or b.heads g 0)) e in omega arith) (λ _. omega arith);
          early = λ e. cc;
          past = λ _. word_after (λ m. version_of (get_or b.heads r.plan.fate.head 0) < version_of m) b.heads w.head n r.plan.fate.head heads_w (λ e. let same = ap (λ (g : ℕ). version_of (get_or b.heads g 0)) e in omega arith) (λ ne. absurd (ne same_head));
          walk = walk_first;
        } (v.made ++ UnlinkHead ∷ [])

pub keep_unlink_at : (z : Size) (b : Board) (vs : List View) (r : Kept z b vs) (id : ℕ) (v : View) → SeatOk z b r.plan id v → (q : ℕ) (b' : Board) → Does z b v (UnlinkAt q) b' → Kept z b' (set vs id (view_after v (UnlinkAt q)))
keep_unlink_at z b vs r id v s q b' d = let y : Sweeping = d.0 in let w : Walk = d.1 in let at = d.3.0.0 in let is = known z b vs r id v s y at in let here : r.plan.sweep.cursor ≡ y.cursor = ap (λ (t : Sweeping). t.cursor) is in
    let slot : r.plan.fate.slot ≡ y.cursor + 1 = sym r.fate.slot ∙ (ap (λ (t : Sweeping). t.dying) is ∙ d.3.1) in let f = r.fate.dies (λ none. omega arith) in let still : r.plan.fate.out ≡ false = sym r.fate.out ∙ (ap (λ (t : Sweeping). t.unlinked) is ∙ d.3.2) in
    let word : get_or b.links r.plan.sweep.cursor 0 ≡ d.2 = f.behind still d.2 (ap (λ (t : Sweeping). t.behind) is ∙ d.6) in
    let board : with_link b d.7.1.slot (get_or b.links r.plan.sweep.cursor 0) ≡ b' = (λ i. with_link b (d.7.3 i) (word i)) ∙ sym d.8 in
    subst (λ (t : Board × ℕ). Kept z t.0 (set vs id (view_after v (UnlinkAt t.1)))) (λ i. (board i, d.7.3 i))
    (unlink_at_ z b vs r id v s y at f still w d.4 (d.5 ∙ ap (λ (k : ℕ). k + 1) (sym here)) d.7.0 d.7.1 d.7.2)

pub keep_unlink_head : (z : Size) (b : Board) (vs : List View) (r : Kept z b vs) (id : ℕ) (v : View) → SeatOk z b r.plan id v → (b' : Board) → Does z b v UnlinkHead b' → Kept z b' (set vs id (view_after v UnlinkHead))
keep_unlink_head z b vs r id v s b' d = let y : Sweeping = d.0 in let w : Walk = d.1 in let at = d.3.0.0 in let is = known z b vs r id v s y at in let here : r.plan.sweep.cursor ≡ y.cursor = ap (λ (t : Sweeping). t.cursor) is in
    let slot : r.plan.fate.slot ≡ y.cursor + 1 = sym r.fate.slot ∙ (ap (λ (t : Sweeping). t.dying) is ∙ d.3.1) in let f = r.fate.dies (λ none. omega arith) in let still : r.plan.fate.out ≡ false = sym r.fate.out ∙ (ap (λ (t : Sweeping). t.unlinked) is ∙ d.3.2) in
    let word : get_or b.links r.plan.sweep.cursor 0 ≡ d.2 = f.behind still d.2 (ap (λ (t : Sweeping). t.behind) is ∙ d.6) in
    subst (λ t. Kept z t (set vs id (view_after v UnlinkHead))) ((λ i. with_head b w.head (head_word (word i) (closed_of w.word) (version_of w.word + 1))) ∙ sym d.8)
    (unlink_head_ z b vs r id v s y at f still w d.4 d.7 (d.5 ∙ ap (λ (k : ℕ). k + 1) (sym here)))

-- THE HEAD'S VERSION IS MOVED, where the dying slot is out
module _ (z : Size) (b : Board) (vs : List View) (r : Kept z b vs) (id : ℕ) (v : View) (s : SeatOk z b r.plan id v) (y : Sweeping) (at : v.sweep ≡ Some y)
    (d : DyingOk z b.epoch b.links b.heads r.plan.chain r.plan.sweep r.plan.fate) (out : r.plan.fate.out ≡ true) where
  abbrev h : ℕ
  h = r.plan.fate.head

  abbrev bumped : ℕ
  bumped = head_word (first_of (get_or b.heads r.plan.fate.head 0)) (closed_of (get_or b.heads r.plan.fate.head 0)) (version_of (get_or b.heads r.plan.fate.head 0) + 1)

  heads_h : r.plan.fate.head < length b.heads
  heads_h = omega (arith, r.sized.heads, d.inside)

  first_bumped : first_of (head_word (first_of (get_or b.heads r.plan.fate.head 0)) (closed_of (get_or b.heads r.plan.fate.head 0)) (version_of (get_or b.heads r.plan.fate.head 0) + 1)) ≡ first_of (get_or b.heads r.plan.fate.head 0)
  first_bumped = first-head_word (first_of (get_or b.heads r.plan.fate.head 0)) (closed_of (get_or b.heads r.plan.fate.head 0)) (version_of (get_or b.heads r.plan.fate.head 0) + 1) (omega arith) (omega arith)

  version_bumped : version_of (head_word (first_of (get_or b.heads r.plan.fate.head 0)) (closed_of (get_or b.heads r.plan.fate.head 0)) (version_of (get_or b.heads r.plan.fate.head 0) + 1)) ≡ version_of (get_or b.heads r.plan.fate.head 0) + 1
  version_bumped = version-head_word (first_of (get_or b.heads r.plan.fate.head 0)) (closed_of (get_or b.heads r.plan.fate.head 0)) (version_of (get_or b.heads r.plan.fate.head 0) + 1) (omega arith) (omega arith)

  closed_bumped : closed_of (head_word (first_of (get_or b.heads r.plan.fate.head 0)) (closed_of (get_or b.heads r.plan.fate.head 0)) (version_of (get_or b.heads r.plan.fate.head 0) + 1)) ≡ closed_of (get_or b.heads r.plan.fate.head 0)
  closed_bumped = closed-head_word (first_of (get_or b.heads r.plan.fate.head 0)) (closed_of (get_or b.heads r.plan.fate.head 0)) (version_of (get_or b.heads r.plan.fate.head 0) + 1) (omega arith) (omega arith)

  further : version_of (get_or b.heads r.plan.fate.head 0) < version_of (head_word (first_of (get_or b.heads r.plan.fate.head 0)) (closed_of (get_or b.heads r.plan.fate.head 0)) (version_of (get_or b.heads r.plan.fate.head 0) + 1))
  further = let version = version_bumped in omega arith

  not_lower : (g m : ℕ) → m ≤ version_of (get_or b.heads g 0) → m ≤ version_of (get_or (set b.heads r.plan.fate.head bumped) g 0)
  not_lower g m high = word_after (λ n. m ≤ version_of n) b.heads r.plan.fate.head bumped g heads_h
      (λ e. let was : m ≤ version_of (get_or b.heads r.plan.fate.head 0) = subst (λ (i : ℕ). m ≤ version_of (get_or b.heads i 0)) e high in let on = further in omega arith) (λ _. high)

  seat_bumped : (j : ℕ) (x : View) → SeatOk z b r.plan j x → (walk : Option Walk) (sweep : Option Sweeping) (made : List Kind) → ((t : Walk) → walk ≡ Some t → x.walk ≡ Some t)
      → ((q : Sweeping) → sweep ≡ Some q → (r.plan.collector ≡ j) × (moving_past r.plan.sweep ≡ q))
      → ((q : Sweeping) (t : Walk) → sweep ≡ Some q → walk ≡ Some t → Trail b.epoch b.row b.links (set b.heads r.plan.fate.head bumped) r.plan.chain q t)
      → ((q : Sweeping) → sweep ≡ Some q → r.plan.grow ≡ x.growing)
      → SeatOk z (with_head b r.plan.fate.head bumped) (record r.plan { sweep = moving_past r.plan.sweep }) j (record x { walk = walk; sweep = sweep; made = made })
  seat_bumped j x k walk sweep made same sweeps trail grows = record {
    size = k.size;
    own = k.own;
    held = k.held;
    fixed = k.fixed;
    low = k.low;
    counts = k.counts;
    walk = λ t e. walk_risen z r.plan.chain b.links b.heads b.texts r.plan.fate r.plan.fate.head bumped t heads_h further (k.walk t (same t e));
    marks = marks_walk z b.epoch b.acks b.atoms r.plan.engine r.plan.sweep.cursor j x.cycle x.undealt x.held x.walk k.marks walk (λ t q e g place. (t, same t e, g, place));
    sweeps = sweeps;
    trail = trail;
    risen = λ g below. let t = k.risen g below in (t.0, not_lower g z.start t.1);
    unclosed = λ t e. k.unclosed t (same t e);
    grows = grows;
  }

  bump_at : Kept z (with_head b r.plan.fate.head bumped) (set vs id (view_after v Bump))
  bump_at = record {
    plan = record r.plan { sweep = moving_past r.plan.sweep };
    sized = record { small = r.sized.small; acks = r.sized.acks; atoms = r.sized.atoms; links = r.sized.links; heads = length-set b.heads r.plan.fate.head bumped ∙ r.sized.heads; texts = r.sized.texts };
    grow = grow_at_work z b vs r d.sweeping (set b.heads r.plan.fate.head bumped) r.plan.chain
        (λ g inside. word_after (λ m. closed_of m ≡ closed_of (get_or b.heads g 0)) b.heads r.plan.fate.head bumped g heads_h (λ e. closed_bumped ∙ ap (λ (q : ℕ). closed_of (get_or b.heads q 0)) (sym e)) (λ _. refl));
    rows = record {
      leaves = λ ne. absurd (ne (r.grow.rest (inl (early_sweep z b vs r d.sweeping))).1);
      chains = λ g i _. word_after (λ m. Chain b.links (first_of m) (r.plan.chain g)) b.heads r.plan.fate.head bumped g heads_h
          (λ e. subst (λ (p : ℕ). Chain b.links p (r.plan.chain g)) (ap (λ (q : ℕ). first_of (get_or b.heads q 0)) e ∙ sym first_bumped) (chains_at_work z b vs r d.sweeping g i)) (λ _. chains_at_work z b vs r d.sweeping g i);
      once = r.rows.once;
      stands = r.rows.stands;
      formed = r.rows.formed;
      unlike = r.rows.unlike;
    };
    slots = r.slots;
    cycle = record { word = r.cycle.word; phase = r.cycle.phase; begun = r.cycle.begun; few = r.cycle.few; checked = r.cycle.checked; swept = r.cycle.swept; cursor = r.cycle.cursor };
    sure = sure_same z b vs r id v s moving_past refl refl refl;
    blank = r.blank;
    fate = record {
      slot = r.fate.slot;
      out = r.fate.out;
      head = r.fate.head;
      idle = r.fate.idle;
      dies = λ _. record {
        sweeping = d.sweeping;
        at = d.at;
        high = d.high;
        inside = d.inside;
        there = λ in_. absurd (let no : false ≡ true = sym in_ ∙ out in cc);
        behind = λ in_. absurd (let no : false ≡ true = sym in_ ∙ out in cc);
        gone = λ e. let g = d.gone e in (g.0, not_lower r.plan.fate.head r.plan.fate.left g.1, λ not. cc);
        noted = λ e x is. let t = d.noted e x is in let seen = t.1 in let on = further in let word = ap version_of (get_or-set_same b.heads r.plan.fate.head bumped 0 heads_h) in (t.0, omega arith, λ same. absurd (omega arith));
        past = λ e _. let g = d.gone e in let left = g.1 in let on = further in let word = ap version_of (get_or-set_same b.heads r.plan.fate.head bumped 0 heads_h) in omega arith;
      };
    };
    seats = seats_stay (SeatOk z (with_head b r.plan.fate.head bumped) (record r.plan { sweep = moving_past r.plan.sweep })) vs id (view_after v Bump)
        (λ _. seat_bumped id v s None (option_map moving_past v.sweep) (v.made ++ Bump ∷ []) (λ t none. cc) (λ q has_. let was = unmapped moving_past v.sweep q has_ in ((s.sweeps y at).0, ap moving_past (s.sweeps was.0 was.1).1 ∙ was.2)) (λ q t has_ none. cc) (λ q has_. let was = unmapped moving_past v.sweep q has_ in s.grows was.0 was.1))
        (λ j x other here alive. let k = r.seats j x here alive in seat_bumped j x k x.walk x.sweep x.made (λ t e. e)
        (λ q has_. absurd (other (sym (k.sweeps q has_).0 ∙ (s.sweeps y at).0))) (λ q t has_. absurd (other (sym (k.sweeps q has_).0 ∙ (s.sweeps y at).0))) (λ q has_. absurd (other (sym (k.sweeps q has_).0 ∙ (s.sweeps y at).0))));
  }

pub keep_bump : (z : Size) (b : Board) (vs : List View) (r : Kept z b vs) (id : ℕ) (v : View) → SeatOk z b r.plan id v → (b' : Board) → Does z b v Bump b' → Kept z b' (set vs id (view_after v Bump))
keep_bump z b vs r id v s b' d = let y : Sweeping = d.0 in let at = d.2.0.0 in let is = known z b vs r id v s y at in let slot : r.plan.fate.slot ≡ y.cursor + 1 = sym r.fate.slot ∙ (ap (λ (t : Sweeping). t.dying) is ∙ d.2.1) in
    let head : r.plan.fate.head ≡ y.head = sym r.fate.head ∙ ap (λ (t : Sweeping). t.head) is in let word : get_or b.heads r.plan.fate.head 0 ≡ d.1 = ap (λ (g : ℕ). get_or b.heads g 0) head ∙ d.5 in
    subst (λ t. Kept z t (set vs id (view_after v Bump))) ((λ i. with_head b (head i) (head_word (first_of (word i)) (closed_of (word i)) (version_of (word i) + 1))) ∙ sym d.6)
    (bump_at z b vs r id v s y at (r.fate.dies (λ none. omega arith)) (sym r.fate.out ∙ (ap (λ (t : Sweeping). t.unlinked) is ∙ d.2.2)))
