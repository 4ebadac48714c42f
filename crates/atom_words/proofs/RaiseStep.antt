-- Raising the version of a head keeps the rule.
use Rattle.std.proofs.Common.{◌≡◌, ◌≢◌, ◌⊎◌, ℕ, ◌+◌, ◌<◌, ◌≤◌, Bool, if◌then◌else◌, List, length, get_or, set, sym, ap, ◌∙◌, subst, inl, inr, ⊎_elim, arith, ◌-◌, ◌^◌, refl, length-set, get_or-set_same, get_or-set_other, eq-eqb, ne_eqb}
use mathlib.Core.Logic.{dite}
use native.Mathlib.Decide.{ℕ_discrete}
use Rattle.atom_words.specs.Layout.{first_of, closed_of, version_of, phase_of}
use Rattle.atom_words.specs.Board.{Board, with_head}
use Rattle.atom_words.specs.Chains.{Chain}
use Rattle.atom_words.specs.Kinds.{raised, rising, view_after, Does}
use Rattle.atom_words.specs.Kept.{Fate, Unwalked, WalkOk, SeatOk, Trail, Kept}
use Rattle.atom_words.specs.declared.size.Size.{Size}
use Rattle.atom_words.specs.declared.view.Walk.{Walk}
use Rattle.atom_words.specs.declared.view.Sweeping.{Sweeping}
use Rattle.atom_words.specs.declared.view.View.{View}
use Rattle.atom_words.specs.declared.kind.Kind.TheVariants.{Raise, Risen}
use Rattle.atom_words.proofs.Layouts.{first-head_word, closed-head_word, version-head_word}
use Rattle.atom_words.proofs.Slices.{word_after}
use Rattle.atom_words.proofs.Rowing.{early_open, grow_early}
use Rattle.atom_words.proofs.Frames.{seats_stay, keep_view}

pub first-raised : (start w : ℕ) → first_of (raised start w) ≡ first_of w
first-raised start w = first-head_word (first_of w) (closed_of w) start (omega arith) (omega arith)

pub closed-raised : (start w : ℕ) → closed_of (raised start w) ≡ closed_of w
closed-raised start w = closed-head_word (first_of w) (closed_of w) start (omega arith) (omega arith)

pub version-raised : (start w : ℕ) → version_of (raised start w) ≡ start
version-raised start w = version-head_word (first_of w) (closed_of w) start (omega arith) (omega arith)

-- a head below those known to have risen was so before, or is the one that has risen
pub below_rising : (h n g : ℕ) → g < rising h n → (g < n) ⊎ (h ≡ g)
below_rising h n g below = elim (ℕ_discrete h n) as (λ _. (g < n) ⊎ (h ≡ g)) [
  | yes e ↦ let is : rising h n ≡ n + 1 = ap (λ (t : Bool). if t then n + 1 else n) (eq-eqb h n e) in let low : g < n + 1 = subst (λ (i : ℕ). g < i) is below in
      dite (ℕ_discrete g n) (λ (same : g ≡ n). inr (e ∙ sym same)) (λ (ne : g ≢ n). inl (omega arith))
  | no ne ↦ let is : rising h n ≡ n = ap (λ (t : Bool). if t then n + 1 else n) (ne_eqb h n ne) in inl (subst (λ (i : ℕ). g < i) is below)
]

-- a walk over the chain of a head whose version has risen knows nothing any more; the others are not concerned
pub walk_risen : (z : Size) (chain : ℕ → List ℕ) (links heads texts : List ℕ) (f : Fate) (h n : ℕ) (w : Walk) → h < length heads → version_of (get_or heads h 0) < version_of n → WalkOk z links heads texts chain f w
    → WalkOk z links (set heads h n) texts chain f w
walk_risen z chain links heads texts f h n w there risen ok = let past = ok.past in record {
  inside = ok.inside;
  short = ok.short;
  past = word_after (λ y. version_of w.word ≤ version_of y) heads h n w.head there
      (λ e. let here : version_of w.word ≤ version_of (get_or heads h 0) = subst (λ (g : ℕ). version_of w.word ≤ version_of (get_or heads g 0)) e past in omega arith) (λ _. past);
  word = λ same. elim (ℕ_discrete w.head h) as (λ _. get_or (set heads h n) w.head 0 ≡ w.word) [
    | yes e ↦ absurd (let here : version_of w.word ≤ version_of (get_or heads h 0) = subst (λ (g : ℕ). version_of w.word ≤ version_of (get_or heads g 0)) e past in
        let now : version_of n ≡ version_of w.word = sym (ap version_of (get_or-set_same heads h n 0 there)) ∙ (ap (λ (g : ℕ). version_of (get_or (set heads h n) g 0)) (sym e) ∙ same) in omega arith)
    | no ne ↦ get_or-set_other heads h w.head n 0 ne ∙ ok.word (ap version_of (sym (get_or-set_other heads h w.head n 0 ne)) ∙ same)
  ];
  claim = λ same. elim (ℕ_discrete w.head h) as (λ _. Unwalked links texts f w (chain w.head)) [
    | yes e ↦ absurd (let here : version_of w.word ≤ version_of (get_or heads h 0) = subst (λ (g : ℕ). version_of w.word ≤ version_of (get_or heads g 0)) e past in
        let now : version_of n ≡ version_of w.word = sym (ap version_of (get_or-set_same heads h n 0 there)) ∙ (ap (λ (g : ℕ). version_of (get_or (set heads h n) g 0)) (sym e) ∙ same) in omega arith)
    | no ne ↦ ok.claim (ap version_of (sym (get_or-set_other heads h w.head n 0 ne)) ∙ same)
  ];
  lost = λ g. word_after (λ y. version_of w.word < version_of y) heads h n w.head there
      (λ e. let here : version_of w.word < version_of (get_or heads h 0) = subst (λ (i : ℕ). version_of w.word < version_of (get_or heads i 0)) e (ok.lost g) in omega arith) (λ _. ok.lost g);
}

module _ (z : Size) (b : Board) (vs : List View) (r : Kept z b vs) (id : ℕ) (v : View) (s : SeatOk z b r.plan id v) (h : ℕ) (inside : h < z.heads) (first : 0 < v.undealt) (open_ : closed_of (get_or b.heads h 0) ≡ 0) (low : version_of (get_or b.heads h 0) < z.start) where
  abbrev n : ℕ
  n = raised z.start (get_or b.heads h 0)

  there : h < length b.heads
  there = omega (arith, r.sized.heads, inside)

  risen : version_of (get_or b.heads h 0) < version_of (raised z.start (get_or b.heads h 0))
  risen = subst (λ (y : ℕ). version_of (get_or b.heads h 0) < y) (sym (version-raised z.start (get_or b.heads h 0))) low

  closed_n : closed_of (raised z.start (get_or b.heads h 0)) ≡ 0
  closed_n = closed-raised z.start (get_or b.heads h 0) ∙ open_

  -- the head is open, so that no chain is being moved
  early : r.plan.grow.shut < 2 ^ b.row
  early = early_open z b.epoch b.row b.heads b.texts r.plan.chain r.plan.grow r.grow h inside open_

  -- an engine without a seat has acknowledged no epoch, so that no cycle sweeps
  not_sweeping : phase_of b.epoch ≡ 2 → ⊥
  not_sweeping sweeping = let t = s.marks.to_deal v.undealt first (omega arith) in let all = r.cycle.swept sweeping (v.undealt - 1) (omega (arith, t.0)) in let begun = r.cycle.begun (λ none. omega arith) in omega (arith, t.2)

  trail_risen : (y : Sweeping) (w : Walk) → Trail b.epoch b.row b.links b.heads r.plan.chain y w → Trail b.epoch b.row b.links (set b.heads h n) r.plan.chain y w
  trail_risen y w t = record { news = t.news; path = t.path; whole = t.whole; reached = t.reached; fresh = λ two _. absurd (not_sweeping two); ahead = t.ahead; still = word_after (λ m. closed_of m ≢ 0 → m ≡ w.word) b.heads h n w.head there (λ _ c. absurd (c closed_n)) (λ _. t.still) }

  higher : (g : ℕ) → z.start ≤ version_of (get_or b.heads g 0) → z.start ≤ version_of (get_or (set b.heads h n) g 0)
  higher g high = word_after (λ y. z.start ≤ version_of y) b.heads h n g there (λ _. let v = version-raised z.start (get_or b.heads h 0) in omega arith) (λ _. high)

  seat_risen : (j : ℕ) (y : View) → SeatOk z b r.plan j y → SeatOk z (with_head b h n) r.plan j y
  seat_risen j y k = record {
    size = k.size;
    own = k.own;
    held = k.held;
    fixed = k.fixed;
    low = k.low;
    counts = k.counts;
    walk = λ w e. walk_risen z r.plan.chain b.links b.heads b.texts r.plan.fate h n w there risen (k.walk w e);
    marks = k.marks;
    sweeps = k.sweeps;
    trail = λ q t e f. trail_risen q t (k.trail q t e f);
    risen = λ g below. let t = k.risen g below in (t.0, higher g t.1);
    unclosed = k.unclosed;
    grows = k.grows;
  }

  now : z.start ≤ version_of (get_or (set b.heads h n) h 0)
  now = let v = version-raised z.start (get_or b.heads h 0) in let at : version_of (get_or (set b.heads h n) h 0) ≡ z.start = ap version_of (get_or-set_same b.heads h n 0 there) ∙ version-raised z.start (get_or b.heads h 0) in omega arith

  mine : SeatOk z (with_head b h n) r.plan id (view_after v (Raise h))
  mine = record {
    size = s.size;
    own = s.own;
    held = s.held;
    fixed = s.fixed;
    low = s.low;
    counts = s.counts;
    walk = λ w e. walk_risen z r.plan.chain b.links b.heads b.texts r.plan.fate h n w there risen (s.walk w e);
    marks = s.marks;
    sweeps = s.sweeps;
    trail = λ q t e f. trail_risen q t (s.trail q t e f);
    risen = λ g below. ⊎_elim (λ (t : g < v.risen). let k = s.risen g t in (k.0, higher g k.1))
        (λ (t : h ≡ g). subst (λ (i : ℕ). (i < z.heads) × (z.start ≤ version_of (get_or (set b.heads h n) i 0))) t (inside, now)) (below_rising h v.risen g below);
    unclosed = s.unclosed;
    grows = s.grows;
  }

  pub raise_at : Kept z (with_head b h (raised z.start (get_or b.heads h 0))) (set vs id (view_after v (Raise h)))
  raise_at = record {
    plan = r.plan;
    sized = record { small = r.sized.small; acks = r.sized.acks; atoms = r.sized.atoms; links = r.sized.links; heads = length-set b.heads h n ∙ r.sized.heads; texts = r.sized.texts };
    grow = grow_early z b.epoch b.row b.heads b.texts r.plan.chain r.plan.grow r.grow early (set b.heads h n) r.plan.chain
        (λ g i. word_after (λ m. closed_of m ≡ closed_of (get_or b.heads g 0)) b.heads h n g there (λ e. closed-raised z.start (get_or b.heads h 0) ∙ ap (λ (q : ℕ). closed_of (get_or b.heads q 0)) (sym e)) (λ _. refl))
        (λ _ g i shut. get_or-set_other b.heads h g n 0 (λ e. shut (ap (λ (q : ℕ). closed_of (get_or b.heads q 0)) e ∙ open_)));
    rows = record {
      leaves = λ ne. absurd (ne (r.grow.rest (inl early)).1);
      chains = λ g i whole. word_after (λ y. Chain b.links (first_of y) (r.plan.chain g)) b.heads h n g there
          (λ e. subst (λ (y : ℕ). Chain b.links y (r.plan.chain g)) (ap (λ (x : ℕ). first_of (get_or b.heads x 0)) e ∙ sym (first-raised z.start (get_or b.heads h 0))) (r.rows.chains g i whole))
          (λ _. r.rows.chains g i whole);
      once = r.rows.once;
      stands = r.rows.stands;
      formed = r.rows.formed;
      unlike = r.rows.unlike;
    };
    slots = r.slots;
    cycle = r.cycle;
    sure = r.sure;
    blank = r.blank;
    fate = record { slot = r.fate.slot; out = r.fate.out; head = r.fate.head; idle = r.fate.idle; dies = λ ne. absurd (not_sweeping (r.fate.dies ne).sweeping) };
    seats = seats_stay (SeatOk z (with_head b h n) r.plan) vs id (view_after v (Raise h)) (λ _. mine) (λ j y _ at here. seat_risen j y (r.seats j y at here));
  }

pub keep_raise : (z : Size) (b : Board) (vs : List View) (r : Kept z b vs) (id : ℕ) (v : View) → SeatOk z b r.plan id v → (h : ℕ) (b' : Board) → Does z b v (Raise h) b' → Kept z b' (set vs id (view_after v (Raise h)))
keep_raise z b vs r id v s h b' d = subst (λ y. Kept z y (set vs id (view_after v (Raise h)))) (sym d.4) (raise_at z b vs r id v s h d.0 d.1 d.2 d.3)

pub keep_risen : (z : Size) (b : Board) (vs : List View) (r : Kept z b vs) (id : ℕ) (v : View) → SeatOk z b r.plan id v → (h x : ℕ) (b' : Board) → Does z b v (Risen h x) b' → Kept z b' (set vs id (view_after v (Risen h x)))
keep_risen z b vs r id v s h x b' d = subst (λ y. Kept z y (set vs id (view_after v (Risen h x)))) (sym d.3) (keep_view z b vs r id (view_after v (Risen h x)) record {
  size = s.size;
  own = s.own;
  held = s.held;
  fixed = s.fixed;
  low = s.low;
  counts = s.counts;
  walk = s.walk;
  marks = s.marks;
  sweeps = s.sweeps;
  trail = s.trail;
  risen = λ g below. ⊎_elim (s.risen g) (λ (t : h ≡ g). subst (λ (i : ℕ). (i < z.heads) × (z.start ≤ version_of (get_or b.heads i 0))) t (d.0, subst (λ (n : ℕ). z.start ≤ version_of n) (sym d.1) d.2)) (below_rising h v.risen g below);
  unclosed = s.unclosed;
  grows = s.grows;
})
