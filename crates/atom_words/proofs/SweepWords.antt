-- Each step of the sweep on an atom word keeps the rule.
use Rattle.std.proofs.Common.{◌≡◌, ◌≢◌, ◌⊎◌, ℕ, ◌+◌, ◌-◌, ◌<◌, ◌≤◌, true, false, List, [], ◌∷◌, ◌++◌, length, get_or, set, refl, sym, ap, ◌∙◌, subst, inl, inr, ⊎_elim, arith, Option, Some, option_map, length-set, get_or-set_same}
use mathlib.Core.Option.{some}
use mathlib.Core.Logic.{dite}
use native.Mathlib.Decide.{ℕ_discrete, dec_le}
use lib.ListN.{get_elem?}
use Rattle.atom_words.specs.Layout.{state_of, mark_of, count_of, first_of, version_of, last, phase_of, epoch_of}
use Rattle.atom_words.specs.Texts.{Formed}
use Rattle.atom_words.specs.Board.{Board, text_of, with_atom}
use Rattle.atom_words.specs.Chains.{In, Chain, Linked}
use Rattle.atom_words.specs.Kinds.{unmarked, head_of, condemning, passing, freeing, view_after, Does}
use Rattle.atom_words.specs.Kept.{Fate, HeldOk, Left, WalkOk, Safe, Acked, MarksOk, SeatOk, Rows, Slots, CycleOk, SureOk, DyingOk, FateOk, slots, Trail, Kept}
use Rattle.atom_words.specs.declared.size.Size.{Size}
use Rattle.atom_words.specs.declared.view.Held.{Held}
use Rattle.atom_words.specs.declared.view.Counted.{Counted}
use Rattle.atom_words.specs.declared.view.Own.{Own}
use Rattle.atom_words.specs.declared.view.Walk.{Walk}
use Rattle.atom_words.specs.declared.view.Sweeping.{Sweeping}
use Rattle.atom_words.specs.declared.view.View.{View}
use Rattle.atom_words.specs.declared.kind.Kind.{Kind}
use Rattle.atom_words.specs.declared.kind.Kind.TheVariants.{Condemn, PassOver, Free}
use Rattle.atom_words.proofs.Layouts.{state-unmarked, count-unmarked}
use Rattle.atom_words.proofs.Slices.{in_none, in_back, chain_at, chain_inside, or_beyond, word_after}
use Rattle.atom_words.proofs.Puts.{unmapped}
use Rattle.atom_words.proofs.Rowing.{chains_at_work}
use Rattle.atom_words.proofs.Frames.{seats_stay}
use Rattle.atom_words.proofs.Cycles.{own_trail}
use Rattle.atom_words.proofs.Sweeps.{known, swept_by, idle_by}

-- THE COLLECTOR CHANGES THE ATOM WORD k into n, and its view by f
module _ (z : Size) (b : Board) (vs : List View) (r : Kept z b vs) (k n : ℕ) (f : Sweeping → Sweeping) (fate' : Fate) where
  -- what a seat uses is valid still, its own slot reserved, and what it knows of its walk and of the cycle is so
  pub record Leaves (j : ℕ) (x : View) : Type 0 where
    pub held : (a : Held) → In a x.held → state_of (get_or (set b.atoms k n) a.slot 0) ≡ 3
    pub fixed : (a : Held) → In a x.fixed → state_of (get_or (set b.atoms k n) a.slot 0) ≡ 3
    pub counted : (cs : List Counted) → x.counts ≡ Some cs → (q : ℕ) (c : Counted) → get_elem? cs q ≡ some c → 0 < c.count → state_of (get_or (set b.atoms k n) q 0) ≡ 3
    pub counts : (q : ℕ) → count_of (get_or (set b.atoms k n) q 0) ≡ count_of (get_or b.atoms q 0)
    pub own : (o : Own) → x.own ≡ Some o → state_of (get_or (set b.atoms k n) o.slot 0) ≡ 1
    pub walk : (w : Walk) → x.walk ≡ Some w → WalkOk z b.links b.heads b.texts r.plan.chain fate' w
    pub marks : MarksOk z b.epoch b.acks (set b.atoms k n) r.plan.engine (f r.plan.sweep).cursor j x.cycle x.undealt x.held x.walk

  held_now : (a : Held) → HeldOk z b.atoms b.texts r.plan.chain a → state_of (get_or (set b.atoms k n) a.slot 0) ≡ 3 → HeldOk z (set b.atoms k n) b.texts r.plan.chain a
  held_now a h valid = record { inside = h.inside; valid = valid; linked = h.linked; text = h.text }

  seat_left : (j : ℕ) (x : View) → SeatOk z b r.plan j x → Leaves j x → (sweep : Option Sweeping) (made : List Kind) → ((q : Sweeping) → sweep ≡ Some q → (r.plan.collector ≡ j) × (f r.plan.sweep ≡ q))
      → ((q : Sweeping) (w : Walk) → sweep ≡ Some q → x.walk ≡ Some w → Trail b.epoch b.row b.links b.heads r.plan.chain q w)
      → ((q : Sweeping) → sweep ≡ Some q → r.plan.grow ≡ x.growing)
      → SeatOk z (with_atom b k n) (record r.plan { sweep = f r.plan.sweep; fate = fate' }) j (record x { sweep = sweep; made = made })
  seat_left j x s l sweep made sweeps trail grows = record {
    size = s.size;
    own = λ o e. let h = s.own o e in record { inside = h.inside; mine = h.mine; usable = h.usable; state = l.own o e; short = h.short; text = h.text; rest = h.rest; link = h.link; apart = h.apart; linked = h.linked };
    held = λ i a e. held_now a (s.held i a e) (l.held a (i, e));
    fixed = λ i a e. held_now a (s.fixed i a e) (l.fixed a (i, e));
    low = s.low;
    counts = λ cs e. let h = s.counts cs e in record {
      mine = h.mine;
      each_slot = h.each_slot;
      counts = λ q c at. l.counts q ∙ h.counts q c at;
      live = λ q c at some_. held_now (record { slot = q; text = c.text }) (h.live q c at some_) (l.counted cs e q c at some_);
    };
    walk = l.walk;
    marks = l.marks;
    sweeps = sweeps;
    trail = trail;
    risen = s.risen;
    unclosed = s.unclosed;
    grows = grows;
  }

  -- the collector's step
  collector_atom : (id : ℕ) (v : View) → SeatOk z b r.plan id v → (y : Sweeping) → v.sweep ≡ Some y → (made : List Kind)
      → Rows z b.row r.plan.grow b.links b.heads b.texts r.plan.chain r.plan.place fate' → Slots z (set b.atoms k n) r.plan.chain fate' → CycleOk z b.epoch b.acks (f r.plan.sweep) → SureOk z (set b.atoms k n) b.texts (f r.plan.sweep)
      → FateOk z b.epoch b.links b.heads r.plan.chain (f r.plan.sweep) fate' → ((j : ℕ) (x : View) → SeatOk z b r.plan j x → Leaves j x)
      → ((q : ℕ) → state_of (get_or (set b.atoms k n) q 0) ≢ 1 → Formed (text_of b.texts q))
      → ((q : Sweeping) (w : Walk) → option_map f v.sweep ≡ Some q → v.walk ≡ Some w → Trail b.epoch b.row b.links b.heads r.plan.chain q w)
      → Kept z (with_atom b k n) (set vs id (record v { sweep = option_map f v.sweep; made = made }))
  collector_atom id v s y at made rows slots_ cycle sure fate leaves blank trail = record {
    plan = record r.plan { sweep = f r.plan.sweep; fate = fate' };
    sized = record { small = r.sized.small; acks = r.sized.acks; atoms = length-set b.atoms k n ∙ r.sized.atoms; links = r.sized.links; heads = r.sized.heads; texts = r.sized.texts };
    grow = r.grow;
    rows = rows;
    slots = slots_;
    cycle = cycle;
    sure = sure;
    blank = blank;
    fate = fate;
    seats = seats_stay (SeatOk z (with_atom b k n) (record r.plan { sweep = f r.plan.sweep; fate = fate' })) vs id (record v { sweep = option_map f v.sweep; made = made })
        (λ _. seat_left id v s (leaves id v s) (option_map f v.sweep) made (λ q has_. let was = unmapped f v.sweep q has_ in ((s.sweeps y at).0, ap f (s.sweeps was.0 was.1).1 ∙ was.2)) trail (λ q has_. let was = unmapped f v.sweep q has_ in s.grows was.0 was.1))
        (λ j x other here alive. let t = r.seats j x here alive in seat_left j x t (leaves j x t) x.sweep x.made
        (λ q has_. absurd (other (sym (t.sweeps q has_).0 ∙ (s.sweeps y at).0))) (λ q w has_. absurd (other (sym (t.sweeps q has_).0 ∙ (s.sweeps y at).0))) (λ q has_. absurd (other (sym (t.sweeps q has_).0 ∙ (s.sweeps y at).0))));
  }

-- IN A SWEEP every engine has acknowledged
module _ (z : Size) (b : Board) (vs : List View) (r : Kept z b vs) (two : phase_of b.epoch ≡ 2) where
  begun : 0 < epoch_of b.epoch
  begun = r.cycle.begun (λ none. omega (arith, none, two))

  pub acked_all : (j : ℕ) (x : View) → SeatOk z b r.plan j x → x.cycle.engine ≢ 0 → Acked b.epoch x.cycle
  acked_all j x s ne = let t = s.marks.mine ne in ((λ none. omega (arith, none, two)), sym t.2 ∙ r.cycle.swept two (x.cycle.engine - 1) (omega (arith, t.0)))

  pub none_to_deal : (j : ℕ) (x : View) → SeatOk z b r.plan j x → x.undealt ≡ 0
  none_to_deal j x s = dite (ℕ_discrete x.undealt 0) (λ (e : x.undealt ≡ 0). e)
      (λ ne. absurd (let t = s.marks.to_deal x.undealt (omega arith) (omega arith) in let all = r.cycle.swept two (x.undealt - 1) (omega (arith, t.0)) in let some_ = begun in omega (arith, t.2, all)))

  -- no slot that the sweep has come to, and that has no mark, is held or guarded
  unsafe : (q : ℕ) → q ≡ r.plan.sweep.cursor → mark_of (get_or b.atoms q 0) ≡ 0 → Safe b.epoch b.atoms r.plan.sweep.cursor q → ⊥
  unsafe q here clear safe = ⊎_elim (λ (t : mark_of (get_or b.atoms q 0) ≡ 1). omega (arith, t, clear)) (λ (t : (phase_of b.epoch ≡ 2) × (q < r.plan.sweep.cursor)). omega (arith, t.1, here)) safe

  pub not_held : (j : ℕ) (x : View) → SeatOk z b r.plan j x → (q : ℕ) → q ≡ r.plan.sweep.cursor → mark_of (get_or b.atoms q 0) ≡ 0 → (a : Held) → In a x.held → a.slot ≢ q
  not_held j x s q here clear a i e = let some_ : x.cycle.engine ≢ 0 = (λ none. in_none a (subst (In a) (s.marks.nothing none (none_to_deal j x s)) i)) in
      unsafe q here clear (subst (Safe b.epoch b.atoms r.plan.sweep.cursor) e (s.marks.held (acked_all j x s some_) a i).1)

  pub not_guarded : (j : ℕ) (x : View) → SeatOk z b r.plan j x → (q : ℕ) → q ≡ r.plan.sweep.cursor → mark_of (get_or b.atoms q 0) ≡ 0 → (w : Walk) → x.walk ≡ Some w → w.guarded ≡ true → w.place ≡ q + 1
      → (x.cycle.engine ≢ 0) ⊎ (0 < x.undealt) → ⊥
  not_guarded j x s q here clear w e g at sits = let some_ : x.cycle.engine ≢ 0 = ⊎_elim (λ (t : x.cycle.engine ≢ 0). t) (λ (t : 0 < x.undealt). absurd (let none = none_to_deal j x s in omega arith)) sits in
      unsafe q here clear ((s.marks.guard w q e g at sits).1 (acked_all j x s some_))

-- A SLOT IS PASSED: its mark is cleared
module _ (z : Size) (b : Board) (vs : List View) (r : Kept z b vs) (id : ℕ) (v : View) (s : SeatOk z b r.plan id v) (two : phase_of b.epoch ≡ 2) (inside : r.plan.sweep.cursor < z.slots) where
  abbrev pub at_cursor : ℕ
  at_cursor = r.plan.sweep.cursor

  abbrev cleared : ℕ
  cleared = unmarked (get_or b.atoms r.plan.sweep.cursor 0)

  there : r.plan.sweep.cursor < length b.atoms
  there = omega (arith, r.sized.atoms, inside)

  state_as : (q : ℕ) → state_of (get_or (set b.atoms r.plan.sweep.cursor (unmarked (get_or b.atoms r.plan.sweep.cursor 0))) q 0) ≡ state_of (get_or b.atoms q 0)
  state_as q = word_after (λ m. state_of m ≡ state_of (get_or b.atoms q 0)) b.atoms r.plan.sweep.cursor cleared q there (λ e. state-unmarked (get_or b.atoms r.plan.sweep.cursor 0) ∙ ap (λ (i : ℕ). state_of (get_or b.atoms i 0)) (sym e)) (λ _. refl)

  count_as : (q : ℕ) → count_of (get_or (set b.atoms r.plan.sweep.cursor (unmarked (get_or b.atoms r.plan.sweep.cursor 0))) q 0) ≡ count_of (get_or b.atoms q 0)
  count_as q = word_after (λ m. count_of m ≡ count_of (get_or b.atoms q 0)) b.atoms r.plan.sweep.cursor cleared q there (λ e. count-unmarked (get_or b.atoms r.plan.sweep.cursor 0) ∙ ap (λ (i : ℕ). count_of (get_or b.atoms i 0)) (sym e)) (λ _. refl)

  safe_on : (q : ℕ) → Safe b.epoch b.atoms r.plan.sweep.cursor q → Safe b.epoch (set b.atoms r.plan.sweep.cursor (unmarked (get_or b.atoms r.plan.sweep.cursor 0))) (r.plan.sweep.cursor + 1) q
  safe_on q safe = ⊎_elim
      (λ (t : mark_of (get_or b.atoms q 0) ≡ 1). dite (ℕ_discrete q r.plan.sweep.cursor) (λ (e : q ≡ r.plan.sweep.cursor). inr (two, omega arith))
      (λ (ne : q ≢ r.plan.sweep.cursor). inl (word_after (λ m. mark_of m ≡ 1) b.atoms r.plan.sweep.cursor cleared q there (λ e. absurd (ne e)) (λ _. t))))
      (λ (t : (phase_of b.epoch ≡ 2) × (q < r.plan.sweep.cursor)). inr (two, (let low = t.1 in omega arith))) safe

  leaves_passed : (j : ℕ) (x : View) → SeatOk z b r.plan j x → Leaves z b vs r r.plan.sweep.cursor (unmarked (get_or b.atoms r.plan.sweep.cursor 0)) passing r.plan.fate j x
  leaves_passed j x k = let m = k.marks in record {
    held = λ a i. state_as a.slot ∙ (k.held i.0 a i.1).valid;
    fixed = λ a i. state_as a.slot ∙ (k.fixed i.0 a i.1).valid;
    counted = λ cs e q c at some_. state_as q ∙ ((k.counts cs e).live q c at some_).valid;
    counts = count_as;
    own = λ o e. state_as o.slot ∙ (k.own o e).state;
    walk = k.walk;
    marks = record {
      mine = m.mine;
      to_deal = m.to_deal;
      one = m.one;
      engineless = m.engineless;
      past = m.past;
      before = m.before;
      reading = m.reading;
      scanned = λ marking. absurd (omega (arith, marking, two));
      held = λ acked a i. let t = m.held acked a i in (state_as a.slot ∙ t.0, safe_on a.slot t.1);
      guard = λ w q e g at sits. let t = m.guard w q e g at sits in (state_as q ∙ t.0, λ acked. safe_on q (t.1 acked));
      nothing = m.nothing;
    };
  }

  pass_at : (y : Sweeping) → v.sweep ≡ Some y → r.plan.fate.slot ≡ 0 → (x : ℕ) → Kept z (with_atom b r.plan.sweep.cursor (unmarked (get_or b.atoms r.plan.sweep.cursor 0))) (set vs id (view_after v (PassOver x)))
  pass_at y at none x = collector_atom z b vs r r.plan.sweep.cursor (unmarked (get_or b.atoms r.plan.sweep.cursor 0)) passing r.plan.fate id v s y at (v.made ++ PassOver x ∷ []) r.rows
      record {
        live = λ q l. ⊎_elim (λ (t : (state_of (get_or b.atoms q 0) ≡ 1) ⊎ (state_of (get_or b.atoms q 0) ≡ 3)). inl (⊎_elim (λ (e : state_of (get_or b.atoms q 0) ≡ 1). inl (state_as q ∙ e)) (λ (e : state_of (get_or b.atoms q 0) ≡ 3). inr (state_as q ∙ e)) t))
            (λ (t : r.plan.fate.slot ≡ q + 1). inr t) (r.slots.live q l);
        valid = λ q e. r.slots.valid q (sym (state_as q) ∙ e);
        only = λ q e. r.slots.only q (sym (state_as q) ∙ e);
        dies = λ q e. state_as q ∙ r.slots.dies q e;
        zero = λ q ne. count_as q ∙ r.slots.zero q (λ e. ne (state_as q ∙ e));
        shut = λ q i l u. state_as q ∙ r.slots.shut q i l u;
      }
      record { word = r.cycle.word; phase = r.cycle.phase; begun = r.cycle.begun; few = r.cycle.few; checked = r.cycle.checked; swept = r.cycle.swept; cursor = omega arith }
      record { inside = λ on. cc; state = λ on. cc; short = omega arith; text = λ on. cc }
      record { slot = r.fate.slot; out = r.fate.out; head = r.fate.head; idle = r.fate.idle; dies = λ ne. absurd (ne none) }
      leaves_passed
      (λ q ne. r.blank q (λ e. ne (state_as q ∙ e)))
      (own_trail z b vs r id v s b.epoch passing v.walk (λ q w _ t. record { news = t.news; path = t.path; whole = t.whole; reached = t.reached; fresh = t.fresh; ahead = λ two_ on. cc; still = t.still }))

pub keep_pass_over : (z : Size) (b : Board) (vs : List View) (r : Kept z b vs) (id : ℕ) (v : View) → SeatOk z b r.plan id v → (x : ℕ) (b' : Board) → Does z b v (PassOver x) b' → Kept z b' (set vs id (view_after v (PassOver x)))
keep_pass_over z b vs r id v s x b' d = let y : Sweeping = d.0 in let at = d.1.0 in let here : r.plan.sweep.cursor ≡ y.cursor = ap (λ (t : Sweeping). t.cursor) (known z b vs r id v s y at) in
    let word : get_or b.atoms r.plan.sweep.cursor 0 ≡ x = ap (λ (k : ℕ). get_or b.atoms k 0) here ∙ d.4 in let low = d.3 in
    subst (λ t. Kept z t (set vs id (view_after v (PassOver x)))) (sym (d.5 ∙ (λ i. with_atom b (sym here i) (unmarked (sym word i)))))
    (pass_at z b vs r id v s (swept_by z b vs r id v s y d.1) (omega arith) y at (idle_by z b vs r id v s y at d.2) x)

-- A SLOT IS CONDEMNED: it is valid, marked by nobody, and counted by nobody
module _ (z : Size) (b : Board) (vs : List View) (r : Kept z b vs) (id : ℕ) (v : View) (s : SeatOk z b r.plan id v) (two : phase_of b.epoch ≡ 2) (y : Sweeping) (w : Walk) (at : v.sweep ≡ Some y) (walk : v.walk ≡ Some w)
    (idle : r.plan.fate.slot ≡ 0) (high : 256 ≤ r.plan.sweep.cursor) (place : w.place ≡ r.plan.sweep.cursor + 1) (early : version_of w.word < last) (clean : get_or b.atoms r.plan.sweep.cursor 0 ≡ 3) where
  abbrev dies_next : Fate
  dies_next = record { slot = r.plan.sweep.cursor + 1; out = false; head = w.head; left = 0 }

  on : Linked z.heads r.plan.chain r.plan.sweep.cursor
  on = r.slots.valid r.plan.sweep.cursor (ap state_of clean)

  low : r.plan.sweep.cursor < z.slots
  low = let i = chain_inside b.links (first_of (get_or b.heads on.0 0)) r.plan.sweep.cursor (r.plan.chain on.0) (chains_at_work z b vs r two on.0 on.1) on.2 in omega (arith, i, r.sized.links)

  within : r.plan.sweep.cursor < length b.atoms
  within = omega (arith, low, r.sized.atoms)

  clear : mark_of (get_or b.atoms r.plan.sweep.cursor 0) ≡ 0
  clear = ap mark_of clean

  living : (q : ℕ) → q + 1 ≢ r.plan.fate.slot
  living q e = omega arith

  -- the collector's walk stands at it
  in_its_chain : In r.plan.sweep.cursor (r.plan.chain w.head)
  in_its_chain = let t = s.trail y w at walk in let c = chain_at b.links r.plan.sweep.cursor t.path (subst (λ (n : ℕ). Chain b.links n t.path) place t.reached) in
      subst (In r.plan.sweep.cursor) (sym t.whole) (in_back r.plan.sweep.cursor t.news (slots w.seen ++ t.path) (in_back r.plan.sweep.cursor (slots w.seen) t.path (subst (In r.plan.sweep.cursor) (sym c.1) (0, refl))))

  walk_condemned : (t : Walk) → WalkOk z b.links b.heads b.texts r.plan.chain r.plan.fate t → WalkOk z b.links b.heads b.texts r.plan.chain (record { slot = r.plan.sweep.cursor + 1; out = false; head = w.head; left = 0 }) t
  walk_condemned t ok = record {
    inside = ok.inside;
    short = ok.short;
    past = ok.past;
    word = ok.word;
    claim = λ same. let u = ok.claim same in record {
      path = u.path;
      reached = u.reached;
      each = λ q i _. u.each q i (living q);
      inside = λ q i. ⊎_elim (λ (j : In q (r.plan.chain t.head)). inl j) (λ (l : Left r.plan.fate t q). absurd (living q (sym l.0))) (u.inside q i);
      few = u.few;
      part = u.part;
      dead = λ q e g. absurd (living q (sym (u.dead q e g)));
    };
    lost = ok.lost;
  }

  leaves_condemned : (j : ℕ) (x : View) → SeatOk z b r.plan j x → Leaves z b vs r r.plan.sweep.cursor 2 (condemning (head_of v.walk)) (record { slot = r.plan.sweep.cursor + 1; out = false; head = w.head; left = 0 }) j x
  leaves_condemned j x k = let m = k.marks in let c : ℕ = r.plan.sweep.cursor in let mine : (a : Held) → In a x.held → a.slot ≢ c = not_held z b vs r two j x k c refl clear in
      let held_ : (a : Held) → In a x.held → state_of (get_or (set b.atoms c 2) a.slot 0) ≡ 3 = (λ a i. word_after (λ n. state_of n ≡ 3) b.atoms c 2 a.slot within (λ e. absurd (mine a i e)) (λ _. (k.held i.0 a i.1).valid)) in
      let safe_ : (q : ℕ) → q ≢ c → Safe b.epoch b.atoms c q → Safe b.epoch (set b.atoms c 2) c q = (λ q ne safe. ⊎_elim (λ (t : mark_of (get_or b.atoms q 0) ≡ 1). inl (word_after (λ n. mark_of n ≡ 1) b.atoms c 2 q within (λ e. absurd (ne e)) (λ _. t))) (λ (t : (phase_of b.epoch ≡ 2) × (q < c)). inr t) safe) in record {
        held = held_;
        fixed = λ a i. word_after (λ n. state_of n ≡ 3) b.atoms c 2 a.slot within (λ e. absurd (let small = k.low i.0 a i.1 in omega arith)) (λ _. (k.fixed i.0 a i.1).valid);
        counted = λ cs e q d at_ some_. word_after (λ n. state_of n ≡ 3) b.atoms c 2 q within
            (λ same. absurd (let count : count_of 3 ≡ d.count = sym (ap count_of clean) ∙ (ap (λ (i : ℕ). count_of (get_or b.atoms i 0)) (sym same) ∙ (k.counts cs e).counts q d at_) in omega (arith, count)))
            (λ _. ((k.counts cs e).live q d at_ some_).valid);
        counts = λ q. word_after (λ n. count_of n ≡ count_of (get_or b.atoms q 0)) b.atoms c 2 q within (λ e. sym (ap (λ (i : ℕ). count_of (get_or b.atoms i 0)) e ∙ ap count_of clean)) (λ _. refl);
        own = λ o e. let state = (k.own o e).state in word_after (λ n. state_of n ≡ 1) b.atoms c 2 o.slot within
            (λ same. absurd (let here : state_of (get_or b.atoms o.slot 0) ≡ 3 = ap (λ (i : ℕ). state_of (get_or b.atoms i 0)) same ∙ ap state_of clean in omega arith)) (λ _. state);
        walk = λ t e. walk_condemned t (k.walk t e);
        marks = record {
          mine = m.mine;
          to_deal = m.to_deal;
          one = m.one;
          engineless = m.engineless;
          past = m.past;
          before = m.before;
          reading = m.reading;
          scanned = λ marking. absurd (omega (arith, marking, two));
          held = λ acked a i. (held_ a i, safe_ a.slot (mine a i) (m.held acked a i).1);
          guard = λ t q e g at_ sits. let o = m.guard t q e g at_ sits in let ne : q ≢ c = (λ same. not_guarded z b vs r two j x k c refl clear t e g (at_ ∙ ap (λ (i : ℕ). i + 1) same) sits) in
              (word_after (λ n. state_of n ≡ 3) b.atoms c 2 q within (λ same. absurd (ne same)) (λ _. o.0), λ acked. safe_ q ne (o.1 acked));
          nothing = m.nothing;
        };
      }

  condemn_at : Kept z (with_atom b r.plan.sweep.cursor 2) (set vs id (view_after v Condemn))
  condemn_at = let c : ℕ = r.plan.sweep.cursor in collector_atom z b vs r r.plan.sweep.cursor 2 (condemning (head_of v.walk)) (record { slot = r.plan.sweep.cursor + 1; out = false; head = w.head; left = 0 }) id v s y at (v.made ++ Condemn ∷ [])
      record { chains = r.rows.chains; leaves = r.rows.leaves; once = r.rows.once; stands = r.rows.stands; formed = r.rows.formed; unlike = λ h g k q inside too i j _ _ e. r.rows.unlike h g k q inside too i j (living k) (living q) e }
      record {
        live = λ q l. word_after (λ n. ((state_of n ≡ 1) ⊎ (state_of n ≡ 3)) ⊎ (c + 1 ≡ q + 1)) b.atoms c 2 q within (λ e. inr (ap (λ (i : ℕ). i + 1) (sym e)))
            (λ _. ⊎_elim (λ (t : (state_of (get_or b.atoms q 0) ≡ 1) ⊎ (state_of (get_or b.atoms q 0) ≡ 3)). inl t) (λ (t : r.plan.fate.slot ≡ q + 1). absurd (living q (sym t))) (r.slots.live q l));
        valid = λ q. word_after (λ n. state_of n ≡ 3 → Linked z.heads r.plan.chain q) b.atoms c 2 q within (λ _ no. absurd (omega arith)) (λ _. r.slots.valid q);
        only = λ q. word_after (λ n. state_of n ≡ 2 → c + 1 ≡ q + 1) b.atoms c 2 q within (λ e _. ap (λ (i : ℕ). i + 1) (sym e)) (λ _ dying. absurd (living q (sym (r.slots.only q dying))));
        dies = λ q e. word_after (λ n. state_of n ≡ 2) b.atoms c 2 q within (λ _. refl) (λ ne. absurd (ne (omega arith)));
        zero = λ q. word_after (λ n. state_of n ≢ 3 → count_of n ≡ 0) b.atoms c 2 q within (λ _ _. refl) (λ _. r.slots.zero q);
        shut = λ q i l u. word_after (λ n. state_of n ≡ 1) b.atoms c 2 q within (λ e. absurd (omega arith)) (λ _. r.slots.shut q i l u);
      }
      record { word = r.cycle.word; phase = r.cycle.phase; begun = r.cycle.begun; few = r.cycle.few; checked = r.cycle.checked; swept = r.cycle.swept; cursor = r.cycle.cursor }
      record { inside = r.sure.inside; state = λ _. inr (ap state_of (get_or-set_same b.atoms c 2 0 within)); short = r.sure.short; text = r.sure.text }
      record {
        slot = refl;
        out = refl;
        head = ap head_of walk;
        idle = λ e. absurd (omega arith);
        dies = λ _. record {
          sweeping = two;
          at = refl;
          high = high;
          inside = (s.walk w walk).inside;
          there = λ _. (in_its_chain, (s.trail y w at walk).fresh two early);
          behind = λ _ q e. cc;
          gone = λ e. cc;
          noted = λ e. cc;
          past = λ e. cc;
        };
      }
      leaves_condemned
      (λ q. word_after (λ m. state_of m ≢ 1 → Formed (text_of b.texts q)) b.atoms r.plan.sweep.cursor 2 q within
      (λ e _. r.blank q (λ one. let three : state_of (get_or b.atoms q 0) ≡ 3 = ap (λ (i : ℕ). state_of (get_or b.atoms i 0)) e ∙ ap state_of clean in omega arith)) (λ _. r.blank q))
      (own_trail z b vs r id v s b.epoch (condemning (head_of v.walk)) v.walk (λ q t e o. record {
        news = o.news;
        path = o.path;
        whole = o.whole;
        reached = o.reached;
        fresh = o.fresh;
        ahead = λ two_ sure_ whole _ bucket_. o.ahead two_ sure_ whole
            (sym (ap (λ (p : Sweeping). p.unlinked) (known z b vs r id v s q e)) ∙ (r.fate.out ∙ r.fate.idle idle)) bucket_;
        still = o.still;
      }))

pub keep_condemn : (z : Size) (b : Board) (vs : List View) (r : Kept z b vs) (id : ℕ) (v : View) → SeatOk z b r.plan id v → (b' : Board) → Does z b v Condemn b' → Kept z b' (set vs id (view_after v Condemn))
keep_condemn z b vs r id v s b' d = let y : Sweeping = d.0 in let at = d.2.0 in let here : r.plan.sweep.cursor ≡ y.cursor = ap (λ (t : Sweeping). t.cursor) (known z b vs r id v s y at) in let high = d.5 in
    subst (λ t. Kept z t (set vs id (view_after v Condemn))) (sym (d.9 ∙ (λ i. with_atom b (sym here i) 2)))
    (condemn_at z b vs r id v s (swept_by z b vs r id v s y d.2) y d.1 at d.3 (idle_by z b vs r id v s y at d.4) (omega arith) (d.6 ∙ ap (λ (k : ℕ). k + 1) (sym here)) d.7 (ap (λ (k : ℕ). get_or b.atoms k 0) here ∙ d.8))

-- THE DYING SLOT BECOMES FREE: it stands in no chain, and its head's version has moved since
module _ (z : Size) (b : Board) (vs : List View) (r : Kept z b vs) (id : ℕ) (v : View) (s : SeatOk z b r.plan id v) (y : Sweeping) (at : v.sweep ≡ Some y)
    (d : DyingOk z b.epoch b.links b.heads r.plan.chain r.plan.sweep r.plan.fate) (out : r.plan.fate.out ≡ true) (moved : r.plan.sweep.past ≡ true) where
  dead_state : state_of (get_or b.atoms r.plan.sweep.cursor 0) ≡ 2
  dead_state = r.slots.dies r.plan.sweep.cursor d.at

  room : r.plan.sweep.cursor < length b.atoms
  room = dite (dec_le (length b.atoms) r.plan.sweep.cursor) (λ (far : length b.atoms ≤ r.plan.sweep.cursor). absurd (let none : state_of (get_or b.atoms r.plan.sweep.cursor 0) ≡ state_of 0 = ap state_of (or_beyond b.atoms r.plan.sweep.cursor 0 far) in let dying = dead_state in omega (arith, none, dying)))
      (λ (near : ¬ (length b.atoms ≤ r.plan.sweep.cursor)). omega arith)

  apart : (q : ℕ) → Linked z.heads r.plan.chain q → q ≢ r.plan.sweep.cursor
  apart q l e = (d.gone out).0 (subst (Linked z.heads r.plan.chain) e l)

  alive : (q : ℕ) → Linked z.heads r.plan.chain q → q + 1 ≢ r.plan.fate.slot
  alive q l e = apart q l (let here = d.at in omega arith)

  -- no walk comes to it at its head's version
  not_left : (t : Walk) (q : ℕ) → version_of (get_or b.heads t.head 0) ≡ version_of t.word → Left r.plan.fate t q → ⊥
  not_left t q same l = let later = d.past out moved in let head : version_of (get_or b.heads r.plan.fate.head 0) ≡ version_of (get_or b.heads t.head 0) = ap (λ (h : ℕ). version_of (get_or b.heads h 0)) l.2 in let early = l.3 in omega (arith, later, head, early, same)

  walk_freed : (t : Walk) → WalkOk z b.links b.heads b.texts r.plan.chain r.plan.fate t → WalkOk z b.links b.heads b.texts r.plan.chain (record { slot = 0; out = false; head = r.plan.fate.head; left = 0 }) t
  walk_freed t ok = record {
    inside = ok.inside;
    short = ok.short;
    past = ok.past;
    word = ok.word;
    claim = λ same. let u = ok.claim same in let chained : (q : ℕ) → In q u.path → In q (r.plan.chain t.head) = (λ q i. ⊎_elim (λ (j : In q (r.plan.chain t.head)). j) (λ (l : Left r.plan.fate t q). absurd (not_left t q same l)) (u.inside q i)) in record {
      path = u.path;
      reached = u.reached;
      each = λ q i _. u.each q i (alive q (t.head, ok.inside, i));
      inside = λ q i. inl (chained q i);
      few = u.few;
      part = u.part;
      dead = λ q e g. absurd (let c = chain_at b.links q u.path (subst (λ (n : ℕ). Chain b.links n u.path) e u.reached) in alive q (t.head, ok.inside, chained q (subst (In q) (sym c.1) (0, refl))) (sym (u.dead q e g)));
    };
    lost = ok.lost;
  }

  leaves_freed : (j : ℕ) (x : View) → SeatOk z b r.plan j x → Leaves z b vs r r.plan.sweep.cursor 0 freeing (record { slot = 0; out = false; head = r.plan.fate.head; left = 0 }) j x
  leaves_freed j x k = let m = k.marks in let c : ℕ = r.plan.sweep.cursor in
      let other : (q n : ℕ) → n ≢ 2 → state_of (get_or b.atoms q 0) ≡ n → q ≢ c = (λ q n ne is same. ne (sym is ∙ (ap (λ (i : ℕ). state_of (get_or b.atoms i 0)) same ∙ dead_state))) in
      let valid_ : (q : ℕ) → state_of (get_or b.atoms q 0) ≡ 3 → state_of (get_or (set b.atoms c 0) q 0) ≡ 3 = (λ q is. word_after (λ n. state_of n ≡ 3) b.atoms c 0 q room (λ e. absurd (other q 3 (λ no. omega arith) is e)) (λ _. is)) in
      let safe_ : (q : ℕ) → state_of (get_or b.atoms q 0) ≡ 3 → Safe b.epoch b.atoms c q → Safe b.epoch (set b.atoms c 0) c q = (λ q is safe. ⊎_elim (λ (t : mark_of (get_or b.atoms q 0) ≡ 1). inl (word_after (λ n. mark_of n ≡ 1) b.atoms c 0 q room (λ e. absurd (other q 3 (λ no. omega arith) is e)) (λ _. t))) (λ (t : (phase_of b.epoch ≡ 2) × (q < c)). inr t) safe) in record {
        held = λ a i. valid_ a.slot (k.held i.0 a i.1).valid;
        fixed = λ a i. valid_ a.slot (k.fixed i.0 a i.1).valid;
        counted = λ cs e q p at_ some_. valid_ q ((k.counts cs e).live q p at_ some_).valid;
        counts = λ q. word_after (λ n. count_of n ≡ count_of (get_or b.atoms q 0)) b.atoms c 0 q room (λ e. sym (r.slots.zero q (λ three. other q 3 (λ no. omega arith) three e))) (λ _. refl);
        own = λ o e. let state = (k.own o e).state in word_after (λ n. state_of n ≡ 1) b.atoms c 0 o.slot room (λ same. absurd (other o.slot 1 (λ no. omega arith) state same)) (λ _. state);
        walk = λ t e. walk_freed t (k.walk t e);
        marks = record {
          mine = m.mine;
          to_deal = m.to_deal;
          one = m.one;
          engineless = m.engineless;
          past = m.past;
          before = m.before;
          reading = m.reading;
          scanned = λ marking. absurd (let two = d.sweeping in omega (arith, marking, two));
          held = λ acked a i. let t = m.held acked a i in (valid_ a.slot t.0, safe_ a.slot t.0 t.1);
          guard = λ t q e g at_ sits. let o = m.guard t q e g at_ sits in (valid_ q o.0, λ acked. safe_ q o.0 (o.1 acked));
          nothing = m.nothing;
        };
      }

  free_at : Kept z (with_atom b r.plan.sweep.cursor 0) (set vs id (view_after v Free))
  free_at = let c : ℕ = r.plan.sweep.cursor in let slot = d.at in let high = d.high in collector_atom z b vs r r.plan.sweep.cursor 0 freeing (record { slot = 0; out = false; head = r.plan.fate.head; left = 0 }) id v s y at (v.made ++ Free ∷ [])
      record { chains = r.rows.chains; leaves = r.rows.leaves; once = r.rows.once; stands = r.rows.stands; formed = r.rows.formed; unlike = λ h g k q inside too i j _ _ e. r.rows.unlike h g k q inside too i j (alive k (h, inside, i)) (alive q (g, too, j)) e }
      record {
        live = λ q l. word_after (λ n. ((state_of n ≡ 1) ⊎ (state_of n ≡ 3)) ⊎ (0 ≡ q + 1)) b.atoms c 0 q room (λ e. absurd (apart q l e))
            (λ _. ⊎_elim (λ (t : (state_of (get_or b.atoms q 0) ≡ 1) ⊎ (state_of (get_or b.atoms q 0) ≡ 3)). inl t) (λ (t : r.plan.fate.slot ≡ q + 1). absurd (alive q l (sym t))) (r.slots.live q l));
        valid = λ q. word_after (λ n. state_of n ≡ 3 → Linked z.heads r.plan.chain q) b.atoms c 0 q room (λ _ no. absurd (omega arith)) (λ _. r.slots.valid q);
        only = λ q. word_after (λ n. state_of n ≡ 2 → 0 ≡ q + 1) b.atoms c 0 q room (λ _ no. absurd (omega arith)) (λ ne dying. absurd (let is = r.slots.only q dying in ne (omega arith)));
        dies = λ q e. absurd (omega arith);
        zero = λ q. word_after (λ n. state_of n ≢ 3 → count_of n ≡ 0) b.atoms c 0 q room (λ _ _. refl) (λ _. r.slots.zero q);
        shut = λ q i l u. word_after (λ n. state_of n ≡ 1) b.atoms c 0 q room (λ e. absurd (omega arith)) (λ _. r.slots.shut q i l u);
      }
      record { word = r.cycle.word; phase = r.cycle.phase; begun = r.cycle.begun; few = r.cycle.few; checked = r.cycle.checked; swept = r.cycle.swept; cursor = r.cycle.cursor }
      record { inside = λ on_. cc; state = λ on_. cc; short = omega arith; text = λ on_. cc }
      record { slot = refl; out = refl; head = r.fate.head; idle = λ _. refl; dies = λ ne. absurd (ne refl) }
      leaves_freed
      (λ q. word_after (λ m. state_of m ≢ 1 → Formed (text_of b.texts q)) b.atoms r.plan.sweep.cursor 0 q room
      (λ e _. r.blank q (λ one. let two_ : state_of (get_or b.atoms q 0) ≡ 2 = ap (λ (i : ℕ). state_of (get_or b.atoms i 0)) e ∙ r.slots.dies r.plan.sweep.cursor d.at in omega arith)) (λ _. r.blank q))
      (own_trail z b vs r id v s b.epoch freeing v.walk (λ q t _ o. record { news = o.news; path = o.path; whole = o.whole; reached = o.reached; fresh = o.fresh; ahead = λ two_ on_. cc; still = o.still }))

pub keep_free : (z : Size) (b : Board) (vs : List View) (r : Kept z b vs) (id : ℕ) (v : View) → SeatOk z b r.plan id v → (b' : Board) → Does z b v Free b' → Kept z b' (set vs id (view_after v Free))
keep_free z b vs r id v s b' d = let y : Sweeping = d.0 in let at = d.1.0.0 in let is = known z b vs r id v s y at in let here : r.plan.sweep.cursor ≡ y.cursor = ap (λ (t : Sweeping). t.cursor) is in
    let slot : r.plan.fate.slot ≡ y.cursor + 1 = sym r.fate.slot ∙ (ap (λ (t : Sweeping). t.dying) is ∙ d.1.1) in
    subst (λ t. Kept z t (set vs id (view_after v Free))) (sym (d.3 ∙ (λ i. with_atom b (sym here i) 0)))
    (free_at z b vs r id v s y at (r.fate.dies (λ none. omega arith)) (sym r.fate.out ∙ (ap (λ (t : Sweeping). t.unlinked) is ∙ d.1.2)) (ap (λ (t : Sweeping). t.past) is ∙ d.2))
