-- Each step of the marking half of the cycle keeps the rule.
use Rattle.std.proofs.Common.{◌≡◌, ◌≢◌, ◌⊎◌, ℕ, ◌+◌, ◌-◌, ◌<◌, ◌≤◌, List, [], ◌∷◌, ◌++◌, length, get_or, set, take, refl, sym, ap, ◌∙◌, subst, inl, inr, ⊎_elim, arith, Option, Some, None, option_map, length-set, get_or-set_same}
use mathlib.Core.Option.{some}
use mathlib.Core.Logic.{dite}
use native.Mathlib.Decide.{ℕ_discrete}
use lib.ListN.{get_elem?}
use Rattle.atom_words.specs.Layout.{state_of, mark_of, epoch_word, phase_of, epoch_of}
use Rattle.atom_words.specs.Board.{Board, text_of, with_epoch, with_ack}
use Rattle.atom_words.specs.Chains.{In}
use Rattle.atom_words.specs.Kinds.{marked, beginning, checking, turning, view_after, Does}
use Rattle.atom_words.specs.Kept.{Plan, Safe, Acked, MarksOk, SeatOk, CycleOk, SureOk, FateOk, Trail, Kept}
use Rattle.atom_words.specs.declared.size.Size.{Size}
use Rattle.atom_words.specs.declared.view.Held.{Held}
use Rattle.atom_words.specs.declared.view.Walk.{Walk}
use Rattle.atom_words.specs.declared.view.Sweeping.{Sweeping}
use Rattle.atom_words.specs.declared.view.Growing.{Growing}
use Rattle.atom_words.specs.declared.view.View.{View}
use Rattle.atom_words.specs.declared.kind.Kind.TheVariants.{Begin, Mark, Scan, Ack, Check, ToSweep}
use Rattle.atom_words.proofs.Layouts.{phase-epoch_word, epoch-epoch_word, state-marked, mark-marked, count-marked}
use Rattle.atom_words.proofs.Slices.{in_none, at_snoc, word_after}
use Rattle.atom_words.proofs.Puts.{unmapped}
use Rattle.atom_words.proofs.Rowing.{grow_epoch}
use Rattle.atom_words.proofs.Frames.{seats_stay, keep_view}
use Rattle.atom_words.proofs.AtomSteps.{has, mark_soft, own_marked, held_as, counts_as, marks_as, knows}

-- THE COLLECTOR
module _ (z : Size) (b : Board) (vs : List View) (r : Kept z b vs) (id : ℕ) (v : View) (s : SeatOk z b r.plan id v) where
  -- the collector's view is that of the plan
  known : (y : Sweeping) → v.sweep ≡ Some y → (r.plan.collector ≡ id) × (r.plan.sweep ≡ y)
  known y e = s.sweeps y e

  -- A step of the collector that makes its view f of what it was, and perhaps changes the epoch word
  module _ (epoch' : ℕ) (f : Sweeping → Sweeping) (w : View) (y : Sweeping) (e : v.sweep ≡ Some y) where
    abbrev plan' : Plan
    plan' = record r.plan { sweep = f r.plan.sweep }

    abbrev board' : Board
    board' = with_epoch b epoch'

    -- what another seat knows, where the cycle's part of it stays
    other_turned : (j : ℕ) (x : View) → j ≢ id → MarksOk z epoch' b.acks b.atoms r.plan.engine (f r.plan.sweep).cursor j x.cycle x.undealt x.held x.walk → SeatOk z b r.plan j x
        → SeatOk z (with_epoch b epoch') (record r.plan { sweep = f r.plan.sweep }) j x
    other_turned j x other marks k = record {
      size = k.size;
      own = k.own;
      held = k.held;
      fixed = k.fixed;
      low = k.low;
      counts = k.counts;
      walk = k.walk;
      marks = marks;
      sweeps = λ q has_. absurd (other (sym (k.sweeps q has_).0 ∙ (s.sweeps y e).0));
      trail = λ q t has_. absurd (other (sym (k.sweeps q has_).0 ∙ (s.sweeps y e).0));
      risen = k.risen;
      unclosed = k.unclosed;
      grows = k.grows;
    }

    pub collector_step : SeatOk z (with_epoch b epoch') (record r.plan { sweep = f r.plan.sweep }) id w → CycleOk z epoch' b.acks (f r.plan.sweep) → SureOk z b.atoms b.texts (f r.plan.sweep) → FateOk z epoch' b.links b.heads r.plan.chain (f r.plan.sweep) r.plan.fate
        → ((j : ℕ) (x : View) → SeatOk z b r.plan j x → MarksOk z epoch' b.acks b.atoms r.plan.engine (f r.plan.sweep).cursor j x.cycle x.undealt x.held x.walk) → (0 < r.plan.grow.shut → phase_of epoch' ≡ 0) → Kept z (with_epoch b epoch') (set vs id w)
    collector_step mine cycle sure fate marks idle = record {
      plan = record r.plan { sweep = f r.plan.sweep };
      sized = record { small = r.sized.small; acks = r.sized.acks; atoms = r.sized.atoms; links = r.sized.links; heads = r.sized.heads; texts = r.sized.texts };
      grow = grow_epoch z b.epoch b.row b.heads b.texts r.plan.chain r.plan.grow r.grow epoch' idle;
      rows = r.rows;
      slots = r.slots;
      cycle = cycle;
      sure = sure;
      blank = r.blank;
      fate = fate;
      seats = seats_stay (SeatOk z (with_epoch b epoch') (record r.plan { sweep = f r.plan.sweep })) vs id w (λ _. mine) (λ j x other at here. let k = r.seats j x at here in other_turned j x other (marks j x k) k);
    }

  -- the collector's walk, where the view changes by f
  pub own_trail : (epoch' : ℕ) (f : Sweeping → Sweeping) (walk : Option Walk) → ((y : Sweeping) (w : Walk) → v.sweep ≡ Some y → Trail b.epoch b.row b.links b.heads r.plan.chain y w → Trail epoch' b.row b.links b.heads r.plan.chain (f y) w)
      → (q : Sweeping) (w : Walk) → option_map f v.sweep ≡ Some q → v.walk ≡ Some w → Trail epoch' b.row b.links b.heads r.plan.chain q w
  own_trail epoch' f walk on q w has_ at = let was = unmapped f v.sweep q has_ in subst (λ y. Trail epoch' b.row b.links b.heads r.plan.chain y w) was.2 (on was.0 w was.1 (s.trail was.0 w was.1 at))

  -- the slot at the cursor, where the view changes in nothing that concerns it
  pub sure_same : (f : Sweeping → Sweeping) → (f r.plan.sweep).sure ≡ r.plan.sweep.sure → (f r.plan.sweep).text ≡ r.plan.sweep.text → (f r.plan.sweep).cursor ≡ r.plan.sweep.cursor → SureOk z b.atoms b.texts (f r.plan.sweep)
  sure_same f sure text cursor = let y : Sweeping = r.plan.sweep in record {
    inside = λ on. subst (λ (k : ℕ). k < z.slots) (sym cursor) (r.sure.inside (sym sure ∙ on));
    state = λ on. subst (λ (k : ℕ). (state_of (get_or b.atoms k 0) ≡ 3) ⊎ (state_of (get_or b.atoms k 0) ≡ 2)) (sym cursor) (r.sure.state (sym sure ∙ on));
    short = subst (λ (l : List ℕ). length l ≤ 32) (sym text) r.sure.short;
    text = λ on. subst (λ (p : List ℕ × ℕ). take (length p.0) (text_of b.texts p.1) ≡ p.0) (λ i. (sym text i, sym cursor i)) (r.sure.text (sym sure ∙ on));
  }

  -- no slot is dying where the cycle does not sweep
  pub fate_none : (epoch' : ℕ) (f : Sweeping → Sweeping) → (f r.plan.sweep).dying ≡ r.plan.sweep.dying → (f r.plan.sweep).unlinked ≡ r.plan.sweep.unlinked → (f r.plan.sweep).head ≡ r.plan.sweep.head → (phase_of b.epoch ≡ 2 → ⊥)
      → FateOk z epoch' b.links b.heads r.plan.chain (f r.plan.sweep) r.plan.fate
  fate_none epoch' f dying unlinked head not = record { slot = dying ∙ r.fate.slot; out = unlinked ∙ r.fate.out; head = head ∙ r.fate.head; idle = r.fate.idle; dies = λ ne. absurd (not (r.fate.dies ne).sweeping) }

  -- BEGIN: no seat has acknowledged the next epoch
  begun_marks : (j : ℕ) (x : View) → phase_of b.epoch ≡ 0 → SeatOk z b r.plan j x
      → MarksOk z (epoch_word 1 (epoch_of b.epoch + 1)) b.acks b.atoms r.plan.engine r.plan.sweep.cursor j x.cycle x.undealt x.held x.walk
  begun_marks j x idle k = let m = k.marks in let past = m.past in let before = m.before in let now = epoch-epoch_word 1 (epoch_of b.epoch + 1) (omega arith) in record {
    mine = m.mine;
    to_deal = m.to_deal;
    one = m.one;
    engineless = m.engineless;
    past = omega arith;
    before = omega arith;
    reading = λ h. absurd (let t = m.reading h in omega (arith, t.0));
    scanned = λ marking at. absurd (omega arith);
    held = λ acked. absurd (omega (arith, acked.1));
    guard = λ w q e g at sits. ((m.guard w q e g at sits).0, λ acked. absurd (omega (arith, acked.1)));
    nothing = m.nothing;
  }

  begin_at : (y : Sweeping) → v.sweep ≡ Some y → phase_of y.word ≡ 0 → v.growing.shut ≡ 0 → Kept z (with_epoch b (epoch_word 1 (epoch_of y.word + 1))) (set vs id (view_after v Begin))
  begin_at y e idle none = let k = s.sweeps y e in let word : b.epoch ≡ y.word = sym r.cycle.word ∙ ap (λ (q : Sweeping). q.word) k.1 in
      let idle_ : phase_of b.epoch ≡ 0 = ap phase_of word ∙ idle in let new : ℕ = epoch_word 1 (epoch_of b.epoch + 1) in
      let is : new ≡ epoch_word 1 (epoch_of y.word + 1) = ap (λ (n : ℕ). epoch_word 1 (epoch_of n + 1)) word in
      let phase : phase_of new ≡ 1 = phase-epoch_word 1 (epoch_of b.epoch + 1) (omega arith) in let epoch : epoch_of new ≡ epoch_of b.epoch + 1 = epoch-epoch_word 1 (epoch_of b.epoch + 1) (omega arith) in
      subst (λ (n : ℕ). Kept z (with_epoch b n) (set vs id (view_after v Begin))) is (collector_step new beginning (view_after v Begin) y e
      record {
        size = s.size;
        own = s.own;
        held = s.held;
        fixed = s.fixed;
        low = s.low;
        counts = s.counts;
        walk = s.walk;
        marks = begun_marks id v idle_ s;
        sweeps = λ q has_. let was = unmapped beginning v.sweep q has_ in (k.0, ap beginning (s.sweeps was.0 was.1).1 ∙ was.2);
        trail = own_trail new beginning v.walk (λ q w _ t. record { news = t.news; path = t.path; whole = t.whole; reached = t.reached; fresh = λ two _. absurd (omega arith); ahead = λ two. absurd (omega arith); still = t.still });
        risen = s.risen;
        unclosed = s.unclosed;
        grows = λ q has_. let was = unmapped beginning v.sweep q has_ in s.grows was.0 was.1;
      }
      record {
        word = ap (λ (n : ℕ). epoch_word 1 (epoch_of n + 1)) r.cycle.word;
        phase = omega arith;
        begun = λ _. omega arith;
        few = omega arith;
        checked = λ _ q below. absurd (omega arith);
        swept = λ sweeping. absurd (omega arith);
        cursor = r.cycle.cursor;
      }
      (sure_same beginning refl refl refl)
      (fate_none new beginning refl refl refl (λ two. omega (arith, two)))
      (λ j x q. begun_marks j x idle_ q)
      (λ some_. absurd (let open_ : r.plan.grow.shut ≡ 0 = ap (λ (g : Growing). g.shut) (s.grows y e) ∙ none in omega (arith, some_))))

  pub keep_begin : (b' : Board) → Does z b v Begin b' → Kept z b' (set vs id (view_after v Begin))
  keep_begin b' d = subst (λ x. Kept z x (set vs id (view_after v Begin))) (sym d.5) (begin_at d.0 d.1 d.2 d.4)

  -- CHECK: one engine more has acknowledged
  pub keep_check : (e : ℕ) (b' : Board) → Does z b v (Check e) b' → Kept z b' (set vs id (view_after v (Check e)))
  keep_check e b' d = let y : Sweeping = d.0 in let k = s.sweeps y d.1 in let at : e ≡ y.checked = d.3 in let inside : e < z.engines = d.4 in
      let count : y.checked ≡ r.plan.sweep.checked = sym (ap (λ (q : Sweeping). q.checked) k.1) in
      let word : epoch_of y.word ≡ epoch_of b.epoch = ap epoch_of (sym (ap (λ (q : Sweeping). q.word) k.1) ∙ r.cycle.word) in
      let marking_ : phase_of b.epoch ≡ 1 = ap phase_of (sym r.cycle.word ∙ ap (λ (q : Sweeping). q.word) k.1) ∙ d.2 in
      let now : Kept z (with_epoch b b.epoch) (set vs id (view_after v (Check e))) = collector_step b.epoch checking (view_after v (Check e)) y d.1
      record {
        size = s.size;
        own = s.own;
        held = s.held;
        fixed = s.fixed;
        low = s.low;
        counts = s.counts;
        walk = s.walk;
        marks = s.marks;
        sweeps = λ q has_. let was = unmapped checking v.sweep q has_ in (k.0, ap checking (s.sweeps was.0 was.1).1 ∙ was.2);
        trail = own_trail b.epoch checking v.walk (λ q w _ t. record { news = t.news; path = t.path; whole = t.whole; reached = t.reached; fresh = t.fresh; ahead = t.ahead; still = t.still });
        risen = s.risen;
        unclosed = s.unclosed;
        grows = λ q has_. let was = unmapped checking v.sweep q has_ in s.grows was.0 was.1;
      }
      record {
        word = r.cycle.word;
        phase = r.cycle.phase;
        begun = r.cycle.begun;
        few = omega arith;
        checked = λ marking q below. dite (ℕ_discrete q e) (λ (same : q ≡ e). ap (λ (i : ℕ). get_or b.acks i 0) same ∙ (d.5 ∙ word)) (λ (ne : q ≢ e). r.cycle.checked marking q (omega arith));
        swept = r.cycle.swept;
        cursor = r.cycle.cursor;
      }
      (sure_same checking refl refl refl)
      (fate_none b.epoch checking refl refl refl (λ two. omega (arith, two, marking_))) (λ j x q. q.marks) r.grow.idle in
      subst (λ x. Kept z x (set vs id (view_after v (Check e)))) (sym d.6) now

  -- TO SWEEP: all have acknowledged, so that what each holds or guards is marked
  turned_marks : (j : ℕ) (x : View) → phase_of b.epoch ≡ 1 → ((e : ℕ) → e < z.engines → get_or b.acks e 0 ≡ epoch_of b.epoch) → SeatOk z b r.plan j x
      → MarksOk z (epoch_word 2 (epoch_of b.epoch)) b.acks b.atoms r.plan.engine 0 j x.cycle x.undealt x.held x.walk
  turned_marks j x marking all k = let m = k.marks in let past = m.past in let before = m.before in let new : ℕ = epoch_word 2 (epoch_of b.epoch) in
      let phase : phase_of new ≡ 2 = phase-epoch_word 2 (epoch_of b.epoch) (omega arith) in let epoch : epoch_of new ≡ epoch_of b.epoch = epoch-epoch_word 2 (epoch_of b.epoch) (omega arith) in
      let was : Acked new x.cycle → Acked b.epoch x.cycle = (λ acked. ((λ none. omega arith), acked.1 ∙ epoch)) in
      let safe : (q : ℕ) → Safe b.epoch b.atoms r.plan.sweep.cursor q → Safe new b.atoms 0 q =
      (λ q t. ⊎_elim (λ (mark : mark_of (get_or b.atoms q 0) ≡ 1). inl mark) (λ (u : (phase_of b.epoch ≡ 2) × (q < r.plan.sweep.cursor)). absurd (omega (arith, u.0))) t) in record {
        mine = m.mine;
        to_deal = m.to_deal;
        one = m.one;
        engineless = m.engineless;
        past = omega arith;
        before = omega arith;
        reading = λ h. absurd (dite (ℕ_discrete x.cycle.engine 0)
            (λ (none : x.cycle.engine ≡ 0). let t = m.engineless none in omega (arith, t.0, t.1))
            (λ (ne : x.cycle.engine ≢ 0). let t = m.mine ne in let own = all (x.cycle.engine - 1) (omega (arith, t.0)) in omega (arith, t.2)));
        scanned = λ marks. absurd (omega arith);
        held = λ acked a i. let t = m.held (was acked) a i in (t.0, safe a.slot t.1);
        guard = λ w q e g at sits. let t = m.guard w q e g at sits in (t.0, λ acked. safe q (t.1 (was acked)));
        nothing = m.nothing;
      }

  turn_at : (y : Sweeping) → v.sweep ≡ Some y → phase_of y.word ≡ 1 → y.checked ≡ z.engines → Kept z (with_epoch b (epoch_word 2 (epoch_of y.word))) (set vs id (view_after v ToSweep))
  turn_at y e marking_ full = let k = s.sweeps y e in let word : b.epoch ≡ y.word = sym r.cycle.word ∙ ap (λ (q : Sweeping). q.word) k.1 in
      let marking : phase_of b.epoch ≡ 1 = ap phase_of word ∙ marking_ in let new : ℕ = epoch_word 2 (epoch_of b.epoch) in
      let is : new ≡ epoch_word 2 (epoch_of y.word) = ap (λ (n : ℕ). epoch_word 2 (epoch_of n)) word in
      let phase : phase_of new ≡ 2 = phase-epoch_word 2 (epoch_of b.epoch) (omega arith) in let epoch : epoch_of new ≡ epoch_of b.epoch = epoch-epoch_word 2 (epoch_of b.epoch) (omega arith) in
      let count : r.plan.sweep.checked ≡ z.engines = ap (λ (q : Sweeping). q.checked) k.1 ∙ full in
      let all : (i : ℕ) → i < z.engines → get_or b.acks i 0 ≡ epoch_of b.epoch = (λ i inside. r.cycle.checked marking i (omega arith)) in
      let started = r.cycle.begun in
      subst (λ (n : ℕ). Kept z (with_epoch b n) (set vs id (view_after v ToSweep))) is (collector_step new turning (view_after v ToSweep) y e
      record {
        size = s.size;
        own = s.own;
        held = s.held;
        fixed = s.fixed;
        low = s.low;
        counts = s.counts;
        walk = λ w none. cc;
        marks = let m = turned_marks id v marking all s in Rattle.atom_words.proofs.Frames.marks_walk z new b.acks b.atoms r.plan.engine 0 id v.cycle v.undealt v.held v.walk m None (λ w q none. cc);
        sweeps = λ q has_. let was = unmapped turning v.sweep q has_ in (k.0, ap turning (s.sweeps was.0 was.1).1 ∙ was.2);
        trail = λ q w has_ none. cc;
        risen = s.risen;
        unclosed = λ w none. cc;
        grows = λ q has_. let was = unmapped turning v.sweep q has_ in s.grows was.0 was.1;
      }
      record {
        word = ap (λ (n : ℕ). epoch_word 2 (epoch_of n)) r.cycle.word;
        phase = omega arith;
        begun = λ _. let some_ = started (λ none. omega arith) in omega arith;
        few = r.cycle.few;
        checked = λ marks. absurd (omega arith);
        swept = λ _ i inside. all i inside ∙ sym epoch;
        cursor = omega arith;
      }
      record { inside = λ on. cc; state = λ on. cc; short = omega arith; text = λ on. cc }
      (fate_none new turning refl refl refl (λ two. omega (arith, two))) (λ j x q. turned_marks j x marking all q) (λ some_. absurd (let none = r.grow.idle some_ in omega arith)))

  pub keep_to_sweep : (b' : Board) → Does z b v ToSweep b' → Kept z b' (set vs id (view_after v ToSweep))
  keep_to_sweep b' d = subst (λ x. Kept z x (set vs id (view_after v ToSweep))) (sym d.4) (turn_at d.0 d.1 d.2 d.3)

  -- AN ENGINE reads that the cycle marks, and goes on to hold only those slots
  pub keep_mark : (x : ℕ) (those : List Held) (b' : Board) → Does z b v (Mark x those) b' → Kept z b' (set vs id (view_after v (Mark x those)))
  keep_mark x those b' d = let m = s.marks in let word : b.epoch ≡ x = d.1 in let late : v.cycle.acked < epoch_of x = d.3 in
      let now : epoch_of b.epoch ≡ epoch_of x = ap epoch_of word in let marking : phase_of b.epoch ≡ 1 = ap phase_of word ∙ d.2 in
      subst (λ y. Kept z y (set vs id (view_after v (Mark x those)))) (sym d.5) (keep_view z b vs r id (view_after v (Mark x those)) record {
        size = s.size;
        own = s.own;
        held = λ i a e. let t = d.4 a (i, e) in s.held t.0 a t.1;
        fixed = s.fixed;
        low = s.low;
        counts = s.counts;
        walk = s.walk;
        marks = record {
          mine = m.mine;
          to_deal = m.to_deal;
          one = m.one;
          engineless = λ none. absurd (d.0 none);
          past = m.past;
          before = omega arith;
          reading = λ _. (marking, sym now);
          scanned = λ _ _ k i. absurd (in_none k i);
          held = λ acked. absurd (omega (arith, acked.1));
          guard = m.guard;
          nothing = λ none. absurd (d.0 none);
        };
        sweeps = s.sweeps;
        trail = s.trail;
        risen = s.risen;
        unclosed = s.unclosed;
        grows = s.grows;
      })

  -- it scans a slot that it holds, or a fixed atom
  pub keep_scan : (k : ℕ) (b' : Board) → Does z b v (Scan k) b' → Kept z b' (set vs id (view_after v (Scan k)))
  keep_scan k b' d = let a : Held = d.1 in let live = has z b vs r id v s a d.2 in let at : a.slot ≡ k = d.3 in let n : ℕ = get_or b.atoms k 0 in
      let inside : k < z.slots = subst (λ (i : ℕ). i < z.slots) at live.inside in let valid : state_of n ≡ 3 = subst (λ (i : ℕ). state_of (get_or b.atoms i 0) ≡ 3) at live.valid in
      let soft = mark_soft z b vs r id v s k inside in let m = marks_as z b vs r id v s k (marked n) r.plan.owner soft in
      subst (λ y. Kept z y (set vs id (view_after v (Scan k)))) (sym d.4) (knows z b vs r id v s k (marked n) r.plan.owner (view_after v (Scan k)) soft (λ ne. r.blank k (λ e. ne (state-marked n ∙ e))) refl (own_marked z b vs r id v s k inside) (held_as z b vs r id v s k (marked n) r.plan.owner soft) refl
      (counts_as z b vs r id v s k (marked n) r.plan.owner soft (count-marked n)) s.walk
      record {
        mine = m.mine;
        to_deal = m.to_deal;
        one = m.one;
        engineless = m.engineless;
        past = m.past;
        before = m.before;
        reading = m.reading;
        scanned = λ marking epoch q i. ⊎_elim (λ (t : get_elem? v.cycle.scanned i.0 ≡ some q). m.scanned marking epoch q (i.0, t))
            (λ (t : (i.0 ≡ length v.cycle.scanned) × (k ≡ q)). subst (λ (j : ℕ). (state_of (get_or (set b.atoms k (marked n)) j 0) ≡ 3) × (mark_of (get_or (set b.atoms k (marked n)) j 0) ≡ 1)) t.1
            (let word : get_or (set b.atoms k (marked n)) k 0 ≡ marked n = get_or-set_same b.atoms k (marked n) 0 soft.inside in (ap state_of word ∙ (state-marked n ∙ valid), ap mark_of word ∙ mark-marked n)))
            (at_snoc v.cycle.scanned k q i.0 i.1);
        held = m.held;
        guard = m.guard;
        nothing = m.nothing;
      }
      refl refl s.trail s.unclosed refl)

  -- ACK: what the engine holds is scanned, and its walk ends
  module _ (scanning : v.cycle.acked < v.cycle.scanned_at) (engine_ : v.cycle.engine ≢ 0) (all : (a : Held) → In a v.held → In a.slot v.cycle.scanned) where
    abbrev pub place : ℕ
    place = v.cycle.engine - 1

    abbrev acks' : List ℕ
    acks' = set b.acks (v.cycle.engine - 1) v.cycle.scanned_at

    mine_ : (v.cycle.engine ≤ z.engines) × (r.plan.engine v.cycle.engine ≡ id) × (get_or b.acks (v.cycle.engine - 1) 0 ≡ v.cycle.acked)
    mine_ = s.marks.mine engine_

    there : v.cycle.engine - 1 < length b.acks
    there = omega (arith, r.sized.acks, mine_.0)

    cycle_now : (phase_of b.epoch ≡ 1) × (v.cycle.scanned_at ≡ epoch_of b.epoch)
    cycle_now = s.marks.reading scanning

    -- the word of another seat's engine stays
    other_ack : (j e : ℕ) → j ≢ id → e ≢ 0 → r.plan.engine e ≡ j → get_or (set b.acks (v.cycle.engine - 1) v.cycle.scanned_at) (e - 1) 0 ≡ get_or b.acks (e - 1) 0
    other_ack j e other some_ is = Rattle.std.proofs.Common.get_or-set_other b.acks (v.cycle.engine - 1) (e - 1) v.cycle.scanned_at 0
        (λ same. let one : e ≡ v.cycle.engine = omega arith in other (sym is ∙ (ap r.plan.engine one ∙ mine_.1)))

    others_acked : (j : ℕ) (x : View) → j ≢ id → SeatOk z b r.plan j x → SeatOk z (with_ack b (v.cycle.engine - 1) v.cycle.scanned_at) r.plan j x
    others_acked j x other k = let m = k.marks in record {
      size = k.size;
      own = k.own;
      held = k.held;
      fixed = k.fixed;
      low = k.low;
      counts = k.counts;
      walk = k.walk;
      marks = record {
        mine = λ ne. let t = m.mine ne in (t.0, t.1, other_ack j x.cycle.engine other ne t.1 ∙ t.2);
        to_deal = λ e some_ below. let t = m.to_deal e some_ below in (t.0, t.1, other_ack j e other (λ none. omega arith) t.1 ∙ t.2);
        one = m.one;
        engineless = m.engineless;
        past = m.past;
        before = m.before;
        reading = m.reading;
        scanned = m.scanned;
        held = m.held;
        guard = m.guard;
        nothing = m.nothing;
      };
      sweeps = k.sweeps;
      trail = k.trail;
      risen = k.risen;
      unclosed = k.unclosed;
      grows = k.grows;
    }

    mine_acked : SeatOk z (with_ack b (v.cycle.engine - 1) v.cycle.scanned_at) r.plan id (view_after v Ack)
    mine_acked = let m = s.marks in record {
      size = s.size;
      own = s.own;
      held = s.held;
      fixed = s.fixed;
      low = s.low;
      counts = s.counts;
      walk = λ w none. cc;
      marks = record {
        mine = λ ne. (mine_.0, mine_.1, get_or-set_same b.acks (v.cycle.engine - 1) v.cycle.scanned_at 0 there);
        to_deal = λ e some_ below. absurd (let none = m.one engine_ in omega arith);
        one = m.one;
        engineless = λ none. absurd (engine_ none);
        past = m.before;
        before = m.before;
        reading = λ h. absurd (omega arith);
        scanned = m.scanned;
        held = λ _ a i. let t = m.scanned cycle_now.0 cycle_now.1 a.slot (all a i) in (t.0, inl t.1);
        guard = λ w k none. cc;
        nothing = m.nothing;
      };
      sweeps = s.sweeps;
      trail = λ q w has_ none. cc;
      risen = s.risen;
      unclosed = λ w none. cc;
      grows = s.grows;
    }

    ack_at : Kept z (with_ack b (v.cycle.engine - 1) v.cycle.scanned_at) (set vs id (view_after v Ack))
    ack_at = record {
      plan = r.plan;
      sized = record { small = r.sized.small; acks = length-set b.acks (v.cycle.engine - 1) v.cycle.scanned_at ∙ r.sized.acks; atoms = r.sized.atoms; links = r.sized.links; heads = r.sized.heads; texts = r.sized.texts };
      grow = r.grow;
      rows = r.rows;
      slots = r.slots;
      cycle = record {
        word = r.cycle.word;
        phase = r.cycle.phase;
        begun = r.cycle.begun;
        few = r.cycle.few;
        checked = λ marking e below. word_after (λ n. n ≡ epoch_of b.epoch) b.acks (v.cycle.engine - 1) v.cycle.scanned_at e there (λ _. cycle_now.1) (λ _. r.cycle.checked marking e below);
        swept = λ sweeping. absurd (omega (arith, cycle_now.0));
        cursor = r.cycle.cursor;
      };
      sure = r.sure;
      blank = r.blank;
      fate = r.fate;
      seats = seats_stay (SeatOk z (with_ack b (v.cycle.engine - 1) v.cycle.scanned_at) r.plan) vs id (view_after v Ack) (λ _. mine_acked) (λ j x other at here. others_acked j x other (r.seats j x at here));
    }

  pub keep_ack : (b' : Board) → Does z b v Ack b' → Kept z b' (set vs id (view_after v Ack))
  keep_ack b' d = subst (λ x. Kept z x (set vs id (view_after v Ack))) (sym d.2) (ack_at d.0.1 d.0.0 d.1)
