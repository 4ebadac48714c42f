-- A new seat, two seats made one, and a seat cut in two keep the rule; and a new table meets it.
use Rattle.std.proofs.Common.{◌≡◌, ◌≢◌, ◌⊎◌, ℕ, zero, suc, ◌-◌, ◌<◌, ◌≤◌, false, List, [], ◌∷◌, ◌++◌, length, get_or, set, replicate, refl, sym, ap, ◌∙◌, subst, inl, inr, ⊎_elim, arith, Option, Some, None, length-set}
use mathlib.Core.Option.{some, some-ne-none}
use mathlib.Core.Logic.{dite}
use native.Mathlib.Decide.{dec_le}
use lib.ListN.{get_elem?, length-replicate}
use Rattle.atomic_table.proofs.Lists.{at_set}
use Rattle.atom_words.specs.Layout.{state_of, count_of, first_of, closed_of, phase_of}
use Rattle.atom_words.specs.Board.{Board}
use Rattle.atom_words.specs.Views.{uncounted, no_cycle, bare, unswept, ungrown, first_view, newcomer, spent, with_keeper, without_keeper, keeper_of, without_collector, collector_of, with_one_dealt, engine_of}
use Rattle.atom_words.specs.Rule.{Cut, keeper, collector, engine, Opens}
use Rattle.atom_words.specs.Kept.{Plan, HeldOk, CountsOk, MarksOk, SeatOk, GrowOk, Kept}
use Rattle.atom_words.specs.declared.size.Size.{Size}
use Rattle.atom_words.specs.declared.view.Counted.{Counted}
use Rattle.atom_words.specs.declared.view.Cycling.{Cycling}
use Rattle.atom_words.specs.declared.view.Sweeping.{Sweeping}
use Rattle.atom_words.specs.declared.view.Growing.{Growing}
use Rattle.atom_words.specs.declared.view.View.{View}
use Rattle.atom_words.specs.declared.kind.Kind.TheVariants.{Split}
use Rattle.atom_words.proofs.Layouts.{first-head_word, closed-head_word}
use Rattle.atom_words.proofs.Slices.{in_none, at_snoc, at_replicate, or_beyond, untold_text}
use Rattle.atom_words.proofs.Puts.{put, put_here, put_else}
use Rattle.atom_words.proofs.Frames.{seats_stay, marks_walk}

-- the rule where other seats keep, collect or are an engine's, and the seat's own part stays
pub replanned : (z : Size) (b : Board) (p : Plan) (keeper' collector' : ℕ) (engine' : ℕ → ℕ) (j : ℕ) (v : View) → ((cs : List Counted) → v.counts ≡ Some cs → p.keeper ≡ j → keeper' ≡ j)
    → (p.collector ≡ j → collector' ≡ j) → MarksOk z b.epoch b.acks b.atoms engine' p.sweep.cursor j v.cycle v.undealt v.held v.walk
    → SeatOk z b p j v → SeatOk z b (record p { keeper = keeper'; collector = collector'; engine = engine' }) j v
replanned z b p keeper' collector' engine' j v keeps collects marks s = record {
  size = s.size;
  own = s.own;
  held = s.held;
  fixed = s.fixed;
  low = s.low;
  counts = λ cs e. let h = s.counts cs e in record { mine = keeps cs e h.mine; each_slot = h.each_slot; counts = h.counts; live = h.live };
  walk = s.walk;
  marks = marks;
  sweeps = λ y e. let h = s.sweeps y e in (collects h.0, h.1);
  trail = s.trail;
  risen = s.risen;
  unclosed = λ w e other. s.unclosed w e (λ mine. other (collects mine));
  grows = s.grows;
}

-- a seat that is no engine's, and from which none is to be dealt
no_marks : (z : Size) (epoch : ℕ) (acks atoms : List ℕ) (dealt : ℕ → ℕ) (cursor j : ℕ) → MarksOk z epoch acks atoms dealt cursor j (no_cycle 0) 0 [] None
no_marks z epoch acks atoms dealt cursor j = record {
  mine = λ ne. absurd (ne refl);
  to_deal = λ e some_ none. absurd (omega arith);
  one = λ ne. absurd (ne refl);
  engineless = λ _. (refl, refl);
  past = omega arith;
  before = omega arith;
  reading = λ h. absurd (omega arith);
  scanned = λ _ _ k i. absurd (in_none k i);
  held = λ _ a i. absurd (in_none a i);
  guard = λ w k e. cc;
  nothing = λ _ _. refl;
}

module _ (z : Size) (b : Board) (vs : List View) (r : Kept z b vs) where
  -- MAKE
  pub keep_make : Kept z b (vs ++ newcomer z ∷ [])
  keep_make = record {
    plan = r.plan;
    sized = r.sized;
    grow = r.grow;
    rows = r.rows;
    slots = r.slots;
    cycle = r.cycle;
    sure = r.sure;
    blank = r.blank;
    fate = r.fate;
    seats = λ j v at here. ⊎_elim (λ (e : get_elem? vs j ≡ some v). r.seats j v e here)
        (λ (t : (j ≡ length vs) × (newcomer z ≡ v)). subst (SeatOk z b r.plan j) t.1 record {
          size = refl;
          own = λ o e. cc;
          held = λ i a e. absurd (in_none a (i, e));
          fixed = λ i a e. absurd (in_none a (i, e));
          low = λ i a e. absurd (in_none a (i, e));
          counts = λ cs e. cc;
          walk = λ w e. cc;
          marks = no_marks z b.epoch b.acks b.atoms r.plan.engine r.plan.sweep.cursor j;
          sweeps = λ y e. cc;
          trail = λ y w e. cc;
          risen = λ h below. absurd (omega arith);
          unclosed = λ w e. cc;
          grows = λ y e. cc;
        })
        (at_snoc vs (newcomer z) v j at);
  }

  -- what a seat, with counts or without, makes of the keeper's number; and so of the collector's
  keeper_at : {A : Type 0} → ℕ → ℕ → Option A → ℕ
  keeper_at old new None = old
  keeper_at old new (Some cs) = new

  keeper_is : {A : Type 0} (old new : ℕ) (o : Option A) (cs : A) → o ≡ Some cs → keeper_at old new o ≡ new
  unfolding keeper_at
  keeper_is old new None cs e = cc
  keeper_is old new (Some x) cs e = refl

  -- another seat's counts stay its own
  keeper_else : {A : Type 0} (old new j n : ℕ) (o : Option A) → ((cs : A) → o ≡ Some cs → old ≡ j) → n ≢ j → old ≡ n → keeper_at old new o ≡ n
  unfolding keeper_at
  keeper_else old new j n None mine ne is = is
  keeper_else old new j n (Some cs) mine ne is = absurd (ne (sym is ∙ mine cs refl))

  -- JOIN
  module _ (id other : ℕ) (v w : View) (at : get_elem? vs id ≡ some v) (here : v.gone ≡ false) (apart : ¬ (other ≡ id)) (there : get_elem? vs other ≡ some w) (here_too : w.gone ≡ false) where
    theirs : SeatOk z b r.plan other w
    theirs = r.seats other w there here_too

    joined : SeatOk z b (record r.plan { keeper = keeper_at r.plan.keeper id w.counts }) id (with_keeper v w)
    joined = let s = r.seats id v at here in record {
      size = s.size;
      own = s.own;
      held = s.held;
      fixed = s.fixed;
      low = s.low;
      counts = λ cs e. let h = theirs.counts cs e in record { mine = keeper_is r.plan.keeper id w.counts cs e; each_slot = h.each_slot; counts = h.counts; live = h.live };
      walk = s.walk;
      marks = s.marks;
      sweeps = s.sweeps;
      trail = s.trail;
      risen = s.risen;
      unclosed = s.unclosed;
      grows = s.grows;
    }

    pub keep_join : Kept z b (set (set vs id (with_keeper v w)) other spent)
    keep_join = let K : ℕ → View → Type 0 = SeatOk z b (record r.plan { keeper = keeper_at r.plan.keeper id w.counts }) in record {
      plan = record r.plan { keeper = keeper_at r.plan.keeper id w.counts };
      sized = r.sized;
      grow = r.grow;
      rows = r.rows;
      slots = r.slots;
      cycle = r.cycle;
      sure = r.sure;
      blank = r.blank;
      fate = r.fate;
      seats = seats_stay K (set vs id (with_keeper v w)) other spent (λ gone. cc)
          (λ j y ne e alive. ⊎_elim
          (λ (t : (j ≡ id) × (with_keeper v w ≡ y)). subst (λ (x : ℕ × View). K x.0 x.1) (λ i. (sym t.0 i, t.1 i)) joined)
          (λ (t : (j ≢ id) × (get_elem? vs j ≡ some y)). let s = r.seats j y t.1 alive in replanned z b r.plan (keeper_at r.plan.keeper id w.counts) r.plan.collector r.plan.engine j y
          (λ cs has mine. keeper_else r.plan.keeper id other j w.counts (λ ws has_too. (theirs.counts ws has_too).mine) ne mine) (λ mine. mine) s.marks s)
          (at_set vs id j (with_keeper v w) y e));
    }

  -- SPLIT
  module _ (id : ℕ) (v : View) (at : get_elem? vs id ≡ some v) (here : v.gone ≡ false) where
    mine : SeatOk z b r.plan id v
    mine = r.seats id v at here

    split_with : (keeper' collector' : ℕ) (engine' : ℕ → ℕ) (left right : View) → SeatOk z b (record r.plan { keeper = keeper'; collector = collector'; engine = engine' }) id left
        → ((j : ℕ) → j ≡ length vs → SeatOk z b (record r.plan { keeper = keeper'; collector = collector'; engine = engine' }) j right)
        → ((j : ℕ) (y : View) → j ≢ id → get_elem? vs j ≡ some y → y.gone ≡ false → SeatOk z b (record r.plan { keeper = keeper'; collector = collector'; engine = engine' }) j y)
        → Kept z b (set vs id left ++ right ∷ [])
    split_with keeper' collector' engine' left right l t others = let p : Plan = record r.plan { keeper = keeper'; collector = collector'; engine = engine' } in record {
      plan = record r.plan { keeper = keeper'; collector = collector'; engine = engine' };
      sized = r.sized;
      grow = r.grow;
      rows = r.rows;
      slots = r.slots;
      cycle = r.cycle;
      sure = r.sure;
      blank = r.blank;
      fate = r.fate;
      seats = λ j y e alive. ⊎_elim
          (λ (x : get_elem? (set vs id left) j ≡ some y). seats_stay (SeatOk z b p) vs id left (λ _. l) others j y x alive)
          (λ (x : (j ≡ length (set vs id left)) × (right ≡ y)). subst (SeatOk z b p j) x.1 (t j (x.0 ∙ length-set vs id left)))
          (at_snoc (set vs id left) right y j e);
    }

    -- the seat that is cut off knows the fixed atoms and the heads that have risen, and what it is cut off for
    beside : (p : Plan) (j : ℕ) (counts : Option (List Counted)) (cycle : Cycling) (sweep : Option Sweeping) (growing : Growing) → p.chain ≡ r.plan.chain → ((cs : List Counted) → counts ≡ Some cs → CountsOk z b.atoms b.texts p.chain p.keeper j cs)
        → MarksOk z b.epoch b.acks b.atoms p.engine p.sweep.cursor j cycle 0 [] None → ((y : Sweeping) → sweep ≡ Some y → (p.collector ≡ j) × (p.sweep ≡ y)) → ((y : Sweeping) → sweep ≡ Some y → p.grow ≡ growing)
        → SeatOk z b p j (record (bare v.size) { fixed = v.fixed; risen = v.risen; counts = counts; cycle = cycle; sweep = sweep; growing = growing; made = Split ∷ [] })
    beside p j counts cycle sweep growing same counted marks sweeps grows = record {
      size = mine.size;
      own = λ o e. cc;
      held = λ i a e. absurd (in_none a (i, e));
      fixed = λ i a e. subst (λ (c : ℕ → List ℕ). HeldOk z b.atoms b.texts c a) (sym same) (mine.fixed i a e);
      low = mine.low;
      counts = counted;
      walk = λ t e. cc;
      marks = marks;
      sweeps = sweeps;
      trail = λ y w e none. cc;
      risen = mine.risen;
      unclosed = λ w none. cc;
      grows = grows;
    }

    cut_keeper : Kept z b (set vs id (without_keeper v) ++ keeper_of v ∷ [])
    cut_keeper = let k : ℕ = keeper_at r.plan.keeper (length vs) v.counts in split_with k r.plan.collector r.plan.engine (without_keeper v) (keeper_of v)
        record {
          size = mine.size;
          own = mine.own;
          held = mine.held;
          fixed = mine.fixed;
          low = mine.low;
          counts = λ cs e. cc;
          walk = mine.walk;
          marks = mine.marks;
          sweeps = mine.sweeps;
          trail = mine.trail;
          risen = mine.risen;
          unclosed = mine.unclosed;
          grows = mine.grows;
        }
        (λ j is. beside (record r.plan { keeper = k }) j v.counts (no_cycle 0) None ungrown refl
        (λ cs e. let h = mine.counts cs e in record { mine = keeper_is r.plan.keeper (length vs) v.counts cs e ∙ sym is; each_slot = h.each_slot; counts = h.counts; live = h.live })
        (no_marks z b.epoch b.acks b.atoms r.plan.engine r.plan.sweep.cursor j) (λ y e. cc) (λ y e. cc))
        (λ j y ne e alive. let s = r.seats j y e alive in replanned z b r.plan k r.plan.collector r.plan.engine j y
        (λ cs has ours. keeper_else r.plan.keeper (length vs) id j v.counts (λ ws has_too. (mine.counts ws has_too).mine) ne ours) (λ ours. ours) s.marks s)

    cut_collector : Kept z b (set vs id (without_collector v) ++ collector_of v ∷ [])
    cut_collector = let c : ℕ = keeper_at r.plan.collector (length vs) v.sweep in split_with r.plan.keeper c r.plan.engine (without_collector v) (collector_of v)
        record {
          size = mine.size;
          own = mine.own;
          held = mine.held;
          fixed = mine.fixed;
          low = mine.low;
          counts = mine.counts;
          walk = λ w none. cc;
          marks = marks_walk z b.epoch b.acks b.atoms r.plan.engine r.plan.sweep.cursor id v.cycle v.undealt v.held v.walk mine.marks None (λ w k none. cc);
          sweeps = λ y e. cc;
          trail = λ y w e. cc;
          risen = mine.risen;
          unclosed = λ w none. cc;
          grows = λ y e. cc;
        }
        (λ j is. beside (record r.plan { collector = c }) j None (no_cycle 0) v.sweep v.growing refl (λ cs e. cc) (no_marks z b.epoch b.acks b.atoms r.plan.engine r.plan.sweep.cursor j)
        (λ y e. (keeper_is r.plan.collector (length vs) v.sweep y e ∙ sym is, (mine.sweeps y e).1)) mine.grows)
        (λ j y ne e alive. let s = r.seats j y e alive in replanned z b r.plan r.plan.keeper c r.plan.engine j y (λ _ _ ours. ours)
        (λ ours. keeper_else r.plan.collector (length vs) id j v.sweep (λ xs has_too. (mine.sweeps xs has_too).0) ne ours) s.marks s)

    module _ (more : 0 < v.undealt) (empty : v.held ≡ []) where
      engine' : ℕ → ℕ
      engine' = put r.plan.engine v.undealt (length vs)

      to_deal : (v.undealt ≤ z.engines) × (r.plan.engine v.undealt ≡ id) × (get_or b.acks (v.undealt - 1) 0 ≡ 0)
      to_deal = mine.marks.to_deal v.undealt more (omega arith)

      -- the engines of others, and those still to be dealt, stay whose they are
      else_dealt : (e j : ℕ) → j ≢ id → r.plan.engine e ≡ j → put r.plan.engine v.undealt (length vs) e ≡ j
      else_dealt e j other is = put_else r.plan.engine v.undealt (length vs) e (λ same. other (sym is ∙ (ap r.plan.engine same ∙ to_deal.1))) ∙ is

      left_marks : MarksOk z b.epoch b.acks b.atoms (put r.plan.engine v.undealt (length vs)) r.plan.sweep.cursor id v.cycle (v.undealt - 1) v.held v.walk
      left_marks = let m = mine.marks in record {
        mine = λ ne. absurd (let none = m.one ne in omega arith);
        to_deal = λ e some_ below. let t = m.to_deal e some_ (omega arith) in (t.0, put_else r.plan.engine v.undealt (length vs) e (λ same. omega arith) ∙ t.1, t.2);
        one = λ ne. absurd (let none = m.one ne in omega arith);
        engineless = m.engineless;
        past = m.past;
        before = m.before;
        reading = m.reading;
        scanned = m.scanned;
        held = m.held;
        guard = λ w k e g at sits. m.guard w k e g at (inr more);
        nothing = λ _ _. empty;
      }

      right_marks : (j : ℕ) → j ≡ length vs → MarksOk z b.epoch b.acks b.atoms (put r.plan.engine v.undealt (length vs)) r.plan.sweep.cursor j (no_cycle v.undealt) 0 [] None
      right_marks j is = record {
        mine = λ _. (to_deal.0, put_here r.plan.engine v.undealt (length vs) ∙ sym is, to_deal.2);
        to_deal = λ e some_ none. absurd (omega arith);
        one = λ _. refl;
        engineless = λ e. absurd (omega arith);
        past = omega arith;
        before = omega arith;
        reading = λ h. absurd (omega arith);
        scanned = λ _ _ k i. absurd (in_none k i);
        held = λ _ a i. absurd (in_none a i);
        guard = λ w k e. cc;
        nothing = λ _ _. refl;
      }

      other_marks : (j : ℕ) (y : View) → j ≢ id → SeatOk z b r.plan j y → MarksOk z b.epoch b.acks b.atoms (put r.plan.engine v.undealt (length vs)) r.plan.sweep.cursor j y.cycle y.undealt y.held y.walk
      other_marks j y other s = let m = s.marks in record {
        mine = λ ne. let t = m.mine ne in (t.0, else_dealt y.cycle.engine j other t.1, t.2);
        to_deal = λ e some_ below. let t = m.to_deal e some_ below in (t.0, else_dealt e j other t.1, t.2);
        one = m.one;
        engineless = m.engineless;
        past = m.past;
        before = m.before;
        reading = m.reading;
        scanned = m.scanned;
        held = m.held;
        guard = m.guard;
        nothing = m.nothing;
      }

      cut_engine : Kept z b (set vs id (with_one_dealt v) ++ engine_of v ∷ [])
      cut_engine = let e : ℕ → ℕ = put r.plan.engine v.undealt (length vs) in split_with r.plan.keeper r.plan.collector e (with_one_dealt v) (engine_of v)
          record {
            size = mine.size;
            own = mine.own;
            held = mine.held;
            fixed = mine.fixed;
            low = mine.low;
            counts = mine.counts;
            walk = mine.walk;
            marks = left_marks;
            sweeps = mine.sweeps;
            trail = mine.trail;
            risen = mine.risen;
            unclosed = mine.unclosed;
            grows = mine.grows;
          }
          (λ j is. beside (record r.plan { engine = e }) j None (no_cycle v.undealt) None ungrown refl (λ cs has. cc) (right_marks j is) (λ y has. cc) (λ y has. cc))
          (λ j y ne at_ alive. let s = r.seats j y at_ alive in replanned z b r.plan r.plan.keeper r.plan.collector e j y (λ _ _ ours. ours) (λ ours. ours) (other_marks j y ne s) s)

    pub keep_split : (left right : View) → Cut v left right → Kept z b (set vs id left ++ right ∷ [])
    keep_split left right keeper = cut_keeper
    keep_split left right collector = cut_collector
    keep_split left right (engine more empty) = cut_engine more empty

-- A NEW TABLE
pub keep_open : (z : Size) (b : Board) (vs : List View) → Opens z b vs → Kept z b vs
keep_open z b vs o = let none : Plan = record { chain = λ _. []; place = λ _. 0; owner = λ _. 0; keeper = 0; collector = 0; engine = λ _. 0; sweep = unswept; grow = ungrown; fate = record { slot = 0; out = false; head = 0; left = 0 } } in
    let low : (k : ℕ) → (get_or b.atoms k 0 ≡ 0) ⊎ (get_or b.atoms k 0 ≡ 1) = λ k. low_word k in record {
      plan = none;
      sized = o.sized;
      grow = subst (λ (n : ℕ). GrowOk z b.epoch n b.heads b.texts (λ _. []) ungrown) (sym o.row) record {
        known = refl;
        size = let wide = o.wide in (omega arith, omega arith);
        aim = let wide = o.wide in (omega arith, omega arith);
        most = omega arith;
        closed = λ h inside e. dite (dec_le 256 h)
            (λ (le : 256 ≤ h). absurd (let c : closed_of (get_or b.heads h 0) ≡ 1 = ap closed_of (o.other_rows h inside le) ∙ closed-head_word 0 1 z.start (omega arith) (omega arith) in omega (arith, c, e)))
            (λ (gt : ¬ (256 ≤ h)). (omega arith, omega (arith, gt)));
        opened = λ h above below. let wide = o.wide in ap closed_of (o.buckets h (omega (arith, below, wide)) (omega (arith, below)));
        idle = λ some_. absurd (omega (arith, some_));
        firm = λ h above below. absurd (omega (arith, above, below));
        begun = λ some_. absurd (omega (arith, some_));
        few = omega arith;
        sound = λ ne. absurd (ne refl);
        rest = λ _. (refl, refl, refl);
        emptied = λ h above below. refl;
        picked = λ a e. cc;
        there = λ ne. absurd (ne refl);
      };
      rows = record {
        leaves = λ ne. absurd (ne refl);
        chains = λ h inside _. dite (dec_le 256 h) (λ (le : 256 ≤ h). ap first_of (o.other_rows h inside le) ∙ first-head_word 0 1 z.start (omega arith) (omega arith))
            (λ (gt : ¬ (256 ≤ h)). ap first_of (o.buckets h inside (omega arith)));
        once = λ h k inside i. absurd (in_none k i);
        stands = λ h k inside i. absurd (in_none k i);
        formed = λ h k inside i. absurd (in_none k i);
        unlike = λ h g k q inside too i j e. absurd (in_none k i);
      };
      slots = record {
        live = λ k l. absurd (in_none k l.2);
        valid = λ k e. absurd (⊎_elim (λ (w : get_or b.atoms k 0 ≡ 0). omega arith) (λ (w : get_or b.atoms k 0 ≡ 1). omega arith) (low k));
        only = λ k e. absurd (⊎_elim (λ (w : get_or b.atoms k 0 ≡ 0). omega arith) (λ (w : get_or b.atoms k 0 ≡ 1). omega arith) (low k));
        dies = λ k e. absurd (omega arith);
        zero = λ k _. not_counted k;
        shut = λ k inside fixed low. ap state_of (o.closed_off k inside fixed low);
      };
      cycle = let idle = o.idle in record {
        word = sym o.idle;
        phase = omega arith;
        begun = λ ne. absurd (ne (ap phase_of o.idle));
        few = omega arith;
        checked = λ _ e below. absurd (omega arith);
        swept = λ sweeping e inside. absurd (omega arith);
        cursor = omega arith;
      };
      sure = record { inside = λ on. cc; state = λ on. cc; short = omega arith; text = λ on. cc };
      blank = λ k _. λ i _. untold_text b.texts o.untold k i;
      fate = record { slot = refl; out = refl; head = refl; idle = λ _. refl; dies = λ ne. absurd (ne refl) };
      seats = λ j v at alive. ⊎_elim (λ (t : (j ≡ 0) × (first_view z ≡ v)). subst (SeatOk z b none j) t.1 record {
        size = refl;
        own = λ n e. cc;
        held = λ i a e. absurd (in_none a (i, e));
        fixed = λ i a e. absurd (in_none a (i, e));
        low = λ i a e. absurd (in_none a (i, e));
        counts = λ cs e. let is : replicate z.slots uncounted ≡ cs = cc in subst (CountsOk z b.atoms b.texts (λ _. []) 0 j) is record {
          mine = sym t.0;
          each_slot = length-replicate z.slots uncounted;
          counts = λ k c e. not_counted k ∙ ap (λ (x : Counted). x.count) (at_replicate z.slots k uncounted c e);
          live = λ k c e some_. absurd (let zero_ : 0 ≡ c.count = ap (λ (x : Counted). x.count) (at_replicate z.slots k uncounted c e) in omega arith);
        };
        walk = λ n e. cc;
        marks = record {
          mine = λ ne. absurd (ne refl);
          to_deal = λ e some_ below. (below, sym t.0, o.unseen (e - 1));
          one = λ ne. absurd (ne refl);
          engineless = λ _. (refl, refl);
          past = omega arith;
          before = omega arith;
          reading = λ h. absurd (omega arith);
          scanned = λ _ _ k i. absurd (in_none k i);
          held = λ _ a i. absurd (in_none a i);
          guard = λ w k e. cc;
          nothing = λ _ _. refl;
        };
        sweeps = λ y e. let is : unswept ≡ y = cc in (sym t.0, is);
        trail = λ y w e walk. cc;
        risen = λ h below. absurd (omega arith);
        unclosed = λ w e. cc;
        grows = λ y e. refl;
      }) (λ (t : (j ≢ 0) × (get_elem? (first_view z ∷ []) j ≡ some v)). absurd (beyond j v t.0 t.1)) (at_set (first_view z ∷ []) 0 j (first_view z) v (subst (λ y. get_elem? y j ≡ some v) o.views at));
    }
  where
    low_word : (k : ℕ) → (get_or b.atoms k 0 ≡ 0) ⊎ (get_or b.atoms k 0 ≡ 1)
    low_word k = dite (dec_le z.slots k) (λ (out : z.slots ≤ k). inl (or_beyond b.atoms k 0 (omega (arith, o.sized.atoms))))
        (λ (inside : ¬ (z.slots ≤ k)). dite (dec_le 256 k) (λ (le : 256 ≤ k). inl (o.free k (omega arith) (inr le)))
        (λ (gt : ¬ (256 ≤ k)). dite (dec_le z.fixed k) (λ (fixed : z.fixed ≤ k). inr (o.closed_off k (omega arith) fixed (omega arith))) (λ (f : ¬ (z.fixed ≤ k)). inl (o.free k (omega arith) (inl (omega arith))))))

    not_counted : (k : ℕ) → count_of (get_or b.atoms k 0) ≡ 0
    not_counted k = ⊎_elim (λ (e : get_or b.atoms k 0 ≡ 0). ap count_of e) (λ (e : get_or b.atoms k 0 ≡ 1). ap count_of e) (low_word k)

    beyond : (j : ℕ) (v : View) → j ≢ 0 → get_elem? (first_view z ∷ []) j ≡ some v → ⊥
    beyond zero v other e = other refl
    beyond (suc j) v other e = some-ne-none v (sym e)
