-- Each step that puts another row in the place of the one in use keeps the rule, but for those that move slots.
use Rattle.std.proofs.Common.{◌≡◌, ◌≢◌, ◌⊎◌, ℕ, zero, suc, ◌+◌, ◌-◌, ◌^◌, ◌<◌, ◌≤◌, true, false, List, [], ◌∷◌, ◌++◌, length, get_or, set, refl, sym, ap, ◌∙◌, subst, inl, inr, ⊎_elim, arith, Option, Some, None, length-set, get_or-set_same, get_or-set_other}
use mathlib.Core.Option.{some}
use mathlib.Core.Logic.{dite}
use native.Mathlib.Decide.{ℕ_discrete, dec_le}
use lib.ListN.{get_elem?}
use Rattle.atom_words.specs.Layout.{first_of, closed_of, version_of, head_word, worn, last, phase_of, row_first}
use Rattle.atom_words.specs.Texts.{bucket}
use Rattle.atom_words.specs.Board.{Board, text_of, with_row, with_head}
use Rattle.atom_words.specs.Chains.{In, Chain, Linked}
use Rattle.atom_words.specs.Kinds.{Idle, MovesChains, RowOk, aiming, sounding, closing, emptying, publishing, opening, view_after, Does}
use Rattle.atom_words.specs.Kept.{Plan, HeldOk, WalkOk, SeatOk, Trail, Rows, GrowOk, Kept}
use Rattle.atom_words.specs.declared.size.Size.{Size}
use Rattle.atom_words.specs.declared.view.Held.{Held}
use Rattle.atom_words.specs.declared.view.Walk.{Walk}
use Rattle.atom_words.specs.declared.view.Sweeping.{Sweeping}
use Rattle.atom_words.specs.declared.view.Growing.{Growing}
use Rattle.atom_words.specs.declared.view.View.{View}
use Rattle.atom_words.specs.declared.kind.Kind.{Kind}
use Rattle.atom_words.specs.declared.kind.Kind.TheVariants.{Aim, Sound, Close, Emptied, PublishRow, Publish}
use Rattle.atom_words.proofs.Layouts.{first-head_word, closed-head_word, version-head_word}
use Rattle.atom_words.proofs.Slices.{in_none, word_after}
use Rattle.atom_words.proofs.Rowing.{bucket_in, rows_apart, early_open, chains_still, stands_early}
use Rattle.atom_words.proofs.Frames.{seats_stay, marks_walk}
use Rattle.atom_words.proofs.RaiseStep.{walk_risen}

-- A STEP OF THE COLLECTOR BETWEEN CYCLES, which changes chains, link words, heads, the row word, and what it knows of the rows
module _ (z : Size) (b : Board) (vs : List View) (r : Kept z b vs) (id : ℕ) (v : View) (s : SeatOk z b r.plan id v) (i : Idle v) where
  pub idle : phase_of b.epoch ≡ 0
  idle = ap phase_of (sym r.cycle.word ∙ ap (λ (t : Sweeping). t.word) (s.sweeps i.0 i.1).1) ∙ i.2

  pub grown_is : r.plan.grow ≡ v.growing
  grown_is = s.grows i.0 i.1

  pub not_sweeping : phase_of b.epoch ≡ 2 → ⊥
  not_sweeping two = let none = idle in omega (arith, two, none)

  pub none_dies : r.plan.fate.slot ≡ 0
  none_dies = dite (ℕ_discrete r.plan.fate.slot 0) (λ (e : r.plan.fate.slot ≡ 0). e) (λ (ne : r.plan.fate.slot ≢ 0). absurd (not_sweeping (r.fate.dies ne).sweeping))

  module _ (chain' : ℕ → List ℕ) (place' : ℕ → ℕ) (links' heads' : List ℕ) (row' : ℕ) (f : Growing → Growing) where
    -- what has to be shown
    pub record Shift : Type 0 where
      pub on : (x : ℕ) → Linked z.heads r.plan.chain x → Linked z.heads chain' x
      pub was : (x : ℕ) → Linked z.heads chain' x → Linked z.heads r.plan.chain x
      pub many_links : length links' ≡ length b.links
      pub many_heads : length heads' ≡ length b.heads
      pub own_link : (k : ℕ) → (Linked z.heads r.plan.chain k → ⊥) → get_or links' k 0 ≡ get_or b.links k 0
      pub later : (h : ℕ) → version_of (get_or b.heads h 0) ≤ version_of (get_or heads' h 0)
      pub walk : (w : Walk) → closed_of w.word ≡ 0 → WalkOk z b.links b.heads b.texts r.plan.chain r.plan.fate w → WalkOk z links' heads' b.texts chain' r.plan.fate w
      pub rows : Rows z row' (f r.plan.grow) links' heads' b.texts chain' place' r.plan.fate
      pub grow : GrowOk z b.epoch row' heads' b.texts chain' (f r.plan.grow)

    module _ (o : Shift) where
      held_on : (a : Held) → HeldOk z b.atoms b.texts r.plan.chain a → HeldOk z b.atoms b.texts chain' a
      held_on a h = record { inside = h.inside; valid = h.valid; linked = o.on a.slot h.linked; text = h.text }

      seat_on : (j : ℕ) (x : View) → SeatOk z b r.plan j x → (walk : Option Walk) (growing : Growing) (made : List Kind) → ((t : Walk) → walk ≡ Some t → (x.walk ≡ Some t) × (closed_of t.word ≡ 0))
          → ((q : Sweeping) → x.sweep ≡ Some q → f r.plan.grow ≡ growing) → ((q : Sweeping) (t : Walk) → x.sweep ≡ Some q → walk ≡ Some t → ⊥)
          → SeatOk z (record b { row = row'; links = links'; heads = heads' }) (record r.plan { chain = chain'; place = place'; grow = f r.plan.grow }) j (record x { walk = walk; growing = growing; made = made })
      seat_on j x k walk growing made same grows none = record {
        size = k.size;
        own = λ n e. let h = k.own n e in record {
          inside = h.inside;
          mine = h.mine;
          usable = h.usable;
          state = h.state;
          short = h.short;
          text = h.text;
          rest = h.rest;
          link = λ l is un. o.own_link n.slot (h.apart un) ∙ h.link l is un;
          apart = λ un l. h.apart un (o.was n.slot l);
          linked = λ on. let t = h.linked on in (o.on n.slot t.0, t.1);
        };
        held = λ q a e. held_on a (k.held q a e);
        fixed = λ q a e. held_on a (k.fixed q a e);
        low = k.low;
        counts = λ cs e. let h = k.counts cs e in record { mine = h.mine; each_slot = h.each_slot; counts = h.counts; live = λ q c is some_. held_on (record { slot = q; text = c.text }) (h.live q c is some_) };
        walk = λ t e. let w = same t e in o.walk t w.1 (k.walk t w.0);
        marks = marks_walk z b.epoch b.acks b.atoms r.plan.engine r.plan.sweep.cursor j x.cycle x.undealt x.held x.walk k.marks walk (λ t q e g place. (t, (same t e).0, g, place));
        sweeps = k.sweeps;
        trail = λ q t has_ e. absurd (none q t has_ e);
        risen = λ h below. let t = k.risen h below in let l = o.later h in let low = t.1 in (t.0, omega arith);
        unclosed = λ t e _. (same t e).1;
        grows = grows;
      }

      pub shifted : (made : List Kind) → Kept z (record b { row = row'; links = links'; heads = heads' }) (set vs id (record v { walk = None; growing = f v.growing; made = made }))
      shifted made = record {
        plan = record r.plan { chain = chain'; place = place'; grow = f r.plan.grow };
        sized = record { small = r.sized.small; acks = r.sized.acks; atoms = r.sized.atoms; links = o.many_links ∙ r.sized.links; heads = o.many_heads ∙ r.sized.heads; texts = r.sized.texts };
        grow = o.grow;
        rows = o.rows;
        slots = record {
          live = λ q l. r.slots.live q (o.was q l);
          valid = λ q e. o.on q (r.slots.valid q e);
          only = r.slots.only;
          dies = r.slots.dies;
          zero = r.slots.zero;
          shut = r.slots.shut;
        };
        cycle = r.cycle;
        sure = r.sure;
        blank = r.blank;
        fate = record { slot = r.fate.slot; out = r.fate.out; head = r.fate.head; idle = r.fate.idle; dies = λ ne. absurd (ne none_dies) };
        seats = seats_stay (SeatOk z (record b { row = row'; links = links'; heads = heads' }) (record r.plan { chain = chain'; place = place'; grow = f r.plan.grow })) vs id (record v { walk = None; growing = f v.growing; made = made })
            (λ _. seat_on id v s None (f v.growing) made (λ t none. cc) (λ q _. ap f grown_is) (λ q t _ none. cc))
            (λ j x other here alive. let k = r.seats j x here alive in let else : (r.plan.collector ≡ j → ⊥) = (λ e. other (sym e ∙ (s.sweeps i.0 i.1).0)) in
            seat_on j x k x.walk x.growing x.made (λ t e. (e, k.unclosed t e else)) (λ q has_. absurd (else (k.sweeps q has_).0)) (λ q t has_ _. else (k.sweeps q has_).0));
      }

  -- WHAT THE COLLECTOR KNOWS changes alone
  module _ (f : Growing → Growing) (rows : Rows z b.row (f r.plan.grow) b.links b.heads b.texts r.plan.chain r.plan.place r.plan.fate) (grow : GrowOk z b.epoch b.row b.heads b.texts r.plan.chain (f r.plan.grow)) where
    pub told : (made : List Kind) → Kept z b (set vs id (record v { walk = None; growing = f v.growing; made = made }))
    told made = shifted r.plan.chain r.plan.place b.links b.heads b.row f
        record {
          on = λ x l. l;
          was = λ x l. l;
          many_links = refl;
          many_heads = refl;
          own_link = λ k _. refl;
          later = λ h. omega arith;
          walk = λ w _ ok. ok;
          rows = rows;
          grow = grow;
        } made

  -- ONE HEAD CHANGES, with the next version, and what the collector knows
  module _ (f : Growing → Growing) (h closed : ℕ) (inside : h < z.heads) (bit : closed < 2) where
    abbrev pub next_head : ℕ
    next_head = head_word (first_of (get_or b.heads h 0)) closed (version_of (get_or b.heads h 0) + 1)

    pub there : h < length b.heads
    there = omega (arith, r.sized.heads, inside)

    pub first_next : first_of next_head ≡ first_of (get_or b.heads h 0)
    first_next = first-head_word (first_of (get_or b.heads h 0)) closed (version_of (get_or b.heads h 0) + 1) (omega arith) bit

    pub closed_next : closed_of next_head ≡ closed
    closed_next = closed-head_word (first_of (get_or b.heads h 0)) closed (version_of (get_or b.heads h 0) + 1) (omega arith) bit

    pub version_next : version_of next_head ≡ version_of (get_or b.heads h 0) + 1
    version_next = version-head_word (first_of (get_or b.heads h 0)) closed (version_of (get_or b.heads h 0) + 1) (omega arith) bit

    pub else_head : (g : ℕ) → g ≢ h → get_or (set b.heads h next_head) g 0 ≡ get_or b.heads g 0
    else_head g ne = get_or-set_other b.heads h g next_head 0 ne

    pub headed : r.plan.grow.moving ≡ 0 → (f r.plan.grow).moving ≡ 0 → ((g k : ℕ) → g < z.heads → In k (r.plan.chain g) → bucket b.row (text_of b.texts k) ≡ g)
        → GrowOk z b.epoch b.row (set b.heads h next_head) b.texts r.plan.chain (f r.plan.grow) → (made : List Kind) → Kept z (with_head b h next_head) (set vs id (record v { walk = None; growing = f v.growing; made = made }))
    headed still still_too stands grow made = let version = version_next in shifted r.plan.chain r.plan.place b.links (set b.heads h next_head) b.row f
        record {
          on = λ x l. l;
          was = λ x l. l;
          many_links = refl;
          many_heads = length-set b.heads h next_head;
          own_link = λ k _. refl;
          later = λ g. word_after (λ m. version_of (get_or b.heads g 0) ≤ version_of m) b.heads h next_head g there (λ e. let same = ap (λ (q : ℕ). version_of (get_or b.heads q 0)) e in omega arith) (λ _. omega arith);
          walk = λ w _ ok. walk_risen z r.plan.chain b.links b.heads b.texts r.plan.fate h next_head w there (omega arith) ok;
          rows = record {
            chains = λ g g_in _. word_after (λ m. Chain b.links (first_of m) (r.plan.chain g)) b.heads h next_head g there
                (λ e. subst (λ (p : ℕ). Chain b.links p (r.plan.chain g)) (ap (λ (q : ℕ). first_of (get_or b.heads q 0)) e ∙ sym first_next) (chains_still z b.row r.plan.grow b.links b.heads b.texts r.plan.chain r.plan.place r.plan.fate r.rows still g g_in))
                (λ _. chains_still z b.row r.plan.grow b.links b.heads b.texts r.plan.chain r.plan.place r.plan.fate r.rows still g g_in);
            leaves = λ ne. absurd (ne still_too);
            once = r.rows.once;
            stands = λ g k g_in j. inl (stands g k g_in j);
            formed = r.rows.formed;
            unlike = r.rows.unlike;
          };
          grow = grow;
        } made

module _ (z : Size) (b : Board) (vs : List View) (r : Kept z b vs) (id : ℕ) (v : View) (s : SeatOk z b r.plan id v) where
  abbrev g : Growing
  g = r.plan.grow

  -- AIM at another row
  pub keep_aim : (row : ℕ) (b' : Board) → Does z b v (Aim row) b' → Kept z b' (set vs id (view_after v (Aim row)))
  keep_aim row b' d = let is = grown_is z b vs r id v s d.0 in let none : r.plan.grow.shut ≡ 0 = ap (λ (t : Growing). t.shut) is ∙ d.1 in let wide = r.grow.size.0 in let early : r.plan.grow.shut < 2 ^ b.row = omega (arith, none, wide) in
      let rest = r.grow.rest (inl early) in subst (λ t. Kept z t (set vs id (view_after v (Aim row)))) (sym d.3) (told z b vs r id v s d.0 (aiming row)
      record {
        chains = r.rows.chains;
        leaves = r.rows.leaves;
        once = r.rows.once;
        stands = λ h k inside i. inl (stands_early z b.row r.plan.grow b.links b.heads b.texts r.plan.chain r.plan.place r.plan.fate r.rows early h k inside i);
        formed = r.rows.formed;
        unlike = r.rows.unlike;
      }
      record {
        known = r.grow.known;
        size = r.grow.size;
        aim = d.2;
        most = r.grow.most;
        closed = r.grow.closed;
        opened = r.grow.opened;
        idle = r.grow.idle;
        firm = r.grow.firm;
        begun = λ some_. absurd (omega (arith, some_));
        few = omega arith;
        sound = λ _ h above below. absurd (omega (arith, above, below));
        rest = λ _. rest;
        emptied = r.grow.emptied;
        picked = r.grow.picked;
        there = r.grow.there;
      }
      (v.made ++ Aim row ∷ []))

  -- one HEAD of that row is not worn
  pub keep_sound : (x : ℕ) (b' : Board) → Does z b v (Sound x) b' → Kept z b' (set vs id (view_after v (Sound x)))
  keep_sound x b' d = let is = grown_is z b vs r id v s d.0 in let some_ : 0 < r.plan.grow.shut = subst (λ (t : Growing). 0 < t.shut) (sym is) d.1 in let more : r.plan.grow.sound < 2 ^ r.plan.grow.aim = subst (λ (t : Growing). t.sound < 2 ^ t.aim) (sym is) d.3 in
      let word : get_or b.heads (row_first r.plan.grow.aim + r.plan.grow.sound) 0 ≡ x = subst (λ (t : Growing). get_or b.heads (row_first t.aim + t.sound) 0 ≡ x) (sym is) d.4 in
      subst (λ t. Kept z t (set vs id (view_after v (Sound x)))) (sym d.6) (told z b vs r id v s d.0 sounding
      record { chains = r.rows.chains; leaves = r.rows.leaves; once = r.rows.once; stands = r.rows.stands; formed = r.rows.formed; unlike = r.rows.unlike }
      record {
        known = r.grow.known;
        size = r.grow.size;
        aim = r.grow.aim;
        most = r.grow.most;
        closed = r.grow.closed;
        opened = r.grow.opened;
        idle = r.grow.idle;
        firm = r.grow.firm;
        begun = λ _. some_;
        few = omega (arith, more);
        sound = λ ne h above below. dite (ℕ_discrete h (row_first r.plan.grow.aim + r.plan.grow.sound))
            (λ (e : h ≡ row_first r.plan.grow.aim + r.plan.grow.sound). subst (λ (n : ℕ). version_of n < worn) (sym word ∙ ap (λ (q : ℕ). get_or b.heads q 0) (sym e)) d.5)
            (λ (other : h ≢ row_first r.plan.grow.aim + r.plan.grow.sound). r.grow.sound ne h above (omega (arith, below, other)));
        rest = r.grow.rest;
        emptied = r.grow.emptied;
        picked = r.grow.picked;
        there = r.grow.there;
      }
      (v.made ++ Sound x ∷ []))

  -- CLOSE the next head of the row in use
  module _ (i : Idle v) (more : r.plan.grow.shut < 2 ^ b.row) (open_ : closed_of (get_or b.heads (row_first b.row + r.plan.grow.shut) 0) ≡ 0) (low : version_of (get_or b.heads (row_first b.row + r.plan.grow.shut) 0) < worn) where
    abbrev h : ℕ
    h = row_first b.row + r.plan.grow.shut

    inside : row_first b.row + r.plan.grow.shut < z.heads
    inside = let size = r.grow.size in omega (arith, more, size.0, size.1)

    shut_head : ℕ
    shut_head = next_head z b vs r id v s i closing (row_first b.row + r.plan.grow.shut) 1 inside (omega arith)

    close_grow : GrowOk z b.epoch b.row (set b.heads (row_first b.row + r.plan.grow.shut) (head_word (first_of (get_or b.heads (row_first b.row + r.plan.grow.shut) 0)) 1 (version_of (get_or b.heads (row_first b.row + r.plan.grow.shut) 0) + 1))) b.texts r.plan.chain (closing r.plan.grow)
    close_grow = let bit : 1 < 2 = omega arith in let n : ℕ = head_word (first_of (get_or b.heads (row_first b.row + r.plan.grow.shut) 0)) 1 (version_of (get_or b.heads (row_first b.row + r.plan.grow.shut) 0) + 1) in
        let on = there z b vs r id v s i closing (row_first b.row + r.plan.grow.shut) 1 inside bit in let shut = closed_next z b vs r id v s i closing (row_first b.row + r.plan.grow.shut) 1 inside bit in
        let version = version_next z b vs r id v s i closing (row_first b.row + r.plan.grow.shut) 1 inside bit in let rest = r.grow.rest (inl more) in record {
          known = r.grow.known;
          size = r.grow.size;
          aim = r.grow.aim;
          most = omega (arith, more);
          closed = λ q q_in. word_after (λ m. closed_of m ≡ 0 → (row_first b.row + (r.plan.grow.shut + 1) ≤ q) × (q < row_first b.row + 2 ^ b.row)) b.heads (row_first b.row + r.plan.grow.shut) n q on
              (λ _ e. absurd (omega (arith, e, shut))) (λ ne e. let t = r.grow.closed q q_in e in (omega (arith, t.0, ne), t.1));
          opened = λ q above below. word_after (λ m. closed_of m ≡ 0) b.heads (row_first b.row + r.plan.grow.shut) n q on (λ e. absurd (omega (arith, e, above))) (λ _. r.grow.opened q (omega (arith, above)) below);
          idle = λ _. idle z b vs r id v s i;
          firm = λ q above below. word_after (λ m. version_of m < last) b.heads (row_first b.row + r.plan.grow.shut) n q on (λ _. omega (arith, version, low)) (λ ne. r.grow.firm q above (omega (arith, below, ne)));
          begun = λ _. omega arith;
          few = r.grow.few;
          sound = λ ne q above below. word_after (λ m. version_of m < worn) b.heads (row_first b.row + r.plan.grow.shut) n q on
              (λ e. absurd (let few = r.grow.few in rows_apart r.plan.grow.aim b.row q r.grow.aim.0 r.grow.size.0 ne above (omega (arith, below, few)) (omega (arith, e)) (omega (arith, e, more)))) (λ _. r.grow.sound ne q above below);
          rest = λ _. rest;
          emptied = r.grow.emptied;
          picked = r.grow.picked;
          there = r.grow.there;
        }

    close_at : Kept z (with_head b (row_first b.row + r.plan.grow.shut) (head_word (first_of (get_or b.heads (row_first b.row + r.plan.grow.shut) 0)) 1 (version_of (get_or b.heads (row_first b.row + r.plan.grow.shut) 0) + 1)))
        (set vs id (view_after v (Close (row_first b.row + r.plan.grow.shut))))
    close_at = headed z b vs r id v s i closing (row_first b.row + r.plan.grow.shut) 1 inside (omega arith) (r.grow.rest (inl more)).1 (r.grow.rest (inl more)).1
        (stands_early z b.row r.plan.grow b.links b.heads b.texts r.plan.chain r.plan.place r.plan.fate r.rows more) close_grow (v.made ++ Close (row_first b.row + r.plan.grow.shut) ∷ [])

  pub keep_close : (h : ℕ) (b' : Board) → Does z b v (Close h) b' → Kept z b' (set vs id (view_after v (Close h)))
  keep_close h b' d = let is = grown_is z b vs r id v s d.0 in let at : row_first b.row + r.plan.grow.shut ≡ h = (λ k. row_first (sym r.grow.known k) + r.plan.grow.shut) ∙ (ap (λ (t : Growing). row_first t.row + t.shut) is ∙ sym d.2) in
      let more : r.plan.grow.shut < 2 ^ b.row = subst (λ (n : ℕ). r.plan.grow.shut < 2 ^ n) r.grow.known (subst (λ (t : Growing). t.shut < 2 ^ t.row) (sym is) d.1) in
      subst (λ (t : Board × ℕ). Kept z t.0 (set vs id (view_after v (Close t.1)))) (λ k. (((λ l. with_head b (at l) (head_word (first_of (get_or b.heads (at l) 0)) 1 (version_of (get_or b.heads (at l) 0) + 1))) ∙ sym d.5) k, at k))
      (close_at d.0 more (ap (λ (q : ℕ). closed_of (get_or b.heads q 0)) at ∙ d.3) (subst (λ (q : ℕ). version_of (get_or b.heads q 0) < worn) (sym at) d.4))

  -- OPEN the last of the closed heads of the row in use
  module _ (i : Idle v) (h : ℕ) (some_ : 0 < r.plan.grow.shut) (which : (r.plan.grow.shut < 2 ^ b.row) ⊎ (r.plan.grow.aim ≡ b.row)) (at : h + 1 ≡ row_first b.row + r.plan.grow.shut) where
    open_in : h < z.heads
    open_in = let size = r.grow.size in let most = r.grow.most in omega (arith, at, most, size.0, size.1)

    exactly : (q k : ℕ) → q < z.heads → In k (r.plan.chain q) → bucket b.row (text_of b.texts k) ≡ q
    exactly q k q_in j = ⊎_elim (λ (e : bucket b.row (text_of b.texts k) ≡ q). e)
        (λ (t : (r.plan.grow.shut ≡ 2 ^ b.row) × (bucket r.plan.grow.aim (text_of b.texts k) ≡ q)). ⊎_elim (λ (less : r.plan.grow.shut < 2 ^ b.row). absurd (omega (arith, less, t.0)))
        (λ (e : r.plan.grow.aim ≡ b.row). ap (λ (n : ℕ). bucket n (text_of b.texts k)) (sym e) ∙ t.1) which) (r.rows.stands q k q_in j)

    open_grow : GrowOk z b.epoch b.row (set b.heads h (head_word (first_of (get_or b.heads h 0)) 0 (version_of (get_or b.heads h 0) + 1))) b.texts r.plan.chain (opening r.plan.grow)
    open_grow = let bit : 0 < 2 = omega arith in let n : ℕ = head_word (first_of (get_or b.heads h 0)) 0 (version_of (get_or b.heads h 0) + 1) in
        let on = there z b vs r id v s i opening h 0 open_in bit in let clear = closed_next z b vs r id v s i opening h 0 open_in bit in let rest = r.grow.rest which in let most = r.grow.most in record {
          known = r.grow.known;
          size = r.grow.size;
          aim = r.grow.aim;
          most = omega (arith, most);
          closed = λ q q_in. word_after (λ m. closed_of m ≡ 0 → (row_first b.row + (r.plan.grow.shut - 1) ≤ q) × (q < row_first b.row + 2 ^ b.row)) b.heads h n q on
              (λ e _. (omega (arith, e, at, some_), omega (arith, e, at, some_, most))) (λ ne e. let t = r.grow.closed q q_in e in (omega (arith, t.0), t.1));
          opened = λ q above below. word_after (λ m. closed_of m ≡ 0) b.heads h n q on (λ _. clear) (λ ne. r.grow.opened q (omega (arith, above, ne, at, some_)) below);
          idle = λ _. idle z b vs r id v s i;
          firm = λ q above below. word_after (λ m. version_of m < last) b.heads h n q on (λ e. absurd (omega (arith, e, at, below, some_))) (λ ne. r.grow.firm q above (omega (arith, below)));
          begun = λ none. absurd (omega (arith, none));
          few = omega arith;
          sound = λ _ q above below. absurd (omega (arith, above, below));
          rest = λ _. rest;
          emptied = r.grow.emptied;
          picked = r.grow.picked;
          there = r.grow.there;
        }

    open_at : Kept z (with_head b h (head_word (first_of (get_or b.heads h 0)) 0 (version_of (get_or b.heads h 0) + 1))) (set vs id (view_after v (Publish h)))
    open_at = headed z b vs r id v s i opening h 0 open_in (omega arith) (r.grow.rest which).1 (r.grow.rest which).1 exactly open_grow (v.made ++ Publish h ∷ [])

  pub keep_publish : (h : ℕ) (b' : Board) → Does z b v (Publish h) b' → Kept z b' (set vs id (view_after v (Publish h)))
  keep_publish h b' d = let is = grown_is z b vs r id v s d.0 in let row : v.growing.row ≡ b.row = ap (λ (t : Growing). t.row) (sym is) ∙ r.grow.known in
      subst (λ t. Kept z t (set vs id (view_after v (Publish h)))) (sym d.5) (open_at d.0 h (subst (λ (t : Growing). 0 < t.shut) (sym is) d.1)
      (⊎_elim (λ (e : v.growing.aim ≡ v.growing.row). inr (ap (λ (t : Growing). t.aim) is ∙ (e ∙ row))) (λ (less : v.growing.shut < 2 ^ v.growing.row). inl (subst (λ (n : ℕ). r.plan.grow.shut < 2 ^ n) row (subst (λ (t : Growing). t.shut < 2 ^ v.growing.row) (sym is) less))) d.2)
      (d.3 ∙ (λ k. row_first (row k) + (sym is k).shut)))

  -- ALL HEADS OF THE ROW IN USE ARE CLOSED, and another row is to take its place
  module _ (m : MovesChains v) where
    pub all_shut : r.plan.grow.shut ≡ 2 ^ b.row
    all_shut = ap (λ (t : Growing). t.shut) (grown_is z b vs r id v s m.0) ∙ (m.1 ∙ ap (λ (n : ℕ). 2 ^ n) (ap (λ (t : Growing). t.row) (sym (grown_is z b vs r id v s m.0)) ∙ r.grow.known))

    pub other_aim : r.plan.grow.aim ≢ b.row
    other_aim e = m.2 (ap (λ (t : Growing). t.aim) (sym (grown_is z b vs r id v s m.0)) ∙ (e ∙ (sym r.grow.known ∙ ap (λ (t : Growing). t.row) (grown_is z b vs r id v s m.0))))

    pub not_early : (r.plan.grow.shut < 2 ^ b.row) ⊎ (r.plan.grow.aim ≡ b.row) → ⊥
    not_early t = ⊎_elim (λ (less : r.plan.grow.shut < 2 ^ b.row). let all = all_shut in omega (arith, less, all)) other_aim t

    -- no head is open
    pub none_open : (h : ℕ) → h < z.heads → closed_of (get_or b.heads h 0) ≡ 0 → ⊥
    none_open h inside e = not_early (inl (early_open z b.epoch b.row b.heads b.texts r.plan.chain r.plan.grow r.grow h inside e))

    -- the next chain is empty
    emptied_at : r.plan.grow.moving ≡ 0 → r.plan.grow.moved < 2 ^ b.row → first_of (get_or b.heads (row_first b.row + r.plan.grow.moved) 0) ≡ 0 → Kept z b (set vs id (view_after v Emptied))
    emptied_at still more none = let size = r.grow.size in let inside : row_first b.row + r.plan.grow.moved < z.heads = omega (arith, more, size.0, size.1) in
        let whole = chains_still z b.row r.plan.grow b.links b.heads b.texts r.plan.chain r.plan.place r.plan.fate r.rows still in told z b vs r id v s m.0 emptying
        record { chains = λ h h_in _. whole h h_in; leaves = λ ne. absurd (ne still); once = r.rows.once; stands = r.rows.stands; formed = r.rows.formed; unlike = r.rows.unlike }
        record {
          known = r.grow.known;
          size = r.grow.size;
          aim = r.grow.aim;
          most = r.grow.most;
          closed = r.grow.closed;
          opened = r.grow.opened;
          idle = r.grow.idle;
          firm = r.grow.firm;
          begun = r.grow.begun;
          few = r.grow.few;
          sound = r.grow.sound;
          rest = λ t. absurd (not_early t);
          emptied = λ h above below. dite (ℕ_discrete h (row_first b.row + r.plan.grow.moved))
              (λ (e : h ≡ row_first b.row + r.plan.grow.moved). ap r.plan.chain e ∙ no_slots (first_of (get_or b.heads (row_first b.row + r.plan.grow.moved) 0)) (r.plan.chain (row_first b.row + r.plan.grow.moved)) none (whole (row_first b.row + r.plan.grow.moved) inside))
              (λ (ne : h ≢ row_first b.row + r.plan.grow.moved). r.grow.emptied h above (omega (arith, below, ne)));
          picked = λ a e. cc;
          there = λ ne. absurd (ne still);
        }
        (v.made ++ Emptied ∷ [])
      where
        no_slots : (p : ℕ) (ks : List ℕ) → p ≡ 0 → Chain b.links p ks → ks ≡ []
        no_slots p [] e c = refl
        no_slots p (k ∷ ks) e c = absurd (omega (arith, e, c.0))

    -- THE ROW WORD NAMES THE OTHER ROW
    publish_at : (row : ℕ) → row ≡ r.plan.grow.aim → r.plan.grow.moving ≡ 0 → r.plan.grow.moved ≡ 2 ^ b.row → r.plan.grow.sound ≡ 2 ^ r.plan.grow.aim → Kept z (with_row b row) (set vs id (view_after v (PublishRow row)))
    publish_at row at still all sound_ = let size : RowOk z row = subst (RowOk z) (sym at) r.grow.aim in let whole = chains_still z b.row r.plan.grow b.links b.heads b.texts r.plan.chain r.plan.place r.plan.fate r.rows still in let shut = all_shut in
        shifted z b vs r id v s m.0 r.plan.chain r.plan.place b.links b.heads row (publishing row)
        record {
          on = λ x l. l;
          was = λ x l. l;
          many_links = refl;
          many_heads = refl;
          own_link = λ k _. refl;
          later = λ h. omega arith;
          walk = λ w _ ok. ok;
          rows = record {
            chains = λ h h_in _. whole h h_in;
            leaves = λ ne. absurd (ne still);
            once = r.rows.once;
            stands = λ h k h_in j. ⊎_elim
                (λ (e : bucket b.row (text_of b.texts k) ≡ h). absurd (let t = bucket_in b.row (text_of b.texts k) r.grow.size.0 in in_none k (subst (In k) (r.grow.emptied h (subst (λ (n : ℕ). row_first b.row ≤ n) e t.0) (let below : h < row_first b.row + 2 ^ b.row = subst (λ (n : ℕ). n < row_first b.row + 2 ^ b.row) e t.1 in omega (arith, below, all))) j)))
                (λ (t : (r.plan.grow.shut ≡ 2 ^ b.row) × (bucket r.plan.grow.aim (text_of b.texts k) ≡ h)). inl (ap (λ (n : ℕ). bucket n (text_of b.texts k)) at ∙ t.1)) (r.rows.stands h k h_in j);
            formed = r.rows.formed;
            unlike = r.rows.unlike;
          };
          grow = record {
            known = refl;
            size = size;
            aim = r.grow.aim;
            most = omega arith;
            closed = λ h h_in e. absurd (none_open h h_in e);
            opened = λ h above below. absurd (omega (arith, above, below));
            idle = λ _. idle z b vs r id v s m.0;
            firm = λ h above below. let few : h < row_first r.plan.grow.aim + r.plan.grow.sound = subst (λ (n : ℕ). h < row_first r.plan.grow.aim + n) (sym sound_) (subst (λ (n : ℕ). h < row_first n + 2 ^ n) at below) in
                let low = r.grow.sound other_aim h (subst (λ (n : ℕ). row_first n ≤ h) at above) few in omega (arith, low);
            begun = λ some_. absurd (omega (arith, some_));
            few = omega arith;
            sound = λ _ h above below. absurd (omega (arith, above, below));
            rest = λ _. (refl, still, refl);
            emptied = λ h above below. absurd (omega (arith, above, below));
            picked = λ a e. cc;
            there = λ ne. absurd (ne still);
          };
        }
        (v.made ++ PublishRow row ∷ [])

  pub row_is : Idle v → v.growing.row ≡ b.row
  row_is i = ap (λ (t : Growing). t.row) (sym (grown_is z b vs r id v s i)) ∙ r.grow.known

  pub keep_emptied : (b' : Board) → Does z b v Emptied b' → Kept z b' (set vs id (view_after v Emptied))
  keep_emptied b' d = let is = grown_is z b vs r id v s d.0.0 in let row = row_is d.0.0 in
      subst (λ t. Kept z t (set vs id (view_after v Emptied))) (sym d.4) (emptied_at d.0 (ap (λ (t : Growing). t.moving) is ∙ d.1)
      (subst (λ (n : ℕ). r.plan.grow.moved < 2 ^ n) row (subst (λ (t : Growing). t.moved < 2 ^ v.growing.row) (sym is) d.2))
      (subst (λ (n : ℕ). first_of (get_or b.heads (row_first n + r.plan.grow.moved) 0) ≡ 0) row (subst (λ (t : Growing). first_of (get_or b.heads (row_first v.growing.row + t.moved) 0) ≡ 0) (sym is) d.3)))

  pub keep_publish_row : (row : ℕ) (b' : Board) → Does z b v (PublishRow row) b' → Kept z b' (set vs id (view_after v (PublishRow row)))
  keep_publish_row row b' d = let is = grown_is z b vs r id v s d.0.0 in let same = row_is d.0.0 in
      subst (λ t. Kept z t (set vs id (view_after v (PublishRow row)))) (sym d.5) (publish_at d.0 row (d.3 ∙ ap (λ (t : Growing). t.aim) (sym is)) (ap (λ (t : Growing). t.moving) is ∙ d.1)
      (ap (λ (t : Growing). t.moved) is ∙ (d.2 ∙ ap (λ (n : ℕ). 2 ^ n) same)) (subst (λ (t : Growing). t.sound ≡ 2 ^ t.aim) (sym is) d.4))
