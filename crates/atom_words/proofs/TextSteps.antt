-- A step on a text word or on a link word of the seat's own slot keeps the rule.
use Rattle.std.proofs.Common.{◌≡◌, ◌≢◌, ◌⊎◌, ℕ, ◌+◌, ◌*◌, ◌<◌, true, false, List, [], ◌∷◌, ◌++◌, length, get_or, set, take, refl, sym, ap, ◌∙◌, subst, inl, inr, ⊎_elim, arith, Some, option_map, take_all, ◌≤◌, length-set, length-append, get_or-set_same, get_or-set_other, ◌^◌, ◌-◌}
use Rattle.atom_words.specs.Layout.{state_of, first_of, row_first}
use Rattle.atom_words.specs.Texts.{bucket, filled, Formed, padded}
use Rattle.atom_words.specs.Board.{Board, text_of, with_text, with_link}
use Rattle.atom_words.specs.Chains.{In, Chain, Linked}
use Rattle.atom_words.specs.Kinds.{measuring, putting, filling_up, linking, view_after, Does}
use Rattle.atom_words.specs.Kept.{Fate, Left, Rest, OwnOk, HeldOk, CountsOk, Seen, WalkOk, SeatOk, Rows, slots, Trail, Kept}
use Rattle.atom_words.specs.declared.size.Size.{Size}
use Rattle.atom_words.specs.declared.view.Held.{Held}
use Rattle.atom_words.specs.declared.view.Counted.{Counted}
use Rattle.atom_words.specs.declared.view.Own.{Own}
use Rattle.atom_words.specs.declared.view.Walk.{Walk}
use Rattle.atom_words.specs.declared.view.Sweeping.{Sweeping}
use Rattle.atom_words.specs.declared.view.Growing.{Growing}
use Rattle.atom_words.specs.declared.view.View.{View}
use Rattle.atom_words.specs.declared.kind.Kind.{Kind}
use Rattle.atom_words.specs.declared.kind.Kind.TheVariants.{Measure, PutWord, Fill, PutLink}
use Rattle.atom_words.proofs.Slices.{some_same, or_beyond, text_length, text_else, text_put, word_else, in_none, in_cases, in_back, in_either, chain_at, chain_else}
use Rattle.atom_words.proofs.Puts.{unmapped}
use Rattle.atom_words.proofs.Rowing.{grow_text, picked_linked, old_inside}
use Rattle.atom_words.proofs.Frames.{seats_stay, keep_view}
use Rattle.atom_words.proofs.Padding.{padded_length, padded_here, padded_behind}
use Rattle.std.proofs.lemmas.Grind.{same_number_lists}
use Rattle.std.proofs.lemmas.List.{get_or-take}
use mathlib.Core.Logic.{dite}
use native.Mathlib.Decide.{dec_le}

-- the texts of linked slots and of the dying one stay
module _ (z : Size) (texts texts' : List ℕ) (chain : ℕ → List ℕ) (f : Fate) (same : (q : ℕ) → Linked z.heads chain q ⊎ (f.slot ≡ q + 1) → text_of texts' q ≡ text_of texts q) where
  pub held_text : (atoms : List ℕ) (a : Held) → HeldOk z atoms texts chain a → HeldOk z atoms texts' chain a
  held_text atoms a h = record { inside = h.inside; valid = h.valid; linked = h.linked; text = same a.slot (inl h.linked) ∙ h.text }

  pub counts_text : (atoms : List ℕ) (keeper j : ℕ) (cs : List Counted) → CountsOk z atoms texts chain keeper j cs → CountsOk z atoms texts' chain keeper j cs
  counts_text atoms keeper j cs h = record { mine = h.mine; each_slot = h.each_slot; counts = h.counts; live = λ k c at some_. held_text atoms (record { slot = k; text = c.text }) (h.live k c at some_) }

  pub walk_text : (links heads : List ℕ) (w : Walk) → WalkOk z links heads texts chain f w → WalkOk z links heads texts' chain f w
  walk_text links heads w h = record {
    inside = h.inside;
    short = h.short;
    past = h.past;
    word = h.word;
    claim = λ e. let u = h.claim e in let on : (k : ℕ) → In k (chain w.head) → text_of texts' k ≡ text_of texts k = λ k i. same k (inl (w.head, h.inside, i)) in record {
      path = u.path;
      reached = u.reached;
      each = λ k i alive. ⊎_elim (λ (t : Seen texts w.seen k). inl (t.0, t.1, t.2, t.3, ap (take (length t.1.text)) (on k i) ∙ t.4)) (λ (t : In k u.path). inr t) (u.each k i alive);
      inside = u.inside;
      few = u.few;
      part = λ k at. let c = chain_at links k u.path (subst (λ (n : ℕ). Chain links n u.path) at u.reached) in
          ap (take (length w.part)) (⊎_elim (λ (t : In k (chain w.head)). on k t) (λ (t : Left f w k). same k (inr t.0)) (u.inside k (subst (In k) (sym c.1) (0, refl)))) ∙ u.part k at;
      dead = u.dead;
    };
    lost = h.lost;
  }

  pub rows_text : (row : ℕ) (g : Growing) (links heads : List ℕ) (place : ℕ → ℕ) → Rows z row g links heads texts chain place f → Rows z row g links heads texts' chain place f
  rows_text row g links heads place r = record {
    chains = r.chains;
    leaves = r.leaves;
    once = r.once;
    stands = λ h k inside i. ⊎_elim (λ (e : bucket row (text_of texts k) ≡ h). inl (ap (bucket row) (same k (inl (h, inside, i))) ∙ e))
        (λ (t : (g.shut ≡ 2 ^ row) × (bucket g.aim (text_of texts k) ≡ h)). inr (t.0, ap (bucket g.aim) (same k (inl (h, inside, i))) ∙ t.1)) (r.stands h k inside i);
    formed = λ h k inside i. subst Formed (sym (same k (inl (h, inside, i)))) (r.formed h k inside i);
    unlike = λ h g_ k q inside inside_too i j alive too e. r.unlike h g_ k q inside inside_too i j alive too (sym (same k (inl (h, inside, i))) ∙ (e ∙ same q (inl (g_, inside_too, j))));
  }

module _ (z : Size) (b : Board) (vs : List View) (r : Kept z b vs) (id : ℕ) (v : View) (s : SeatOk z b r.plan id v) where
  -- another seat's own slot is another
  other_slot : (j : ℕ) (w : View) (o : Own) (n : Own) → v.own ≡ Some o → j ≢ id → SeatOk z b r.plan j w → w.own ≡ Some n → n.slot ≢ o.slot
  other_slot j w o n own other sj owns e = other (sym (sj.own n owns).mine ∙ (ap r.plan.owner e ∙ (s.own o own).mine))

  -- the own slot is not dying
  own_lives : (o : Own) → v.own ≡ Some o → r.plan.fate.slot ≡ o.slot + 1 → ⊥
  own_lives o own e = let dying = r.slots.dies o.slot e in let state = (s.own o own).state in omega arith

  -- PUT A WORD OF THE TEXT
  module _ (o : Own) (x : ℕ) (own : v.own ≡ Some o) (unlinked : o.linked ≡ false) (more : length o.text < 32) where
    texts' : List ℕ
    texts' = set b.texts (32 * o.slot + length o.text) x

    linked_text : (q : ℕ) → Linked z.heads r.plan.chain q ⊎ (r.plan.fate.slot ≡ q + 1) → text_of (set b.texts (32 * o.slot + length o.text) x) q ≡ text_of b.texts q
    linked_text q l = text_else b.texts o.slot (length o.text) x q more (λ e. ⊎_elim (λ (t : Linked z.heads r.plan.chain q). (s.own o own).apart unlinked (subst (Linked z.heads r.plan.chain) e t))
        (λ (t : r.plan.fate.slot ≡ q + 1). own_lives o own (t ∙ ap (λ (n : ℕ). n + 1) e)) l)

    -- the slot that is picked is linked
    picked_text : (k : ℕ) (a : Held) → r.plan.grow.picked ≡ Some a → a.slot ≡ k → text_of (set b.texts (32 * o.slot + length o.text) x) k ≡ text_of b.texts k
    picked_text k a e at = linked_text k (inl (subst (Linked z.heads r.plan.chain) at (picked_linked z b.epoch b.row b.heads b.texts r.plan.chain r.plan.grow r.grow a e)))

    others_text : (j : ℕ) (w : View) → j ≢ id → SeatOk z b r.plan j w → SeatOk z (with_text b (32 * o.slot + length o.text) x) r.plan j w
    others_text j w other sj = let t : List ℕ = set b.texts (32 * o.slot + length o.text) x in record {
      size = sj.size;
      own = λ n e. let h = sj.own n e in record {
        inside = h.inside;
        mine = h.mine;
        usable = h.usable;
        state = h.state;
        short = h.short;
        text = ap (take (length n.text)) (text_else b.texts o.slot (length o.text) x n.slot more (other_slot j w o n own other sj e)) ∙ h.text;
        rest = λ un. subst (Rest n) (sym (text_else b.texts o.slot (length o.text) x n.slot more (other_slot j w o n own other sj e))) (h.rest un);
        link = h.link;
        apart = h.apart;
        linked = h.linked;
      };
      held = λ i a e. held_text z b.texts t r.plan.chain r.plan.fate linked_text b.atoms a (sj.held i a e);
      fixed = λ i a e. held_text z b.texts t r.plan.chain r.plan.fate linked_text b.atoms a (sj.fixed i a e);
      low = sj.low;
      counts = λ cs e. counts_text z b.texts t r.plan.chain r.plan.fate linked_text b.atoms r.plan.keeper j cs (sj.counts cs e);
      walk = λ w e. walk_text z b.texts t r.plan.chain r.plan.fate linked_text b.links b.heads w (sj.walk w e);
      marks = sj.marks;
      sweeps = sj.sweeps;
      trail = sj.trail;
      risen = sj.risen;
      unclosed = sj.unclosed;
      grows = sj.grows;
    }

    mine_text : SeatOk z (with_text b (32 * o.slot + length o.text) x) r.plan id (view_after v (PutWord x))
    mine_text = let t : List ℕ = set b.texts (32 * o.slot + length o.text) x in record {
      size = s.size;
      own = λ n e. let was = unmapped (putting x) v.own n e in let same : o ≡ was.0 = some_same o was.0 v.own own was.1 in
          subst (λ y. OwnOk z b.atoms b.links t r.plan.chain r.plan.owner id y) (ap (putting x) same ∙ was.2) (let h = s.own o own in record {
            inside = h.inside;
            mine = h.mine;
            usable = h.usable;
            state = h.state;
            short = simp (length-append {A = ℕ}) (omega arith);
            text = let n : length (o.text ++ x ∷ []) ≡ length o.text + 1 = simp (length-append {A = ℕ}) refl in ap (λ (i : ℕ). take i (text_of t o.slot)) n
                ∙ (text_put b.texts o.slot (length o.text) x z.slots r.sized.texts h.inside more ∙ ap (λ y. y ++ x ∷ []) h.text);
            rest = λ un. let many : length (o.text ++ x ∷ []) ≡ length o.text + 1 = simp (length-append {A = ℕ}) refl in (
              (λ i past later. word_else b.texts o.slot (length o.text) x i (λ e. omega arith) ∙ (h.rest un).0 i past (omega arith)),
              (λ none. absurd (let empty : length (o.text ++ x ∷ []) ≡ 0 = ap length none in omega arith)),
            );
            link = h.link;
            apart = h.apart;
            linked = λ l. let no : true ≡ false = sym l ∙ unlinked in cc;
          });
      held = λ i a e. held_text z b.texts t r.plan.chain r.plan.fate linked_text b.atoms a (s.held i a e);
      fixed = λ i a e. held_text z b.texts t r.plan.chain r.plan.fate linked_text b.atoms a (s.fixed i a e);
      low = s.low;
      counts = λ cs e. counts_text z b.texts t r.plan.chain r.plan.fate linked_text b.atoms r.plan.keeper id cs (s.counts cs e);
      walk = λ w e. walk_text z b.texts t r.plan.chain r.plan.fate linked_text b.links b.heads w (s.walk w e);
      marks = s.marks;
      sweeps = s.sweeps;
      trail = s.trail;
      risen = s.risen;
      unclosed = s.unclosed;
      grows = s.grows;
    }

    put_word_at : Kept z (with_text b (32 * o.slot + length o.text) x) (set vs id (view_after v (PutWord x)))
    put_word_at = record {
      plan = r.plan;
      sized = record { small = r.sized.small; acks = r.sized.acks; atoms = r.sized.atoms; links = r.sized.links; heads = r.sized.heads; texts = length-set b.texts (32 * o.slot + length o.text) x ∙ r.sized.texts };
      grow = grow_text z b.epoch b.row b.heads b.texts r.plan.chain r.plan.grow r.grow (set b.texts (32 * o.slot + length o.text) x) picked_text;
      rows = rows_text z b.texts (set b.texts (32 * o.slot + length o.text) x) r.plan.chain r.plan.fate linked_text b.row r.plan.grow b.links b.heads r.plan.place r.rows;
      slots = r.slots;
      cycle = r.cycle;
      sure = record {
        inside = r.sure.inside;
        state = r.sure.state;
        short = r.sure.short;
        text = λ on. ap (take (length r.plan.sweep.text)) (text_else b.texts o.slot (length o.text) x r.plan.sweep.cursor more (λ e. let state = (s.own o own).state in let here : state_of (get_or b.atoms r.plan.sweep.cursor 0) ≡ 1 = ap (λ (i : ℕ). state_of (get_or b.atoms i 0)) e ∙ state in
            ⊎_elim (λ (t : state_of (get_or b.atoms r.plan.sweep.cursor 0) ≡ 3). omega arith) (λ (t : state_of (get_or b.atoms r.plan.sweep.cursor 0) ≡ 2). omega arith) (r.sure.state on))) ∙ r.sure.text on;
      };
      blank = λ q ne. subst Formed (sym (text_else b.texts o.slot (length o.text) x q more (λ e. ne (ap (λ (i : ℕ). state_of (get_or b.atoms i 0)) e ∙ (s.own o own).state)))) (r.blank q ne);
      fate = r.fate;
      seats = seats_stay (SeatOk z (with_text b (32 * o.slot + length o.text) x) r.plan) vs id (view_after v (PutWord x)) (λ _. mine_text) (λ j w other at here. others_text j w other (r.seats j w at here));
    }

  pub keep_put_word : (x : ℕ) (b' : Board) → Does z b v (PutWord x) b' → Kept z b' (set vs id (view_after v (PutWord x)))
  keep_put_word x b' d = subst (λ y. Kept z y (set vs id (view_after v (PutWord x)))) (sym d.4) (put_word_at d.0 x d.1 d.2 d.3)

  -- THE FIRST WORD IS LOADED, and tells how many words another text has left; and THE OTHER WORDS ARE 0: steps on the view alone
  own_told : (f : Own → Own) (o : Own) (made : List Kind) → v.own ≡ Some o → OwnOk z b.atoms b.links b.texts r.plan.chain r.plan.owner id (f o) → Kept z b (set vs id (record v { own = option_map f v.own; made = made }))
  own_told f o made own ok = keep_view z b vs r id (record v { own = option_map f v.own; made = made }) record {
    size = s.size;
    own = λ n e. let was = unmapped f v.own n e in let same : o ≡ was.0 = some_same o was.0 v.own own was.1 in subst (OwnOk z b.atoms b.links b.texts r.plan.chain r.plan.owner id) (ap f same ∙ was.2) ok;
    held = s.held;
    fixed = s.fixed;
    low = s.low;
    counts = s.counts;
    walk = s.walk;
    marks = s.marks;
    sweeps = s.sweeps;
    trail = s.trail;
    risen = s.risen;
    unclosed = s.unclosed;
    grows = s.grows;
  }

  pub keep_measure : (x : ℕ) (b' : Board) → Does z b v (Measure x) b' → Kept z b' (set vs id (view_after v (Measure x)))
  keep_measure x b' d = let o : Own = d.0 in let h = s.own o d.1 in subst (λ y. Kept z y (set vs id (view_after v (Measure x)))) (sym d.5) (own_told (measuring x) o (v.made ++ Measure x ∷ []) d.1 record {
    inside = h.inside;
    mine = h.mine;
    usable = h.usable;
    state = h.state;
    short = h.short;
    text = h.text;
    rest = λ un. let formed = (h.rest un).1 d.3 in ((λ i past _. formed i (subst (λ (n : ℕ). filled n ≤ i) (sym d.4) past)), λ _. formed);
    link = h.link;
    apart = h.apart;
    linked = h.linked;
  })

  pub keep_fill : (b' : Board) → Does z b v Fill b' → Kept z b' (set vs id (view_after v Fill))
  keep_fill b' d = let o : Own = d.0 in let h = s.own o d.1 in let short = h.short in let full : length (padded o.text) ≡ 32 = padded_length o.text short in
      let long : length (text_of b.texts o.slot) ≡ 32 = text_length b.texts o.slot z.slots r.sized.texts h.inside in
      let row : text_of b.texts o.slot ≡ padded o.text = same_number_lists (text_of b.texts o.slot) (padded o.text) (long ∙ sym full) (λ i low. dite (dec_le (length o.text) i)
      (λ (past : length o.text ≤ i). ⊎_elim (λ (covered : o.bound ≤ length o.text). (h.rest d.2).0 i (omega arith) past) (λ (all : length o.text ≡ 32). absurd (omega arith)) d.3 ∙ sym (padded_behind o.text i past))
      (λ (here : ¬ (length o.text ≤ i)). sym (get_or-take (length o.text) (text_of b.texts o.slot) i 0 (omega arith)) ∙ (ap (λ (l : List ℕ). get_or l i 0) h.text ∙ sym (padded_here o.text i (omega arith))))) in
      subst (λ y. Kept z y (set vs id (view_after v Fill))) (sym d.4) (own_told filling_up o (v.made ++ Fill ∷ []) d.1 record {
        inside = h.inside;
        mine = h.mine;
        usable = h.usable;
        state = h.state;
        short = omega (arith, full);
        text = ap (λ (n : ℕ). take n (text_of b.texts o.slot)) full ∙ (take_all 32 (text_of b.texts o.slot) (omega (arith, long)) ∙ row);
        rest = λ un. ((λ i _ later. or_beyond (text_of b.texts o.slot) i 0 (omega (arith, long, full))), λ none. absurd (let many = ap length none in omega (arith, full, many)));
        link = h.link;
        apart = h.apart;
        linked = λ on. ((h.linked on).0, full);
      })

  -- PUT THE LINK WORD
  module _ (o : Own) (l : ℕ) (own : v.own ≡ Some o) (unlinked : o.linked ≡ false) where
    not_on : (h : ℕ) → h < z.heads → ¬ In o.slot (r.plan.chain h)
    not_on h inside i = (s.own o own).apart unlinked (h, inside, i)

    not_ahead : (w : Walk) (h : ℕ) → h < z.heads → In o.slot (r.plan.chain h) ⊎ Left r.plan.fate w o.slot → ⊥
    not_ahead w h inside i = ⊎_elim (not_on h inside) (λ (t : Left r.plan.fate w o.slot). own_lives o own t.0) i

    walk_link_word : (w : Walk) → WalkOk z b.links b.heads b.texts r.plan.chain r.plan.fate w → WalkOk z (set b.links o.slot l) b.heads b.texts r.plan.chain r.plan.fate w
    walk_link_word w h = record {
      inside = h.inside;
      short = h.short;
      past = h.past;
      word = h.word;
      claim = λ e. let u = h.claim e in record { path = u.path; reached = chain_else b.links o.slot l w.place u.path u.reached (λ i. not_ahead w w.head h.inside (u.inside o.slot i)); each = u.each; inside = u.inside; few = let f = u.few in omega (arith, length-set b.links o.slot l); part = u.part; dead = u.dead };
      lost = h.lost;
    }

    trail_link_word : (y : Sweeping) (w : Walk) → WalkOk z b.links b.heads b.texts r.plan.chain r.plan.fate w → Trail b.epoch b.row b.links b.heads r.plan.chain y w → Trail b.epoch b.row (set b.links o.slot l) b.heads r.plan.chain y w
    trail_link_word y w ok t = record {
      news = t.news;
      path = t.path;
      whole = t.whole;
      reached = chain_else b.links o.slot l w.place t.path t.reached (λ i. not_on w.head ok.inside (subst (In o.slot) (sym t.whole) (in_back o.slot t.news (slots w.seen ++ t.path) (in_back o.slot (slots w.seen) t.path i))));
      fresh = t.fresh;
      ahead = t.ahead;
      still = t.still;
    }

    others_link_word : (j : ℕ) (w : View) → j ≢ id → SeatOk z b r.plan j w → SeatOk z (with_link b o.slot l) r.plan j w
    others_link_word j w other sj = record {
      size = sj.size;
      own = λ n e. let h = sj.own n e in record {
        inside = h.inside;
        mine = h.mine;
        usable = h.usable;
        state = h.state;
        short = h.short;
        text = h.text;
        rest = h.rest;
        link = λ m is un. get_or-set_other b.links o.slot n.slot l 0 (other_slot j w o n own other sj e) ∙ h.link m is un;
        apart = h.apart;
        linked = h.linked;
      };
      held = sj.held;
      fixed = sj.fixed;
      low = sj.low;
      counts = sj.counts;
      walk = λ t e. walk_link_word t (sj.walk t e);
      marks = sj.marks;
      sweeps = sj.sweeps;
      trail = λ y t e f. trail_link_word y t (sj.walk t f) (sj.trail y t e f);
      risen = sj.risen;
      unclosed = sj.unclosed;
      grows = sj.grows;
    }

    mine_link_word : SeatOk z (with_link b o.slot l) r.plan id (view_after v (PutLink l))
    mine_link_word = record {
      size = s.size;
      own = λ n e. let was = unmapped (linking l) v.own n e in let same : o ≡ was.0 = some_same o was.0 v.own own was.1 in
          subst (λ y. OwnOk z b.atoms (set b.links o.slot l) b.texts r.plan.chain r.plan.owner id y) (ap (linking l) same ∙ was.2) (let h = s.own o own in record {
            inside = h.inside;
            mine = h.mine;
            usable = h.usable;
            state = h.state;
            short = h.short;
            text = h.text;
            rest = h.rest;
            link = λ m is un. let now : l ≡ m = cc in get_or-set_same b.links o.slot l 0 (omega (arith, h.inside, r.sized.links)) ∙ now;
            apart = h.apart;
            linked = h.linked;
          });
      held = s.held;
      fixed = s.fixed;
      low = s.low;
      counts = s.counts;
      walk = λ t e. walk_link_word t (s.walk t e);
      marks = s.marks;
      sweeps = s.sweeps;
      trail = λ y t e f. trail_link_word y t (s.walk t f) (s.trail y t e f);
      risen = s.risen;
      unclosed = s.unclosed;
      grows = s.grows;
    }

    put_link_at : Kept z (with_link b o.slot l) (set vs id (view_after v (PutLink l)))
    put_link_at = record {
      plan = r.plan;
      sized = record { small = r.sized.small; acks = r.sized.acks; atoms = r.sized.atoms; links = length-set b.links o.slot l ∙ r.sized.links; heads = r.sized.heads; texts = r.sized.texts };
      grow = r.grow;
      rows = record {
        chains = λ h inside whole. chain_else b.links o.slot l (first_of (get_or b.heads h 0)) (r.plan.chain h) (r.rows.chains h inside whole) (not_on h inside);
        leaves = λ ne. let h : ℕ = row_first b.row + r.plan.grow.moved in let t = r.grow.there ne in let inside : h < z.heads = old_inside z b.epoch b.row b.heads b.texts r.plan.chain r.plan.grow r.grow t.0 in
            chain_else b.links o.slot l (first_of (get_or b.heads h 0)) (r.plan.chain h ++ (r.plan.grow.moving - 1) ∷ []) (r.rows.leaves ne)
            (λ i. ⊎_elim (not_on h inside)
            (λ (u : In o.slot ((r.plan.grow.moving - 1) ∷ [])). ⊎_elim (λ (e : r.plan.grow.moving - 1 ≡ o.slot). (s.own o own).apart unlinked (subst (Linked z.heads r.plan.chain) e t.1)) (in_none o.slot) (in_cases o.slot (r.plan.grow.moving - 1) [] u))
            (in_either o.slot (r.plan.chain h) ((r.plan.grow.moving - 1) ∷ []) i));
        once = r.rows.once;
        stands = r.rows.stands;
        formed = r.rows.formed;
        unlike = r.rows.unlike;
      };
      slots = r.slots;
      cycle = r.cycle;
      sure = r.sure;
      blank = r.blank;
      fate = record {
        slot = r.fate.slot;
        out = r.fate.out;
        head = r.fate.head;
        idle = r.fate.idle;
        dies = λ ne. let d = r.fate.dies ne in record {
          sweeping = d.sweeping;
          at = d.at;
          high = d.high;
          inside = d.inside;
          there = d.there;
          behind = λ in_ y e. get_or-set_other b.links o.slot r.plan.sweep.cursor l 0 (λ same. own_lives o own (d.at ∙ ap (λ (n : ℕ). n + 1) same)) ∙ d.behind in_ y e;
          gone = d.gone;
          noted = d.noted;
          past = d.past;
        };
      };
      seats = seats_stay (SeatOk z (with_link b o.slot l) r.plan) vs id (view_after v (PutLink l)) (λ _. mine_link_word) (λ j w other at here. others_link_word j w other (r.seats j w at here));
    }

  pub keep_put_link : (l : ℕ) (b' : Board) → Does z b v (PutLink l) b' → Kept z b' (set vs id (view_after v (PutLink l)))
  keep_put_link l b' d = subst (λ y. Kept z y (set vs id (view_after v (PutLink l)))) (sym d.3) (put_link_at d.0 l d.1 d.2)
