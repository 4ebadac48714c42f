-- Each load keeps the rule.
use Rattle.std.proofs.Common.{◌≡◌, ◌≢◌, ℕ, suc, ◌+◌, ◌-◌, ◌<◌, ◌≤◌, true, false, List, [], ◌∷◌, ◌++◌, length, get_or, set, take, refl, sym, ap, ◌∙◌, subst, inl, inr, ⊎_elim, arith, Option, Some, None, take_all, length-append, append_assoc, ◌⊎◌}
use mathlib.Core.Option.{some}
use lib.ListN.{get_elem?}
use Rattle.atomic_table.proofs.Lists.{at_longer, at_last}
use Rattle.atom_words.specs.Layout.{state_of, first_of, closed_of, version_of, phase_of}
use Rattle.atom_words.proofs.Padding.{padded_is, all_is}
use Rattle.atom_words.specs.Board.{Board, text_of}
use mathlib.Core.List.{map-append}
use Rattle.atom_words.specs.Texts.{bucket, padded}
use Rattle.atom_words.specs.Chains.{In, Chain, Linked}
use Rattle.atom_words.specs.Kinds.{starting, reading, going_on, skipping, at_hand, whole_at_hand, held_at_hand, IsWhole, IsAll, Sitting, view_after, Does}
use Rattle.atom_words.specs.Kept.{Plan, Left, Safe, Acked, HeldOk, Seen, WalkOk, SeatOk, slots, Trail, Kept}
use Rattle.atom_words.specs.declared.size.Size.{Size}
use Rattle.atom_words.specs.declared.view.Held.{Held}
use Rattle.atom_words.specs.declared.view.Walk.{Walk}
use Rattle.atom_words.specs.declared.view.Passing.{Passing}
use Rattle.atom_words.specs.declared.view.Sweeping.{Sweeping}
use Rattle.atom_words.specs.declared.view.Growing.{Growing}
use Rattle.atom_words.specs.declared.view.Refusal.{Refusal}
use Rattle.atom_words.specs.declared.view.Cause.TheVariants.{Closed}
use Rattle.atom_words.specs.declared.view.Refusal.TheVariants.{Again}
use Rattle.atom_words.specs.declared.view.View.{View}
use Rattle.atom_words.specs.declared.kind.Kind.{Kind}
use Rattle.atom_words.specs.declared.kind.Kind.TheVariants.{Load, Refused, Start, Read, Next, Skip, Hold, Keep, Fix, StartPass, EndPass, Refuse, Barred, Ask}
use Rattle.atom_words.proofs.Slices.{mapped, some_is, in_none, in_append, in_later, in_cases, at_snoc, none_in, text_length, text_short, read_more, chain_at, chain_few}
use Rattle.atom_words.proofs.Rowing.{early_open, early_sweep, stands_early}
use Rattle.atom_words.proofs.Frames.{keep_view, marks_now, marks_walk}

module _ (z : Size) (b : Board) (p : Plan) (j : ℕ) (v : View) (s : SeatOk z b p j v) where
  -- a view that differs in the walk
  pub walks : (walk : Option Walk) (made : List Kind) → ((t : Walk) → walk ≡ Some t → WalkOk z b.links b.heads b.texts p.chain p.fate t)
      → ((w : Walk) (k : ℕ) → walk ≡ Some w → w.guarded ≡ true → w.place ≡ k + 1 → (t : Walk) × (v.walk ≡ Some t) × (t.guarded ≡ true) × (t.place ≡ k + 1))
      → ((y : Sweeping) (w : Walk) → v.sweep ≡ Some y → walk ≡ Some w → Trail b.epoch b.row b.links b.heads p.chain y w) → ((w : Walk) → walk ≡ Some w → (p.collector ≡ j → ⊥) → closed_of w.word ≡ 0) → SeatOk z b p j (record v { walk = walk; made = made })
  walks walk made ok was trail open_ = record {
    size = s.size;
    own = s.own;
    held = s.held;
    fixed = s.fixed;
    low = s.low;
    counts = s.counts;
    walk = ok;
    marks = marks_walk z b.epoch b.acks b.atoms p.engine p.sweep.cursor j v.cycle v.undealt v.held v.walk s.marks walk was;
    sweeps = s.sweeps;
    trail = trail;
    risen = s.risen;
    unclosed = open_;
    grows = s.grows;
  }

  -- a view that differs in nothing that the rule speaks of
  pub same : (pass : Option Passing) (refusals : List Refusal) (texts : List (List ℕ)) (made : List Kind) → SeatOk z b p j (record v { pass = pass; refusals = refusals; asked = texts; made = made })
  same pass refusals texts made = record {
    size = s.size;
    own = s.own;
    held = s.held;
    fixed = s.fixed;
    low = s.low;
    counts = s.counts;
    walk = s.walk;
    marks = s.marks;
    sweeps = s.sweeps;
    trail = s.trail;
    risen = s.risen;
    unclosed = s.unclosed;
    grows = s.grows;
  }

  -- one slot more is held, and no walk is at hand
  pub holding : (a : Held) (made : List Kind) → HeldOk z b.atoms b.texts p.chain a → (Acked b.epoch v.cycle → Safe b.epoch b.atoms p.sweep.cursor a.slot) → Sitting v → SeatOk z b p j (record v { held = v.held ++ a ∷ []; walk = None; made = made })
  holding a made ok safe sits = record {
    size = s.size;
    own = s.own;
    held = λ i x e. ⊎_elim (s.held i x) (λ (t : (i ≡ length v.held) × (a ≡ x)). subst (HeldOk z b.atoms b.texts p.chain) t.1 ok) (at_snoc v.held a x i e);
    fixed = s.fixed;
    low = s.low;
    counts = s.counts;
    walk = λ t e. cc;
    marks = marks_now z b.epoch b.acks b.atoms p.engine p.sweep.cursor j v.cycle v.undealt v.held v.walk s.marks (v.held ++ a ∷ []) None
        (λ acked x i. ⊎_elim (λ (t : get_elem? v.held i.0 ≡ some x). s.marks.held acked x (i.0, t))
        (λ (t : (i.0 ≡ length v.held) × (a ≡ x)). subst (λ (y : Held). (state_of (get_or b.atoms y.slot 0) ≡ 3) × Safe b.epoch b.atoms p.sweep.cursor y.slot) t.1 (ok.valid, safe acked)) (at_snoc v.held a x i.0 i.1))
        (λ none dealt. absurd (⊎_elim (λ (t : v.cycle.engine ≢ 0). t none) (λ (t : 0 < v.undealt). omega arith) sits))
        (λ w k e. cc);
    sweeps = s.sweeps;
    trail = λ y w e none. cc;
    risen = s.risen;
    unclosed = λ w none. cc;
    grows = s.grows;
  }

module _ (z : Size) (b : Board) (vs : List View) (r : Kept z b vs) (id : ℕ) (v : View) (s : SeatOk z b r.plan id v) where
  abbrev Walks : Walk → Type 0
  Walks w = WalkOk z b.links b.heads b.texts r.plan.chain r.plan.fate w

  -- at the start all slots of the chain are still to come
  start_ok : (h x : ℕ) → h < z.heads → get_or b.heads h 0 ≡ x → Chain b.links (first_of (get_or b.heads h 0)) (r.plan.chain h) → WalkOk z b.links b.heads b.texts r.plan.chain r.plan.fate (starting h x)
  start_ok h x inside found whole = record {
    inside = inside;
    short = omega arith;
    past = subst (λ (n : ℕ). version_of x ≤ version_of n) (sym found) (omega arith);
    word = λ _. found;
    claim = λ _. record {
      path = r.plan.chain h;
      reached = subst (λ (n : ℕ). Chain b.links (first_of n) (r.plan.chain h)) found whole;
      each = λ k i _. inr i;
      inside = λ k i. inl i;
      few = let f = chain_few b.links (first_of (get_or b.heads h 0)) (r.plan.chain h) whole in omega (arith, f);
      part = λ k e. refl;
      dead = λ k e g. cc;
    };
    lost = λ e. cc;
  }

  -- the word that is read is the text's next
  read_ok : (w : Walk) (k x : ℕ) → WalkOk z b.links b.heads b.texts r.plan.chain r.plan.fate w → w.place ≡ k + 1 → length w.part < 32 → get_or (text_of b.texts k) (length w.part) 0 ≡ x
      → WalkOk z b.links b.heads b.texts r.plan.chain r.plan.fate (reading x w)
  read_ok w k x ok place more found = record {
    inside = ok.inside;
    short = simp (length-append {A = ℕ}) (omega arith);
    past = ok.past;
    word = ok.word;
    claim = λ same_. let u = ok.claim same_ in let c = chain_at b.links k u.path (subst (λ (n : ℕ). Chain b.links n u.path) place u.reached) in
        let wide : length (text_of b.texts k) ≡ 32 = text_length b.texts k z.slots r.sized.texts (omega (arith, c.2, r.sized.links)) in record {
          path = u.path;
          reached = u.reached;
          each = u.each;
          inside = u.inside;
          few = u.few;
          part = λ q e. let at : k ≡ q = omega arith in subst (λ (i : ℕ). take (length (w.part ++ x ∷ [])) (text_of b.texts i) ≡ w.part ++ x ∷ []) at
              (subst (λ (y : ℕ). take (length (w.part ++ y ∷ [])) (text_of b.texts k) ≡ w.part ++ y ∷ []) found (read_more (text_of b.texts k) w.part (omega arith) (u.part k place)));
          dead = u.dead;
        };
    lost = ok.lost;
  }

  -- the walk has seen the slot at hand, and goes on after it
  next_ok : (w : Walk) (k x : ℕ) → WalkOk z b.links b.heads b.texts r.plan.chain r.plan.fate w → w.place ≡ k + 1 → get_or b.links k 0 ≡ x → WalkOk z b.links b.heads b.texts r.plan.chain r.plan.fate (going_on x w)
  next_ok w k x ok place found = record {
    inside = ok.inside;
    short = omega arith;
    past = ok.past;
    word = ok.word;
    claim = λ same_. let u = ok.claim same_ in let c = chain_at b.links k u.path (subst (λ (n : ℕ). Chain b.links n u.path) place u.reached) in record {
      path = c.0;
      reached = subst (λ (n : ℕ). Chain b.links n c.0) found c.3;
      each = λ q i alive. ⊎_elim
          (λ (t : Seen b.texts w.seen q). inl (t.0, t.1, at_longer w.seen (at_hand w ∷ []) t.0 t.1 t.2, t.3, t.4))
          (λ (t : In q u.path). ⊎_elim
          (λ (e : k ≡ q). inl (length w.seen, at_hand w, at_last w.seen (at_hand w) (length w.seen) refl, omega arith, subst (λ (n : ℕ). take (length w.part) (text_of b.texts n) ≡ w.part) e (u.part k place)))
          (λ (l : In q c.0). inr l)
          (in_cases q k c.0 (subst (In q) c.1 t)))
          (u.each q i alive);
      inside = λ q i. u.inside q (subst (In q) (sym c.1) (in_later q k c.0 i));
      few = let long : length u.path ≡ suc (length c.0) = ap length c.1 in let f = u.few in simp (length-append {A = Held}) (omega arith);
      part = λ q e. refl;
      dead = λ q e g. cc;
    };
    lost = ok.lost;
  }

  -- the slot at hand is the dying one, and the walk goes on after it
  skip_ok : (w : Walk) (k x : ℕ) → WalkOk z b.links b.heads b.texts r.plan.chain r.plan.fate w → w.place ≡ k + 1 → w.dead ≡ true → get_or b.links k 0 ≡ x → WalkOk z b.links b.heads b.texts r.plan.chain r.plan.fate (skipping x w)
  skip_ok w k x ok place dead found = record {
    inside = ok.inside;
    short = omega arith;
    past = ok.past;
    word = ok.word;
    claim = λ same_. let u = ok.claim same_ in let c = chain_at b.links k u.path (subst (λ (n : ℕ). Chain b.links n u.path) place u.reached) in let dying = u.dead k place dead in record {
      path = c.0;
      reached = subst (λ (n : ℕ). Chain b.links n c.0) found c.3;
      each = λ q i alive. ⊎_elim
          (λ (t : Seen b.texts w.seen q). inl t)
          (λ (t : In q u.path). ⊎_elim (λ (e : k ≡ q). absurd (alive (sym (dying ∙ ap (λ (n : ℕ). n + 1) e)))) (λ (l : In q c.0). inr l) (in_cases q k c.0 (subst (In q) c.1 t)))
          (u.each q i alive);
      inside = λ q i. u.inside q (subst (In q) (sym c.1) (in_later q k c.0 i));
      few = let long : length u.path ≡ suc (length c.0) = ap length c.1 in let f = u.few in omega arith;
      part = λ q e. refl;
      dead = λ q e g. cc;
    };
    lost = ok.lost;
  }

  -- a valid slot that a walk stands at, at the walk's version, stands in the chain
  pub in_chain : (w : Walk) (k : ℕ) → (ok : WalkOk z b.links b.heads b.texts r.plan.chain r.plan.fate w) → w.place ≡ k + 1 → version_of (get_or b.heads w.head 0) ≡ version_of w.word → state_of (get_or b.atoms k 0) ≡ 3 → In k (r.plan.chain w.head)
  in_chain w k ok place same_ valid = let u = ok.claim same_ in let c = chain_at b.links k u.path (subst (λ (n : ℕ). Chain b.links n u.path) place u.reached) in
      ⊎_elim (λ (t : In k (r.plan.chain w.head)). t) (λ (t : Left r.plan.fate w k). absurd (let dying = r.slots.dies k t.0 in omega arith)) (u.inside k (subst (In k) (sym c.1) (0, refl)))

  -- what a walk ends with at its version
  hold_ok : (w : Walk) (k : ℕ) → WalkOk z b.links b.heads b.texts r.plan.chain r.plan.fate w → w.place ≡ k + 1 → state_of (get_or b.atoms k 0) ≡ 3 → IsWhole w.part → version_of (get_or b.heads w.head 0) ≡ version_of w.word
      → HeldOk z b.atoms b.texts r.plan.chain (whole_at_hand w)
  hold_ok w k ok place valid whole same_ = let u = ok.claim same_ in let c = chain_at b.links k u.path (subst (λ (n : ℕ). Chain b.links n u.path) place u.reached) in let slot : k ≡ w.place - 1 = omega arith in
      let on = in_chain w k ok place same_ valid in let long = text_length b.texts k z.slots r.sized.texts (omega (arith, c.2, r.sized.links)) in
      subst (λ (n : ℕ). HeldOk z b.atoms b.texts r.plan.chain (record { slot = n; text = padded w.part })) slot record {
        inside = omega (arith, c.2, r.sized.links);
        valid = valid;
        linked = (w.head, ok.inside, on);
        text = padded_is (text_of b.texts k) w.part long (u.part k place) whole.0 whole.1 (r.rows.formed w.head k ok.inside on);
      }

  -- the slot at the cursor, whose text was spelled, stands in the chain of its text's bucket
  sure_on : (h : ℕ) (y : Sweeping) → phase_of b.epoch ≡ 2 → v.sweep ≡ Some y → y.sure ≡ true → IsAll y.text → y.unlinked ≡ false → bucket b.row (padded y.text) ≡ h → In y.cursor (r.plan.chain h)
  sure_on h y two sweep on whole in_ at = let same_ : r.plan.sweep ≡ y = (s.sweeps y sweep).1 in let k : ℕ = r.plan.sweep.cursor in
      let on' : r.plan.sweep.sure ≡ true = ap (λ (q : Sweeping). q.sure) same_ ∙ on in let text : r.plan.sweep.text ≡ y.text = ap (λ (q : Sweeping). q.text) same_ in
      let find : Linked z.heads r.plan.chain k = ⊎_elim (λ (valid : state_of (get_or b.atoms k 0) ≡ 3). r.slots.valid k valid)
      (λ (dying : state_of (get_or b.atoms k 0) ≡ 2). let slot : r.plan.fate.slot ≡ k + 1 = r.slots.only k dying in let f = r.fate.dies (λ none. omega arith) in
      (r.plan.fate.head, f.inside, (f.there (sym r.fate.out ∙ (ap (λ (q : Sweeping). q.unlinked) same_ ∙ in_))).0)) (r.sure.state on') in
      let all : text_of b.texts k ≡ padded r.plan.sweep.text = all_is (text_of b.texts k) r.plan.sweep.text (text_length b.texts k z.slots r.sized.texts (r.sure.inside on')) (r.sure.text on') (subst IsAll (sym text) whole) (r.rows.formed find.0 k find.1 find.2) in
      let head : find.0 ≡ h = sym (stands_early z b.row r.plan.grow b.links b.heads b.texts r.plan.chain r.plan.place r.plan.fate r.rows (early_sweep z b vs r two) find.0 k find.1 find.2) ∙ (ap (bucket b.row) (all ∙ ap padded text) ∙ at) in
      subst (λ (g : ℕ). In y.cursor (r.plan.chain g)) head (subst (λ (q : ℕ). In q (r.plan.chain find.0)) (ap (λ (q : Sweeping). q.cursor) same_) find.2)

  -- the collector's walk, at its start and as it goes on
  start_trail : (h x : ℕ) (y : Sweeping) → get_or b.heads h 0 ≡ x → Chain b.links (first_of (get_or b.heads h 0)) (r.plan.chain h) → v.sweep ≡ Some y → Trail b.epoch b.row b.links b.heads r.plan.chain y (starting h x)
  start_trail h x y found whole sweep = record {
    news = [];
    path = r.plan.chain h;
    whole = refl;
    reached = subst (λ (n : ℕ). Chain b.links (first_of n) (r.plan.chain h)) found whole;
    fresh = λ _ early. subst (λ (n : ℕ). version_of n < 4398046511103) (sym found) early;
    ahead = λ two on whole in_ at. sure_on h y two sweep on whole in_ at;
    still = λ _. found;
  }

  next_trail : (w : Walk) (k x : ℕ) (y : Sweeping) → Trail b.epoch b.row b.links b.heads r.plan.chain y w → w.place ≡ k + 1 → get_or b.links k 0 ≡ x → Trail b.epoch b.row b.links b.heads r.plan.chain y (going_on x w)
  next_trail w k x y t place found = let c = chain_at b.links k t.path (subst (λ (n : ℕ). Chain b.links n t.path) place t.reached) in let slot : w.place - 1 ≡ k = omega arith in
      let moved : slots w.seen ++ t.path ≡ slots (w.seen ++ at_hand w ∷ []) ++ c.0 = ap (λ (l : List ℕ). slots w.seen ++ l) c.1 ∙ (ap (λ (q : ℕ). slots w.seen ++ q ∷ c.0) (sym slot) ∙ (sym (append_assoc (slots w.seen) ((w.place - 1) ∷ []) c.0) ∙ ap (λ (l : List ℕ). l ++ c.0) (sym (map-append (λ (a : Held). a.slot) w.seen (at_hand w ∷ []))))) in record {
        news = t.news;
        path = c.0;
        whole = t.whole ∙ ap (λ (l : List ℕ). t.news ++ l) moved;
        reached = subst (λ (n : ℕ). Chain b.links n c.0) found c.3;
        fresh = t.fresh;
        ahead = λ two on whole in_ at. subst (In y.cursor) moved (t.ahead two on whole in_ at);
        still = t.still;
      }

  keep_same : (b' : Board) (w : View) → b' ≡ b → SeatOk z b r.plan id w → Kept z b' (set vs id w)
  keep_same b' w e ok = subst (λ y. Kept z y (set vs id w)) (sym e) (keep_view z b vs r id w ok)

  pub keep_load : (i x : ℕ) (b' : Board) → Does z b v (Load i x) b' → Kept z b' (set vs id (view_after v (Load i x)))
  keep_load i x b' d = keep_same b' (view_after v (Load i x)) d.1 (same z b r.plan id v s v.pass v.refusals v.asked (v.made ++ Load i x ∷ []))

  pub keep_refused : (k old found : ℕ) (b' : Board) → Does z b v (Refused k old found) b' → Kept z b' (set vs id (view_after v (Refused k old found)))
  keep_refused k old found b' d = keep_same b' (view_after v (Refused k old found)) d.3 (same z b r.plan id v s (view_after v (Refused k old found)).pass v.refusals v.asked (v.made ++ Refused k old found ∷ []))

  -- the chain of a head at which a walk begins is whole: the head is open, or the collector moves no slot
  started : (h x : ℕ) → h < z.heads → get_or b.heads h 0 ≡ x → (closed_of x ≡ 0) ⊎ ((v.sweep ≢ None) × (v.growing.moving ≡ 0)) → Chain b.links (first_of (get_or b.heads h 0)) (r.plan.chain h)
  started h x inside found open_ = r.rows.chains h inside (λ l. ⊎_elim
      (λ (e : closed_of x ≡ 0). l.0 (r.grow.rest (inl (early_open z b.epoch b.row b.heads b.texts r.plan.chain r.plan.grow r.grow h inside (ap closed_of found ∙ e)))).1)
      (λ (t : (v.sweep ≢ None) × (v.growing.moving ≡ 0)). let y = some_is v.sweep t.0 in l.0 (ap (λ (g : Growing). g.moving) (s.grows y.0 y.1) ∙ t.1)) open_)

  pub keep_start : (h x : ℕ) (b' : Board) → Does z b v (Start h x) b' → Kept z b' (set vs id (view_after v (Start h x)))
  keep_start h x b' d = let whole = started h x d.0 d.1 d.2 in keep_same b' (view_after v (Start h x)) d.3 (walks z b r.plan id v s (Some (starting h x)) (v.made ++ Start h x ∷ [])
      (λ t e. let is : starting h x ≡ t = cc in subst (λ y. WalkOk z b.links b.heads b.texts r.plan.chain r.plan.fate y) is (start_ok h x d.0 d.1 whole))
      (λ t k e g. absurd (let is : starting h x ≡ t = cc in let no = ap (λ (y : Walk). y.guarded) is ∙ g in cc))
      (λ y t e f. let is : starting h x ≡ t = cc in subst (λ q. Trail b.epoch b.row b.links b.heads r.plan.chain y q) is (start_trail h x y d.1 whole e))
      (λ t e else. let is : starting h x ≡ t = cc in ap (λ (q : Walk). closed_of q.word) (sym is) ∙ ⊎_elim (λ (c : closed_of x ≡ 0). c)
      (λ (u : (v.sweep ≢ None) × (v.growing.moving ≡ 0)). absurd (let y = some_is v.sweep u.0 in else (s.sweeps y.0 y.1).0)) d.2))

  pub keep_read : (x : ℕ) (b' : Board) → Does z b v (Read x) b' → Kept z b' (set vs id (view_after v (Read x)))
  keep_read x b' d = keep_same b' (view_after v (Read x)) d.6 (walks z b r.plan id v s (view_after v (Read x)).walk (v.made ++ Read x ∷ [])
      (λ t e. subst (λ y. WalkOk z b.links b.heads b.texts r.plan.chain r.plan.fate y) (mapped (reading x) v.walk d.0 t d.2 e) (read_ok d.0 d.1 x (s.walk d.0 d.2) d.3 d.4 d.5))
      (λ t k e g at. let is = mapped (reading x) v.walk d.0 t d.2 e in (d.0, d.2, ap (λ (y : Walk). y.guarded) is ∙ g, ap (λ (y : Walk). y.place) is ∙ at))
      (λ y t e f. let o = s.trail y d.0 e d.2 in subst (λ q. Trail b.epoch b.row b.links b.heads r.plan.chain y q) (mapped (reading x) v.walk d.0 t d.2 f) record { news = o.news; path = o.path; whole = o.whole; reached = o.reached; fresh = o.fresh; ahead = o.ahead; still = o.still })
      (λ t e else. ap (λ (q : Walk). closed_of q.word) (sym (mapped (reading x) v.walk d.0 t d.2 e)) ∙ s.unclosed d.0 d.2 else))

  pub keep_next : (x : ℕ) (b' : Board) → Does z b v (Next x) b' → Kept z b' (set vs id (view_after v (Next x)))
  keep_next x b' d = keep_same b' (view_after v (Next x)) d.5 (walks z b r.plan id v s (view_after v (Next x)).walk (v.made ++ Next x ∷ [])
      (λ t e. subst (λ y. WalkOk z b.links b.heads b.texts r.plan.chain r.plan.fate y) (mapped (going_on x) v.walk d.0 t d.2 e) (next_ok d.0 d.1 x (s.walk d.0 d.2) d.3 d.4))
      (λ t k e g. absurd (let no = ap (λ (y : Walk). y.guarded) (mapped (going_on x) v.walk d.0 t d.2 e) ∙ g in cc))
      (λ y t e f. subst (λ q. Trail b.epoch b.row b.links b.heads r.plan.chain y q) (mapped (going_on x) v.walk d.0 t d.2 f) (next_trail d.0 d.1 x y (s.trail y d.0 e d.2) d.3 d.4))
      (λ t e else. ap (λ (q : Walk). closed_of q.word) (sym (mapped (going_on x) v.walk d.0 t d.2 e)) ∙ s.unclosed d.0 d.2 else))

  pub keep_skip : (x : ℕ) (b' : Board) → Does z b v (Skip x) b' → Kept z b' (set vs id (view_after v (Skip x)))
  keep_skip x b' d = keep_same b' (view_after v (Skip x)) d.7 (walks z b r.plan id v s (view_after v (Skip x)).walk (v.made ++ Skip x ∷ [])
      (λ t e. subst (λ y. WalkOk z b.links b.heads b.texts r.plan.chain r.plan.fate y) (mapped (skipping x) v.walk d.0 t d.2 e) (skip_ok d.0 d.1 x (s.walk d.0 d.2) d.4 d.5 d.6))
      (λ t k e g. absurd (let no = ap (λ (y : Walk). y.guarded) (mapped (skipping x) v.walk d.0 t d.2 e) ∙ g in cc))
      (λ y t e. absurd (let no : None ≡ Some y = sym d.3 ∙ e in cc))
      (λ t e else. ap (λ (q : Walk). closed_of q.word) (sym (mapped (skipping x) v.walk d.0 t d.2 e)) ∙ s.unclosed d.0 d.2 else))

  pub keep_hold : (b' : Board) → Does z b v Hold b' → Kept z b' (set vs id (view_after v Hold))
  keep_hold b' d = let g = s.marks.guard d.0 d.1 d.2 d.4 d.3 d.7 in
      let ok : SeatOk z b r.plan id (record v { held = v.held ++ whole_at_hand d.0 ∷ []; walk = None; made = v.made ++ Hold ∷ [] }) = holding z b r.plan id v s (whole_at_hand d.0) (v.made ++ Hold ∷ []) (hold_ok d.0 d.1 (s.walk d.0 d.2) d.3 g.0 d.5 d.6)
      (λ acked. let slot : d.1 ≡ d.0.place - 1 = omega (arith, d.3) in subst (Safe b.epoch b.atoms r.plan.sweep.cursor) slot (g.1 acked)) d.7 in
      keep_same b' (view_after v Hold) d.8 (subst (λ (y : Option Walk). SeatOk z b r.plan id (record v { held = v.held ++ held_at_hand y; walk = None; made = v.made ++ Hold ∷ [] })) (sym d.2) ok)

  pub keep_keep : (those : List Held) (b' : Board) → Does z b v (Keep those) b' → Kept z b' (set vs id (view_after v (Keep those)))
  keep_keep those b' d = keep_same b' (view_after v (Keep those)) d.1 record {
    size = s.size;
    own = s.own;
    held = λ i a e. let t = d.0 a (i, e) in s.held t.0 a t.1;
    fixed = s.fixed;
    low = s.low;
    counts = s.counts;
    walk = s.walk;
    marks = marks_now z b.epoch b.acks b.atoms r.plan.engine r.plan.sweep.cursor id v.cycle v.undealt v.held v.walk s.marks those v.walk (λ acked a i. s.marks.held acked a (d.0 a i))
        (λ none dealt. none_in those (λ a i. in_none a (subst (In a) (s.marks.nothing none dealt) (d.0 a i)))) s.marks.guard;
    sweeps = s.sweeps;
    trail = s.trail;
    risen = s.risen;
    unclosed = s.unclosed;
    grows = s.grows;
  }

  pub keep_fix : (b' : Board) → Does z b v Fix b' → Kept z b' (set vs id (view_after v Fix))
  keep_fix b' d = keep_same b' (view_after v Fix) d.1 record {
    size = s.size;
    own = s.own;
    held = λ i a e. absurd (in_none a (i, e));
    fixed = λ i a e. ⊎_elim (λ (t : get_elem? v.fixed i ≡ some a). s.fixed i a t) (λ (t : In a v.held). s.held t.0 a t.1) (in_append v.fixed v.held i a e);
    low = λ i a e. ⊎_elim (λ (t : get_elem? v.fixed i ≡ some a). s.low i a t) (λ (t : In a v.held). d.0 a t) (in_append v.fixed v.held i a e);
    counts = s.counts;
    walk = s.walk;
    marks = marks_now z b.epoch b.acks b.atoms r.plan.engine r.plan.sweep.cursor id v.cycle v.undealt v.held v.walk s.marks [] v.walk (λ acked a i. absurd (in_none a i)) (λ _ _. refl) s.marks.guard;
    sweeps = s.sweeps;
    trail = s.trail;
    risen = s.risen;
    unclosed = s.unclosed;
    grows = s.grows;
  }

  pub keep_start_pass : (x : ℕ) (b' : Board) → Does z b v (StartPass x) b' → Kept z b' (set vs id (view_after v (StartPass x)))
  keep_start_pass x b' d = keep_same b' (view_after v (StartPass x)) d.1 (same z b r.plan id v s (view_after v (StartPass x)).pass v.refusals v.asked (v.made ++ StartPass x ∷ []))

  pub keep_end_pass : (x : ℕ) (b' : Board) → Does z b v (EndPass x) b' → Kept z b' (set vs id (view_after v (EndPass x)))
  keep_end_pass x b' d = keep_same b' (view_after v (EndPass x)) d.3 (same z b r.plan id v s None (view_after v (EndPass x)).refusals v.asked (v.made ++ EndPass x ∷ []))

  pub keep_refuse : (c : Refusal) (b' : Board) → Does z b v (Refuse c) b' → Kept z b' (set vs id (view_after v (Refuse c)))
  keep_refuse c b' d = keep_same b' (view_after v (Refuse c)) d.1 (same z b r.plan id v s v.pass (v.refusals ++ c ∷ []) v.asked (v.made ++ Refuse c ∷ []))

  pub keep_barred : (h x : ℕ) (b' : Board) → Does z b v (Barred h x) b' → Kept z b' (set vs id (view_after v (Barred h x)))
  keep_barred h x b' d = keep_same b' (view_after v (Barred h x)) d.3 (same z b r.plan id v s v.pass (v.refusals ++ Again (Closed x) ∷ []) v.asked (v.made ++ Barred h x ∷ []))

  pub keep_ask : (t : List ℕ) (b' : Board) → Does z b v (Ask t) b' → Kept z b' (set vs id (view_after v (Ask t)))
  keep_ask t b' d = keep_same b' (view_after v (Ask t)) d (same z b r.plan id v s v.pass v.refusals (v.asked ++ t ∷ []) (v.made ++ Ask t ∷ []))
