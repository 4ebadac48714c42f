-- Each step of the sweep keeps the rule.
use Rattle.std.proofs.Common.{◌≡◌, ◌⊎◌, ℕ, ◌<◌, ◌≤◌, true, List, [], ◌∷◌, ◌++◌, length, get_or, set, take, refl, sym, ap, ◌∙◌, subst, inl, inr, ⊎_elim, arith, Option, Some, None, option_map, length-append, eqb-true}
use Rattle.atom_words.specs.Layout.{state_of, version_of, epoch_word, phase_of, epoch_of}
use Rattle.atom_words.specs.Board.{Board, text_of, with_epoch}
use Rattle.atom_words.specs.Kinds.{Sweeps, looking, spelling, with_behind, noting, moving_past, ending, view_after, Does}
use Rattle.atom_words.specs.Kept.{MarksOk, SeatOk, SureOk, FateOk, Trail, Kept}
use Rattle.atom_words.specs.declared.size.Size.{Size}
use Rattle.atom_words.specs.declared.view.Walk.{Walk}
use Rattle.atom_words.specs.declared.view.Sweeping.{Sweeping}
use Rattle.atom_words.specs.declared.view.View.{View}
use Rattle.atom_words.specs.declared.kind.Kind.{Kind}
use Rattle.atom_words.specs.declared.kind.Kind.TheVariants.{Look, Spell, Behind, Note, Past, End}
use Rattle.atom_words.proofs.Layouts.{phase-epoch_word, epoch-epoch_word}
use Rattle.atom_words.proofs.Slices.{text_length, read_more}
use Rattle.atom_words.proofs.Padding.{not_all}
use Rattle.atom_words.proofs.Puts.{unmapped}
use Rattle.atom_words.proofs.Frames.{marks_walk}
use Rattle.atom_words.proofs.Cycles.{collector_step, own_trail, sure_same}

module _ (z : Size) (b : Board) (vs : List View) (r : Kept z b vs) (id : ℕ) (v : View) (s : SeatOk z b r.plan id v) where
  -- what the collector knows is in the plan
  pub known : (y : Sweeping) → v.sweep ≡ Some y → r.plan.sweep ≡ y
  known y at = (s.sweeps y at).1

  pub swept_by : (y : Sweeping) → Sweeps v y → phase_of b.epoch ≡ 2
  swept_by y q = ap phase_of (sym r.cycle.word ∙ ap (λ (t : Sweeping). t.word) (known y q.0)) ∙ q.1

  pub idle_by : (y : Sweeping) → v.sweep ≡ Some y → y.dying ≡ 0 → r.plan.fate.slot ≡ 0
  idle_by y at none = sym r.fate.slot ∙ (ap (λ (t : Sweeping). t.dying) (known y at) ∙ none)

  -- no slot is dying
  fate_idle : (epoch' : ℕ) (f : Sweeping → Sweeping) → (f r.plan.sweep).dying ≡ r.plan.sweep.dying → (f r.plan.sweep).unlinked ≡ r.plan.sweep.unlinked → (f r.plan.sweep).head ≡ r.plan.sweep.head → r.plan.fate.slot ≡ 0
      → FateOk z epoch' b.links b.heads r.plan.chain (f r.plan.sweep) r.plan.fate
  fate_idle epoch' f dying unlinked head none = record { slot = dying ∙ r.fate.slot; out = unlinked ∙ r.fate.out; head = head ∙ r.fate.head; idle = r.fate.idle; dies = λ ne. absurd (ne none) }

  -- LOADS of the collector: epoch, cursor and checked engines stay, and the walk stays or ends
  quiet : (f : Sweeping → Sweeping) (walk : Option Walk) (made : List Kind) (y : Sweeping) → v.sweep ≡ Some y → (walk ≡ v.walk) ⊎ (walk ≡ None)
      → (f r.plan.sweep).word ≡ r.plan.sweep.word → (f r.plan.sweep).checked ≡ r.plan.sweep.checked → (f r.plan.sweep).cursor ≡ r.plan.sweep.cursor
      → SureOk z b.atoms b.texts (f r.plan.sweep) → FateOk z b.epoch b.links b.heads r.plan.chain (f r.plan.sweep) r.plan.fate
      → ((q : Sweeping) (w : Walk) → option_map f v.sweep ≡ Some q → walk ≡ Some w → Trail b.epoch b.row b.links b.heads r.plan.chain q w)
      → Kept z b (set vs id (record v { walk = walk; sweep = option_map f v.sweep; made = made }))
  quiet f walk made y at walks word checked cursor sure fate trail =
      let same_walk : (w : Walk) → walk ≡ Some w → v.walk ≡ Some w = (λ w e. ⊎_elim (λ (is : walk ≡ v.walk). sym is ∙ e) (λ (none : walk ≡ None). cc) walks) in
      let moved : (j : ℕ) (x : View) → MarksOk z b.epoch b.acks b.atoms r.plan.engine r.plan.sweep.cursor j x.cycle x.undealt x.held x.walk → MarksOk z b.epoch b.acks b.atoms r.plan.engine (f r.plan.sweep).cursor j x.cycle x.undealt x.held x.walk =
      (λ j x m. subst (λ (n : ℕ). MarksOk z b.epoch b.acks b.atoms r.plan.engine n j x.cycle x.undealt x.held x.walk) (sym cursor) m) in
      collector_step z b vs r id v s b.epoch f (record v { walk = walk; sweep = option_map f v.sweep; made = made }) y at
      record {
        size = s.size;
        own = s.own;
        held = s.held;
        fixed = s.fixed;
        low = s.low;
        counts = s.counts;
        walk = λ w e. s.walk w (same_walk w e);
        marks = marks_walk z b.epoch b.acks b.atoms r.plan.engine (f r.plan.sweep).cursor id v.cycle v.undealt v.held v.walk (moved id v s.marks) walk (λ w k e g place. (w, same_walk w e, g, place));
        sweeps = λ q has_. let was = unmapped f v.sweep q has_ in ((s.sweeps y at).0, ap f (s.sweeps was.0 was.1).1 ∙ was.2);
        trail = trail;
        risen = s.risen;
        unclosed = λ w e. s.unclosed w (same_walk w e);
        grows = λ q has_. let was = unmapped f v.sweep q has_ in s.grows was.0 was.1;
      }
      record {
        word = word ∙ r.cycle.word;
        phase = r.cycle.phase;
        begun = r.cycle.begun;
        few = subst (λ (n : ℕ). n ≤ z.engines) (sym checked) r.cycle.few;
        checked = λ marking e below. r.cycle.checked marking e (subst (λ (n : ℕ). e < n) checked below);
        swept = r.cycle.swept;
        cursor = subst (λ (n : ℕ). n ≤ z.slots) (sym cursor) r.cycle.cursor;
      }
      sure fate (λ j x q. moved j x q.marks) r.grow.idle

  pub keep_look : (x : ℕ) (b' : Board) → Does z b v (Look x) b' → Kept z b' (set vs id (view_after v (Look x)))
  keep_look x b' d = let y : Sweeping = d.0 in let at = d.1.0 in let is = known y at in let here : r.plan.sweep.cursor ≡ y.cursor = ap (λ (t : Sweeping). t.cursor) is in
      let word : get_or b.atoms r.plan.sweep.cursor 0 ≡ x = ap (λ (k : ℕ). get_or b.atoms k 0) here ∙ d.4 in
      subst (λ t. Kept z t (set vs id (view_after v (Look x)))) (sym d.5) (quiet (looking x) v.walk (v.made ++ Look x ∷ []) y at (inl refl) refl refl refl
      record {
        inside = λ _. subst (λ (k : ℕ). k < z.slots) (sym here) d.3;
        state = λ on. inl (ap state_of word ∙ eqb-true (state_of x) 3 on);
        short = omega arith;
        text = λ _. refl;
      }
      (fate_idle b.epoch (looking x) refl refl refl (idle_by y at d.2))
      (own_trail z b vs r id v s b.epoch (looking x) v.walk (λ q w _ t. record { news = t.news; path = t.path; whole = t.whole; reached = t.reached; fresh = t.fresh; ahead = λ two on whole. absurd (not_all whole); still = t.still })))

  pub keep_spell : (x : ℕ) (b' : Board) → Does z b v (Spell x) b' → Kept z b' (set vs id (view_after v (Spell x)))
  keep_spell x b' d = let y : Sweeping = d.0 in let at = d.1.0 in let is = known y at in let c : Sweeping = r.plan.sweep in let on : c.sure ≡ true = ap (λ (t : Sweeping). t.sure) is ∙ d.3 in
      let more : length c.text < 32 = subst (λ (t : Sweeping). length t.text < 32) (sym is) d.4 in let wide : length (text_of b.texts c.cursor) ≡ 32 = text_length b.texts c.cursor z.slots r.sized.texts (r.sure.inside on) in
      let next : get_or (text_of b.texts c.cursor) (length c.text) 0 ≡ x = subst (λ (t : Sweeping). get_or (text_of b.texts t.cursor) (length t.text) 0 ≡ x) (sym is) d.5 in
      subst (λ t. Kept z t (set vs id (view_after v (Spell x)))) (sym d.6) (quiet (spelling x) None (v.made ++ Spell x ∷ []) y at (inr refl) refl refl refl
      record {
        inside = r.sure.inside;
        state = r.sure.state;
        short = simp (length-append {A = ℕ}) (omega arith);
        text = λ _. subst (λ (n : ℕ). take (length (c.text ++ n ∷ [])) (text_of b.texts c.cursor) ≡ c.text ++ n ∷ []) next (read_more (text_of b.texts c.cursor) c.text (omega arith) (r.sure.text on));
      }
      (fate_idle b.epoch (spelling x) refl refl refl (idle_by y at d.2))
      (λ q w has_ none. cc))

  pub keep_behind : (x : ℕ) (b' : Board) → Does z b v (Behind x) b' → Kept z b' (set vs id (view_after v (Behind x)))
  keep_behind x b' d = let y : Sweeping = d.0 in let at = d.1.0.0 in let is = known y at in let link : get_or b.links r.plan.sweep.cursor 0 ≡ x = ap (λ (t : Sweeping). get_or b.links t.cursor 0) is ∙ d.2 in
      subst (λ t. Kept z t (set vs id (view_after v (Behind x)))) (sym d.3) (quiet (with_behind x) v.walk (v.made ++ Behind x ∷ []) y at (inl refl) refl refl refl
      (sure_same z b vs r id v s (with_behind x) refl refl refl)
      record {
        slot = r.fate.slot;
        out = r.fate.out;
        head = r.fate.head;
        idle = r.fate.idle;
        dies = λ ne. let f = r.fate.dies ne in record { sweeping = f.sweeping; at = f.at; high = f.high; inside = f.inside; there = f.there; behind = λ _ q e. link ∙ (let same : x ≡ q = cc in same); gone = f.gone; noted = f.noted; past = f.past };
      }
      (own_trail z b vs r id v s b.epoch (with_behind x) v.walk (λ q w _ t. record { news = t.news; path = t.path; whole = t.whole; reached = t.reached; fresh = t.fresh; ahead = t.ahead; still = t.still })))

  -- the dying slot's head
  head_is : (y : Sweeping) → v.sweep ≡ Some y → y.head ≡ r.plan.fate.head
  head_is y at = sym (ap (λ (t : Sweeping). t.head) (known y at)) ∙ r.fate.head

  pub keep_note : (x : ℕ) (b' : Board) → Does z b v (Note x) b' → Kept z b' (set vs id (view_after v (Note x)))
  keep_note x b' d = let y : Sweeping = d.0 in let at = d.1.0.0 in let word : get_or b.heads r.plan.fate.head 0 ≡ x = ap (λ (h : ℕ). get_or b.heads h 0) (sym (head_is y at)) ∙ d.2 in
      subst (λ t. Kept z t (set vs id (view_after v (Note x)))) (sym d.3) (quiet (noting x) v.walk (v.made ++ Note x ∷ []) y at (inl refl) refl refl refl
      (sure_same z b vs r id v s (noting x) refl refl refl)
      record {
        slot = r.fate.slot;
        out = r.fate.out;
        head = r.fate.head;
        idle = r.fate.idle;
        dies = λ ne. let f = r.fate.dies ne in record {
          sweeping = f.sweeping;
          at = f.at;
          high = f.high;
          inside = f.inside;
          there = f.there;
          behind = f.behind;
          gone = f.gone;
          noted = λ out q e. let same : x ≡ q = cc in let found : get_or b.heads r.plan.fate.head 0 ≡ q = word ∙ same in let left = (f.gone out).1 in let version = ap version_of found in (omega arith, omega arith, λ _. found);
          past = f.past;
        };
      }
      (own_trail z b vs r id v s b.epoch (noting x) v.walk (λ q w _ t. record { news = t.news; path = t.path; whole = t.whole; reached = t.reached; fresh = t.fresh; ahead = t.ahead; still = t.still })))

  pub keep_past : (x : ℕ) (b' : Board) → Does z b v (Past x) b' → Kept z b' (set vs id (view_after v (Past x)))
  keep_past x b' d = let y : Sweeping = d.0 in let n : ℕ = d.1 in let at = d.2.0.0 in let is = known y at in let word : get_or b.heads r.plan.fate.head 0 ≡ x = ap (λ (h : ℕ). get_or b.heads h 0) (sym (head_is y at)) ∙ d.4 in let later = d.5 in
      let noted_ : r.plan.sweep.noted ≡ Some n = ap (λ (t : Sweeping). t.noted) is ∙ d.3 in
      subst (λ t. Kept z t (set vs id (view_after v (Past x)))) (sym d.6) (quiet moving_past v.walk (v.made ++ Past x ∷ []) y at (inl refl) refl refl refl
      (sure_same z b vs r id v s moving_past refl refl refl)
      record {
        slot = r.fate.slot;
        out = r.fate.out;
        head = r.fate.head;
        idle = r.fate.idle;
        dies = λ ne. let f = r.fate.dies ne in record {
          sweeping = f.sweeping;
          at = f.at;
          high = f.high;
          inside = f.inside;
          there = f.there;
          behind = f.behind;
          gone = λ out. let g = f.gone out in (g.0, g.1, λ not. cc);
          noted = f.noted;
          past = λ out _. let l = (f.noted out n noted_).0 in subst (λ (q : ℕ). r.plan.fate.left < version_of q) (sym word) (omega arith);
        };
      }
      (own_trail z b vs r id v s b.epoch moving_past v.walk (λ q w _ t. record { news = t.news; path = t.path; whole = t.whole; reached = t.reached; fresh = t.fresh; ahead = t.ahead; still = t.still })))

  -- THE END of a sweep
  ended_marks : (j : ℕ) (x : View) → phase_of b.epoch ≡ 2 → SeatOk z b r.plan j x → MarksOk z (epoch_word 0 (epoch_of b.epoch)) b.acks b.atoms r.plan.engine r.plan.sweep.cursor j x.cycle x.undealt x.held x.walk
  ended_marks j x two k = let m = k.marks in let past = m.past in let before = m.before in let phase = phase-epoch_word 0 (epoch_of b.epoch) (omega arith) in let epoch = epoch-epoch_word 0 (epoch_of b.epoch) (omega arith) in record {
    mine = m.mine;
    to_deal = m.to_deal;
    one = m.one;
    engineless = m.engineless;
    past = omega arith;
    before = omega arith;
    reading = λ h. absurd (let t = m.reading h in omega (arith, t.0));
    scanned = λ marks. absurd (omega arith);
    held = λ acked. absurd (acked.0 phase);
    guard = λ w q e g at sits. ((m.guard w q e g at sits).0, λ acked. absurd (acked.0 phase));
    nothing = m.nothing;
  }

  end_at : (y : Sweeping) → Sweeps v y → y.dying ≡ 0 → Kept z (with_epoch b (epoch_word 0 (epoch_of y.word))) (set vs id (view_after v End))
  end_at y q none = let at = q.0 in let two = swept_by y q in let new : ℕ = epoch_word 0 (epoch_of b.epoch) in let k = s.sweeps y at in
      let is : new ≡ epoch_word 0 (epoch_of y.word) = ap (λ (n : ℕ). epoch_word 0 (epoch_of n)) (sym r.cycle.word ∙ ap (λ (t : Sweeping). t.word) k.1) in
      let phase : phase_of new ≡ 0 = phase-epoch_word 0 (epoch_of b.epoch) (omega arith) in
      subst (λ (n : ℕ). Kept z (with_epoch b n) (set vs id (view_after v End))) is (collector_step z b vs r id v s new ending (view_after v End) y at
      record {
        size = s.size;
        own = s.own;
        held = s.held;
        fixed = s.fixed;
        low = s.low;
        counts = s.counts;
        walk = s.walk;
        marks = ended_marks id v two s;
        sweeps = λ t has_. let was = unmapped ending v.sweep t has_ in (k.0, ap ending (s.sweeps was.0 was.1).1 ∙ was.2);
        trail = own_trail z b vs r id v s new ending v.walk (λ t w _ o. record { news = o.news; path = o.path; whole = o.whole; reached = o.reached; fresh = λ sweeping _. absurd (omega (arith, sweeping, phase)); ahead = λ sweeping. absurd (omega (arith, sweeping, phase)); still = o.still });
        risen = s.risen;
        unclosed = s.unclosed;
        grows = λ t has_. let was = unmapped ending v.sweep t has_ in s.grows was.0 was.1;
      }
      record {
        word = ap (λ (n : ℕ). epoch_word 0 (epoch_of n)) r.cycle.word;
        phase = omega arith;
        begun = λ ne. absurd (ne phase);
        few = r.cycle.few;
        checked = λ marking. absurd (omega (arith, marking, phase));
        swept = λ sweeping. absurd (omega (arith, sweeping, phase));
        cursor = r.cycle.cursor;
      }
      (sure_same z b vs r id v s ending refl refl refl)
      (fate_idle new ending refl refl refl (idle_by y at none))
      (λ j x t. ended_marks j x two t)
      (λ _. phase))

  pub keep_end : (b' : Board) → Does z b v End b' → Kept z b' (set vs id (view_after v End))
  keep_end b' d = subst (λ t. Kept z t (set vs id (view_after v End))) (sym d.4) (end_at d.0 d.1 d.2)
