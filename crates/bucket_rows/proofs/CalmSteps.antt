-- Each calm step takes two cycles from stage to stage.
use Rattle.std.proofs.Common.{◌≡◌, ◌≢◌, ◌⊎◌, ℕ, zero, suc, ◌+◌, ◌<◌, ◌≤◌, false, List, [], ◌∷◌, ◌++◌, length, set, get_or, refl, sym, ap, ◌∙◌, subst, inl, inr, ⊎_elim, arith, Some, None, option_map}
use mathlib.Core.Option.{some}
use lib.ListN.{get_elem?}
use Rattle.atomic_table.proofs.Lists.{at_set, at_snoc}
use Rattle.atom_words.specs.Layout.{state_of, phase_of, epoch_of, epoch_word}
use Rattle.atom_words.specs.Board.{Board, with_atom}
use Rattle.atom_words.specs.Chains.{In}
use Rattle.atom_words.specs.Kinds.{marked, putting, linking, linked_own, beginning, checking, turning, looking, spelling, condemning, passing, with_behind, unlinking, noting, moving_past, freeing, ending, head_of, view_after, Does}
use Rattle.atom_words.specs.Views.{newcomer, spent, with_keeper}
use Rattle.atom_words.specs.Rule.{Cut, keeper, collector, engine, Splits, Joins}
use Rattle.atom_words.specs.Kept.{HeldOk, SeatOk, Kept}
use Rattle.atom_words.specs.declared.size.Size.{Size}
use Rattle.atom_words.specs.declared.view.Held.{Held}
use Rattle.atom_words.specs.declared.view.Sweeping.{Sweeping}
use Rattle.atom_words.specs.declared.view.View.{View}
use Rattle.atom_words.specs.declared.kind.Kind.{Kind}
use Rattle.atom_words.specs.declared.kind.Kind.TheVariants.{Begin, Scan, ToSweep, Condemn, PassOver, Free, End}
use Rattle.atom_words.proofs.Layouts.{phase-epoch_word, epoch-epoch_word}
use Rattle.atom_words.proofs.Slices.{some_same}
use Rattle.atom_words.proofs.Puts.{unmapped}
use Rattle.bucket_rows.specs.TwoCycles.{Calm, NoneReserved}
use Rattle.bucket_rows.proofs.Stages.{Cursors, Stage, From, Covers, itself, turned, still, none_passed, some_passed, begun, scanned, passed_over, gone}

-- one view changes, its cursor and its want of an own slot aside
one_covered : (vs : List View) (id : ℕ) (v w : View) → get_elem? vs id ≡ some v → v.gone ≡ false → (v.own ≡ None → w.own ≡ None) → ((q : Sweeping) → w.sweep ≡ Some q → (y : Sweeping) × (v.sweep ≡ Some y) × (q.cursor ≡ y.cursor)) → Covers vs (set vs id w)
one_covered vs id v w at here own sweep j x at' here' = ⊎_elim
    (λ (t : (j ≡ id) × (w ≡ x)). subst (From vs) t.1 (record { own = λ none. own (none id v at here); sweep = λ q e. let y = sweep q e in (id, v, y.0, at, here, y.1, y.2) }))
    (λ (t : (j ≢ id) × (get_elem? vs j ≡ some x)). itself vs j x t.1 here') (at_set vs id j w x at')

-- no other seat is the collector's
module _ (z : Size) (b : Board) (vs : List View) (r : Kept z b vs) (id : ℕ) (v w : View) (y : Sweeping) (at : get_elem? vs id ≡ some v) (here : v.gone ≡ false) (sweep : v.sweep ≡ Some y) where
  cursors_now : (q : Sweeping) → w.sweep ≡ Some q → Cursors (set vs id w) q.cursor
  cursors_now q e j x t at' here' has_ = ⊎_elim
      (λ (h : (j ≡ id) × (w ≡ x)). ap (λ (s : Sweeping). s.cursor) (some_same t q x.sweep has_ (ap (λ (u : View). u.sweep) (sym h.1) ∙ e)))
      (λ (h : (j ≢ id) × (get_elem? vs j ≡ some x)). absurd (h.0 (sym ((r.seats j x h.1 here').sweeps t has_).0 ∙ ((r.seats id v at here).sweeps y sweep).0))) (at_set vs id j w x at')

module _ (z : Size) (e : ℕ) (old : List ℕ) (b : Board) (vs : List View) (r : Kept z b vs) (D E : ℕ → Type 0) (s : Stage z e old b.epoch b.atoms vs D) (on : (k : ℕ) → D k → E k) where
  -- the words of atoms stay, and the epoch word
  pub same_words : (b' : Board) (vs' : List View) → b'.atoms ≡ b.atoms → b'.epoch ≡ b.epoch → ((k : ℕ) → E k → D k) → Covers vs vs' → Stage z e old b'.epoch b'.atoms vs' E
  same_words b' vs' atoms epoch back c = subst (λ (p : ℕ × List ℕ). Stage z e old p.0 p.1 vs' E) (λ i. (sym epoch i, sym atoms i)) (still z e old b.epoch b.atoms vs D s vs' E back on c)

  -- SEATS MADE, JOINED, SPLIT
  pub made_covered : Covers vs (vs ++ newcomer z ∷ [])
  made_covered j w at here = ⊎_elim (λ (t : get_elem? vs j ≡ some w). itself vs j w t here) (λ (t : newcomer z ≡ w). subst (From vs) t (record { own = λ _. refl; sweep = λ q e. cc })) (at_snoc vs (newcomer z) w j at)

  pub joined_covered : (b' : Board) (vs' : List View) (j : Joins z b vs b' vs') → Covers vs vs'
  joined_covered b' vs' j i w at here = ⊎_elim
      (λ (t : (i ≡ j.other) × (spent ≡ w)). absurd (let no = ap (λ (x : View). x.gone) t.1 ∙ here in cc))
      (λ (t : (i ≢ j.other) × (get_elem? (set vs j.id (with_keeper j.view j.keeper)) i ≡ some w)). one_covered vs j.id j.view (with_keeper j.view j.keeper) j.at j.here (λ n. n) (λ q e. (q, e, refl)) i w t.1 here)
      (at_set (set vs j.id (with_keeper j.view j.keeper)) j.other i spent w (subst (λ (l : List View). get_elem? l i ≡ some w) j.views at))

  cut_left : (v left right : View) → Cut v left right → (v.own ≡ None → left.own ≡ None) × ((q : Sweeping) → left.sweep ≡ Some q → (y : Sweeping) × (v.sweep ≡ Some y) × (q.cursor ≡ y.cursor))
  cut_left v left right keeper = ((λ n. n), λ q e. (q, e, refl))
  cut_left v left right collector = ((λ n. n), λ q e. cc)
  cut_left v left right (engine h n) = ((λ n. n), λ q e. (q, e, refl))

  cut_right : (v left right : View) → Cut v left right → (right.own ≡ None) × ((q : Sweeping) → right.sweep ≡ Some q → (y : Sweeping) × (v.sweep ≡ Some y) × (q.cursor ≡ y.cursor))
  cut_right v left right keeper = (refl, λ q e. cc)
  cut_right v left right collector = (refl, λ q e. (q, e, refl))
  cut_right v left right (engine h n) = (refl, λ q e. cc)

  pub split_covered : (b' : Board) (vs' : List View) (t : Splits z b vs b' vs') → Covers vs vs'
  split_covered b' vs' t i w at here = let l = cut_left t.view t.left t.right t.cut in let m = cut_right t.view t.left t.right t.cut in ⊎_elim
      (λ (o : get_elem? (set vs t.id t.left) i ≡ some w). one_covered vs t.id t.view t.left t.at t.here l.0 l.1 i w o here)
      (λ (o : t.right ≡ w). subst (From vs) o (record { own = λ _. m.0; sweep = λ q e. let y = m.1 q e in (t.id, t.view, y.0, t.at, t.here, y.1, y.2) }))
      (at_snoc (set vs t.id t.left) t.right w i (subst (λ (k : List View). get_elem? k i ≡ some w) t.views at))

  -- A STEP OF A SEAT
  module _ (id : ℕ) (v : View) (at : get_elem? vs id ≡ some v) (here : v.gone ≡ false) where
    abbrev After : Kind → Board → Type 0
    After kind b' = Stage z e old b'.epoch b'.atoms (set vs id (view_after v kind)) E

    -- a step that leaves the words of atoms and the epoch word
    pub quiet : (kind : Kind) (b' : Board) → ((k : ℕ) → E k → D k) → b'.atoms ≡ b.atoms → b'.epoch ≡ b.epoch → (v.own ≡ None → (view_after v kind).own ≡ None) → ((q : Sweeping) → (view_after v kind).sweep ≡ Some q → (y : Sweeping) × (v.sweep ≡ Some y) × (q.cursor ≡ y.cursor))
        → After kind b'
    quiet kind b' back atoms epoch own sweep = same_words b' (set vs id (view_after v kind)) atoms epoch back (one_covered vs id v (view_after v kind) at here own sweep)

    sure : SeatOk z b r.plan id v
    sure = r.seats id v at here

    -- the epoch word is the one that the collector knows
    word_is : (y : Sweeping) → v.sweep ≡ Some y → b.epoch ≡ y.word
    word_is y sweep = sym r.cycle.word ∙ ap (λ (q : Sweeping). q.word) (sure.sweeps y sweep).1

    pub own_none : v.own ≡ None
    own_none = s.none id v at here

    none_after : (kind : Kind) → ((view_after v kind).own ≡ None) → NoneReserved (set vs id (view_after v kind))
    none_after kind own j w at' here' = ⊎_elim (λ (t : (j ≡ id) × (view_after v kind ≡ w)). ap (λ (x : View). x.own) (sym t.1) ∙ own) (λ (t : (j ≢ id) × (get_elem? vs j ≡ some w)). s.none j w t.1 here') (at_set vs id j (view_after v kind) w at')

    pub begins : (b' : Board) → ((k : ℕ) → E k → D k) → Does z b v Begin b' → After Begin b'
    begins b' back d = let word = word_is d.0 d.1 in let next = epoch-epoch_word 1 (epoch_of d.0.word + 1) (omega arith) in
        subst (λ (x : Board). After Begin x) (sym d.5)
        (begun z e old b.epoch b.atoms vs D s (epoch_word 1 (epoch_of d.0.word + 1)) (set vs id (view_after v Begin)) E back (none_after Begin own_none) (ap phase_of word ∙ d.2) (phase-epoch_word 1 (epoch_of d.0.word + 1) (omega arith))
        (next ∙ ap (λ (n : ℕ). epoch_of n + 1) (sym word)) r.sized.atoms)

    pub turns : (b' : Board) → ((k : ℕ) → E k → D k) → Does z b v ToSweep b' → After ToSweep b'
    turns b' back d = let word = word_is d.0 d.1 in let start = none_passed z e old b.epoch b.atoms vs D s (ap phase_of word ∙ d.2) in let cursors = cursors_now z b vs r id v (view_after v ToSweep) d.0 at here d.1 (turning d.0) (ap (option_map turning) d.1) in
        subst (λ (x : Board). After ToSweep x) (sym d.4)
        (turned z e old b.epoch b.atoms vs D s (epoch_word 2 (epoch_of d.0.word)) (set vs id (view_after v ToSweep)) E back on (epoch-epoch_word 2 (epoch_of d.0.word) (omega arith) ∙ ap epoch_of (sym word)) (none_after ToSweep own_none)
        (inr (inr (phase-epoch_word 2 (epoch_of d.0.word) (omega arith), subst (Cursors (set vs id (view_after v ToSweep))) (sym start) cursors))))

    pub ends : (b' : Board) → ((k : ℕ) → E k → D k) → Does z b v End b' → After End b'
    ends b' back d = let word = word_is d.0 d.1.0 in let c = some_passed z e old b.epoch b.atoms vs D s (ap phase_of word ∙ d.1.1) id v d.0 at here d.1.0 in
        subst (λ (x : Board). After End x) (sym d.4)
        (turned z e old b.epoch b.atoms vs D s (epoch_word 0 (epoch_of d.0.word)) (set vs id (view_after v End)) E back on (epoch-epoch_word 0 (epoch_of d.0.word) (omega arith) ∙ ap epoch_of (sym word)) (none_after End own_none)
        (inl (phase-epoch_word 0 (epoch_of d.0.word) (omega arith), sym c ∙ d.3)))

    pub scans : (k : ℕ) (b' : Board) → ((i : ℕ) → E i → D i ⊎ ((k ≡ i) × (v.cycle.scanned_at ≡ e))) → (v.cycle.scanned_at ≡ e → E k) → Does z b v (Scan k) b' → After (Scan k) b'
    scans k b' back here_ d = let m = sure.marks.reading d.0.1 in let a : Held = d.1 in let live : HeldOk z b.atoms b.texts r.plan.chain a = ⊎_elim (λ (i : In a v.held). sure.held i.0 a i.1) (λ (i : In a v.fixed). sure.fixed i.0 a i.1) d.2 in
        let inside = live.inside in let slot = d.3 in
        subst (λ (x : Board). After (Scan k) x) (sym d.4)
        (scanned z e old b.epoch b.atoms vs D s k (get_or b.atoms k 0) (set vs id (view_after v (Scan k))) E (λ i t. ⊎_elim (λ (o : D i). inl o) (λ (o : (k ≡ i) × (v.cycle.scanned_at ≡ e)). inr o.0) (back i t)) on
        (λ now. here_ (m.1 ∙ now)) (λ before i t. ⊎_elim (λ (o : D i). o) (λ (o : (k ≡ i) × (v.cycle.scanned_at ≡ e)). absurd (omega (arith, o.1, m.1, before))) (back i t))
        (one_covered vs id v (view_after v (Scan k)) at here (λ n. n) (λ q h. (q, h, refl))) m.0 (omega (arith, r.sized.atoms)) refl (subst (λ (i : ℕ). state_of (get_or b.atoms i 0) ≡ 3) slot live.valid))

    pub passes : (x : ℕ) (b' : Board) → ((k : ℕ) → E k → D k) → Calm v (PassOver x) → Does z b v (PassOver x) b' → After (PassOver x) b'
    passes x b' back calm d = let y : Sweeping = d.0 in let two : phase_of b.epoch ≡ 2 = ap phase_of (word_is y d.1.0) ∙ d.1.1 in let c : y.cursor ≡ s.upto = some_passed z e old b.epoch b.atoms vs D s two id v y at here d.1.0 in
        let cursors = cursors_now z b vs r id v (view_after v (PassOver x)) y at here d.1.0 (passing y) (ap (option_map passing) d.1.0) in
        subst (λ (t : Board). After (PassOver x) t) (sym d.5)
        (subst (λ (k : ℕ). After (PassOver x) (with_atom b k (Rattle.atom_words.specs.Kinds.unmarked x))) (sym c)
        (passed_over z e old b.epoch b.atoms vs D s x (set vs id (view_after v (PassOver x))) E back on (none_after (PassOver x) own_none) two (subst (λ (k : ℕ). Cursors (set vs id (view_after v (PassOver x))) (k + 1)) c cursors)
        (subst (λ (k : ℕ). k < length b.atoms) c (omega (arith, r.sized.atoms, d.3))) (sym d.4 ∙ ap (λ (k : ℕ). get_or b.atoms k 0) c) (λ high. calm y d.1.0 (subst (λ (k : ℕ). 256 ≤ k) (sym c) high))))

    pub condemns : (b' : Board) → ((k : ℕ) → E k → D k) → Does z b v Condemn b' → After Condemn b'
    condemns b' back d = let y : Sweeping = d.0 in let two : phase_of b.epoch ≡ 2 = ap phase_of (word_is y d.2.0) ∙ d.2.1 in let c : y.cursor ≡ s.upto = some_passed z e old b.epoch b.atoms vs D s two id v y at here d.2.0 in
        let is = (sure.sweeps y d.2.0).1 in let word : get_or b.atoms s.upto 0 ≡ 3 = ap (λ (k : ℕ). get_or b.atoms k 0) (sym c) ∙ d.8 in let inside : s.upto < length b.atoms = below b.atoms s.upto (λ none. omega (arith, word, none)) in
        subst (λ (t : Board). After Condemn t) (sym d.9)
        (subst (λ (k : ℕ). After Condemn (with_atom b k 2)) (sym c)
        (gone z e old b.epoch b.atoms vs D s 2 (set vs id (view_after v Condemn)) E back on (one_covered vs id v (view_after v Condemn) at here (λ n. n) (λ q h. let was = unmapped (condemning (head_of v.walk)) v.sweep q h in (was.0, was.1, ap (λ (t : Sweeping). t.cursor) (sym was.2))))
        refl (subst (λ (k : ℕ). 256 ≤ k) c d.5) inside (λ now t. let m = (s.second now).kept s.upto (omega arith) t in omega (arith, word, m))))
      where
        below : (l : List ℕ) (k : ℕ) → (get_or l k 0 ≢ 0) → k < length l
        below [] k some_ = absurd (some_ refl)
        below (n ∷ l) zero some_ = omega arith
        below (n ∷ l) (suc k) some_ = let h = below l k some_ in omega arith

    pub frees : (b' : Board) → ((k : ℕ) → E k → D k) → Does z b v Free b' → After Free b'
    frees b' back d = let y : Sweeping = d.0 in let two : phase_of b.epoch ≡ 2 = ap phase_of (word_is y d.1.0.0) ∙ d.1.0.1 in let c : y.cursor ≡ s.upto = some_passed z e old b.epoch b.atoms vs D s two id v y at here d.1.0.0 in
        let is = (sure.sweeps y d.1.0.0).1 in let dies : r.plan.fate.slot ≡ y.cursor + 1 = sym r.fate.slot ∙ (ap (λ (t : Sweeping). t.dying) is ∙ d.1.1) in let dying = r.slots.dies y.cursor dies in
        let state : state_of (get_or b.atoms s.upto 0) ≡ 2 = ap (λ (k : ℕ). state_of (get_or b.atoms k 0)) (sym c) ∙ dying in
        let high : 256 ≤ y.cursor = subst (λ (t : Sweeping). 256 ≤ t.cursor) is (r.fate.dies (λ none. omega arith)).high in let inside : s.upto < length b.atoms = below b.atoms s.upto (λ none. omega (arith, state, none)) in
        subst (λ (t : Board). After Free t) (sym d.3)
        (subst (λ (k : ℕ). After Free (with_atom b k 0)) (sym c)
        (gone z e old b.epoch b.atoms vs D s 0 (set vs id (view_after v Free)) E back on (one_covered vs id v (view_after v Free) at here (λ n. n) (λ q h. let was = unmapped freeing v.sweep q h in (was.0, was.1, ap (λ (t : Sweeping). t.cursor) (sym was.2))))
        refl (subst (λ (k : ℕ). 256 ≤ k) c high) inside (λ now t. let m = (s.second now).valid s.upto t in omega (arith, state, m))))
      where
        below : (l : List ℕ) (k : ℕ) → (get_or l k 0 ≢ 0) → k < length l
        below [] k some_ = absurd (some_ refl)
        below (n ∷ l) zero some_ = omega arith
        below (n ∷ l) (suc k) some_ = let h = below l k some_ in omega arith
