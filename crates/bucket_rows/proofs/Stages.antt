-- How far two cycles have come: what is known of the slots, from step to step.
use Rattle.std.proofs.Common.{◌≡◌, ◌≢◌, ◌⊎◌, ℕ, ◌+◌, ◌*◌, ◌/◌, ◌<◌, ◌≤◌, false, List, [], ◌∷◌, ◌++◌, length, set, get_or, refl, sym, ap, ◌∙◌, subst, inl, inr, ⊎_elim, arith, Option, Some, None, option_map}
use mathlib.Core.Option.{some}
use mathlib.Core.Logic.{dite}
use native.Mathlib.Decide.{ℕ_discrete, dec_lt}
use lib.ListN.{get_elem?}
use Rattle.atom_words.specs.Layout.{state_of, mark_of, count_of, phase_of, epoch_of}
use Rattle.atom_words.specs.Kinds.{marked, unmarked}
use Rattle.atom_words.specs.declared.size.Size.{Size}
use Rattle.atom_words.specs.declared.view.Sweeping.{Sweeping}
use Rattle.atom_words.specs.declared.view.View.{View}
use Rattle.atom_words.proofs.Layouts.{state-marked, mark-marked, state-unmarked, count-unmarked}
use Rattle.atom_words.proofs.Slices.{word_after, or_beyond}
use Rattle.bucket_rows.specs.TwoCycles.{NoneReserved}

-- how many slots the sweep has passed, whichever seat is the collector's
abbrev pub Cursors : List View → ℕ → Type 0
Cursors vs c = (id : ℕ) (v : View) (y : Sweeping) → get_elem? vs id ≡ some v → v.gone ≡ false → v.sweep ≡ Some y → y.cursor ≡ c

-- so many slots are passed: while no cycle is at work all are, while one marks none is
abbrev pub Upto : Size → ℕ → List View → ℕ → Type 0
Upto z epoch vs c = ((phase_of epoch ≡ 0) × (c ≡ z.slots)) ⊎ (((phase_of epoch ≡ 1) × (c ≡ 0)) ⊎ ((phase_of epoch ≡ 2) × Cursors vs c))

-- IN THE SECOND CYCLE, in which the slots in D were scanned, c are passed: of the others just those scanned are marked; those scanned are valid; and those passed that are valid are counted or scanned
pub record Second (atoms : List ℕ) (c : ℕ) (D : ℕ → Type 0) : Type 0 where
  pub marks : (k : ℕ) → c ≤ k → mark_of (get_or atoms k 0) ≡ 1 → D k
  pub valid : (k : ℕ) → D k → state_of (get_or atoms k 0) ≡ 3
  pub kept : (k : ℕ) → c ≤ k → D k → mark_of (get_or atoms k 0) ≡ 1
  pub passed : (k : ℕ) → k < c → 256 ≤ k → state_of (get_or atoms k 0) ≡ 3 → (0 < count_of (get_or atoms k 0)) ⊎ D k

-- e is the epoch of the second cycle, and old are the atom words at the beginning. In the first cycle the slots passed have no mark
pub record Stage (z : Size) (e : ℕ) (old : List ℕ) (epoch : ℕ) (atoms : List ℕ) (vs : List View) (D : ℕ → Type 0) : Type 0 where
  pub none : NoneReserved vs
  pub low : (k : ℕ) → k < 256 → state_of (get_or atoms k 0) ≡ state_of (get_or old k 0)
  pub early : epoch_of epoch < e → (k : ℕ) → D k → ⊥
  pub upto : ℕ
  pub at : Upto z epoch vs upto
  pub first : epoch_of epoch + 1 ≡ e → (k : ℕ) → k < upto → mark_of (get_or atoms k 0) ≡ 0
  pub second : epoch_of epoch ≡ e → Second atoms upto D

pub second_as : (atoms : List ℕ) (c : ℕ) (D E : ℕ → Type 0) → ((k : ℕ) → E k → D k) → ((k : ℕ) → D k → E k) → Second atoms c D → Second atoms c E
second_as atoms c D E back on s = record {
  marks = λ k h m. on k (s.marks k h m);
  valid = λ k d. s.valid k (back k d);
  kept = λ k h d. s.kept k h (back k d);
  passed = λ k h high v. ⊎_elim (λ (t : 0 < count_of (get_or atoms k 0)). inl t) (λ (t : D k). inr (on k t)) (s.passed k h high v);
}

-- where a view of the seats after a step comes from
pub record From (vs : List View) (w : View) : Type 0 where
  pub own : NoneReserved vs → w.own ≡ None
  pub sweep : (q : Sweeping) → w.sweep ≡ Some q → (i : ℕ) × (v : View) × (y : Sweeping) × (get_elem? vs i ≡ some v) × (v.gone ≡ false) × (v.sweep ≡ Some y) × (q.cursor ≡ y.cursor)

abbrev pub Covers : List View → List View → Type 0
Covers vs vs' = (j : ℕ) (w : View) → get_elem? vs' j ≡ some w → w.gone ≡ false → From vs w

pub itself : (vs : List View) (j : ℕ) (w : View) → get_elem? vs j ≡ some w → w.gone ≡ false → From vs w
itself vs j w at here = record { own = λ none. none j w at here; sweep = λ q e. (j, w, q, at, here, e, refl) }

none_covered : (vs vs' : List View) → Covers vs vs' → NoneReserved vs → NoneReserved vs'
none_covered vs vs' c none j w at here = (c j w at here).own none

cursors_covered : (vs vs' : List View) (n : ℕ) → Covers vs vs' → Cursors vs n → Cursors vs' n
cursors_covered vs vs' n c all j w q at here e = let f = (c j w at here).sweep q e in f.6 ∙ all f.0 f.1 f.2 f.3 f.4 f.5

upto_covered : (z : Size) (epoch : ℕ) (vs vs' : List View) (n : ℕ) → Covers vs vs' → Upto z epoch vs n → Upto z epoch vs' n
upto_covered z epoch vs vs' n c u = ⊎_elim
    (λ (t : (phase_of epoch ≡ 0) × (n ≡ z.slots)). inl t)
    (λ (t : ((phase_of epoch ≡ 1) × (n ≡ 0)) ⊎ ((phase_of epoch ≡ 2) × Cursors vs n)). ⊎_elim
    (λ (m : (phase_of epoch ≡ 1) × (n ≡ 0)). inr (inl m))
    (λ (m : (phase_of epoch ≡ 2) × Cursors vs n). inr (inr (m.0, cursors_covered vs vs' n c m.1))) t) u

module _ (z : Size) (e : ℕ) (old : List ℕ) (epoch : ℕ) (atoms : List ℕ) (vs : List View) (D : ℕ → Type 0) (s : Stage z e old epoch atoms vs D) where
  -- the atom words stay, and the epoch
  pub turned : (epoch' : ℕ) (vs' : List View) (E : ℕ → Type 0) → ((k : ℕ) → E k → D k) → ((k : ℕ) → D k → E k) → epoch_of epoch' ≡ epoch_of epoch → NoneReserved vs' → Upto z epoch' vs' s.upto → Stage z e old epoch' atoms vs' E
  turned epoch' vs' E back on same none at = record {
    none = none;
    low = s.low;
    early = λ h k d. s.early (subst (λ (n : ℕ). n < e) same h) k (back k d);
    upto = s.upto;
    at = at;
    first = λ h. s.first (ap (λ (n : ℕ). n + 1) (sym same) ∙ h);
    second = λ h. second_as atoms s.upto D E back on (s.second (sym same ∙ h));
  }

  pub still : (vs' : List View) (E : ℕ → Type 0) → ((k : ℕ) → E k → D k) → ((k : ℕ) → D k → E k) → Covers vs vs' → Stage z e old epoch atoms vs' E
  still vs' E back on c = turned epoch vs' E back on refl (none_covered vs vs' c s.none) (upto_covered z epoch vs vs' s.upto c s.at)

  -- which phase it is
  pub all_passed : phase_of epoch ≡ 0 → s.upto ≡ z.slots
  all_passed h = ⊎_elim
      (λ (t : (phase_of epoch ≡ 0) × (s.upto ≡ z.slots)). t.1)
      (λ (t : ((phase_of epoch ≡ 1) × (s.upto ≡ 0)) ⊎ ((phase_of epoch ≡ 2) × Cursors vs s.upto)). ⊎_elim (λ (m : (phase_of epoch ≡ 1) × (s.upto ≡ 0)). absurd (omega (arith, m.0, h))) (λ (m : (phase_of epoch ≡ 2) × Cursors vs s.upto). absurd (omega (arith, m.0, h))) t) s.at

  pub none_passed : phase_of epoch ≡ 1 → s.upto ≡ 0
  none_passed h = ⊎_elim
      (λ (t : (phase_of epoch ≡ 0) × (s.upto ≡ z.slots)). absurd (omega (arith, t.0, h)))
      (λ (t : ((phase_of epoch ≡ 1) × (s.upto ≡ 0)) ⊎ ((phase_of epoch ≡ 2) × Cursors vs s.upto)). ⊎_elim (λ (m : (phase_of epoch ≡ 1) × (s.upto ≡ 0)). m.1) (λ (m : (phase_of epoch ≡ 2) × Cursors vs s.upto). absurd (omega (arith, m.0, h))) t) s.at

  pub some_passed : phase_of epoch ≡ 2 → Cursors vs s.upto
  some_passed h = ⊎_elim
      (λ (t : (phase_of epoch ≡ 0) × (s.upto ≡ z.slots)). absurd (omega (arith, t.0, h)))
      (λ (t : ((phase_of epoch ≡ 1) × (s.upto ≡ 0)) ⊎ ((phase_of epoch ≡ 2) × Cursors vs s.upto)). ⊎_elim (λ (m : (phase_of epoch ≡ 1) × (s.upto ≡ 0)). absurd (omega (arith, m.0, h))) (λ (m : (phase_of epoch ≡ 2) × Cursors vs s.upto). m.1) t) s.at

  -- THE NEXT CYCLE BEGINS
  pub begun : (epoch' : ℕ) (vs' : List View) (E : ℕ → Type 0) → ((k : ℕ) → E k → D k) → NoneReserved vs' → phase_of epoch ≡ 0 → phase_of epoch' ≡ 1 → epoch_of epoch' ≡ epoch_of epoch + 1 → length atoms ≡ z.slots → Stage z e old epoch' atoms vs' E
  begun epoch' vs' E back none idle marks next many = record {
    none = none;
    low = s.low;
    early = λ h k d. s.early (omega arith) k (back k d);
    upto = 0;
    at = inr (inl (marks, refl));
    first = λ _ k h. absurd (omega arith);
    second = λ h. let clear : (k : ℕ) → mark_of (get_or atoms k 0) ≡ 0 = (λ k. dite (dec_lt k z.slots)
        (λ (l : k < z.slots). s.first (sym next ∙ h) k (subst (λ (n : ℕ). k < n) (sym (all_passed idle)) l))
        (λ (over : ¬ (k < z.slots)). ap mark_of (or_beyond atoms k 0 (omega arith)))) in let out : (k : ℕ) → E k → ⊥ = (λ k d. s.early (omega arith) k (back k d)) in record {
          marks = λ k l m. absurd (let c = clear k in omega arith);
          valid = λ k d. absurd (out k d);
          kept = λ k l d. absurd (out k d);
          passed = λ k l. absurd (omega arith);
        };
  }

  -- A SLOT IS SCANNED
  pub scanned : (k x : ℕ) (vs' : List View) (E : ℕ → Type 0) → ((i : ℕ) → E i → D i ⊎ (k ≡ i)) → ((i : ℕ) → D i → E i) → (epoch_of epoch ≡ e → E k) → (epoch_of epoch < e → (i : ℕ) → E i → D i) → Covers vs vs' → phase_of epoch ≡ 1 → k < length atoms → x ≡ get_or atoms k 0 → state_of x ≡ 3
      → Stage z e old epoch (set atoms k (marked x)) vs' E
  scanned k x vs' E back on here before c marking inside is valid = let state : state_of (marked x) ≡ state_of (get_or atoms k 0) = state-marked x ∙ ap state_of is in record {
    none = none_covered vs vs' c s.none;
    low = λ i l. word_after (λ (w : ℕ). state_of w ≡ state_of (get_or old i 0)) atoms k (marked x) i inside (λ at. state ∙ (ap (λ (n : ℕ). state_of (get_or atoms n 0)) (sym at) ∙ s.low i l)) (λ _. s.low i l);
    early = λ h i d. s.early h i (before h i d);
    upto = s.upto;
    at = upto_covered z epoch vs vs' s.upto c s.at;
    first = λ h i l. absurd (let zero_ = none_passed marking in omega arith);
    second = λ h. let t = s.second h in let start = none_passed marking in record {
      marks = λ i l. dite (ℕ_discrete i k) (λ (at : i ≡ k). λ _. subst E (sym at) (here h)) (λ (ne : i ≢ k). λ m. on i (t.marks i l (sym (ap mark_of (Rattle.std.proofs.Common.get_or-set_other atoms k i (marked x) 0 ne)) ∙ m)));
      valid = λ i d. word_after (λ (w : ℕ). state_of w ≡ 3) atoms k (marked x) i inside (λ at. state-marked x ∙ valid) (λ ne. ⊎_elim (λ (o : D i). t.valid i o) (λ (at : k ≡ i). absurd (ne (sym at))) (back i d));
      kept = λ i l d. word_after (λ (w : ℕ). mark_of w ≡ 1) atoms k (marked x) i inside (λ at. mark-marked x) (λ ne. ⊎_elim (λ (o : D i). t.kept i l o) (λ (at : k ≡ i). absurd (ne (sym at))) (back i d));
      passed = λ i l. absurd (omega arith);
    };
  }

  -- A SLOT IS PASSED
  pub passed_over : (x : ℕ) (vs' : List View) (E : ℕ → Type 0) → ((i : ℕ) → E i → D i) → ((i : ℕ) → D i → E i) → NoneReserved vs' → phase_of epoch ≡ 2 → Cursors vs' (s.upto + 1) → s.upto < length atoms → x ≡ get_or atoms s.upto 0 → (256 ≤ s.upto → x ≢ 3)
      → Stage z e old epoch (set atoms s.upto (unmarked x)) vs' E
  passed_over x vs' E back on none sweeps at inside is calm = let k : ℕ = s.upto in let state : state_of (unmarked x) ≡ state_of (get_or atoms k 0) = state-unmarked x ∙ ap state_of is in record {
    none = none;
    low = λ i l. word_after (λ (w : ℕ). state_of w ≡ state_of (get_or old i 0)) atoms k (unmarked x) i inside (λ here. state ∙ (ap (λ (n : ℕ). state_of (get_or atoms n 0)) (sym here) ∙ s.low i l)) (λ _. s.low i l);
    early = λ h i d. s.early h i (back i d);
    upto = k + 1;
    at = inr (inr (sweeps, at));
    first = λ h i l. word_after (λ (w : ℕ). mark_of w ≡ 0) atoms k (unmarked x) i inside (λ here. omega arith) (λ ne. s.first h i (omega arith));
    second = λ h. let t = s.second h in record {
      marks = λ i l m. on i (t.marks i (omega arith) (sym (ap mark_of (Rattle.std.proofs.Common.get_or-set_other atoms k i (unmarked x) 0 (omega arith))) ∙ m));
      valid = λ i d. word_after (λ (w : ℕ). state_of w ≡ 3) atoms k (unmarked x) i inside (λ here. state ∙ (ap (λ (n : ℕ). state_of (get_or atoms n 0)) (sym here) ∙ t.valid i (back i d))) (λ _. t.valid i (back i d));
      kept = λ i l d. ap mark_of (Rattle.std.proofs.Common.get_or-set_other atoms k i (unmarked x) 0 (omega arith)) ∙ t.kept i (omega arith) (back i d);
      passed = λ i l high. word_after (λ (w : ℕ). state_of w ≡ 3 → (0 < count_of w) ⊎ E i) atoms k (unmarked x) i inside
          (λ here v. let valid : state_of x ≡ 3 = sym (state-unmarked x) ∙ v in let other : x ≢ 3 = calm (omega arith) in dite (dec_lt 0 (count_of x))
          (λ (some_ : 0 < count_of x). inl (subst (λ (n : ℕ). 0 < n) (sym (count-unmarked x)) some_))
          (λ (zero_ : ¬ (0 < count_of x)). inr (on i (subst D (sym here) (t.marks k (omega arith) (ap mark_of (sym is) ∙ (let one : mark_of x ≡ 1 = marked_by x valid other zero_ in one)))))))
          (λ ne v. ⊎_elim (λ (o : 0 < count_of (get_or atoms i 0)). inl o) (λ (o : D i). inr (on i o)) (t.passed i (omega arith) high v));
    };
  }
    where
      marked_by : (x : ℕ) → state_of x ≡ 3 → x ≢ 3 → ¬ (0 < count_of x) → mark_of x ≡ 1
      marked_by x valid other zero_ = let c : x / 8 ≡ 0 = omega arith in omega arith

  -- A SLOT THAT WAS NOT SCANNED becomes dying, or free
  pub gone : (n : ℕ) (vs' : List View) (E : ℕ → Type 0) → ((i : ℕ) → E i → D i) → ((i : ℕ) → D i → E i) → Covers vs vs' → mark_of n ≡ 0 → 256 ≤ s.upto → s.upto < length atoms → (epoch_of epoch ≡ e → D s.upto → ⊥) → Stage z e old epoch (set atoms s.upto n) vs' E
  gone n vs' E back on c clear high inside out = let k : ℕ = s.upto in record {
    none = none_covered vs vs' c s.none;
    low = λ i l. ap state_of (Rattle.std.proofs.Common.get_or-set_other atoms k i n 0 (omega arith)) ∙ s.low i l;
    early = λ h i d. s.early h i (back i d);
    upto = k;
    at = upto_covered z epoch vs vs' s.upto c s.at;
    first = λ h i l. ap mark_of (Rattle.std.proofs.Common.get_or-set_other atoms k i n 0 (omega arith)) ∙ s.first h i l;
    second = λ h. let t = s.second h in record {
      marks = λ i l. word_after (λ (w : ℕ). mark_of w ≡ 1 → E i) atoms k n i inside (λ here m. absurd (omega arith)) (λ ne m. on i (t.marks i l m));
      valid = λ i d. word_after (λ (w : ℕ). state_of w ≡ 3) atoms k n i inside (λ here. absurd (out h (subst D here (back i d)))) (λ ne. t.valid i (back i d));
      kept = λ i l d. word_after (λ (w : ℕ). mark_of w ≡ 1) atoms k n i inside (λ here. absurd (out h (subst D here (back i d)))) (λ ne. t.kept i l (back i d));
      passed = λ i l high_ v. ⊎_elim (λ (o : 0 < count_of (get_or atoms i 0)). inl (subst (λ (w : ℕ). 0 < count_of w) (sym (Rattle.std.proofs.Common.get_or-set_other atoms k i n 0 (omega arith))) o)) (λ (o : D i). inr (on i o))
          (t.passed i l high_ (sym (ap state_of (Rattle.std.proofs.Common.get_or-set_other atoms k i n 0 (omega arith))) ∙ v));
    };
  }
