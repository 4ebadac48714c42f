-- The laws of the slots, from what every reached state keeps.
use Rattle.std.proofs.Common.{◌≡◌, ◌≢◌, ◌⊎◌, ℕ, ◌+◌, ◌<◌, false, List, length, get_or, refl, sym, ap, ◌∙◌, subst, inl, inr, ⊎_elim, arith, Some}
use mathlib.Core.Option.{some}
use lib.ListN.{get_elem?}
use Rattle.atom_words.specs.Layout.{state_of, mark_of, count_of, phase_of, epoch_of}
use Rattle.atom_words.specs.Board.{Board, atom, text_of}
use Rattle.atom_words.specs.Chains.{In}
use Rattle.atom_words.specs.Kinds.{Does}
use Rattle.atom_words.specs.Rule.{Moves, goes, makes, joins, splits, Reached}
use Rattle.atom_words.specs.Kept.{HeldOk, SeatOk, Kept}
use Rattle.atom_words.specs.Laws.{Uses, CountsAre, Marked, OneDying}
use Rattle.atom_words.specs.declared.size.Size.{Size}
use Rattle.atom_words.specs.declared.view.Held.{Held}
use Rattle.atom_words.specs.declared.view.Counted.{Counted}
use Rattle.atom_words.specs.declared.view.Sweeping.{Sweeping}
use Rattle.atom_words.specs.declared.view.View.{View}
use Rattle.atom_words.specs.declared.kind.Kind.{Kind}
use Rattle.atom_words.specs.declared.kind.Kind.TheVariants.{Raise, Risen, Reserve, Measure, PutWord, Fill, PutLink, Link, Validate, Release, Load, Refused, Start, Read, Next, Skip, Hold, Keep, Fix, StartPass, EndPass, Refuse, Barred, Ask, Protect, Fetch, Register, Unregister, Begin, Mark, Scan, Ack, Check, ToSweep, Look, Spell, Condemn, PassOver, Behind, UnlinkAt, UnlinkHead, Note, Bump, Past, Free, End, Aim, Sound, Close, Emptied, Pick, MoveHead, MoveLink, LeaveHead, LeaveLink, PublishRow, Publish}
use Rattle.atom_words.proofs.Slices.{some_same, text_else}
use Rattle.atom_words.proofs.Every.{keep_move, reached_kept}
use Rattle.atom_words.proofs.Sweeps.{known, swept_by}
use Rattle.atom_words.proofs.SweepWords.{not_held}

-- what is used is live, with its text
uses_ok : (z : Size) (b : Board) (vs : List View) (r : Kept z b vs) (j : ℕ) (v : View) → SeatOk z b r.plan j v → (a : Held) → Uses v a → HeldOk z b.atoms b.texts r.plan.chain a
uses_ok z b vs r j v s a u = ⊎_elim
    (λ (t : In a v.held ⊎ In a v.fixed). ⊎_elim (λ (i : In a v.held). s.held i.0 a i.1) (λ (i : In a v.fixed). s.fixed i.0 a i.1) t)
    (λ (t : (cs : List Counted) × (v.counts ≡ Some cs) × ((c : Counted) × (get_elem? cs a.slot ≡ some c) × (0 < c.count) × (c.text ≡ a.text))).
    subst (λ (l : List ℕ). HeldOk z b.atoms b.texts r.plan.chain (record { slot = a.slot; text = l })) t.2.3 ((s.counts t.0 t.1).live a.slot t.2.0 t.2.1 t.2.2)) u

pub unlike : (z : Size) (n : ℕ) (b : Board) (vs : List View) → Reached n z b vs → (k q : ℕ) → state_of (atom b k) ≡ 3 → state_of (atom b q) ≡ 3 → text_of b.texts k ≡ text_of b.texts q → k ≡ q
unlike z n b vs h k q valid too e = let r = reached_kept n z b vs h in let l = r.slots.valid k valid in let m = r.slots.valid q too in
    r.rows.unlike l.0 m.0 k q l.1 m.1 l.2 m.2 (λ d. let dying = r.slots.dies k (sym d) in omega arith) (λ d. let dying = r.slots.dies q (sym d) in omega arith) e

-- a valid slot keeps its text over a step
module _ (z : Size) (b : Board) (vs : List View) (r : Kept z b vs) (b' : Board) (k : ℕ) (valid : state_of (get_or b.atoms k 0) ≡ 3) where
  same_text : b'.texts ≡ b.texts → text_of b'.texts k ≡ text_of b.texts k
  same_text e = ap (λ (l : List ℕ). text_of l k) e

  text_kind : (id : ℕ) (v : View) → SeatOk z b r.plan id v → (kind : Kind) → Does z b v kind b' → text_of b'.texts k ≡ text_of b.texts k
  text_kind id v s (Reserve i) d = same_text (ap (λ (x : Board). x.texts) d.3)
  text_kind id v s (Measure x) d = same_text (ap (λ (y : Board). y.texts) d.5)
  text_kind id v s Fill d = same_text (ap (λ (y : Board). y.texts) d.4)
  text_kind id v s (PutWord x) d = ap (λ (y : Board). text_of y.texts k) d.4 ∙ text_else b.texts d.0.slot (length d.0.text) x k d.3
      (λ e. let state = (s.own d.0 d.1).state in let here : state_of (get_or b.atoms d.0.slot 0) ≡ 3 = ap (λ (i : ℕ). state_of (get_or b.atoms i 0)) (sym e) ∙ valid in omega arith)
  text_kind id v s (PutLink l) d = same_text (ap (λ (x : Board). x.texts) d.3)
  text_kind id v s Link d = same_text (ap (λ (x : Board). x.texts) d.12)
  text_kind id v s Validate d = same_text (ap (λ (x : Board). x.texts) d.4)
  text_kind id v s Release d = same_text (ap (λ (x : Board). x.texts) d.4)
  text_kind id v s (Load i x) d = same_text (ap (λ (y : Board). y.texts) d.1)
  text_kind id v s (Refused i old found) d = same_text (ap (λ (x : Board). x.texts) d.3)
  text_kind id v s (Start h x) d = same_text (ap (λ (y : Board). y.texts) d.3)
  text_kind id v s (Read x) d = same_text (ap (λ (y : Board). y.texts) d.6)
  text_kind id v s (Next x) d = same_text (ap (λ (y : Board). y.texts) d.5)
  text_kind id v s (Skip x) d = same_text (ap (λ (y : Board). y.texts) d.7)
  text_kind id v s Hold d = same_text (ap (λ (x : Board). x.texts) d.8)
  text_kind id v s (Keep those) d = same_text (ap (λ (x : Board). x.texts) d.1)
  text_kind id v s Fix d = same_text (ap (λ (x : Board). x.texts) d.1)
  text_kind id v s (StartPass x) d = same_text (ap (λ (y : Board). y.texts) d.1)
  text_kind id v s (EndPass x) d = same_text (ap (λ (y : Board). y.texts) d.3)
  text_kind id v s (Refuse c) d = same_text (ap (λ (x : Board). x.texts) d.1)
  text_kind id v s (Barred h x) d = same_text (ap (λ (y : Board). y.texts) d.3)
  text_kind id v s (Ask t) d = same_text (ap (λ (x : Board). x.texts) d)
  text_kind id v s (Protect i x) d = same_text (ap (λ (y : Board). y.texts) d.2)
  text_kind id v s (Fetch i) d = same_text (ap (λ (x : Board). x.texts) d.5)
  text_kind id v s (Register a) d = same_text (ap (λ (x : Board). x.texts) d.4)
  text_kind id v s (Unregister i) d = same_text (ap (λ (x : Board). x.texts) d.4)
  text_kind id v s (Raise h) d = same_text (ap (λ (x : Board). x.texts) d.4)
  text_kind id v s (Risen h x) d = same_text (ap (λ (y : Board). y.texts) d.3)
  text_kind id v s Begin d = same_text (ap (λ (x : Board). x.texts) d.5)
  text_kind id v s (Mark x those) d = same_text (ap (λ (y : Board). y.texts) d.5)
  text_kind id v s (Scan i) d = same_text (ap (λ (x : Board). x.texts) d.4)
  text_kind id v s Ack d = same_text (ap (λ (x : Board). x.texts) d.2)
  text_kind id v s (Check e) d = same_text (ap (λ (x : Board). x.texts) d.6)
  text_kind id v s ToSweep d = same_text (ap (λ (x : Board). x.texts) d.4)
  text_kind id v s (Look x) d = same_text (ap (λ (y : Board). y.texts) d.5)
  text_kind id v s (Spell x) d = same_text (ap (λ (y : Board). y.texts) d.6)
  text_kind id v s Condemn d = same_text (ap (λ (x : Board). x.texts) d.9)
  text_kind id v s (PassOver x) d = same_text (ap (λ (y : Board). y.texts) d.5)
  text_kind id v s (Behind x) d = same_text (ap (λ (y : Board). y.texts) d.3)
  text_kind id v s (UnlinkAt q) d = same_text (ap (λ (x : Board). x.texts) d.8)
  text_kind id v s UnlinkHead d = same_text (ap (λ (x : Board). x.texts) d.8)
  text_kind id v s (Note x) d = same_text (ap (λ (y : Board). y.texts) d.3)
  text_kind id v s Bump d = same_text (ap (λ (x : Board). x.texts) d.6)
  text_kind id v s (Past x) d = same_text (ap (λ (y : Board). y.texts) d.6)
  text_kind id v s Free d = same_text (ap (λ (x : Board). x.texts) d.3)
  text_kind id v s End d = same_text (ap (λ (x : Board). x.texts) d.4)
  text_kind id v s (Aim row) d = same_text (ap (λ (x : Board). x.texts) d.3)
  text_kind id v s (Sound x) d = same_text (ap (λ (y : Board). y.texts) d.6)
  text_kind id v s (Close h) d = same_text (ap (λ (x : Board). x.texts) d.5)
  text_kind id v s Emptied d = same_text (ap (λ (x : Board). x.texts) d.4)
  text_kind id v s (Pick a before) d = same_text (ap (λ (x : Board). x.texts) d.9)
  text_kind id v s (MoveHead h) d = same_text (ap (λ (x : Board). x.texts) d.6)
  text_kind id v s (MoveLink q) d = same_text (ap (λ (x : Board). x.texts) d.9)
  text_kind id v s (LeaveHead h) d = same_text (ap (λ (x : Board). x.texts) d.4)
  text_kind id v s (LeaveLink q) d = same_text (ap (λ (x : Board). x.texts) d.3)
  text_kind id v s (PublishRow row) d = same_text (ap (λ (x : Board). x.texts) d.5)
  text_kind id v s (Publish h) d = same_text (ap (λ (x : Board). x.texts) d.5)
  text_kind id v s _ d = absurd d

  text_move : (vs' : List View) → Moves z b vs b' vs' → text_of b'.texts k ≡ text_of b.texts k
  text_move vs' (goes g) = text_kind g.id g.view (r.seats g.id g.view g.at g.here) g.kind g.does
  text_move vs' (makes e f) = same_text (ap (λ (x : Board). x.texts) e)
  text_move vs' (joins j) = same_text (ap (λ (x : Board). x.texts) j.words)
  text_move vs' (splits t) = same_text (ap (λ (x : Board). x.texts) t.words)

pub text_stays : (z : Size) (n : ℕ) (b : Board) (vs : List View) (b' : Board) (vs' : List View) → Reached n z b vs → Moves z b vs b' vs' → (i j : ℕ) (v w : View) (a c : Held) → get_elem? vs i ≡ some v → v.gone ≡ false → get_elem? vs' j ≡ some w → w.gone ≡ false
    → Uses v a → Uses w c → a.slot ≡ c.slot → (state_of (atom b a.slot) ≡ 3) × (state_of (atom b' c.slot) ≡ 3) × (a.text ≡ c.text)
text_stays z n b vs b' vs' h m i j v w a c at here at' here' u u' same = let r = reached_kept n z b vs h in let r' = keep_move z b vs b' vs' r m in
    let one = uses_ok z b vs r i v (r.seats i v at here) a u in let two = uses_ok z b' vs' r' j w (r'.seats j w at' here') c u' in
    (one.valid, two.valid, sym one.text ∙ (sym (text_move z b vs r b' a.slot one.valid vs' m) ∙ (ap (text_of b'.texts) same ∙ two.text)))

pub unused : (z : Size) (n : ℕ) (b : Board) (vs : List View) → Reached n z b vs → (id : ℕ) (v : View) (y : Sweeping) (b' : Board) → get_elem? vs id ≡ some v → v.gone ≡ false → v.sweep ≡ Some y → Does z b v Condemn b' ⊎ Does z b v Free b'
    → (j : ℕ) (w : View) (a : Held) → get_elem? vs j ≡ some w → w.gone ≡ false → Uses w a → a.slot ≢ y.cursor
unused z n b vs h id v y b' at here sweep step j w a at_w here_w u e = let r = reached_kept n z b vs h in let s = r.seats id v at here in let k = r.seats j w at_w here_w in let live = uses_ok z b vs r j w k a u in let valid = live.valid in
    let cursor : r.plan.sweep.cursor ≡ y.cursor = ap (λ (t : Sweeping). t.cursor) (known z b vs r id v s y sweep) in
    ⊎_elim
    (λ (d : Does z b v Condemn b'). let one : d.0 ≡ y = some_same d.0 y v.sweep d.2.0 sweep in let here_ : d.0.cursor ≡ y.cursor = ap (λ (t : Sweeping). t.cursor) one in
    let word : get_or b.atoms a.slot 0 ≡ 3 = ap (λ (i : ℕ). get_or b.atoms i 0) (e ∙ sym here_) ∙ d.8 in let high = d.5 in
    ⊎_elim
    (λ (t : In a w.held ⊎ In a w.fixed). ⊎_elim
    (λ (i : In a w.held). not_held z b vs r (swept_by z b vs r id v s d.0 d.2) j w k a.slot (e ∙ sym cursor) (ap mark_of word) a i refl)
    (λ (i : In a w.fixed). let small = k.low i.0 a i.1 in omega arith) t)
    (λ (t : (cs : List Counted) × (w.counts ≡ Some cs) × ((c : Counted) × (get_elem? cs a.slot ≡ some c) × (0 < c.count) × (c.text ≡ a.text))).
    let count : count_of 3 ≡ t.2.0.count = sym (ap count_of word) ∙ (k.counts t.0 t.1).counts a.slot t.2.0 t.2.1 in let some_ = t.2.2 in omega (arith, count)) u)
    (λ (d : Does z b v Free b'). let one : d.0 ≡ y = some_same d.0 y v.sweep d.1.0.0 sweep in let is = known z b vs r id v s d.0 d.1.0.0 in
    let slot : r.plan.fate.slot ≡ a.slot + 1 = sym r.fate.slot ∙ (ap (λ (t : Sweeping). t.dying) is ∙ (d.1.1 ∙ ap (λ (i : ℕ). i + 1) (ap (λ (t : Sweeping). t.cursor) one ∙ sym e))) in let dying = r.slots.dies a.slot slot in omega arith)
    step

-- counts
pub counts_are : (z : Size) → CountsAre z
counts_are z n b vs h k = let r = reached_kept n z b vs h in (r.slots.zero k, λ j v cs c at here e q. ((r.seats j v at here).counts cs e).counts k c q)

-- marks
pub marked : (z : Size) → Marked z
marked z n b vs h i j u v y a at_u here_u sweep at here phase acked held = let r = reached_kept n z b vs h in let m = (r.seats j v at here).marks.held (phase, acked) a held in
    let cursor : r.plan.sweep.cursor ≡ y.cursor = ap (λ (t : Sweeping). t.cursor) (known z b vs r i u (r.seats i u at_u here_u) y sweep) in
    (m.0, ⊎_elim (λ (t : mark_of (get_or b.atoms a.slot 0) ≡ 1). inl t) (λ (t : (phase_of b.epoch ≡ 2) × (a.slot < r.plan.sweep.cursor)). inr (t.0, subst (λ (c : ℕ). a.slot < c) cursor t.1)) m.1)

-- the dying slot
pub one_dying : (z : Size) → OneDying z
one_dying z n b vs h i k u y at here sweep dying = let r = reached_kept n z b vs h in let slot : r.plan.fate.slot ≡ k + 1 = r.slots.only k dying in let d = r.fate.dies (λ none. omega arith) in let come = d.at in
    let cursor : r.plan.sweep.cursor ≡ y.cursor = ap (λ (t : Sweeping). t.cursor) (known z b vs r i u (r.seats i u at here) y sweep) in (d.sweeping, omega arith, r.cycle.swept d.sweeping)
