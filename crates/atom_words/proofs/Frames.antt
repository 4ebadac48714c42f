-- What a step leaves as it was. Each lemma takes a part of the rule over a change that does not concern it.
use Rattle.std.proofs.Common.{◌≡◌, ◌≢◌, ◌⊎◌, ℕ, ◌+◌, ◌<◌, ◌≤◌, true, false, List, [], length, get_or, set, refl, sym, ap, ◌∙◌, subst, inl, inr, ⊎_elim, Option, Some, length-set}
use mathlib.Core.Option.{some}
use native.Mathlib.Decide.{ℕ_discrete}
use lib.ListN.{get_elem?}
use Rattle.atomic_table.proofs.Lists.{at_set}
use Rattle.atom_words.specs.Layout.{state_of, mark_of, count_of, phase_of}
use Rattle.atom_words.specs.Texts.{Formed}
use Rattle.atom_words.specs.Board.{Board, text_of, with_atom}
use Rattle.atom_words.specs.Chains.{In, Linked}
use Rattle.atom_words.specs.Kept.{Plan, Safe, Acked, OwnOk, HeldOk, CountsOk, MarksOk, SeatOk, Slots, SureOk, Kept}
use Rattle.atom_words.specs.declared.size.Size.{Size}
use Rattle.atom_words.specs.declared.view.Held.{Held}
use Rattle.atom_words.specs.declared.view.Counted.{Counted}
use Rattle.atom_words.specs.declared.view.Own.{Own}
use Rattle.atom_words.specs.declared.view.Walk.{Walk}
use Rattle.atom_words.specs.declared.view.Cycling.{Cycling}
use Rattle.atom_words.specs.declared.view.Sweeping.{Sweeping}
use Rattle.atom_words.specs.declared.view.View.{View}
use Rattle.atom_words.proofs.Slices.{word_after}

-- a fact of each seat, after the view of one has changed
pub seats_stay : (K : ℕ → View → Type 0) (vs : List View) (me : ℕ) (w : View) → (w.gone ≡ false → K me w) → ((j : ℕ) (v : View) → j ≢ me → get_elem? vs j ≡ some v → v.gone ≡ false → K j v)
    → (j : ℕ) (v : View) → get_elem? (set vs me w) j ≡ some v → v.gone ≡ false → K j v
seats_stay K vs me w mine others j v e = ⊎_elim
    (λ (t : (j ≡ me) × (w ≡ v)). let P : ℕ × View → Type 0 = λ x. x.1.gone ≡ false → K x.0 x.1 in subst P (λ i. (sym t.0 i, t.1 i)) mine)
    (λ (t : (j ≢ me) × (get_elem? vs j ≡ some v)). others j v t.0 t.1) (at_set vs me j w v e)

-- a step that changes its own view alone
pub keep_view : (z : Size) (b : Board) (vs : List View) (r : Kept z b vs) (id : ℕ) (w : View) → SeatOk z b r.plan id w → Kept z b (set vs id w)
keep_view z b vs r id w mine = record {
  plan = r.plan;
  sized = r.sized;
  grow = r.grow;
  rows = r.rows;
  slots = r.slots;
  cycle = r.cycle;
  sure = r.sure;
  blank = r.blank;
  fate = r.fate;
  seats = seats_stay (SeatOk z b r.plan) vs id w (λ _. mine) (λ j v _ at here. r.seats j v at here);
}

-- ANOTHER ATOM WORD: what it does to the parts
module _ (z : Size) (atoms atoms' : List ℕ) where
  abbrev pub StaysValid : Type 0
  StaysValid = (q : ℕ) → state_of (get_or atoms q 0) ≡ 3 → state_of (get_or atoms' q 0) ≡ 3

  pub held_stays : (texts : List ℕ) (chain : ℕ → List ℕ) (a : Held) → StaysValid → HeldOk z atoms texts chain a → HeldOk z atoms' texts chain a
  held_stays texts chain a stays h = record { inside = h.inside; valid = stays a.slot h.valid; linked = h.linked; text = h.text }

  pub own_stays : (links texts : List ℕ) (chain : ℕ → List ℕ) (owner owner' : ℕ → ℕ) (j : ℕ) (o : Own)
      → (owner o.slot ≡ j → state_of (get_or atoms o.slot 0) ≡ 1 → (owner' o.slot ≡ j) × (state_of (get_or atoms' o.slot 0) ≡ 1)) → OwnOk z atoms links texts chain owner j o → OwnOk z atoms' links texts chain owner' j o
  own_stays links texts chain owner owner' j o stays h = let now = stays h.mine h.state in
      record { inside = h.inside; mine = now.0; usable = h.usable; state = now.1; short = h.short; text = h.text; rest = h.rest; link = h.link; apart = h.apart; linked = h.linked }

  pub counts_stay : (texts : List ℕ) (chain : ℕ → List ℕ) (keeper j : ℕ) (cs : List Counted) → StaysValid → ((q : ℕ) → count_of (get_or atoms' q 0) ≡ count_of (get_or atoms q 0))
      → CountsOk z atoms texts chain keeper j cs → CountsOk z atoms' texts chain keeper j cs
  counts_stay texts chain keeper j cs stays same h = record {
    mine = h.mine;
    each_slot = h.each_slot;
    counts = λ k c at. same k ∙ h.counts k c at;
    live = λ k c at some_. held_stays texts chain (record { slot = k; text = c.text }) stays (h.live k c at some_);
  }

  -- marks of valid slots stay
  abbrev pub StaysMarked : Type 0
  StaysMarked = (q : ℕ) → state_of (get_or atoms q 0) ≡ 3 → mark_of (get_or atoms q 0) ≡ 1 → mark_of (get_or atoms' q 0) ≡ 1

  pub safe_stays : (epoch cursor q : ℕ) → StaysMarked → state_of (get_or atoms q 0) ≡ 3 → Safe epoch atoms cursor q → Safe epoch atoms' cursor q
  safe_stays epoch cursor q marked valid safe = ⊎_elim (λ (m : mark_of (get_or atoms q 0) ≡ 1). inl (marked q valid m)) (λ (t : (phase_of epoch ≡ 2) × (q < cursor)). inr t) safe

  pub marks_stay : (epoch : ℕ) (acks : List ℕ) (engine : ℕ → ℕ) (cursor j : ℕ) (y : Cycling) (undealt : ℕ) (holds : List Held) (walk : Option Walk) → StaysValid → StaysMarked
      → MarksOk z epoch acks atoms engine cursor j y undealt holds walk → MarksOk z epoch acks atoms' engine cursor j y undealt holds walk
  marks_stay epoch acks engine cursor j y undealt holds walk stays marked h = record {
    mine = h.mine;
    to_deal = h.to_deal;
    one = h.one;
    engineless = h.engineless;
    past = h.past;
    before = h.before;
    reading = h.reading;
    scanned = λ m s k i. let t = h.scanned m s k i in (stays k t.0, marked k t.0 t.1);
    held = λ acked a i. let t = h.held acked a i in (stays a.slot t.0, safe_stays epoch cursor a.slot marked t.0 t.1);
    guard = λ w k e g at sits. let t = h.guard w k e g at sits in (stays k t.0, λ acked. safe_stays epoch cursor k marked t.0 (t.1 acked));
    nothing = h.nothing;
  }

-- ANOTHER WALK, OR OTHER SLOTS HELD
module _ (z : Size) (epoch : ℕ) (acks atoms : List ℕ) (engine : ℕ → ℕ) (cursor j : ℕ) (y : Cycling) (undealt : ℕ) (holds : List Held) (walk : Option Walk) (h : MarksOk z epoch acks atoms engine cursor j y undealt holds walk) where
  abbrev pub Guards : Walk → ℕ → Type 0
  Guards w k = (y.engine ≢ 0) ⊎ (0 < undealt) → (state_of (get_or atoms k 0) ≡ 3) × (Acked epoch y → Safe epoch atoms cursor k)

  pub marks_now : (holds' : List Held) (walk' : Option Walk) → (Acked epoch y → (a : Held) → In a holds' → (state_of (get_or atoms a.slot 0) ≡ 3) × Safe epoch atoms cursor a.slot) → (y.engine ≡ 0 → undealt ≡ 0 → holds' ≡ [])
      → ((w : Walk) (k : ℕ) → walk' ≡ Some w → w.guarded ≡ true → w.place ≡ k + 1 → (y.engine ≢ 0) ⊎ (0 < undealt) → (state_of (get_or atoms k 0) ≡ 3) × (Acked epoch y → Safe epoch atoms cursor k))
      → MarksOk z epoch acks atoms engine cursor j y undealt holds' walk'
  marks_now holds' walk' held nothing guard = record {
    mine = h.mine;
    to_deal = h.to_deal;
    one = h.one;
    engineless = h.engineless;
    past = h.past;
    before = h.before;
    reading = h.reading;
    scanned = h.scanned;
    held = held;
    guard = guard;
    nothing = nothing;
  }

  -- the slots held stay, and the walk guards nothing that it did not
  pub marks_walk : (walk' : Option Walk) → ((w : Walk) (k : ℕ) → walk' ≡ Some w → w.guarded ≡ true → w.place ≡ k + 1 → (t : Walk) × (walk ≡ Some t) × (t.guarded ≡ true) × (t.place ≡ k + 1)) → MarksOk z epoch acks atoms engine cursor j y undealt holds walk'
  marks_walk walk' was = marks_now holds walk' h.held h.nothing (λ w k e g at sits. let t = was w k e g at in h.guard t.0 k t.1 t.2 t.3 sits)

-- The seat id makes the atom word k from what it was into x
pub record Soft (z : Size) (atoms : List ℕ) (p : Plan) (owner' : ℕ → ℕ) (id k x : ℕ) : Type 0 where
  pub inside : k < length atoms
  pub valid : state_of (get_or atoms k 0) ≡ 3 → state_of x ≡ 3
  pub mark : state_of (get_or atoms k 0) ≡ 3 → mark_of (get_or atoms k 0) ≡ 1 → mark_of x ≡ 1
  pub mine : state_of (get_or atoms k 0) ≡ 1 → (p.owner k ≡ id) ⊎ ((state_of x ≡ 1) × (owner' k ≡ p.owner k))
  pub others : (q : ℕ) → q ≢ k → owner' q ≡ p.owner q
  pub count : (count_of x ≡ count_of (get_or atoms k 0)) ⊎ (p.keeper ≡ id)
  pub live : Linked z.heads p.chain k → ((state_of x ≡ 1) ⊎ (state_of x ≡ 3)) ⊎ (p.fate.slot ≡ k + 1)
  pub linked : state_of x ≡ 3 → Linked z.heads p.chain k
  pub only : state_of x ≡ 2 → p.fate.slot ≡ k + 1
  pub dies : p.fate.slot ≡ k + 1 → state_of x ≡ 2
  pub zero : state_of x ≢ 3 → count_of x ≡ 0
  pub shut : z.fixed ≤ k → k < 256 → state_of (get_or atoms k 0) ≡ 1 → state_of x ≡ 1

module _ (z : Size) (atoms : List ℕ) (p : Plan) (owner' : ℕ → ℕ) (id k x : ℕ) (soft : Soft z atoms p owner' id k x) where
  pub soft_valid : StaysValid z atoms (set atoms k x)
  soft_valid q h = word_after (λ n. state_of n ≡ 3) atoms k x q soft.inside (λ e. soft.valid (subst (λ (i : ℕ). state_of (get_or atoms i 0) ≡ 3) e h)) (λ _. h)

  pub soft_marked : StaysMarked z atoms (set atoms k x)
  soft_marked q h = word_after (λ n. mark_of (get_or atoms q 0) ≡ 1 → mark_of n ≡ 1) atoms k x q soft.inside
      (λ e m. soft.mark (subst (λ (i : ℕ). state_of (get_or atoms i 0) ≡ 3) e h) (subst (λ (i : ℕ). mark_of (get_or atoms i 0) ≡ 1) e m)) (λ _ m. m)

  pub soft_count : count_of x ≡ count_of (get_or atoms k 0) → (q : ℕ) → count_of (get_or (set atoms k x) q 0) ≡ count_of (get_or atoms q 0)
  soft_count same q = word_after (λ n. count_of n ≡ count_of (get_or atoms q 0)) atoms k x q soft.inside (λ e. subst (λ (i : ℕ). count_of x ≡ count_of (get_or atoms i 0)) (sym e) same) (λ _. refl)

  soft_owner : (j q : ℕ) → j ≢ id → p.owner q ≡ j → state_of (get_or atoms q 0) ≡ 1 → owner' q ≡ j
  soft_owner j q other mine reserved = elim (ℕ_discrete q k) as (λ _. owner' q ≡ j) [
    | yes e ↦ ⊎_elim (λ (h : p.owner k ≡ id). absurd (other (sym mine ∙ (ap p.owner e ∙ h)))) (λ (h : (state_of x ≡ 1) × (owner' k ≡ p.owner k)). ap owner' e ∙ (h.1 ∙ (sym (ap p.owner e) ∙ mine)))
        (soft.mine (subst (λ (i : ℕ). state_of (get_or atoms i 0) ≡ 1) e reserved))
    | no ne ↦ soft.others q ne ∙ mine
  ]

  soft_state : (j q : ℕ) → j ≢ id → p.owner q ≡ j → state_of (get_or atoms q 0) ≡ 1 → state_of (get_or (set atoms k x) q 0) ≡ 1
  soft_state j q other mine reserved = word_after (λ n. state_of n ≡ 1) atoms k x q soft.inside
      (λ e. ⊎_elim (λ (h : p.owner k ≡ id). absurd (other (sym mine ∙ (ap p.owner e ∙ h)))) (λ (h : (state_of x ≡ 1) × (owner' k ≡ p.owner k)). h.0)
      (soft.mine (subst (λ (i : ℕ). state_of (get_or atoms i 0) ≡ 1) e reserved)))
      (λ _. reserved)

  soft_seat : (b : Board) → b.atoms ≡ atoms → (j : ℕ) (v : View) → j ≢ id → SeatOk z (record b { atoms = atoms }) p j v → SeatOk z (record b { atoms = set atoms k x }) (record p { owner = owner' }) j v
  soft_seat b _ j v other s = record {
    size = s.size;
    own = λ o e. own_stays z atoms (set atoms k x) b.links b.texts p.chain p.owner owner' j o (λ mine reserved. (soft_owner j o.slot other mine reserved, soft_state j o.slot other mine reserved)) (s.own o e);
    held = λ i a e. held_stays z atoms (set atoms k x) b.texts p.chain a soft_valid (s.held i a e);
    fixed = λ i a e. held_stays z atoms (set atoms k x) b.texts p.chain a soft_valid (s.fixed i a e);
    low = s.low;
    counts = λ cs e. let h = s.counts cs e in counts_stay z atoms (set atoms k x) b.texts p.chain p.keeper j cs soft_valid
        (⊎_elim soft_count (λ (is : p.keeper ≡ id). absurd (other (sym h.mine ∙ is))) soft.count) h;
    walk = s.walk;
    marks = marks_stay z atoms (set atoms k x) b.epoch b.acks p.engine p.sweep.cursor j v.cycle v.undealt v.held v.walk soft_valid soft_marked s.marks;
    sweeps = s.sweeps;
    trail = s.trail;
    risen = s.risen;
    unclosed = s.unclosed;
    grows = s.grows;
  }

  soft_slots : Slots z atoms p.chain p.fate → Slots z (set atoms k x) p.chain p.fate
  soft_slots s = record {
    live = λ q l. word_after (λ n. ((state_of n ≡ 1) ⊎ (state_of n ≡ 3)) ⊎ (p.fate.slot ≡ q + 1)) atoms k x q soft.inside
        (λ e. subst (λ (i : ℕ). ((state_of x ≡ 1) ⊎ (state_of x ≡ 3)) ⊎ (p.fate.slot ≡ i + 1)) (sym e) (soft.live (subst (Linked z.heads p.chain) e l))) (λ _. s.live q l);
    valid = λ q. word_after (λ n. state_of n ≡ 3 → Linked z.heads p.chain q) atoms k x q soft.inside (λ e h. subst (Linked z.heads p.chain) (sym e) (soft.linked h)) (λ _. s.valid q);
    only = λ q. word_after (λ n. state_of n ≡ 2 → p.fate.slot ≡ q + 1) atoms k x q soft.inside (λ e h. soft.only h ∙ ap (λ (i : ℕ). i + 1) (sym e)) (λ _. s.only q);
    dies = λ q h. word_after (λ n. state_of n ≡ 2) atoms k x q soft.inside (λ e. soft.dies (h ∙ ap (λ (i : ℕ). i + 1) e)) (λ _. s.dies q h);
    zero = λ q. word_after (λ n. state_of n ≢ 3 → count_of n ≡ 0) atoms k x q soft.inside (λ _. soft.zero) (λ _. s.zero q);
    shut = λ q inside fixed low. word_after (λ n. state_of n ≡ 1) atoms k x q soft.inside
        (λ e. soft.shut (subst (λ (i : ℕ). z.fixed ≤ i) e fixed) (subst (λ (i : ℕ). i < 256) e low) (subst (λ (i : ℕ). state_of (get_or atoms i 0) ≡ 1) e (s.shut q inside fixed low)))
        (λ _. s.shut q inside fixed low);
  }

  pub soft_sure : (texts : List ℕ) (y : Sweeping) → Slots z atoms p.chain p.fate → SureOk z atoms texts y → SureOk z (set atoms k x) texts y
  soft_sure texts y slots s = record {
    inside = s.inside;
    state = λ on. ⊎_elim (λ (valid : state_of (get_or atoms y.cursor 0) ≡ 3). inl (soft_valid y.cursor valid))
        (λ (dying : state_of (get_or atoms y.cursor 0) ≡ 2). inr (word_after (λ n. state_of n ≡ 2) atoms k x y.cursor soft.inside (λ e. soft.dies (slots.only y.cursor dying ∙ ap (λ (i : ℕ). i + 1) e)) (λ _. dying))) (s.state on);
    short = s.short;
    text = s.text;
  }

-- a step on an atom word keeps the rule where it keeps it of that slot and of the seat's own view
pub keep_atom : (z : Size) (b : Board) (vs : List View) (r : Kept z b vs) (owner' : ℕ → ℕ) (id k x : ℕ) (w : View) → Soft z b.atoms r.plan owner' id k x → (state_of x ≢ 1 → Formed (text_of b.texts k))
    → SeatOk z (with_atom b k x) (record r.plan { owner = owner' }) id w → Kept z (with_atom b k x) (set vs id w)
keep_atom z b vs r owner' id k x w soft formed mine = record {
  plan = record r.plan { owner = owner' };
  sized = record { small = r.sized.small; acks = r.sized.acks; atoms = length-set b.atoms k x ∙ r.sized.atoms; links = r.sized.links; heads = r.sized.heads; texts = r.sized.texts };
  grow = r.grow;
  rows = r.rows;
  slots = soft_slots z b.atoms r.plan owner' id k x soft r.slots;
  cycle = r.cycle;
  sure = soft_sure z b.atoms r.plan owner' id k x soft b.texts r.plan.sweep r.slots r.sure;
  blank = λ q. word_after (λ n. state_of n ≢ 1 → Formed (text_of b.texts q)) b.atoms k x q soft.inside (λ e ne. subst (λ (i : ℕ). Formed (text_of b.texts i)) (sym e) (formed ne)) (λ _. r.blank q);
  fate = r.fate;
  seats = seats_stay (SeatOk z (with_atom b k x) (record r.plan { owner = owner' })) vs id w (λ _. mine)
      (λ j v other at here. soft_seat z b.atoms r.plan owner' id k x soft b refl j v other (r.seats j v at here));
}
