-- Each raw step of a cycle is of its kind.
use Rattle.std.proofs.Common.{◌≡◌, ◌≢◌, ◌⊎◌, ℕ, ◌+◌, ◌-◌, ◌<◌, Bool, true, false, List, [], ◌∷◌, get_or, bit_or, refl, sym, ap, ◌∙◌, subst, inl, inr, ⊎_elim, arith, Some}
use Rattle.std.specs.Prelude.{◌==◌, ◌||◌, if◌then◌else◌}
use Rattle.std.proofs.lemmas.Bool.{cases_Bool, eqb-true}
use mathlib.Core.Logic.{dite}
use mathlib.Core.Option.{none, some}
use native.Mathlib.Decide.{ℕ_discrete, dec_lt}
use lib.ListN.{get_elem?}
use Rattle.atomic_table.specs.Table.{step, Allows}
use Rattle.atom_words.specs.Layout.{epoch_word, phase_of, epoch_of}
use Rattle.atom_words.specs.Board.{Board, atom, atom_at, ack_at, with_atom}
use Rattle.atom_words.specs.Chains.{In}
use Rattle.atom_words.specs.Kinds.{Does, Scanning, marked, view_after}
use Rattle.atom_words.specs.Rule.{Rule}
use Rattle.atom_words.specs.Kept.{Kept}
use Rattle.atom_words.specs.declared.size.Size.{Size}
use Rattle.atom_words.specs.declared.view.Held.{Held}
use Rattle.atom_words.specs.declared.view.Sweeping.{Sweeping}
use Rattle.atom_words.specs.declared.view.Growing.{Growing}
use Rattle.atom_words.specs.declared.view.View.{View}
use Rattle.atom_words.specs.declared.kind.Kind.TheVariants.{Load, Protect, Begin, Mark, Scan, Ack, Check, ToSweep}
use Rattle.atom_words.proofs.Slices.{some_same, in_later, or_true}
use Rattle.atom_words.proofs.Steps.{or_mark}
use Rattle.atom_words.proofs.Adapters.{Sat, atom_goes, epoch_load, row_load}
use Rattle.bucket_rows.specs.Touches.{has_slot, touch}
use Rattle.bucket_rows.specs.Plays.{row_read, word_known, begun, mark_read, scanned, acknowledged, engine_checked, turned}
use Rattle.bucket_rows.proofs.Words.{epoch_goes, ack_goes, ack_load, ack_read}

-- The kind of step with which a slot is marked is one that the rule allows.
in_slots : (k : ℕ) (hs : List Held) → has_slot k hs ≡ true → (a : Held) × In a hs × (a.slot ≡ k)
in_slots k [] e = absurd cc
in_slots k (h ∷ hs) e = ⊎_elim (λ (t : (h.slot == k) ≡ true). (h, (0, refl), eqb-true h.slot k t)) (λ (t : has_slot k hs ≡ true). let a = in_slots k hs t in (a.0, in_later a.0 h hs a.1, a.2)) (or_true (h.slot == k) (has_slot k hs) e)

touched : (z : Size) (b : Board) (v : View) (k : ℕ) (b' : Board) → k < z.slots → Scanning v → b' ≡ with_atom b k (marked (atom b k)) → Does z b v (touch v k (atom b k)) b'
touched z b v k b' low scans is = elim (cases_Bool (has_slot k v.held || has_slot k v.fixed)) [
  | inl t ↦ subst (λ (o : Bool). Does z b v (if o then Scan k else Protect k (atom b k)) b') (sym t) (⊎_elim
      (λ (e : has_slot k v.held ≡ true). let a = in_slots k v.held e in (scans, a.0, inl a.1, a.2, is))
      (λ (e : has_slot k v.fixed ≡ true). let a = in_slots k v.fixed e in (scans, a.0, inr a.1, a.2, is)) (or_true (has_slot k v.held) (has_slot k v.fixed) t))
  | inr f ↦ subst (λ (o : Bool). Does z b v (if o then Scan k else Protect k (atom b k)) b') (sym f) (low, refl, is)
]

module _ (key : Size) (slots id : ℕ) (me : Sat) (is : key ≡ me.0.size) (here : me.0.gone ≡ false) where
  -- the epoch word is the one that the collector knows
  word_is : (b : Board) (vs : List View) → Kept me.0.size b vs → get_elem? vs id ≡ some me.0 → (y : Sweeping) → me.0.sweep ≡ Some y → b.epoch ≡ y.word
  word_is b vs r seen y sweep = sym r.cycle.word ∙ ap (λ (q : Sweeping). q.word) ((r.seats id me.0 seen here).sweeps y sweep).1

  pub knowing_word : Allows (Rule key) slots id me 0 (λ n. n) (word_known (step slots 0 0 0 none) me)
  knowing_word = epoch_load key me.0.size slots id me (word_known (step slots 0 0 0 none) me) is here
      (λ b vs r seen small. (Load 0 b.epoch, (refl, refl), ((refl, refl), λ y sweep. word_is b vs r seen y sweep)))

  -- the row word is the one that the collector knows
  pub reading_row : Allows (Rule key) slots id me 1 (λ n. n) (row_read (step slots 1 0 0 none) me)
  reading_row = row_load key me.0.size slots id me (row_read (step slots 1 0 0 none) me) is here
      (λ b vs r seen small. (Load 1 b.row, (refl, refl), ((refl, refl), r.grow.size, λ y sweep. ap (λ (g : Growing). g.row) (sym ((r.seats id me.0 seen here).grows y sweep)) ∙ r.grow.known)))

  pub beginning : (x : ℕ) (y : Sweeping) → me.0.sweep ≡ Some y → phase_of y.word ≡ 0 → epoch_of y.word < 4611686018427387903 → me.0.growing.shut ≡ 0 → x ≡ epoch_word 1 (epoch_of y.word + 1)
      → Allows (Rule key) slots id me 0 (λ _. x) (λ _. begun (step slots 0 x 0 none) me x)
  beginning x y sweep idle room still at = let new : ℕ = epoch_word 1 (epoch_of y.word + 1) in
      subst (λ (n : ℕ). Allows (Rule key) slots id me 0 (λ _. n) (λ _. begun (step slots 0 n 0 none) me n)) (sym at)
      (epoch_goes key me.0.size slots id me (λ _. new) (λ _. begun (step slots 0 new 0 none) me new) is here
      (λ b vs r seen small. (Begin, (y, sweep, idle, room, still, refl), (refl, refl))))

  pub marking : (those : List Held) → me.0.cycle.engine ≢ 0 → ((a : Held) → In a those → In a me.0.held) → Allows (Rule key) slots id me 0 (λ n. n) (mark_read those (step slots 0 0 0 none) me)
  marking those engine ours = epoch_load key me.0.size slots id me (mark_read those (step slots 0 0 0 none) me) is here
      (λ b vs r seen small. let m = (r.seats id me.0 seen here).marks in let room = (m.mine engine).0 in let past = m.past in dite (ℕ_discrete (phase_of b.epoch) 1)
      (λ phase. dite (dec_lt me.0.cycle.acked (epoch_of b.epoch))
      (λ late. (Mark b.epoch those, (engine, refl, phase, late, ours, refl), (refl, room, (λ _. refl), λ not. absurd (not (phase, late)))))
      (λ early. (Load 0 b.epoch, (refl, refl), (refl, room, (λ marks. absurd (early marks.1)), λ _. (inr (omega arith), refl)))))
      (λ other. (Load 0 b.epoch, (refl, refl), (refl, room, (λ marks. absurd (other marks.0)), λ _. (inl other, refl)))))

  pub scanning : (i k : ℕ) → i ≡ atom_at me.0.size k → k < me.0.size.slots → Scanning me.0 → Allows (Rule key) slots id me i (λ n. bit_or n 4) (scanned (step slots i 4 0 none) me)
  scanning i k at inside scans = subst (λ (w : ℕ). Allows (Rule key) slots id me w (λ n. bit_or n 4) (scanned (step slots w 4 0 none) me)) (sym at)
      (atom_goes key me.0.size slots id me k (λ n. bit_or n 4) (scanned (step slots (atom_at me.0.size k) 4 0 none) me) is here inside
      (λ b vs r seen small. (touch me.0 k (atom b k), touched me.0.size b me.0 k (with_atom b k (bit_or (atom b k) 4)) inside scans (ap (with_atom b k) (or_mark (atom b k))), (refl, λ j e. let same : k ≡ j = omega arith in ap (λ (x : ℕ). view_after me.0 (touch me.0 x (atom b k))) same))))

  pub acking : (i x : ℕ) → Scanning me.0 → ((a : Held) → In a me.0.held → In a.slot me.0.cycle.scanned) → me.0.cycle.engine - 1 < me.0.size.engines → i ≡ ack_at me.0.size (me.0.cycle.engine - 1) → x ≡ me.0.cycle.scanned_at
      → Allows (Rule key) slots id me i (λ _. x) (λ _. acknowledged (step slots i x 0 none) me x)
  acking i x scans all inside at is_epoch = let P : ℕ × ℕ → Type 0 = λ p. Allows (Rule key) slots id me p.0 (λ _. p.1) (λ _. acknowledged (step slots p.0 p.1 0 none) me p.1) in
      let place : ℕ = ack_at me.0.size (me.0.cycle.engine - 1) in let epoch : ℕ = me.0.cycle.scanned_at in subst P (λ j. (sym at j, sym is_epoch j))
      (ack_goes key me.0.size slots id me (me.0.cycle.engine - 1) (λ _. epoch) (λ _. acknowledged (step slots place epoch 0 none) me epoch) is here inside
      (λ b vs r seen small. (Ack, (scans, all, refl), (refl, refl))))

  pub checking : (i e : ℕ) (y : Sweeping) → me.0.sweep ≡ Some y → phase_of y.word ≡ 1 → y.checked ≡ e → e < me.0.size.engines → i ≡ ack_at me.0.size e → Allows (Rule key) slots id me i (λ n. n) (engine_checked (step slots i 0 0 none) me)
  checking i e y sweep phase next inside at = subst (λ (w : ℕ). Allows (Rule key) slots id me w (λ n. n) (engine_checked (step slots w 0 0 none) me)) (sym at)
      (ack_load key me.0.size slots id me e (engine_checked (step slots (ack_at me.0.size e) 0 0 none) me) is here inside
      (λ b vs r seen small. let x : ℕ = get_or b.acks e 0 in dite (ℕ_discrete x (epoch_of y.word))
      (λ hit. (
        Check e,
        (y, sweep, phase, sym next, inside, hit, refl),
        (
          refl,
          λ q too. let one : y ≡ q = some_same y q me.0.sweep sweep too in
              ((λ _. ap (λ (n : ℕ). view_after me.0 (Check n)) (sym next ∙ ap (λ (t : Sweeping). t.checked) one)), λ ne. absurd (ne (hit ∙ ap (λ (t : Sweeping). epoch_of t.word) one))),
        ),
      ))
      (λ miss. (
        Load (ack_at me.0.size e) x,
        (ack_read me.0.size b r.sized e inside, refl),
        (
          refl,
          λ q too. let one : y ≡ q = some_same y q me.0.sweep sweep too in ((λ hit. absurd (miss (hit ∙ ap (λ (t : Sweeping). epoch_of t.word) (sym one)))), λ _. refl),
        ),
      ))))

  pub turning : (x : ℕ) (y : Sweeping) → me.0.sweep ≡ Some y → phase_of y.word ≡ 1 → y.checked ≡ me.0.size.engines → x ≡ epoch_word 2 (epoch_of y.word)
      → Allows (Rule key) slots id me 0 (λ _. x) (λ _. turned (step slots 0 x 0 none) me x)
  turning x y sweep phase all at = let new : ℕ = epoch_word 2 (epoch_of y.word) in
      subst (λ (n : ℕ). Allows (Rule key) slots id me 0 (λ _. n) (λ _. turned (step slots 0 n 0 none) me n)) (sym at)
      (epoch_goes key me.0.size slots id me (λ _. new) (λ _. turned (step slots 0 new 0 none) me new) is here
      (λ b vs r seen small. (ToSweep, (y, sweep, phase, all, refl), (refl, refl))))
