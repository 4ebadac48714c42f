-- Each raw step of the calls is of its kind.
use Rattle.std.proofs.Common.{◌≡◌, ◌≢◌, ◌⊎◌, ℕ, ◌+◌, ◌-◌, ◌*◌, ◌/◌, ◌%◌, ◌^◌, ◌<◌, eqb, true, false, List, [], length, get_or, bit_and, bit_or, refl, sym, ap, ◌∙◌, subst, inl, inr, arith, Some, None, ◌∷◌, ◌++◌, take_all}
use Rattle.std.proofs.lemmas.Nat.Bits.{and_pow}
use Rattle.std.specs.Int.Bits.{or_add_and}
use mathlib.Core.Logic.{dite}
use mathlib.Core.Option.{none}
use native.Mathlib.Decide.{ℕ_discrete, dec_le}
use lib.Seq.{set-get_or}
use prog.Atomic.{either}
use Rattle.atomic_table.specs.Table.{step, Allows}
use Rattle.atom_words.specs.Layout.{state_of, count_of, closed_of, version_of}
use Rattle.atom_words.specs.Board.{Board, atom, head, atom_at, head_at, text_at, text_of, with_atom, with_head, with_text}
use Rattle.atom_words.specs.Chains.{In}
use Rattle.atom_words.specs.Views.{uncounted}
use Rattle.atom_words.specs.Kinds.{IsCovered, IsLeft, Sitting, marked, counted, raised, view_after}
use Rattle.atom_words.specs.Rule.{Rule}
use Rattle.atom_words.specs.Plays.{Alone, head_raised, head_risen, seen_free, reserved, text_measured, text_filled, word_put, word_found, validated, released, protected, registered, unregistered, pass_started, pass_ended}
use Rattle.atom_words.specs.declared.size.Size.{Size}
use Rattle.atom_words.specs.declared.view.Held.{Held}
use Rattle.atom_words.specs.declared.view.Counted.{Counted}
use Rattle.atom_words.specs.declared.view.Own.{Own}
use Rattle.atom_words.specs.declared.view.Passing.{Passing}
use Rattle.atom_words.specs.declared.kind.Kind.{Kind}
use Rattle.atom_words.specs.declared.kind.Kind.TheVariants.{Raise, Risen, Reserve, Measure, PutWord, Fill, Validate, Release, Load, Refused, StartPass, EndPass, Protect, Register, Unregister}
use Rattle.atom_words.proofs.Regions.{atom_read, head_read, text_read}
use Rattle.atom_words.proofs.Slices.{some_same, or_at, text_short, text_word}
use Rattle.atom_words.proofs.AtomSteps.{has, alone_at}
use Rattle.atom_words.proofs.Adapters.{Sat, load_at, atom_goes, atom_exchange, head_exchange, head_load, text_goes, text_load, epoch_load}

pub or_mark : (n : ℕ) → bit_or n 4 ≡ marked n
or_mark n = let a : bit_or n 4 + bit_and n 4 ≡ n + 4 = or_add_and n 4 in let m : bit_and n 4 ≡ n / 4 % 2 * 4 = and_pow n 2 in omega arith

-- a text word stays as it is where it is put again
word_same : (b : Board) (p x : ℕ) → get_or b.texts p 0 ≡ x → b ≡ with_text b p x
word_same b p x same = sym (ap (with_text b p) (sym same) ∙ ap (λ (l : List ℕ). let y : Board = record b { texts = l } in y) (set-get_or b.texts p 0))

module _ (key : Size) (slots id : ℕ) (me : Sat) (is : key ≡ me.0.size) (here : me.0.gone ≡ false) where
  abbrev z : Size
  z = me.0.size

  pub seeing_free : (i k : ℕ) → i ≡ atom_at me.0.size k → k < me.0.size.slots → Allows (Rule key) slots id me i (λ n. n) (seen_free (step slots i 0 0 none) me)
  seeing_free i k at inside = subst (λ (w : ℕ). Allows (Rule key) slots id me w (λ n. n) (seen_free (step slots w 0 0 none) me)) (sym at)
      (load_at key me.0.size slots id me (atom_at me.0.size k) (seen_free (step slots (atom_at me.0.size k) 0 0 none) me) (λ b. atom b k) (λ b sz. atom_read me.0.size b sz k inside) is here
      (λ b vs r seen small. dite (ℕ_discrete (state_of (atom b k)) 0)
      (λ free. (
        Load (atom_at me.0.size k) (atom b k),
        (atom_read me.0.size b r.sized k inside, refl),
        (
          refl,
          λ j e. let same : k ≡ j = omega arith in
              ((λ _. ap (λ (x : ℕ). view_after me.0 (Load (atom_at me.0.size x) (atom b k))) same), λ ne. absurd (ne free)),
        ),
      ))
      (λ taken. (
        Refused k 0 (atom b k),
        (inside, refl, inl taken, refl),
        (
          refl,
          λ j e. let same : k ≡ j = omega arith in
              ((λ z_. absurd (taken z_)), λ _. ap (λ (x : ℕ). view_after me.0 (Refused x 0 (atom b k))) same),
        ),
      ))))

  pub reserving : (i k old : ℕ) → i ≡ atom_at me.0.size k → k < me.0.size.slots → me.0.own ≡ None → state_of old ≡ 0 → (before : List Kind) → me.0.made ≡ before ++ Load (atom_at me.0.size k) old ∷ []
      → Allows (Rule key) slots id me i (λ n. either (eqb n old) 1 n) (reserved (step slots i old 1 none) me)
  reserving i k old at inside unowned free before last = subst (λ (w : ℕ). Allows (Rule key) slots id me w (λ n. either (eqb n old) 1 n) (reserved (step slots w old 1 none) me)) (sym at)
      (atom_exchange key me.0.size slots id me k old 1 (reserved (step slots (atom_at me.0.size k) old 1 none) me) is here inside
      (λ b vs r seen hit. (
        Reserve k,
        (inside, unowned, ap state_of hit ∙ free, refl),
        (
          refl,
          λ j e. let same : k ≡ j = omega arith in
              ((λ _. ap (λ (x : ℕ). view_after me.0 (Reserve x)) same), λ ne. absurd (ne hit)),
        ),
      ))
      (λ b vs r seen miss. (
        Refused k old (atom b k),
        (inside, refl, inr (free, miss, (before, last)), refl),
        (
          refl,
          λ j e. let same : k ≡ j = omega arith in
              ((λ hit. absurd (miss hit)), λ _. ap (λ (x : ℕ). view_after me.0 (Refused x old (atom b k))) same),
        ),
      )))

  -- THE TEXT OF THE OWN SLOT
  pub measuring_text : (i : ℕ) (o : Own) → me.0.own ≡ Some o → o.linked ≡ false → o.text ≡ [] → o.slot < me.0.size.slots → i ≡ text_at me.0.size o.slot 0 → Allows (Rule key) slots id me i (λ n. n) (text_measured (step slots i 0 0 none) me)
  measuring_text i o own un empty inside at = subst (λ (w : ℕ). Allows (Rule key) slots id me w (λ n. n) (text_measured (step slots w 0 0 none) me)) (sym at)
      (text_load key me.0.size slots id me o.slot 0 (text_measured (step slots (text_at me.0.size o.slot 0) 0 0 none) me) is here inside (omega arith)
      (λ b vs r seen small. (Measure (get_or b.texts (32 * o.slot + 0) 0), (o, own, un, empty, text_word b.texts o.slot 0 (omega arith), refl), (refl, refl))))

  pub filling_text : (o : Own) → me.0.own ≡ Some o → o.linked ≡ false → IsCovered o → Allows (Rule key) slots id me 0 (λ n. n) (text_filled (step slots 0 0 0 none) me)
  filling_text o own un covered = epoch_load key me.0.size slots id me (text_filled (step slots 0 0 0 none) me) is here (λ b vs r seen small. (Fill, (o, own, un, covered, refl), (refl, refl)))

  pub putting_word : (i x : ℕ) (o : Own) → me.0.own ≡ Some o → o.linked ≡ false → length o.text < 32 → o.slot < me.0.size.slots → i ≡ text_at me.0.size o.slot (length o.text)
      → Allows (Rule key) slots id me i (λ _. x) (λ _. word_put (step slots i x 0 none) me x)
  putting_word i x o own un short inside at = subst (λ (w : ℕ). Allows (Rule key) slots id me w (λ _. x) (λ _. word_put (step slots w x 0 none) me x)) (sym at)
      (text_goes key me.0.size slots id me o.slot (length o.text) (λ _. x) (λ _. word_put (step slots (text_at me.0.size o.slot (length o.text)) x 0 none) me x) is here inside short
      (λ b vs r seen small. (PutWord x, (o, own, un, short, refl), (refl, refl))))

  -- by a load, where it stands there
  pub finding_word : (i x : ℕ) (o : Own) → me.0.own ≡ Some o → o.linked ≡ false → length o.text < 32 → o.slot < me.0.size.slots → i ≡ text_at me.0.size o.slot (length o.text) → Allows (Rule key) slots id me i (λ n. n) (word_found x (step slots i 0 0 none) me)
  finding_word i x o own un short inside at = subst (λ (w : ℕ). Allows (Rule key) slots id me w (λ n. n) (word_found x (step slots w 0 0 none) me)) (sym at)
      (let p : ℕ = 32 * o.slot + length o.text in let place : ℕ = text_at me.0.size o.slot (length o.text) in text_load key me.0.size slots id me o.slot (length o.text) (word_found x (step slots place 0 0 none) me) is here inside short
      (λ b vs r seen small. dite (ℕ_discrete (get_or b.texts p 0) x)
      (λ (same : get_or b.texts p 0 ≡ x). (PutWord x, (o, own, un, short, word_same b p x same), (refl, (λ _. refl), λ ne. absurd (ne same))))
      (λ (other : ¬ (get_or b.texts p 0 ≡ x)). (Load place (get_or b.texts p 0), (text_read me.0.size b r.sized o.slot (length o.text) inside short, refl), (refl, (λ e. absurd (other e)), λ _. refl)))))

  pub validating : (i : ℕ) (o : Own) → me.0.own ≡ Some o → o.linked ≡ true → Sitting me.0 → o.slot < me.0.size.slots → i ≡ atom_at me.0.size o.slot
      → Allows (Rule key) slots id me i (λ _. 7) (λ _. validated (step slots i 7 0 none) me 7)
  validating i o own on sits inside at = subst (λ (w : ℕ). Allows (Rule key) slots id me w (λ _. 7) (λ _. validated (step slots w 7 0 none) me 7)) (sym at)
      (atom_goes key me.0.size slots id me o.slot (λ _. 7) (λ _. validated (step slots (atom_at me.0.size o.slot) 7 0 none) me 7) is here inside
      (λ b vs r seen small. let s = r.seats id me.0 seen here in let ok = s.own o own in let live = ok.linked on in let short = text_short b.texts o.slot in
      let text : text_of b.texts o.slot ≡ o.text = sym (take_all (length o.text) (text_of b.texts o.slot) (omega (arith, live.1))) ∙ ok.text in (
        Validate,
        (o, own, on, sits, refl),
        ((refl, refl), λ p too. let one : o ≡ p = some_same o p me.0.own own too in subst (λ (y : Own). Alone me.0 y.slot y.text) one (alone_at me.0.size b vs r id me.0 s o.slot o.text live.0 (let state = ok.state in (λ two. omega arith)) text)),
      )))

  pub releasing : (i : ℕ) (o : Own) → me.0.own ≡ Some o → o.linked ≡ false → IsLeft o.text → o.slot < me.0.size.slots → i ≡ atom_at me.0.size o.slot
      → Allows (Rule key) slots id me i (λ _. 0) (λ _. released (step slots i 0 0 none) me 0)
  releasing i o own un left inside at = subst (λ (w : ℕ). Allows (Rule key) slots id me w (λ _. 0) (λ _. released (step slots w 0 0 none) me 0)) (sym at)
      (atom_goes key me.0.size slots id me o.slot (λ _. 0) (λ _. released (step slots (atom_at me.0.size o.slot) 0 0 none) me 0) is here inside
      (λ b vs r seen small. (Release, (o, own, un, left, refl), (refl, refl))))

  pub protecting : (i k : ℕ) → i ≡ atom_at me.0.size k → k < me.0.size.slots → Allows (Rule key) slots id me i (λ n. bit_or n 4) (protected (step slots i 4 0 none) me)
  protecting i k at inside = subst (λ (w : ℕ). Allows (Rule key) slots id me w (λ n. bit_or n 4) (protected (step slots w 4 0 none) me)) (sym at)
      (atom_goes key me.0.size slots id me k (λ n. bit_or n 4) (protected (step slots (atom_at me.0.size k) 4 0 none) me) is here inside
      (λ b vs r seen small. (Protect k (atom b k), (inside, refl, ap (with_atom b k) (or_mark (atom b k))), (refl, λ j e. let same : k ≡ j = omega arith in ap (λ (x : ℕ). view_after me.0 (Protect x (atom b k))) same))))

  pub registering : (i : ℕ) (cs : List Counted) (a : Held) → i ≡ atom_at me.0.size a.slot → a.slot < me.0.size.slots → me.0.counts ≡ Some cs → In a me.0.held ⊎ In a me.0.fixed → (counted cs a.slot).count < 2305843009213693951
      → Allows (Rule key) slots id me i (λ n. (n + 8) % 2 ^ 64) (registered (step slots i 8 0 none) me)
  registering i cs a at inside counts ours room = subst (λ (w : ℕ). Allows (Rule key) slots id me w (λ n. (n + 8) % 2 ^ 64) (registered (step slots w 8 0 none) me)) (sym at)
      (atom_goes key me.0.size slots id me a.slot (λ n. (n + 8) % 2 ^ 64) (registered (step slots (atom_at me.0.size a.slot) 8 0 none) me) is here inside
      (λ b vs r seen small. let s = r.seats id me.0 seen here in let ok = s.counts cs counts in
      let was : count_of (atom b a.slot) ≡ (counted cs a.slot).count = ok.counts a.slot (counted cs a.slot) (or_at cs a.slot uncounted (omega (arith, ok.each_slot))) in
      let fits : (atom b a.slot + 8) % 18446744073709551616 ≡ atom b a.slot + 8 = omega arith in
      let k = has me.0.size b vs r id me.0 s a ours in (
        Register a,
        (cs, counts, ours, room, ap (with_atom b a.slot) fits),
        (
          refl,
          λ x too e. let h = has me.0.size b vs r id me.0 s x too in let same : a.slot ≡ x.slot = omega arith in
              let text : a.text ≡ x.text = sym k.text ∙ (ap (Rattle.atom_words.specs.Board.text_of b.texts) same ∙ h.text) in
              λ j. view_after me.0 (Register (record { slot = same j; text = text j })),
        ),
      )))

  pub unregistering : (i k : ℕ) (cs : List Counted) → i ≡ atom_at me.0.size k → k < me.0.size.slots → me.0.counts ≡ Some cs → 0 < (counted cs k).count
      → Allows (Rule key) slots id me i (λ n. (n + (2 ^ 64 - 8)) % 2 ^ 64) (unregistered (step slots i 8 0 none) me)
  unregistering i k cs at inside counts some_ = subst (λ (w : ℕ). Allows (Rule key) slots id me w (λ n. (n + (2 ^ 64 - 8)) % 2 ^ 64) (unregistered (step slots w 8 0 none) me)) (sym at)
      (atom_goes key me.0.size slots id me k (λ n. (n + (2 ^ 64 - 8)) % 2 ^ 64) (unregistered (step slots (atom_at me.0.size k) 8 0 none) me) is here inside
      (λ b vs r seen small. let s = r.seats id me.0 seen here in let ok = s.counts cs counts in
      let was : count_of (atom b k) ≡ (counted cs k).count = ok.counts k (counted cs k) (or_at cs k uncounted (omega (arith, ok.each_slot))) in
      let fits : (atom b k + (18446744073709551616 - 8)) % 18446744073709551616 ≡ atom b k - 8 = omega arith in
      (Unregister k, (cs, counts, inside, some_, ap (with_atom b k) fits), (refl, λ j e. let same : k ≡ j = omega arith in ap (λ (x : ℕ). view_after me.0 (Unregister x)) same))))

  pub starting_pass : Allows (Rule key) slots id me 0 (λ n. n) (pass_started (step slots 0 0 0 none) me)
  starting_pass = epoch_load key me.0.size slots id me (pass_started (step slots 0 0 0 none) me) is here (λ b vs r seen small. (StartPass b.epoch, (refl, refl), (refl, refl)))

  pub ending_pass : (p : Passing) → me.0.pass ≡ Some p → Allows (Rule key) slots id me 0 (λ n. n) (pass_ended (step slots 0 0 0 none) me)
  ending_pass p pass = epoch_load key me.0.size slots id me (pass_ended (step slots 0 0 0 none) me) is here (λ b vs r seen small. (EndPass b.epoch, (p, pass, refl, refl), (refl, refl)))

  pub raising : (i h old : ℕ) → i ≡ head_at me.0.size h → h < me.0.size.heads → 0 < me.0.undealt → closed_of old ≡ 0 → version_of old < me.0.size.start
      → Allows (Rule key) slots id me i (λ n. either (eqb n old) (raised me.0.size.start old) n) (head_raised (step slots i old (raised me.0.size.start old) none) me)
  raising i h old at inside first open_ low = let new : ℕ = raised me.0.size.start old in
      subst (λ (w : ℕ). Allows (Rule key) slots id me w (λ n. either (eqb n old) new n) (head_raised (step slots w old new none) me)) (sym at)
      (head_exchange key me.0.size slots id me h old new (head_raised (step slots (head_at me.0.size h) old new none) me) is here inside
      (λ b vs r seen hit. (
        Raise h,
        (inside, first, ap closed_of hit ∙ open_, subst (λ (n : ℕ). version_of n < me.0.size.start) (sym hit) low, ap (λ (n : ℕ). with_head b h (raised me.0.size.start n)) (sym hit)),
        (refl, λ j e. let same : h ≡ j = omega arith in ((λ _. ap (λ (x : ℕ). view_after me.0 (Raise x)) same), λ ne. absurd (ne hit))),
      ))
      (λ b vs r seen miss. (
        Load (head_at me.0.size h) (head b h),
        (head_read me.0.size b r.sized h inside, refl),
        (refl, λ j e. let same : h ≡ j = omega arith in ((λ hit. absurd (miss hit)), λ _. ap (λ (x : ℕ). view_after me.0 (Load (head_at me.0.size x) (head b h))) same)),
      )))

  pub seeing_risen : (i h : ℕ) → i ≡ head_at me.0.size h → h < me.0.size.heads → Allows (Rule key) slots id me i (λ n. n) (head_risen (step slots i 0 0 none) me)
  seeing_risen i h at inside = subst (λ (w : ℕ). Allows (Rule key) slots id me w (λ n. n) (head_risen (step slots w 0 0 none) me)) (sym at)
      (head_load key me.0.size slots id me h (head_risen (step slots (head_at me.0.size h) 0 0 none) me) is here inside
      (λ b vs r seen small. dite (dec_le me.0.size.start (version_of (head b h)))
      (λ high. (
        Risen h (head b h),
        (inside, refl, high, refl),
        (refl, λ j e. let same : h ≡ j = omega arith in ((λ _. ap (λ (x : ℕ). view_after me.0 (Risen x (head b h))) same), λ low. absurd (omega arith))),
      ))
      (λ low. (
        Load (head_at me.0.size h) (head b h),
        (head_read me.0.size b r.sized h inside, refl),
        (refl, λ j e. let same : h ≡ j = omega arith in ((λ high. absurd (low high)), λ _. ap (λ (x : ℕ). view_after me.0 (Load (head_at me.0.size x) (head b h))) same)),
      ))))
