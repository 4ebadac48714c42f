-- Each raw step of a change of rows is of its kind.
use Rattle.std.proofs.Common.{◌≡◌, ◌≢◌, ◌⊎◌, ℕ, ◌+◌, ◌%◌, ◌^◌, ◌<◌, eqb, false, List, [], ◌∷◌, ◌++◌, length, bit_and, refl, sym, ap, ◌∙◌, subst, inl, inr, arith, Some, None}
use mathlib.Core.Logic.{dite}
use mathlib.Core.Option.{none, some}
use native.Mathlib.Decide.{ℕ_discrete, dec_lt}
use prog.Atomic.{either}
use lib.ListN.{get_elem?}
use Rattle.atomic_table.specs.Table.{step, Allows}
use Rattle.atom_words.specs.Layout.{first_of, closed_of, version_of, head_word, worn, last, row_first}
use Rattle.atom_words.specs.Texts.{bucket}
use Rattle.atom_words.specs.Board.{Board, link, head, link_at, head_at, with_head}
use Rattle.atom_words.specs.Kinds.{Idle, MovesChains, Picks, RowOk, old_head, view_after, Does}
use Rattle.atom_words.specs.Rule.{Rule}
use Rattle.atom_words.specs.Kept.{Kept}
use Rattle.atom_words.specs.declared.size.Size.{Size}
use Rattle.atom_words.specs.declared.view.Held.{Held}
use Rattle.atom_words.specs.declared.view.Walk.{Walk}
use Rattle.atom_words.specs.declared.view.Growing.{Growing}
use Rattle.atom_words.specs.declared.view.View.{View}
use Rattle.atom_words.specs.declared.kind.Kind.TheVariants.{Load, Start, Next, Aim, Sound, Close, Emptied, Pick, MoveHead, MoveLink, LeaveHead, LeaveLink, PublishRow, Publish}
use Rattle.atom_words.proofs.Regions.{head_read}
use Rattle.atom_words.proofs.Slices.{some_same}
use Rattle.atom_words.proofs.Grows.{grown_is, none_open, row_is}
use Rattle.atom_words.proofs.Adapters.{Sat, epoch_load, link_load, link_goes, head_load, head_exchange}
use Rattle.bucket_rows.specs.RowPlays.{row_aimed, next_traced, head_closed, head_sounded, chain_looked, paced, slot_picked, chain_traced, put_at_head, put_at_link, left_head, left_link, row_published, head_opened}
use Rattle.bucket_rows.proofs.RowWords.{head_goes, row_goes, one_row, and_rest, open_word, put_word}
use Rattle.bucket_rows.proofs.RowInside.{inside_after}
use Rattle.bucket_rows.proofs.RowPicks.{picks_one}

module _ (key : Size) (slots id : ℕ) (me : Sat) (is : key ≡ me.0.size) (here : me.0.gone ≡ false) where
  -- CLOSING
  pub aiming : (i row : ℕ) → Idle me.0 → me.0.growing.shut ≡ 0 → RowOk me.0.size row → i ≡ head_at me.0.size (row_first row) → Allows (Rule key) slots id me i (λ n. n) (row_aimed (step slots i 0 0 none) me)
  aiming i row idle_ unshut ok at = subst (λ (w : ℕ). Allows (Rule key) slots id me w (λ n. n) (row_aimed (step slots w 0 0 none) me)) (sym at)
      (head_load key me.0.size slots id me (row_first row) (row_aimed (step slots (head_at me.0.size (row_first row)) 0 0 none) me) is here (omega (arith, ok.0, ok.1))
      (λ b vs r seen small. let g = grown_is me.0.size b vs r id me.0 (r.seats id me.0 seen here) idle_ in let wide = r.grow.size.0 in let zero_ : r.plan.grow.shut ≡ 0 = ap (λ (t : Growing). t.shut) g ∙ unshut in
      let early : r.plan.grow.shut < 2 ^ b.row = omega (arith, wide, zero_) in let rest = r.grow.rest (inl early) in (
        Aim row,
        (idle_, unshut, ok, refl),
        (
          refl,
          ap (λ (t : Growing). t.moved) (sym g) ∙ rest.0,
          ap (λ (t : Growing). t.moving) (sym g) ∙ rest.1,
          λ q wide_too e. let first : row_first row ≡ row_first q = omega (arith, e) in ap (λ (n : ℕ). view_after me.0 (Aim n)) (one_row row q ok.0 wide_too first),
        ),
      )))

  -- the head that is to be closed next is open
  next_open : (b : Board) (vs : List View) → Kept me.0.size b vs → get_elem? vs id ≡ some me.0 → Idle me.0 → (row shut : ℕ) → me.0.growing.row ≡ row → me.0.growing.shut ≡ shut → shut < 2 ^ row → closed_of (head b (row_first row + shut)) ≡ 0
  next_open b vs r seen i row shut row_ shut_ more = let s = r.seats id me.0 seen here in let g = grown_is me.0.size b vs r id me.0 s i in let same : row ≡ b.row = sym row_ ∙ row_is me.0.size b vs r id me.0 s i in
      let at : row_first b.row + r.plan.grow.shut ≡ row_first row + shut = (λ j. row_first (sym same j) + (ap (λ (t : Growing). t.shut) g ∙ shut_) j) in
      r.grow.opened (row_first row + shut) (omega (arith, at)) (subst (λ (n : ℕ). row_first row + shut < row_first n + 2 ^ n) same (omega (arith, more)))

  pub tracing_next : (i row shut : ℕ) → Idle me.0 → me.0.growing.row ≡ row → me.0.growing.shut ≡ shut → shut < 2 ^ row → row_first row + shut < me.0.size.heads → i ≡ head_at me.0.size (row_first row + shut)
      → Allows (Rule key) slots id me i (λ n. n) (next_traced (step slots i 0 0 none) me)
  tracing_next i row shut idle_ row_ shut_ more inside at = subst (λ (w : ℕ). Allows (Rule key) slots id me w (λ n. n) (next_traced (step slots w 0 0 none) me)) (sym at)
      (head_load key me.0.size slots id me (row_first row + shut) (next_traced (step slots (head_at me.0.size (row_first row + shut)) 0 0 none) me) is here inside
      (λ b vs r seen small. let open_ = next_open b vs r seen idle_ row shut row_ shut_ more in let x : ℕ = head b (row_first row + shut) in
      (Start (row_first row + shut) x, (inside, refl, inl open_, refl), (refl, open_, λ j e. let same : row_first row + shut ≡ j = omega (arith, e) in ap (λ (h : ℕ). view_after me.0 (Start h x)) same))))

  pub closing : (i new row shut : ℕ) (w : Walk) → Idle me.0 → me.0.growing.row ≡ row → me.0.growing.shut ≡ shut → shut < 2 ^ row → me.0.walk ≡ Some w → w.head ≡ row_first row + shut → closed_of w.word ≡ 0 → version_of w.word < worn → w.head < me.0.size.heads → i ≡ head_at me.0.size w.head
      → new ≡ head_word (first_of w.word) 1 (version_of w.word + 1) → Allows (Rule key) slots id me i (λ n. either (eqb n w.word) new n) (head_closed (step slots i w.word new none) me)
  closing i new row shut w idle_ row_ shut_ more walk head_ open_ low inside at is_new = let P : ℕ × ℕ → Type 0 = λ p. Allows (Rule key) slots id me p.0 (λ n. either (eqb n w.word) p.1 n) (head_closed (step slots p.0 w.word p.1 none) me) in
      let place : ℕ = head_at me.0.size w.head in let word : ℕ = head_word (first_of w.word) 1 (version_of w.word + 1) in subst P (λ j. (sym at j, sym is_new j))
      (head_exchange key me.0.size slots id me w.head w.word word (head_closed (step slots place w.word word none) me) is here inside
      (λ b vs r seen hit. (
        Close w.head,
        (
          idle_,
          subst (λ (p : ℕ × ℕ). p.1 < 2 ^ p.0) (λ j. (sym row_ j, sym shut_ j)) more,
          head_ ∙ (λ j. row_first (sym row_ j) + sym shut_ j),
          ap closed_of hit ∙ open_,
          subst (λ (n : ℕ). version_of n < worn) (sym hit) low,
          (λ j. with_head b w.head (head_word (first_of (sym hit j)) 1 (version_of (sym hit j) + 1))),
        ),
        (refl, λ j e. let same : w.head ≡ j = omega (arith, e) in ((λ _. ap (λ (h : ℕ). view_after me.0 (Close h)) same), λ ne. absurd (ne hit))),
      ))
      (λ b vs r seen miss. let s = r.seats id me.0 seen here in let ok = s.walk w walk in let past = ok.past in
      let later : version_of w.word < version_of (head b w.head) = dite (ℕ_discrete (version_of (head b w.head)) (version_of w.word)) (λ same. absurd (miss (ok.word same))) (λ ne. omega (arith, past, ne)) in
      let open_now : closed_of (head b w.head) ≡ 0 = subst (λ (h : ℕ). closed_of (head b h) ≡ 0) (sym head_) (next_open b vs r seen idle_ row shut row_ shut_ more) in (
        Start w.head (head b w.head),
        (inside, refl, inl open_now, refl),
        (refl, λ j e. let same : w.head ≡ j = omega (arith, e) in ((λ hit. absurd (miss hit)), λ _. (later, open_now, ap (λ (h : ℕ). view_after me.0 (Start h (head b w.head))) same))),
      )))

  pub sounding : (i aim sound : ℕ) → Idle me.0 → 0 < me.0.growing.shut → me.0.growing.aim ≢ me.0.growing.row → me.0.growing.aim ≡ aim → me.0.growing.sound ≡ sound → sound < 2 ^ aim → row_first aim + sound < me.0.size.heads → i ≡ head_at me.0.size (row_first aim + sound)
      → Allows (Rule key) slots id me i (λ n. n) (head_sounded (step slots i 0 0 none) me)
  sounding i aim sound idle_ some_ other aim_ sound_ more inside at = subst (λ (w : ℕ). Allows (Rule key) slots id me w (λ n. n) (head_sounded (step slots w 0 0 none) me)) (sym at)
      (head_load key me.0.size slots id me (row_first aim + sound) (head_sounded (step slots (head_at me.0.size (row_first aim + sound)) 0 0 none) me) is here inside
      (λ b vs r seen small. let x : ℕ = head b (row_first aim + sound) in dite (dec_lt (version_of x) worn)
      (λ low. (
        Sound x,
        (idle_, some_, other, subst (λ (p : ℕ × ℕ). p.1 < 2 ^ p.0) (λ j. (sym aim_ j, sym sound_ j)) more, (λ j. head b (row_first (aim_ j) + sound_ j)), low, refl),
        (refl, (λ _. refl), λ over. absurd (omega (arith, low, over))),
      ))
      (λ over. (Load (head_at me.0.size (row_first aim + sound)) x, (head_read me.0.size b r.sized (row_first aim + sound) inside, refl), (refl, (λ low. absurd (over low)), λ _. refl)))))

  -- MOVING
  has_sweep : Idle me.0 → me.0.sweep ≢ None
  has_sweep i without = let some_ : None ≡ Some i.0 = sym without ∙ i.1 in cc

  pub looking_into : (i row moved : ℕ) → MovesChains me.0 → me.0.growing.moving ≡ 0 → me.0.growing.row ≡ row → me.0.growing.moved ≡ moved → moved < 2 ^ row → row_first row + moved < me.0.size.heads → i ≡ head_at me.0.size (row_first row + moved)
      → Allows (Rule key) slots id me i (λ n. n) (chain_looked (step slots i 0 0 none) me)
  looking_into i row moved m still row_ moved_ more inside at = let old : old_head me.0.growing ≡ row_first row + moved = (λ j. row_first (row_ j) + moved_ j) in subst (λ (w : ℕ). Allows (Rule key) slots id me w (λ n. n) (chain_looked (step slots w 0 0 none) me)) (sym at)
      (head_load key me.0.size slots id me (row_first row + moved) (chain_looked (step slots (head_at me.0.size (row_first row + moved)) 0 0 none) me) is here inside
      (λ b vs r seen small. let x : ℕ = head b (row_first row + moved) in dite (ℕ_discrete (first_of x) 0)
      (λ empty. (
        Emptied,
        (m, still, subst (λ (p : ℕ × ℕ). p.1 < 2 ^ p.0) (λ j. (sym row_ j, sym moved_ j)) more, ap (λ (h : ℕ). first_of (head b h)) old ∙ empty, refl),
        (refl, (λ _. refl), λ ne. absurd (ne empty)),
      ))
      (λ full. let does : Does me.0.size b me.0 (Start (old_head me.0.growing) x) b = (subst (λ (h : ℕ). h < me.0.size.heads) (sym old) inside, ap (head b) old, inr (has_sweep m.0, still), refl) in
      (Start (old_head me.0.growing) x, does, (refl, (λ empty. absurd (full empty)), λ _. (refl, inside_after me.0.size b vs r id me.0 seen here (Start (old_head me.0.growing) x) b does here m.0.0 m.0.1 still))))))

  pub pacing : (i k : ℕ) (w : Walk) → Idle me.0 → me.0.growing.moving ≡ 0 → me.0.walk ≡ Some w → w.place ≡ k + 1 → k < me.0.size.slots → i ≡ link_at me.0.size k → Allows (Rule key) slots id me i (λ n. n) (paced (step slots i 0 0 none) me)
  pacing i k w idle_ still walk place inside at = subst (λ (j : ℕ). Allows (Rule key) slots id me j (λ n. n) (paced (step slots j 0 0 none) me)) (sym at)
      (link_load key me.0.size slots id me k (paced (step slots (link_at me.0.size k) 0 0 none) me) is here inside
      (λ b vs r seen small. let does : Does me.0.size b me.0 (Next (link b k)) b = (w, k, walk, place, refl, refl) in
      (Next (link b k), does, (refl, refl, inside_after me.0.size b vs r id me.0 seen here (Next (link b k)) b does here idle_.0 idle_.1 still))))

  pub picking : (a : Held) (before : ℕ) (w : Walk) → MovesChains me.0 → me.0.growing.moving ≡ 0 → me.0.growing.moved < 2 ^ me.0.growing.row → me.0.walk ≡ Some w → w.head ≡ old_head me.0.growing → w.place ≡ 0 → length a.text ≡ 32 → Picks w a before
      → Allows (Rule key) slots id me 0 (λ n. n) (slot_picked (step slots 0 0 0 none) me)
  picking a before w m still more walk head_ ended whole last_ = epoch_load key me.0.size slots id me (slot_picked (step slots 0 0 0 none) me) is here
      (λ b vs r seen small. (
        Pick a before,
        (m, w, still, more, walk, head_, ended, whole, last_, refl),
        (
          refl,
          λ q c n too p. let one : w ≡ q = some_same w q me.0.walk walk too in
              let same = picks_one w a before c n last_ (subst (λ (t : Walk). Picks t c n) (sym one) p) in λ j. view_after me.0 (Pick (same.0 j) (same.1 j)),
        ),
      ))

  -- a head that is closed
  shut_at : (b : Board) (vs : List View) → (r : Kept me.0.size b vs) → get_elem? vs id ≡ some me.0 → (m : MovesChains me.0) (h : ℕ) → h < me.0.size.heads → closed_of (head b h) ≡ 1
  shut_at b vs r seen m h inside = let no = none_open me.0.size b vs r id me.0 (r.seats id me.0 seen here) m h inside in omega (arith, no)

  pub tracing_into : (i h : ℕ) → MovesChains me.0 → me.0.growing.moving ≡ 0 → h < me.0.size.heads → i ≡ head_at me.0.size h → Allows (Rule key) slots id me i (λ n. n) (chain_traced (step slots i 0 0 none) me)
  tracing_into i h m still inside at = subst (λ (w : ℕ). Allows (Rule key) slots id me w (λ n. n) (chain_traced (step slots w 0 0 none) me)) (sym at)
      (head_load key me.0.size slots id me h (chain_traced (step slots (head_at me.0.size h) 0 0 none) me) is here inside
      (λ b vs r seen small. let does : Does me.0.size b me.0 (Start h (head b h)) b = (inside, refl, inr (has_sweep m.0, still), refl) in
      (Start h (head b h), does, (refl, shut_at b vs r seen m h inside, (λ j e. let same : h ≡ j = omega (arith, e) in ap (λ (x : ℕ). view_after me.0 (Start x (head b h))) same), inside_after me.0.size b vs r id me.0 seen here (Start h (head b h)) b does here m.0.0 m.0.1 still))))

  pub putting_at_head : (i new : ℕ) (a : Held) (w : Walk) → MovesChains me.0 → me.0.growing.moving ≡ 0 → me.0.growing.picked ≡ Some a → me.0.walk ≡ Some w → w.head ≡ bucket me.0.growing.aim a.text → first_of w.word ≡ 0 → closed_of w.word ≡ 1 → w.head < me.0.size.heads → i ≡ head_at me.0.size w.head → new ≡ w.word + a.slot + 1
      → Allows (Rule key) slots id me i (λ _. new) (λ _. put_at_head (step slots i new 0 none) me new)
  putting_at_head i new a w m still picked walk head_ empty closed inside at is_new = let P : ℕ × ℕ → Type 0 = λ p. Allows (Rule key) slots id me p.0 (λ _. p.1) (λ _. put_at_head (step slots p.0 p.1 0 none) me p.1) in
      let word : ℕ = head_word (a.slot + 1) 1 (version_of w.word) in let same_word : new ≡ word = is_new ∙ sym (put_word w.word a.slot empty closed) in subst P (λ j. (sym at j, sym same_word j))
      (head_goes key me.0.size slots id me w.head (λ _. word) (λ _. put_at_head (step slots (head_at me.0.size w.head) word 0 none) me word) is here inside
      (λ b vs r seen small. let s = r.seats id me.0 seen here in let unmoved : head b w.head ≡ w.word = (s.trail m.0.0 w m.0.1 walk).still (λ open_. none_open me.0.size b vs r id me.0 s m w.head inside open_) in (
        MoveHead w.head,
        (m, a, still, picked, head_, ap first_of unmoved ∙ empty, (λ j. with_head b w.head (head_word (a.slot + 1) 1 (version_of (sym unmoved j))))),
        (refl, λ j e. let same : w.head ≡ j = omega (arith, e) in ap (λ (h : ℕ). view_after me.0 (MoveHead h)) same),
      )))

  pub putting_at_link : (i x : ℕ) (a c : Held) (w : Walk) (front : List Held) → MovesChains me.0 → me.0.growing.moving ≡ 0 → me.0.growing.picked ≡ Some a → me.0.walk ≡ Some w → w.head ≡ bucket me.0.growing.aim a.text → w.place ≡ 0 → w.seen ≡ front ++ c ∷ [] → c.slot < me.0.size.slots → i ≡ link_at me.0.size c.slot → x ≡ a.slot + 1
      → Allows (Rule key) slots id me i (λ _. x) (λ _. put_at_link (step slots i x 0 none) me x)
  putting_at_link i x a c w front m still picked walk head_ ended seen_ inside at is_x = let P : ℕ × ℕ → Type 0 = λ p. Allows (Rule key) slots id me p.0 (λ _. p.1) (λ _. put_at_link (step slots p.0 p.1 0 none) me p.1) in
      let word : ℕ = a.slot + 1 in subst P (λ j. (sym at j, sym is_x j))
      (link_goes key me.0.size slots id me c.slot (λ _. word) (λ _. put_at_link (step slots (link_at me.0.size c.slot) word 0 none) me word) is here inside
      (λ b vs r seen small. (MoveLink c.slot, (m, a, w, still, picked, walk, head_, ended, (front, c, seen_, refl), refl), (refl, λ j e. let same : c.slot ≡ j = omega (arith, e) in ap (λ (n : ℕ). view_after me.0 (MoveLink n)) same))))

  pub leaving_head : (i h : ℕ) → MovesChains me.0 → me.0.growing.moving ≢ 0 → me.0.growing.before ≡ 0 → h ≡ old_head me.0.growing → h < me.0.size.heads → i ≡ head_at me.0.size h
      → Allows (Rule key) slots id me i (λ n. bit_and n 18446744073707454464) (left_head (step slots i 18446744073707454464 0 none) me)
  leaving_head i h m moves first old inside at = subst (λ (w : ℕ). Allows (Rule key) slots id me w (λ n. bit_and n 18446744073707454464) (left_head (step slots w 18446744073707454464 0 none) me)) (sym at)
      (head_goes key me.0.size slots id me h (λ n. bit_and n 18446744073707454464) (left_head (step slots (head_at me.0.size h) 18446744073707454464 0 none) me) is here inside
      (λ b vs r seen small. (
        LeaveHead h,
        (m, moves, first, old, ap (with_head b h) (and_rest (head b h) small (shut_at b vs r seen m h inside))),
        (refl, λ j e. let same : h ≡ j = omega (arith, e) in ap (λ (n : ℕ). view_after me.0 (LeaveHead n)) same),
      )))

  pub leaving_link : (i q : ℕ) → MovesChains me.0 → me.0.growing.moving ≢ 0 → me.0.growing.before ≡ q + 1 → q < me.0.size.slots → i ≡ link_at me.0.size q → Allows (Rule key) slots id me i (λ _. 0) (λ _. left_link (step slots i 0 0 none) me 0)
  leaving_link i q m moves before inside at = subst (λ (w : ℕ). Allows (Rule key) slots id me w (λ _. 0) (λ _. left_link (step slots w 0 0 none) me 0)) (sym at)
      (link_goes key me.0.size slots id me q (λ _. 0) (λ _. left_link (step slots (link_at me.0.size q) 0 0 none) me 0) is here inside
      (λ b vs r seen small. (LeaveLink q, (m, moves, before, refl), (refl, λ j e. let same : q ≡ j = omega (arith, e) in ap (λ (n : ℕ). view_after me.0 (LeaveLink n)) same))))

  -- OPENING
  pub publishing_row : (row : ℕ) → MovesChains me.0 → me.0.growing.moving ≡ 0 → me.0.growing.moved ≡ 2 ^ me.0.growing.row → row ≡ me.0.growing.aim → me.0.growing.sound ≡ 2 ^ me.0.growing.aim
      → Allows (Rule key) slots id me 1 (λ _. row) (λ _. row_published (step slots 1 row 0 none) me row)
  publishing_row row m still all aim_ sound_ = row_goes key me.0.size slots id me (λ _. row) (λ _. row_published (step slots 1 row 0 none) me row) is here
      (λ b vs r seen small. (PublishRow row, (m, still, all, aim_, sound_, refl), (refl, refl)))

  pub opening_head : (i h : ℕ) → Idle me.0 → 0 < me.0.growing.shut → (me.0.growing.aim ≡ me.0.growing.row) ⊎ (me.0.growing.shut < 2 ^ me.0.growing.row) → h + 1 ≡ row_first me.0.growing.row + me.0.growing.shut → h < me.0.size.heads → i ≡ head_at me.0.size h
      → Allows (Rule key) slots id me i (λ n. (n + 2097152) % 2 ^ 64) (head_opened (step slots i 2097152 0 none) me)
  opening_head i h idle_ some_ which at_last inside at = subst (λ (w : ℕ). Allows (Rule key) slots id me w (λ n. (n + 2097152) % 2 ^ 64) (head_opened (step slots w 2097152 0 none) me)) (sym at)
      (head_goes key me.0.size slots id me h (λ n. (n + 2097152) % 2 ^ 64) (head_opened (step slots (head_at me.0.size h) 2097152 0 none) me) is here inside
      (λ b vs r seen small. let s = r.seats id me.0 seen here in let g = grown_is me.0.size b vs r id me.0 s idle_ in let row = row_is me.0.size b vs r id me.0 s idle_ in
      let top : h + 1 ≡ row_first b.row + r.plan.grow.shut = at_last ∙ (λ j. row_first (row j) + (sym g j).shut) in let low : 0 < r.plan.grow.shut = subst (λ (t : Growing). 0 < t.shut) (sym g) some_ in
      let early : version_of (head b h) < last = r.grow.firm h (omega (arith, top, low)) (omega (arith, top)) in
      let shut : closed_of (head b h) ≡ 1 = dite (ℕ_discrete (closed_of (head b h)) 0) (λ open_. let t = r.grow.closed h inside open_ in absurd (omega (arith, top, t.0))) (λ ne. omega (arith, ne)) in (
        Publish h,
        (idle_, some_, which, at_last, early, ap (with_head b h) (open_word (head b h) shut early)),
        (refl, λ j e. let same : h ≡ j = omega (arith, e) in ap (λ (n : ℕ). view_after me.0 (Publish n)) same),
      )))
