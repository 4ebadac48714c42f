-- Each raw step of a walk, of linking and of fetching is of its kind. For the crates above.
use Rattle.std.proofs.Common.{◌≡◌, ◌≢◌, ◌⊎◌, ℕ, ◌+◌, ◌-◌, ◌*◌, ◌^◌, ◌<◌, ◌≤◌, eqb, true, false, List, [], ◌∷◌, ◌++◌, length, get_or, take, drop, bit_or, refl, sym, ap, ◌∙◌, subst, inl, ⊎_elim, arith, Some, None, take_all, get_or-drop, get_or-take}
use mathlib.Core.Logic.{dite}
use mathlib.Core.Option.{none, some}
use lib.ListN.{get_elem?}
use native.Mathlib.Decide.{ℕ_discrete, dec_le}
use prog.Atomic.{either}
use Rattle.atomic_table.specs.Table.{step, Allows}
use Rattle.atom_words.specs.Layout.{state_of, first_of, closed_of, version_of, head_word, worn, row_first}
use Rattle.atom_words.specs.Board.{Board, laid, atom, link, head, atom_at, link_at, head_at, text_at, text_of, with_atom}
use Rattle.atom_words.specs.Texts.{Formed, padded}
use Rattle.atom_words.specs.Chains.{In, Chain}
use Rattle.atom_words.specs.Views.{uncounted}
use Rattle.atom_words.specs.Kinds.{IsWhole, Sitting, counted, view_after, Ended}
use Rattle.atom_words.specs.Rule.{Rule}
use Rattle.atom_words.specs.Kept.{Kept}
use Rattle.atom_words.specs.Plays.{loaded, walk_started, word_read, gone_on, gone_past, slot_held, pending_shown, moved_found, held_word_read, worn_found, link_put, slot_linked, fetched, fixed, kept, asked, Alone, Stale}
use Rattle.atom_words.specs.declared.size.Size.{Size}
use Rattle.atom_words.specs.declared.size.Size.{Size}
use Rattle.atom_words.specs.declared.view.Held.{Held}
use Rattle.atom_words.specs.declared.view.Counted.{Counted}
use Rattle.atom_words.specs.declared.view.Own.{Own}
use Rattle.atom_words.specs.declared.view.Walk.{Walk}
use Rattle.atom_words.specs.declared.view.Cause.TheVariants.{Moved, Pending}
use Rattle.atom_words.specs.declared.view.Refusal.TheVariants.{Again, Worn}
use Rattle.atom_words.specs.declared.view.View.{View}
use Rattle.atom_words.specs.declared.kind.Kind.{Kind}
use Rattle.atom_words.specs.declared.kind.Kind.TheVariants.{Load, Protect, Start, Read, Next, Skip, Hold, PutLink, Link, Fetch, Refuse, Barred, Keep, Fix, Ask}
use Rattle.atom_words.proofs.Regions.{text_once, head_read, text_read}
use Rattle.atom_words.proofs.Slices.{some_same, or_at, last_same, text_length, text_word, chain_at}
use Rattle.atom_words.proofs.Padding.{padded_is}
use Rattle.atom_words.proofs.AtomSteps.{has, alone_at}
use Rattle.atom_words.proofs.Loads.{in_chain}
use Rattle.atom_words.proofs.Rowing.{bucket_in, rows_apart}
use Rattle.atom_words.proofs.Steps.{or_mark}
use Rattle.atom_words.proofs.Adapters.{Sat, load_at, link_load, head_load, text_load, epoch_load, atom_goes, link_goes, head_exchange}

module _ (key : Size) (slots id : ℕ) (me : Sat) (is : key ≡ me.0.size) (here : me.0.gone ≡ false) where
  pub loading : (i : ℕ) → Allows (Rule key) slots id me i (λ n. n) (loaded (step slots i 0 0 none) me)
  loading i = load_at key me.0.size slots id me i (loaded (step slots i 0 0 none) me) (λ b. get_or (laid me.0.size b) i 0) (λ b sz. refl) is here
      (λ b vs r seen small. (Load i (get_or (laid me.0.size b) i 0), (refl, refl), (refl, refl)))

  pub starting_walk : (i h : ℕ) → i ≡ head_at me.0.size h → h < me.0.size.heads → Allows (Rule key) slots id me i (λ n. n) (walk_started (step slots i 0 0 none) me)
  starting_walk i h at inside = subst (λ (w : ℕ). Allows (Rule key) slots id me w (λ n. n) (walk_started (step slots w 0 0 none) me)) (sym at)
      (head_load key me.0.size slots id me h (walk_started (step slots (head_at me.0.size h) 0 0 none) me) is here inside
      (λ b vs r seen small. dite (ℕ_discrete (closed_of (head b h)) 0)
      (λ open_. (Start h (head b h), (inside, refl, inl open_, refl), (refl, λ j e. let same : h ≡ j = omega arith in ((λ _. ap (λ (x : ℕ). view_after me.0 (Start x (head b h))) same), λ ne. absurd (ne open_)))))
      (λ closed. (Barred h (head b h), (inside, refl, closed, refl), (refl, λ j e. let same : h ≡ j = omega arith in ((λ o. absurd (closed o)), λ _. ap (λ (x : ℕ). view_after me.0 (Barred x (head b h))) same))))))

  pub reading_word : (i k : ℕ) (w : Walk) → me.0.walk ≡ Some w → w.place ≡ k + 1 → length w.part < 32 → k < me.0.size.slots → i ≡ text_at me.0.size k (length w.part) → Allows (Rule key) slots id me i (λ n. n) (word_read (step slots i 0 0 none) me)
  reading_word i k w walk place more inside at = subst (λ (x : ℕ). Allows (Rule key) slots id me x (λ n. n) (word_read (step slots x 0 0 none) me)) (sym at)
      (text_load key me.0.size slots id me k (length w.part) (word_read (step slots (text_at me.0.size k (length w.part)) 0 0 none) me) is here inside more
      (λ b vs r seen small. let x : ℕ = get_or b.texts (32 * k + length w.part) 0 in (Read x, (w, k, walk, place, more, text_word b.texts k (length w.part) more, refl), (refl, refl))))

  pub going : (i k : ℕ) (w : Walk) → me.0.walk ≡ Some w → w.place ≡ k + 1 → k < me.0.size.slots → i ≡ link_at me.0.size k → Allows (Rule key) slots id me i (λ n. n) (gone_on (step slots i 0 0 none) me)
  going i k w walk place inside at = subst (λ (x : ℕ). Allows (Rule key) slots id me x (λ n. n) (gone_on (step slots x 0 0 none) me)) (sym at)
      (link_load key me.0.size slots id me k (gone_on (step slots (link_at me.0.size k) 0 0 none) me) is here inside
      (λ b vs r seen small. (Next (link b k), (w, k, walk, place, refl, refl), (refl, refl))))

  pub skipping_past : (i k : ℕ) (w : Walk) → me.0.walk ≡ Some w → me.0.sweep ≡ None → w.place ≡ k + 1 → w.dead ≡ true → k < me.0.size.slots → i ≡ link_at me.0.size k → Allows (Rule key) slots id me i (λ n. n) (gone_past (step slots i 0 0 none) me)
  skipping_past i k w walk no_sweep place dead inside at = subst (λ (x : ℕ). Allows (Rule key) slots id me x (λ n. n) (gone_past (step slots x 0 0 none) me)) (sym at)
      (link_load key me.0.size slots id me k (gone_past (step slots (link_at me.0.size k) 0 0 none) me) is here inside
      (λ b vs r seen small. (Skip (link b k), (w, k, walk, no_sweep, place, dead, refl, refl), (refl, refl))))

  -- what the walk ends with is alone
  alone_held : (k : ℕ) (w : Walk) → me.0.walk ≡ Some w → w.place ≡ k + 1 → w.guarded ≡ true → Sitting me.0 → IsWhole w.part → (b : Board) (vs : List View) (r : Kept me.0.size b vs) → version_of (head b w.head) ≡ version_of w.word → get_elem? vs id ≡ some me.0 → Alone me.0 (w.place - 1) (padded w.part)
  alone_held k w walk place guarded sits whole b vs r same seen = let s = r.seats id me.0 seen here in let ok = s.walk w walk in let u = ok.claim same in let valid = (s.marks.guard w k walk guarded place sits).0 in
      let slot : k ≡ w.place - 1 = omega arith in let on = in_chain me.0.size b vs r id me.0 s w k ok place same valid in let c = chain_at b.links k u.path (subst (λ (n : ℕ). Chain b.links n u.path) place u.reached) in
      let long = text_length b.texts k me.0.size.slots r.sized.texts (omega (arith, c.2, r.sized.links)) in
      subst (λ (n : ℕ). Alone me.0 n (padded w.part)) slot (alone_at me.0.size b vs r id me.0 s k (padded w.part) (w.head, ok.inside, on) (λ two. omega arith) (padded_is (text_of b.texts k) w.part long (u.part k place) whole.0 whole.1 (r.rows.formed w.head k ok.inside on)))

  pub holding : (i k : ℕ) (w : Walk) → me.0.walk ≡ Some w → w.place ≡ k + 1 → w.guarded ≡ true → Sitting me.0 → IsWhole w.part → w.head < me.0.size.heads → i ≡ head_at me.0.size w.head
      → Allows (Rule key) slots id me i (λ n. n) (slot_held (step slots i 0 0 none) me)
  holding i k w walk place guarded sits whole inside at = subst (λ (x : ℕ). Allows (Rule key) slots id me x (λ n. n) (slot_held (step slots x 0 0 none) me)) (sym at)
      (head_load key me.0.size slots id me w.head (slot_held (step slots (head_at me.0.size w.head) 0 0 none) me) is here inside
      (λ b vs r seen small. dite (ℕ_discrete (version_of (head b w.head)) (version_of w.word))
      (λ same. (
        Hold,
        (w, k, walk, place, guarded, whole, same, sits, refl),
        (
          refl,
          λ y e. let one : w ≡ y = some_same w y me.0.walk walk e in
              ((λ _. (refl, subst (λ (t : Walk). Alone me.0 (t.place - 1) (padded t.part)) one (alone_held k w walk place guarded sits whole b vs r same seen))), λ ne. absurd (ne (same ∙ ap (λ (t : Walk). version_of t.word) one))),
        ),
      ))
      (λ moved. (
        Refuse (Again (Moved w.word (head b w.head))),
        ((w, walk, refl, inside, refl, moved), refl),
        (
          refl,
          λ y e. let one : w ≡ y = some_same w y me.0.walk walk e in
              ((λ same. absurd (moved (same ∙ ap (λ (t : Walk). version_of t.word) (sym one)))), λ _. ap (λ (t : Walk). view_after me.0 (Refuse (Again (Moved t.word (head b w.head))))) one),
        ),
      ))))

  pub showing_pending : (k x : ℕ) (w : Walk) (before : List Kind) → me.0.walk ≡ Some w → w.place ≡ k + 1 → k < me.0.size.slots → state_of x ≡ 1 → ((o : Own) → me.0.own ≡ Some o → o.slot ≢ k) → me.0.made ≡ before ++ Protect k x ∷ []
      → Allows (Rule key) slots id me 0 (λ n. n) (pending_shown (step slots 0 0 0 none) me)
  showing_pending k x w before walk place inside reserved other made = epoch_load key me.0.size slots id me (pending_shown (step slots 0 0 0 none) me) is here
      (λ b vs r seen small. (
        Refuse (Again (Pending k x)),
        ((w, walk, place, inside, reserved, other, (before, made)), refl),
        (
          refl,
          λ j y front e. let same : Protect k x ≡ Protect j y = last_same before front (Protect k x) (Protect j y) (sym made ∙ e) in
              let slot : k ≡ j = cc in let word : x ≡ y = cc in λ i. view_after me.0 (Refuse (Again (Pending (slot i) (word i)))),
        ),
      ))

  -- at the walk's version it would stand at a slot of the chain, and would not have passed them all
  not_stale : (z : Size) (links : List ℕ) (w : Walk) (path : List ℕ) → length links ≡ z.slots → Chain links w.place path → length w.seen + w.skipped + length path ≤ length links → (w.lost ≡ true → ⊥) → Stale z w → ⊥
  not_stale z links w path long c few found stale = ⊎_elim found (λ (t : (w.place ≢ 0) × ((z.slots < w.place) ⊎ (z.slots ≤ length w.seen + w.skipped))). at_end path c few t.0 t.1) stale
    where
      at_end : (path : List ℕ) → Chain links w.place path → length w.seen + w.skipped + length path ≤ length links → w.place ≢ 0 → (z.slots < w.place) ⊎ (z.slots ≤ length w.seen + w.skipped) → ⊥
      at_end [] c few some_ out = some_ c
      at_end (k ∷ ks) c few some_ out = let at : w.place ≡ k + 1 = c.0 in let inside : k < length links = c.1 in
          ⊎_elim (λ (h : z.slots < w.place). omega arith) (λ (h : z.slots ≤ length w.seen + w.skipped). omega arith) out

  pub finding_moved : (i : ℕ) (w : Walk) → me.0.walk ≡ Some w → Stale me.0.size w → w.head < me.0.size.heads → i ≡ head_at me.0.size w.head → Allows (Rule key) slots id me i (λ n. n) (moved_found (step slots i 0 0 none) me)
  finding_moved i w walk stale inside at = subst (λ (x : ℕ). Allows (Rule key) slots id me x (λ n. n) (moved_found (step slots x 0 0 none) me)) (sym at)
      (head_load key me.0.size slots id me w.head (moved_found (step slots (head_at me.0.size w.head) 0 0 none) me) is here inside
      (λ b vs r seen small. let moved : version_of (head b w.head) ≢ version_of w.word = (λ same. let ok = (r.seats id me.0 seen here).walk w walk in let u = ok.claim same in not_stale me.0.size b.links w u.path r.sized.links u.reached u.few (λ g. let behind = ok.lost g in omega arith) stale) in (
        Refuse (Again (Moved w.word (head b w.head))),
        ((w, walk, refl, inside, refl, moved), refl),
        (
          refl,
          λ y e. let one : w ≡ y = some_same w y me.0.walk walk e in (
            (λ same. moved (same ∙ ap (λ (t : Walk). version_of t.word) (sym one))),
            ap (λ (t : Walk). view_after me.0 (Refuse (Again (Moved t.word (head b w.head))))) one,
          ),
        ),
      )))

  pub reading_held : (i n : ℕ) (a : Held) → In a me.0.held ⊎ In a me.0.fixed → n < 32 → a.slot < me.0.size.slots → i ≡ text_at me.0.size a.slot n → Allows (Rule key) slots id me i (λ n. n) (held_word_read (step slots i 0 0 none) me)
  reading_held i n a ours more inside at = subst (λ (x : ℕ). Allows (Rule key) slots id me x (λ n. n) (held_word_read (step slots x 0 0 none) me)) (sym at)
      (text_load key me.0.size slots id me a.slot n (held_word_read (step slots (text_at me.0.size a.slot n) 0 0 none) me) is here inside more
      (λ b vs r seen small. let x : ℕ = get_or b.texts (32 * a.slot + n) 0 in (
        Load (text_at me.0.size a.slot n) x,
        (text_read me.0.size b r.sized a.slot n inside more, refl),
        (
          (refl, refl),
          λ q j too below e. let ok = has me.0.size b vs r id me.0 (r.seats id me.0 seen here) q too in let same : 32 * a.slot + n ≡ 32 * q.slot + j = text_once me.0.size a.slot n q.slot j inside ok.inside more below e in
              ap (λ (y : ℕ). get_or b.texts y 0) same ∙ (sym (text_word b.texts q.slot j below) ∙ ap (λ (l : List ℕ). get_or l j 0) ok.text),
        ),
      )))

  -- versions never fall
  later : (b : Board) (vs : List View) → Kept me.0.size b vs → get_elem? vs id ≡ some me.0 → (h j : ℕ) → h ≡ j → (w : Walk) → me.0.walk ≡ Some w → w.head ≡ j → version_of w.word ≤ version_of (head b h)
  later b vs r seen h j same w walk at = subst (λ (g : ℕ). version_of w.word ≤ version_of (head b g)) (at ∙ sym same) ((r.seats id me.0 seen here).walk w walk).past

  pub finding_worn : (i h : ℕ) → i ≡ head_at me.0.size h → h < me.0.size.heads → Allows (Rule key) slots id me i (λ n. n) (worn_found (step slots i 0 0 none) me)
  finding_worn i h at inside = subst (λ (w : ℕ). Allows (Rule key) slots id me w (λ n. n) (worn_found (step slots w 0 0 none) me)) (sym at)
      (head_load key me.0.size slots id me h (worn_found (step slots (head_at me.0.size h) 0 0 none) me) is here inside
      (λ b vs r seen small. dite (dec_le worn (version_of (head b h)))
      (λ le. (
        Refuse (Worn (record { head = h; word = head b h; start = me.0.size.start })),
        ((inside, refl, le, refl), refl),
        (
          refl,
          λ j e. let same : h ≡ j = omega arith in
              ((λ _. ap (λ (x : ℕ). view_after me.0 (Refuse (Worn (record { head = x; word = head b h; start = me.0.size.start })))) same), (λ lt. absurd (omega arith)), later b vs r seen h j same),
        ),
      ))
      (λ gt. (
        Load (head_at me.0.size h) (head b h),
        (head_read me.0.size b r.sized h inside, refl),
        (
          refl,
          λ j e. let same : h ≡ j = omega arith in
              ((λ le. absurd (gt le)), (λ _. ap (λ (x : ℕ). view_after me.0 (Load (head_at me.0.size x) (head b h))) same), later b vs r seen h j same),
        ),
      ))))

  pub putting_link : (i x : ℕ) (o : Own) → me.0.own ≡ Some o → o.linked ≡ false → o.slot < me.0.size.slots → i ≡ link_at me.0.size o.slot → Allows (Rule key) slots id me i (λ _. x) (λ _. link_put (step slots i x 0 none) me x)
  putting_link i x o own un inside at = subst (λ (w : ℕ). Allows (Rule key) slots id me w (λ _. x) (λ _. link_put (step slots w x 0 none) me x)) (sym at)
      (link_goes key me.0.size slots id me o.slot (λ _. x) (λ _. link_put (step slots (link_at me.0.size o.slot) x 0 none) me x) is here inside
      (λ b vs r seen small. (PutLink x, (o, own, un, refl), (refl, refl))))

  -- the head is open, so that the bucket is that of the row in use
  row_in_use : (row : ℕ) (o : Own) (w : Walk) → 256 ≤ 2 ^ row → Ended row o w → w.head < me.0.size.heads → closed_of w.word ≡ 0 → (b : Board) (vs : List View) (r : Kept me.0.size b vs) → head b w.head ≡ w.word → row ≡ b.row
  row_in_use row o w wide ended inside open_ b vs r hit = let c = r.grow.closed w.head inside (ap closed_of hit ∙ open_) in let at = bucket_in row o.text wide in
      dite (ℕ_discrete row b.row) (λ (e : row ≡ b.row). e)
      (λ (ne : row ≢ b.row). absurd (rows_apart row b.row w.head wide r.grow.size.0 ne (subst (λ (n : ℕ). row_first row ≤ n) ended.0 at.0) (subst (λ (n : ℕ). n < row_first row + 2 ^ row) ended.0 at.1) (omega (arith, c.0)) c.1))

  pub linking : (i row : ℕ) (o : Own) (w : Walk) → 256 ≤ 2 ^ row → me.0.own ≡ Some o → me.0.walk ≡ Some w → o.linked ≡ false → length o.text ≡ 32 → Formed o.text → o.link ≡ Some (first_of w.word) → Ended row o w → closed_of w.word ≡ 0 → version_of w.word < worn
      → w.head < me.0.size.heads → i ≡ head_at me.0.size w.head
      → Allows (Rule key) slots id me i (λ n. either (eqb n w.word) (head_word (o.slot + 1) 0 (version_of w.word + 1)) n) (slot_linked (step slots i w.word (head_word (o.slot + 1) 0 (version_of w.word + 1)) none) me)
  linking i row o w wide own walk un whole formed link_is ended open_ fresh inside at = let new : ℕ = head_word (o.slot + 1) 0 (version_of w.word + 1) in
      subst (λ (x : ℕ). Allows (Rule key) slots id me x (λ n. either (eqb n w.word) new n) (slot_linked (step slots x w.word new none) me)) (sym at)
      (head_exchange key me.0.size slots id me w.head w.word new (slot_linked (step slots (head_at me.0.size w.head) w.word new none) me) is here inside
      (λ b vs r seen hit. (Link, (o, w, own, walk, un, whole, formed, link_is, subst (λ (n : ℕ). Ended n o w) (row_in_use row o w wide ended inside open_ b vs r hit) ended, hit, open_, fresh, refl), (refl, (λ _. refl), λ ne. absurd (ne hit))))
      (λ b vs r seen miss. let moved : version_of (head b w.head) ≢ version_of w.word = (λ same. miss (((r.seats id me.0 seen here).walk w walk).word same)) in
      (Refuse (Again (Moved w.word (head b w.head))), ((w, walk, refl, inside, refl, moved), refl), (refl, (λ e. absurd (miss e)), λ _. (moved, refl)))))

  pub fetching : (i k : ℕ) (cs : List Counted) → i ≡ atom_at me.0.size k → k < me.0.size.slots → me.0.counts ≡ Some cs → 0 < (counted cs k).count → Sitting me.0 → Allows (Rule key) slots id me i (λ n. bit_or n 4) (fetched (step slots i 4 0 none) me)
  fetching i k cs at inside counts some_ sits = subst (λ (w : ℕ). Allows (Rule key) slots id me w (λ n. bit_or n 4) (fetched (step slots w 4 0 none) me)) (sym at)
      (atom_goes key me.0.size slots id me k (λ n. bit_or n 4) (fetched (step slots (atom_at me.0.size k) 4 0 none) me) is here inside
      (λ b vs r seen small. (
        Fetch k,
        (cs, counts, inside, some_, sits, ap (with_atom b k) (or_mark (atom b k))),
        (
          refl,
          λ j e. let same : k ≡ j = omega arith in (
            ap (λ (x : ℕ). view_after me.0 (Fetch x)) same,
            λ ds too. let one : cs ≡ ds = some_same cs ds me.0.counts counts too in let ok = (r.seats id me.0 seen here).counts cs counts in let held = ok.live k (counted cs k) (or_at cs k uncounted (omega (arith, ok.each_slot))) some_ in let valid = held.valid in
                subst (λ (n : ℕ). Alone me.0 n (counted ds n).text) same (subst (λ (l : List Counted). Alone me.0 k (counted l k).text) one (alone_at me.0.size b vs r id me.0 (r.seats id me.0 seen here) k (counted cs k).text held.linked (λ two. omega arith) held.text)),
          ),
        ),
      )))

  pub fixing : ((a : Held) → In a me.0.held → a.slot < 256) → Allows (Rule key) slots id me 0 (λ n. n) (fixed (step slots 0 0 0 none) me)
  fixing low = epoch_load key me.0.size slots id me (fixed (step slots 0 0 0 none) me) is here (λ b vs r seen small. (Fix, (low, refl), (refl, refl)))

  pub keeping : (those : List Held) → ((a : Held) → In a those → In a me.0.held) → Allows (Rule key) slots id me 0 (λ n. n) (kept those (step slots 0 0 0 none) me)
  keeping those ours = epoch_load key me.0.size slots id me (kept those (step slots 0 0 0 none) me) is here (λ b vs r seen small. (Keep those, (ours, refl), (refl, refl)))

  pub asking : (text : List ℕ) → Allows (Rule key) slots id me 0 (λ n. n) (asked text (step slots 0 0 0 none) me)
  asking text = epoch_load key me.0.size slots id me (asked text (step slots 0 0 0 none) me) is here (λ b vs r seen small. (Ask text, refl, (refl, refl)))
