-- Each raw step of a sweep is of its kind.
use Rattle.std.proofs.Common.{◌≡◌, ℕ, ◌+◌, ◌*◌, ◌/◌, ◌%◌, ◌<◌, ◌≤◌, eqb, true, false, [], ◌∷◌, ◌++◌, List, length, get_or, bit_and, refl, sym, ap, ◌∙◌, subst, inl, inr, ⊎_elim, arith, Some, None}
use Rattle.std.proofs.lemmas.Nat.{and_block, and_mask}
use mathlib.Core.Logic.{dite}
use mathlib.Core.Option.{none, some}
use native.Mathlib.Decide.{ℕ_discrete}
use prog.Atomic.{either}
use lib.ListN.{get_elem?}
use lib.Seq.{set-get_or}
use Rattle.atomic_table.specs.Table.{step, Allows}
use Rattle.atom_words.specs.Layout.{mark_of, first_of, closed_of, version_of, head_word, last, epoch_word, epoch_of}
use Rattle.atom_words.specs.Board.{Board, atom, link, head, atom_at, link_at, head_at, text_at, text_of, with_atom, with_head}
use Rattle.atom_words.specs.Chains.{In, Chain}
use Rattle.atom_words.specs.Kinds.{unmarked, Sweeps, Dying, Unlinked, view_after, Does}
use Rattle.atom_words.specs.Rule.{Rule}
use Rattle.atom_words.specs.Kept.{DyingOk, Kept}
use Rattle.atom_words.specs.declared.size.Size.{Size}
use Rattle.atom_words.specs.declared.view.Held.{Held}
use Rattle.atom_words.specs.declared.view.Walk.{Walk}
use Rattle.atom_words.specs.declared.view.Sweeping.{Sweeping}
use Rattle.atom_words.specs.declared.view.Growing.{Growing}
use Rattle.atom_words.specs.declared.view.View.{View}
use Rattle.atom_words.specs.declared.kind.Kind.TheVariants.{Load, Start, Next, Look, Spell, Condemn, PassOver, Behind, UnlinkAt, UnlinkHead, Note, Bump, Past, Free, End}
use Rattle.atom_words.proofs.Regions.{atom_read}
use Rattle.atom_words.proofs.Slices.{in_none, in_cases}
use Rattle.atom_words.proofs.Rowing.{early_sweep, chains_at_work}
use Rattle.atom_words.proofs.Sweeps.{swept_by}
use Rattle.atom_words.proofs.Slices.{text_word}
use Rattle.atom_words.proofs.Adapters.{Sat, atom_goes, atom_load, atom_exchange, link_load, link_goes, head_load, head_exchange, text_load}
use Rattle.bucket_rows.specs.Plays.{looked, text_read, condemned, passed, unmarked_passed, traced, trod, behind_read, unlinked_at, unlinked_head, head_noted, bumped, freed, ended}
use Rattle.bucket_rows.proofs.Words.{epoch_goes}
use Rattle.bucket_rows.proofs.Aheads.{ahead_after}

pub and_unmark : (n : ℕ) → n < 18446744073709551616 → bit_and n 18446744073709551611 ≡ unmarked n
and_unmark n small = let e : bit_and (n / 8 * 8 + n % 8) (2305843009213693951 * 8 + 3) ≡ bit_and (n / 8) 2305843009213693951 * 8 + bit_and (n % 8) 3 = and_block 3 (n / 8) 2305843009213693951 (n % 8) 3 (omega arith) (omega arith) in
    let high : bit_and (n / 8) 2305843009213693951 ≡ n / 8 % 2305843009213693952 = and_mask (n / 8) 61 in let low : bit_and (n % 8) 3 ≡ n % 8 % 4 = and_mask (n % 8) 2 in
    let whole : n ≡ n / 8 * 8 + n % 8 = omega arith in ap (λ (m : ℕ). bit_and m 18446744073709551611) whole ∙ (e ∙ (let sum : bit_and (n / 8) 2305843009213693951 * 8 + bit_and (n % 8) 3 ≡ unmarked n = omega arith in sum))

-- a word without a mark stays as it is where its mark is cleared
unmarked_same : (b : Board) (k : ℕ) → mark_of (atom b k) ≡ 0 → b ≡ with_atom b k (unmarked (atom b k))
unmarked_same b k bare = let plain : unmarked (atom b k) ≡ atom b k = omega arith in sym (ap (with_atom b k) plain ∙ ap (λ (l : List ℕ). let y : Board = record b { atoms = l } in y) (set-get_or b.atoms k 0))

-- the link word of a slot of a chain is 0 or a slot's number plus one
chain_link : (links : List ℕ) (p k : ℕ) (ks : List ℕ) → Chain links p ks → In k ks → get_or links k 0 ≤ length links
chain_link links p k [] c i = absurd (in_none k i)
chain_link links p k (q ∷ ks) c i = ⊎_elim (λ (e : q ≡ k). subst (λ (j : ℕ). get_or links j 0 ≤ length links) e (after_one ks c.2)) (λ (t : In k ks). chain_link links (get_or links q 0) k ks c.2 t) (in_cases k q ks i)
  where
    after_one : (ks : List ℕ) → Chain links (get_or links q 0) ks → get_or links q 0 ≤ length links
    after_one [] d = omega (arith, d)
    after_one (j ∷ js) d = let at = d.0 in let inside = d.1 in omega arith

module _ (key : Size) (slots id : ℕ) (me : Sat) (is : key ≡ me.0.size) (here : me.0.gone ≡ false) where
  -- THE SLOT THAT THE SWEEP HAS COME TO
  pub looking : (i k : ℕ) (y : Sweeping) → Sweeps me.0 y → y.dying ≡ 0 → y.cursor ≡ k → k < me.0.size.slots → i ≡ atom_at me.0.size k → Allows (Rule key) slots id me i (λ n. n) (looked (step slots i 0 0 none) me)
  looking i k y q idle cursor inside at = subst (λ (w : ℕ). Allows (Rule key) slots id me w (λ n. n) (looked (step slots w 0 0 none) me)) (sym at)
      (atom_load key me.0.size slots id me k (looked (step slots (atom_at me.0.size k) 0 0 none) me) is here inside
      (λ b vs r seen small. (Look (atom b k), (y, q, idle, subst (λ (n : ℕ). n < me.0.size.slots) (sym cursor) inside, ap (atom b) cursor, refl), (refl, refl))))

  pub spelling : (i k n : ℕ) (y : Sweeping) → Sweeps me.0 y → y.dying ≡ 0 → y.sure ≡ true → y.cursor ≡ k → length y.text ≡ n → n < 32 → k < me.0.size.slots → i ≡ text_at me.0.size k n → Allows (Rule key) slots id me i (λ m. m) (text_read (step slots i 0 0 none) me)
  spelling i k n y q idle sure cursor long more inside at = subst (λ (w : ℕ). Allows (Rule key) slots id me w (λ m. m) (text_read (step slots w 0 0 none) me)) (sym at)
      (text_load key me.0.size slots id me k n (text_read (step slots (text_at me.0.size k n) 0 0 none) me) is here inside more
      (λ b vs r seen small. let x : ℕ = get_or b.texts (32 * k + n) 0 in
      (Spell x, (y, q, idle, sure, subst (λ (m : ℕ). m < 32) (sym long) more, (λ j. get_or (text_of b.texts (cursor j)) (long j) 0) ∙ text_word b.texts k n more, refl), (refl, refl))))

  pub condemning : (i k : ℕ) (y : Sweeping) (w : Walk) → Sweeps me.0 y → me.0.walk ≡ Some w → y.dying ≡ 0 → y.cursor ≡ k → 256 ≤ k → w.place ≡ k + 1 → version_of w.word < last → k < me.0.size.slots → i ≡ atom_at me.0.size k
      → Allows (Rule key) slots id me i (λ n. either (eqb n 3) 2 n) (condemned (step slots i 3 2 none) me)
  condemning i k y w q walk idle cursor high place early inside at = subst (λ (j : ℕ). Allows (Rule key) slots id me j (λ n. either (eqb n 3) 2 n) (condemned (step slots j 3 2 none) me)) (sym at)
      (atom_exchange key me.0.size slots id me k 3 2 (condemned (step slots (atom_at me.0.size k) 3 2 none) me) is here inside
      (λ b vs r seen hit. (
        Condemn,
        (y, w, q, walk, idle, subst (λ (n : ℕ). 256 ≤ n) (sym cursor) high, place ∙ ap (λ (n : ℕ). n + 1) (sym cursor), early, ap (atom b) cursor ∙ hit, ap (λ (n : ℕ). with_atom b n 2) (sym cursor)),
        (refl, (λ _. refl), λ ne. absurd (ne hit)),
      ))
      (λ b vs r seen miss. (Load (atom_at me.0.size k) (atom b k), (atom_read me.0.size b r.sized k inside, refl), (refl, (λ e. absurd (miss e)), λ _. refl))))

  pub passing : (i k : ℕ) (y : Sweeping) → Sweeps me.0 y → y.dying ≡ 0 → y.cursor ≡ k → k < me.0.size.slots → i ≡ atom_at me.0.size k
      → Allows (Rule key) slots id me i (λ n. bit_and n 18446744073709551611) (passed (step slots i 18446744073709551611 0 none) me)
  passing i k y q idle cursor inside at = subst (λ (w : ℕ). Allows (Rule key) slots id me w (λ n. bit_and n 18446744073709551611) (passed (step slots w 18446744073709551611 0 none) me)) (sym at)
      (atom_goes key me.0.size slots id me k (λ n. bit_and n 18446744073709551611) (passed (step slots (atom_at me.0.size k) 18446744073709551611 0 none) me) is here inside
      (λ b vs r seen small. (
        PassOver (atom b k),
        (y, q, idle, subst (λ (n : ℕ). n < me.0.size.slots) (sym cursor) inside, ap (atom b) cursor, λ j. with_atom b (sym cursor j) (and_unmark (atom b k) small j)),
        (refl, refl),
      )))

  -- by a load, where the slot has no mark
  pub passing_unmarked : (i k : ℕ) (y : Sweeping) → Sweeps me.0 y → y.dying ≡ 0 → y.cursor ≡ k → k < me.0.size.slots → i ≡ atom_at me.0.size k → Allows (Rule key) slots id me i (λ n. n) (unmarked_passed (step slots i 0 0 none) me)
  passing_unmarked i k y q idle cursor inside at = subst (λ (w : ℕ). Allows (Rule key) slots id me w (λ n. n) (unmarked_passed (step slots w 0 0 none) me)) (sym at)
      (atom_load key me.0.size slots id me k (unmarked_passed (step slots (atom_at me.0.size k) 0 0 none) me) is here inside
      (λ b vs r seen small. dite (ℕ_discrete (mark_of (atom b k)) 0)
      (λ (bare : mark_of (atom b k) ≡ 0). (
        PassOver (atom b k),
        (y, q, idle, subst (λ (n : ℕ). n < me.0.size.slots) (sym cursor) inside, ap (atom b) cursor, unmarked_same b k bare ∙ ap (λ (n : ℕ). with_atom b n (unmarked (atom b k))) (sym cursor)),
        (refl, (λ _. refl), λ ne. absurd (ne bare)),
      ))
      (λ (set_ : ¬ (mark_of (atom b k) ≡ 0)). (Load (atom_at me.0.size k) (atom b k), (atom_read me.0.size b r.sized k inside, refl), (refl, (λ e. absurd (set_ e)), λ _. refl)))))

  -- in a sweep no slot is moved to another row
  not_moving : (b : Board) (vs : List View) (r : Kept me.0.size b vs) → get_elem? vs id ≡ some me.0 → (y : Sweeping) → Sweeps me.0 y → me.0.growing.moving ≡ 0
  not_moving b vs r seen y q = let s = r.seats id me.0 seen here in let two = swept_by me.0.size b vs r id me.0 s y q in ap (λ (g : Growing). g.moving) (sym (s.grows y q.0)) ∙ (r.grow.rest (inl (early_sweep me.0.size b vs r two))).1

  -- THE COLLECTOR'S WALK
  pub tracing : (i h : ℕ) (y : Sweeping) → Sweeps me.0 y → h < me.0.size.heads → i ≡ head_at me.0.size h → Allows (Rule key) slots id me i (λ n. n) (traced (step slots i 0 0 none) me)
  tracing i h y q inside at = subst (λ (w : ℕ). Allows (Rule key) slots id me w (λ n. n) (traced (step slots w 0 0 none) me)) (sym at)
      (head_load key me.0.size slots id me h (traced (step slots (head_at me.0.size h) 0 0 none) me) is here inside
      (λ b vs r seen small. let does : Does me.0.size b me.0 (Start h (head b h)) b = (inside, refl, inr ((λ no. let some_ : None ≡ Some y = sym no ∙ q.0 in cc), not_moving b vs r seen y q), refl) in
      (Start h (head b h), does, (refl, (λ j e. let same : h ≡ j = omega arith in ap (λ (x : ℕ). view_after me.0 (Start x (head b h))) same), ahead_after me.0.size b vs r id me.0 seen here (Start h (head b h)) b does here))))

  pub treading : (i k : ℕ) (w : Walk) → me.0.walk ≡ Some w → w.place ≡ k + 1 → k < me.0.size.slots → i ≡ link_at me.0.size k → Allows (Rule key) slots id me i (λ n. n) (trod (step slots i 0 0 none) me)
  treading i k w walk place inside at = subst (λ (j : ℕ). Allows (Rule key) slots id me j (λ n. n) (trod (step slots j 0 0 none) me)) (sym at)
      (link_load key me.0.size slots id me k (trod (step slots (link_at me.0.size k) 0 0 none) me) is here inside
      (λ b vs r seen small. let does : Does me.0.size b me.0 (Next (link b k)) b = (w, k, walk, place, refl, refl) in (Next (link b k), does, (refl, refl, ahead_after me.0.size b vs r id me.0 seen here (Next (link b k)) b does here))))

  -- THE DYING SLOT
  -- the rule's part of the dying slot
  dying_part : (b : Board) (vs : List View) (r : Kept me.0.size b vs) → get_elem? vs id ≡ some me.0 → (y : Sweeping) → me.0.sweep ≡ Some y → y.dying ≡ y.cursor + 1 → DyingOk me.0.size b.epoch b.links b.heads r.plan.chain r.plan.sweep r.plan.fate
  dying_part b vs r seen y sweep dying = let same = ((r.seats id me.0 seen here).sweeps y sweep).1 in let slot : r.plan.fate.slot ≡ y.cursor + 1 = sym r.fate.slot ∙ (ap (λ (t : Sweeping). t.dying) same ∙ dying) in r.fate.dies (λ none. omega arith)

  -- its link word is 0 or a slot's number plus one
  small_link : (b : Board) (vs : List View) (r : Kept me.0.size b vs) → get_elem? vs id ≡ some me.0 → (k : ℕ) (y : Sweeping) → Dying me.0 y → y.cursor ≡ k → link b k < 2097152
  small_link b vs r seen k y q cursor = let d = dying_part b vs r seen y q.0.0 q.1 in let same = ((r.seats id me.0 seen here).sweeps y q.0.0).1 in
      let in_ : r.plan.fate.out ≡ false = sym r.fate.out ∙ (ap (λ (t : Sweeping). t.unlinked) same ∙ q.2) in
      let on : In k (r.plan.chain r.plan.fate.head) = subst (λ (n : ℕ). In n (r.plan.chain r.plan.fate.head)) (ap (λ (t : Sweeping). t.cursor) same ∙ cursor) (d.there in_).0 in
      let low = chain_link b.links (first_of (head b r.plan.fate.head)) k (r.plan.chain r.plan.fate.head) (chains_at_work me.0.size b vs r d.sweeping r.plan.fate.head d.inside) on in
      let most = r.sized.small in let many = r.sized.links in omega arith

  pub reading_behind : (i k : ℕ) (y : Sweeping) → Dying me.0 y → y.cursor ≡ k → k < me.0.size.slots → i ≡ link_at me.0.size k → Allows (Rule key) slots id me i (λ n. n) (behind_read (step slots i 0 0 none) me)
  reading_behind i k y q cursor inside at = subst (λ (w : ℕ). Allows (Rule key) slots id me w (λ n. n) (behind_read (step slots w 0 0 none) me)) (sym at)
      (link_load key me.0.size slots id me k (behind_read (step slots (link_at me.0.size k) 0 0 none) me) is here inside
      (λ b vs r seen small. (Behind (link b k), (y, q, ap (link b) cursor, refl), (refl, refl, small_link b vs r seen k y q cursor))))

  pub unlinking_at : (i x : ℕ) (y : Sweeping) (w : Walk) (before : List Held) (a : Held) → Dying me.0 y → me.0.walk ≡ Some w → w.place ≡ y.cursor + 1 → y.behind ≡ Some x → w.seen ≡ before ++ a ∷ [] → a.slot < me.0.size.slots → i ≡ link_at me.0.size a.slot
      → Allows (Rule key) slots id me i (λ _. x) (λ _. unlinked_at (step slots i x 0 none) me x)
  unlinking_at i x y w before a q walk place behind seen_ inside at = subst (λ (j : ℕ). Allows (Rule key) slots id me j (λ _. x) (λ _. unlinked_at (step slots j x 0 none) me x)) (sym at)
      (link_goes key me.0.size slots id me a.slot (λ _. x) (λ _. unlinked_at (step slots (link_at me.0.size a.slot) x 0 none) me x) is here inside
      (λ b vs r seen small. (UnlinkAt a.slot, (y, w, x, q, walk, place, behind, (before, a, seen_, refl), refl), (refl, λ j e. let same : a.slot ≡ j = omega arith in ap (λ (n : ℕ). view_after me.0 (UnlinkAt n)) same))))

  pub unlinking_head : (i new x : ℕ) (y : Sweeping) (w : Walk) → Dying me.0 y → me.0.walk ≡ Some w → first_of w.word ≡ y.cursor + 1 → y.behind ≡ Some x → version_of w.word < last → w.head < me.0.size.heads → i ≡ head_at me.0.size w.head
      → new ≡ head_word x (closed_of w.word) (version_of w.word + 1)
      → Allows (Rule key) slots id me i (λ n. either (eqb n w.word) new n) (unlinked_head (step slots i w.word new none) me)
  unlinking_head i new x y w q walk first behind early inside at is_new = let P : ℕ × ℕ → Type 0 = λ p. Allows (Rule key) slots id me p.0 (λ n. either (eqb n w.word) p.1 n) (unlinked_head (step slots p.0 w.word p.1 none) me) in
      let place : ℕ = head_at me.0.size w.head in let word : ℕ = head_word x (closed_of w.word) (version_of w.word + 1) in subst P (λ j. (sym at j, sym is_new j))
      (head_exchange key me.0.size slots id me w.head w.word word (unlinked_head (step slots place w.word word none) me) is here inside
      (λ b vs r seen hit. (UnlinkHead, (y, w, x, q, walk, first, behind, hit, refl), (refl, (λ _. refl), λ ne. absurd (ne hit))))
      (λ b vs r seen miss. let s = r.seats id me.0 seen here in let ok = s.walk w walk in let t = s.trail y w q.0.0 walk in let d = dying_part b vs r seen y q.0.0 q.1 in let past = ok.past in
      let later : version_of w.word < version_of (head b w.head) = dite (ℕ_discrete (version_of (head b w.head)) (version_of w.word)) (λ same. absurd (miss (ok.word same))) (λ ne. omega arith) in
      let does : Does me.0.size b me.0 (Start w.head (head b w.head)) b = (inside, refl, inr ((λ no. let some_ : None ≡ Some y = sym no ∙ q.0.0 in cc), not_moving b vs r seen y q.0), refl) in (
        Start w.head (head b w.head),
        does,
        (
          refl,
          (λ e. absurd (miss e)),
          λ _. (
            later,
            t.fresh d.sweeping early,
            (λ j e. let same : w.head ≡ j = omega arith in ap (λ (h : ℕ). view_after me.0 (Start h (head b w.head))) same),
            ahead_after me.0.size b vs r id me.0 seen here (Start w.head (head b w.head)) b does here,
          ),
        ),
      )))

  pub noting : (i h : ℕ) (y : Sweeping) → Unlinked me.0 y → y.head ≡ h → h < me.0.size.heads → i ≡ head_at me.0.size h → Allows (Rule key) slots id me i (λ n. n) (head_noted (step slots i 0 0 none) me)
  noting i h y q head_ inside at = subst (λ (w : ℕ). Allows (Rule key) slots id me w (λ n. n) (head_noted (step slots w 0 0 none) me)) (sym at)
      (head_load key me.0.size slots id me h (head_noted (step slots (head_at me.0.size h) 0 0 none) me) is here inside
      (λ b vs r seen small. (
        Note (head b h),
        (y, q, ap (head b) head_, refl),
        (
          refl,
          refl,
          λ t sweep still. let same = ((r.seats id me.0 seen here).sweeps y q.0.0).1 in let too = ((r.seats id me.0 seen here).sweeps t sweep).1 in let d = dying_part b vs r seen y q.0.0 q.1 in
              let out : r.plan.fate.out ≡ true = sym r.fate.out ∙ (ap (λ (p : Sweeping). p.unlinked) same ∙ q.2) in let at_head : r.plan.fate.head ≡ h = sym r.fate.head ∙ (ap (λ (p : Sweeping). p.head) same ∙ head_) in
              subst (λ (g : ℕ). version_of (head b g) < last) at_head ((d.gone out).2 (ap (λ (p : Sweeping). p.past) too ∙ still)),
        ),
      )))

  pub bumping : (i h x new : ℕ) (y : Sweeping) → Unlinked me.0 y → y.past ≡ false → y.noted ≡ Some x → y.head ≡ h → h < me.0.size.heads → i ≡ head_at me.0.size h → new ≡ head_word (first_of x) (closed_of x) (version_of x + 1)
      → Allows (Rule key) slots id me i (λ n. either (eqb n x) new n) (bumped (step slots i x new none) me)
  bumping i h x new y q still noted head_ inside at is_new = let P : ℕ × ℕ → Type 0 = λ p. Allows (Rule key) slots id me p.0 (λ n. either (eqb n x) p.1 n) (bumped (step slots p.0 x p.1 none) me) in
      let place : ℕ = head_at me.0.size h in let word : ℕ = head_word (first_of x) (closed_of x) (version_of x + 1) in subst P (λ j. (sym at j, sym is_new j))
      (head_exchange key me.0.size slots id me h x word (bumped (step slots place x word none) me) is here inside
      (λ b vs r seen hit. (Bump, (y, x, q, still, noted, ap (head b) head_ ∙ hit, ap (λ (g : ℕ). with_head b g word) (sym head_)), (refl, (λ _. refl), λ ne. absurd (ne hit))))
      (λ b vs r seen miss. let same = ((r.seats id me.0 seen here).sweeps y q.0.0).1 in let d = dying_part b vs r seen y q.0.0 q.1 in let out : r.plan.fate.out ≡ true = sym r.fate.out ∙ (ap (λ (t : Sweeping). t.unlinked) same ∙ q.2) in
      let t = d.noted out x (ap (λ (p : Sweeping). p.noted) same ∙ noted) in let at_head : r.plan.fate.head ≡ h = sym r.fate.head ∙ (ap (λ (p : Sweeping). p.head) same ∙ head_) in
      let le : version_of x ≤ version_of (head b h) = subst (λ (g : ℕ). version_of x ≤ version_of (head b g)) at_head t.1 in
      let later : version_of x < version_of (head b h) = dite (ℕ_discrete (version_of (head b h)) (version_of x)) (λ e. absurd (miss (ap (head b) (sym at_head) ∙ t.2 (ap (λ (g : ℕ). version_of (head b g)) at_head ∙ e)))) (λ ne. omega arith) in
      (Past (head b h), (y, x, q, noted, ap (head b) head_, later, refl), (refl, (λ e. absurd (miss e)), λ _. refl))))

  pub freeing : (i k : ℕ) (y : Sweeping) → Unlinked me.0 y → y.past ≡ true → y.cursor ≡ k → k < me.0.size.slots → i ≡ atom_at me.0.size k → Allows (Rule key) slots id me i (λ _. 0) (λ _. freed (step slots i 0 0 none) me 0)
  freeing i k y q past cursor inside at = subst (λ (w : ℕ). Allows (Rule key) slots id me w (λ _. 0) (λ _. freed (step slots w 0 0 none) me 0)) (sym at)
      (atom_goes key me.0.size slots id me k (λ _. 0) (λ _. freed (step slots (atom_at me.0.size k) 0 0 none) me 0) is here inside (λ b vs r seen small. (Free, (y, q, past, ap (λ (n : ℕ). with_atom b n 0) (sym cursor)), (refl, refl))))

  pub ending : (x : ℕ) (y : Sweeping) → Sweeps me.0 y → y.dying ≡ 0 → y.cursor ≡ me.0.size.slots → x ≡ epoch_word 0 (epoch_of y.word) → Allows (Rule key) slots id me 0 (λ _. x) (λ _. ended (step slots 0 x 0 none) me x)
  ending x y q idle all at = let new : ℕ = epoch_word 0 (epoch_of y.word) in subst (λ (n : ℕ). Allows (Rule key) slots id me 0 (λ _. n) (λ _. ended (step slots 0 n 0 none) me n)) (sym at)
      (epoch_goes key me.0.size slots id me (λ _. new) (λ _. ended (step slots 0 new 0 none) me new) is here (λ b vs r seen small. (End, (y, q, idle, all, refl), (refl, refl))))
