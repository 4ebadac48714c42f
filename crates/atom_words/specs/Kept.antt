-- What every reached state keeps.
use Rattle.std.specs.Prelude.{◌≡◌, ◌≢◌, ◌⊎◌, ℕ, ◌+◌, ◌-◌, ◌^◌, ◌<◌, ◌≤◌, Bool, true, false, List, [], ◌∷◌, ◌++◌, length, take, map, get_or, slice_index, Option, Some, None}
use mathlib.Core.Option.{some}
use lib.ListN.{get_elem?}
use Rattle.atom_words.specs.Layout.{state_of, mark_of, count_of, first_of, closed_of, version_of, worn, last, phase_of, epoch_of, row_first}
use Rattle.atom_words.specs.Texts.{bucket, Formed, padded}
use Rattle.atom_words.specs.Board.{Board, Sized, text_of}
use Rattle.atom_words.specs.Chains.{In, Chain, Linked}
use Rattle.atom_words.specs.Kinds.{RowOk, IsAll}
use Rattle.atom_words.specs.declared.size.Size.{Size}
use Rattle.atom_words.specs.declared.view.Held.{Held}
use Rattle.atom_words.specs.declared.view.Counted.{Counted}
use Rattle.atom_words.specs.declared.view.Own.{Own}
use Rattle.atom_words.specs.declared.view.Walk.{Walk}
use Rattle.atom_words.specs.declared.view.Cycling.{Cycling}
use Rattle.atom_words.specs.declared.view.Sweeping.{Sweeping}
use Rattle.atom_words.specs.declared.view.Growing.{Growing}
use Rattle.atom_words.specs.declared.view.View.{View}

-- the dying slot: 0 or its number plus one; whether it is out of its chain; that chain's head; and the head's version as it was taken out
pub record Fate : Type 0 where
  pub slot : ℕ
  pub out : Bool
  pub head : ℕ
  pub left : ℕ

-- what stands in no word: the chain of each head, the head of each linked slot, the seat that owns each reserved slot, the keeper's seat, the collector's and each engine's, what the collector knows of the cycle and of the rows, and the dying slot. A slot that is moved to another row stands in the chain of its new head as soon as it is put there
pub record Plan : Type 0 where
  pub chain : ℕ → List ℕ
  pub place : ℕ → ℕ
  pub owner : ℕ → ℕ
  pub keeper : ℕ
  pub collector : ℕ
  pub engine : ℕ → ℕ
  pub sweep : Sweeping
  pub grow : Growing
  pub fate : Fate

-- what a reserved slot has behind the words that are put: zeros from the bound on; and where none is put, zeros behind those that its first word tells of
abbrev pub Rest : Own → List ℕ → Type 0
Rest o row = ((i : ℕ) → o.bound ≤ i → length o.text ≤ i → get_or row i 0 ≡ 0) × (o.text ≡ [] → Formed row)

-- the slot that the seat j has reserved
pub record OwnOk (z : Size) (atoms links texts : List ℕ) (chain : ℕ → List ℕ) (owner : ℕ → ℕ) (j : ℕ) (o : Own) : Type 0 where
  pub inside : o.slot < z.slots
  pub mine : owner o.slot ≡ j
  pub usable : (o.slot < z.fixed) ⊎ (256 ≤ o.slot)
  pub state : state_of (slice_index atoms o.slot) ≡ 1
  pub short : length o.text ≤ 32
  pub text : take (length o.text) (text_of texts o.slot) ≡ o.text
  pub rest : o.linked ≡ false → Rest o (text_of texts o.slot)
  pub link : (l : ℕ) → o.link ≡ Some l → o.linked ≡ false → slice_index links o.slot ≡ l
  pub apart : o.linked ≡ false → ¬ Linked z.heads chain o.slot
  pub linked : o.linked ≡ true → Linked z.heads chain o.slot × (length o.text ≡ 32)

-- a slot that is held, counted or fixed: it is live, and has that text
pub record HeldOk (z : Size) (atoms texts : List ℕ) (chain : ℕ → List ℕ) (a : Held) : Type 0 where
  pub inside : a.slot < z.slots
  pub valid : state_of (slice_index atoms a.slot) ≡ 3
  pub linked : Linked z.heads chain a.slot
  pub text : text_of texts a.slot ≡ a.text

-- the counts of the keeper, which is the seat j
pub record CountsOk (z : Size) (atoms texts : List ℕ) (chain : ℕ → List ℕ) (keeper j : ℕ) (cs : List Counted) : Type 0 where
  pub mine : keeper ≡ j
  pub each_slot : length cs ≡ z.slots
  pub counts : (k : ℕ) (c : Counted) → get_elem? cs k ≡ some c → count_of (slice_index atoms k) ≡ c.count
  pub live : (k : ℕ) (c : Counted) → get_elem? cs k ≡ some c → 0 < c.count → HeldOk z atoms texts chain (record { slot = k; text = c.text })

-- the walk has passed the slot k, and what it read is the beginning of that slot's text
abbrev pub Seen : List ℕ → List Held → ℕ → Type 0
Seen texts seen k = (i : ℕ) × (a : Held) × (get_elem? seen i ≡ some a) × (a.slot ≡ k) × (take (length a.text) (text_of texts k) ≡ a.text)

-- the walk may still come to the slot k, which is dying and was taken out after another, so that no version has moved
abbrev pub Left : Fate → Walk → ℕ → Type 0
Left f w k = (f.slot ≡ k + 1) × (f.out ≡ true) × (f.head ≡ w.head) × (version_of w.word ≤ f.left)

-- of the chain, each slot but the dying one was seen or is still to come; and all are no more than there are slots
pub record Unwalked (links texts : List ℕ) (f : Fate) (w : Walk) (chain : List ℕ) : Type 0 where
  pub path : List ℕ
  pub reached : Chain links w.place path
  pub each : (k : ℕ) → In k chain → k + 1 ≢ f.slot → Seen texts w.seen k ⊎ In k path
  pub inside : (k : ℕ) → In k path → In k chain ⊎ Left f w k
  pub few : length w.seen + w.skipped + length path ≤ length links
  pub part : (k : ℕ) → w.place ≡ k + 1 → take (length w.part) (text_of texts k) ≡ w.part
  pub dead : (k : ℕ) → w.place ≡ k + 1 → w.dead ≡ true → f.slot ≡ k + 1

-- a walk: what it knows, it knows while the head has the version that it began with
pub record WalkOk (z : Size) (links heads texts : List ℕ) (chain : ℕ → List ℕ) (f : Fate) (w : Walk) : Type 0 where
  pub inside : w.head < z.heads
  pub short : length w.part ≤ 32
  pub past : version_of w.word ≤ version_of (slice_index heads w.head)
  pub word : version_of (slice_index heads w.head) ≡ version_of w.word → slice_index heads w.head ≡ w.word
  pub claim : version_of (slice_index heads w.head) ≡ version_of w.word → Unwalked links texts f w (chain w.head)
  pub lost : w.lost ≡ true → version_of w.word < version_of (slice_index heads w.head)

-- the sweep lets the slot k live: its mark is set, or the sweep has passed it
abbrev pub Safe : ℕ → List ℕ → ℕ → ℕ → Type 0
Safe epoch atoms cursor k = (mark_of (slice_index atoms k) ≡ 1) ⊎ ((phase_of epoch ≡ 2) × (k < cursor))

-- a cycle is at work, and the engine has acknowledged it
abbrev pub Acked : ℕ → Cycling → Type 0
Acked epoch y = (phase_of epoch ≢ 0) × (y.acked ≡ epoch_of epoch)

-- what the seat j knows of the cycle: each engine has one seat; no sweep begins before all are dealt; what a seat holds or guards is valid, and is safe once its engine has acknowledged; and a seat that may not hold slots holds none
pub record MarksOk (z : Size) (epoch : ℕ) (acks atoms : List ℕ) (engine : ℕ → ℕ) (cursor j : ℕ) (y : Cycling) (undealt : ℕ) (holds : List Held) (walk : Option Walk) : Type 0 where
  pub mine : y.engine ≢ 0 → (y.engine ≤ z.engines) × (engine y.engine ≡ j) × (slice_index acks (y.engine - 1) ≡ y.acked)
  pub to_deal : (e : ℕ) → 0 < e → e ≤ undealt → (e ≤ z.engines) × (engine e ≡ j) × (slice_index acks (e - 1) ≡ 0)
  pub one : y.engine ≢ 0 → undealt ≡ 0
  pub engineless : y.engine ≡ 0 → (y.acked ≡ 0) × (y.scanned_at ≡ 0)
  pub past : y.acked ≤ epoch_of epoch
  pub before : y.scanned_at ≤ epoch_of epoch
  pub reading : y.acked < y.scanned_at → (phase_of epoch ≡ 1) × (y.scanned_at ≡ epoch_of epoch)
  pub scanned : phase_of epoch ≡ 1 → y.scanned_at ≡ epoch_of epoch → (k : ℕ) → In k y.scanned → (state_of (slice_index atoms k) ≡ 3) × (mark_of (slice_index atoms k) ≡ 1)
  pub held : Acked epoch y → (a : Held) → In a holds → (state_of (slice_index atoms a.slot) ≡ 3) × Safe epoch atoms cursor a.slot
  pub guard : (w : Walk) (k : ℕ) → walk ≡ Some w → w.guarded ≡ true → w.place ≡ k + 1 → (y.engine ≢ 0) ⊎ (0 < undealt) → (state_of (slice_index atoms k) ≡ 3) × (Acked epoch y → Safe epoch atoms cursor k)
  pub nothing : y.engine ≡ 0 → undealt ≡ 0 → holds ≡ []

-- the slots that a walk has passed
abbrev pub slots : List Held → List ℕ
slots seen = map (λ a. a.slot) seen

-- The collector's walk, whatever the version, since only the collector takes slots out: the chain is the slots linked since, those that it passed, and those to come. In a sweep no version becomes the last while it walks. The slot that the sweep has come to, once its text is spelled, is in no other chain, and is not missed. A closed head is the word that the walk found
pub record Trail (epoch row : ℕ) (links heads : List ℕ) (chain : ℕ → List ℕ) (y : Sweeping) (w : Walk) : Type 0 where
  pub news : List ℕ
  pub path : List ℕ
  pub whole : chain w.head ≡ news ++ (slots w.seen ++ path)
  pub reached : Chain links w.place path
  pub fresh : phase_of epoch ≡ 2 → version_of w.word < last → version_of (slice_index heads w.head) < last
  pub ahead : phase_of epoch ≡ 2 → y.sure ≡ true → IsAll y.text → y.unlinked ≡ false → bucket row (padded y.text) ≡ w.head → In y.cursor (slots w.seen ++ path)
  pub still : closed_of (slice_index heads w.head) ≢ 0 → slice_index heads w.head ≡ w.word

-- what the seat j knows is so
pub record SeatOk (z : Size) (b : Board) (p : Plan) (j : ℕ) (v : View) : Type 0 where
  pub size : v.size ≡ z
  pub own : (o : Own) → v.own ≡ Some o → OwnOk z b.atoms b.links b.texts p.chain p.owner j o
  pub held : (i : ℕ) (a : Held) → get_elem? v.held i ≡ some a → HeldOk z b.atoms b.texts p.chain a
  pub fixed : (i : ℕ) (a : Held) → get_elem? v.fixed i ≡ some a → HeldOk z b.atoms b.texts p.chain a
  pub low : (i : ℕ) (a : Held) → get_elem? v.fixed i ≡ some a → a.slot < 256
  pub counts : (cs : List Counted) → v.counts ≡ Some cs → CountsOk z b.atoms b.texts p.chain p.keeper j cs
  pub walk : (w : Walk) → v.walk ≡ Some w → WalkOk z b.links b.heads b.texts p.chain p.fate w
  pub marks : MarksOk z b.epoch b.acks b.atoms p.engine p.sweep.cursor j v.cycle v.undealt v.held v.walk
  pub sweeps : (y : Sweeping) → v.sweep ≡ Some y → (p.collector ≡ j) × (p.sweep ≡ y)
  pub trail : (y : Sweeping) (w : Walk) → v.sweep ≡ Some y → v.walk ≡ Some w → Trail b.epoch b.row b.links b.heads p.chain y w
  pub risen : (h : ℕ) → h < v.risen → (h < z.heads) × (z.start ≤ version_of (slice_index b.heads h))
  pub unclosed : (w : Walk) → v.walk ≡ Some w → (p.collector ≡ j → ⊥) → closed_of w.word ≡ 0
  pub grows : (y : Sweeping) → v.sweep ≡ Some y → p.grow ≡ v.growing

-- the chain of the head h is being left by its last slot, which stands in its new chain too
abbrev pub Leaving : ℕ → Growing → ℕ → Type 0
Leaving row g h = (g.moving ≢ 0) × (h ≡ row_first row + g.moved)

-- the chains: each linked slot is reached from one head, that of its text's bucket in the row in use or, while all its heads are closed, in the one that is to take its place; the slot that is moved is reached from its old head too. Each text has zeros behind the words that it fills. No two have equal texts, the dying one aside
pub record Rows (z : Size) (row : ℕ) (g : Growing) (links heads texts : List ℕ) (chain : ℕ → List ℕ) (place : ℕ → ℕ) (f : Fate) : Type 0 where
  pub chains : (h : ℕ) → h < z.heads → (Leaving row g h → ⊥) → Chain links (first_of (slice_index heads h)) (chain h)
  pub leaves : g.moving ≢ 0 → Chain links (first_of (slice_index heads (row_first row + g.moved))) (chain (row_first row + g.moved) ++ (g.moving - 1) ∷ [])
  pub once : (h k : ℕ) → h < z.heads → In k (chain h) → place k ≡ h
  pub stands : (h k : ℕ) → h < z.heads → In k (chain h) → (bucket row (text_of texts k) ≡ h) ⊎ ((g.shut ≡ 2 ^ row) × (bucket g.aim (text_of texts k) ≡ h))
  pub formed : (h k : ℕ) → h < z.heads → In k (chain h) → Formed (text_of texts k)
  pub unlike : (h i k q : ℕ) → h < z.heads → i < z.heads → In k (chain h) → In q (chain i) → k + 1 ≢ f.slot → q + 1 ≢ f.slot → text_of texts k ≡ text_of texts q → k ≡ q

-- what stands before the last slot of a chain: nothing, or a slot that is named
abbrev pub LastBefore : ℕ → List ℕ → Type 0
LastBefore before xs = ((before ≡ 0) × (xs ≡ [])) ⊎ ((q : ℕ) × (ys : List ℕ) × (before ≡ q + 1) × (xs ≡ ys ++ q ∷ []))

-- The rows of buckets. The open heads are those of the row in use, but for the first of them where a row is put in its place, which happens between cycles; no closed one of them has the last version. Of the other row so many heads, from the first on, are not worn. Only where all heads of the row in use are closed, and another is to take its place, are its chains moved: those up to one are empty, and of the next the last slot, with its text, may be known, or has been put in its new chain
pub record GrowOk (z : Size) (epoch row : ℕ) (heads texts : List ℕ) (chain : ℕ → List ℕ) (g : Growing) : Type 0 where
  pub known : g.row ≡ row
  pub size : RowOk z row
  pub aim : RowOk z g.aim
  pub most : g.shut ≤ 2 ^ row
  pub closed : (h : ℕ) → h < z.heads → closed_of (slice_index heads h) ≡ 0 → (row_first row + g.shut ≤ h) × (h < row_first row + 2 ^ row)
  pub opened : (h : ℕ) → row_first row + g.shut ≤ h → h < row_first row + 2 ^ row → closed_of (slice_index heads h) ≡ 0
  pub idle : 0 < g.shut → phase_of epoch ≡ 0
  pub firm : (h : ℕ) → row_first row ≤ h → h < row_first row + g.shut → version_of (slice_index heads h) < last
  pub begun : 0 < g.sound → 0 < g.shut
  pub few : g.sound ≤ 2 ^ g.aim
  pub sound : g.aim ≢ row → (h : ℕ) → row_first g.aim ≤ h → h < row_first g.aim + g.sound → version_of (slice_index heads h) < worn
  pub rest : (g.shut < 2 ^ row) ⊎ (g.aim ≡ row) → (g.moved ≡ 0) × (g.moving ≡ 0) × (g.picked ≡ None)
  pub emptied : (h : ℕ) → row_first row ≤ h → h < row_first row + g.moved → chain h ≡ []
  pub picked : (a : Held) → g.picked ≡ Some a → (g.moved < 2 ^ row) × (text_of texts a.slot ≡ a.text) × ((xs : List ℕ) × (chain (row_first row + g.moved) ≡ xs ++ a.slot ∷ []) × LastBefore g.before xs)
  pub there : g.moving ≢ 0 → (g.moved < 2 ^ row) × Linked z.heads chain (g.moving - 1) × LastBefore g.before (chain (row_first row + g.moved))

-- the states of the slots: a linked slot is reserved, valid or the dying one, and a valid slot is linked; one that is not valid is not counted; and those below 256 that hold no fixed atom stand reserved
pub record Slots (z : Size) (atoms : List ℕ) (chain : ℕ → List ℕ) (f : Fate) : Type 0 where
  pub live : (k : ℕ) → Linked z.heads chain k → ((state_of (slice_index atoms k) ≡ 1) ⊎ (state_of (slice_index atoms k) ≡ 3)) ⊎ (f.slot ≡ k + 1)
  pub valid : (k : ℕ) → state_of (slice_index atoms k) ≡ 3 → Linked z.heads chain k
  pub only : (k : ℕ) → state_of (slice_index atoms k) ≡ 2 → f.slot ≡ k + 1
  pub dies : (k : ℕ) → f.slot ≡ k + 1 → state_of (slice_index atoms k) ≡ 2
  pub zero : (k : ℕ) → state_of (slice_index atoms k) ≢ 3 → count_of (slice_index atoms k) ≡ 0
  pub shut : (k : ℕ) → k < z.slots → z.fixed ≤ k → k < 256 → state_of (slice_index atoms k) ≡ 1

-- the cycle: the collector knows the epoch word; the engines that it has checked, and in a sweep all, have acknowledged
pub record CycleOk (z : Size) (epoch : ℕ) (acks : List ℕ) (y : Sweeping) : Type 0 where
  pub word : y.word ≡ epoch
  pub phase : phase_of epoch < 3
  pub begun : phase_of epoch ≢ 0 → 0 < epoch_of epoch
  pub few : y.checked ≤ z.engines
  pub checked : phase_of epoch ≡ 1 → (e : ℕ) → e < y.checked → slice_index acks e ≡ epoch_of epoch
  pub swept : phase_of epoch ≡ 2 → (e : ℕ) → e < z.engines → slice_index acks e ≡ epoch_of epoch
  pub cursor : y.cursor ≤ z.slots

-- the slot at the cursor was found valid, so that it is valid or dying, and its text begins as it was spelled
pub record SureOk (z : Size) (atoms texts : List ℕ) (y : Sweeping) : Type 0 where
  pub inside : y.sure ≡ true → y.cursor < z.slots
  pub state : y.sure ≡ true → (state_of (slice_index atoms y.cursor) ≡ 3) ⊎ (state_of (slice_index atoms y.cursor) ≡ 2)
  pub short : length y.text ≤ 32
  pub text : y.sure ≡ true → take (length y.text) (text_of texts y.cursor) ≡ y.text

-- The dying slot. Until it is taken out it stands in the chain of its head, whose version is not the last. Afterwards it stands in no chain; that head's version is not below the one at which it was taken out, and not the last until it has moved on; and the head is still the word that was noted, or has a later version
pub record DyingOk (z : Size) (epoch : ℕ) (links heads : List ℕ) (chain : ℕ → List ℕ) (y : Sweeping) (f : Fate) : Type 0 where
  pub sweeping : phase_of epoch ≡ 2
  pub at : f.slot ≡ y.cursor + 1
  pub high : 256 ≤ y.cursor
  pub inside : f.head < z.heads
  pub there : f.out ≡ false → In y.cursor (chain f.head) × (version_of (slice_index heads f.head) < last)
  pub behind : f.out ≡ false → (x : ℕ) → y.behind ≡ Some x → slice_index links y.cursor ≡ x
  pub gone : f.out ≡ true → (Linked z.heads chain y.cursor → ⊥) × (f.left ≤ version_of (slice_index heads f.head)) × (y.past ≡ false → version_of (slice_index heads f.head) < last)
  pub noted : f.out ≡ true → (x : ℕ) → y.noted ≡ Some x → (f.left ≤ version_of x) × (version_of x ≤ version_of (slice_index heads f.head)) × (version_of (slice_index heads f.head) ≡ version_of x → slice_index heads f.head ≡ x)
  pub past : f.out ≡ true → y.past ≡ true → f.left < version_of (slice_index heads f.head)

-- what the collector knows of the dying slot is so
pub record FateOk (z : Size) (epoch : ℕ) (links heads : List ℕ) (chain : ℕ → List ℕ) (y : Sweeping) (f : Fate) : Type 0 where
  pub slot : y.dying ≡ f.slot
  pub out : y.unlinked ≡ f.out
  pub head : y.head ≡ f.head
  pub idle : f.slot ≡ 0 → f.out ≡ false
  pub dies : f.slot ≢ 0 → DyingOk z epoch links heads chain y f

-- WHAT IS KEPT
pub record Kept (z : Size) (b : Board) (vs : List View) : Type 0 where
  pub plan : Plan
  pub sized : Sized z b
  pub grow : GrowOk z b.epoch b.row b.heads b.texts plan.chain plan.grow
  pub rows : Rows z b.row plan.grow b.links b.heads b.texts plan.chain plan.place plan.fate
  pub slots : Slots z b.atoms plan.chain plan.fate
  pub cycle : CycleOk z b.epoch b.acks plan.sweep
  pub sure : SureOk z b.atoms b.texts plan.sweep
  -- each slot that is not reserved has zeros behind the words that its text fills
  pub blank : (k : ℕ) → state_of (slice_index b.atoms k) ≢ 1 → Formed (text_of b.texts k)
  pub fate : FateOk z b.epoch b.links b.heads plan.chain plan.sweep plan.fate
  pub seats : (j : ℕ) (v : View) → get_elem? vs j ≡ some v → v.gone ≡ false → SeatOk z b plan j v
