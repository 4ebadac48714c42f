-- Where the collector's walk stands.
use Rattle.std.specs.Prelude.{◌≡◌, ◌≢◌, ◌⊎◌, ℕ, ◌+◌, ◌<◌, ◌≤◌, true, false, List, [], ◌∷◌, ◌++◌, length, map, Some}
use Rattle.atom_words.specs.Layout.{first_of, version_of, last, phase_of}
use Rattle.atom_words.specs.Texts.{bucket, padded}
use Rattle.atom_words.specs.Chains.{In}
use Rattle.atom_words.specs.Kept.{slots}
use Rattle.atom_words.specs.Kinds.{IsAll, Sweeps, Unlinked}
use Rattle.atom_words.specs.declared.view.Held.{Held}
use Rattle.atom_words.specs.declared.view.Walk.{Walk}
use Rattle.atom_words.specs.declared.view.Sweeping.{Sweeping}
use Rattle.atom_words.specs.declared.view.View.{View}
use Rattle.atom_words.specs.declared.kind.Kind.{Kind}
use Rattle.atom_words.specs.declared.kind.Kind.TheVariants.{Spell, Next}

-- the words of the slot's text are loaded, one after the other; and the walk goes on by these link words
abbrev pub spells : List ℕ → List Kind
spells ws = map (λ x. Spell x) ws

abbrev pub nexts : List ℕ → List Kind
nexts xs = map (λ x. Next x) xs

-- THE COLLECTOR'S WALK DOES NOT MISS THE SLOT that the sweep has come to, whose text is spelled, in the chain of its text's bucket: it has passed the slot, or it stands at a slot of the table and has passed fewer than there are
abbrev pub Ahead : View → Type 0
Ahead v = (y : Sweeping) (w : Walk) → v.sweep ≡ Some y → v.walk ≡ Some w → phase_of y.word ≡ 2 → y.sure ≡ true → IsAll y.text → y.unlinked ≡ false → bucket v.growing.row (padded y.text) ≡ w.head
    → In y.cursor (slots w.seen) ⊎ ((w.place ≢ 0) × (w.place ≤ v.size.slots) × (length w.seen < v.size.slots))

-- the sweep has come to the slot k, and no slot is dying
abbrev pub AtSlot : ℕ → View → Type 0
AtSlot k v = (y : Sweeping) × Sweeps v y × (y.dying ≡ 0) × (y.unlinked ≡ false) × (y.cursor ≡ k)

-- the slot k was found valid just before
abbrev pub Found : ℕ → View → Type 0
Found k v = (y : Sweeping) × Sweeps v y × (y.dying ≡ 0) × (y.unlinked ≡ false) × (y.cursor ≡ k) × (y.sure ≡ true) × (y.text ≡ [])

-- 0 where the walk has passed no slot, or 1 more than the last slot that it passed
abbrev pub Before : ℕ → List Held → Type 0
Before before seen = ((before ≡ 0) × (seen ≡ [])) ⊎ ((front : List Held) × (a : Held) × (seen ≡ front ++ a ∷ []) × (before ≡ a.slot + 1))

-- The collector's walk over the chain of the bucket of the slot k, to which the sweep has come, and whose text is spelled: it began at the head's word x, has passed n slots, not k, of which `before` is the last one, and stands at the place p
pub record Treads (k x n before p : ℕ) (v : View) : Type 0 where
  pub sweep : Sweeping
  pub sweeps : Sweeps v sweep
  pub cursor : sweep.cursor ≡ k
  pub sure : sweep.sure ≡ true
  pub whole : IsAll sweep.text
  pub linked : sweep.unlinked ≡ false
  pub walk : Walk
  pub at : v.walk ≡ Some walk
  pub head : bucket v.growing.row (padded sweep.text) ≡ walk.head
  pub word : walk.word ≡ x
  pub count : length walk.seen ≡ n
  pub place : walk.place ≡ p
  pub last_seen : Before before walk.seen
  pub first : n ≡ 0 → p ≡ first_of x
  pub unseen : In k (slots walk.seen) → ⊥

-- the walk stands at the slot k, and did not begin at the last version; no slot is dying
abbrev pub Reached : ℕ → ℕ → ℕ → View → Type 0
Reached k x before v = (n : ℕ) × (t : Treads k x n before (k + 1) v) × (t.sweep.dying ≡ 0) × (version_of x < last)

-- or that slot is, which is still in its chain
abbrev pub Caught : ℕ → ℕ → ℕ → View → Type 0
Caught k x before v = (n : ℕ) × (t : Treads k x n before (k + 1) v) × (t.sweep.dying ≡ k + 1) × (t.sweep.head ≡ t.walk.head) × (version_of x < last)

-- and its link word was read
abbrev pub Behinds : ℕ → ℕ → ℕ → ℕ → View → Type 0
Behinds k x before link v = (n : ℕ) × (t : Treads k x n before (k + 1) v) × (t.sweep.dying ≡ k + 1) × (t.sweep.head ≡ t.walk.head) × (t.sweep.behind ≡ Some link) × (version_of x < last)

-- the dying slot k is out of its chain, and the version of its head has moved since
abbrev pub OutOf : ℕ → View → Type 0
OutOf k v = (y : Sweeping) × Unlinked v y × (y.past ≡ true) × (y.cursor ≡ k)
