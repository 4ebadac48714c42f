-- Where a walk stands, and the steps of its parts.
use Rattle.std.specs.Prelude.{◌≡◌, ◌≢◌, ℕ, ◌+◌, List, [], ◌∷◌, ◌++◌, ◌≤◌, length, take, get_or, Option, Some, None, Result, Ok, Err}
use mathlib.Core.Option.{some}
use lib.ListN.{get_elem?}
use Rattle.atom_words.specs.Layout.{state_of, version_of}
use Rattle.atom_words.specs.Texts.{Formed}
use Rattle.atom_words.specs.Kinds.{after}
use Rattle.atom_words.specs.declared.view.Held.{Held}
use Rattle.atom_words.specs.declared.view.Walk.{Walk}
use Rattle.atom_words.specs.declared.view.Cause.TheVariants.{Moved as CauseMoved, Pending as CausePending}
use Rattle.atom_words.specs.declared.view.Refusal.TheVariants.{Again}
use Rattle.atom_words.specs.declared.view.View.{View}
use Rattle.atom_words.specs.declared.kind.Kind.TheVariants.{Skip, Hold, Refuse}
use Rattle.bucket_rows.specs.declared.missed.Missed.{Missed}
use Rattle.bucket_rows.specs.declared.missed.Missed.TheVariants.{Moved, Pending, Closed, Worn}
use Rattle.bucket_rows.specs.Walks.{Passed, guards, passes, meets, Another}

-- The walk at hand over the head h, found with the word x, has passed n slots, each of another text or dying, and stands at the place p, where it has read the words ws
pub record Standing (row : List ℕ) (h x n p : ℕ) (ws : List ℕ) (v : View) : Type 0 where
  pub walk : Walk
  pub at : v.walk ≡ Some walk
  pub head : walk.head ≡ h
  pub word : walk.word ≡ x
  pub count : length walk.seen + walk.skipped ≡ n
  pub place : walk.place ≡ p
  pub part : walk.part ≡ ws
  pub others : (i : ℕ) (a : Held) → get_elem? walk.seen i ≡ some a → a.text ≢ take (length a.text) row

-- the words of a text of at most 248 bytes
abbrev pub IsTextRow : List ℕ → Type 0
IsTextRow row = (length row ≡ 32) × (get_or row 0 0 ≤ 248) × Formed row

-- the steps at the slot k, whose text was read whole: it is held, or is dying and passed, and the link word is answered; or it is missed
abbrev pub Ends : ℕ → ℕ → View → Result (Option ℕ) Missed → View → Type 0
Ends k word v (Ok None) w = (x : ℕ) × (o : Option (ℕ × ℕ)) × (state_of x ≡ 3) × (w ≡ after v (guards o k x ++ Hold ∷ []))
Ends k word v (Ok (Some l)) w = (x : ℕ) × (o : Option (ℕ × ℕ)) × (state_of x ≡ 2) × (w ≡ after v (guards o k x ++ Skip l ∷ []))
Ends k word v (Err (Moved old new)) w = (old ≡ word) × (version_of new ≢ version_of old) × ((x : ℕ) × (o : Option (ℕ × ℕ)) × (w ≡ after v (guards o k x ++ Refuse (Again (CauseMoved old new)) ∷ [])))
Ends k word v (Err (Pending j x)) w = (j ≡ k) × (state_of x ≡ 1) × ((o : Option (ℕ × ℕ)) × (w ≡ after v (guards o k x ++ Refuse (Again (CausePending k x)) ∷ [])))
Ends k word v (Err (Closed x)) w = ⊥
Ends k word v (Err (Worn x)) w = ⊥

-- the steps at the slot k at hand, which is passed or held, or missed
abbrev pub Meets : List ℕ → ℕ → ℕ → View → Result (Option ℕ) Missed → View → Type 0
Meets row k word v (Ok None) w = (x : ℕ) × (o : Option (ℕ × ℕ)) × (state_of x ≡ 3) × (w ≡ after v (meets row o k x (Hold ∷ [])))
Meets row k word v (Ok (Some p)) w = (q : Passed) × (q.link ≡ p) × Another row q.part q.dying × (w ≡ after v (passes (q ∷ [])))
Meets row k word v (Err (Moved old new)) w = (old ≡ word) × (version_of new ≢ version_of old) × ((x : ℕ) × (o : Option (ℕ × ℕ)) × (w ≡ after v (meets row o k x (Refuse (Again (CauseMoved old new)) ∷ []))))
Meets row k word v (Err (Pending j x)) w = (j ≡ k) × (state_of x ≡ 1) × ((o : Option (ℕ × ℕ)) × (w ≡ after v (meets row o k x (Refuse (Again (CausePending k x)) ∷ []))))
Meets row k word v (Err (Closed x)) w = ⊥
Meets row k word v (Err (Worn x)) w = ⊥
