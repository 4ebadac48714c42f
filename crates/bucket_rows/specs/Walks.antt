-- What walks over a bucket's chain, and links of a slot, make of the seat's view.
use Rattle.std.specs.Prelude.{◌≡◌, ◌≢◌, ◌⊎◌, ℕ, ◌^◌, ◌≤◌, false, List, [], ◌∷◌, ◌++◌, length, take, get_or, map, Option, Some, None, Result, Ok, Err, encode_utf8_all}
use mathlib.Core.Option.{some}
use lib.ListN.{get_elem?}
use Rattle.pl_term.specs.Tree.{Chars}
use Rattle.atom_words.specs.Layout.{state_of, first_of, closed_of, version_of, worn}
use Rattle.atom_words.specs.Texts.{row_of, bucket, filled, Formed}
use Rattle.atom_words.specs.Kinds.{after}
use Rattle.atom_words.specs.declared.view.Held.{Held}
use Rattle.atom_words.specs.declared.view.Own.{Own}
use Rattle.atom_words.specs.declared.view.Walk.{Walk}
use Rattle.atom_words.specs.declared.view.Cause.TheVariants.{Moved as CauseMoved, Pending as CausePending, Closed as CauseClosed}
use Rattle.atom_words.specs.declared.view.Refusal.TheVariants.{Again, Worn as RefusalWorn}
use Rattle.atom_words.specs.declared.view.View.{View}
use Rattle.atom_words.specs.declared.kind.Kind.{Kind}
use Rattle.atom_words.specs.declared.kind.Kind.TheVariants.{Load, Start, Read, Next, Skip, Protect, Hold, Refuse, Barred, PutLink, Link}
use Rattle.bucket_rows.specs.declared.missed.Missed.{Missed}
use Rattle.bucket_rows.specs.declared.missed.Missed.TheVariants.{Moved, Pending, Closed, Worn}

-- the 32 words of a text
abbrev pub spelled : Chars → List ℕ
spelled t = row_of (encode_utf8_all t)

-- those of its 32 words that a text fills
abbrev pub filling : List ℕ → List ℕ
filling row = take (filled (get_or row 0 0)) row

-- a slot that was found dying as its mark was set: its number, the load before that, if there was one, and the word that was found
pub record Dying : Type 0 where
  pub slot : ℕ
  pub loaded : Option (ℕ × ℕ)
  pub word : ℕ

-- What a walk reads of a slot that it passes: the beginning of its text, and its link word. A slot that has the text looked for is passed where it was found dying
pub record Passed : Type 0 where
  pub part : List ℕ
  pub dying : Option Dying
  pub link : ℕ

abbrev pub reads : List ℕ → List Kind
reads ws = map (λ x. Read x) ws

-- the mark of the slot k is set, which was found with the word x: by the load that finds that it is set, or by an exchange after a load that found another word
abbrev pub guards : Option (ℕ × ℕ) → ℕ → ℕ → List Kind
guards None k x = Protect k x ∷ []
guards (Some l) k x = Load l.0 l.1 ∷ Protect k x ∷ []

abbrev pub goes_on : Option Dying → ℕ → List Kind
goes_on None x = Next x ∷ []
goes_on (Some d) x = guards d.loaded d.slot d.word ++ Skip x ∷ []

abbrev pub passes : List Passed → List Kind
passes [] = []
passes (p ∷ ps) = reads p.part ++ (goes_on p.dying p.link ++ passes ps)

-- what was read shows another text; or the slot has the text, and was found dying
abbrev pub Another : List ℕ → List ℕ → Option Dying → Type 0
Another row part None = part ≢ take (length part) row
Another row part (Some d) = (part ≡ filling row) × (state_of d.word ≡ 2)

-- each slot that was passed has another text or is dying
abbrev pub Others : List ℕ → List Passed → Type 0
Others row ps = (i : ℕ) (p : Passed) → get_elem? ps i ≡ some p → Another row p.part p.dying

-- The steps of a walk after its start, where it passes the slots ps, and makes the steps ks at the end
pub record WalksBy (row : List ℕ) (v : View) (ks : List Kind) (w : View) : Type 0 where
  pub passed : List Passed
  pub few : length passed ≤ v.size.slots
  pub others : Others row passed
  pub steps : w ≡ after v (passes passed ++ ks)

-- at a slot of the text: the words that the text fills are read, and it is protected, found with the word x
abbrev pub meets : List ℕ → Option (ℕ × ℕ) → ℕ → ℕ → List Kind → List Kind
meets row l k x ks = reads (filling row) ++ (guards l k x ++ ks)

-- THE STEPS OF A WALK for a text after its start, by its answer
abbrev pub Goes : List ℕ → View → Result (Option ℕ) Missed → View → Type 0
Goes row v (Ok None) w = WalksBy row v [] w
Goes row v (Ok (Some k)) w = (x : ℕ) × (l : Option (ℕ × ℕ)) × (state_of x ≡ 3) × WalksBy row v (meets row l k x (Hold ∷ [])) w
Goes row v (Err (Moved old new)) w = (version_of new ≢ version_of old) × (WalksBy row v (Refuse (Again (CauseMoved old new)) ∷ []) w
    ⊎ ((k : ℕ) × (x : ℕ) × (l : Option (ℕ × ℕ)) × WalksBy row v (meets row l k x (Refuse (Again (CauseMoved old new)) ∷ [])) w))
Goes row v (Err (Pending k x)) w = (state_of x ≡ 1) × ((l : Option (ℕ × ℕ)) × WalksBy row v (meets row l k x (Refuse (Again (CausePending k x)) ∷ [])) w)
Goes row v (Err (Closed x)) w = ⊥
Goes row v (Err (Worn x)) w = ⊥

-- THE STEPS OF A WALK for a text over the chain of the head h: it begins at the head's word x, where the head is open
abbrev pub Begins : List ℕ → ℕ → View → Result (Option ℕ) Missed → View → Type 0
Begins row h v r w = (x : ℕ) × (closed_of x ≡ 0) × Goes row (after v (Start h x ∷ [])) r w

abbrev pub Walks : List ℕ → ℕ → View → Result (Option ℕ) Missed → View → Type 0
Walks row h v (Ok o) w = Begins row h v (Ok o) w
Walks row h v (Err (Moved old new)) w = (closed_of old ≡ 0) × Goes row (after v (Start h old ∷ [])) (Err (Moved old new)) w
Walks row h v (Err (Pending k x)) w = Begins row h v (Err (Pending k x)) w
Walks row h v (Err (Closed x)) w = (closed_of x ≢ 0) × (w ≡ after v (Barred h x ∷ []))
Walks row h v (Err (Worn x)) w = ⊥

-- The walk at hand went over an open head to the end of the chain, and saw the text in no slot
pub record Missing (row : List ℕ) (h : ℕ) (v : View) : Type 0 where
  pub walk : Walk
  pub at : v.walk ≡ Some walk
  pub head : walk.head ≡ h
  pub unclosed : closed_of walk.word ≡ 0
  pub ended : walk.place ≡ 0
  pub others : (i : ℕ) (a : Held) → get_elem? walk.seen i ≡ some a → a.text ≢ take (length a.text) row

-- THE STEPS OF A WALK for a text: the row word is loaded, and then it walks over the chain of the text's bucket in that row
abbrev pub WalksIn : List ℕ → View → Result (Option ℕ) Missed → View → Type 0
WalksIn row v r w = (s : ℕ) × (256 ≤ 2 ^ s) × Walks row (bucket s row) (after v (Load 1 s ∷ [])) r w

-- the walk at hand did so, and saw the text in no slot
abbrev pub MissingIn : List ℕ → View → Type 0
MissingIn row v = (s : ℕ) × (256 ≤ 2 ^ s) × Missing row (bucket s row) v

-- The seat has reserved a slot and put the text in it, and its walk shows that no slot of the bucket's chain has the text
abbrev pub Ready : View → Type 0
Ready v = (o : Own) × (v.own ≡ Some o) × (o.linked ≡ false) × (length o.text ≡ 32) × MissingIn o.text v × Formed o.text

-- the walk, the slots held, the refusals and the steps made aside, the view w is v
pub record Aside (v w : View) : Type 0 where
  pub gone : w.gone ≡ v.gone
  pub size : w.size ≡ v.size
  pub own : w.own ≡ v.own
  pub fixed : w.fixed ≡ v.fixed
  pub counts : w.counts ≡ v.counts
  pub pass : w.pass ≡ v.pass
  pub asked : w.asked ≡ v.asked
  pub undealt : w.undealt ≡ v.undealt
  pub cycle : w.cycle ≡ v.cycle
  pub sweep : w.sweep ≡ v.sweep
  pub risen : w.risen ≡ v.risen

-- what is held and refused after a walk
abbrev pub held_after : List ℕ → View → Result (Option ℕ) Missed → List Held
held_after row v (Ok None) = v.held
held_after row v (Ok (Some k)) = v.held ++ record { slot = k; text = row } ∷ []
held_after row v (Err e) = v.held

abbrev pub refused_after : View → Result (Option ℕ) Missed → List Rattle.atom_words.specs.declared.view.Refusal.Refusal
refused_after v (Ok o) = v.refusals
refused_after v (Err (Moved old new)) = v.refusals ++ Again (CauseMoved old new) ∷ []
refused_after v (Err (Pending k x)) = v.refusals ++ Again (CausePending k x) ∷ []
refused_after v (Err (Closed x)) = v.refusals ++ Again (CauseClosed x) ∷ []
refused_after v (Err (Worn w)) = v.refusals ++ RefusalWorn w ∷ []

-- THE STEPS OF A LINK after the walk t, by its answer
abbrev pub Links : View → Walk → Result (Unit {0}) Missed → View → Type 0
Links v t (Ok _) w = w ≡ after v (PutLink (first_of t.word) ∷ Link ∷ [])
Links v t (Err (Moved old new)) w = (old ≡ t.word) × (version_of new ≢ version_of old) × (w ≡ after v (PutLink (first_of t.word) ∷ Refuse (Again (CauseMoved old new)) ∷ []))
Links v t (Err (Pending k x)) w = ⊥
Links v t (Err (Closed x)) w = ⊥
Links v t (Err (Worn x)) w = (x.head ≡ t.head) × (worn ≤ version_of x.word) × (w ≡ after v (Refuse (RefusalWorn x) ∷ []))
