-- The steps of a call that interns a text.
use Rattle.std.specs.Prelude.{◌≡◌, ◌≢◌, ◌⊎◌, ℕ, zero, suc, ◌+◌, ◌%◌, ◌<◌, ◌≤◌, List, [], ◌∷◌, Some, None, Result, Ok, Err}
use Rattle.atom_words.specs.Layout.{first_of, version_of, worn}
use Rattle.atom_words.specs.Kinds.{after}
use Rattle.atom_words.specs.Seats.{PutsRow, Reserves, FindsTaken}
use Rattle.atom_words.specs.declared.view.Walk.{Walk}
use Rattle.atom_words.specs.declared.view.Pass.{Pass}
use Rattle.atom_words.specs.declared.view.Cause.{Cause}
use Rattle.atom_words.specs.declared.view.Cause.TheVariants.{Moved as CauseMoved, Pending as CausePending, Closed as CauseClosed}
use Rattle.atom_words.specs.declared.view.Refusal.TheVariants.{Again as RefusalAgain, Worn as RefusalWorn}
use Rattle.atom_words.specs.declared.view.View.{View}
use Rattle.atom_words.specs.declared.kind.Kind.TheVariants.{Ask, StartPass, EndPass, PutLink, Link, Validate, Release, Refuse}
use Rattle.bucket_rows.specs.declared.missed.Missed.{Missed}
use Rattle.bucket_rows.specs.declared.missed.Missed.TheVariants.{Moved, Pending, Closed, Worn}
use Rattle.bucket_rows.specs.Walks.{WalksIn}
use Rattle.atom_api.specs.declared.interned.Interned.{Interned}
use Rattle.atom_api.specs.declared.interned.Interned.TheVariants.{Is, Full, Again, TooLong, Worn as InternedWorn, Memory}

-- n slots from `from` on, in a circle, are each found taken
abbrev pub Tries : ℕ → ℕ → View → View → Type 0
Tries zero from v w = w ≡ v
Tries (suc n) from v w = (u : View) × Tries n from v u × ((x : ℕ) × FindsTaken u ((from + n) % v.size.slots) x w)

-- A pass for a slot: one is reserved, or all are found taken, and the pass says so
abbrev pub Takes : ℕ → View → Result (Unit {0}) Pass → View → Type 0
Takes from v (Ok _) w = (x : ℕ) × (n : ℕ) × (n < v.size.slots) × ((u : View) × Tries n from (after v (StartPass x ∷ [])) u × Reserves u ((from + n) % v.size.slots) w)
Takes from v (Err p) w = (x : ℕ) × (y : ℕ) × ((u : View) × Tries v.size.slots from (after v (StartPass x ∷ [])) u × (w ≡ after u (EndPass y ∷ []))) × (p ≡ record { counted = v.size.slots; seat = v.cycle.engine; began = x; ended = y })

-- The text is put in the reserved slot, which is linked after the walk t and made valid, or given back
abbrev pub Adds : List ℕ → Walk → View → Result ℕ Missed → View → Type 0
Adds row t v (Ok a) w = (u : View) × PutsRow row v u × (w ≡ after u (PutLink (first_of t.word) ∷ Link ∷ Validate ∷ []))
Adds row t v (Err (Moved old new)) w = (old ≡ t.word) × (version_of new ≢ version_of old) × ((u : View) × PutsRow row v u × (w ≡ after u (PutLink (first_of t.word) ∷ Refuse (RefusalAgain (CauseMoved old new)) ∷ Release ∷ [])))
Adds row t v (Err (Pending k x)) w = ⊥
Adds row t v (Err (Closed x)) w = ⊥
Adds row t v (Err (Worn x)) w = (x.head ≡ t.head) × (worn ≤ version_of x.word) × ((u : View) × PutsRow row v u × (w ≡ after u (Refuse (RefusalWorn x) ∷ Release ∷ [])))

-- after a walk that did not find the text
abbrev pub Makes : List ℕ → View → Result ℕ Missed → View → Type 0
Makes row v r w = (from : ℕ) × (u : View) × Takes from v (Ok tt) u × ((t : Walk) × (v.walk ≡ Some t) × Adds row t u r w)

-- the answer that a walk or a link that was not made gives
abbrev pub answered_by : Missed → Interned
answered_by (Moved old new) = Again (CauseMoved old new)
answered_by (Pending k x) = Again (CausePending k x)
answered_by (Closed x) = Again (CauseClosed x)
answered_by (Worn w) = InternedWorn w

abbrev pub missed_by : Cause → Missed
missed_by (CauseMoved old new) = Moved old new
missed_by (CausePending k x) = Pending k x
missed_by (CauseClosed x) = Closed x

abbrev pub made_by : Result ℕ Missed → Interned
made_by (Ok a) = Is a
made_by (Err m) = answered_by m

-- The steps after a walk that did not find the text, by the answer: the bucket is worn, or there is a pass for a slot; where one is reserved, it is made an atom or given back
abbrev pub MakesBy : List ℕ → View → Interned → View → Type 0
MakesBy row v (Is a) w = Makes row v (Ok a) w
MakesBy row v (Full p) w = (from : ℕ) × Takes from v (Err p) w
MakesBy row v (Again c) w = Makes row v (Err (missed_by c)) w
MakesBy row v (InternedWorn x) w = (w ≡ after v (Refuse (RefusalWorn x) ∷ [])) ⊎ Makes row v (Err (Worn x)) w
MakesBy row v (TooLong b) w = ⊥
MakesBy row v Memory w = ⊥

-- THE STEPS OF INTERNING the text with the words `row`, by the answer: it is asked, and there is a walk, which finds it, is refused, or ends without it
abbrev pub InternsBy : List ℕ → View → Interned → View → Type 0
InternsBy row v (Is a) w = WalksIn row (after v (Ask row ∷ [])) (Ok (Some a)) w ⊎ ((u : View) × WalksIn row (after v (Ask row ∷ [])) (Ok None) u × MakesBy row u (Is a) w)
InternsBy row v (Full p) w = (u : View) × WalksIn row (after v (Ask row ∷ [])) (Ok None) u × MakesBy row u (Full p) w
InternsBy row v (Again c) w = WalksIn row (after v (Ask row ∷ [])) (Err (missed_by c)) w ⊎ ((u : View) × WalksIn row (after v (Ask row ∷ [])) (Ok None) u × MakesBy row u (Again c) w)
InternsBy row v (InternedWorn x) w = (u : View) × WalksIn row (after v (Ask row ∷ [])) (Ok None) u × MakesBy row u (InternedWorn x) w
InternsBy row v (TooLong b) w = w ≡ v
InternsBy row v Memory w = ⊥
