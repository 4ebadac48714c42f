-- What each step tells its caller: of the step, the seat before, the number found (at a store, the number stored) and the seat after.
use Rattle.std.specs.Prelude.{◌≡◌, ◌≢◌, ◌⊎◌, ◌+◌, ◌-◌, ◌*◌, ◌<◌, ◌≤◌, ℕ, true, List, [], ◌∷◌, ◌++◌, length, get_or, Some}
use Rattle.atomic_table.specs.Table.{Me, Step}
use Rattle.atom_words.specs.Layout.{state_of, closed_of, version_of, worn}
use Rattle.atom_words.specs.Board.{atom_at, head_at, text_at}
use Rattle.atom_words.specs.Chains.{In}
use Rattle.atom_words.specs.Texts.{padded}
use Rattle.atom_words.specs.Views.{newcomer}
use Rattle.atom_words.specs.Kinds.{counted, view_after}
use Rattle.atom_words.specs.declared.size.Size.{Size}
use Rattle.atom_words.specs.declared.view.Held.{Held}
use Rattle.atom_words.specs.declared.view.Counted.{Counted}
use Rattle.atom_words.specs.declared.view.Own.{Own}
use Rattle.atom_words.specs.declared.view.Walk.{Walk}
use Rattle.atom_words.specs.declared.view.Cause.TheVariants.{Moved, Pending}
use Rattle.atom_words.specs.declared.view.Refusal.TheVariants.{Again, Worn}
use Rattle.atom_words.specs.declared.view.View.{View}
use Rattle.atom_words.specs.declared.kind.Kind.{Kind}
use Rattle.atom_words.specs.declared.kind.Kind.TheVariants.{Raise, Risen, Reserve, Measure, PutWord, Fill, PutLink, Link, Validate, Release, Load, Refused, Start, Read, Next, Skip, Hold, StartPass, EndPass, Protect, Fetch, Register, Unregister, Refuse, Barred, Keep, Fix, Ask}

abbrev Sat : Type 0
Sat = Me (Unit {0}) View

abbrev At : Type 0
At = Step (Unit {0})

-- among the slots that the seat holds and the fixed atoms, this text and this slot are of one alone
abbrev pub Alone : View → ℕ → List ℕ → Type 0
Alone v slot text = (a : Held) → In a v.held ⊎ In a v.fixed → (a.slot ≡ slot → a.text ≡ text) × (a.text ≡ text → a.slot ≡ slot)

-- the walk came to a free slot; or it stands at no slot of the table, or has passed as many slots as there are
abbrev pub Stale : Size → Walk → Type 0
Stale z w = (w.lost ≡ true) ⊎ ((w.place ≢ 0) × ((z.slots < w.place) ⊎ (z.slots ≤ length w.seen + w.skipped)))

-- the step is of that kind
abbrev pub Is : Kind → Sat → Sat → Type 0
Is kind m m' = (m'.1 ≡ m.1) × (m'.0 ≡ view_after m.0 kind)

-- the load of a slot's word, which is free or not
abbrev pub seen_free : At → Sat → ℕ → Sat → Type 0
seen_free st m r m' = (m'.1 ≡ m.1) × ((k : ℕ) → st.word ≡ atom_at m.0.size k → (state_of r ≡ 0 → m'.0 ≡ view_after m.0 (Load (atom_at m.0.size k) r)) × (state_of r ≢ 0 → m'.0 ≡ view_after m.0 (Refused k 0 r)))

-- the exchange of the word of a slot that was found free
abbrev pub reserved : At → Sat → ℕ → Sat → Type 0
reserved st m r m' = (m'.1 ≡ m.1) × ((k : ℕ) → st.word ≡ atom_at m.0.size k → (r ≡ st.first → m'.0 ≡ view_after m.0 (Reserve k)) × (r ≢ st.first → m'.0 ≡ view_after m.0 (Refused k st.first r)))

-- the first word of the own slot's text, of which none is put
abbrev pub text_measured : At → Sat → ℕ → Sat → Type 0
text_measured st m r m' = Is (Measure r) m m'

-- its other words are 0
abbrev pub text_filled : At → Sat → ℕ → Sat → Type 0
text_filled st m r m' = Is Fill m m'

abbrev pub word_put : At → Sat → ℕ → Sat → Type 0
word_put st m r m' = Is (PutWord r) m m'

-- the load of the next word of the own slot's text, which puts it where it is x
abbrev pub word_found : ℕ → At → Sat → ℕ → Sat → Type 0
word_found x st m r m' = (m'.1 ≡ m.1) × (r ≡ x → m'.0 ≡ view_after m.0 (PutWord x)) × (r ≢ x → m'.0 ≡ view_after m.0 (Load st.word r))

abbrev pub validated : At → Sat → ℕ → Sat → Type 0
validated st m r m' = Is Validate m m' × ((o : Own) → m.0.own ≡ Some o → Alone m.0 o.slot o.text)

abbrev pub released : At → Sat → ℕ → Sat → Type 0
released st m r m' = Is Release m m'

abbrev pub protected : At → Sat → ℕ → Sat → Type 0
protected st m r m' = (m'.1 ≡ m.1) × ((k : ℕ) → st.word ≡ atom_at m.0.size k → m'.0 ≡ view_after m.0 (Protect k r))

abbrev pub registered : At → Sat → ℕ → Sat → Type 0
registered st m r m' = (m'.1 ≡ m.1) × ((a : Held) → In a m.0.held ⊎ In a m.0.fixed → st.word ≡ atom_at m.0.size a.slot → m'.0 ≡ view_after m.0 (Register a))

abbrev pub unregistered : At → Sat → ℕ → Sat → Type 0
unregistered st m r m' = (m'.1 ≡ m.1) × ((k : ℕ) → st.word ≡ atom_at m.0.size k → m'.0 ≡ view_after m.0 (Unregister k))

abbrev pub pass_started : At → Sat → ℕ → Sat → Type 0
pass_started st m r m' = Is (StartPass r) m m'

abbrev pub pass_ended : At → Sat → ℕ → Sat → Type 0
pass_ended st m r m' = Is (EndPass r) m m'

-- a head's version is raised, where the head is still the word that was loaded
abbrev pub head_raised : At → Sat → ℕ → Sat → Type 0
head_raised st m r m' = (m'.1 ≡ m.1) × ((h : ℕ) → st.word ≡ head_at m.0.size h → (r ≡ st.first → m'.0 ≡ view_after m.0 (Raise h)) × (r ≢ st.first → m'.0 ≡ view_after m.0 (Load (head_at m.0.size h) r)))

-- a head's word is loaded, whose version is the one that the table begins with, or a later one; or it is not
abbrev pub head_risen : At → Sat → ℕ → Sat → Type 0
head_risen st m r m' = (m'.1 ≡ m.1) × ((h : ℕ) → st.word ≡ head_at m.0.size h → (m.0.size.start ≤ version_of r → m'.0 ≡ view_after m.0 (Risen h r)) × (version_of r < m.0.size.start → m'.0 ≡ view_after m.0 (Load (head_at m.0.size h) r)))

-- FOR THE CRATES ABOVE
-- a load that the seat keeps nothing of
abbrev pub loaded : At → Sat → ℕ → Sat → Type 0
loaded st m r m' = Is (Load st.word r) m m'

-- a walk begins at an open head; a closed one refuses
abbrev pub walk_started : At → Sat → ℕ → Sat → Type 0
walk_started st m r m' = (m'.1 ≡ m.1) × ((h : ℕ) → st.word ≡ head_at m.0.size h
    → (closed_of r ≡ 0 → m'.0 ≡ view_after m.0 (Start h r)) × (closed_of r ≢ 0 → m'.0 ≡ view_after m.0 (Barred h r)))

-- the walk reads the next word of the text at hand
abbrev pub word_read : At → Sat → ℕ → Sat → Type 0
word_read st m r m' = Is (Read r) m m'

-- the walk goes on by the link word of the slot at hand
abbrev pub gone_on : At → Sat → ℕ → Sat → Type 0
gone_on st m r m' = Is (Next r) m m'

-- the walk goes past the dying slot at hand
abbrev pub gone_past : At → Sat → ℕ → Sat → Type 0
gone_past st m r m' = Is (Skip r) m m'

-- the walk ends with the slot at hand held, where the head has its version; otherwise that refuses
abbrev pub slot_held : At → Sat → ℕ → Sat → Type 0
slot_held st m r m' = (m'.1 ≡ m.1) × ((w : Walk) → m.0.walk ≡ Some w
    → (version_of r ≡ version_of w.word → (m'.0 ≡ view_after m.0 Hold) × Alone m.0 (w.place - 1) (padded w.part)) × (version_of r ≢ version_of w.word → m'.0 ≡ view_after m.0 (Refuse (Again (Moved w.word r)))))

-- the slot at hand, which the step just before protected, was found reserved by another seat, which refuses
abbrev pub pending_shown : At → Sat → ℕ → Sat → Type 0
pending_shown st m r m' = (m'.1 ≡ m.1) × ((k x : ℕ) (before : List Kind) → m.0.made ≡ before ++ Protect k x ∷ [] → m'.0 ≡ view_after m.0 (Refuse (Again (Pending k x))))

-- the walk is stale, so its head has another version, which refuses
abbrev pub moved_found : At → Sat → ℕ → Sat → Type 0
moved_found st m r m' = (m'.1 ≡ m.1) × ((w : Walk) → m.0.walk ≡ Some w → (version_of r ≢ version_of w.word) × (m'.0 ≡ view_after m.0 (Refuse (Again (Moved w.word r)))))

-- a word of the text of a slot that the seat holds, or of a fixed atom
abbrev pub held_word_read : At → Sat → ℕ → Sat → Type 0
held_word_read st m r m' = Is (Load st.word r) m m' × ((a : Held) (i : ℕ) → In a m.0.held ⊎ In a m.0.fixed → i < 32 → st.word ≡ text_at m.0.size a.slot i → r ≡ get_or a.text i 0)

-- the head is worn, which refuses; or it is not. Its version is that of the walk over it at least
abbrev pub worn_found : At → Sat → ℕ → Sat → Type 0
worn_found st m r m' = (m'.1 ≡ m.1) × ((h : ℕ) → st.word ≡ head_at m.0.size h
    → (worn ≤ version_of r → m'.0 ≡ view_after m.0 (Refuse (Worn (record { head = h; word = r; start = m.0.size.start })))) × (version_of r < worn → m'.0 ≡ view_after m.0 (Load (head_at m.0.size h) r)) × ((w : Walk) → m.0.walk ≡ Some w → w.head ≡ h → version_of w.word ≤ version_of r))

-- the own slot's link word is put
abbrev pub link_put : At → Sat → ℕ → Sat → Type 0
link_put st m r m' = Is (PutLink r) m m'

-- the own slot is linked, where the head is still the word that the walk found; otherwise its version is another, which refuses
abbrev pub slot_linked : At → Sat → ℕ → Sat → Type 0
slot_linked st m r m' = (m'.1 ≡ m.1) × (r ≡ st.first → m'.0 ≡ view_after m.0 Link) × (r ≢ st.first → (version_of r ≢ version_of st.first) × (m'.0 ≡ view_after m.0 (Refuse (Again (Moved st.first r)))))

-- a counted slot is marked and held
abbrev pub fetched : At → Sat → ℕ → Sat → Type 0
fetched st m r m' = (m'.1 ≡ m.1) × ((k : ℕ) → st.word ≡ atom_at m.0.size k → (m'.0 ≡ view_after m.0 (Fetch k)) × ((cs : List Counted) → m.0.counts ≡ Some cs → Alone m.0 k (counted cs k).text))

-- the held slots become fixed atoms; only those slots are held on; a text is asked
abbrev pub fixed : At → Sat → ℕ → Sat → Type 0
fixed st m r m' = Is Fix m m'

abbrev pub kept : List Held → At → Sat → ℕ → Sat → Type 0
kept those st m r m' = Is (Keep those) m m'

abbrev pub asked : List ℕ → At → Sat → ℕ → Sat → Type 0
asked text st m r m' = Is (Ask text) m m'

-- a new seat
abbrev pub seated : At → Sat → ℕ → Sat → Type 0
seated st m r m' = m'.0 ≡ newcomer m.0.size
