-- The kinds of steps: what each asks of the words and of the seat's view, what it does to the words, and the view after it.
use Rattle.std.specs.Prelude.{◌≡◌, ◌≢◌, ◌⊎◌, ℕ, ◌+◌, ◌-◌, ◌*◌, ◌%◌, ◌<◌, ◌≤◌, ◌^◌, ◌==◌, ◌&&◌, ◌||◌, nat_lt, Bool, true, false, if◌then◌else◌, List, [], ◌∷◌, ◌++◌, length, take, set, get_or, slice_index, Option, Some, None, option_map}
use mathlib.Core.Option.{some}
use lib.ListN.{get_elem?}
use Rattle.atom_words.specs.Layout.{state_of, mark_of, first_of, closed_of, version_of, head_word, worn, last, epoch_word, phase_of, epoch_of, row_first}
use Rattle.atom_words.specs.Texts.{bucket, filled, Formed, padded}
use Rattle.atom_words.specs.Board.{Board, laid, atom_at, atom, link, head, text_of, with_epoch, with_row, with_ack, with_atom, with_link, with_head, with_text}
use Rattle.atom_words.specs.Chains.{In}
use Rattle.atom_words.specs.Views.{uncounted}
use Rattle.atom_words.specs.declared.size.Size.{Size}
use Rattle.atom_words.specs.declared.view.Held.{Held}
use Rattle.atom_words.specs.declared.view.Counted.{Counted}
use Rattle.atom_words.specs.declared.view.Own.{Own}
use Rattle.atom_words.specs.declared.view.Walk.{Walk}
use Rattle.atom_words.specs.declared.view.Cycling.{Cycling}
use Rattle.atom_words.specs.declared.view.Sweeping.{Sweeping}
use Rattle.atom_words.specs.declared.view.Growing.{Growing}
use Rattle.atom_words.specs.declared.view.Passing.{Passing}
use Rattle.atom_words.specs.declared.view.Pass.{Pass}
use Rattle.atom_words.specs.declared.view.Cause.TheVariants.{Moved, Pending, Closed}
use Rattle.atom_words.specs.declared.view.Refusal.{Refusal}
use Rattle.atom_words.specs.declared.view.Refusal.TheVariants.{Full, Again, Worn}
use Rattle.atom_words.specs.declared.view.View.{View}
use Rattle.atom_words.specs.declared.kind.Kind.{Kind}
use Rattle.atom_words.specs.declared.kind.Kind.TheVariants.{Raise, Risen, Reserve, Measure, PutWord, Fill, PutLink, Link, Validate, Release, Load, Refused, Start, Read, Next, Skip, Hold, Keep, Fix, StartPass, EndPass, Refuse, Barred, Ask, Protect, Fetch, Register, Unregister, Begin, Mark, Scan, Ack, Check, ToSweep, Look, Spell, Condemn, PassOver, Behind, UnlinkAt, UnlinkHead, Note, Bump, Past, Free, End, Aim, Sound, Close, Emptied, Pick, MoveHead, MoveLink, LeaveHead, LeaveLink, PublishRow, Publish}

-- the word with its mark set
abbrev pub marked : ℕ → ℕ
marked w = w + 4 * (1 - mark_of w)

-- the word with its mark cleared
abbrev pub unmarked : ℕ → ℕ
unmarked w = w - 4 * mark_of w

-- a slot that was just reserved
abbrev pub fresh : ℕ → Own
fresh k = record { slot = k; text = []; bound = 32; link = None; linked = false }

abbrev pub measuring : ℕ → Own → Own
measuring x o = record o { bound = filled x }

abbrev pub putting : ℕ → Own → Own
putting x o = record o { text = o.text ++ x ∷ [] }

-- its other words are 0
abbrev pub filling_up : Own → Own
filling_up o = record o { text = padded o.text }

-- as many words are put as another text has left, or all
abbrev pub IsCovered : Own → Type 0
IsCovered o = (o.bound ≤ length o.text) ⊎ (length o.text ≡ 32)

abbrev pub linking : ℕ → Own → Own
linking l o = record o { link = Some l }

-- no word of the text is put, or all are, with zeros behind those that it fills
abbrev pub IsLeft : List ℕ → Type 0
IsLeft text = (text ≡ []) ⊎ ((length text ≡ 32) × Formed text)

abbrev pub linked_own : Own → Own
linked_own o = record o { linked = true }

abbrev pub held_own : Option Own → List Held
held_own None = []
held_own (Some o) = record { slot = o.slot; text = o.text } ∷ []

-- the slot at a walk's hand, with what was read of its text
abbrev pub at_hand : Walk → Held
at_hand w = record { slot = w.place - 1; text = w.part }

-- the same, where what was read is all that the text fills
abbrev pub whole_at_hand : Walk → Held
whole_at_hand w = record { slot = w.place - 1; text = padded w.part }

abbrev pub held_at_hand : Option Walk → List Held
held_at_hand None = []
held_at_hand (Some w) = whole_at_hand w ∷ []

-- the words are those that the text fills, or more
abbrev pub IsWhole : List ℕ → Type 0
IsWhole part = (0 < length part) × (filled (get_or part 0 0) ≤ length part)

-- they are so, or all 32 words of a text
abbrev pub IsAll : List ℕ → Type 0
IsAll part = IsWhole part ⊎ (length part ≡ 32)

abbrev pub starting : ℕ → ℕ → Walk
starting h x = record { head = h; word = x; place = first_of x; part = []; guarded = false; dead = false; lost = false; skipped = 0; seen = [] }

abbrev pub reading : ℕ → Walk → Walk
reading x w = record w { part = w.part ++ x ∷ [] }

abbrev pub going_on : ℕ → Walk → Walk
going_on x w = record w { place = x; part = []; guarded = false; dead = false; seen = w.seen ++ at_hand w ∷ [] }

abbrev pub skipping : ℕ → Walk → Walk
skipping x w = record w { place = x; part = []; guarded = false; dead = false; skipped = w.skipped + 1 }

-- the slot k was found with the word x as its mark was set: of the slot at hand the walk learns whether it is valid, or dying, or free
abbrev pub guarding : ℕ → ℕ → Walk → Walk
guarding k x w = record w {
  guarded = w.guarded || ((w.place == k + 1) && (state_of x == 3));
  dead = w.dead || ((w.place == k + 1) && (state_of x == 2));
  lost = w.lost || ((w.place == k + 1) && (state_of x == 0));
}

-- The seat may hold slots: it is an engine's, or engines' seats are still to be dealt from it
abbrev pub Sitting : View → Type 0
Sitting v = (v.cycle.engine ≢ 0) ⊎ (0 < v.undealt)

-- how many heads, from the first on, are known to have risen, after the head h has
abbrev pub rising : ℕ → ℕ → ℕ
rising h n = if h == n then n + 1 else n

-- the keeper's count and text of a slot
abbrev pub counted : List Counted → ℕ → Counted
counted cs k = get_or cs k uncounted

abbrev pub once_more : Held → List Counted → List Counted
once_more a cs = set cs a.slot (record { count = (counted cs a.slot).count + 1; text = a.text })

abbrev pub once_less : ℕ → List Counted → List Counted
once_less k cs = set cs k (record { count = (counted cs k).count - 1; text = (counted cs k).text })

abbrev pub held_counted : ℕ → Option (List Counted) → List Held
held_counted k None = []
held_counted k (Some cs) = record { slot = k; text = (counted cs k).text } ∷ []

-- A pass goes on where the slot k, which was not free, follows the last one that it counted
abbrev pub next_first : ℕ → ℕ → ℕ → ℕ
next_first k first counted = if counted == 0 then k else first

abbrev pub next_counted : ℕ → ℕ → ℕ → ℕ → ℕ
next_counted slots k first counted = if counted == 0 then 1 else (if nat_lt counted slots && (k == (first + counted) % slots) then counted + 1 else counted)

abbrev pub counting : ℕ → ℕ → Passing → Passing
counting slots k p = record p { first = next_first k p.first p.counted; counted = next_counted slots k p.first p.counted }

-- what a pass that ended at the epoch word x is answered with
abbrev pub full_pass : View → ℕ → Passing → Pass
full_pass v x p = record { counted = p.counted; seat = v.cycle.engine; began = p.began; ended = x }

abbrev pub full : View → ℕ → Option Passing → List Refusal
full v x None = []
full v x (Some p) = if p.counted == v.size.slots then Full (full_pass v x p) ∷ [] else []

-- the head word with its version raised
abbrev pub raised : ℕ → ℕ → ℕ
raised start w = head_word (first_of w) (closed_of w) start

-- an engine that has read that the cycle marks, and scans until it acknowledges
abbrev pub Scanning : View → Type 0
Scanning v = (v.cycle.engine ≢ 0) × (v.cycle.acked < v.cycle.scanned_at)

abbrev pub marking : ℕ → Cycling → Cycling
marking epoch c = record c { scanned_at = epoch; scanned = [] }

abbrev pub scanning : ℕ → Cycling → Cycling
scanning k c = record c { scanned = c.scanned ++ k ∷ [] }

abbrev pub acknowledging : Cycling → Cycling
acknowledging c = record c { acked = c.scanned_at }

-- the collector begins a cycle, finds that one engine more has acknowledged, and goes over to the sweep
abbrev pub beginning : Sweeping → Sweeping
beginning y = record y { word = epoch_word 1 (epoch_of y.word + 1); checked = 0 }

abbrev pub checking : Sweeping → Sweeping
checking y = record y { checked = y.checked + 1 }

abbrev pub turning : Sweeping → Sweeping
turning y = record y { word = epoch_word 2 (epoch_of y.word); cursor = 0; sure = false; text = [] }

-- The collector sweeps
abbrev pub Sweeps : View → Sweeping → Type 0
Sweeps v y = (v.sweep ≡ Some y) × (phase_of y.word ≡ 2)

-- it has condemned the slot that the sweep has come to, which is still in its chain; or which is taken out
abbrev pub Dying : View → Sweeping → Type 0
Dying v y = Sweeps v y × (y.dying ≡ y.cursor + 1) × (y.unlinked ≡ false)

abbrev pub Unlinked : View → Sweeping → Type 0
Unlinked v y = Sweeps v y × (y.dying ≡ y.cursor + 1) × (y.unlinked ≡ true)

-- the slot that the sweep has come to was found with the word x; the next word of its text was x
abbrev pub looking : ℕ → Sweeping → Sweeping
looking x y = record y { sure = state_of x == 3; text = [] }

abbrev pub spelling : ℕ → Sweeping → Sweeping
spelling x y = record y { text = y.text ++ x ∷ [] }

-- the head of the walk at hand
abbrev pub head_of : Option Walk → ℕ
head_of None = 0
head_of (Some w) = w.head

-- that slot, which stands in the chain of the head h, is condemned; or it is passed
abbrev pub condemning : ℕ → Sweeping → Sweeping
condemning h y = record y { dying = y.cursor + 1; behind = None; unlinked = false; head = h; noted = None; past = false }

abbrev pub passing : Sweeping → Sweeping
passing y = record y { cursor = y.cursor + 1; sure = false; text = [] }

-- the dying slot's link word is x; it is taken out, where its head's version has not moved, or has; that head's word was x since; its version has moved since
abbrev pub with_behind : ℕ → Sweeping → Sweeping
with_behind x y = record y { behind = Some x }

abbrev pub unlinking : Bool → Sweeping → Sweeping
unlinking moved y = record y { unlinked = true; noted = None; past = moved }

abbrev pub noting : ℕ → Sweeping → Sweeping
noting x y = record y { noted = Some x }

abbrev pub moving_past : Sweeping → Sweeping
moving_past y = record y { past = true }

-- it is free, and the sweep may go on; the sweep has ended
abbrev pub freeing : Sweeping → Sweeping
freeing y = record y { sure = false; text = []; dying = 0; behind = None; unlinked = false; noted = None; past = false }

abbrev pub ending : Sweeping → Sweeping
ending y = record y { word = epoch_word 0 (epoch_of y.word) }

-- a row has 256 heads at least, and the table has its heads
abbrev pub RowOk : Size → ℕ → Type 0
RowOk z row = (256 ≤ 2 ^ row) × (2 ^ row + 2 ^ row ≤ z.heads + 256)

-- The collector, where no cycle is at work
abbrev pub Idle : View → Type 0
Idle v = (y : Sweeping) × (v.sweep ≡ Some y) × (phase_of y.word ≡ 0)

-- all heads of the row in use are closed, and another row is to take its place
abbrev pub MovesChains : View → Type 0
MovesChains v = Idle v × (v.growing.shut ≡ 2 ^ v.growing.row) × (v.growing.aim ≢ v.growing.row)

-- the head of the chain that is to be moved next, or is being moved
abbrev pub old_head : Growing → ℕ
old_head g = row_first g.row + g.moved

abbrev pub aiming : ℕ → Growing → Growing
aiming row g = record g { aim = row; sound = 0 }

abbrev pub sounding : Growing → Growing
sounding g = record g { sound = g.sound + 1 }

abbrev pub closing : Growing → Growing
closing g = record g { shut = g.shut + 1 }

abbrev pub emptying : Growing → Growing
emptying g = record g { moved = g.moved + 1; picked = None }

abbrev pub picking : Held → ℕ → Growing → Growing
picking a before g = record g { picked = Some a; before = before }

-- 0, or 1 more than the slot picked
abbrev pub picked_slot : Option Held → ℕ
picked_slot None = 0
picked_slot (Some a) = a.slot + 1

abbrev pub moving : Growing → Growing
moving g = record g { picked = None; moving = picked_slot g.picked }

abbrev pub leaving : Growing → Growing
leaving g = record g { moving = 0 }

-- the row is in use, and all its heads are closed; and one head fewer is
abbrev pub publishing : ℕ → Growing → Growing
publishing row g = record g { row = row; shut = 2 ^ row; sound = 0; moved = 0; picked = None }

abbrev pub opening : Growing → Growing
opening g = record g { shut = g.shut - 1; sound = 0 }

-- the slot picked is the last of its chain: it is the first, too, or stands behind that other slot
abbrev pub Picks : Walk → Held → ℕ → Type 0
Picks w a before = ((w.seen ≡ a ∷ []) × (first_of w.word ≡ a.slot + 1) × (before ≡ 0)) ⊎ ((front : List Held) × (c : Held) × (w.seen ≡ front ++ c ∷ a ∷ []) × (before ≡ c.slot + 1))

-- THE VIEW AFTER A STEP
abbrev pub view_after : View → Kind → View
view_after v (Raise h) = record v { risen = rising h v.risen; made = v.made ++ Raise h ∷ [] }
view_after v (Risen h x) = record v { risen = rising h v.risen; made = v.made ++ Risen h x ∷ [] }
view_after v (Reserve k) = record v { own = Some (fresh k); made = v.made ++ Reserve k ∷ [] }
view_after v (Measure x) = record v { own = option_map (measuring x) v.own; made = v.made ++ Measure x ∷ [] }
view_after v Fill = record v { own = option_map filling_up v.own; made = v.made ++ Fill ∷ [] }
view_after v (PutWord x) = record v { own = option_map (putting x) v.own; made = v.made ++ PutWord x ∷ [] }
view_after v (PutLink l) = record v { own = option_map (linking l) v.own; made = v.made ++ PutLink l ∷ [] }
view_after v Link = record v { own = option_map linked_own v.own; walk = None; made = v.made ++ Link ∷ [] }
view_after v Validate = record v { own = None; held = v.held ++ held_own v.own; made = v.made ++ Validate ∷ [] }
view_after v Release = record v { own = None; made = v.made ++ Release ∷ [] }
view_after v (Refused k old found) = record v { pass = option_map (counting v.size.slots k) v.pass; made = v.made ++ Refused k old found ∷ [] }
view_after v (Start h x) = record v { walk = Some (starting h x); made = v.made ++ Start h x ∷ [] }
view_after v (Read x) = record v { walk = option_map (reading x) v.walk; made = v.made ++ Read x ∷ [] }
view_after v (Next x) = record v { walk = option_map (going_on x) v.walk; made = v.made ++ Next x ∷ [] }
view_after v (Skip x) = record v { walk = option_map (skipping x) v.walk; made = v.made ++ Skip x ∷ [] }
view_after v Hold = record v { held = v.held ++ held_at_hand v.walk; walk = None; made = v.made ++ Hold ∷ [] }
view_after v (Keep those) = record v { held = those; made = v.made ++ Keep those ∷ [] }
view_after v Fix = record v { held = []; fixed = v.fixed ++ v.held; made = v.made ++ Fix ∷ [] }
view_after v (StartPass x) = record v { pass = Some (record { began = x; first = 0; counted = 0 }); made = v.made ++ StartPass x ∷ [] }
view_after v (EndPass x) = record v { pass = None; refusals = v.refusals ++ full v x v.pass; made = v.made ++ EndPass x ∷ [] }
view_after v (Refuse r) = record v { refusals = v.refusals ++ r ∷ []; made = v.made ++ Refuse r ∷ [] }
view_after v (Barred h x) = record v { refusals = v.refusals ++ Again (Closed x) ∷ []; made = v.made ++ Barred h x ∷ [] }
view_after v (Ask t) = record v { asked = v.asked ++ t ∷ []; made = v.made ++ Ask t ∷ [] }
view_after v (Protect k x) = record v { walk = option_map (guarding k x) v.walk; made = v.made ++ Protect k x ∷ [] }
view_after v (Fetch k) = record v { held = v.held ++ held_counted k v.counts; made = v.made ++ Fetch k ∷ [] }
view_after v (Register a) = record v { counts = option_map (once_more a) v.counts; made = v.made ++ Register a ∷ [] }
view_after v (Unregister k) = record v { counts = option_map (once_less k) v.counts; made = v.made ++ Unregister k ∷ [] }
view_after v Begin = record v { sweep = option_map beginning v.sweep; made = v.made ++ Begin ∷ [] }
view_after v (Mark x those) = record v { held = those; cycle = marking (epoch_of x) v.cycle; made = v.made ++ Mark x those ∷ [] }
view_after v (Scan k) = record v { cycle = scanning k v.cycle; made = v.made ++ Scan k ∷ [] }
view_after v Ack = record v { walk = None; cycle = acknowledging v.cycle; made = v.made ++ Ack ∷ [] }
view_after v (Check e) = record v { sweep = option_map checking v.sweep; made = v.made ++ Check e ∷ [] }
view_after v ToSweep = record v { walk = None; sweep = option_map turning v.sweep; made = v.made ++ ToSweep ∷ [] }
view_after v (Look x) = record v { sweep = option_map (looking x) v.sweep; made = v.made ++ Look x ∷ [] }
view_after v (Spell x) = record v { walk = None; sweep = option_map (spelling x) v.sweep; made = v.made ++ Spell x ∷ [] }
view_after v Condemn = record v { sweep = option_map (condemning (head_of v.walk)) v.sweep; made = v.made ++ Condemn ∷ [] }
view_after v (PassOver x) = record v { sweep = option_map passing v.sweep; made = v.made ++ PassOver x ∷ [] }
view_after v (Behind x) = record v { sweep = option_map (with_behind x) v.sweep; made = v.made ++ Behind x ∷ [] }
view_after v (UnlinkAt q) = record v { walk = None; sweep = option_map (unlinking false) v.sweep; made = v.made ++ UnlinkAt q ∷ [] }
view_after v UnlinkHead = record v { walk = None; sweep = option_map (unlinking true) v.sweep; made = v.made ++ UnlinkHead ∷ [] }
view_after v (Note x) = record v { sweep = option_map (noting x) v.sweep; made = v.made ++ Note x ∷ [] }
view_after v Bump = record v { walk = None; sweep = option_map moving_past v.sweep; made = v.made ++ Bump ∷ [] }
view_after v (Past x) = record v { sweep = option_map moving_past v.sweep; made = v.made ++ Past x ∷ [] }
view_after v Free = record v { sweep = option_map freeing v.sweep; made = v.made ++ Free ∷ [] }
view_after v End = record v { sweep = option_map ending v.sweep; made = v.made ++ End ∷ [] }
view_after v (Aim row) = record v { walk = None; growing = aiming row v.growing; made = v.made ++ Aim row ∷ [] }
view_after v (Sound x) = record v { walk = None; growing = sounding v.growing; made = v.made ++ Sound x ∷ [] }
view_after v (Close h) = record v { walk = None; growing = closing v.growing; made = v.made ++ Close h ∷ [] }
view_after v Emptied = record v { walk = None; growing = emptying v.growing; made = v.made ++ Emptied ∷ [] }
view_after v (Pick a before) = record v { walk = None; growing = picking a before v.growing; made = v.made ++ Pick a before ∷ [] }
view_after v (MoveHead h) = record v { walk = None; growing = moving v.growing; made = v.made ++ MoveHead h ∷ [] }
view_after v (MoveLink q) = record v { walk = None; growing = moving v.growing; made = v.made ++ MoveLink q ∷ [] }
view_after v (LeaveHead h) = record v { walk = None; growing = leaving v.growing; made = v.made ++ LeaveHead h ∷ [] }
view_after v (LeaveLink q) = record v { walk = None; growing = leaving v.growing; made = v.made ++ LeaveLink q ∷ [] }
view_after v (PublishRow row) = record v { walk = None; growing = publishing row v.growing; made = v.made ++ PublishRow row ∷ [] }
view_after v (Publish h) = record v { walk = None; growing = opening v.growing; made = v.made ++ Publish h ∷ [] }
view_after v kind = record v { made = v.made ++ kind ∷ [] }

-- the view after several steps
abbrev pub after : View → List Kind → View
after v [] = v
after v (kind ∷ kinds) = after (view_after v kind) kinds

-- A walk went to the end of the chain of the text's bucket, and saw the text in no slot
abbrev pub Ended : ℕ → Own → Walk → Type 0
Ended row o w = (bucket row o.text ≡ w.head) × (w.place ≡ 0) × ((i : ℕ) (a : Held) → get_elem? w.seen i ≡ some a → a.text ≢ take (length a.text) o.text)

-- A refusal's cause, as a step finds it; of a slot that is reserved, as the step just before found it. A closed head is a kind of its own, which names the head
abbrev pub Shows : Size → Board → View → Refusal → Type 0
Shows z b v (Full p) = ⊥
Shows z b v (Again (Moved old new)) = (w : Walk) × (v.walk ≡ Some w) × (w.word ≡ old) × (w.head < z.heads) × (head b w.head ≡ new) × (version_of new ≢ version_of old)
Shows z b v (Again (Pending k x)) = (w : Walk) × (v.walk ≡ Some w) × (w.place ≡ k + 1) × (k < z.slots) × (state_of x ≡ 1) × ((o : Own) → v.own ≡ Some o → o.slot ≢ k) × ((before : List Kind) × (v.made ≡ before ++ Protect k x ∷ []))
Shows z b v (Again (Closed x)) = ⊥
Shows z b v (Worn w) = (w.head < z.heads) × (head b w.head ≡ w.word) × (worn ≤ version_of w.word) × (w.start ≡ z.start)

-- The seat loaded the slot's word just before, found it free, and the exchange of that word finds another
abbrev pub Lost : Size → View → ℕ → ℕ → ℕ → Type 0
Lost z v k old found = (state_of old ≡ 0) × (found ≢ old) × ((before : List Kind) × (v.made ≡ before ++ Load (atom_at z k) old ∷ []))

-- WHAT A STEP ASKS AND DOES: the seat's step of this kind makes b' of the words b
abbrev pub Does : Size → Board → View → Kind → Board → Type 0
Does z b v (Reserve k) b' = (k < z.slots) × (v.own ≡ None) × (state_of (atom b k) ≡ 0) × (b' ≡ with_atom b k 1)
Does z b v (Measure x) b' = (o : Own) × (v.own ≡ Some o) × (o.linked ≡ false) × (o.text ≡ []) × (slice_index (text_of b.texts o.slot) 0 ≡ x) × (b' ≡ b)
Does z b v Fill b' = (o : Own) × (v.own ≡ Some o) × (o.linked ≡ false) × IsCovered o × (b' ≡ b)
Does z b v (PutWord x) b' = (o : Own) × (v.own ≡ Some o) × (o.linked ≡ false) × (length o.text < 32) × (b' ≡ with_text b (32 * o.slot + length o.text) x)
Does z b v (PutLink l) b' = (o : Own) × (v.own ≡ Some o) × (o.linked ≡ false) × (b' ≡ with_link b o.slot l)
Does z b v Link b' = (o : Own) × (w : Walk) × (v.own ≡ Some o) × (v.walk ≡ Some w) × (o.linked ≡ false) × (length o.text ≡ 32) × Formed o.text × (o.link ≡ Some (first_of w.word)) × Ended b.row o w
    × (head b w.head ≡ w.word) × (closed_of w.word ≡ 0) × (version_of w.word < worn) × (b' ≡ with_head b w.head (head_word (o.slot + 1) 0 (version_of w.word + 1)))
Does z b v Validate b' = (o : Own) × (v.own ≡ Some o) × (o.linked ≡ true) × Sitting v × (b' ≡ with_atom b o.slot 7)
Does z b v Release b' = (o : Own) × (v.own ≡ Some o) × (o.linked ≡ false) × IsLeft o.text × (b' ≡ with_atom b o.slot 0)
Does z b v (Load i x) b' = (slice_index (laid z b) i ≡ x) × (b' ≡ b)
Does z b v (Refused k old found) b' = (k < z.slots) × (atom b k ≡ found) × ((state_of found ≢ 0) ⊎ Lost z v k old found) × (b' ≡ b)
Does z b v (Start h x) b' = (h < z.heads) × (head b h ≡ x) × ((closed_of x ≡ 0) ⊎ ((v.sweep ≢ None) × (v.growing.moving ≡ 0))) × (b' ≡ b)
Does z b v (Read x) b' = (w : Walk) × (k : ℕ) × (v.walk ≡ Some w) × (w.place ≡ k + 1) × (length w.part < 32) × (slice_index (text_of b.texts k) (length w.part) ≡ x) × (b' ≡ b)
Does z b v (Next x) b' = (w : Walk) × (k : ℕ) × (v.walk ≡ Some w) × (w.place ≡ k + 1) × (link b k ≡ x) × (b' ≡ b)
Does z b v (Skip x) b' = (w : Walk) × (k : ℕ) × (v.walk ≡ Some w) × (v.sweep ≡ None) × (w.place ≡ k + 1) × (w.dead ≡ true) × (link b k ≡ x) × (b' ≡ b)
Does z b v Hold b' = (w : Walk) × (k : ℕ) × (v.walk ≡ Some w) × (w.place ≡ k + 1) × (w.guarded ≡ true) × IsWhole w.part × (version_of (head b w.head) ≡ version_of w.word) × Sitting v × (b' ≡ b)
Does z b v (Keep those) b' = ((a : Held) → In a those → In a v.held) × (b' ≡ b)
Does z b v Fix b' = ((a : Held) → In a v.held → a.slot < 256) × (b' ≡ b)
Does z b v (StartPass x) b' = (b.epoch ≡ x) × (b' ≡ b)
Does z b v (EndPass x) b' = (p : Passing) × (v.pass ≡ Some p) × (b.epoch ≡ x) × (b' ≡ b)
Does z b v (Refuse r) b' = Shows z b v r × (b' ≡ b)
Does z b v (Barred h x) b' = (h < z.heads) × (head b h ≡ x) × (closed_of x ≢ 0) × (b' ≡ b)
Does z b v (Ask t) b' = b' ≡ b
Does z b v (Protect k x) b' = (k < z.slots) × (atom b k ≡ x) × (b' ≡ with_atom b k (marked x))
Does z b v (Fetch k) b' = (cs : List Counted) × (v.counts ≡ Some cs) × (k < z.slots) × (0 < (counted cs k).count) × Sitting v × (b' ≡ with_atom b k (marked (atom b k)))
Does z b v (Register a) b' = (cs : List Counted) × (v.counts ≡ Some cs) × (In a v.held ⊎ In a v.fixed) × ((counted cs a.slot).count < 2305843009213693951) × (b' ≡ with_atom b a.slot (atom b a.slot + 8))
Does z b v (Unregister k) b' = (cs : List Counted) × (v.counts ≡ Some cs) × (k < z.slots) × (0 < (counted cs k).count) × (b' ≡ with_atom b k (atom b k - 8))
Does z b v (Raise h) b' = (h < z.heads) × (0 < v.undealt) × (closed_of (head b h) ≡ 0) × (version_of (head b h) < z.start) × (b' ≡ with_head b h (raised z.start (head b h)))
Does z b v (Risen h x) b' = (h < z.heads) × (head b h ≡ x) × (z.start ≤ version_of x) × (b' ≡ b)
Does z b v Begin b' = (y : Sweeping) × (v.sweep ≡ Some y) × (phase_of y.word ≡ 0) × (epoch_of y.word < 4611686018427387903) × (v.growing.shut ≡ 0) × (b' ≡ with_epoch b (epoch_word 1 (epoch_of y.word + 1)))
Does z b v (Mark x those) b' = (v.cycle.engine ≢ 0) × (b.epoch ≡ x) × (phase_of x ≡ 1) × (v.cycle.acked < epoch_of x) × ((a : Held) → In a those → In a v.held) × (b' ≡ b)
Does z b v (Scan k) b' = Scanning v × (a : Held) × (In a v.held ⊎ In a v.fixed) × (a.slot ≡ k) × (b' ≡ with_atom b k (marked (atom b k)))
Does z b v Ack b' = Scanning v × ((a : Held) → In a v.held → In a.slot v.cycle.scanned) × (b' ≡ with_ack b (v.cycle.engine - 1) v.cycle.scanned_at)
Does z b v (Check e) b' = (y : Sweeping) × (v.sweep ≡ Some y) × (phase_of y.word ≡ 1) × (e ≡ y.checked) × (e < z.engines) × (slice_index b.acks e ≡ epoch_of y.word) × (b' ≡ b)
Does z b v ToSweep b' = (y : Sweeping) × (v.sweep ≡ Some y) × (phase_of y.word ≡ 1) × (y.checked ≡ z.engines) × (b' ≡ with_epoch b (epoch_word 2 (epoch_of y.word)))
Does z b v (Look x) b' = (y : Sweeping) × Sweeps v y × (y.dying ≡ 0) × (y.cursor < z.slots) × (atom b y.cursor ≡ x) × (b' ≡ b)
Does z b v (Spell x) b' = (y : Sweeping) × Sweeps v y × (y.dying ≡ 0) × (y.sure ≡ true) × (length y.text < 32) × (slice_index (text_of b.texts y.cursor) (length y.text) ≡ x) × (b' ≡ b)
Does z b v Condemn b' = (y : Sweeping) × (w : Walk) × Sweeps v y × (v.walk ≡ Some w) × (y.dying ≡ 0) × (256 ≤ y.cursor) × (w.place ≡ y.cursor + 1) × (version_of w.word < last) × (atom b y.cursor ≡ 3) × (b' ≡ with_atom b y.cursor 2)
Does z b v (PassOver x) b' = (y : Sweeping) × Sweeps v y × (y.dying ≡ 0) × (y.cursor < z.slots) × (atom b y.cursor ≡ x) × (b' ≡ with_atom b y.cursor (unmarked x))
Does z b v (Behind x) b' = (y : Sweeping) × Dying v y × (link b y.cursor ≡ x) × (b' ≡ b)
Does z b v (UnlinkAt q) b' = (y : Sweeping) × (w : Walk) × (x : ℕ) × Dying v y × (v.walk ≡ Some w) × (w.place ≡ y.cursor + 1) × (y.behind ≡ Some x) × ((before : List Held) × (a : Held) × (w.seen ≡ before ++ a ∷ []) × (a.slot ≡ q)) × (b' ≡ with_link b q x)
Does z b v UnlinkHead b' = (y : Sweeping) × (w : Walk) × (x : ℕ) × Dying v y × (v.walk ≡ Some w) × (first_of w.word ≡ y.cursor + 1) × (y.behind ≡ Some x) × (head b w.head ≡ w.word) × (b' ≡ with_head b w.head (head_word x (closed_of w.word) (version_of w.word + 1)))
Does z b v (Note x) b' = (y : Sweeping) × Unlinked v y × (head b y.head ≡ x) × (b' ≡ b)
Does z b v Bump b' = (y : Sweeping) × (x : ℕ) × Unlinked v y × (y.past ≡ false) × (y.noted ≡ Some x) × (head b y.head ≡ x) × (b' ≡ with_head b y.head (head_word (first_of x) (closed_of x) (version_of x + 1)))
Does z b v (Past x) b' = (y : Sweeping) × (n : ℕ) × Unlinked v y × (y.noted ≡ Some n) × (head b y.head ≡ x) × (version_of n < version_of x) × (b' ≡ b)
Does z b v Free b' = (y : Sweeping) × Unlinked v y × (y.past ≡ true) × (b' ≡ with_atom b y.cursor 0)
Does z b v End b' = (y : Sweeping) × Sweeps v y × (y.dying ≡ 0) × (y.cursor ≡ z.slots) × (b' ≡ with_epoch b (epoch_word 0 (epoch_of y.word)))
Does z b v (Aim row) b' = Idle v × (v.growing.shut ≡ 0) × RowOk z row × (b' ≡ b)
Does z b v (Sound x) b' = Idle v × (0 < v.growing.shut) × (v.growing.aim ≢ v.growing.row) × (v.growing.sound < 2 ^ v.growing.aim) × (head b (row_first v.growing.aim + v.growing.sound) ≡ x) × (version_of x < worn) × (b' ≡ b)
Does z b v (Close h) b' = Idle v × (v.growing.shut < 2 ^ v.growing.row) × (h ≡ row_first v.growing.row + v.growing.shut) × (closed_of (head b h) ≡ 0) × (version_of (head b h) < worn) × (b' ≡ with_head b h (head_word (first_of (head b h)) 1 (version_of (head b h) + 1)))
Does z b v Emptied b' = MovesChains v × (v.growing.moving ≡ 0) × (v.growing.moved < 2 ^ v.growing.row) × (first_of (head b (old_head v.growing)) ≡ 0) × (b' ≡ b)
Does z b v (Pick a before) b' = MovesChains v × (w : Walk) × (v.growing.moving ≡ 0) × (v.growing.moved < 2 ^ v.growing.row) × (v.walk ≡ Some w) × (w.head ≡ old_head v.growing) × (w.place ≡ 0) × (length a.text ≡ 32) × Picks w a before × (b' ≡ b)
Does z b v (MoveHead h) b' = MovesChains v × (a : Held) × (v.growing.moving ≡ 0) × (v.growing.picked ≡ Some a) × (h ≡ bucket v.growing.aim a.text) × (first_of (head b h) ≡ 0) × (b' ≡ with_head b h (head_word (a.slot + 1) 1 (version_of (head b h))))
Does z b v (MoveLink q) b' = MovesChains v × (a : Held) × (w : Walk) × (v.growing.moving ≡ 0) × (v.growing.picked ≡ Some a) × (v.walk ≡ Some w) × (w.head ≡ bucket v.growing.aim a.text) × (w.place ≡ 0)
    × ((front : List Held) × (c : Held) × (w.seen ≡ front ++ c ∷ []) × (c.slot ≡ q)) × (b' ≡ with_link b q (a.slot + 1))
Does z b v (LeaveHead h) b' = MovesChains v × (v.growing.moving ≢ 0) × (v.growing.before ≡ 0) × (h ≡ old_head v.growing) × (b' ≡ with_head b h (head_word 0 1 (version_of (head b h))))
Does z b v (LeaveLink q) b' = MovesChains v × (v.growing.moving ≢ 0) × (v.growing.before ≡ q + 1) × (b' ≡ with_link b q 0)
Does z b v (PublishRow row) b' = MovesChains v × (v.growing.moving ≡ 0) × (v.growing.moved ≡ 2 ^ v.growing.row) × (row ≡ v.growing.aim) × (v.growing.sound ≡ 2 ^ v.growing.aim) × (b' ≡ with_row b row)
Does z b v (Publish h) b' = Idle v × (0 < v.growing.shut) × ((v.growing.aim ≡ v.growing.row) ⊎ (v.growing.shut < 2 ^ v.growing.row)) × (h + 1 ≡ row_first v.growing.row + v.growing.shut) × (version_of (head b h) < last)
    × (b' ≡ with_head b h (head_word (first_of (head b h)) 0 (version_of (head b h) + 1)))
Does z b v kind b' = ⊥
