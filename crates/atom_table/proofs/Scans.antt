-- The view over the steps of a cycle.
use Rattle.std.proofs.Common.{◌≡◌, ℕ, ◌+◌, ◌<◌, Bool, true, false, List, [], ◌∷◌, ◌++◌, length, get_or, refl, sym, ap, ◌∙◌, subst, inl, inr, ⊎_elim, Option, Some, None, Ok, ◌≤◌, ◌-◌, ◌*◌, option_map, arith}
use Rattle.std.specs.Prelude.{◌==◌, ◌||◌, if◌then◌else◌, nat_lt}
use Rattle.std.specs.List.{list_any}
use Rattle.std.specs.Option.{is_some}
use Rattle.std.proofs.lemmas.Bool.{cases_Bool, eq-eqb, eqb-true}
use mathlib.Core.Option.{some}
use Rattle.atom_words.specs.Layout.{epoch_word, phase_of, epoch_of}
use Rattle.atom_words.specs.Board.{ack_at}
use Rattle.atom_words.specs.Chains.{In}
use Rattle.atom_words.specs.Kinds.{beginning, turning, ending, Sweeps, view_after, after}
use Rattle.atom_words.specs.Seats.{seen, Same}
use Rattle.atom_words.specs.declared.size.Size.{Size}
use Rattle.atom_words.specs.declared.view.Held.{Held}
use Rattle.atom_words.specs.declared.view.Sweeping.{Sweeping}
use Rattle.atom_words.specs.declared.view.View.{View}
use Rattle.atom_words.specs.declared.words.Words.{Words}
use Rattle.atom_words.specs.declared.words.AtomSeat.{AtomSeat}
use Rattle.atom_words.specs.declared.kind.Kind.{Kind}
use Rattle.atom_words.specs.declared.kind.Kind.TheVariants.{Load, Scan, Protect, Check, ToSweep, End}
use Rattle.atom_words.proofs.Slices.{some_same, in_none, in_later, in_cases, or_at, or_true}
use Rattle.atom_table.specs.Holding.{Sits}
use Rattle.atom_table.specs.Naming.{those}
use Rattle.bucket_rows.specs.Touches.{has_slot, touch}
use Rattle.bucket_rows.specs.Cycles.{Knows, BeginsBy, checks, ChecksAll}
use Rattle.bucket_rows.specs.Treads.{AtSlot}
use Rattle.bucket_rows.specs.SweepKinds.{Untouched}
use Rattle.bucket_rows.specs.declared.cycles.Checked.{Checked}
use Rattle.bucket_rows.specs.declared.cycles.Checked.TheVariants.{All, NotYet}
use Rattle.bucket_rows.proofs.Checks.{after_append, checks_keep, checks_know}
use Rattle.atom_table.specs.Collecting.{scans, word_known, count_known, cursor_known, dying_known, out_known, Collects}
use Rattle.atom_table.proofs.Naming.{only_those}
use Rattle.atom_table.proofs.Settling.{sound_from}

-- SCANS
pub item_in : (l : List ℕ) (i x : ℕ) → i < length l → x ≡ get_or l i x → In x l
item_in l i x low is = (i, or_at l i x low ∙ ap some (sym is))

-- what each step leaves holds after all of them
one_more : (Q : View → Type 0) (b : Bool) (m : Kind) (ms : List Kind) (u : View) → (Q u → Q (view_after u m)) → ((y : View) → Q y → Q (after y ms)) → Q u → Q (after u (if b then m ∷ ms else ms))
one_more Q true m ms u step rest q = rest (view_after u m) (step q)
one_more Q false m ms u step rest q = rest u q

touch_leaves : (Q : View → Type 0) → ((y : View) (k : ℕ) → Q y → Q (view_after y (Scan k))) → ((y : View) (k x : ℕ) → Q y → Q (view_after y (Protect k x))) → (u v : View) (k x : ℕ) → Q u → Q (view_after u (touch v k x))
touch_leaves Q scan protect u v k x q = go (has_slot k v.held || has_slot k v.fixed)
  where
    go : (b : Bool) → Q (view_after u (if b then Scan k else Protect k x))
    go true = scan u k q
    go false = protect u k x q

pub scans_leave : (Q : View → Type 0) → ((y : View) (k : ℕ) → Q y → Q (view_after y (Scan k))) → ((y : View) (k x : ℕ) → Q y → Q (view_after y (Protect k x))) → (u v : View) (ks xs : List ℕ) → Q u → Q (after u (scans v ks xs))
scans_leave Q scan protect u v [] xs q = q
scans_leave Q scan protect u v (k ∷ ks) [] q = q
scans_leave Q scan protect u v (k ∷ ks) (x ∷ xs) q = one_more Q (nat_lt k v.size.slots) (touch v k x) (scans v ks xs) u (touch_leaves Q scan protect u v k x) (λ y r. scans_leave Q scan protect y v ks xs r) q

pub scans_keep : {A : Type 0} (f : View → A) → ((v : View) (k : ℕ) → f (view_after v (Scan k)) ≡ f v) → ((v : View) (k x : ℕ) → f (view_after v (Protect k x)) ≡ f v) → (u v : View) (ks xs : List ℕ) → f (after u (scans v ks xs)) ≡ f u
scans_keep f scan protect u v ks xs = scans_leave (λ y. f y ≡ f u) (λ y k e. scan y k ∙ e) (λ y k x e. protect y k x ∙ e) u v ks xs refl

both_front : (b : Bool) (m : Kind) (ls bs cs : List Kind) → ls ≡ bs ++ cs → (if b then m ∷ ls else ls) ≡ (if b then m ∷ bs else bs) ++ cs
both_front true m ls bs cs e = ap (λ l. m ∷ l) e
both_front false m ls bs cs e = e

pub scans_more : (v : View) (ks xs : List ℕ) (k x : ℕ) → length xs ≡ length ks → scans v (ks ++ k ∷ []) (xs ++ x ∷ []) ≡ scans v ks xs ++ scans v (k ∷ []) (x ∷ [])
scans_more v [] [] k x e = refl
scans_more v [] (y ∷ xs) k x e = absurd (omega (arith, e))
scans_more v (q ∷ ks) [] k x e = absurd (omega (arith, e))
scans_more v (q ∷ ks) (y ∷ xs) k x e = both_front (nat_lt q v.size.slots) (touch v q y) (scans v (ks ++ k ∷ []) (xs ++ x ∷ [])) (scans v ks xs) (scans v (k ∷ []) (x ∷ [])) (scans_more v ks xs k x (omega (arith, e)))

-- the steps depend on what is held and fixed, and on how many slots there are
pub scans_same : (u v : View) (k x : ℕ) → u.held ≡ v.held → u.fixed ≡ v.fixed → u.size ≡ v.size → scans u (k ∷ []) (x ∷ []) ≡ scans v (k ∷ []) (x ∷ [])
scans_same u v k x held fixed size =
    ap (λ (hs : List Held). if nat_lt k u.size.slots then (if has_slot k hs || has_slot k u.fixed then Scan k else Protect k x) ∷ [] else []) held
    ∙ (ap (λ (hs : List Held). if nat_lt k u.size.slots then (if has_slot k v.held || has_slot k hs then Scan k else Protect k x) ∷ [] else []) fixed
    ∙ ap (λ (z : Size). if nat_lt k z.slots then touch v k x ∷ [] else []) size)

-- one more step after the others
pub scanned_more : (v u w : View) (ks xs : List ℕ) (k x : ℕ) → length xs ≡ length ks → u ≡ after v (scans v ks xs) → w ≡ after u (scans u (k ∷ []) (x ∷ []))
    → w ≡ after v (scans v (ks ++ k ∷ []) (xs ++ x ∷ []))
scanned_more v u w ks xs k x long to next =
    let one = scans v (k ∷ []) (x ∷ []) in
    let same : scans u (k ∷ []) (x ∷ []) ≡ one =
    scans_same u v k x (ap (λ (y : View). y.held) to ∙ scans_keep (λ (y : View). y.held) (λ _ _. refl) (λ _ _ _. refl) v v ks xs)
    (ap (λ (y : View). y.fixed) to ∙ scans_keep (λ (y : View). y.fixed) (λ _ _. refl) (λ _ _ _. refl) v v ks xs)
    (ap (λ (y : View). y.size) to ∙ scans_keep (λ (y : View). y.size) (λ _ _. refl) (λ _ _ _. refl) v v ks xs) in
    next ∙ (ap (after u) same ∙ (ap (λ (y : View). after y one) to ∙ (sym (after_append v (scans v ks xs) one) ∙ ap (after v) (sym (scans_more v ks xs k x long)))))

pub in_front : {A : Type 0} (x : A) (xs ys : List A) → In x xs → In x (xs ++ ys)
in_front x [] ys i = absurd (in_none x i)
in_front x (y ∷ xs) ys i = ⊎_elim (λ (e : y ≡ x). subst (λ z. In z (y ∷ (xs ++ ys))) e (0, refl)) (λ (j : In x xs). in_later x y (xs ++ ys) (in_front x xs ys j)) (in_cases x y xs i)

pub in_back : {A : Type 0} (x : A) (xs ys : List A) → In x ys → In x (xs ++ ys)
in_back x [] ys i = i
in_back x (y ∷ xs) ys i = in_later x y (xs ++ ys) (in_back x xs ys i)

-- what is scanned stays scanned, and each slot of the list that is held is
scans_stay : (u v : View) (ks xs : List ℕ) (k : ℕ) → In k u.cycle.scanned → In k (after u (scans v ks xs)).cycle.scanned
scans_stay u v ks xs k = scans_leave (λ y. In k y.cycle.scanned) (λ y q i. in_front k y.cycle.scanned (q ∷ []) i) (λ y q x i. i) u v ks xs

scan_first : (u v : View) (ks xs : List ℕ) (k x : ℕ) → (nat_lt k v.size.slots) ≡ true → (has_slot k v.held || has_slot k v.fixed) ≡ true → In k (after u (scans v (k ∷ ks) (x ∷ xs))).cycle.scanned
scan_first u v ks xs k x low held =
    subst (λ (b : Bool). In k (after u (if b then touch v k x ∷ scans v ks xs else scans v ks xs)).cycle.scanned) (sym low)
    (subst (λ (b : Bool). In k (after (view_after u (if b then Scan k else Protect k x)) (scans v ks xs)).cycle.scanned) (sym held)
    (scans_stay (view_after u (Scan k)) v ks xs k (in_back k u.cycle.scanned (k ∷ []) (0, refl))))

scan_later : (b : Bool) (m : Kind) (ms : List Kind) (u : View) (k : ℕ) → ((y : View) → In k (after y ms).cycle.scanned) → In k (after u (if b then m ∷ ms else ms)).cycle.scanned
scan_later true m ms u k rest = rest (view_after u m)
scan_later false m ms u k rest = rest u

pub scans_all : (u v : View) (ks xs : List ℕ) (k : ℕ) → length xs ≡ length ks → In k ks → nat_lt k v.size.slots ≡ true → (has_slot k v.held || has_slot k v.fixed) ≡ true → In k (after u (scans v ks xs)).cycle.scanned
scans_all u v [] xs k long i low held = absurd (in_none k i)
scans_all u v (q ∷ ks) [] k long i low held = absurd (omega (arith, long))
scans_all u v (q ∷ ks) (x ∷ xs) k long i low held = ⊎_elim
    (λ (e : q ≡ k). subst (λ (j : ℕ). In k (after u (scans v (j ∷ ks) (x ∷ xs))).cycle.scanned) (sym e) (scan_first u v ks xs k x low held))
    (λ (j : In k ks). scan_later (nat_lt q v.size.slots) (touch v q x) (scans v ks xs) u k (λ y. scans_all y v ks xs k (omega (arith, long)) j low held)) (in_cases k q ks i)

-- a slot that is held is found among those held
pub slot_found : (h : Held) (hs : List Held) → In h hs → has_slot h.slot hs ≡ true
slot_found h [] i = absurd (in_none h i)
slot_found h (g ∷ hs) i = ⊎_elim
    (λ (e : g ≡ h). ap (λ (b : Bool). b || has_slot h.slot hs) (eq-eqb g.slot h.slot (ap (λ (x : Held). x.slot) e)))
    (λ (j : In h hs). ap (λ (b : Bool). (g.slot == h.slot) || b) (slot_found h hs j) ∙ or_right_true (g.slot == h.slot)) (in_cases h g hs i)
  where
    or_right_true : (b : Bool) → (b || true) ≡ true
    or_right_true true = refl
    or_right_true false = refl

-- THE SLOTS THAT ARE HELD ON
any_in : (live : List ℕ) (n : ℕ) → list_any (λ k. k == n) live ≡ true → In n live
any_in [] n e = cc
any_in (k ∷ live) n e = ⊎_elim (λ (t : (k == n) ≡ true). subst (λ (j : ℕ). In j (k ∷ live)) (eqb-true k n t) (0, refl)) (λ (t : list_any (λ j. j == n) live ≡ true). in_later n k live (any_in live n t)) (or_true (k == n) (list_any (λ j. j == n) live) e)

in_any : (live : List ℕ) (n : ℕ) → In n live → list_any (λ k. k == n) live ≡ true
in_any [] n i = absurd (in_none n i)
in_any (k ∷ live) n i = elim (cases_Bool (k == n)) [
  | inl t ↦ ap (λ (b : Bool). b || list_any (λ j. j == n) live) t
  | inr f ↦ ap (λ (b : Bool). b || list_any (λ j. j == n) live) f
      ∙ ⊎_elim (λ (e : k ≡ n). absurd (let t : (k == n) ≡ true = eq-eqb k n e in let no : true ≡ false = sym t ∙ f in cc)) (λ (j : In n live). in_any live n j) (in_cases n k live i)
]

-- each is in the list
pub those_live : (live : List ℕ) (hs : List Held) (a : Held) → In a (those live hs) → In a.slot live
those_live live [] a i = absurd (in_none a i)
those_live live (b ∷ hs) a i = elim (cases_Bool (list_any (λ k. k == b.slot) live)) [
  | inl e ↦ ⊎_elim (λ (is : b ≡ a). subst (λ (x : Held). In x.slot live) is (any_in live b.slot e)) (λ (j : In a (those live hs)). those_live live hs a j) (in_cases a b (those live hs) (subst (In a) (ap (λ (t : Bool). if t then b ∷ those live hs else those live hs) e) i))
  | inr e ↦ those_live live hs a (subst (In a) (ap (λ (t : Bool). if t then b ∷ those live hs else those live hs) e) i)
]

-- and those of the list are among them
pub live_those : (live : List ℕ) (hs : List Held) (a : Held) → In a hs → In a.slot live → In a (those live hs)
live_those live [] a i l = i
live_those live (b ∷ hs) a i l = elim (cases_Bool (list_any (λ k. k == b.slot) live)) [
  | inl e ↦ subst (In a) (sym (ap (λ (t : Bool). if t then b ∷ those live hs else those live hs) e))
      (⊎_elim (λ (is : b ≡ a). subst (λ (x : Held). In x (b ∷ those live hs)) is (0, refl)) (λ (j : In a hs). in_later a b (those live hs) (live_those live hs a j l)) (in_cases a b hs i))
  | inr e ↦ subst (In a) (sym (ap (λ (t : Bool). if t then b ∷ those live hs else those live hs) e))
      (⊎_elim (λ (is : b ≡ a). absurd (let t : list_any (λ k. k == b.slot) live ≡ true = in_any live b.slot (subst (λ (x : Held). In x.slot live) (sym is) l) in let no : true ≡ false = sym t ∙ e in cc)) (λ (j : In a hs). live_those live hs a j l) (in_cases a b hs i))
]

-- A SEAT THAT HOLDS ON TO SOME SLOTS
pub sits_cut : (words : Words) (live : List ℕ) (s r : AtomSeat) → Same s r → (seen r).held ≡ those live (seen s).held → (seen r).fixed ≡ (seen s).fixed → (seen r).size ≡ (seen s).size → (seen r).gone ≡ (seen s).gone → (seen r).own ≡ (seen s).own
    → (seen r).counts ≡ (seen s).counts → Sits words s → Sits words r
sits_cut words live s r same held fixed size gone own counts sits = let v : View = seen s in let w : View = seen r in (
  (same.0 ∙ sits.0.0, size ∙ sits.0.1, gone ∙ sits.0.2),
  own ∙ sits.1,
  sound_from v v w (λ a h. ⊎_elim (λ (i : In a w.held). inl (only_those live v.held a (subst (In a) held i))) (λ (i : In a w.fixed). inr (subst (In a) fixed i)) h) size size (λ cs is. sym counts ∙ is) sits.2 sits.2,
)

-- a seat that holds what it held
pub sits_same : (words : Words) (s r : AtomSeat) → Same s r → (seen r).held ≡ (seen s).held → (seen r).fixed ≡ (seen s).fixed → (seen r).size ≡ (seen s).size → (seen r).gone ≡ (seen s).gone → (seen r).own ≡ (seen s).own
    → (seen r).counts ≡ (seen s).counts → Sits words s → Sits words r
sits_same words s r same held fixed size gone own counts sits = let v : View = seen s in let w : View = seen r in (
  (same.0 ∙ sits.0.0, size ∙ sits.0.1, gone ∙ sits.0.2),
  own ∙ sits.1,
  sound_from v v w (λ a h. ⊎_elim (λ (i : In a w.held). inl (subst (In a) held i)) (λ (i : In a w.fixed). inr (subst (In a) fixed i)) h) size size (λ cs is. sym counts ∙ is) sits.2 sits.2,
)

-- WHAT THE COLLECTOR KNOWS
pub collects_known : (v : View) (word checked cursor : ℕ) → Collects v word checked cursor → (y : Sweeping) × Knows v y × (y.word ≡ word) × (y.checked ≡ checked) × (y.cursor ≡ cursor) × (y.dying ≡ 0) × (y.unlinked ≡ false)
collects_known v word checked cursor c = by v.sweep refl c.0 c.1 c.2 c.4 c.6 c.7
  where
    by : (o : Option Sweeping) → v.sweep ≡ o → is_some o ≡ true → word_known word o ≡ word → count_known checked o ≡ checked → cursor_known cursor o ≡ cursor → dying_known o ≡ 0 → out_known o ≡ false
        → (y : Sweeping) × Knows v y × (y.word ≡ word) × (y.checked ≡ checked) × (y.cursor ≡ cursor) × (y.dying ≡ 0) × (y.unlinked ≡ false)
    by None e t w n k d u = cc
    by (Some y) e t w n k d u = (y, e, w, n, k, d, u)

pub known_collects : (v : View) (word checked cursor : ℕ) (y : Sweeping) → Knows v y → y.word ≡ word → y.checked ≡ checked → checked ≤ v.size.engines → y.cursor ≡ cursor → cursor ≤ v.size.slots → y.dying ≡ 0 → y.unlinked ≡ false → Collects v word checked cursor
known_collects v word checked cursor y k w n few c low d u = (ap is_some k, ap (word_known word) k ∙ w, ap (count_known checked) k ∙ n, few, ap (cursor_known cursor) k ∙ c, low, ap dying_known k ∙ d, ap out_known k ∙ u)

pub begun_collects : (v w : View) (e word checked cursor : ℕ) → Collects v word checked cursor → BeginsBy v (Ok e) w → Collects w (1 + 4 * e) 0 cursor
begun_collects v w e word checked cursor c t = let y : Sweeping = t.0 in let k = collects_known v word checked cursor c in let one : k.0 ≡ y = some_same k.0 y v.sweep k.1 t.1 in let size = ap (λ (x : View). x.size.slots) t.5 in
    known_collects w (1 + 4 * e) 0 cursor (beginning y) (ap (λ (x : View). x.sweep) t.5 ∙ ap (option_map beginning) t.1) (let n = t.4 in omega arith) refl (omega arith)
    (ap (λ (q : Sweeping). q.cursor) (sym one) ∙ k.4) (subst (λ (n : ℕ). cursor ≤ n) (sym size) c.5) (ap (λ (q : Sweeping). q.dying) (sym one) ∙ k.5) (ap (λ (q : Sweeping). q.unlinked) (sym one) ∙ k.6)

-- what a check of the engines leaves
pub checked_same : {A : Type 0} (f : View → A) → ((v : View) (e : ℕ) → f (view_after v (Check e)) ≡ f v) → ((v : View) → f (view_after v ToSweep) ≡ f v) → ((v : View) (i x : ℕ) → f (view_after v (Load i x)) ≡ f v)
    → (epoch from : ℕ) (v : View) (r : Checked) (w : View) → ChecksAll epoch from v r w → f w ≡ f v
checked_same f one turn load epoch from v All w t = let n : ℕ = v.size.engines - from in ap f t ∙ (ap f (after_append v (checks from n) (ToSweep ∷ [])) ∙ (turn (after v (checks from n)) ∙ checks_keep f one v from n))
checked_same f one turn load epoch from v (NotYet engine seen) w t = let n : ℕ = t.0 - from in
    ap f t.5 ∙ (ap f (after_append v (checks from n) (Load (ack_at v.size t.0) seen ∷ [])) ∙ (load (after v (checks from n)) (ack_at v.size t.0) seen ∙ checks_keep f one v from n))

pub checked_sits : (words : Words) (epoch from : ℕ) (s r : AtomSeat) (a : Checked) → Same s r → ChecksAll epoch from (seen s) a (seen r) → Sits words s → Sits words r
checked_sits words epoch from s r a same t sits = sits_same words s r same
    (checked_same (λ (y : View). y.held) (λ _ _. refl) (λ _. refl) (λ _ _ _. refl) epoch from (seen s) a (seen r) t)
    (checked_same (λ (y : View). y.fixed) (λ _ _. refl) (λ _. refl) (λ _ _ _. refl) epoch from (seen s) a (seen r) t)
    (checked_same (λ (y : View). y.size) (λ _ _. refl) (λ _. refl) (λ _ _ _. refl) epoch from (seen s) a (seen r) t)
    (checked_same (λ (y : View). y.gone) (λ _ _. refl) (λ _. refl) (λ _ _ _. refl) epoch from (seen s) a (seen r) t)
    (checked_same (λ (y : View). y.own) (λ _ _. refl) (λ _. refl) (λ _ _ _. refl) epoch from (seen s) a (seen r) t)
    (checked_same (λ (y : View). y.counts) (λ _ _. refl) (λ _. refl) (λ _ _ _. refl) epoch from (seen s) a (seen r) t)
    sits

-- what the collector knows afterwards
pub all_collects : (epoch word from cursor n : ℕ) (v w : View) → phase_of word ≡ 1 → v.size.engines ≡ n → Collects v word from cursor → ChecksAll epoch from v All w → Collects w (word + 1) n 0
all_collects epoch word from cursor n v w phase many c t = let k = collects_known v word from cursor c in let few = c.3 in let m : ℕ = v.size.engines - from in let r = checks_know v from m k.0 k.1 in
    let size : w.size ≡ v.size = checked_same (λ (y : View). y.size) (λ _ _. refl) (λ _. refl) (λ _ _ _. refl) epoch from v All w t in let engines : w.size.engines ≡ v.size.engines = ap (λ (z : Size). z.engines) size in
    known_collects w (word + 1) n 0 (turning r.0)
    (ap (λ (x : View). x.sweep) t ∙ (ap (λ (x : View). x.sweep) (after_append v (checks from m) (ToSweep ∷ [])) ∙ ap (option_map turning) r.1))
    (let a = r.2 in let b = k.2 in let same : r.0.word ≡ word = a ∙ b in ap (λ (x : ℕ). epoch_word 2 (epoch_of x)) same ∙ (let plain : epoch_word 2 (epoch_of word) ≡ word + 1 = omega arith in plain))
    (let a = r.3 in let b = k.3 in omega arith) (omega arith) refl (omega arith) (r.5 ∙ k.5) (r.6 ∙ k.6)

pub part_collects : (epoch word from cursor engine x : ℕ) (v w : View) → Collects v word from cursor → ChecksAll epoch from v (NotYet engine x) w → Collects w word (engine - 1) cursor
part_collects epoch word from cursor engine x v w c t = let k = collects_known v word from cursor c in let e : ℕ = t.0 in let past = t.1 in let low = t.2 in let number = t.3 in let m : ℕ = t.0 - from in let r = checks_know v from m k.0 k.1 in
    let size : w.size ≡ v.size = checked_same (λ (y : View). y.size) (λ _ _. refl) (λ _. refl) (λ _ _ _. refl) epoch from v (NotYet engine x) w t in let engines : w.size.engines ≡ v.size.engines = ap (λ (z : Size). z.engines) size in
    known_collects w word (engine - 1) cursor r.0
    (ap (λ (y : View). y.sweep) t.5 ∙ (ap (λ (y : View). y.sweep) (after_append v (checks from m) (Load (ack_at v.size t.0) x ∷ [])) ∙ r.1))
    (r.2 ∙ k.2) (let a = r.3 in let b = k.3 in omega arith) (omega arith) (r.4 ∙ k.4) (subst (λ (z : Size). cursor ≤ z.slots) (sym size) c.5) (r.5 ∙ k.5) (r.6 ∙ k.6)

-- THE SWEEP: the collector at a slot
pub at_slot : (v : View) (word checked cursor : ℕ) → Collects v word checked cursor → phase_of word ≡ 2 → AtSlot cursor v
at_slot v word checked cursor c phase = let k = collects_known v word checked cursor c in (k.0, (k.1, ap phase_of k.2 ∙ phase), k.5, k.6, k.4)

-- after slots were swept the word and the count of engines are the same
pub swept_known : (v w : View) (word checked cursor n : ℕ) → Collects v word checked cursor → Untouched v w → AtSlot n w → (y : Sweeping) × Sweeps w y × (y.dying ≡ 0) × (y.cursor ≡ n) × (y.word ≡ word) × (y.checked ≡ checked) × (y.unlinked ≡ false)
swept_known v w word checked cursor n c u a = let k = collects_known v word checked cursor c in (
  a.0,
  a.1,
  a.2,
  a.4,
  inside (λ (q : Sweeping). q.word) a.0 k.0 (sym (ap (option_map (λ (q : Sweeping). q.word)) a.1.0) ∙ (u.word ∙ ap (option_map (λ (q : Sweeping). q.word)) k.1)) ∙ k.2,
  inside (λ (q : Sweeping). q.checked) a.0 k.0 (sym (ap (option_map (λ (q : Sweeping). q.checked)) a.1.0) ∙ (u.checked ∙ ap (option_map (λ (q : Sweeping). q.checked)) k.1)) ∙ k.3,
  a.3,
)
  where
    inside : (f : Sweeping → ℕ) (x y : Sweeping) → Some (f x) ≡ Some (f y) → f x ≡ f y
    inside f x y e = cc

pub swept_collects : (v w : View) (word checked cursor n : ℕ) → Collects v word checked cursor → Untouched v w → AtSlot n w → n ≤ v.size.slots → Collects w word checked n
swept_collects v w word checked cursor n c u a low = let y = swept_known v w word checked cursor n c u a in
    known_collects w word checked n y.0 y.1.0 y.4 y.5 (subst (λ (z : Size). checked ≤ z.engines) (sym u.size) c.3) y.3 (subst (λ (z : Size). n ≤ z.slots) (sym u.size) low) y.2 y.6

pub ended_collects : (v u w : View) (word checked cursor n : ℕ) → Collects v word checked cursor → Untouched v u → AtSlot n u → n ≤ v.size.slots → phase_of word ≡ 2 → w ≡ after u (End ∷ []) → Collects w (word - 2) checked n
ended_collects v u w word checked cursor n c t a low phase is = let y = swept_known v u word checked cursor n c t a in let size : w.size ≡ v.size = ap (λ (x : View). x.size) is ∙ t.size in
    known_collects w (word - 2) checked n (ending y.0) (ap (λ (x : View). x.sweep) is ∙ ap (option_map ending) y.1.0) (ap (λ (x : ℕ). epoch_word 0 (epoch_of x)) y.4 ∙ (let plain : epoch_word 0 (epoch_of word) ≡ word - 2 = omega arith in plain)) y.5 (subst (λ (z : Size). checked ≤ z.engines) (sym size) c.3) y.3
    (subst (λ (z : Size). n ≤ z.slots) (sym size) low) y.2 y.6

pub swept_sits : (words : Words) (s r : AtomSeat) → Same s r → Untouched (seen s) (seen r) → Sits words s → Sits words r
swept_sits words s r same u = sits_same words s r same u.held u.fixed u.size u.gone u.own u.counts
